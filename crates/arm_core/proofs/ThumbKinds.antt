use Rattle.std.proofs.Common.{ℕ, ◌≡◌, Bool, refl}
use Rattle.arm_words.specs.declared.instructions.Instr.{Instr}
use Rattle.arm_words.specs.declared.instructions.Instr.TheVariants.{ThumbAddSub, ThumbShift, ThumbImmediate, ThumbData, ThumbHigh, ThumbRegisterOffset, ThumbImmediateOffset, ThumbHalfOffset, ThumbStackOffset, ThumbAddress, ThumbAdjustStack, ThumbPushPop, ThumbMultiple}
use Rattle.arm_words.specs.declared.operations.ThumbImmediateOp.{ThumbImmediateOp}
use Rattle.arm_words.specs.declared.operations.ThumbDataOp.{ThumbDataOp}
use Rattle.arm_words.specs.declared.operations.HighOp.{HighOp}
use Rattle.arm_words.specs.declared.operations.ThumbTransferOp.{ThumbTransferOp}
use Rattle.arm_words.specs.declared.parts.Shift.{Shift}
use Rattle.arm_words.specs.declared.parts.ThumbOperand.{ThumbOperand}
use Rattle.arm_core.specs.Thumb.{branch_equivalent, transfer_equivalent, equivalent}

-- what is no load or store is looked for among the branches
pub transfer_else : (i : Instr)
    → ((op : ThumbTransferOp) (rm rn rd : ℕ) → i ≡ ThumbRegisterOffset op rm rn rd → ⊥)
    → ((byte load : Bool) (immed rn rd : ℕ) → i ≡ ThumbImmediateOffset byte load immed rn rd → ⊥)
    → ((load : Bool) (immed rn rd : ℕ) → i ≡ ThumbHalfOffset load immed rn rd → ⊥)
    → ((load : Bool) (rd immed : ℕ) → i ≡ ThumbStackOffset load rd immed → ⊥)
    → ((load extra : Bool) (list : ℕ) → i ≡ ThumbPushPop load extra list → ⊥)
    → ((load : Bool) (rn list : ℕ) → i ≡ ThumbMultiple load rn list → ⊥)
    → transfer_equivalent i ≡ branch_equivalent i
transfer_else (ThumbRegisterOffset op rm rn rd) a b c d e f = absurd (a op rm rn rd refl)
transfer_else (ThumbImmediateOffset byte load immed rn rd) a b c d e f = absurd (b byte load immed rn rd refl)
transfer_else (ThumbHalfOffset load immed rn rd) a b c d e f = absurd (c load immed rn rd refl)
transfer_else (ThumbStackOffset load rd immed) a b c d e f = absurd (d load rd immed refl)
transfer_else (ThumbPushPop load extra list) a b c d e f = absurd (e load extra list refl)
transfer_else (ThumbMultiple load rn list) a b c d e f = absurd (f load rn list refl)
transfer_else _ a b c d e f = refl

-- what is no data processing is looked for among the loads and stores
pub processing_else : (i : Instr)
    → ((subtract : Bool) (operand : ThumbOperand) (rn rd : ℕ) → i ≡ ThumbAddSub subtract operand rn rd → ⊥)
    → ((shift : Shift) (amount rm rd : ℕ) → i ≡ ThumbShift shift amount rm rd → ⊥)
    → ((op : ThumbImmediateOp) (rd immed : ℕ) → i ≡ ThumbImmediate op rd immed → ⊥)
    → ((op : ThumbDataOp) (rm rd : ℕ) → i ≡ ThumbData op rm rd → ⊥)
    → ((op : HighOp) (rm rd : ℕ) → i ≡ ThumbHigh op rm rd → ⊥)
    → ((stack : Bool) (rd immed : ℕ) → i ≡ ThumbAddress stack rd immed → ⊥)
    → ((subtract : Bool) (immed : ℕ) → i ≡ ThumbAdjustStack subtract immed → ⊥)
    → equivalent i ≡ transfer_equivalent i
processing_else (ThumbAddSub subtract operand rn rd) a b c d e f g = absurd (a subtract operand rn rd refl)
processing_else (ThumbShift shift amount rm rd) a b c d e f g = absurd (b shift amount rm rd refl)
processing_else (ThumbImmediate op rd immed) a b c d e f g = absurd (c op rd immed refl)
processing_else (ThumbData op rm rd) a b c d e f g = absurd (d op rm rd refl)
processing_else (ThumbHigh op rm rd) a b c d e f g = absurd (e op rm rd refl)
processing_else (ThumbAddress stack rd immed) a b c d e f g = absurd (f stack rd immed refl)
processing_else (ThumbAdjustStack subtract immed) a b c d e f g = absurd (g subtract immed refl)
processing_else _ a b c d e f g = refl
