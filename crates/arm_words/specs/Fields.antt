use Rattle.std.specs.Prelude.{◌≡◌, ◌<◌, ◌^◌, ◌%◌}
use Rattle.arm_words.specs.Parts.{condition_number}
use Rattle.arm_words.specs.declared.parts.Operand.{Operand}
use Rattle.arm_words.specs.declared.parts.Operand.TheVariants.{Immediate, Shifted, ShiftedByRegister}
use Rattle.arm_words.specs.declared.parts.Offset.{Offset}
use Rattle.arm_words.specs.declared.parts.Offset.TheVariants.{Number, Register}
use Rattle.arm_words.specs.declared.parts.ShortOffset.{ShortOffset}
use Rattle.arm_words.specs.declared.parts.ShortOffset.TheVariants.{ShortNumber, ShortRegister}
use Rattle.arm_words.specs.declared.parts.ThumbOperand.{ThumbOperand}
use Rattle.arm_words.specs.declared.parts.ThumbOperand.TheVariants.{LowRegister, Small}
use Rattle.arm_words.specs.declared.instructions.Instr.{Instr}
use Rattle.arm_words.specs.declared.instructions.Instr.TheVariants.{Bx, BlxRegister, Bkpt, Clz, Saturating, Smla, Smlaw, Smulw, Smlal, Smul, Mul, Mla, LongMultiply, Swap, HalfTransfer, Mrs, Msr, MsrImmediate, Compare, Move, Data, DoubleTransfer, Transfer, Multiple, Branch, Coprocessor, Swi, BlxTarget, Pld, Never, ThumbAddSub, ThumbShift, ThumbImmediate, ThumbData, ThumbBx, ThumbBlxRegister, ThumbHigh, ThumbLoadLiteral, ThumbRegisterOffset, ThumbImmediateOffset, ThumbHalfOffset, ThumbStackOffset, ThumbAddress, ThumbAdjustStack, ThumbPushPop, ThumbBkpt, ThumbMultiple, ThumbBranchIf, ThumbSwi, ThumbBranch, ThumbBlxSuffix, ThumbBlPrefix, ThumbBlSuffix}

-- the fields of parts are in their ranges
abbrev pub HasOperand : Operand → Type 0
HasOperand (Immediate rotate immed) = (rotate < 16) × (immed < 256)
HasOperand (Shifted rm shift amount) = (rm < 16) × (amount < 32)
HasOperand (ShiftedByRegister rm shift rs) = (rm < 16) × (rs < 16)

abbrev pub HasOffset : Offset → Type 0
HasOffset (Number offset) = offset < 4096
HasOffset (Register rm shift amount) = (rm < 16) × (amount < 32)

abbrev pub HasShortOffset : ShortOffset → Type 0
HasShortOffset (ShortNumber offset) = offset < 256
HasShortOffset (ShortRegister rm) = rm < 16

abbrev pub HasThumbOperand : ThumbOperand → Type 0
HasThumbOperand (LowRegister rm) = rm < 8
HasThumbOperand (Small immed) = immed < 8

-- an instruction's fields are in the ranges that their bits have: what decoding gives, and what the executors and the lister rest
-- on
abbrev pub HasFields : Instr → Type 0
HasFields (Bx cond rm) = rm < 16
HasFields (BlxRegister cond rm) = rm < 16
HasFields (Bkpt immed) = immed < 2 ^ 16
HasFields (Clz cond rd rm) = (rd < 16) × (rm < 16)
HasFields (Saturating cond double subtract rd rm rn) = (rd < 16) × (rm < 16) × (rn < 16)
HasFields (Smla cond x y rd rm rs rn) = (rd < 16) × (rm < 16) × (rs < 16) × (rn < 16)
HasFields (Smlaw cond y rd rm rs rn) = (rd < 16) × (rm < 16) × (rs < 16) × (rn < 16)
HasFields (Smulw cond y rd rm rs) = (rd < 16) × (rm < 16) × (rs < 16)
HasFields (Smlal cond x y rd_lo rd_hi rm rs) = (rd_lo < 16) × (rd_hi < 16) × (rm < 16) × (rs < 16)
HasFields (Smul cond x y rd rm rs) = (rd < 16) × (rm < 16) × (rs < 16)
HasFields (Mul cond set_flags rd rm rs) = (rd < 16) × (rm < 16) × (rs < 16)
HasFields (Mla cond set_flags rd rm rs rn) = (rd < 16) × (rm < 16) × (rs < 16) × (rn < 16)
HasFields (LongMultiply cond signed accumulate set_flags rd_lo rd_hi rm rs) = (rd_lo < 16) × (rd_hi < 16) × (rm < 16) × (rs < 16)
HasFields (Swap cond byte rd rm rn) = (rd < 16) × (rm < 16) × (rn < 16)
HasFields (HalfTransfer cond op pre up write_back rn rd offset) = (rn < 16) × (rd < 16) × HasShortOffset offset
HasFields (Mrs cond spsr rd) = rd < 16
HasFields (Msr cond spsr fields rm) = rm < 16
HasFields (MsrImmediate cond spsr fields rotate immed) = (rotate < 16) × (immed < 256)
HasFields (Compare cond op rn operand) = (rn < 16) × HasOperand operand
HasFields (Move cond op set_flags rd operand) = (rd < 16) × HasOperand operand
HasFields (Data cond op set_flags rn rd operand) = (rn < 16) × (rd < 16) × HasOperand operand
HasFields (DoubleTransfer cond store pre up write_back rn rd offset) = (rn < 16) × (rd < 16) × (rd % 2 ≡ 0) × HasShortOffset offset
HasFields (Transfer cond pre up byte write_back load rn rd offset) = (rn < 16) × (rd < 16) × HasOffset offset
HasFields (Multiple cond pre up user write_back load rn list) = (rn < 16) × (list < 2 ^ 16)
HasFields (Branch cond link offset) = offset < 2 ^ 24
HasFields (Coprocessor cond load op1 crn rd cp op2 crm) = (op1 < 8) × (crn < 16) × (rd < 16) × (cp < 16) × (op2 < 8) × (crm < 16)
HasFields (Swi cond immed) = immed < 2 ^ 24
HasFields (BlxTarget half offset) = offset < 2 ^ 24
HasFields (Pld up rn offset) = (rn < 16) × HasOffset offset
HasFields (Never immed) = immed < 2 ^ 28
HasFields (ThumbAddSub subtract operand rn rd) = HasThumbOperand operand × (rn < 8) × (rd < 8)
HasFields (ThumbShift shift amount rm rd) = (amount < 32) × (rm < 8) × (rd < 8)
HasFields (ThumbImmediate op rd immed) = (rd < 8) × (immed < 256)
HasFields (ThumbData op rm rd) = (rm < 8) × (rd < 8)
HasFields (ThumbBx rm) = rm < 16
HasFields (ThumbBlxRegister rm) = rm < 16
HasFields (ThumbHigh op rm rd) = (rm < 16) × (rd < 16)
HasFields (ThumbLoadLiteral rd immed) = (rd < 8) × (immed < 256)
HasFields (ThumbRegisterOffset op rm rn rd) = (rm < 8) × (rn < 8) × (rd < 8)
HasFields (ThumbImmediateOffset byte load immed rn rd) = (immed < 32) × (rn < 8) × (rd < 8)
HasFields (ThumbHalfOffset load immed rn rd) = (immed < 32) × (rn < 8) × (rd < 8)
HasFields (ThumbStackOffset load rd immed) = (rd < 8) × (immed < 256)
HasFields (ThumbAddress stack rd immed) = (rd < 8) × (immed < 256)
HasFields (ThumbAdjustStack subtract immed) = immed < 128
HasFields (ThumbPushPop load extra list) = list < 256
HasFields (ThumbBkpt immed) = immed < 256
HasFields (ThumbMultiple load rn list) = (rn < 8) × (list < 256)
HasFields (ThumbBranchIf cond offset) = (condition_number cond < 14) × (offset < 256)
HasFields (ThumbSwi immed) = immed < 256
HasFields (ThumbBranch offset) = offset < 2 ^ 11
HasFields (ThumbBlxSuffix offset) = (offset < 2 ^ 11) × (offset % 2 ≡ 0)
HasFields (ThumbBlPrefix offset) = offset < 2 ^ 11
HasFields (ThumbBlSuffix offset) = offset < 2 ^ 11
