use Rattle.arm_exec.proofs.Words.{ℕ, ◌≡◌, ◌&&◌, ◌==◌, bit_and, Bool, true, false, if◌then◌else◌, List, [], ◌∷◌, Option, Some, None, refl, Arch, V4}
use Rattle.arm_exec.proofs.Words.{V5, Instr, Saturating, Smla, Smlaw, ThumbAddress, equivalent}
use Rattle.ds_base.proofs.Choices.{both}
use Rattle.arm_words.specs.ArmTable.{decoded_arm, conditional_arm, top4, branch_rows, half_multiply_rows, half_product_rows, multiply_rows, half_transfer_rows, status_register_rows, immediate_status_rows, data_rows, double_rows, transfer_rows, multiple_rows, coprocessor_rows, unconditional_rows}
use Rattle.arm_words.specs.Rows.{InstructionRow, agrees, first, or_else}
use Rattle.arm_words.specs.ThumbTable.{decoded_thumb, thumb_sum_rows, thumb_register_rows, thumb_literal_rows, thumb_offset_rows, thumb_stack_rows, thumb_multiple_rows, thumb_branch_rows}
use Rattle.arm_words.specs.declared.instructions.Instr.TheVariants.{ThumbImmediate, ThumbData, ThumbHigh, ThumbRegisterOffset, ThumbPushPop}
use Rattle.arm_words.specs.declared.operations.HighOp.{HighOp}
use Rattle.arm_words.specs.declared.operations.HighOp.TheVariants as high_ops
use Rattle.arm_words.specs.declared.operations.ThumbDataOp.{ThumbDataOp}
use Rattle.arm_words.specs.declared.operations.ThumbDataOp.TheVariants as thumb_ops
use Rattle.arm_words.specs.declared.operations.ThumbImmediateOp.{ThumbImmediateOp}
use Rattle.arm_words.specs.declared.operations.ThumbImmediateOp.TheVariants as immediate_ops
use Rattle.arm_words.specs.declared.operations.ThumbTransferOp.{ThumbTransferOp}
use Rattle.arm_words.specs.declared.operations.ThumbTransferOp.TheVariants as transfer_ops
use Rattle.arm_core.specs.Thumb.{address_instr, high_instr, immediate_instr, offset_instr, register_instr, stack_instr}
use Rattle.arm_exec.proofs.StatusMoves.{HasQ}

-- Which instructions set Q: none that ARMv4 has.

-- an instruction sets Q only where that is kept
abbrev pub Allows : Arch → Instr → Type 0
Allows arch (Saturating cond double subtract rd rm rn) = HasQ arch
Allows arch (Smla cond x y rd rm rs rn) = HasQ arch
Allows arch (Smlaw cond y rd rm rs rn) = HasQ arch
Allows arch _ = Unit {0}

abbrev pub AllowsSome : Arch → Option Instr → Type 0
AllowsSome arch None = Unit {0}
AllowsSome arch (Some instr) = Allows arch instr

-- ---- Thumb instructions stand for none that sets it

module _ (arch : Arch) where
  immediate_allows : (op : ThumbImmediateOp) (rd immed : ℕ) → Allows arch (immediate_instr op rd immed)
  immediate_allows immediate_ops.Mov rd immed = tt
  immediate_allows immediate_ops.Cmp rd immed = tt
  immediate_allows immediate_ops.Add rd immed = tt
  immediate_allows immediate_ops.Sub rd immed = tt

  register_allows : (op : ThumbDataOp) (rm rd : ℕ) → Allows arch (register_instr op rm rd)
  register_allows thumb_ops.And rm rd = tt
  register_allows thumb_ops.Eor rm rd = tt
  register_allows thumb_ops.Lsl rm rd = tt
  register_allows thumb_ops.Lsr rm rd = tt
  register_allows thumb_ops.Asr rm rd = tt
  register_allows thumb_ops.Adc rm rd = tt
  register_allows thumb_ops.Sbc rm rd = tt
  register_allows thumb_ops.Ror rm rd = tt
  register_allows thumb_ops.Tst rm rd = tt
  register_allows thumb_ops.Neg rm rd = tt
  register_allows thumb_ops.Cmp rm rd = tt
  register_allows thumb_ops.Cmn rm rd = tt
  register_allows thumb_ops.Orr rm rd = tt
  register_allows thumb_ops.Mul rm rd = tt
  register_allows thumb_ops.Bic rm rd = tt
  register_allows thumb_ops.Mvn rm rd = tt

  high_allows : (op : HighOp) (rm rd : ℕ) → Allows arch (high_instr op rm rd)
  high_allows high_ops.Add rm rd = tt
  high_allows high_ops.Cmp rm rd = tt
  high_allows high_ops.Mov rm rd = tt

  offset_allows : (op : ThumbTransferOp) (rm rn rd : ℕ) → Allows arch (offset_instr op rm rn rd)
  offset_allows transfer_ops.Str rm rn rd = tt
  offset_allows transfer_ops.Strh rm rn rd = tt
  offset_allows transfer_ops.Strb rm rn rd = tt
  offset_allows transfer_ops.Ldrsb rm rn rd = tt
  offset_allows transfer_ops.Ldr rm rn rd = tt
  offset_allows transfer_ops.Ldrh rm rn rd = tt
  offset_allows transfer_ops.Ldrb rm rn rd = tt
  offset_allows transfer_ops.Ldrsh rm rn rd = tt

  address_allows : (stack : Bool) (rd immed : ℕ) → Allows arch (address_instr stack rd immed)
  address_allows true rd immed = tt
  address_allows false rd immed = tt

  stack_allows : (load extra : Bool) (list : ℕ) → Allows arch (stack_instr load extra list)
  stack_allows true extra list = tt
  stack_allows false extra list = tt

  pub equivalent_allows : (i : Instr) → Allows arch i → Allows arch (equivalent i)
  equivalent_allows (ThumbImmediate op rd immed) a = immediate_allows op rd immed
  equivalent_allows (ThumbData op rm rd) a = register_allows op rm rd
  equivalent_allows (ThumbHigh op rm rd) a = high_allows op rm rd
  equivalent_allows (ThumbRegisterOffset op rm rn rd) a = offset_allows op rm rn rd
  equivalent_allows (ThumbAddress stack rd immed) a = address_allows stack rd immed
  equivalent_allows (ThumbPushPop load extra list) a = stack_allows load extra list
  equivalent_allows _ a = a

-- ---- what is decoded

-- ARMv5 keeps it
v5_allows : (i : Instr) → Allows V5 i
v5_allows (Saturating cond double subtract rd rm rn) = tt
v5_allows (Smla cond x y rd rm rs rn) = tt
v5_allows (Smlaw cond y rd rm rs rn) = tt
v5_allows _ = tt

v5_allows_some : (o : Option Instr) → AllowsSome V5 o
v5_allows_some None = tt
v5_allows_some (Some i) = v5_allows i

-- the instructions of rows that ARMv4 has don't set it
abbrev Rows : List InstructionRow → Type 0
Rows [] = Unit {0}
Rows (r ∷ rs) = (r.on V4 ≡ true → (w : ℕ) → Allows V4 (r.instr w)) × Rows rs

not_there : false ≡ true → ⊥
not_there e = absurd (cc)

allows_if : (b : Bool) (i : Instr) (o : Option Instr) → (b ≡ true → Allows V4 i) → AllowsSome V4 o → AllowsSome V4 (if b then Some i else o)
allows_if true i o p q = p refl
allows_if false i o p q = q

first_allows : (rs : List InstructionRow) → Rows rs → (w : ℕ) → AllowsSome V4 (first rs V4 w)
first_allows [] h w = tt
first_allows (r ∷ rs) h w =
    allows_if (agrees r V4 w) (r.instr w) (first rs V4 w)
    (λ e. h.0 (both (r.on V4) (r.only w && (bit_and w r.mask == r.value)) e).0 w) (first_allows rs h.1 w)

either_allows : (a b : Option Instr) → AllowsSome V4 a → AllowsSome V4 b → AllowsSome V4 (or_else a b)
either_allows None b p q = q
either_allows (Some i) b p q = p

one_of_allows : (b : Bool) (x y : Option Instr) → AllowsSome V4 x → AllowsSome V4 y → AllowsSome V4 (if b then x else y)
one_of_allows true x y p q = p
one_of_allows false x y p q = q

-- some rows, and what comes behind them
behind : (rs : List InstructionRow) → Rows rs → (w : ℕ) (rest : Option Instr) → AllowsSome V4 rest → AllowsSome V4 (or_else (first rs V4 w) rest)
behind rs h w rest p = either_allows (first rs V4 w) rest (first_allows rs h w) p

conditional_allows : (w : ℕ) → AllowsSome V4 (conditional_arm V4 w)
conditional_allows w =
    let o12 : Option Instr = first coprocessor_rows V4 w in
    let o11 : Option Instr = or_else (first multiple_rows V4 w) o12 in
    let o10 : Option Instr = or_else (first transfer_rows V4 w) o11 in
    let o9 : Option Instr = or_else (first double_rows V4 w) o10 in
    let o8 : Option Instr = or_else (first data_rows V4 w) o9 in
    let o7 : Option Instr = or_else (first immediate_status_rows V4 w) o8 in
    let o6 : Option Instr = or_else (first status_register_rows V4 w) o7 in
    let o5 : Option Instr = or_else (first half_transfer_rows V4 w) o6 in
    let o4 : Option Instr = or_else (first multiply_rows V4 w) o5 in
    let o3 : Option Instr = or_else (first half_product_rows V4 w) o4 in
    let o2 : Option Instr = or_else (first half_multiply_rows V4 w) o3 in
    let a12 : AllowsSome V4 o12 = first_allows coprocessor_rows ((λ e v. tt), ((λ e v. tt), tt)) w in
    let a11 : AllowsSome V4 o11 = behind multiple_rows ((λ e v. tt), ((λ e v. tt), tt)) w o12 a12 in
    let a10 : AllowsSome V4 o10 = behind transfer_rows ((λ e v. tt), tt) w o11 a11 in
    let a9 : AllowsSome V4 o9 = behind double_rows ((λ e v. tt), tt) w o10 a10 in
    let a8 : AllowsSome V4 o8 = behind data_rows ((λ e v. tt), ((λ e v. tt), ((λ e v. tt), tt))) w o9 a9 in
    let a7 : AllowsSome V4 o7 = behind immediate_status_rows ((λ e v. tt), tt) w o8 a8 in
    let a6 : AllowsSome V4 o6 = behind status_register_rows ((λ e v. tt), ((λ e v. tt), tt)) w o7 a7 in
    let a5 : AllowsSome V4 o5 = behind half_transfer_rows ((λ e v. tt), ((λ e v. tt), tt)) w o6 a6 in
    let a4 : AllowsSome V4 o4 = behind multiply_rows ((λ e v. tt), ((λ e v. tt), ((λ e v. tt), tt))) w o5 a5 in
    let a3 : AllowsSome V4 o3 = behind half_product_rows ((λ e v. tt), ((λ e v. tt), tt)) w o4 a4 in
    let a2 : AllowsSome V4 o2 = behind half_multiply_rows ((λ e v. not_there e), ((λ e v. not_there e), ((λ e v. tt), tt))) w o3 a3 in
    behind branch_rows ((λ e v. tt), ((λ e v. tt), ((λ e v. tt), ((λ e v. tt), ((λ e v. not_there e), tt))))) w o2 a2

pub arm_allows : (arch : Arch) (w : ℕ) → AllowsSome arch (decoded_arm arch w)
arm_allows V4 w =
    one_of_allows (top4 w == 15) (first unconditional_rows V4 w) (conditional_arm V4 w)
    (first_allows unconditional_rows ((λ e v. tt), ((λ e v. tt), ((λ e v. tt), tt))) w) (conditional_allows w)
arm_allows V5 w = v5_allows_some (decoded_arm V5 w)

pub thumb_allows : (arch : Arch) (h : ℕ) → AllowsSome arch (decoded_thumb arch h)
thumb_allows V4 h =
    let o7 : Option Instr = first thumb_branch_rows V4 h in
    let o6 : Option Instr = or_else (first thumb_multiple_rows V4 h) o7 in
    let o5 : Option Instr = or_else (first thumb_stack_rows V4 h) o6 in
    let o4 : Option Instr = or_else (first thumb_offset_rows V4 h) o5 in
    let o3 : Option Instr = or_else (first thumb_literal_rows V4 h) o4 in
    let o2 : Option Instr = or_else (first thumb_register_rows V4 h) o3 in
    let a7 : AllowsSome V4 o7 = first_allows thumb_branch_rows ((λ e v. tt), ((λ e v. tt), ((λ e v. tt), ((λ e v. tt), tt)))) h in
    let a6 : AllowsSome V4 o6 = behind thumb_multiple_rows ((λ e v. tt), ((λ e v. tt), ((λ e v. tt), tt))) h o7 a7 in
    let a5 : AllowsSome V4 o5 = behind thumb_stack_rows ((λ e v. tt), ((λ e v. tt), ((λ e v. tt), ((λ e v. tt), tt)))) h o6 a6 in
    let a4 : AllowsSome V4 o4 = behind thumb_offset_rows ((λ e v. tt), ((λ e v. tt), ((λ e v. tt), tt))) h o5 a5 in
    let a3 : AllowsSome V4 o3 = behind thumb_literal_rows ((λ e v. tt), ((λ e v. tt), tt)) h o4 a4 in
    let a2 : AllowsSome V4 o2 = behind thumb_register_rows ((λ e v. tt), ((λ e v. tt), ((λ e v. tt), ((λ e v. tt), tt)))) h o3 a3 in
    behind thumb_sum_rows ((λ e v. tt), ((λ e v. tt), ((λ e v. tt), tt))) h o2 a2
thumb_allows V5 h = v5_allows_some (decoded_thumb V5 h)
