use Rattle.std.proofs.Common.{ℕ, ◌≡◌, ◌<◌, ◌==◌, ◌||◌, ◌&&◌, arith, [], Bool, true, false, true≢false, if◌then◌else◌, Some, None, refl, sym, ◌∙◌, ap}
use Rattle.std.specs.Prelude.{not}
use Rattle.std.proofs.lemmas.Option.{none-some}
use Rattle.ds_base.specs.declared.processors.Arch.{Arch}
use Rattle.ds_base.specs.declared.processors.Arch.TheVariants.{V4, V5}
use Rattle.ds_base.proofs.Choices.{if_false}
use Rattle.arm_words.specs.declared.instructions.Instr.{Instr}
use Rattle.arm_words.specs.declared.instructions.Instr.TheVariants as instrs
use Rattle.arm_words.specs.declared.operations.CompareOp.{CompareOp}
use Rattle.arm_words.specs.declared.operations.CompareOp.TheVariants.{Tst, Teq, Cmp, Cmn}
use Rattle.arm_words.specs.declared.operations.DataOp.{DataOp}
use Rattle.arm_words.specs.declared.operations.DataOp.TheVariants.{And, Eor, Sub, Rsb, Add, Adc, Sbc, Rsc, Orr, Bic}
use Rattle.arm_words.specs.declared.operations.HalfOp.TheVariants.{Strh, Ldrh, Ldrsb, Ldrsh}
use Rattle.arm_words.specs.declared.operations.MoveOp.{MoveOp}
use Rattle.arm_words.specs.declared.operations.MoveOp.TheVariants.{Mov, Mvn}
use Rattle.arm_words.specs.declared.parts.Condition.{Condition}
use Rattle.arm_words.specs.declared.parts.Offset.{Offset}
use Rattle.arm_words.specs.declared.parts.Offset.TheVariants as offsets
use Rattle.arm_words.specs.declared.parts.Operand.{Operand}
use Rattle.arm_words.specs.declared.parts.Operand.TheVariants.{Immediate, Shifted, ShiftedByRegister}
use Rattle.arm_words.specs.declared.parts.Shift.{Shift}
use Rattle.arm_words.specs.declared.parts.Shift.TheVariants.{Lsl, Lsr, Asr, Ror}
use Rattle.arm_words.specs.declared.parts.ShortOffset.TheVariants.{ShortNumber, ShortRegister}
use Rattle.arm_core.specs.Branches.{exchanged}
use Rattle.arm_core.specs.Conditions.{holds}
use Rattle.arm_core.specs.DataProcessing.{compare_meaning, data_meaning, move_meaning}
use Rattle.arm_core.specs.Effects.{Meaning, cost_of}
use Rattle.arm_core.specs.Multiples.{multiple_meaning}
use Rattle.arm_core.specs.Meanings.{act, act_processing, condition, meaning, skipped}
use Rattle.arm_core.specs.Registers.{RegisterState, put, register}
use Rattle.arm_core.specs.Steps.{swi_stop}
use Rattle.arm_core.specs.Thumb.{equivalent}
use Rattle.arm_core.specs.Transfers.{put_word, transfer_meaning}
use Rattle.arm_core.specs.declared.shifter.Shifted32.{Shifted32}
use Rattle.arm_exec.proofs.Costs.{some_cost}
use Rattle.arm_ops.specs.Meanings.{access_at, access_by, access_made, access_meaning, access_of, accesses_by, compare_by, data_by, meaning_by, op_meaning, operation_meaning, register_operand, shifted_operand}
use Rattle.arm_ops.specs.Operations.{compare_number, compare_op, compare_register, data_by_shift, data_number, data_op, data_register, data_shifted, is_decoded, is_other, is_plain, mla_op, move_number, move_op, move_shifted, mul_op, multiple_op, number_access, number_transfer, op_of, operation_of, register_access, register_transfer, rotated_number, shifted_register, transfer_op}
use Rattle.arm_ops.specs.declared.operations.DataAccess.{DataAccess}
use Rattle.arm_ops.specs.declared.operations.Op.{Op}
use Rattle.arm_ops.specs.declared.operations.Op.TheVariants.{Multiple, Other, Plain}
use Rattle.arm_ops.specs.declared.operations.Operation.{Operation}
use Rattle.arm_ops.specs.declared.operations.RegisterList.{RegisterList}
use Rattle.arm_ops.specs.declared.operations.Transfer.{Transfer}
use Rattle.arm_ops.specs.declared.operations.TransferOp.{TransferOp}
use Rattle.arm_ops.specs.declared.operations.TransferOp.TheVariants.{WordOrByte, HalfOrSigned}

-- An instruction that is decoded means what it meant.

-- LSL by 0 leaves a register as it is
plain_operand : (s : RegisterState) (rm : ℕ) (shift : Shift) (amount : ℕ) → is_plain shift amount ≡ true → shifted_operand s (shifted_register rm shift amount) ≡ register_operand s rm
plain_operand s rm Lsl amount h = rw h refl
plain_operand s rm Lsr amount h = absurd (true≢false (sym h))
plain_operand s rm Asr amount h = absurd (true≢false (sym h))
plain_operand s rm Ror amount h = absurd (true≢false (sym h))

-- one of two means what is wanted where each does, the first by the answer that chooses it
one_means : (arch : Arch) (s : RegisterState) (m : Meaning) (b : Bool) (x y : Op) → (b ≡ true → op_meaning arch s x ≡ m) → op_meaning arch s y ≡ m → op_meaning arch s (if b then x else y) ≡ m
one_means arch s m true x y h k = h refl
one_means arch s m false x y h k = k

-- data processing, by its second operand
number_means : (arch : Arch) (s : RegisterState) (cond : Condition) (op : DataOp) (set_flags : Bool) (rd rn rotate immed : ℕ)
    → op_meaning arch s (data_number (instrs.Data cond op set_flags rn rd (Immediate rotate immed)) op set_flags rd rn (rotated_number rotate immed).value)
    ≡ data_meaning s op set_flags rn rd (Immediate rotate immed)
number_means arch s cond And false rd rn rotate immed = refl
number_means arch s cond And true rd rn rotate immed = refl
number_means arch s cond Eor false rd rn rotate immed = refl
number_means arch s cond Eor true rd rn rotate immed = refl
number_means arch s cond Sub false rd rn rotate immed = refl
number_means arch s cond Sub true rd rn rotate immed = refl
number_means arch s cond Rsb false rd rn rotate immed = refl
number_means arch s cond Rsb true rd rn rotate immed = refl
number_means arch s cond Add false rd rn rotate immed = refl
number_means arch s cond Add true rd rn rotate immed = refl
number_means arch s cond Adc false rd rn rotate immed = refl
number_means arch s cond Adc true rd rn rotate immed = refl
number_means arch s cond Sbc false rd rn rotate immed = refl
number_means arch s cond Sbc true rd rn rotate immed = refl
number_means arch s cond Rsc false rd rn rotate immed = refl
number_means arch s cond Rsc true rd rn rotate immed = refl
number_means arch s cond Orr false rd rn rotate immed = refl
number_means arch s cond Orr true rd rn rotate immed = refl
number_means arch s cond Bic false rd rn rotate immed = refl
number_means arch s cond Bic true rd rn rotate immed = refl

register_means : (arch : Arch) (s : RegisterState) (cond : Condition) (op : DataOp) (set_flags : Bool) (rd rn rm : ℕ) (shift : Shift) (amount : ℕ) → is_plain shift amount ≡ true
    → op_meaning arch s (data_register (instrs.Data cond op set_flags rn rd (Shifted rm shift amount)) op set_flags rd rn rm) ≡ data_meaning s op set_flags rn rd (Shifted rm shift amount)
register_means arch s cond And false rd rn rm shift amount h = ap (data_by s And false rd rn) (sym (plain_operand s rm shift amount h))
register_means arch s cond And true rd rn rm shift amount h = ap (data_by s And true rd rn) (sym (plain_operand s rm shift amount h))
register_means arch s cond Eor false rd rn rm shift amount h = ap (data_by s Eor false rd rn) (sym (plain_operand s rm shift amount h))
register_means arch s cond Eor true rd rn rm shift amount h = ap (data_by s Eor true rd rn) (sym (plain_operand s rm shift amount h))
register_means arch s cond Sub false rd rn rm shift amount h = ap (data_by s Sub false rd rn) (sym (plain_operand s rm shift amount h))
register_means arch s cond Sub true rd rn rm shift amount h = ap (data_by s Sub true rd rn) (sym (plain_operand s rm shift amount h))
register_means arch s cond Rsb false rd rn rm shift amount h = ap (data_by s Rsb false rd rn) (sym (plain_operand s rm shift amount h))
register_means arch s cond Rsb true rd rn rm shift amount h = refl
register_means arch s cond Add false rd rn rm shift amount h = ap (data_by s Add false rd rn) (sym (plain_operand s rm shift amount h))
register_means arch s cond Add true rd rn rm shift amount h = ap (data_by s Add true rd rn) (sym (plain_operand s rm shift amount h))
register_means arch s cond Adc false rd rn rm shift amount h = refl
register_means arch s cond Adc true rd rn rm shift amount h = refl
register_means arch s cond Sbc false rd rn rm shift amount h = refl
register_means arch s cond Sbc true rd rn rm shift amount h = refl
register_means arch s cond Rsc false rd rn rm shift amount h = refl
register_means arch s cond Rsc true rd rn rm shift amount h = refl
register_means arch s cond Orr false rd rn rm shift amount h = ap (data_by s Orr false rd rn) (sym (plain_operand s rm shift amount h))
register_means arch s cond Orr true rd rn rm shift amount h = ap (data_by s Orr true rd rn) (sym (plain_operand s rm shift amount h))
register_means arch s cond Bic false rd rn rm shift amount h = ap (data_by s Bic false rd rn) (sym (plain_operand s rm shift amount h))
register_means arch s cond Bic true rd rn rm shift amount h = ap (data_by s Bic true rd rn) (sym (plain_operand s rm shift amount h))

shifted_means : (arch : Arch) (s : RegisterState) (cond : Condition) (op : DataOp) (set_flags : Bool) (rd rn rm : ℕ) (shift : Shift) (amount : ℕ)
    → op_meaning arch s (data_shifted (instrs.Data cond op set_flags rn rd (Shifted rm shift amount)) op set_flags rd rn (shifted_register rm shift amount))
    ≡ data_meaning s op set_flags rn rd (Shifted rm shift amount)
shifted_means arch s cond op false rd rn rm shift amount = refl
shifted_means arch s cond op true rd rn rm shift amount = refl

by_shift_means : (arch : Arch) (s : RegisterState) (cond : Condition) (op : DataOp) (set_flags : Bool) (rd rn rm : ℕ) (shift : Shift) (rs : ℕ)
    → op_meaning arch s (data_by_shift (instrs.Data cond op set_flags rn rd (ShiftedByRegister rm shift rs)) op set_flags rd rn rm shift rs)
    ≡ data_meaning s op set_flags rn rd (ShiftedByRegister rm shift rs)
by_shift_means arch s cond op false rd rn rm shift rs = refl
by_shift_means arch s cond op true rd rn rm shift rs = refl

data_means : (arch : Arch) (s : RegisterState) (cond : Condition) (op : DataOp) (set_flags : Bool) (rd rn : ℕ) (operand : Operand)
    → op_meaning arch s (data_op (instrs.Data cond op set_flags rn rd operand) op set_flags rd rn operand) ≡ data_meaning s op set_flags rn rd operand
data_means arch s cond op set_flags rd rn (Immediate rotate immed) =
    one_means arch s _ (rd == 15 || rn == 15) _ _ (λ e. refl) (number_means arch s cond op set_flags rd rn rotate immed)
data_means arch s cond op set_flags rd rn (ShiftedByRegister rm shift rs) =
    one_means arch s _ (((rd == 15 || rn == 15) || rm == 15) || rs == 15) _ _ (λ e. refl) (by_shift_means arch s cond op set_flags rd rn rm shift rs)
data_means arch s cond op set_flags rd rn (Shifted rm shift amount) =
    one_means arch s _ ((rd == 15 || rn == 15) || rm == 15) _ _ (λ e. refl)
    (one_means arch s _ (is_plain shift amount) _ _ (register_means arch s cond op set_flags rd rn rm shift amount) (shifted_means arch s cond op set_flags rd rn rm shift amount))

-- comparisons
compared_number : (arch : Arch) (s : RegisterState) (cond : Condition) (op : CompareOp) (rn rotate immed : ℕ)
    → op_meaning arch s (compare_number (instrs.Compare cond op rn (Immediate rotate immed)) op rn (rotated_number rotate immed)) ≡ compare_meaning s op rn (Immediate rotate immed)
compared_number arch s cond Tst rn rotate immed = refl
compared_number arch s cond Cmp rn rotate immed = refl
compared_number arch s cond Cmn rn rotate immed = refl
compared_number arch s cond Teq rn rotate immed = refl

compared_register : (arch : Arch) (s : RegisterState) (cond : Condition) (op : CompareOp) (rn rm : ℕ) (shift : Shift) (amount : ℕ) → is_plain shift amount ≡ true
    → op_meaning arch s (compare_register (instrs.Compare cond op rn (Shifted rm shift amount)) op rn rm) ≡ compare_meaning s op rn (Shifted rm shift amount)
compared_register arch s cond Tst rn rm shift amount h = ap (compare_by s Tst rn) (sym (plain_operand s rm shift amount h))
compared_register arch s cond Cmp rn rm shift amount h = ap (compare_by s Cmp rn) (sym (plain_operand s rm shift amount h))
compared_register arch s cond Cmn rn rm shift amount h = refl
compared_register arch s cond Teq rn rm shift amount h = refl

compare_means : (arch : Arch) (s : RegisterState) (cond : Condition) (op : CompareOp) (rn : ℕ) (operand : Operand)
    → op_meaning arch s (compare_op (instrs.Compare cond op rn operand) op rn operand) ≡ compare_meaning s op rn operand
compare_means arch s cond op rn (Immediate rotate immed) = one_means arch s _ (rn == 15) _ _ (λ e. refl) (compared_number arch s cond op rn rotate immed)
compare_means arch s cond op rn (ShiftedByRegister rm shift rs) = refl
compare_means arch s cond op rn (Shifted rm shift amount) =
    one_means arch s _ (rn == 15 || rm == 15) _ _ (λ e. refl) (one_means arch s _ (is_plain shift amount) _ _ (compared_register arch s cond op rn rm shift amount) refl)

-- moves
moved_means : (arch : Arch) (s : RegisterState) (cond : Condition) (op : MoveOp) (set_flags : Bool) (rd rotate immed : ℕ)
    → op_meaning arch s (move_number (instrs.Move cond op set_flags rd (Immediate rotate immed)) op set_flags rd (rotated_number rotate immed))
    ≡ move_meaning s op set_flags rd (Immediate rotate immed)
moved_means arch s cond Mov false rd rotate immed = refl
moved_means arch s cond Mvn false rd rotate immed = refl
moved_means arch s cond Mov true rd rotate immed = refl
moved_means arch s cond Mvn true rd rotate immed = refl

move_shifted_means : (arch : Arch) (s : RegisterState) (cond : Condition) (op : MoveOp) (set_flags : Bool) (rd rm : ℕ) (shift : Shift) (amount : ℕ)
    → op_meaning arch s (move_shifted (instrs.Move cond op set_flags rd (Shifted rm shift amount)) op set_flags rd rm shift amount) ≡ move_meaning s op set_flags rd (Shifted rm shift amount)
move_shifted_means arch s cond Mov false rd rm Lsl amount = refl
move_shifted_means arch s cond Mov false rd rm Lsr amount = refl
move_shifted_means arch s cond Mov false rd rm Asr amount = refl
move_shifted_means arch s cond Mov false rd rm Ror amount = refl
move_shifted_means arch s cond Mov true rd rm Lsl amount = refl
move_shifted_means arch s cond Mov true rd rm Lsr amount = refl
move_shifted_means arch s cond Mov true rd rm Asr amount = refl
move_shifted_means arch s cond Mov true rd rm Ror amount = refl
move_shifted_means arch s cond Mvn false rd rm Lsl amount = refl
move_shifted_means arch s cond Mvn false rd rm Lsr amount = refl
move_shifted_means arch s cond Mvn false rd rm Asr amount = refl
move_shifted_means arch s cond Mvn false rd rm Ror amount = refl
move_shifted_means arch s cond Mvn true rd rm Lsl amount = refl
move_shifted_means arch s cond Mvn true rd rm Lsr amount = refl
move_shifted_means arch s cond Mvn true rd rm Asr amount = refl
move_shifted_means arch s cond Mvn true rd rm Ror amount = refl

move_means : (arch : Arch) (s : RegisterState) (cond : Condition) (op : MoveOp) (set_flags : Bool) (rd : ℕ) (operand : Operand)
    → op_meaning arch s (move_op (instrs.Move cond op set_flags rd operand) op set_flags rd operand) ≡ move_meaning s op set_flags rd operand
move_means arch s cond op set_flags rd (Immediate rotate immed) = one_means arch s _ (rd == 15) _ _ (λ e. refl) (moved_means arch s cond op set_flags rd rotate immed)
move_means arch s cond op set_flags rd (ShiftedByRegister rm shift rs) = refl
move_means arch s cond op set_flags rd (Shifted rm shift amount) = one_means arch s _ (rd == 15 || rm == 15) _ _ (λ e. refl) (move_shifted_means arch s cond op set_flags rd rm shift amount)

-- products
mul_means : (arch : Arch) (base : ℕ) (s : RegisterState) (cond : Condition) (set_flags : Bool) (rd rm rs : ℕ)
    → op_meaning arch s (mul_op (instrs.Mul cond set_flags rd rm rs) set_flags rd rm rs) ≡ act arch base s (instrs.Mul cond set_flags rd rm rs)
mul_means arch base s cond false rd rm rs = refl
mul_means arch base s cond true rd rm rs = refl

mla_means : (arch : Arch) (base : ℕ) (s : RegisterState) (cond : Condition) (set_flags : Bool) (rd rm rs rn : ℕ)
    → op_meaning arch s (mla_op (instrs.Mla cond set_flags rd rm rs rn) set_flags rd rm rs rn) ≡ act arch base s (instrs.Mla cond set_flags rd rm rs rn)
mla_means arch base s cond false rd rm rs rn = refl
mla_means arch base s cond true rd rm rs rn = refl

-- loads and stores, by their offset
abbrev transfer_by : TransferOp → Bool → Bool → Bool → ℕ → ℕ → Transfer
transfer_by op pre up write_back rn rd = record { op = op; pre = pre; up = up; write_back = write_back; rn = rn; rd = rd }

number_access_means : (arch : Arch) (s : RegisterState) (op : TransferOp) (rd rn offset : ℕ)
    → op_meaning arch s (number_access op rd rn offset) ≡ access_meaning arch s (access_at s op rd rn offset)
number_access_means arch s (WordOrByte true true) rd rn offset = refl
number_access_means arch s (WordOrByte true false) rd rn offset = refl
number_access_means arch s (WordOrByte false true) rd rn offset = refl
number_access_means arch s (WordOrByte false false) rd rn offset = refl
number_access_means arch s (HalfOrSigned Strh) rd rn offset = refl
number_access_means arch s (HalfOrSigned Ldrh) rd rn offset = refl
number_access_means arch s (HalfOrSigned Ldrsb) rd rn offset = refl
number_access_means arch s (HalfOrSigned Ldrsh) rd rn offset = refl

number_transfer_means : (arch : Arch) (s : RegisterState) (op : TransferOp) (pre up write_back : Bool) (rn rd offset : ℕ)
    → op_meaning arch s (number_transfer (transfer_by op pre up write_back rn rd) offset) ≡ access_meaning arch s (access_by s (transfer_by op pre up write_back rn rd) offset)
number_transfer_means arch s op true true false rn rd offset =
    one_means arch s _ (not (rn == 15) && not (rd == 15)) _ _ (λ e. number_access_means arch s op rd rn offset) refl
number_transfer_means arch s op true true true rn rd offset = refl
number_transfer_means arch s op true false write_back rn rd offset = refl
number_transfer_means arch s op false up write_back rn rd offset = refl

register_access_means : (arch : Arch) (s : RegisterState) (op : TransferOp) (rd rn rm : ℕ)
    → op_meaning arch s (register_access op rd rn rm) ≡ access_meaning arch s (access_at s op rd rn (register s rm))
register_access_means arch s (WordOrByte true true) rd rn rm = refl
register_access_means arch s (WordOrByte true false) rd rn rm = refl
register_access_means arch s (WordOrByte false true) rd rn rm = refl
register_access_means arch s (WordOrByte false false) rd rn rm = refl
register_access_means arch s (HalfOrSigned Strh) rd rn rm = refl
register_access_means arch s (HalfOrSigned Ldrh) rd rn rm = refl
register_access_means arch s (HalfOrSigned Ldrsb) rd rn rm = refl
register_access_means arch s (HalfOrSigned Ldrsh) rd rn rm = refl

register_transfer_means : (arch : Arch) (s : RegisterState) (op : TransferOp) (pre up write_back : Bool) (rn rd rm : ℕ)
    → op_meaning arch s (register_transfer (transfer_by op pre up write_back rn rd) rm) ≡ access_meaning arch s (access_by s (transfer_by op pre up write_back rn rd) (register s rm))
register_transfer_means arch s op true true false rn rd rm =
    one_means arch s _ ((not (rn == 15) && not (rd == 15)) && not (rm == 15)) _ _ (λ e. register_access_means arch s op rd rn rm) refl
register_transfer_means arch s op true true true rn rd rm = refl
register_transfer_means arch s op true false write_back rn rd rm = refl
register_transfer_means arch s op false up write_back rn rd rm = refl

-- of a word or byte
plain_access : (arch : Arch) (s : RegisterState) (it : Transfer) (rm : ℕ) (shift : Shift) (amount : ℕ) → is_plain shift amount ≡ true
    → access_meaning arch s (access_by s it (register s rm)) ≡ access_meaning arch s (access_by s it (shifted_operand s (shifted_register rm shift amount)).value)
plain_access arch s it rm shift amount h =
    ap (λ (by : Shifted32). access_meaning arch s (access_by s it by.value)) (sym (plain_operand s rm shift amount h))

transfer_means : (arch : Arch) (s : RegisterState) (load byte pre up write_back : Bool) (rn rd : ℕ) (offset : Offset)
    → op_meaning arch s (transfer_op (transfer_by (WordOrByte load byte) pre up write_back rn rd) offset) ≡ transfer_meaning arch s pre up byte write_back load rn rd offset
transfer_means arch s load byte pre up write_back rn rd (offsets.Number offset) = number_transfer_means arch s (WordOrByte load byte) pre up write_back rn rd offset
transfer_means arch s load byte pre up write_back rn rd (offsets.Register rm shift amount) =
    one_means arch s _ (is_plain shift amount) _ _
    (λ e. register_transfer_means arch s (WordOrByte load byte) pre up write_back rn rd rm ∙ plain_access arch s (transfer_by (WordOrByte load byte) pre up write_back rn rd) rm shift amount e) refl

-- transfers of registers
multiple_means : (arch : Arch) (s : RegisterState) (user : Bool) (it : RegisterList) → is_decoded (multiple_op user it) ≡ true
    → op_meaning arch s (multiple_op user it) ≡ multiple_meaning arch s it.pre it.up user it.write_back it.load it.rn it.list
multiple_means arch s true it h = absurd (true≢false (sym h))
multiple_means arch s false it h = by_low (it.rn == 15 || it.list == 0) h where
  by_low : (b : Bool) → is_decoded (if b then Other else Multiple it) ≡ true
      → op_meaning arch s (if b then Other else Multiple it) ≡ multiple_meaning arch s it.pre it.up false it.write_back it.load it.rn it.list
  by_low true k = absurd (true≢false (sym k))
  by_low false k = refl

-- an operation that is known does what its instruction does
op_means : (arch : Arch) (base : ℕ) (s : RegisterState) (e : Instr) → is_decoded (op_of e) ≡ true → op_meaning arch s (op_of e) ≡ act arch base s e
op_means arch base s (instrs.Data cond op set_flags rn rd operand) h = data_means arch s cond op set_flags rd rn operand
op_means arch base s (instrs.Compare cond op rn operand) h = compare_means arch s cond op rn operand
op_means arch base s (instrs.Move cond op set_flags rd operand) h = move_means arch s cond op set_flags rd operand
op_means arch base s (instrs.Branch cond link offset) h = refl
op_means arch base s (instrs.ThumbBranchIf cond offset) h = refl
op_means arch base s (instrs.ThumbBranch offset) h = refl
op_means arch base s (instrs.Transfer cond pre up byte write_back load rn rd offset) h = transfer_means arch s load byte pre up write_back rn rd offset
op_means arch base s (instrs.HalfTransfer cond op pre up write_back rn rd (ShortNumber offset)) h = number_transfer_means arch s (HalfOrSigned op) pre up write_back rn rd offset
op_means arch base s (instrs.HalfTransfer cond op pre up write_back rn rd (ShortRegister rm)) h = register_transfer_means arch s (HalfOrSigned op) pre up write_back rn rd rm
op_means arch base s (instrs.ThumbLoadLiteral rd immed) h = refl
op_means arch base s (instrs.Mul cond set_flags rd rm rs) h = mul_means arch base s cond set_flags rd rm rs
op_means arch base s (instrs.Mla cond set_flags rd rm rs rn) h = mla_means arch base s cond set_flags rd rm rs rn
op_means arch base s (instrs.LongMultiply cond signed accumulate set_flags rd_lo rd_hi rm rs) h = refl
op_means arch base s (instrs.Bx cond rm) h = refl
op_means arch base s (instrs.ThumbAddress stack rd immed) h = refl
op_means arch base s (instrs.ThumbBlPrefix offset) h = refl
op_means arch base s (instrs.ThumbBlSuffix offset) h = refl
op_means arch base s (instrs.Multiple cond pre up user write_back load rn list) h =
    multiple_means arch s user (record { pre = pre; up = up; write_back = write_back; load = load; rn = rn; list = list }) h
op_means arch base s _ h = absurd (true≢false (sym h))

pub operation_means : (arch : Arch) (base : ℕ) (s : RegisterState) (instr : Instr) → is_decoded (operation_of (Some instr)).op ≡ true
    → meaning arch base s instr ≡ operation_meaning arch s (operation_of (Some instr))
operation_means arch base s instr h =
    rw h (ap (λ (m : Meaning). if holds (condition instr) s.cpsr then m else skipped s) (sym (op_means arch base s (equivalent instr) h)))

-- and it needs no stop before its accesses: SWI isn't decoded
pub operation_needs_none : (instr : Instr) → is_decoded (operation_of (Some instr)).op ≡ true → swi_stop instr ≡ None
operation_needs_none (instrs.Swi cond immed) h = absurd (true≢false (sym h))
operation_needs_none (instrs.ThumbSwi immed) h = absurd (true≢false (sym h))
operation_needs_none _ h = refl

-- ---- what is run

-- what has an access means that access
pub means_access : (arch : Arch) (s : RegisterState) (op : Op) (access : DataAccess) → access_of s op ≡ Some access → op_meaning arch s op ≡ access_meaning arch s access
means_access arch s op access h = ap (meaning_by arch s op) h

-- what is as it is makes none
plain_none : (arch : Arch) (s : RegisterState) (instr : Instr) → (act_processing arch 0 s instr).accesses ≡ []
plain_none arch s (instrs.Data cond op set_flags rn rd operand) = refl
plain_none arch s _ = refl

-- so an operation's accesses are those of its access, if it has one
op_accesses : (arch : Arch) (s : RegisterState) (op : Op) → is_other op ≡ false → (op_meaning arch s op).accesses ≡ accesses_by arch s (access_of s op)
op_accesses arch s (Plain instr) h = plain_none arch s instr
op_accesses arch s (Multiple it) h = absurd (true≢false h)
op_accesses arch s _ h = refl

pub made_accesses : (arch : Arch) (s : RegisterState) (operation : Operation) → is_other operation.op ≡ false
    → (operation_meaning arch s operation).accesses ≡ accesses_by arch s (access_made s operation)
made_accesses arch s operation h = by_holds (holds operation.cond s.cpsr) where
  by_holds : (b : Bool) → (if b then op_meaning arch s operation.op else skipped s).accesses ≡ accesses_by arch s (if b then access_of s operation.op else None)
  by_holds true = op_accesses arch s operation.op h
  by_holds false = refl

-- so it is where its condition fails, whatever it is
pub skipped_accesses : (arch : Arch) (s : RegisterState) (operation : Operation) → holds operation.cond s.cpsr ≡ false
    → (operation_meaning arch s operation).accesses ≡ accesses_by arch s (access_made s operation)
skipped_accesses arch s operation h = rw h refl

-- what makes one access at most is known
pub run_is_decoded : (op : Op) → is_other op ≡ false → is_decoded op ≡ true
run_is_decoded Other h = absurd (true≢false h)
run_is_decoded _ h = refl

-- and one that has an access means that access
pub made_means : (arch : Arch) (s : RegisterState) (operation : Operation) (access : DataAccess) → access_made s operation ≡ Some access
    → operation_meaning arch s operation ≡ access_meaning arch s access
made_means arch s operation access h = by_holds (holds operation.cond s.cpsr) h where
  by_holds : (b : Bool) → (if b then access_of s operation.op else None) ≡ Some access → (if b then op_meaning arch s operation.op else skipped s) ≡ access_meaning arch s access
  by_holds true is = means_access arch s operation.op access is
  by_holds false is = absurd (none-some access is)

-- a word that is loaded to a register below r15 is no branch
pub low_word : (arch : Arch) (rd value : ℕ) (s : RegisterState) → rd < 15 → put_word arch rd value s ≡ put rd value s
low_word V4 rd value s h = refl
low_word V5 rd value s h = if_false (rd == 15) (exchanged value s) (put rd value s) (grind (arith, h))

-- what is run costs a clock at least
pub costs : (arch : Arch) (m : Meaning) (n : ℕ) → n ≡ cost_of arch m → 0 < n
costs arch m n h = let k = some_cost arch m in omega (arith, k, h)

pub not_none : {A : Type 0} (n : ℕ) (arch : Arch) (m : Meaning) → n ≡ cost_of arch m → n ≡ 0 → A
not_none n arch m h e = let k = some_cost arch m in absurd (omega (arith, k, h, e))
