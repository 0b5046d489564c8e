use Rattle.std.proofs.Common.{ℕ, refl, sym, ◌∙◌, ap, subst, ◌≡◌, ◌<◌, ◌==◌, ◌||◌, ◌&&◌, ◌*◌, Bool, true, false, if◌then◌else◌, Option, Some, None, IfSome, arith}
use Rattle.std.specs.Prelude.{not}
use Rattle.std.proofs.lemmas.Bool.{and_parts, not-true, or_parts}
use Rattle.arm_words.specs.Fields.{HasFields, HasOffset, HasOperand, HasShortOffset, HasThumbOperand}
use Rattle.arm_words.specs.declared.instructions.Instr.{Instr}
use Rattle.arm_words.specs.declared.instructions.Instr.TheVariants as instrs
use Rattle.arm_words.specs.declared.operations.CompareOp.{CompareOp}
use Rattle.arm_words.specs.declared.operations.CompareOp.TheVariants.{Tst, Teq, Cmp, Cmn}
use Rattle.arm_words.specs.declared.operations.DataOp.{DataOp}
use Rattle.arm_words.specs.declared.operations.DataOp.TheVariants.{And, Eor, Sub, Rsb, Add, Adc, Sbc, Rsc, Orr, Bic}
use Rattle.arm_words.specs.declared.operations.HalfOp.TheVariants.{Strh, Ldrh, Ldrsb, Ldrsh}
use Rattle.arm_words.specs.declared.operations.HighOp.{HighOp}
use Rattle.arm_words.specs.declared.operations.HighOp.TheVariants as high_ops
use Rattle.arm_words.specs.declared.operations.MoveOp.{MoveOp}
use Rattle.arm_words.specs.declared.operations.MoveOp.TheVariants.{Mov, Mvn}
use Rattle.arm_words.specs.declared.operations.ThumbDataOp.{ThumbDataOp}
use Rattle.arm_words.specs.declared.operations.ThumbDataOp.TheVariants as thumb_ops
use Rattle.arm_words.specs.declared.operations.ThumbImmediateOp.{ThumbImmediateOp}
use Rattle.arm_words.specs.declared.operations.ThumbImmediateOp.TheVariants as immediate_ops
use Rattle.arm_words.specs.declared.operations.ThumbTransferOp.{ThumbTransferOp}
use Rattle.arm_words.specs.declared.operations.ThumbTransferOp.TheVariants as transfer_ops
use Rattle.arm_words.specs.declared.parts.Offset.{Offset}
use Rattle.arm_words.specs.declared.parts.Offset.TheVariants as offsets
use Rattle.arm_words.specs.declared.parts.Operand.{Operand}
use Rattle.arm_words.specs.declared.parts.Operand.TheVariants.{Immediate, Shifted, ShiftedByRegister}
use Rattle.arm_words.specs.declared.parts.Shift.{Shift}
use Rattle.arm_words.specs.declared.parts.Shift.TheVariants.{Lsl, Lsr, Asr, Ror}
use Rattle.arm_words.specs.declared.parts.ShortOffset.{ShortOffset}
use Rattle.arm_words.specs.declared.parts.ShortOffset.TheVariants.{ShortNumber, ShortRegister}
use Rattle.arm_words.specs.declared.parts.ThumbOperand.{ThumbOperand}
use Rattle.arm_words.specs.declared.parts.ThumbOperand.TheVariants.{LowRegister, Small}
use Rattle.arm_core.specs.Thumb.{equivalent, high_instr, immediate_instr, low_operand, offset_instr, register_instr, transfer_equivalent}
use Rattle.arm_ops.specs.Operations.{compare_number, compare_op, compare_register, data_by_shift, data_number, data_op, data_register, data_shifted, is_plain, is_simple, mla_op, move_number, move_op, move_shifted, mul_op, multiple_op, number_access, number_transfer, op_of, operation_of, register_access, register_transfer, rotated_number, shifted_register, short_transfer_op, transfer_op, AreAllLow, AreLow, HasOp, HasOperation, HasTransfer, IsMove}
use Rattle.arm_ops.specs.declared.operations.Number.{Number}
use Rattle.arm_ops.specs.declared.operations.Op.{Op}
use Rattle.arm_ops.specs.declared.operations.RegisterList.{RegisterList}
use Rattle.arm_ops.specs.declared.operations.Transfer.{Transfer}
use Rattle.arm_ops.specs.declared.operations.TransferOp.{TransferOp}
use Rattle.arm_ops.specs.declared.operations.TransferOp.TheVariants.{WordOrByte, HalfOrSigned}

-- What is decoded has its fields in their ranges, where the instruction has.

one_of : (b : Bool) (x y : Op) → HasOp x → HasOp y → HasOp (if b then x else y)
one_of true x y h k = h
one_of false x y h k = k

-- registers that aren't r15
picked : (b : Bool) (x y : Op) → HasOp x → (b ≡ false → HasOp y) → HasOp (if b then x else y)
picked true x y h k = h
picked false x y h k = k refl

one_low : (r : ℕ) → r < 16 → (r == 15) ≡ false → r < 15
one_low r h k = grind (arith, h)

two_low : (r other : ℕ) → r < 16 → other < 16 → (r == 15 || other == 15) ≡ false → AreLow r other
two_low r other h k e = let each = or_parts (r == 15) (other == 15) e in (one_low r h each.0, one_low other k each.1)

three_low : (rd rn rm : ℕ) → rd < 16 → rn < 16 → rm < 16 → ((rd == 15 || rn == 15) || rm == 15) ≡ false → AreAllLow rd rn rm
three_low rd rn rm d n m e = let each = or_parts (rd == 15 || rn == 15) (rm == 15) e in (two_low rd rn d n each.0, one_low rm m each.1)

-- data processing
number_fields : (i : Instr) (op : DataOp) (set_flags : Bool) (rd rn value : ℕ) → HasFields i → AreLow rd rn → HasOp (data_number i op set_flags rd rn value)
number_fields i And false rd rn value h low = low
number_fields i And true rd rn value h low = h
number_fields i Eor false rd rn value h low = low
number_fields i Eor true rd rn value h low = h
number_fields i Sub false rd rn value h low = low
number_fields i Sub true rd rn value h low = low
number_fields i Rsb false rd rn value h low = low
number_fields i Rsb true rd rn value h low = h
number_fields i Add false rd rn value h low = low
number_fields i Add true rd rn value h low = low
number_fields i Adc false rd rn value h low = h
number_fields i Adc true rd rn value h low = h
number_fields i Sbc false rd rn value h low = h
number_fields i Sbc true rd rn value h low = h
number_fields i Rsc false rd rn value h low = h
number_fields i Rsc true rd rn value h low = h
number_fields i Orr false rd rn value h low = low
number_fields i Orr true rd rn value h low = h
number_fields i Bic false rd rn value h low = low
number_fields i Bic true rd rn value h low = h

register_data_fields : (i : Instr) (op : DataOp) (set_flags : Bool) (rd rn rm : ℕ) → HasFields i → AreAllLow rd rn rm → HasOp (data_register i op set_flags rd rn rm)
register_data_fields i And false rd rn rm h low = low
register_data_fields i And true rd rn rm h low = low
register_data_fields i Eor false rd rn rm h low = low
register_data_fields i Eor true rd rn rm h low = low
register_data_fields i Sub false rd rn rm h low = low
register_data_fields i Sub true rd rn rm h low = low
register_data_fields i Rsb false rd rn rm h low = low
register_data_fields i Rsb true rd rn rm h low = h
register_data_fields i Add false rd rn rm h low = low
register_data_fields i Add true rd rn rm h low = low
register_data_fields i Adc false rd rn rm h low = h
register_data_fields i Adc true rd rn rm h low = h
register_data_fields i Sbc false rd rn rm h low = h
register_data_fields i Sbc true rd rn rm h low = h
register_data_fields i Rsc false rd rn rm h low = h
register_data_fields i Rsc true rd rn rm h low = h
register_data_fields i Orr false rd rn rm h low = low
register_data_fields i Orr true rd rn rm h low = low
register_data_fields i Bic false rd rn rm h low = low
register_data_fields i Bic true rd rn rm h low = low

shifted_fields : (i : Instr) (op : DataOp) (set_flags : Bool) (rd rn rm : ℕ) (shift : Shift) (amount : ℕ) → HasFields i → AreAllLow rd rn rm → amount < 32
    → HasOp (data_shifted i op set_flags rd rn (shifted_register rm shift amount))
shifted_fields i op false rd rn rm shift amount h low a = (low, a)
shifted_fields i op true rd rn rm shift amount h low a = h

by_shift_fields : (i : Instr) (op : DataOp) (set_flags : Bool) (rd rn rm : ℕ) (shift : Shift) (rs : ℕ) → HasFields i → AreAllLow rd rn rm → rs < 15
    → HasOp (data_by_shift i op set_flags rd rn rm shift rs)
by_shift_fields i op false rd rn rm shift rs h low by = (low, by)
by_shift_fields i op true rd rn rm shift rs h low by = h

data_fields : (i : Instr) (op : DataOp) (set_flags : Bool) (rd rn : ℕ) (operand : Operand) → HasFields i → rd < 16 → rn < 16 → HasOperand operand
    → HasOp (data_op i op set_flags rd rn operand)
data_fields i op set_flags rd rn (Immediate rotate immed) h d n o =
    picked (rd == 15 || rn == 15) _ _ h (λ e. number_fields i op set_flags rd rn (rotated_number rotate immed).value h (two_low rd rn d n e))
data_fields i op set_flags rd rn (Shifted rm shift amount) h d n o =
    picked ((rd == 15 || rn == 15) || rm == 15) _ _ h (λ e. let low = three_low rd rn rm d n o.0 e in
    one_of (is_plain shift amount) _ _ (register_data_fields i op set_flags rd rn rm h low) (shifted_fields i op set_flags rd rn rm shift amount h low o.1))
data_fields i op set_flags rd rn (ShiftedByRegister rm shift rs) h d n o =
    picked (((rd == 15 || rn == 15) || rm == 15) || rs == 15) _ _ h (λ e. let each = or_parts ((rd == 15 || rn == 15) || rm == 15) (rs == 15) e in
    by_shift_fields i op set_flags rd rn rm shift rs h (three_low rd rn rm d n o.0 each.0) (one_low rs o.1 each.1))

-- comparisons
compared_number : (i : Instr) (op : CompareOp) (rn : ℕ) (number : Number) → HasFields i → rn < 15 → HasOp (compare_number i op rn number)
compared_number i Tst rn number h low = low
compared_number i Cmp rn number h low = low
compared_number i Cmn rn number h low = low
compared_number i Teq rn number h low = h

compared_register : (i : Instr) (op : CompareOp) (rn rm : ℕ) → HasFields i → AreLow rn rm → HasOp (compare_register i op rn rm)
compared_register i Tst rn rm h low = low
compared_register i Cmp rn rm h low = low
compared_register i Cmn rn rm h low = h
compared_register i Teq rn rm h low = h

compare_fields : (i : Instr) (op : CompareOp) (rn : ℕ) (operand : Operand) → HasFields i → rn < 16 → HasOperand operand → HasOp (compare_op i op rn operand)
compare_fields i op rn (Immediate rotate immed) h n o = picked (rn == 15) _ _ h (λ e. compared_number i op rn (rotated_number rotate immed) h (one_low rn n e))
compare_fields i op rn (Shifted rm shift amount) h n o =
    picked (rn == 15 || rm == 15) _ _ h (λ e. one_of (is_plain shift amount) _ _ (compared_register i op rn rm h (two_low rn rm n o.0 e)) h)
compare_fields i op rn (ShiftedByRegister rm shift rs) h n o = h

-- moves
move_number_fields : (i : Instr) (op : MoveOp) (set_flags : Bool) (rd : ℕ) (number : Number) → HasFields i → rd < 15 → HasOp (move_number i op set_flags rd number)
move_number_fields i Mov false rd number h low = low
move_number_fields i Mvn false rd number h low = low
move_number_fields i Mov true rd number h low = low
move_number_fields i Mvn true rd number h low = h

move_shifted_fields : (i : Instr) (op : MoveOp) (set_flags : Bool) (rd rm : ℕ) (shift : Shift) (amount : ℕ) → HasFields i → IsMove rd rm amount
    → HasOp (move_shifted i op set_flags rd rm shift amount)
move_shifted_fields i Mov false rd rm Lsl amount h low = low
move_shifted_fields i Mov false rd rm Lsr amount h low = low
move_shifted_fields i Mov false rd rm Asr amount h low = low
move_shifted_fields i Mov false rd rm Ror amount h low = low
move_shifted_fields i Mov true rd rm Lsl amount h low = low
move_shifted_fields i Mov true rd rm Lsr amount h low = low
move_shifted_fields i Mov true rd rm Asr amount h low = low
move_shifted_fields i Mov true rd rm Ror amount h low = h
move_shifted_fields i Mvn false rd rm Lsl amount h low = h
move_shifted_fields i Mvn false rd rm Lsr amount h low = h
move_shifted_fields i Mvn false rd rm Asr amount h low = h
move_shifted_fields i Mvn false rd rm Ror amount h low = h
move_shifted_fields i Mvn true rd rm Lsl amount h low = h
move_shifted_fields i Mvn true rd rm Lsr amount h low = h
move_shifted_fields i Mvn true rd rm Asr amount h low = h
move_shifted_fields i Mvn true rd rm Ror amount h low = h

move_fields : (i : Instr) (op : MoveOp) (set_flags : Bool) (rd : ℕ) (operand : Operand) → HasFields i → rd < 16 → HasOperand operand → HasOp (move_op i op set_flags rd operand)
move_fields i op set_flags rd (Immediate rotate immed) h d o = picked (rd == 15) _ _ h (λ e. move_number_fields i op set_flags rd (rotated_number rotate immed) h (one_low rd d e))
move_fields i op set_flags rd (Shifted rm shift amount) h d o =
    picked (rd == 15 || rm == 15) _ _ h (λ e. move_shifted_fields i op set_flags rd rm shift amount h (two_low rd rm d o.0 e, o.1))
move_fields i op set_flags rd (ShiftedByRegister rm shift rs) h d o = h

-- products
mul_fields : (i : Instr) (set_flags : Bool) (rd rm rs : ℕ) → HasFields i → (rd < 16) × (rm < 16) × (rs < 16) → HasOp (mul_op i set_flags rd rm rs)
mul_fields i false rd rm rs h fits = fits
mul_fields i true rd rm rs h fits = h

mla_fields : (i : Instr) (set_flags : Bool) (rd rm rs rn : ℕ) → HasFields i → (rd < 16) × (rm < 16) × (rs < 16) × (rn < 16) → HasOp (mla_op i set_flags rd rm rs rn)
mla_fields i false rd rm rs rn h fits = fits
mla_fields i true rd rm rs rn h fits = h

-- loads and stores
chosen : (b : Bool) (x y : Op) → (b ≡ true → HasOp x) → HasOp y → HasOp (if b then x else y)
chosen true x y h k = h refl
chosen false x y h k = k

simple_low : (it : Transfer) → HasTransfer it → is_simple it ≡ true → AreLow it.rd it.rn
simple_low it h e =
    let two = and_parts ((it.pre && it.up) && not it.write_back) (not (it.rn == 15) && not (it.rd == 15)) e in
    let each = and_parts (not (it.rn == 15)) (not (it.rd == 15)) two.1 in
    (one_low it.rd h.1 (not-true (it.rd == 15) each.1), one_low it.rn h.0 (not-true (it.rn == 15) each.0))

number_access_fields : (op : TransferOp) (rd rn offset : ℕ) → AreLow rd rn → HasOp (number_access op rd rn offset)
number_access_fields (WordOrByte true true) rd rn offset low = low
number_access_fields (WordOrByte true false) rd rn offset low = low
number_access_fields (WordOrByte false true) rd rn offset low = low
number_access_fields (WordOrByte false false) rd rn offset low = low
number_access_fields (HalfOrSigned Strh) rd rn offset low = low
number_access_fields (HalfOrSigned Ldrh) rd rn offset low = low
number_access_fields (HalfOrSigned Ldrsb) rd rn offset low = low
number_access_fields (HalfOrSigned Ldrsh) rd rn offset low = low

number_transfer_fields : (it : Transfer) (offset : ℕ) → HasTransfer it → HasOp (number_transfer it offset)
number_transfer_fields it offset h = chosen (is_simple it) _ _ (λ e. number_access_fields it.op it.rd it.rn offset (simple_low it h e)) h

register_access_fields : (op : TransferOp) (rd rn rm : ℕ) → AreAllLow rd rn rm → HasOp (register_access op rd rn rm)
register_access_fields (WordOrByte true true) rd rn rm low = low
register_access_fields (WordOrByte true false) rd rn rm low = low
register_access_fields (WordOrByte false true) rd rn rm low = low
register_access_fields (WordOrByte false false) rd rn rm low = low
register_access_fields (HalfOrSigned Strh) rd rn rm low = low
register_access_fields (HalfOrSigned Ldrh) rd rn rm low = low
register_access_fields (HalfOrSigned Ldrsb) rd rn rm low = low
register_access_fields (HalfOrSigned Ldrsh) rd rn rm low = low

register_transfer_fields : (it : Transfer) (rm : ℕ) → HasTransfer it → rm < 16 → HasOp (register_transfer it rm)
register_transfer_fields it rm h m =
    chosen (is_simple it && not (rm == 15)) _ _ (λ e. let each = and_parts (is_simple it) (not (rm == 15)) e in
    register_access_fields it.op it.rd it.rn rm (simple_low it h each.0, one_low rm m (not-true (rm == 15) each.1))) (h, m)

transfer_fields : (it : Transfer) (offset : Offset) → HasTransfer it → HasOffset offset → HasOp (transfer_op it offset)
transfer_fields it (offsets.Number offset) h o = number_transfer_fields it offset h
transfer_fields it (offsets.Register rm shift amount) h o = one_of (is_plain shift amount) _ _ (register_transfer_fields it rm h o.0) (h, o)

short_fields : (it : Transfer) (offset : ShortOffset) → HasTransfer it → HasShortOffset offset → HasOp (short_transfer_op it offset)
short_fields it (ShortNumber offset) h o = number_transfer_fields it offset h
short_fields it (ShortRegister rm) h o = register_transfer_fields it rm h o

-- transfers of registers
multiple_fields : (user : Bool) (it : RegisterList) → it.rn < 16 → HasOp (multiple_op user it)
multiple_fields true it h = tt
multiple_fields false it h =
    picked (it.rn == 15 || it.list == 0) _ _ tt (λ e. (let each = or_parts (it.rn == 15) (it.list == 0) e in (one_low it.rn h each.0, each.1)))

pub op_fields : (i : Instr) → HasFields i → HasOp (op_of i)
op_fields (instrs.Data cond op set_flags rn rd operand) h = data_fields (instrs.Data cond op set_flags rn rd operand) op set_flags rd rn operand h h.1 h.0 h.2
op_fields (instrs.Compare cond op rn operand) h = compare_fields (instrs.Compare cond op rn operand) op rn operand h h.0 h.1
op_fields (instrs.Move cond op set_flags rd operand) h = move_fields (instrs.Move cond op set_flags rd operand) op set_flags rd operand h h.0 h.1
op_fields (instrs.Transfer cond pre up byte write_back load rn rd offset) h =
    transfer_fields (record { op = WordOrByte load byte; pre = pre; up = up; write_back = write_back; rn = rn; rd = rd }) offset (h.0, h.1) h.2
op_fields (instrs.HalfTransfer cond op pre up write_back rn rd offset) h =
    short_fields (record { op = HalfOrSigned op; pre = pre; up = up; write_back = write_back; rn = rn; rd = rd }) offset (h.0, h.1) h.2
op_fields (instrs.ThumbLoadLiteral rd immed) h = omega (arith, h)
op_fields (instrs.Mul cond set_flags rd rm rs) h = mul_fields (instrs.Mul cond set_flags rd rm rs) set_flags rd rm rs h h
op_fields (instrs.Mla cond set_flags rd rm rs rn) h = mla_fields (instrs.Mla cond set_flags rd rm rs rn) set_flags rd rm rs rn h h
op_fields (instrs.LongMultiply cond signed accumulate set_flags rd_lo rd_hi rm rs) h = h
op_fields (instrs.Multiple cond pre up user write_back load rn list) h =
    multiple_fields user (record { pre = pre; up = up; write_back = write_back; load = load; rn = rn; list = list }) h.0
op_fields (instrs.Bx cond rm) h = h
op_fields (instrs.ThumbAddress stack rd immed) h = h
op_fields (instrs.ThumbBlPrefix offset) h = h
op_fields (instrs.ThumbBlSuffix offset) h = h
op_fields _ h = tt

-- ---- and its form of ARM code

low : (r : ℕ) → r < 8 → r < 16
low r h = omega (arith, h)

operand_fields : (operand : ThumbOperand) → HasThumbOperand operand → HasOperand (low_operand operand)
operand_fields (LowRegister rm) h = (low rm h, omega arith)
operand_fields (Small immed) h = (omega arith, omega (arith, h))

immediate_fields : (op : ThumbImmediateOp) (rd immed : ℕ) → rd < 8 → immed < 256 → HasFields (immediate_instr op rd immed)
immediate_fields immediate_ops.Mov rd immed h k = (low rd h, (omega arith, k))
immediate_fields immediate_ops.Cmp rd immed h k = (low rd h, (omega arith, k))
immediate_fields immediate_ops.Add rd immed h k = (low rd h, low rd h, (omega arith, k))
immediate_fields immediate_ops.Sub rd immed h k = (low rd h, low rd h, (omega arith, k))

register_fields : (op : ThumbDataOp) (rm rd : ℕ) → rm < 8 → rd < 8 → HasFields (register_instr op rm rd)
register_fields thumb_ops.And rm rd m d = (low rd d, low rd d, (low rm m, omega arith))
register_fields thumb_ops.Eor rm rd m d = (low rd d, low rd d, (low rm m, omega arith))
register_fields thumb_ops.Lsl rm rd m d = (low rd d, (low rd d, low rm m))
register_fields thumb_ops.Lsr rm rd m d = (low rd d, (low rd d, low rm m))
register_fields thumb_ops.Asr rm rd m d = (low rd d, (low rd d, low rm m))
register_fields thumb_ops.Adc rm rd m d = (low rd d, low rd d, (low rm m, omega arith))
register_fields thumb_ops.Sbc rm rd m d = (low rd d, low rd d, (low rm m, omega arith))
register_fields thumb_ops.Ror rm rd m d = (low rd d, (low rd d, low rm m))
register_fields thumb_ops.Tst rm rd m d = (low rd d, (low rm m, omega arith))
register_fields thumb_ops.Neg rm rd m d = (low rm m, low rd d, (omega arith, omega arith))
register_fields thumb_ops.Cmp rm rd m d = (low rd d, (low rm m, omega arith))
register_fields thumb_ops.Cmn rm rd m d = (low rd d, (low rm m, omega arith))
register_fields thumb_ops.Orr rm rd m d = (low rd d, low rd d, (low rm m, omega arith))
register_fields thumb_ops.Mul rm rd m d = (low rd d, low rm m, low rd d)
register_fields thumb_ops.Bic rm rd m d = (low rd d, low rd d, (low rm m, omega arith))
register_fields thumb_ops.Mvn rm rd m d = (low rd d, (low rm m, omega arith))

high_fields : (op : HighOp) (rm rd : ℕ) → rm < 16 → rd < 16 → HasFields (high_instr op rm rd)
high_fields high_ops.Add rm rd m d = (d, d, (m, omega arith))
high_fields high_ops.Cmp rm rd m d = (d, (m, omega arith))
high_fields high_ops.Mov rm rd m d = (d, (m, omega arith))

-- loads and stores, of which the operation alone is told
abbrev at_sum : TransferOp → ℕ → ℕ → Transfer
at_sum op rn rd = record { op = op; pre = true; up = true; write_back = false; rn = rn; rd = rd }

offset_fields : (op : ThumbTransferOp) (rm rn rd : ℕ) → rm < 8 → rn < 8 → rd < 8 → HasOp (op_of (offset_instr op rm rn rd))
offset_fields transfer_ops.Str rm rn rd m n d = register_transfer_fields (at_sum (WordOrByte false false) rn rd) rm (low rn n, low rd d) (low rm m)
offset_fields transfer_ops.Strh rm rn rd m n d = register_transfer_fields (at_sum (HalfOrSigned Strh) rn rd) rm (low rn n, low rd d) (low rm m)
offset_fields transfer_ops.Strb rm rn rd m n d = register_transfer_fields (at_sum (WordOrByte false true) rn rd) rm (low rn n, low rd d) (low rm m)
offset_fields transfer_ops.Ldrsb rm rn rd m n d = register_transfer_fields (at_sum (HalfOrSigned Ldrsb) rn rd) rm (low rn n, low rd d) (low rm m)
offset_fields transfer_ops.Ldr rm rn rd m n d = register_transfer_fields (at_sum (WordOrByte true false) rn rd) rm (low rn n, low rd d) (low rm m)
offset_fields transfer_ops.Ldrh rm rn rd m n d = register_transfer_fields (at_sum (HalfOrSigned Ldrh) rn rd) rm (low rn n, low rd d) (low rm m)
offset_fields transfer_ops.Ldrb rm rn rd m n d = register_transfer_fields (at_sum (WordOrByte true true) rn rd) rm (low rn n, low rd d) (low rm m)
offset_fields transfer_ops.Ldrsh rm rn rd m n d = register_transfer_fields (at_sum (HalfOrSigned Ldrsh) rn rd) rm (low rn n, low rd d) (low rm m)

stack_low : 13 < 16
stack_low = omega arith

stack_fields : (load extra : Bool) (list : ℕ) → HasOp (op_of (transfer_equivalent (instrs.ThumbPushPop load extra list)))
stack_fields true extra list = multiple_fields false _ stack_low
stack_fields false extra list = multiple_fields false _ stack_low

address_fields : (stack : Bool) (rd immed : ℕ) → rd < 8 → immed < 256 → HasOp (op_of (equivalent (instrs.ThumbAddress stack rd immed)))
address_fields true rd immed d k = op_fields (equivalent (instrs.ThumbAddress true rd immed)) (omega arith, low rd d, (omega arith, k))
address_fields false rd immed d k = (d, k)

instr_fields : (i : Instr) → HasFields i → HasOp (op_of (equivalent i))
instr_fields (instrs.ThumbAddSub subtract operand rn rd) h =
    op_fields (equivalent (instrs.ThumbAddSub subtract operand rn rd)) (low rn h.1, low rd h.2, operand_fields operand h.0)
instr_fields (instrs.ThumbShift shift amount rm rd) h = op_fields (equivalent (instrs.ThumbShift shift amount rm rd)) (low rd h.2, (low rm h.1, h.0))
instr_fields (instrs.ThumbImmediate op rd immed) h = op_fields (immediate_instr op rd immed) (immediate_fields op rd immed h.0 h.1)
instr_fields (instrs.ThumbData op rm rd) h = op_fields (register_instr op rm rd) (register_fields op rm rd h.0 h.1)
instr_fields (instrs.ThumbHigh op rm rd) h = op_fields (high_instr op rm rd) (high_fields op rm rd h.0 h.1)
instr_fields (instrs.ThumbAddress stack rd immed) h = address_fields stack rd immed h.0 h.1
instr_fields (instrs.ThumbAdjustStack subtract immed) h = op_fields (equivalent (instrs.ThumbAdjustStack subtract immed)) (omega arith, omega arith, (omega arith, omega (arith, h)))
instr_fields (instrs.ThumbRegisterOffset op rm rn rd) h = offset_fields op rm rn rd h.0 h.1 h.2
instr_fields (instrs.ThumbImmediateOffset byte load immed rn rd) h =
    number_transfer_fields (at_sum (WordOrByte load byte) rn rd) (if byte then immed else 4 * immed) (low rn h.1, low rd h.2)
instr_fields (instrs.ThumbHalfOffset load immed rn rd) h =
    number_transfer_fields (at_sum (HalfOrSigned (if load then Ldrh else Strh)) rn rd) (2 * immed) (low rn h.1, low rd h.2)
instr_fields (instrs.ThumbStackOffset load rd immed) h = number_transfer_fields (at_sum (WordOrByte load false) 13 rd) (4 * immed) (omega arith, low rd h.0)
instr_fields (instrs.ThumbPushPop load extra list) h = stack_fields load extra list
instr_fields (instrs.ThumbMultiple load rn list) h = multiple_fields false _ (low rn h.0)
instr_fields (instrs.ThumbBx rm) h = h
instr_fields (instrs.ThumbBlxRegister rm) h = tt
instr_fields (instrs.ThumbBkpt immed) h = tt
instr_fields (instrs.ThumbSwi immed) h = tt
instr_fields i h = op_fields i h

pub operation_fields : (o : Option Instr) → IfSome o HasFields → HasOperation (operation_of o)
operation_fields None h = (tt, λ other. refl)
operation_fields (Some i) h = (instr_fields i h, λ other. rw other refl)

-- by what an instruction is found to be, and what its operation is made by
pub found : {i j : Instr} (by : Instr → Op) (result : Op) → i ≡ j → result ≡ by i → by j ≡ op_of j → HasFields i → HasOp result
found {i} {j} by result is made same h = subst HasOp (sym (made ∙ ap by is ∙ same)) (op_fields j (subst HasFields is h))
