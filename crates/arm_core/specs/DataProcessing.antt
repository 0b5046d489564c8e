use Rattle.std.specs.Prelude.{ℕ, ◌+◌, ◌-◌, ◌/◌, ◌%◌, ◌^◌, ◌==◌, nat_le, bit_and, bit_or, bit_xor, Bool, true, false, ◌&&◌, not, if◌then◌else◌, [], slice_index, Option, Some, None}
use Rattle.std.specs.Int.{bit_not, w32}
use Rattle.ds_base.specs.Bits.{bit, flag}
use Rattle.arm_words.specs.declared.operations.DataOp.{DataOp}
use Rattle.arm_words.specs.declared.operations.DataOp.TheVariants.{And, Eor, Sub, Rsb, Add, Adc, Sbc, Rsc, Orr, Bic}
use Rattle.arm_words.specs.declared.operations.CompareOp.{CompareOp}
use Rattle.arm_words.specs.declared.operations.CompareOp.TheVariants.{Tst, Teq, Cmp, Cmn}
use Rattle.arm_words.specs.declared.operations.MoveOp.{MoveOp}
use Rattle.arm_words.specs.declared.operations.MoveOp.TheVariants.{Mov, Mvn}
use Rattle.arm_words.specs.declared.parts.Operand.{Operand}
use Rattle.arm_words.specs.declared.parts.Operand.TheVariants.{ShiftedByRegister}
use Rattle.arm_core.specs.Registers.{RegisterState, bank, saved_place, next, put}
use Rattle.arm_core.specs.Conditions.{c_flag, v_flag}
use Rattle.arm_core.specs.Shifter.{shifter_operand, first_operand}
use Rattle.arm_core.specs.declared.shifter.Shifted32.{Shifted32}
use Rattle.arm_core.specs.declared.results.Computed.{Computed}
use Rattle.arm_core.specs.Effects.{Meaning}
use Rattle.arm_core.specs.declared.classes.Class.{Class}
use Rattle.arm_core.specs.declared.classes.Class.TheVariants.{Processing, ShiftByRegister}

-- Data processing (ARM manual, A3.4 "Data-processing instructions", and A4.1 under each name).

-- the flags after a result and the C and V that go with it: N is its bit 31, Z that it is 0
abbrev pub with_flags : Computed → RegisterState → RegisterState
with_flags r s = record s { cpsr = s.cpsr % 2 ^ 28 + flag 28 r.overflow + flag 29 r.carry + flag 30 (r.value == 0) + flag 31 (bit 31 r.value) }

-- the sign of a word: 1 where it is negative
abbrev pub sign : ℕ → ℕ
sign word = word / 2 ^ 31

-- a + b + c of words, with CarryFrom and OverflowFrom (the manual's glossary): two signs are alike and the sum's isn't
abbrev pub sum_of : ℕ → ℕ → ℕ → Computed
sum_of a b c = let value = (a + b + c) % 2 ^ 32 in record {
  value = value;
  carry = nat_le (2 ^ 32) (a + b + c);
  overflow = sign a == sign b && not (sign a == sign value);
}

-- a - b - c of words, with NOT BorrowFrom and OverflowFrom: the signs of a and b differ, and those of a and of the difference do
abbrev pub difference_of : ℕ → ℕ → ℕ → Computed
difference_of a b c = let value = (a + 2 ^ 32 - (b + c)) % 2 ^ 32 in record {
  value = value;
  carry = nat_le (b + c) a;
  overflow = not (sign a == sign b) && not (sign a == sign value);
}

-- a logical result: C is the shifter's carry, V stays
abbrev pub logical : ℕ → Bool → Bool → Computed
logical value carry v = record { value = value; carry = carry; overflow = v }

-- C as a number, and NOT C
abbrev pub as_one : Bool → ℕ
as_one c = flag 0 c

-- from rn, shifter_operand and the flags
abbrev pub data_result : DataOp → ℕ → Shifted32 → Bool → Bool → Computed
data_result And rn operand c v = logical (bit_and rn operand.value) operand.carry v
data_result Eor rn operand c v = logical (bit_xor rn operand.value) operand.carry v
data_result Sub rn operand c v = difference_of rn operand.value 0
data_result Rsb rn operand c v = difference_of operand.value rn 0
data_result Add rn operand c v = sum_of rn operand.value 0
data_result Adc rn operand c v = sum_of rn operand.value (as_one c)
data_result Sbc rn operand c v = difference_of rn operand.value (as_one (not c))
data_result Rsc rn operand c v = difference_of operand.value rn (as_one (not c))
data_result Orr rn operand c v = logical (bit_or rn operand.value) operand.carry v
data_result Bic rn operand c v = logical (bit_and rn (bit_not w32 operand.value)) operand.carry v

abbrev pub compare_result : CompareOp → ℕ → Shifted32 → Bool → Computed
compare_result Tst rn operand v = logical (bit_and rn operand.value) operand.carry v
compare_result Teq rn operand v = logical (bit_xor rn operand.value) operand.carry v
compare_result Cmp rn operand v = difference_of rn operand.value 0
compare_result Cmn rn operand v = sum_of rn operand.value 0

abbrev pub move_result : MoveOp → Shifted32 → Bool → Computed
move_result Mov operand v = logical operand.value operand.carry v
move_result Mvn operand v = logical (bit_not w32 operand.value) operand.carry v

-- CPSR is SPSR again, where the mode has one (an exception's return)
abbrev pub restored_from : Option ℕ → RegisterState → RegisterState
restored_from None s = s
restored_from (Some at) s = record s { cpsr = slice_index s.saved at }

abbrev pub restored : RegisterState → RegisterState
restored s = restored_from (saved_place (bank s)) s

-- the result goes to rd. With S the flags are set, or for r15 CPSR is restored, whose state then aligns it
abbrev pub result_put : Bool → ℕ → Computed → RegisterState → RegisterState
result_put false rd r s = put rd r.value s
result_put true rd r s = put rd r.value (if rd == 15 then restored s else with_flags r s)

-- a shift by a register costs more
abbrev pub operand_class : Operand → Class
operand_class (ShiftedByRegister rm shift rs) = ShiftByRegister
operand_class _ = Processing

abbrev pub data_meaning : RegisterState → DataOp → Bool → ℕ → ℕ → Operand → Meaning
data_meaning s op set_flags rn rd operand =
    let result = data_result op (first_operand s operand rn) (shifter_operand s operand) (c_flag s.cpsr) (v_flag s.cpsr) in
    record { accesses = []; after = λ values. result_put set_flags rd result (next s); class = operand_class operand; jumps = rd == 15 }

abbrev pub compare_meaning : RegisterState → CompareOp → ℕ → Operand → Meaning
compare_meaning s op rn operand =
    let result = compare_result op (first_operand s operand rn) (shifter_operand s operand) (v_flag s.cpsr) in
    record { accesses = []; after = λ values. with_flags result (next s); class = operand_class operand; jumps = false }

abbrev pub move_meaning : RegisterState → MoveOp → Bool → ℕ → Operand → Meaning
move_meaning s op set_flags rd operand =
    let result = move_result op (shifter_operand s operand) (v_flag s.cpsr) in
    record { accesses = []; after = λ values. result_put set_flags rd result (next s); class = operand_class operand; jumps = rd == 15 }
