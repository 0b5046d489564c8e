use Rattle.std.specs.Prelude.{ℕ, ◌+◌, ◌-◌, ◌*◌, ◌/◌, ◌%◌, ◌^◌, ◌==◌, Bool, true, false, ◌&&◌, ◌||◌, if◌then◌else◌, []}
use Rattle.ds_base.specs.Bits.{bit, flag}
use Rattle.arm_core.specs.Registers.{RegisterState, register, next, put}
use Rattle.arm_core.specs.Effects.{Meaning}
use Rattle.arm_core.specs.declared.classes.Class.TheVariants.{Multiply, LongMultiply}

-- Multiplies (ARM manual, A3.5 "Multiply instructions"). C and V stay; r15 is an operand or a result like any other (our choice).

-- N and Z are set, if they are to be
abbrev pub with_sign : Bool → Bool → Bool → RegisterState → RegisterState
with_sign false n z s = s
with_sign true n z s = record s { cpsr = s.cpsr % 2 ^ 30 + flag 30 z + flag 31 n }

-- MUL and MLA: rm * rs + what is added
abbrev pub multiply_meaning : RegisterState → Bool → ℕ → ℕ → ℕ → ℕ → Meaning
multiply_meaning s set_flags rd rm rs added =
    let product = (register s rm * register s rs + added) % 2 ^ 32 in
    record {
      accesses = [];
      after = λ values. put rd product (with_sign set_flags (bit 31 product) (product == 0) (next s));
      class = Multiply;
      jumps = rd == 15;
    }

-- a word as a number modulo 2^64: itself, or with its sign
abbrev pub widened : Bool → ℕ → ℕ
widened signed word = if signed && bit 31 word then word + (2 ^ 64 - 2 ^ 32) else word

-- UMULL, UMLAL, SMULL and SMLAL: the product modulo 2^64, with what is added
abbrev pub long_product : Bool → ℕ → ℕ → ℕ → ℕ
long_product signed rm rs added = (widened signed rm * widened signed rs + added) % 2 ^ 64

-- the low word goes to rd_lo and then the high word to rd_hi
abbrev pub with_long : ℕ → ℕ → ℕ → RegisterState → RegisterState
with_long rd_lo rd_hi product s = put rd_hi (product / 2 ^ 32) (put rd_lo (product % 2 ^ 32) s)

abbrev pub long_multiply_meaning : RegisterState → Bool → Bool → Bool → ℕ → ℕ → ℕ → ℕ → Meaning
long_multiply_meaning s signed accumulate set_flags rd_lo rd_hi rm rs =
    let added = if accumulate then register s rd_lo + 2 ^ 32 * register s rd_hi else 0 in
    let product = long_product signed (register s rm) (register s rs) added in
    record {
      accesses = [];
      after = λ values. with_long rd_lo rd_hi product (with_sign set_flags (bit 63 product) (product == 0) (next s));
      class = LongMultiply;
      jumps = rd_lo == 15 || rd_hi == 15;
    }
