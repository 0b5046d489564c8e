use Rattle.std.specs.Prelude.{ℕ, ◌+◌, ◌==◌, bit_and, bit_or, Bool, true, false, if◌then◌else◌, [], slice_index, slice_set, Option, Some, None}
use Rattle.std.specs.Int.{bit_not, w32}
use Rattle.ds_base.specs.Bits.{bits}
use Rattle.ds_base.specs.declared.processors.Arch.{Arch}
use Rattle.ds_base.specs.declared.processors.Arch.TheVariants.{V4, V5}
use Rattle.arm_words.specs.declared.parts.FieldMask.{FieldMask}
use Rattle.arm_core.specs.Registers.{RegisterState, bank, saved_place, next, put}
use Rattle.arm_core.specs.Effects.{Meaning, without_access}
use Rattle.arm_core.specs.declared.classes.Class.TheVariants.{Processing}

-- The status registers (ARM manual, A3.10 "Status register access instructions").

-- the bits that a status register keeps: N, Z, C, V, on ARMv5 Q, and I, F, T and the mode (A2.5)
abbrev pub kept_status_bits : Arch → ℕ
kept_status_bits V4 = 0xF00000FF
kept_status_bits V5 = 0xF80000FF

abbrev pub field : ℕ → Bool → ℕ
field bytes true = bytes
field bytes false = 0

-- the bits of the fields that MSR writes
abbrev pub field_bits : FieldMask → ℕ
field_bits m = field 0x000000FF m.c + field 0x0000FF00 m.x + field 0x00FF0000 m.s + field 0xFF000000 m.f

-- User mode
abbrev pub is_user : RegisterState → Bool
is_user s = bits 0 5 s.cpsr == 0x10

-- the bits of CPSR that a program may write: in User mode the flags alone, and never T
abbrev pub writable : RegisterState → ℕ
writable s = if is_user s then 0xFF000000 else 0xFFFFFFDF

-- the bits under a mask are the operand's
abbrev pub replaced : ℕ → ℕ → ℕ → ℕ
replaced mask old operand = bit_or (bit_and old (bit_not w32 mask)) (bit_and operand mask)

-- a missing SPSR isn't written, and reads as 0 (our choice)
abbrev pub with_saved : Option ℕ → ℕ → ℕ → RegisterState → RegisterState
with_saved None mask operand s = s
with_saved (Some at) mask operand s = record s { saved = slice_set s.saved at (replaced mask (slice_index s.saved at) operand) }

abbrev pub saved_value : Option ℕ → RegisterState → ℕ
saved_value None s = 0
saved_value (Some at) s = slice_index s.saved at

-- MSR
abbrev pub status_register_written : Arch → Bool → FieldMask → ℕ → RegisterState → RegisterState
status_register_written arch true fields operand s =
    with_saved (saved_place (bank s)) (bit_and (field_bits fields) (kept_status_bits arch)) operand s
status_register_written arch false fields operand s =
    record s { cpsr = replaced (bit_and (bit_and (field_bits fields) (kept_status_bits arch)) (writable s)) s.cpsr operand }

abbrev pub msr_meaning : Arch → RegisterState → Bool → FieldMask → ℕ → Meaning
msr_meaning arch s spsr fields operand = without_access (status_register_written arch spsr fields operand (next s)) Processing

-- MRS
abbrev pub mrs_meaning : RegisterState → Bool → ℕ → Meaning
mrs_meaning s spsr rd =
    let value = if spsr then saved_value (saved_place (bank s)) s else s.cpsr in
    record { accesses = []; after = λ values. put rd value (next s); class = Processing; jumps = rd == 15 }
