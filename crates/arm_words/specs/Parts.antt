use Rattle.std.specs.Prelude.{ℕ, ◌+◌, ◌*◌, ◌/◌, ◌%◌, ◌^◌, if◌then◌else◌, [], ◌∷◌, slice_index_or}
use Rattle.ds_base.specs.Bits.{bits, bit, flag}
use Rattle.arm_words.specs.declared.parts.Condition.{Condition}
use Rattle.arm_words.specs.declared.parts.Condition.TheVariants.{Eq, Ne, Cs, Cc, Mi, Pl, Vs, Vc, Hi, Ls, Ge, Lt, Gt, Le, Al}
use Rattle.arm_words.specs.declared.parts.Shift.{Shift}
use Rattle.arm_words.specs.declared.parts.Shift.TheVariants.{Lsl, Lsr, Asr, Ror}
use Rattle.arm_words.specs.declared.parts.Operand.{Operand}
use Rattle.arm_words.specs.declared.parts.Operand.TheVariants.{Immediate, Shifted, ShiftedByRegister}
use Rattle.arm_words.specs.declared.parts.Offset.{Offset}
use Rattle.arm_words.specs.declared.parts.Offset.TheVariants.{Number, Register}
use Rattle.arm_words.specs.declared.parts.ShortOffset.{ShortOffset}
use Rattle.arm_words.specs.declared.parts.ShortOffset.TheVariants.{ShortNumber, ShortRegister}
use Rattle.arm_words.specs.declared.parts.FieldMask.{FieldMask}
use Rattle.arm_words.specs.declared.parts.ThumbOperand.{ThumbOperand}
use Rattle.arm_words.specs.declared.parts.ThumbOperand.TheVariants.{LowRegister, Small}

-- conditions by their numbers (ARM manual, "The condition field"; 1111 is none, and isn't asked for)
abbrev pub condition_of : ℕ → Condition
condition_of n = slice_index_or (Eq ∷ Ne ∷ Cs ∷ Cc ∷ Mi ∷ Pl ∷ Vs ∷ Vc ∷ Hi ∷ Ls ∷ Ge ∷ Lt ∷ Gt ∷ Le ∷ []) n Al

abbrev pub condition_number : Condition → ℕ
condition_number Eq = 0
condition_number Ne = 1
condition_number Cs = 2
condition_number Cc = 3
condition_number Mi = 4
condition_number Pl = 5
condition_number Vs = 6
condition_number Vc = 7
condition_number Hi = 8
condition_number Ls = 9
condition_number Ge = 10
condition_number Lt = 11
condition_number Gt = 12
condition_number Le = 13
condition_number Al = 14

-- shifts by their numbers (ARM manual, "Addressing mode 1")
abbrev pub shift_of : ℕ → Shift
shift_of n = slice_index_or (Lsl ∷ Lsr ∷ Asr ∷ []) n Ror

abbrev pub shift_number : Shift → ℕ
shift_number Lsl = 0
shift_number Lsr = 1
shift_number Asr = 2
shift_number Ror = 3

-- the operand of data processing (ARM manual, "Addressing mode 1"): bit 25 chooses a number, then bit 4 a shift by a register
abbrev pub operand_of : ℕ → Operand
operand_of word =
    if bit 25 word then Immediate (bits 8 4 word) (bits 0 8 word)
    else if bit 4 word then ShiftedByRegister (bits 0 4 word) (shift_of (bits 5 2 word)) (bits 8 4 word)
    else Shifted (bits 0 4 word) (shift_of (bits 5 2 word)) (bits 7 5 word)

abbrev pub operand_bits : Operand → ℕ
operand_bits (Immediate rotate immed) = 0x02000000 + rotate * 2 ^ 8 + immed
operand_bits (Shifted rm shift amount) = amount * 2 ^ 7 + shift_number shift * 2 ^ 5 + rm
operand_bits (ShiftedByRegister rm shift rs) = rs * 2 ^ 8 + shift_number shift * 2 ^ 5 + 0x10 + rm

-- the offset of a transfer of a word or byte (ARM manual, "Addressing mode 2"): bit 25 chooses a register
abbrev pub offset_of : ℕ → Offset
offset_of word =
    if bit 25 word then Register (bits 0 4 word) (shift_of (bits 5 2 word)) (bits 7 5 word)
    else Number (bits 0 12 word)

abbrev pub offset_bits : Offset → ℕ
offset_bits (Number offset) = offset
offset_bits (Register rm shift amount) = 0x02000000 + amount * 2 ^ 7 + shift_number shift * 2 ^ 5 + rm

-- the offset of the other transfers (ARM manual, "Addressing mode 3"): bit 22 chooses a number, in two parts; where it is a
-- register, bits 11 to 8 should be zeros
abbrev pub short_offset_of : ℕ → ShortOffset
short_offset_of word = if bit 22 word then ShortNumber (bits 8 4 word * 2 ^ 4 + bits 0 4 word) else ShortRegister (bits 0 4 word)

abbrev pub short_offset_bits : ShortOffset → ℕ
short_offset_bits (ShortNumber offset) = 0x00400000 + offset / 2 ^ 4 * 2 ^ 8 + offset % 2 ^ 4
short_offset_bits (ShortRegister rm) = rm

-- the fields that MSR writes (ARM manual, "MSR")
abbrev pub field_mask_of : ℕ → FieldMask
field_mask_of word = record { f = bit 19 word; s = bit 18 word; x = bit 17 word; c = bit 16 word }

abbrev pub field_mask_bits : FieldMask → ℕ
field_mask_bits m = flag 19 m.f + flag 18 m.s + flag 17 m.x + flag 16 m.c

-- the last operand of Thumb's ADD and SUB (ARM manual, "ADD (1)", "ADD (3)"): bit 10 chooses a number
abbrev pub thumb_operand_of : ℕ → ThumbOperand
thumb_operand_of half = if bit 10 half then Small (bits 6 3 half) else LowRegister (bits 6 3 half)

abbrev pub thumb_operand_bits : ThumbOperand → ℕ
thumb_operand_bits (LowRegister rm) = rm * 2 ^ 6
thumb_operand_bits (Small immed) = 0x0400 + immed * 2 ^ 6
