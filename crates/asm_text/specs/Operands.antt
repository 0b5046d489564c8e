use Rattle.std.specs.Prelude.{ℕ, ◌==◌, List, [], ◌++◌, codes, Bool, not, if◌then◌else◌}
use Rattle.asm_text.specs.Text.{where_set, number, hex, register_name}
use Rattle.asm_text.specs.Names.{shift_name}
use Rattle.arm_words.specs.Canonical.{immediate}
use Rattle.arm_words.specs.declared.parts.Shift.{Shift}
use Rattle.arm_words.specs.declared.parts.Shift.TheVariants.{Lsl, Lsr, Asr, Ror}
use Rattle.arm_words.specs.declared.parts.Operand.{Operand}
use Rattle.arm_words.specs.declared.parts.Operand.TheVariants.{Immediate, Shifted, ShiftedByRegister}
use Rattle.arm_words.specs.declared.parts.Offset.{Offset}
use Rattle.arm_words.specs.declared.parts.Offset.TheVariants.{Number, Register}
use Rattle.arm_words.specs.declared.parts.ShortOffset.{ShortOffset}
use Rattle.arm_words.specs.declared.parts.ShortOffset.TheVariants.{ShortNumber, ShortRegister}
use Rattle.arm_words.specs.declared.parts.ThumbOperand.{ThumbOperand}
use Rattle.arm_words.specs.declared.parts.ThumbOperand.TheVariants.{LowRegister, Small}

-- an amount of 0 stands for 32
abbrev pub amount_shown : ℕ → ℕ
amount_shown amount = if amount == 0 then 32 else amount

-- a shift by an amount (ARM manual, "Addressing mode 1"): no shift isn't written, and Ror by 0 is `rrx`
abbrev pub shift_shown : Shift → ℕ → List ℕ
shift_shown Lsl amount = if amount == 0 then [] else codes ", lsl " ++ number amount
shift_shown Lsr amount = codes ", lsr " ++ number (amount_shown amount)
shift_shown Asr amount = codes ", asr " ++ number (amount_shown amount)
shift_shown Ror amount = if amount == 0 then codes ", rrx" else codes ", ror " ++ number amount

abbrev pub shifted : ℕ → Shift → ℕ → List ℕ
shifted rm shift amount = register_name rm ++ shift_shown shift amount

-- the last operand of data processing
abbrev pub operand : Operand → List ℕ
operand (Immediate rotate immed) = number (immediate rotate immed)
operand (Shifted rm shift amount) = shifted rm shift amount
operand (ShiftedByRegister rm shift rs) = register_name rm ++ (codes ", " ++ (shift_name shift ++ (codes " " ++ register_name rs)))

abbrev pub small_operand : ThumbOperand → List ℕ
small_operand (LowRegister rm) = register_name rm
small_operand (Small immed) = number immed

-- an offset, with a minus where it is taken away (ARM manual, "Addressing mode 2" and "3"); 0 has one too, so that each word has a
-- statement of its own
abbrev pub offset : Bool → Offset → List ℕ
offset up (Number n) = codes "#" ++ (where_set (not up) (codes "-") ++ hex n)
offset up (Register rm shift amount) = where_set (not up) (codes "-") ++ shifted rm shift amount

abbrev pub short_offset : Bool → ShortOffset → List ℕ
short_offset up (ShortNumber n) = codes "#" ++ (where_set (not up) (codes "-") ++ hex n)
short_offset up (ShortRegister rm) = where_set (not up) (codes "-") ++ register_name rm

-- a base and an offset in brackets
abbrev pub at_offset : ℕ → List ℕ → List ℕ
at_offset rn by = codes "[" ++ (register_name rn ++ (codes ", " ++ (by ++ codes "]")))

-- an address: the offset is added before the access or after it, and written back where that is marked
abbrev pub address : Bool → Bool → ℕ → List ℕ → List ℕ
address pre write_back rn by =
    if pre then at_offset rn by ++ where_set write_back (codes "!")
    else codes "[" ++ (register_name rn ++ (codes "], " ++ by))
