-- Which words and halves have a statement of their own.
use Rattle.std.specs.Prelude.{ℕ, ◌==◌, ◌&&◌, Bool, bit_and}
use Rattle.arm_words.specs.Canonical.{canonical_form}
use Rattle.arm_words.specs.declared.parts.ShortOffset.{ShortOffset}
use Rattle.arm_words.specs.declared.parts.ShortOffset.TheVariants.{ShortNumber, ShortRegister}
use Rattle.arm_words.specs.declared.instructions.Instr.{Instr}
use Rattle.arm_words.specs.declared.instructions.Instr.TheVariants.{Bx, BlxRegister, Clz, Saturating, Smulw, Smul, Mul, Swap, HalfTransfer, Mrs, Msr, MsrImmediate, Compare, Move, DoubleTransfer, ThumbBx, ThumbBlxRegister}

-- the bits of a word or half that decoding doesn't look at, and those of them that should be one; the others should be zero (ARM manual, SBO and SBZ)
pub record Unread : Type 0 where
  pub bits : ℕ
  pub ones : ℕ

abbrev pub unread : ℕ → ℕ → Unread
unread bits ones = record { bits = bits; ones = ones }

-- bits 11 to 8 of a register's offset
abbrev pub unread_of_offset : ShortOffset → Unread
unread_of_offset (ShortNumber offset) = unread 0 0
unread_of_offset (ShortRegister rm) = unread 0x00000F00 0

abbrev pub unread_of : Instr → Unread
unread_of (Bx cond rm) = unread 0x000FFF00 0x000FFF00
unread_of (BlxRegister cond rm) = unread 0x000FFF00 0x000FFF00
unread_of (Clz cond rd rm) = unread 0x000F0F00 0x000F0F00
unread_of (Saturating cond double subtract rd rm rn) = unread 0x00000F00 0
unread_of (Smulw cond y rd rm rs) = unread 0x0000F000 0
unread_of (Smul cond x y rd rm rs) = unread 0x0000F000 0
unread_of (Mul cond set_flags rd rm rs) = unread 0x0000F000 0
unread_of (Swap cond byte rd rm rn) = unread 0x00000F00 0
unread_of (HalfTransfer cond op pre up write_back rn rd offset) = unread_of_offset offset
unread_of (Mrs cond spsr rd) = unread 0x000F0F0F 0x000F0000
unread_of (Msr cond spsr fields rm) = unread 0x0000FF00 0x0000F000
unread_of (MsrImmediate cond spsr fields rotate immed) = unread 0x0000F000 0x0000F000
unread_of (Compare cond op rn operand) = unread 0x0000F000 0
unread_of (Move cond op set_flags rd operand) = unread 0x000F0000 0
unread_of (DoubleTransfer cond store pre up write_back rn rd offset) = unread_of_offset offset
unread_of (ThumbBx rm) = unread 0x0007 0
unread_of (ThumbBlxRegister rm) = unread 0x0007 0
unread_of _ = unread 0 0

-- a word or half that stands for an instruction is canonical: the instruction has a canonical form, and those bits are as they should be
abbrev pub is_canonical : ℕ → Instr → Bool
is_canonical number i = canonical_form i && (bit_and number (unread_of i).bits == (unread_of i).ones)
