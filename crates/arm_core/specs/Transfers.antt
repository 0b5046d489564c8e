use Rattle.std.specs.Prelude.{ℕ, ◌+◌, ◌*◌, ◌%◌, ◌^◌, ◌==◌, Bool, true, false, if◌then◌else◌, [], ◌∷◌, slice_index}
use Rattle.std.specs.Int.{rotate_right, w32}
use Rattle.ds_base.specs.Accesses.{Read, Write}
use Rattle.ds_base.specs.Bits.{bit}
use Rattle.ds_base.specs.Numbers.{cut_to}
use Rattle.ds_base.specs.declared.memories.Width.{Width}
use Rattle.ds_base.specs.declared.memories.Width.TheVariants.{Byte, Half, Word}
use Rattle.ds_base.specs.declared.processors.Arch.{Arch}
use Rattle.ds_base.specs.declared.processors.Arch.TheVariants.{V4, V5}
use Rattle.arm_words.specs.declared.parts.Offset.{Offset}
use Rattle.arm_words.specs.declared.parts.ShortOffset.{ShortOffset}
use Rattle.arm_words.specs.declared.operations.HalfOp.{HalfOp}
use Rattle.arm_words.specs.declared.operations.HalfOp.TheVariants.{Strh, Ldrh, Ldrsb, Ldrsh}
use Rattle.arm_core.specs.Registers.{RegisterState, late_register, next, put}
use Rattle.arm_core.specs.Addressing.{addressed, addressed_literal, offset_value, short_offset_value, with_base}
use Rattle.arm_core.specs.Branches.{exchanged}
use Rattle.arm_core.specs.declared.addresses.Addressed.{Addressed}
use Rattle.arm_core.specs.Effects.{Meaning}
use Rattle.arm_core.specs.declared.classes.Class.TheVariants.{Load, Store}

-- Loads and stores of one register (ARM manual, A3.11 "Load and store instructions").

-- a word that is read at an address that isn't aligned is rotated, so that the byte at the address is the lowest (A2.8 "Unaligned
-- access support", LDR)
abbrev pub rotated_word : ℕ → ℕ → ℕ
rotated_word address value = rotate_right w32 value (8 * (address % 4))

-- the low half, or the low byte, of a value with its sign
abbrev pub signed_half : ℕ → ℕ
signed_half value = value % 2 ^ 16 + (if bit 15 value then 0xFFFF0000 else 0)

abbrev pub signed_byte : ℕ → ℕ
signed_byte value = value % 2 ^ 8 + (if bit 7 value then 0xFFFFFF00 else 0)

-- a half that is read at an odd address: ARMv4 rotates it by 8 in 32 bits, ARMv5 aligns (our choice)
abbrev pub rotated_half : Arch → ℕ → ℕ → ℕ
rotated_half V4 address value = rotate_right w32 (value % 2 ^ 16) (8 * (address % 2))
rotated_half V5 address value = value % 2 ^ 16

-- a load: rd has what was read, also where it is the base that was written back
abbrev pub load_meaning : RegisterState → ℕ → ℕ → Addressed → Width → (ℕ → ℕ) → Meaning
load_meaning s rn rd to width loaded = record {
  accesses = Read to.address width ∷ [];
  after = λ values. put rd (loaded (slice_index values 0)) (with_base to.written rn to.base (next s));
  class = Load;
  jumps = rd == 15;
}

-- LDR: on ARMv5 a load of r15 is a branch and exchange
abbrev pub put_word : Arch → ℕ → ℕ → RegisterState → RegisterState
put_word V4 rd value s = put rd value s
put_word V5 rd value s = if rd == 15 then exchanged value s else put rd value s

abbrev pub load_word_meaning : Arch → RegisterState → ℕ → ℕ → Addressed → Meaning
load_word_meaning arch s rn rd to = record {
  accesses = Read to.address Word ∷ [];
  after = λ values. put_word arch rd (rotated_word to.address (slice_index values 0)) (with_base to.written rn to.base (next s));
  class = Load;
  jumps = rd == 15;
}

-- a store: the base is still the old one where it is stored
abbrev pub store_meaning : RegisterState → ℕ → ℕ → Addressed → Width → Meaning
store_meaning s rn rd to width = record {
  accesses = Write to.address width (cut_to width (late_register s rd)) ∷ [];
  after = λ values. with_base to.written rn to.base (next s);
  class = Store;
  jumps = false;
}

-- LDR, LDRB, STR, STRB, by L and B
abbrev pub word_or_byte_meaning : Arch → RegisterState → Bool → Bool → ℕ → ℕ → Addressed → Meaning
word_or_byte_meaning arch s true true rn rd to = load_meaning s rn rd to Byte (λ value. value % 2 ^ 8)
word_or_byte_meaning arch s true false rn rd to = load_word_meaning arch s rn rd to
word_or_byte_meaning arch s false true rn rd to = store_meaning s rn rd to Byte
word_or_byte_meaning arch s false false rn rd to = store_meaning s rn rd to Word

-- their `t` forms act as the plain ones (our choice)
abbrev pub transfer_meaning : Arch → RegisterState → Bool → Bool → Bool → Bool → Bool → ℕ → ℕ → Offset → Meaning
transfer_meaning arch s pre up byte write_back load rn rd offset =
    word_or_byte_meaning arch s load byte rn rd (addressed s pre up write_back rn (offset_value s offset))

-- LDRSH at an odd address: ARMv4 acts as LDRSB, ARMv5 aligns (our choice)
abbrev pub signed_half_meaning : Arch → RegisterState → ℕ → ℕ → Addressed → Meaning
signed_half_meaning V5 s rn rd to = load_meaning s rn rd to Half signed_half
signed_half_meaning V4 s rn rd to =
    if to.address % 2 == 0 then load_meaning s rn rd to Half signed_half else load_meaning s rn rd to Byte signed_byte

abbrev pub half_or_signed_meaning : Arch → RegisterState → HalfOp → ℕ → ℕ → Addressed → Meaning
half_or_signed_meaning arch s Strh rn rd to = store_meaning s rn rd to Half
half_or_signed_meaning arch s Ldrh rn rd to = load_meaning s rn rd to Half (rotated_half arch to.address)
half_or_signed_meaning arch s Ldrsb rn rd to = load_meaning s rn rd to Byte signed_byte
half_or_signed_meaning arch s Ldrsh rn rd to = signed_half_meaning arch s rn rd to

abbrev pub half_transfer_meaning : Arch → RegisterState → HalfOp → Bool → Bool → Bool → ℕ → ℕ → ShortOffset → Meaning
half_transfer_meaning arch s op pre up write_back rn rd offset =
    half_or_signed_meaning arch s op rn rd (addressed s pre up write_back rn (short_offset_value s offset))

-- Thumb's LDR of a literal (A7.1, "LDR (3)")
abbrev pub literal_meaning : Arch → RegisterState → ℕ → ℕ → Meaning
literal_meaning arch s rd immed = load_word_meaning arch s 15 rd (addressed_literal s immed)
