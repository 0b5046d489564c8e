use Rattle.std.specs.Prelude.{ℕ, ◌+◌, ◌==◌, Bool, true, false, [], ◌∷◌, slice_index}
use Rattle.ds_base.specs.Numbers.{aligned_down}
use Rattle.ds_base.specs.declared.memories.Width.TheVariants.{Word}
use Rattle.arm_words.specs.declared.parts.ShortOffset.{ShortOffset}
use Rattle.arm_core.specs.Registers.{RegisterState, late_register, next, put}
use Rattle.arm_core.specs.Addressing.{addressed, short_offset_value, with_base}
use Rattle.arm_core.specs.Multiples.{reads, writes}
use Rattle.arm_core.specs.declared.addresses.Addressed.{Addressed}
use Rattle.arm_core.specs.Effects.{Meaning}
use Rattle.arm_core.specs.declared.classes.Class.TheVariants.{LoadMultiple, StoreMultiple}

-- LDRD and STRD (ARM manual, A4.1 "LDRD", "STRD"): rd, which is even, and the register behind it, at the aligned word and the next (our
-- choice where the address isn't that of a doubleword).

-- both have what was read, also where one is the base that was written back; r15 keeps the state (our choice)
abbrev pub load_double_meaning : RegisterState → ℕ → ℕ → Addressed → Meaning
load_double_meaning s rn rd to = record {
  accesses = reads (aligned_down Word to.address) (rd ∷ (rd + 1) ∷ []);
  after = λ values. put (rd + 1) (slice_index values 1) (put rd (slice_index values 0) (with_base to.written rn to.base (next s)));
  class = LoadMultiple 2;
  jumps = rd == 14;
}

-- the base is still the old one where it is stored
abbrev pub store_double_meaning : RegisterState → ℕ → ℕ → Addressed → Meaning
store_double_meaning s rn rd to = record {
  accesses = writes (aligned_down Word to.address) (late_register s rd ∷ late_register s (rd + 1) ∷ []);
  after = λ values. with_base to.written rn to.base (next s);
  class = StoreMultiple 2;
  jumps = false;
}

abbrev pub double_at : RegisterState → Bool → ℕ → ℕ → Addressed → Meaning
double_at s true rn rd to = store_double_meaning s rn rd to
double_at s false rn rd to = load_double_meaning s rn rd to

abbrev pub double_meaning : RegisterState → Bool → Bool → Bool → Bool → ℕ → ℕ → ShortOffset → Meaning
double_meaning s store pre up write_back rn rd offset = double_at s store rn rd (addressed s pre up write_back rn (short_offset_value s offset))
