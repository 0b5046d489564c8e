use Rattle.std.specs.Prelude.{ℕ, ◌==◌, if◌then◌else◌, List, Some, None}
use Rattle.ds_base.specs.Accesses.{MemoryMachine}
use Rattle.ds_base.specs.Numbers.{aligned_down, with_number}
use Rattle.ds_base.specs.declared.left_out.LeftKind.TheVariants.{NotYet}
use Rattle.ds_base.specs.declared.memories.Width.TheVariants.{Word}
use Rattle.arm_core.specs.Flats.{flat_place, flat_value}

-- a memory that is one list of bytes, and refuses writes to one word of it (our choice, for tests)
pub record Refusing : Type 0 where
  pub bytes : List ℕ
  -- the word's address
  pub refused : ℕ

abbrev pub refusing_memory : MemoryMachine Refusing
refusing_memory = record {
  fetch_value = λ s at width. flat_value s.bytes at width;
  fetch_next = λ s at width. s;
  read_value = λ s at width. flat_value s.bytes at width;
  read_next = λ s at width. s;
  refusal = λ s at width value. if aligned_down Word at == s.refused then Some (record { kind = NotYet; value = value }) else None;
  write_next = λ s at width value.
      if aligned_down Word at == s.refused then s else record s { bytes = with_number width s.bytes (flat_place s.bytes at width) value };
}
