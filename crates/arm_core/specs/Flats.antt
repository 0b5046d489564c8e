use Rattle.std.specs.Prelude.{ℕ, ◌%◌, List, length, None}
use Rattle.ds_base.specs.Accesses.{MemoryMachine}
use Rattle.ds_base.specs.Numbers.{aligned_down, number_at, with_number}
use Rattle.ds_base.specs.declared.memories.Width.{Width}

-- a memory that is one list of bytes, which stands again and again in all addresses (our choice, for tests)
abbrev pub flat_place : List ℕ → ℕ → Width → ℕ
flat_place bytes at width = aligned_down width (at % length bytes)

abbrev pub flat_value : List ℕ → ℕ → Width → ℕ
flat_value bytes at width = number_at width bytes (flat_place bytes at width)

abbrev pub flat_memory : MemoryMachine (List ℕ)
flat_memory = record {
  fetch_value = flat_value;
  fetch_next = λ bytes at width. bytes;
  read_value = flat_value;
  read_next = λ bytes at width. bytes;
  refusal = λ bytes at width value. None;
  write_next = λ bytes at width value. with_number width bytes (flat_place bytes at width) value;
}
