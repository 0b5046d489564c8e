use Rattle.std.specs.Prelude.{ℕ, ◌+◌, ◌-◌, ◌*◌, ◌/◌, ◌%◌, ◌&&◌, nat_le, nat_lt, Bool, List, replicate, slice_index, slice_set}
use Rattle.ds_base.specs.declared.memories.Width.{Width}
use Rattle.ds_base.specs.declared.memories.Width.TheVariants.{Byte, Half, Word}

-- Numbers as bytes, the least significant first (ARM manual, A2.7 "Endian support": little-endian), and how wide an access is (A2.8
-- "Unaligned access support").

-- so many zeros; it doesn't unfold by itself, since memories are large
unfoldable pub zeroes : ℕ → List ℕ
zeroes count = replicate count 0

-- how many bytes an access moves
abbrev pub width_bytes : Width → ℕ
width_bytes Byte = 1
width_bytes Half = 2
width_bytes Word = 4

-- an address or a place, aligned down to an access's width
abbrev pub aligned_down : Width → ℕ → ℕ
aligned_down width at = at - at % width_bytes width

-- one of so many bytes from a place on
abbrev pub is_within : ℕ → ℕ → ℕ → Bool
is_within first bytes at = nat_le first at && nat_lt at (first + bytes)

-- a number, cut to an access's width
abbrev pub cut_to : Width → ℕ → ℕ
cut_to Byte value = value % 256
cut_to Half value = value % 65536
cut_to Word value = value

-- the number whose bytes a function gives from a place on
abbrev pub value_by : Width → (ℕ → ℕ) → ℕ → ℕ
value_by Byte byte at = byte at
value_by Half byte at = byte at + 256 * byte (at + 1)
value_by Word byte at = byte at + 256 * byte (at + 1) + 65536 * byte (at + 2) + 16777216 * byte (at + 3)

-- the bytes of a number are put from a place on, by a function that puts one, the lowest byte first
abbrev pub put_by : {S : Type 0} → Width → (ℕ → ℕ → S → S) → ℕ → ℕ → S → S
put_by Byte put at value s = put at (value % 256) s
put_by Half put at value s = put (at + 1) (value / 256 % 256) (put at (value % 256) s)
put_by Word put at value s =
    put (at + 3) (value / 16777216 % 256) (put (at + 2) (value / 65536 % 256) (put (at + 1) (value / 256 % 256) (put at (value % 256) s)))

-- the number whose bytes stand in a list from a place on
abbrev pub number_at : Width → List ℕ → ℕ → ℕ
number_at width bytes at = value_by width (slice_index bytes) at

-- a list with a number's bytes from a place on
abbrev pub with_number : Width → List ℕ → ℕ → ℕ → List ℕ
with_number width bytes at value = put_by width (λ place byte into. slice_set into place byte) at value bytes
