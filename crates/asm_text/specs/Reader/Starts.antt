use Rattle.std.specs.Prelude.{ℕ, ◌%◌, ◌^◌, ◌==◌, Bool, List, drop, slice_index, if◌then◌else◌}
use Rattle.ds_base.specs.declared.processors.Arch.{Arch}
use Rattle.ds_base.specs.declared.processors.Arch.TheVariants.{V4, V5}
use Rattle.asm_text.specs.declared.sets.Set.{Set}
use Rattle.asm_text.specs.declared.sets.Set.TheVariants.{Arm, Thumb}
use Rattle.asm_text.specs.Reader.Parts.{hex_at}

-- What the reader takes from a listing's first line, and from a byte's line. It refuses nothing: what it takes is listed again and
-- compared with the text. No public clause speaks of it.

-- .thumb9 and .thumb7 have an m where the other names have their digit
abbrev pub names_thumb : List ℕ → Bool
names_thumb text = slice_index text 4 == 109

abbrev pub set_at : List ℕ → Set
set_at text = if names_thumb text then Thumb else Arm

abbrev pub arch_at : List ℕ → Arch
arch_at text = if slice_index text (if names_thumb text then 6 else 4) == 57 then V5 else V4

abbrev pub start_address_at : List ℕ → ℕ
start_address_at text = (hex_at (drop (if names_thumb text then 8 else 6) text)).0

abbrev pub listed_byte_at : List ℕ → ℕ
listed_byte_at text = (hex_at (drop 6 text)).0 % 2 ^ 8
