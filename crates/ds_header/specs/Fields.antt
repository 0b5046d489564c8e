-- The numbers of a cartridge's header, and what they say of the file (GBATEK, "DS Cartridge Header").
use Rattle.std.specs.Prelude.{ℕ, ◌+◌, List, take, drop}
use Rattle.byteorder.specs.Endian.{little_number}
use Rattle.ds_base.specs.declared.processors.Proc.{Proc}
use Rattle.ds_base.specs.declared.processors.Proc.TheVariants.{Nine, Seven}

-- a field: its first byte, and how many bytes it has
pub record Field : Type 0 where
  pub at : ℕ
  pub size : ℕ

-- the fields that tell of one processor's image: where it stands in the file, where it begins to run, where it goes in
-- memory, and how many bytes it has
pub record ImageFields : Type 0 where
  pub offset : Field
  pub entry : Field
  pub place : Field
  pub length : Field

abbrev pub field_at : ℕ → ℕ → Field
field_at at size = record { at = at; size = size }

-- the table of the header's fields, as far as they are read
abbrev pub title_field : Field
title_field = field_at 0x000 12

abbrev pub unit_code_field : Field
unit_code_field = field_at 0x012 1

-- each processor has four words, one after the other
abbrev pub image_at : Proc → ℕ
image_at Nine = 0x020
image_at Seven = 0x030

abbrev pub image_fields : Proc → ImageFields
image_fields proc = record {
  offset = field_at (image_at proc) 4;
  entry = field_at (image_at proc + 0x4) 4;
  place = field_at (image_at proc + 0x8) 4;
  length = field_at (image_at proc + 0xC) 4;
}

-- the bytes of a field, and the number that they are, the lowest first
abbrev pub field_bytes : List ℕ → Field → List ℕ
field_bytes file f = take f.size (drop f.at file)

unfoldable pub field_number : List ℕ → Field → ℕ
field_number file f = little_number f.size (drop f.at file)

-- what a file says
abbrev pub title_of : List ℕ → List ℕ
title_of file = field_bytes file title_field

abbrev pub unit_code_of : List ℕ → ℕ
unit_code_of file = field_number file unit_code_field

abbrev pub image_offset : List ℕ → Proc → ℕ
image_offset file proc = field_number file (image_fields proc).offset

abbrev pub image_entry : List ℕ → Proc → ℕ
image_entry file proc = field_number file (image_fields proc).entry

abbrev pub image_place : List ℕ → Proc → ℕ
image_place file proc = field_number file (image_fields proc).place

abbrev pub image_length : List ℕ → Proc → ℕ
image_length file proc = field_number file (image_fields proc).length

-- the image of a processor: what the file has from its offset on
abbrev pub image_of : List ℕ → Proc → List ℕ
image_of file proc = take (image_length file proc) (drop (image_offset file proc) file)
