-- When a cartridge is accepted: the rules of its header, in their order (our choice of rules and order; the fields are those
-- of GBATEK, "DS Cartridge Header").
use Rattle.std.specs.Prelude.{ℕ, ◌≡◌, ◌≤◌, ◌<◌, ◌+◌, ◌-◌, ◌%◌, ◌^◌, ◌==◌, ◌&&◌, ◌||◌, ◌⊎◌, Bool, List, [], ◌∷◌, Option, Some, None, length, nat_le, nat_lt, if◌then◌else◌}
use Rattle.ds_base.specs.Memories.{memory_size}
use Rattle.ds_base.specs.declared.memories.Memory.TheVariants.{Own7, Shared}
use Rattle.ds_base.specs.declared.processors.Proc.{Proc}
use Rattle.ds_base.specs.declared.processors.Proc.TheVariants.{Nine, Seven}
use Rattle.ds_header.specs.declared.faults.HeaderFault.{HeaderFault}
use Rattle.ds_header.specs.declared.faults.HeaderField.{HeaderField}
use Rattle.ds_header.specs.declared.faults.HeaderField.TheVariants.{Short, UnitCode, Arm9Rom, Arm9Place, Arm9Entry, Arm7Rom, Arm7Place, Arm7Entry}
use Rattle.ds_places.specs.AddressTables.{main_region, own_region}
use Rattle.ds_header.specs.Fields.{unit_code_of, image_offset, image_entry, image_place, image_length}

-- a range of addresses, the last not in it
pub record Range : Type 0 where
  pub first : ℕ
  pub past : ℕ

-- main memory with its mirrors, and ARM7's work RAM: the shared one's last mirror and its own (GBATEK, "DS Memory Map")
abbrev pub main_range : Range
main_range = record { first = main_region.first; past = main_region.last + 1 }

abbrev pub work_range : Range
work_range = record { first = own_region.first - memory_size Shared; past = own_region.first + memory_size Own7 }

-- so many bytes from an address on lie in a range; none do where the address does
abbrev pub lies_within : Range → ℕ → ℕ → Bool
lies_within range at count = nat_le range.first at && nat_lt at range.past && nat_le (at + count) range.past

-- they lie where a processor's image may
abbrev pub lies_in : Proc → ℕ → ℕ → Bool
lies_in Nine at count = lies_within main_range at count
lies_in Seven at count = lies_within main_range at count || lies_within work_range at count

-- a rule of a field, and the value that is told where it is broken
pub record Rule : Type 0 where
  pub field : HeaderField
  pub value : ℕ
  pub holds : Bool

abbrev pub rule : HeaderField → ℕ → Bool → Rule
rule field value holds = record { field = field; value = value; holds = holds }

-- an image has at most 4 MiB and lies in the file, the sum being exact
abbrev pub rom_rule : HeaderField → List ℕ → Proc → Rule
rom_rule field file proc =
    rule field (image_offset file proc)
    (nat_le (image_length file proc) (2 ^ 22) && nat_le (image_offset file proc + image_length file proc) (length file))

-- it goes to memory where it may
abbrev pub place_rule : HeaderField → List ℕ → Proc → Rule
place_rule field file proc = rule field (image_place file proc) (lies_in proc (image_place file proc) (image_length file proc))

-- and begins to run at a word there
abbrev pub entry_rule : HeaderField → List ℕ → Proc → Rule
entry_rule field file proc = rule field (image_entry file proc) (image_entry file proc % 4 == 0 && lies_in proc (image_entry file proc) 0)

-- the eight rules, in the order in which they are tried: the file has a header, and it isn't for DSi consoles alone; then ARM9's image,
-- and ARM7's
abbrev pub header_rules : List ℕ → List Rule
header_rules file =
    rule Short (length file) (nat_le 512 (length file))
    ∷ rule UnitCode (unit_code_of file) (unit_code_of file == 0 || unit_code_of file == 2)
    ∷ rom_rule Arm9Rom file Nine
    ∷ place_rule Arm9Place file Nine
    ∷ entry_rule Arm9Entry file Nine
    ∷ rom_rule Arm7Rom file Seven
    ∷ place_rule Arm7Place file Seven
    ∷ entry_rule Arm7Entry file Seven
    ∷ []

-- the first rule of a list that is broken
abbrev pub first_broken : List Rule → Option HeaderFault
first_broken [] = None
first_broken (r ∷ rules) = if r.holds then first_broken rules else Some (record { field = r.field; value = r.value })

-- why a file is refused: the first field that breaks its rule, with its value
abbrev pub fault_of : List ℕ → Option HeaderFault
fault_of file = first_broken (header_rules file)

-- a cartridge that is accepted
abbrev pub IsAccepted : List ℕ → Type 0
IsAccepted file = fault_of file ≡ None

-- so many bytes from an address on lie in a range
pub record IsWithin (range : Range) (at count : ℕ) : Type 0 where
  pub first : range.first ≤ at
  pub below : at < range.past
  pub whole : at + count ≤ range.past

-- they lie where a processor's image may
abbrev pub ImageLies : Proc → ℕ → ℕ → Type 0
ImageLies Nine at count = IsWithin main_range at count
ImageLies Seven at count = IsWithin main_range at count ⊎ IsWithin work_range at count
