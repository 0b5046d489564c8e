-- The rules in the groups in which the code tries them. No public clause speaks of these.
use Rattle.std.specs.Prelude.{◌==◌, ◌||◌, ℕ, List, [], ◌∷◌, Option, Some, None, length, nat_le}
use Rattle.ds_base.specs.declared.processors.Proc.{Proc}
use Rattle.ds_base.specs.declared.processors.Proc.TheVariants.{Nine, Seven}
use Rattle.ds_header.specs.declared.faults.HeaderFault.{HeaderFault}
use Rattle.ds_header.specs.declared.faults.HeaderField.{HeaderField}
use Rattle.ds_header.specs.declared.faults.HeaderField.TheVariants.{Short, UnitCode, Arm9Rom, Arm9Place, Arm9Entry, Arm7Rom, Arm7Place, Arm7Entry}
use Rattle.ds_header.specs.Fields.{unit_code_of}
use Rattle.ds_header.specs.Rules.{Rule, rule, rom_rule, place_rule, entry_rule, first_broken}

-- those of the file itself
abbrev pub file_rules : List ℕ → List Rule
file_rules file =
    rule Short (length file) (nat_le 512 (length file))
    ∷ rule UnitCode (unit_code_of file) (unit_code_of file == 0 || unit_code_of file == 2)
    ∷ []

-- those of an image, with these names
abbrev pub image_rules : HeaderField → HeaderField → HeaderField → List ℕ → Proc → List Rule
image_rules rom place entry file proc = rom_rule rom file proc ∷ place_rule place file proc ∷ entry_rule entry file proc ∷ []

abbrev pub rules_for : List ℕ → Proc → List Rule
rules_for file Nine = image_rules Arm9Rom Arm9Place Arm9Entry file Nine
rules_for file Seven = image_rules Arm7Rom Arm7Place Arm7Entry file Seven

-- a fault, or else one that comes later
abbrev pub or_then : Option HeaderFault → Option HeaderFault → Option HeaderFault
or_then None later = later
or_then (Some fault) later = Some fault

-- the first fault of the groups in their order
abbrev pub fault_by_groups : List ℕ → Option HeaderFault
fault_by_groups file = or_then (first_broken (file_rules file)) (or_then (first_broken (rules_for file Nine)) (first_broken (rules_for file Seven)))
