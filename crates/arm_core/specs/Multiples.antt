use Rattle.std.specs.Prelude.{ℕ, ◌+◌, ◌/◌, ◌%◌, ◌^◌, ◌==◌, count_ones, Bool, true, false, ◌&&◌, ◌||◌, not, if◌then◌else◌, List, [], ◌∷◌, map, is_some}
use Rattle.ds_base.specs.Accesses.{Access, Read, Write}
use Rattle.ds_base.specs.Bits.{bit}
use Rattle.ds_base.specs.declared.memories.Width.TheVariants.{Word}
use Rattle.ds_base.specs.declared.processors.Arch.{Arch}
use Rattle.ds_base.specs.declared.processors.Arch.TheVariants.{V4, V5}
use Rattle.arm_core.specs.declared.banks.Bank.{Bank}
use Rattle.arm_core.specs.declared.banks.Bank.TheVariants.{System}
use Rattle.arm_core.specs.Registers.{RegisterState, bank, saved_place, place, register, register_in, late_r15, next, put_in, jumped}
use Rattle.arm_core.specs.Addressing.{listed_registers, list_bytes, lowest, moved_base, with_base}
use Rattle.arm_core.specs.Branches.{exchanged}
use Rattle.arm_core.specs.DataProcessing.{restored}
use Rattle.arm_core.specs.Effects.{Meaning}
use Rattle.arm_core.specs.declared.classes.Class.TheVariants.{LoadMultiple, StoreMultiple}

-- Loads and stores of several registers (ARM manual, A3.12 "Load and Store Multiple instructions").

-- the list that is transferred: in place of an empty one ARMv4 transfers r15, ARMv5 nothing (our choice)
abbrev pub transferred : Arch → ℕ → ℕ
transferred V4 list = if list == 0 then 0x8000 else list
transferred V5 list = list

-- the registers that an LDM loads are User mode's: `^`, but not with r15
abbrev pub reaches_user : Bool → ℕ → Bool
reaches_user user list = user && not (bit 15 list)

abbrev pub reached_bank : RegisterState → Bool → Bank
reached_bank s to_user = if to_user then System else bank s

-- words one after another from an address up
abbrev pub reads : ℕ → List ℕ → List Access
reads at [] = []
reads at (r ∷ rs) = Read at Word ∷ reads ((at + 4) % 2 ^ 32) rs

abbrev pub writes : ℕ → List ℕ → List Access
writes at [] = []
writes at (value ∷ rest) = Write at Word value ∷ writes ((at + 4) % 2 ^ 32) rest

-- the base is in a list
abbrev pub has_base : ℕ → ℕ → Bool
has_base rn list = bit rn list

-- it is the first of the list, the last, or the only one
abbrev pub is_first : ℕ → ℕ → Bool
is_first rn list = has_base rn list && list % 2 ^ rn == 0

abbrev pub is_last : ℕ → ℕ → Bool
is_last rn list = has_base rn list && list / 2 ^ rn == 1

abbrev pub is_only : ℕ → ℕ → Bool
is_only rn list = is_first rn list && is_last rn list

-- Stores

-- the base is stored as it is after the instruction: on ARMv4, where it isn't the first of the list (our choice)
abbrev pub stores_new_base : Arch → ℕ → ℕ → Bool
stores_new_base V4 rn list = not (is_first rn list)
stores_new_base V5 rn list = false

-- a register is the base, with `^` too where both are the same word
abbrev pub is_base : RegisterState → Bank → ℕ → ℕ → Bool
is_base s b rn r = r == rn && place b r == place (bank s) rn

-- what is stored of a register, when the base is written back as `new_base`, if it is
abbrev pub stored_value : RegisterState → Bank → ℕ → Bool → ℕ → ℕ → ℕ
stored_value s b rn written new_base r = if written && is_base s b rn r then new_base else register_in b (late_r15 s) s r

abbrev pub store_multiple_meaning : Arch → RegisterState → Bool → Bool → Bool → Bool → ℕ → ℕ → Meaning
store_multiple_meaning arch s pre up user write_back rn list =
    let base = register s rn in
    let bytes = list_bytes list in
    let moved = moved_base up base bytes in
    let written = write_back && not (rn == 15) in
    let value = stored_value s (reached_bank s user) rn (written && stores_new_base arch rn list) moved in
    record {
      accesses = writes (lowest pre up base bytes) (map value (listed_registers (transferred arch list)));
      after = λ values. with_base written rn moved (next s);
      class = StoreMultiple (count_ones list);
      jumps = false;
    }

-- Loads

-- the base that is written back stays: not where it was loaded on ARMv4; on ARMv5 where it is the only register or isn't the last (our
-- choice)
abbrev pub keeps_base : Arch → ℕ → ℕ → Bool
keeps_base V4 rn list = not (has_base rn list)
keeps_base V5 rn list = not (has_base rn list) || is_only rn list || not (is_last rn list)

-- registers of a bank below r15 have what was read; r15 is told apart
abbrev pub loaded : Bank → List ℕ → List ℕ → RegisterState → RegisterState
loaded b [] values s = s
loaded b (r ∷ rs) [] s = s
loaded b (r ∷ rs) (value ∷ values) s = loaded b rs values (if r == 15 then s else put_in b r value s)

-- the value of r15, the last of a list
abbrev pub last_of : List ℕ → ℕ
last_of [] = 0
last_of (value ∷ []) = value
last_of (value ∷ next ∷ rest) = last_of (next ∷ rest)

-- r15 is loaded: with `^` CPSR is restored, where the mode has an SPSR, and its state aligns r15; otherwise it is a jump on ARMv4, and on
-- ARMv5 a branch and exchange
abbrev pub loaded_r15 : Arch → Bool → ℕ → RegisterState → RegisterState
loaded_r15 V4 user value s = jumped value (if user then restored s else s)
loaded_r15 V5 user value s = if user && is_some (saved_place (bank s)) then jumped value (restored s) else exchanged value s

abbrev pub load_multiple_meaning : Arch → RegisterState → Bool → Bool → Bool → Bool → ℕ → ℕ → Meaning
load_multiple_meaning arch s pre up user write_back rn list =
    let base = register s rn in
    let bytes = list_bytes list in
    let moved = moved_base up base bytes in
    let written = write_back && not (rn == 15) && keeps_base arch rn list in
    let registers = listed_registers (transferred arch list) in
    let b = reached_bank s (reaches_user user (transferred arch list)) in
    record {
      accesses = reads (lowest pre up base bytes) registers;
      after = λ values.
          let filled = with_base written rn moved (loaded b registers values (next s)) in
          (if bit 15 (transferred arch list) then loaded_r15 arch user (last_of values) filled else filled);
      class = LoadMultiple (count_ones list);
      jumps = bit 15 (transferred arch list);
    }

abbrev pub multiple_meaning : Arch → RegisterState → Bool → Bool → Bool → Bool → Bool → ℕ → ℕ → Meaning
multiple_meaning arch s pre up user write_back true rn list = load_multiple_meaning arch s pre up user write_back rn list
multiple_meaning arch s pre up user write_back false rn list = store_multiple_meaning arch s pre up user write_back rn list
