use Rattle.std.specs.Prelude.{ℕ, ◌≡◌, ◌≤◌, ◌+◌, ◌-◌, ◌*◌, ◌/◌, ◌%◌, ◌^◌, ◌&&◌, ◌||◌, not, nat_le, nat_lt, Bool, if◌then◌else◌, min}
use Rattle.ds_base.specs.Bits.{bit, bits}
use Rattle.cp15_tcm.specs.Registers.{Cp15State}
use Rattle.cp15_tcm.specs.declared.answers.Tcm.{Tcm}
use Rattle.cp15_tcm.specs.declared.answers.Tcm.TheVariants.{Itcm, Dtcm, Past}

-- Where the tightly coupled memories stand (ARM946E-S manual, "Tightly-coupled memory interface"; GBATEK, "ARM CP15 Tightly Coupled
-- Memory").

-- how many addresses a region register covers: 512 shifted left by its bits 1 to 5, and no more than there are addresses
abbrev pub covered : ℕ → ℕ
covered register = min (512 * 2 ^ bits 1 5 register) (2 ^ 32)

-- DTCM's first address: bits 31 to 12 of its register
abbrev pub dtcm_base : ℕ → ℕ
dtcm_base register = register / 2 ^ 12 * 2 ^ 12

-- a memory answers where it is switched on; in load mode it takes writes alone
abbrev pub answers : Bool → Bool → Bool → Bool
answers on load_mode writing = on && (writing || not load_mode)

-- ITCM covers addresses from 0 on, also for fetches
abbrev pub in_itcm : Cp15State → ℕ → Bool → Bool
in_itcm s at writing = answers (bit 18 s.control) (bit 19 s.control) writing && nat_lt at (covered s.itcm)

-- DTCM covers addresses from its base on; they don't wrap, and fetches don't see it
abbrev pub in_dtcm : Cp15State → ℕ → Bool → Bool
in_dtcm s at writing = answers (bit 16 s.control) (bit 17 s.control) writing
    && nat_le (dtcm_base s.dtcm) at && nat_lt at (dtcm_base s.dtcm + covered s.dtcm)

-- ITCM goes before DTCM. A memory stands again and again in what it covers (our choice)
abbrev pub tcm_of : Cp15State → ℕ → Bool → Bool → Tcm
tcm_of s at writing fetching =
    if in_itcm s at writing then Itcm (at % 0x8000)
    else (if not fetching && in_dtcm s at writing then Dtcm ((at - dtcm_base s.dtcm) % 0x4000)
    else Past)

-- main memory (GBATEK, "DS Memory Map") lies past both from its first address up to this one of it
abbrev pub main_first : ℕ
main_first = 0x02000000

abbrev pub main_last : ℕ
main_last = 0x02FFFFFF

pub record IsMainPast (s : Cp15State) (at : ℕ) (writing fetching : Bool) : Type 0 where
  pub from : main_first ≤ at
  pub upto : at ≤ main_last
  pub past : (a : ℕ) → main_first ≤ a → a ≤ at → tcm_of s a writing fetching ≡ Past
