use Rattle.std.specs.Prelude.{ℕ, ◌+◌, ◌-◌, ◌^◌, ◌==◌, ◌||◌, nat_le, nat_lt, Bool, true, false, if◌then◌else◌, min}
use Rattle.ds_base.specs.Bits.{bit}
use Rattle.cp15_tcm.specs.Registers.{Cp15State}
use Rattle.cp15_tcm.specs.TightlyCoupled.{answers, covered, dtcm_base, main_first, main_last}
use Rattle.cp15_tcm.specs.declared.windows.Windows.{Windows}

-- The code keeps where both memories answer, made anew at each write of a register. No public clause speaks of it.

-- how many addresses ITCM covers for reads and fetches, or for writes; 0 where it doesn't answer
abbrev pub itcm_long : Cp15State → Bool → ℕ
itcm_long s writing = if answers (bit 18 s.control) (bit 19 s.control) writing then covered s.itcm else 0

-- how many DTCM covers, up to the last address
abbrev pub dtcm_long : Cp15State → Bool → ℕ
dtcm_long s writing = if answers (bit 16 s.control) (bit 17 s.control) writing then min (covered s.dtcm) (2 ^ 32 - dtcm_base s.dtcm) else 0

-- how many addresses of main memory from its first one on lie past both, where ITCM covers so many addresses, and DTCM so many from its base on
abbrev pub main_long : ℕ → ℕ → ℕ → ℕ
main_long itcm base dtcm =
    if nat_lt main_first itcm then 0 else
    (if dtcm == 0 || nat_lt main_last base || nat_le (base + dtcm) main_first then main_last - main_first + 1 else base - main_first)

abbrev pub windows_of : Cp15State → Windows
windows_of s = record {
  itcm_read = itcm_long s false;
  itcm_write = itcm_long s true;
  dtcm_base = dtcm_base s.dtcm;
  dtcm_read = dtcm_long s false;
  dtcm_write = dtcm_long s true;
  main_fetch = main_long (itcm_long s false) (dtcm_base s.dtcm) 0;
  main_read = main_long (itcm_long s false) (dtcm_base s.dtcm) (dtcm_long s false);
  main_write = main_long (itcm_long s true) (dtcm_base s.dtcm) (dtcm_long s true);
}
