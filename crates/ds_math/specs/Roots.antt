use Rattle.std.specs.Prelude.{ℕ, zero, suc, ◌<◌, ◌≤◌, ◌+◌, ◌*◌, ◌%◌, ◌^◌, nat_le, if◌then◌else◌, Bool, false, Option, Some, None, is_some}
use Rattle.ds_base.specs.declared.ticks.Tick.{Tick}
use Rattle.ds_math.specs.declared.roots.RootSeen.{RootSeen}

-- r is the square root of v, rounded down (GBATEK, "DS Maths": unsigned square root)
pub record IsRoot (v r : ℕ) : Type 0 where
  pub below : r * r ≤ v
  pub above : v < (r + 1) * (r + 1)

-- that root as a number, for those who compute with it: it grows by one where the next square is reached
unfoldable pub root_of : ℕ → ℕ
root_of zero = 0
root_of (suc v) = if nat_le ((root_of v + 1) * (root_of v + 1)) (suc v) then root_of v + 1 else root_of v

-- the square root unit (GBATEK, "DS Maths"): bit 0 of SQRTCNT, SQRT_PARAM and SQRT_RESULT as they stand, and the tick at which a running
-- root is done
pub record RootState : Type 0 where
  pub wide : Bool
  pub value : ℕ
  pub root : ℕ
  pub due : Option Tick

-- what holds of it at every time: how many bits its registers have (GBATEK, "DS Maths")
pub record IsRootUnit (s : RootState) : Type 0 where
  pub value : s.value < 2 ^ 64
  pub root : s.root < 2 ^ 32

-- all is 0 at boot (our choice)
abbrev pub root_at_boot : RootState
root_at_boot = record { wide = false; value = 0; root = 0; due = None }

-- a root starts: it takes 13 bus clocks of 2 ticks, and the old root stays until it is done (GBATEK, "DS Maths", SQRTCNT)
abbrev pub root_started : RootState → Bool → ℕ → Tick → RootState
root_started s wide value now = record s { wide = wide; value = value; due = Some (record { 0 = now.0 + 26 }) }

-- what the root is taken of: all 64 bits where it is wide, the lower 32 otherwise (GBATEK, "DS Maths", SQRTCNT bit 0)
abbrev pub radicand : Bool → ℕ → ℕ
radicand wide value = if wide then value else value % 2 ^ 32

-- a root is done: it stands in the register, and none runs
abbrev pub root_finished : RootState → RootState
root_finished s = record s { root = root_of (radicand s.wide s.value); due = None }

-- what the registers show: the busy flag while a root runs (GBATEK, "DS Maths", SQRTCNT bit 15)
abbrev pub root_seen : RootState → RootSeen
root_seen s = record { wide = s.wide; value = s.value; root = s.root; busy = is_some s.due }
