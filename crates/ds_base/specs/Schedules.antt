use Rattle.std.specs.Prelude.{ℕ, ◌≡◌, ◌<◌, ◌≤◌, ◌^◌, ◌⊎◌, Option, Some, None}
use Rattle.ds_base.specs.declared.ticks.Tick.{Tick}

-- What every unit owes of its due ticks, so that time goes on (our choice of time): what happens at a tick leaves each due tick as it
-- was, or makes it later than that tick, or takes it away.

-- a due tick is later than a tick, or there is none
abbrev pub IsLater : Tick → Option Tick → Type 0
IsLater now None = Unit {0}
IsLater now (Some due) = now.0 < due.0

-- what happens at a tick leaves a due tick as it was, or later
abbrev pub Reschedules : Tick → Option Tick → Option Tick → Type 0
Reschedules now old new = (new ≡ old) ⊎ IsLater now new

-- a tick that callers may hand in, if there is one; so that sums of ticks stay in 64 bits
abbrev pub IsEarly : Option Tick → Type 0
IsEarly None = Unit {0}
IsEarly (Some tick) = tick.0 ≤ 2 ^ 56

-- a due tick as a number, if there is one, and the other way
abbrev pub due_number : Option Tick → Option ℕ
due_number None = None
due_number (Some tick) = Some tick.0

abbrev pub numbered_due : Option ℕ → Option Tick
numbered_due None = None
numbered_due (Some number) = Some (record { 0 = number })
