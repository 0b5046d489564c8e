use Rattle.std.proofs.Common.{ℕ, ◌≡◌, Option, Some, None, refl}
use Rattle.ds_base.specs.Schedules.{due_number, numbered_due}
use Rattle.ds_base.specs.declared.ticks.Tick.{Tick}

-- A due tick and its number are as good as one another.

pub due_again : (due : Option Tick) → numbered_due (due_number due) ≡ due
due_again None = refl
due_again (Some tick) = refl

pub number_again : (number : Option ℕ) → due_number (numbered_due number) ≡ number
number_again None = refl
number_again (Some n) = refl
