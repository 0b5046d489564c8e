use Rattle.std.specs.Prelude.{ℕ, ◌≡◌, [], ◌∷◌, Option, Some, None}
use Rattle.ds_base.specs.declared.left_out.LeftOut.{LeftOut}
use Rattle.ds_base.specs.declared.ticks.Due.{Due}
use Rattle.ds_runs.specs.Runs.{MachineStep, Makes, Stops, IsLeast}
use Rattle.ds_machine.specs.Reference.{Shown, dues_of, reference_step, shown_at}
use Rattle.ds_machine.specs.States.{MachineState}
use Rattle.ds_machine.specs.declared.answers.Done.{Done}
use Rattle.ds_machine.specs.declared.answers.Done.TheVariants.{Made, Frame, Stopped}
use Rattle.video2d.specs.Scans.{scan_due}

-- What is answered of a step of the reference machine.

-- what a step came to, by what is answered and by the machine afterwards
abbrev pub stepped_of : MachineState → Done → MachineState → MachineStep MachineState Shown LeftOut
stepped_of old Made new = Makes new []
stepped_of old (Frame swapped) new = Makes new (shown_at (scan_due old.io.video.scan) new swapped ∷ [])
stepped_of old (Stopped left) new = Stops left new

-- what a step that makes no frame whole came to, by its stop, if it stopped the machine
abbrev pub done_of : Option LeftOut → Done
done_of None = Made
done_of (Some left) = Stopped left

-- the actor of a rank took its step
abbrev pub Steps : ℕ → MachineState → Done → MachineState → Type 0
Steps rank old done new = reference_step rank old ≡ stepped_of old done new

-- this is the least actor, and it is due then
abbrev pub IsDue : MachineState → Due → Type 0
IsDue s due = IsLeast (dues_of s) due.tick due.rank
