use Rattle.std.specs.Prelude.{ℕ, ◌≡◌, ◌≢◌}
use Rattle.ds_base.specs.declared.left_out.LeftKind.TheVariants.{NotYet}
use Rattle.ds_base.specs.declared.left_out.LeftOut.{LeftOut}
use Rattle.ds_runs.specs.Runs.{Stops}
use Rattle.ds_machine.specs.Reference.{reference_step}
use Rattle.ds_machine.specs.States.{MachineState}

-- Why a step stops.

-- never for want of what isn't built yet: what stops it is left out for good, by a name of its own
abbrev pub NoStopIsNotYet : Type 0
NoStopIsNotYet = (rank : ℕ) (s left : MachineState) (stop : LeftOut) → reference_step rank s ≡ Stops stop left → stop.kind ≢ NotYet
