use Rattle.ds_machine.proofs.Words.{IsAhead, IsSound, MachineState, Proc, RunsAhead, ahead_agrees, processor_of, rank_of, reference, refl, tick_of}
use Rattle.ds_machine.specs.PrivateLaws.{AheadRuns, AheadSteps}
use Rattle.ds_machine.proofs.InnerLaw.{private_is_harmless}
use Rattle.ds_machine.proofs.OuterLaw.{may_run_ahead}
use Rattle.ds_machine.proofs.StepsAhead.{ahead_sound, harmless_goes}

-- What running ahead comes to.

-- a step that may be taken before its turn is one that others leave as it is
pub runs_ahead : (s : MachineState) (proc : Proc) → IsSound s → IsAhead s proc → RunsAhead proc s (tick_of (processor_of s proc))
runs_ahead s proc sound ahead = record { sound = sound; harmless = private_is_harmless s proc ahead.private; tick = refl; below = ahead.below }

pub ahead_steps : AheadSteps
ahead_steps s proc sound ahead =
    let g = harmless_goes s proc (private_is_harmless s proc ahead.private) sound in
    record { next = g.next; makes = g.makes; sound = ahead_sound s g.next proc g.steps sound }

pub ahead_runs : AheadRuns
ahead_runs s next proc limit sound ahead lt h end outs =
    ahead_agrees reference (rank_of proc) (RunsAhead proc) (may_run_ahead s proc) limit end outs s next (tick_of (processor_of s proc)) (runs_ahead s proc sound ahead) lt h
