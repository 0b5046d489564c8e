use Rattle.ds_machine.proofs.Words.{length, script_from, ◌≡◌}
use Rattle.ds_machine.proofs.scripts.Script.from_tick.Given as goal

abbrev pub invariant-lines : goal.invariant-lines
invariant-lines l = script_from l.at.0 l.script ≡ script_from l.at.0 l.fn.keys

abbrev pub decreases-lines : goal.decreases-lines
decreases-lines l = length l.script
