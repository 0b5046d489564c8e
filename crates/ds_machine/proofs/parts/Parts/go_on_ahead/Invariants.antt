use Rattle.ds_machine.proofs.Words.{WentOn, false, own_remaining, processor_of, ◌≤◌}
use Rattle.ds_machine.proofs.parts.Parts.go_on_ahead.Given as goal

abbrev pub invariant-steps : goal.invariant-steps
invariant-steps l = WentOn l.until.0 l.proc l.end l.limit false l.initial.self l.self × (l.limit ≤ (processor_of l.self l.proc).due)

abbrev pub decreases-steps : goal.decreases-steps
decreases-steps l = own_remaining l.until.0 l.self l.proc
