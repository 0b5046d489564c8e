use Rattle.ds_machine.proofs.Words.{WentOn, false, own_remaining}
use Rattle.ds_machine.proofs.parts.Parts.go_both.Given as goal

abbrev pub invariant-steps : goal.invariant-steps
invariant-steps l = WentOn l.until.0 l.proc l.end l.limit false l.initial.self l.self

abbrev pub decreases-steps : goal.decreases-steps
decreases-steps l = own_remaining l.until.0 l.self l.proc
