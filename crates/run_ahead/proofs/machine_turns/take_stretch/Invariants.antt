use Rattle.run_ahead.proofs.Words.{HasEnds, HasLimit, None, TakesSteps, own_remaining, ◌≡◌}
use Rattle.run_ahead.proofs.machine_turns.take_stretch.Given as goal

-- the steps so far belong to the turn, none stopped, and it is known when the processor isn't the least acting one any more, and by what that is found
abbrev pub invariant-steps : goal.invariant-steps
invariant-steps l = TakesSteps l.until.0 l.proc l.initial.machine l.machine × (l.stop ≡ None) × HasLimit l.until.0 l.machine l.proc l.limit × HasEnds l.until.0 l.machine l.ends

abbrev pub decreases-steps : goal.decreases-steps
decreases-steps l = own_remaining l.until.0 l.machine l.proc
