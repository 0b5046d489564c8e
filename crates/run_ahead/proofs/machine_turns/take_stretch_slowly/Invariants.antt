use Rattle.run_ahead.proofs.Words.{None, TakesSteps, own_remaining, ◌≡◌}
use Rattle.run_ahead.proofs.machine_turns.take_stretch_slowly.Given as goal

-- the steps so far belong to the turn, and none stopped
abbrev pub invariant-steps : goal.invariant-steps
invariant-steps l = TakesSteps l.until.0 l.proc l.initial.machine l.machine × (l.stop ≡ None)

abbrev pub decreases-steps : goal.decreases-steps
decreases-steps l = own_remaining l.until.0 l.machine l.proc
