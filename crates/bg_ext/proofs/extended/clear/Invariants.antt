use Rattle.bg_ext.proofs.Words.{get_or, ℕ, ◌<◌, ◌≡◌}
use Rattle.bg_ext.proofs.extended.clear.Given as goal

abbrev pub invariant-loop-x : goal.invariant-loop-x
invariant-loop-x l = (j : ℕ) → j < l.x → get_or l.into j 0 ≡ 0
