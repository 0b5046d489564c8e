use Rattle.ds_machine.proofs.Words.{false, true, ℕ, ◌%◌, ◌*◌, ◌+◌, ◌<◌, ◌^◌, ◌≡◌}
use Rattle.ds_machine.proofs.steps.words_stay.Given as goal

-- all words so far are private
abbrev pub invariant-loop-i : goal.invariant-loop-i
invariant-loop-i g l = (i : ℕ) → i < l.i → g.V.Side.side.is_private (g.V.Side.state l.view) l.writing false ((l.first + 4 * i) % 2 ^ 32) ≡ true
