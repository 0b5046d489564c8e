use Rattle.std.proofs.Common.{ℕ, ◌<◌, slice_index_or, pos, FitsSigned}
use Rattle.std.specs.Int.{w32}
use Rattle.gx_matrix.proofs.currents.saved.are_words.Given as goal

abbrev pub invariant-loop-number : goal.invariant-loop-number
invariant-loop-number l = (i : ℕ) → i < l.number-index → FitsSigned w32 (slice_index_or l.numbers i (pos 0))
