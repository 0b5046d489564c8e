use Rattle.gx_geometry.proofs.Words.{FitsSigned, pos, slice_index_or, w32, ℕ, ◌<◌}
use Rattle.gx_geometry.proofs.widths.are_signed.Given as goal

abbrev pub invariant-loop-word : goal.invariant-loop-word
invariant-loop-word l = (i : ℕ) → i < l.word-index → FitsSigned w32 (slice_index_or l.words i (pos 0))
