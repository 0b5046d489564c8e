use Rattle.gx_geometry.proofs.Words.{FitsLight, dark_light, slice_index_or, ℕ, ◌<◌}
use Rattle.gx_geometry.proofs.widths.are_lights.Given as goal

abbrev pub invariant-loop-light : goal.invariant-loop-light
invariant-loop-light l = (i : ℕ) → i < l.light-index → FitsLight (slice_index_or l.lights i dark_light)
