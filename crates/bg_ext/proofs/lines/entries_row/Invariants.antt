use Rattle.bg_ext.proofs.Words.{Some, ext_across, ext_place_pixel, get_or, ℕ, ◌<◌, ◌≡◌}
use Rattle.bg_ext.proofs.lines.entries_row.Given as goal

abbrev pub invariant-loop-x : goal.invariant-loop-x
invariant-loop-x l = (j : ℕ) → j < l.x → get_or l.into j 0 ≡ ext_place_pixel l.vram l.palette l.layer (ext_across l.layer j) (Some l.y)
