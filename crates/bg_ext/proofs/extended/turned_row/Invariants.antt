use Rattle.bg_ext.proofs.Words.{ext_pixel, get_or, ℕ, ◌<◌, ◌≡◌}
use Rattle.bg_ext.proofs.extended.turned_row.Given as goal

abbrev pub invariant-loop-x : goal.invariant-loop-x
invariant-loop-x l = (j : ℕ) → j < l.x → get_or l.into j 0 ≡ ext_pixel l.vram l.palette l.layer j
