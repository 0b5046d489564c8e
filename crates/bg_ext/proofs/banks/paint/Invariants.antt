use Rattle.bg_ext.proofs.Words.{Half, get_or, opaque_pixel, vram_value, ℕ, ◌*◌, ◌+◌, ◌<◌, ◌≡◌}
use Rattle.ds_base.specs.declared.memories.Space.TheVariants.{Lcdc}
use Rattle.bg_ext.proofs.banks.paint.Given as goal

abbrev pub invariant-loop-x : goal.invariant-loop-x
invariant-loop-x l = (j : ℕ) → j < l.x → get_or l.into j 0 ≡ opaque_pixel (vram_value l.vram Lcdc (l.at + 2 * j) Half)
