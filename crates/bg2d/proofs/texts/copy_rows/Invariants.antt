use Rattle.bg2d.proofs.Words.{background_space, get_or, text_base, tile_offset, vram_byte, ℕ, ◌*◌, ◌+◌, ◌<◌, ◌≡◌}
use Rattle.bg2d.proofs.texts.copy_rows.Given as goal

abbrev pub invariant-loop-k : goal.invariant-loop-k
invariant-loop-k l = (k i : ℕ) → k < l.k → i < 8 →
    get_or l.into (8 * k + i) 0 ≡ vram_byte l.vram (background_space l.layer.engine) (text_base l.layer + tile_offset l.layer (get_or l.entries k 0) l.y + i)
