use Rattle.bg2d.proofs.Words.{Bool, ap, arith, bit, bits, flipped, get_or, indexed_pixel, nibble_at, sym, text_base, tile_offset, vram_byte, ℕ, ◌%◌}
use Rattle.bg2d.proofs.Words.{◌*◌, ◌+◌, ◌/◌, ◌<◌, ◌^◌, ◌∙◌, ◌≡◌}
use Rattle.bg2d.specs.TextPixels.{text_colour, text_index}
use Rattle.bg2d.proofs.TilingLemmas.{flipped_below, index_16, table_16}
use Rattle.bg2d.proofs.texts.paint_narrow_tile.Goals as goal

pub returns : goal.returns
returns c = λ i lt.
    let a = c.args in
    let v = a.vram.now in
    let layer = a.layer.now in
    let entry : ℕ = a.entry in
    let word : ℕ = c.row_word_within-word.result in
    let place : ℕ = flipped (bit 10 entry) i in
    let below : place < 8 = flipped_below (bit 10 entry) i lt in
    let index : ℕ = word / 2 ^ (4 * place) % 16 in
    let small : index < 16 = omega arith in
    let fits = c.ranges.entry in
    let start : 16 * (entry / 2 ^ 12) ≡ 16 * bits 12 4 entry = omega (arith, fits) in
    let once : i ≡ i % 8 = omega (arith, lt) in
    let pixel : ℕ → ℕ = indexed_pixel (text_colour v a.palette.now layer entry) in
    let there : index ≡ text_index v layer entry place (flipped (bit 11 entry) (a.y % 8)) =
    c.row_word_within-word.ensures place below
    ∙ ap (λ (base : ℕ). nibble_at place (vram_byte v c.background_space-space.result (base + c.tile_offset.result + place / 2))) c.text_base.ensures.value
    ∙ ap (λ (offset : ℕ). nibble_at place (vram_byte v c.background_space-space.result (text_base layer + offset + place / 2))) c.tile_offset.ensures.value
    ∙ ap (λ s. nibble_at place (vram_byte v s (text_base layer + tile_offset layer entry a.y + place / 2))) c.background_space-space.ensures
    ∙ sym (index_16 v layer entry place a.y c.requires.narrow) in
    c.paint_nibbles.ensures i lt
    ∙ ap (λ (b : Bool). get_or a.table.now (16 * (entry / 2 ^ 12) + word / 2 ^ (4 * flipped b i) % 16) 0) c.flips_across.ensures
    ∙ ap (λ (n : ℕ). get_or a.table.now (n + index) 0) start
    ∙ c.requires.table (16 * bits 12 4 entry + index) (omega (arith, small))
    ∙ table_16 v a.palette.now layer entry index c.requires.narrow small
    ∙ ap pixel there
    ∙ ap (λ (n : ℕ). pixel (text_index v layer entry (flipped (bit 10 entry) n) (flipped (bit 11 entry) (a.y % 8)))) once
