use Rattle.vram_banks.proofs.Words.{ap, arith, get_or, nibble_at, vram_byte, ℕ, ◌%◌, ◌*◌, ◌+◌, ◌/◌, ◌^◌, ◌∙◌, ◌≡◌}
use Rattle.vram_banks.proofs.WordNibbles.{word_nibble}
use Rattle.vram_banks.proofs.tiles.row_word_within.Goals as goal

pub returns-then-at-run : goal.returns-then-at-run
returns-then-at-run c = λ i lt.
    let a = c.args in
    let within = c.if-at-run.true in
    let place : a.base + (a.offset + i / 2) ≡ a.base + a.offset + i / 2 = omega arith in
    ap (λ (n : ℕ). n / 2 ^ (4 * i) % 16) c.word_at.ensures
    ∙ word_nibble (λ k. get_or a.run.now k 0) a.offset i (λ k. omega (arith, c.type_inv.run k)) lt
    ∙ ap (nibble_at i) (c.requires.run (a.offset + i / 2) (omega (arith, within, lt)) ∙ ap (vram_byte a.vram.now a.space) place)
