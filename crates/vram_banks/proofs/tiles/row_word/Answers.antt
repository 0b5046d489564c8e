use Rattle.vram_banks.proofs.Words.{Word, ap, arith, value_by, vram_byte, ℕ, ◌%◌, ◌*◌, ◌-◌, ◌/◌, ◌^◌, ◌∙◌, ◌≡◌}
use Rattle.vram_banks.proofs.WordNibbles.{word_nibble}
use Rattle.vram_banks.proofs.tiles.row_word.Goals as goal

pub returns : goal.returns
returns c = λ i lt.
    let a = c.args in
    let f : ℕ → ℕ = vram_byte a.vram.now a.space in
    let whole = c.requires in
    let down : a.at - a.at % 4 ≡ a.at = omega (arith, whole) in
    ap (λ (n : ℕ). n / 2 ^ (4 * i) % 16) (c.read_in_line.ensures.value ∙ ap (value_by Word f) down)
    ∙ word_nibble f a.at i (c.bank_laws.ensures.narrow a.space) lt
