use Rattle.vram_banks.proofs.Words.{ap, arith, get_or, opaque_pixel, palette_colour, sym, ℕ, ◌%◌, ◌*◌, ◌+◌, ◌/◌, ◌∙◌, ◌≡◌}
use Rattle.vram_banks.proofs.colours.fill_opaque.Goals as goal

pub returns : goal.returns
returns c = λ i small.
    let place : i ≡ 8 * (i / 8) + i % 8 = omega arith in
    ap (λ (j : ℕ). get_or c.loop-k.into j 0) place
    ∙ c.loop-k.invariant (i / 8) (i % 8) (omega arith) (omega arith)
    ∙ ap (λ (j : ℕ). opaque_pixel (palette_colour c.args.palette.now j)) (sym place)
