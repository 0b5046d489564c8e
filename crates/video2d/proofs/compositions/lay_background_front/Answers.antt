use Rattle.video2d.proofs.Words.{background_pixel, background_seen, bit, false, front_at, is_background_on, shown_bits_at, sym, ◌∙◌, ◌≡◌}
use Rattle.video2d.specs.Layers.{shown_through}
use Rattle.video2d.proofs.LineLemmas.{hidden_clear, put_clear}
use Rattle.video2d.proofs.PlainLemmas.{off_clear}
use Rattle.video2d.proofs.compositions.lay_background_front.Goals as goal

pub returns-then-not-is_background_on : goal.returns-then-not-is_background_on
returns-then-not-is_background_on c = λ x small.
    let a = c.args in
    let e = a.engine.now in
    let off : is_background_on e a.n ≡ false = sym c.is_background_on.ensures ∙ c.if-not-is_background_on.true in
    let shown = shown_bits_at a.shown.now x in
    sym (put_clear e a.turn (shown_through shown (background_seen a.vram.now a.colours.now a.which e a.line a.n x)) (front_at a.into.now x)
    (hidden_clear (bit a.n shown) (background_pixel a.vram.now a.colours.now a.which e a.line a.n x)
    (off_clear a.vram.now a.colours.now a.which e a.line a.n x off)))
