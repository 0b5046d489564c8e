use Rattle.video2d.proofs.Words.{background_seen, false, get_or, is_background_on, sym, ◌∙◌, ◌≡◌}
use Rattle.video2d.proofs.PlainLemmas.{off_clear, over_clear}
use Rattle.video2d.proofs.plains.lay_background.Goals as goal

pub returns-then-not-is_background_on : goal.returns-then-not-is_background_on
returns-then-not-is_background_on c = λ x small.
    let a = c.args in
    let e = a.engine.now in
    let off : is_background_on e a.n ≡ false = sym c.is_background_on.ensures ∙ c.if-not-is_background_on.true in
    sym (over_clear a.turn (background_seen a.vram.now a.colours.now a.which e a.line a.n x) (get_or a.into.now x 0)
    (off_clear a.vram.now a.colours.now a.which e a.line a.n x off))
