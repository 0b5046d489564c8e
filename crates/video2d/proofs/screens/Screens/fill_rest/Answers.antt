use Rattle.video2d.proofs.Words.{List, ap, arith, frame_of, length, with_items_is, ℕ, ◌∙◌, ◌≡◌}
use Rattle.video2d.proofs.FrameLemmas.{is_frame}
use Rattle.video2d.proofs.screens.Screens.fill_rest.Goals as goal

pub returns : goal.returns
returns c =
    let a = c.args in
    let R = c.as_mut_slice.result.now in
    let W = c.pixels.result.now in
    let new = c.fill_rest.new.drawn in
    let long = c.fill_rest.ensures.long in
    let room = c.as_mut_slice.ensures.len in
    let value = c.as_mut_slice.ensures.value in
    let kept = c.self.invariant in
    let same : length new ≡ c.self.inside.pixels.len = grind (arith, long, room, value, kept) in
    with_items_is c.self.inside.pixels new same
    ∙ is_frame a.fresh.now R W new long c.fill_rest.ensures.each
    ∙ ap (λ (d : List ℕ). frame_of a.fresh.now d W) (value ∙ c.self.view_is)
    ∙ ap (λ (w : List ℕ). frame_of a.fresh.now a.self.now w) c.pixels.ensures.value
