use Rattle.video2d.proofs.Words.{FramesState, List, ap, frame_of, length, sym, ℕ, ◌∙◌, ◌≡◌}
use Rattle.video2d.proofs.FrameLemmas.{frame_long, none_fresh}
use Rattle.video2d.proofs.frames.Frames.finish.Goals as goal

pub returns : goal.returns
returns c =
    let m = c.self.inside in
    let y = c.swap.new.y in
    let made : y ≡ frame_of m.fresh m.drawn m.whole = c.swap.ensures.y_after ∙ c.fill_rest.ensures in
    let long : length y ≡ 98304 = ap (λ (l : List ℕ). length l) made ∙ frame_long m.fresh m.drawn m.whole in
    ap (λ (d : List ℕ). (let s : FramesState = record { drawn = d; whole = y } in s)) (sym (none_fresh c.all_lines-self-inside.result c.swap.new.x y c.all_lines-self-inside.ensures long))
    ∙ ap (λ (l : List ℕ). (let s : FramesState = record { drawn = l; whole = l } in s)) (made ∙ ap (λ (s : FramesState). s.drawn) c.self.view_is)
