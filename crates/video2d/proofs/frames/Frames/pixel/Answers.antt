use Rattle.video2d.proofs.Words.{FramesState, List, ap, false, get_or, if_false, if_true, slice_index, sym, ℕ, ◌/◌, ◌∙◌}
use Rattle.video2d.proofs.FrameLemmas.{frame_at}
use Rattle.video2d.proofs.frames.Frames.pixel.Goals as goal

pub returns-then-self-i : goal.returns-then-self-i
returns-then-self-i c =
    let i = c.args.i in
    let m = c.self.inside in
    ap (λ (l : List ℕ). slice_index l i) c.pixels.ensures.value
    ∙ sym (if_true (get_or m.fresh (i / 256) false) (slice_index m.drawn i) (slice_index m.whole i) c.if-self-i.true)
    ∙ sym (frame_at m.fresh m.drawn m.whole i c.requires)
    ∙ ap (λ (s : FramesState). slice_index s.drawn i) c.self.view_is

pub returns-else-self-i : goal.returns-else-self-i
returns-else-self-i c =
    let i = c.args.i in
    let m = c.self.inside in
    ap (λ (l : List ℕ). slice_index l i) c.pixels-else-self-i.ensures.value
    ∙ sym (if_false (get_or m.fresh (i / 256) false) (slice_index m.drawn i) (slice_index m.whole i) c.if-self-i.false)
    ∙ sym (frame_at m.fresh m.drawn m.whole i c.requires)
    ∙ ap (λ (s : FramesState). slice_index s.drawn i) c.self.view_is
