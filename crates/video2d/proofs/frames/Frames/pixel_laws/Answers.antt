use Rattle.video2d.proofs.Words.{FramesState, ap, length, sym, ◌∙◌}
use Rattle.video2d.proofs.FrameLemmas.{frame_long}
use Rattle.video2d.proofs.frames.Frames.pixel_laws.Goals as goal

pub returns : goal.returns
returns c =
    let m = c.self.inside in
    sym (ap (λ (s : FramesState). length s.drawn) c.self.view_is) ∙ frame_long m.fresh m.drawn m.whole
