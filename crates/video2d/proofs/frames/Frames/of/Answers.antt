use Rattle.video2d.proofs.Words.{FramesState, List, ap, sym, ℕ}
use Rattle.video2d.proofs.FrameLemmas.{all_fresh}
use Rattle.video2d.proofs.frames.Frames.of.Goals as goal

pub returns : goal.returns
returns c =
    ap (λ (l : List ℕ). (let s : FramesState = record { drawn = l; whole = c.args.whole } in s))
    (sym (all_fresh c.all_lines.result c.args.drawn c.args.whole c.all_lines.ensures c.pixel_laws.ensures))
