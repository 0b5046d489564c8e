use Rattle.nds_plays.proofs.Cuts.{runs_are_cut}
use Rattle.nds_plays.proofs.laws.cut_laws.Goals as goal

pub returns : goal.returns
returns c =
    let laws = c.reference_laws.ensures in
    let frames = c.frame_laws.ensures in
    runs_are_cut laws.join laws.one laws.exist frames.step frames.lists_step
