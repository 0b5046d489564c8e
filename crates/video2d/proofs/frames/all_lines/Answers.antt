use Rattle.video2d.proofs.Words.{false, get_or-replicate}
use Rattle.video2d.proofs.frames.all_lines.Goals as goal

pub returns : goal.returns
returns c = λ number small. get_or-replicate 384 number c.args.fresh false small
