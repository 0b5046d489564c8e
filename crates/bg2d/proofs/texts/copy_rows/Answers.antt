use Rattle.bg2d.proofs.Words.{arith}
use Rattle.bg2d.proofs.TilingLemmas.{indices_of_256}
use Rattle.bg2d.proofs.texts.copy_rows.Goals as goal

pub returns : goal.returns
returns c =
    indices_of_256 c.args.vram.now c.args.layer.now c.args.y c.args.entries.now c.loop-k.into c.requires
    (λ k i known small. c.loop-k.invariant k i (omega (arith, known)) small)
