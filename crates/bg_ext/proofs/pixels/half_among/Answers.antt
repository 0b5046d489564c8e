use Rattle.bg_ext.proofs.Words.{length, ◌∙◌}
use Rattle.bg_ext.proofs.HalfLemmas.{half_read}
use Rattle.bg_ext.proofs.pixels.half_among.Goals as goal

pub returns : goal.returns
returns c =
    c.half_of.ensures
    ∙ half_read c.args.vram.now c.args.space c.args.at c.args.k (length c.args.bytes.now) c.args.bytes.now c.requires.even c.requires.inside c.requires.bytes
