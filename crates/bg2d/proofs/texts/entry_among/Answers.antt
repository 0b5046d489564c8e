use Rattle.bg2d.proofs.Words.{◌∙◌}
use Rattle.bg2d.proofs.TilingLemmas.{entry_of_blocks}
use Rattle.bg2d.proofs.texts.entry_among.Goals as goal

pub returns : goal.returns
returns c =
    c.block_entry.ensures
    ∙ entry_of_blocks c.args.vram.now c.args.layer.now c.args.first c.args.k c.args.y c.args.blocks.now
    c.requires.whole c.requires.across c.requires.known c.requires.blocks
