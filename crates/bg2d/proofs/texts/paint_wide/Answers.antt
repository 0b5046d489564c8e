use Rattle.bg2d.proofs.TilingLemmas.{painted_tiles}
use Rattle.bg2d.proofs.texts.paint_wide.Goals as goal

pub returns : goal.returns
returns c =
    painted_tiles c.args.vram.now c.args.palette.now c.args.layer.now c.args.y c.args.entries.now c.copy_rows.new.into c.paint.new.into
    c.copy_rows.ensures c.paint.ensures
