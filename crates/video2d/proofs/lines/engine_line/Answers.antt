use Rattle.video2d.proofs.Words.{engine_line, engine_pixel, fill_by_all, whole_line}
use Rattle.video2d.proofs.lines.engine_line.Goals as goal

pub returns : goal.returns
unfolding engine_line whole_line
returns c =
    let a = c.args in
    fill_by_all (engine_pixel a.vram.now a.palette.now a.oam.now a.which a.power a.engine.now a.line) c.shown_line.new.into 256 0 c.shown_line.array_long c.shown_line.ensures
