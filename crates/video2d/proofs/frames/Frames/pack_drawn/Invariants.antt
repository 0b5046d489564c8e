use Rattle.video2d.proofs.Words.{bytes_written, drop, pixel_format, written_each, ◌≡◌}
use Rattle.video2d.proofs.frames.Frames.pack_drawn.Given as goal

abbrev pub invariant-loop-i : goal.invariant-loop-i
invariant-loop-i l = written_each (bytes_written pixel_format) l.into (drop l.i l.self.drawn) ≡ written_each (bytes_written pixel_format) l.fn.into l.self.drawn
