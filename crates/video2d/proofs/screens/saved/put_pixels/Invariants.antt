use Rattle.video2d.proofs.Words.{bytes_written, drop, pixel_format, written_each, ◌≡◌}
use Rattle.video2d.proofs.screens.saved.put_pixels.Given as goal

abbrev pub invariant-loop-pixel : goal.invariant-loop-pixel
invariant-loop-pixel l =
    written_each (bytes_written pixel_format) l.into (drop l.pixel-index l.pixels) ≡ written_each (bytes_written pixel_format) l.fn.into l.fn.pixels
