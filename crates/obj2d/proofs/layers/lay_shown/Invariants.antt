use Rattle.obj2d.proofs.Words.{IsLaid, lanes_pixel, ◌+◌}
use Rattle.obj2d.proofs.layers.lay_shown.Given as goal

abbrev pub invariant-loop-i : goal.invariant-loop-i
invariant-loop-i l = IsLaid l.object l.pixels (l.span.first + l.i) (lanes_pixel l.fn.into) (lanes_pixel l.into)
