use Rattle.video2d.proofs.Words.{map, range_with_len, ◌-◌, ◌≡◌}
use Rattle.video2d.specs.Stops.{first_need, needs_of_object, needs_of_objects}
use Rattle.video2d.proofs.stops.needs_of_objects.Given as goal

abbrev pub invariant-loop-n : goal.invariant-loop-n
invariant-loop-n l =
    first_need (map (needs_of_object l.which l.engine l.oam l.line) (range_with_len l.n (128 - l.n)))
    ≡ needs_of_objects l.which l.engine l.oam l.line
