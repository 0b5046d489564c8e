use Rattle.obj2d.proofs.Words.{ObjectPixel, ap, get_or-replicate, ℕ, ◌==◌}
use Rattle.obj2d.proofs.layers.no_objects.Goals as goal

pub returns : goal.returns
returns c = λ x small.
    ap (λ (n : ℕ). let p : ObjectPixel = record { colour = n; priority = n; blended = n == 1; window = n == 1 } in p) (get_or-replicate 256 x 0 0 small)
