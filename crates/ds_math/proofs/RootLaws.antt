use Rattle.std.proofs.Common.{ℕ, zero, suc, ◌≡◌, ◌<◌, ◌≤◌, ◌+◌, ◌*◌, arith}
use Rattle.std.specs.Prelude.{nat_le, if◌then◌else◌}
use Rattle.ds_math.specs.Roots.{IsRoot, root_of}

-- squares grow
squares : (a b : ℕ) → a ≤ b → a * a ≤ b * b
squares a b h = grind arith

-- a number has one root
not_below : (v r s : ℕ) → IsRoot v r → IsRoot v s → r < s → ⊥
not_below v r s g h l = (let e = squares (r + 1) s (omega (arith, l)) in omega (arith, e, g.above, h.below))

pub one_root : (v r s : ℕ) → IsRoot v r → IsRoot v s → r ≡ s
one_root v r s g h = (let a = not_below v r s g h in let b = not_below v s r h g in grind (arith, a, b))

step : (v r : ℕ) → IsRoot v r → IsRoot (suc v) (if nat_le ((r + 1) * (r + 1)) (suc v) then r + 1 else r)
step v r h = grind (arith, h.below, h.above)

pub is_root : (v : ℕ) → IsRoot v (root_of v)
unfolding root_of
is_root zero = record { below = omega arith; above = omega arith }
is_root (suc v) = step v (root_of v) (is_root v)

pub is_root_of : (v r : ℕ) → IsRoot v r → r ≡ root_of v
is_root_of v r h = one_root v r (root_of v) h (is_root v)
