use Rattle.gx_geometry.proofs.Words.{arith, ints, min, negsuc, pos, refl, suc, unsigned_abs, zero, ℕ, ℤ, ◌*◌, ◌/◌, ◌<ℤ◌, ◌≡◌, ◌≤ℤ◌, ◌≤◌}
use Rattle.gx_geometry.specs.Lights.{facing}

-- a sum that isn't negative faces away
pub facing_up : (z : ℤ) → pos 0 ≤ℤ z → facing z ≡ 0
unfolding facing
facing_up (pos zero) h = refl
facing_up (pos (suc n)) h = refl
facing_up (negsuc n) h = absurd (omega (arith, ints))

-- a negative one faces by its size
pub facing_down : (z : ℤ) → z <ℤ pos 0 → facing z ≡ min (unsigned_abs z / 512) 511
unfolding facing
facing_down (pos n) h = absurd (omega (arith, ints))
facing_down (negsuc n) h = refl

-- the square of a level
pub square_fits : (e : ℕ) → e ≤ 511 → e * e ≤ 261121
square_fits e h = grind arith

-- two channels and a level
pub part_fits : (a b c : ℕ) → a ≤ 31 → b ≤ 31 → c ≤ 511 → a * b * c ≤ 491071
part_fits a b c h k l = (let ab : a * b ≤ 961 = grind arith in grind arith)

pub ambient_fits : (a b : ℕ) → a ≤ 31 → b ≤ 31 → a * b ≤ 961
ambient_fits a b h k = grind arith
