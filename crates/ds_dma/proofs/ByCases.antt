use Rattle.ds_dma.proofs.Words.{Channel, channel_at, either_by, if◌then◌else◌, is_enabled, is_running, never, ◌||◌}
use Rattle.std.proofs.Common.{ℕ, zero, suc, ◌≡◌, ◌<◌, refl, arith, Bool, true, false}
use Rattle.ds_dma.specs.Channels.{ChangesChannel, empties, latches, stays}
use Rattle.ds_dma.specs.Relations.{ControlsChange, LeastIsFound}

pub changes : ControlsChange
changes proc which c control now =
    let P : Channel → Type 0 = ChangesChannel proc which c control now in
    either_by P (is_enabled control) _ _
    (λ on. either_by P (is_enabled c.cnt) _ _ (λ was. stays was on refl) (λ was. latches was on refl))
    (λ off. empties off refl)

-- the first of four that holds, where one does
first_of_four : (f : ℕ → Bool) (a b c d : Bool) → f 0 ≡ a → f 1 ≡ b → f 2 ≡ c → f 3 ≡ d → (a || b || c || d) ≡ true
    → (let which : ℕ = if a then 0 else (if b then 1 else (if c then 2 else 3)) in (which < 4) × (f which ≡ true) × ((lower : ℕ) → lower < which → f lower ≡ false))
first_of_four f true b c d p q r s h = (omega arith, p, λ lower l. absurd (omega (arith, l)))
first_of_four f false true c d p q r s h = (omega arith, q, below) where
  below : (lower : ℕ) → lower < 1 → f lower ≡ false
  below zero l = p
  below (suc n) l = absurd (omega (arith, l))
first_of_four f false false true d p q r s h = (omega arith, r, below) where
  below : (lower : ℕ) → lower < 2 → f lower ≡ false
  below zero l = p
  below (suc zero) l = q
  below (suc (suc n)) l = absurd (omega (arith, l))
first_of_four f false false false true p q r s h = (omega arith, s, below) where
  below : (lower : ℕ) → lower < 3 → f lower ≡ false
  below zero l = p
  below (suc zero) l = q
  below (suc (suc zero)) l = r
  below (suc (suc (suc n))) l = absurd (omega (arith, l))
first_of_four f false false false false p q r s h = never false (h) refl

pub finds_least : LeastIsFound
finds_least channels runs =
    let f : ℕ → Bool = λ k. is_running (channel_at channels k) in
    let found = first_of_four f (f 0) (f 1) (f 2) (f 3) refl refl refl refl runs in
    record { below = found.0; there = found.1; least = found.2 }
