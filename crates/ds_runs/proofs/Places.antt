use Rattle.std.proofs.Common.{ℕ, zero, suc, ◌≡◌, ◌<◌, ◌≤◌, ◌+◌, ◌-◌, ◌*◌, List, [], ◌∷◌, Option, Some, None, refl, ap, arith}
use Rattle.std.proofs.Math.Nat.{mul-le-mul_left}
use Rattle.std.proofs.lemmas.Option.{same_Some, none-some}
use Rattle.ds_base.specs.declared.ticks.Tick.{Tick}
use Rattle.ds_runs.specs.Runs.{due_at}
use Rattle.ds_runs.specs.ScheduleLaws.{places_remaining}

-- Places in the order of steps.

-- a later tick has later places
pub later_place : (k t r u : ℕ) → t < u → r < k → k * t + r < k * u
later_place k t r u lt small =
    let le : k * (t + 1) ≤ k * u = mul-le-mul_left {m = t + 1} {n = u} k (omega arith) in
    let e : k * (t + 1) ≡ k * t + k = grind arith in
    omega (arith, le, e)

-- what is left from an actor's place on is no more than what is left from the first
pub remaining_at : (ranks limit from : ℕ) (dues : List (Option Tick)) (rank : ℕ) (tick : Tick) → due_at dues rank ≡ Some tick
    → ranks * limit - (ranks * tick.0 + (from + rank)) ≤ places_remaining ranks limit from dues
remaining_at ranks limit from [] rank tick h = absurd (none-some tick h)
remaining_at ranks limit from (None ∷ ds) zero tick h = absurd (none-some tick h)
remaining_at ranks limit from (None ∷ ds) (suc rank) tick h = let k = remaining_at ranks limit (suc from) ds rank tick h in omega (arith, k)
remaining_at ranks limit from (Some t ∷ ds) zero tick h =
    let e : ranks * t.0 ≡ ranks * tick.0 = ap (λ (x : Tick). ranks * x.0) (same_Some t tick h) in
    omega (arith, e)
remaining_at ranks limit from (Some t ∷ ds) (suc rank) tick h = let k = remaining_at ranks limit (suc from) ds rank tick h in omega (arith, k)

-- and what is left from the first is as little as what is left from each
pub remaining_below : (ranks limit from bound : ℕ) (dues : List (Option Tick))
    → ((rank : ℕ) (tick : Tick) → due_at dues rank ≡ Some tick → ranks * limit - (ranks * tick.0 + (from + rank)) ≤ bound)
    → places_remaining ranks limit from dues ≤ bound
remaining_below ranks limit from bound [] h = omega arith
remaining_below ranks limit from bound (None ∷ ds) h = remaining_below ranks limit (suc from) bound ds (λ rank tick e. (let k = h (suc rank) tick e in omega (arith, k)))
remaining_below ranks limit from bound (Some t ∷ ds) h =
    let rest = remaining_below ranks limit (suc from) bound ds (λ rank tick e. (let k = h (suc rank) tick e in omega (arith, k))) in
    let one = h zero t refl in
    omega (arith, rest, one)
