use Rattle.ds_machine.proofs.Words.{Bool, LastUnit, Nine, None, Option, Outcome, Proc, Seven, Some, Tick, ap, arith, false, if◌then◌else◌, in_ticks}
use Rattle.ds_machine.proofs.Words.{le-max_left, max, mul-le-mul_left, nat_le, past_unit, ticks_per_clock, true, ℕ, ◌*◌, ◌+◌, ◌<◌, ◌∙◌, ◌≡◌, ◌≤◌}
use Rattle.ds_machine.proofs.Commutes.{outcome_so}

-- What a step costs in ticks.

-- a step's outcome, with its cost in ticks
abbrev pub ticked : {S : Type 0} → Proc → ℕ → Outcome S → Outcome S
ticked proc waits o = record o { stepped = in_ticks proc waits o.stepped }

pub ticked_so : {S : Type 0} (proc : Proc) (v w : ℕ) (f : S → S) (a b : Outcome S) → v ≡ w → a ≡ outcome_so f b → ticked proc v a ≡ outcome_so f (ticked proc w b)
ticked_so {S} proc v w f a b same h = ap (λ (n : ℕ). ticked proc n a) same ∙ ap (ticked proc w) h

some_clock : (proc : Proc) → 0 < ticks_per_clock proc
some_clock Nine = omega arith
some_clock Seven = omega arith

-- what costs a clock costs a tick
pub some_ticks : (proc : Proc) (clocks waits : ℕ) → 0 < clocks → 0 < ticks_per_clock proc * clocks + waits
some_ticks proc clocks waits some =
    let one : ticks_per_clock proc * 1 ≤ ticks_per_clock proc * clocks = mul-le-mul_left {m = 1} {n = clocks} (ticks_per_clock proc) some in
    let each = some_clock proc in
    omega (arith, one, each)

-- a processor goes on later than a tick after it
pub after_unit : (last : Option LastUnit) (now : Tick) → now.0 < past_unit last now
after_unit None now = omega arith
after_unit (Some last) now = let le = le-max_left (now.0 + 1) (last.tick.0 + last.waits + 1) in omega (arith, le)
