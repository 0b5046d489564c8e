use Rattle.std.proofs.Common.{ℕ, ◌≡◌, ◌≤◌, ◌<◌, ◌^◌, ◌==◌, Bool, true, false, Option, Some, None, is_some, IfSome, refl, sym, arith, rules}
use Rattle.ds_state.specs.Formats.{earlier_tick, tick_or_0, tick_where}

-- The ticks of earlier steps.

none_is_0 : (n : ℕ) → (n == 0) ≡ true → n ≡ 0
none_is_0 n h = grind (arith, rules)

-- what is made of a number that keeps the rule has that number
pub earlier_again : (there : Bool) (at n : ℕ) → earlier_tick there at n ≡ true → tick_or_0 (tick_where there n) ≡ n
earlier_again true at n rule = refl
earlier_again false at n rule = sym (none_is_0 n rule)

-- a tick that isn't later has a spelling, keeps the rule, and is made again
pub earlier_fits : (tick : Option ℕ) (at : ℕ) → at ≤ 2 ^ 56 → IfSome tick (λ t. t ≤ at) → tick_or_0 tick < 2 ^ 64
earlier_fits None at early h = omega arith
earlier_fits (Some t) at early h = omega (arith, early, h)

pub earlier_holds : (tick : Option ℕ) (there : Bool) (at : ℕ) → IfSome tick (λ t. t ≤ at) → is_some tick ≡ there → earlier_tick there at (tick_or_0 tick) ≡ true
earlier_holds None there at h e = rw (← e) refl
earlier_holds (Some t) there at h e = rw (← e) (grind (arith, h))

pub earlier_made : (tick : Option ℕ) (there : Bool) → is_some tick ≡ there → tick_where there (tick_or_0 tick) ≡ tick
earlier_made None there e = rw (← e) refl
earlier_made (Some t) there e = rw (← e) refl
