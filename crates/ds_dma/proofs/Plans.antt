use Rattle.ds_dma.proofs.Words.{Channel, Proc, after_unit, disabled, either_by, equal, if◌then◌else◌, is_armed_again, is_last_of_burst, is_last_unit}
use Rattle.ds_dma.proofs.Words.{not, not_false, not_true, unequal, unit_of}
use Rattle.std.proofs.Common.{ℕ, zero, suc, ◌≡◌, ◌<◌, ◌≤◌, ◌+◌, ◌-◌, ◌*◌, ◌%◌, ◌^◌, List, [], ◌∷◌, map, refl, sym, ◌∙◌, ap, arith, None}
use Rattle.std.specs.List.{range_with_len}
use Rattle.std.proofs.Math.Nat.{mod-add-mod, mod-eq_of_lt}
use Rattle.ds_dma.specs.declared.channels.Unit.{Unit as DmaUnit}
use Rattle.ds_dma.specs.Channels.{plan_of, address_of, source_step, target_step, emptied, rest_of, TakesUnit, more_units, pauses, again, ends}

-- the address of the unit after this one, from the first and from the second
shifted : (first step i : ℕ) → address_of first step (i + 1) ≡ address_of (address_of first step 1) step i
shifted first step i =
    let sum : first + step * (i + 1) ≡ (first + step * 1) + step * i = grind arith in
    ap (λ n. n % 2 ^ 32) sum ∙ sym (mod-add-mod (first + step * 1) (2 ^ 32) (step * i))

unit_shifted : (c : Channel) (i : ℕ) → unit_of c (i + 1) ≡ unit_of (rest_of c) i
unit_shifted c i =
    ap (λ n. record { from = n; to = address_of c.to (target_step c) (i + 1); width = (unit_of c 0).width }) (shifted c.from (source_step c) i)
    ∙ ap (λ n. record { from = address_of (unit_of c 1).from (source_step c) i; to = n; width = (unit_of c 0).width }) (shifted c.to (target_step c) i)

mapped : (f g : ℕ → DmaUnit) → ((i : ℕ) → f (i + 1) ≡ g i) → (a n : ℕ) → map f (range_with_len (a + 1) n) ≡ map g (range_with_len a n)
mapped f g h a zero = refl
mapped f g h a (suc n) = ap (λ x. x ∷ map f (range_with_len (a + 1 + 1) n)) (h a) ∙ ap (λ xs. g a ∷ xs) (mapped f g h (a + 1) n)

first_of : (a n : ℕ) → 1 ≤ n → range_with_len a n ≡ a ∷ range_with_len (a + 1) (n - 1)
first_of a zero h = absurd (omega (arith, h))
first_of a (suc n) h = (let one_less : n ≡ suc n - 1 = omega arith in ap (λ k. a ∷ range_with_len (a + 1) k) one_less)

-- A PLAN'S FIRST UNIT AND ITS REST: the rest is the plan of the running addresses one unit on
pub plan_splits : (c : Channel) → 1 ≤ c.remaining → plan_of c ≡ unit_of c 0 ∷ plan_of (rest_of c)
unfolding plan_of
plan_splits c h =
    ap (map (unit_of c)) (first_of 0 c.remaining h) ∙ ap (λ xs. unit_of c 0 ∷ xs) (mapped (unit_of c) (unit_of (rest_of c)) (unit_shifted c) 0 (c.remaining - 1))

plan_ends : (c : Channel) → c.remaining ≡ 0 → plan_of c ≡ []
unfolding plan_of
plan_ends c h = ap (λ n. map (unit_of c) (range_with_len 0 n)) h

-- one step on an address is the address itself
there : (n step : ℕ) → n < 2 ^ 32 → address_of n step 0 ≡ n
there n step h = (let none : n + step * 0 ≡ n = grind arith in ap (λ k. k % 2 ^ 32) none ∙ mod-eq_of_lt h)

below : (n : ℕ) → n % 2 ^ 32 < 2 ^ 32
below n = omega arith

-- the rest's first unit lies where the rest stands
next_is : (c : Channel) → ((unit_of c 1).from ≡ (unit_of (rest_of c) 0).from) × ((unit_of c 1).to ≡ (unit_of (rest_of c) 0).to)
next_is c = (
  sym (there (unit_of c 1).from (source_step c) (below (c.from + source_step c * 1))),
  sym (there (unit_of c 1).to (target_step c) (below (c.to + target_step c * 1))),
)

took_more : (proc : Proc) (which : ℕ) (c : Channel) → 2 ≤ c.remaining → TakesUnit proc which c (if is_last_of_burst c then record (rest_of c) { trigger = None } else rest_of c)
unfolding plan_of
took_more proc which c h =
    let rest = rest_of c in
    let splits = plan_splits rest (omega (arith, h)) in
    let all = plan_splits c (omega (arith, h)) ∙ ap (λ xs. unit_of c 0 ∷ xs) splits in
    let is = next_is c in
    either_by (TakesUnit proc which c) (is_last_of_burst c) (record rest { trigger = None }) rest
    (λ e. (let one = equal c.burst 1 e in pauses (unit_of c 0) (unit_of rest 0) (plan_of (rest_of rest)) all splits one
    (ap (λ n. record c { from = n; to = (unit_of c 1).to; remaining = c.remaining - 1; trigger = None; burst = c.burst - 1 }) is.0
    ∙ ap (λ n. record c { from = (unit_of rest 0).from; to = n; remaining = c.remaining - 1; trigger = None; burst = c.burst - 1 }) is.1
    ∙ ap (λ n. record c { from = (unit_of rest 0).from; to = (unit_of rest 0).to; remaining = c.remaining - 1; trigger = None; burst = n - 1 }) one)))
    (λ e. more_units (unit_of c 0) (unit_of rest 0) (plan_of (rest_of rest)) all splits (unequal c.burst 1 e)
    (ap (λ n. record c { from = n; to = (unit_of c 1).to; remaining = c.remaining - 1; burst = c.burst - 1 }) is.0
    ∙ ap (λ n. record c { from = (unit_of rest 0).from; to = n; remaining = c.remaining - 1; burst = c.burst - 1 }) is.1))

only_one : (c : Channel) → c.remaining ≡ 1 → plan_of c ≡ unit_of c 0 ∷ []
only_one c h = plan_splits c (omega (arith, h)) ∙ ap (λ xs. unit_of c 0 ∷ xs) (plan_ends (rest_of c) (omega (arith, h)))

-- a channel that has units left takes the first one
pub takes : (proc : Proc) (which : ℕ) (c : Channel) → 1 ≤ c.remaining → TakesUnit proc which c (after_unit proc which c)
takes proc which c h =
    let P : Channel → Type 0 = TakesUnit proc which c in
    either_by P (not (is_last_unit c)) _ _
    (λ e. took_more proc which c (let ne = unequal c.remaining 1 (not_true (is_last_unit c) e) in omega (arith, h, ne)))
    (λ e. (let one = equal c.remaining 1 (not_false (is_last_unit c) e) in
    either_by P (is_armed_again proc c.cnt) _ _
    (λ f. again (unit_of c 0) (only_one c one) f refl)
    (λ f. ends (unit_of c 0) (only_one c one) f (plan_ends (emptied c (disabled c.cnt)) refl) refl)))

-- and that one is where it stands
pub has_first : (c : Channel) → 1 ≤ c.remaining → (rest : List DmaUnit) × (plan_of c ≡ unit_of c 0 ∷ rest)
has_first c h = (plan_of (rest_of c), plan_splits c h)
