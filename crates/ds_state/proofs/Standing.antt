-- What a state keeps of a format's rules, and that what is made of values says these values of itself: by these the laws of a format are proved.
use Rattle.std.specs.Prelude.{ℕ, ◌≡◌, true, List, length}
use Rattle.std.specs.List.{AllByRecursion}
use Rattle.ds_state.specs.Formats.{Format, done, then_field, then_part, list, Fits}

-- what a format makes of a state's own values
abbrev pub made : {S A : Type 0} → Format S A → S → A
made (done a) s = a
made (then_field c get rule next) s = made (next (get s)) s
made (then_part f get next) s = made (next (get s)) s
made (list n f get next) s = made (next (get s)) s

-- A state keeps each field's rule at a tick, and so do its parts, which are what is made of their own values.
abbrev pub Keeps : {S A : Type 0} → Format S A → ℕ → S → Type 0
Keeps (done a) at s = Unit {0}
Keeps (then_field c get rule next) at s = Fits c (get s) × (rule at (get s) ≡ true) × Keeps (next (get s)) at s
Keeps (then_part f get next) at s = (Keeps f at (get s) × (made f (get s) ≡ get s)) × Keeps (next (get s)) at s
Keeps (list n f get next) at s = (length (get s) ≡ n) × AllByRecursion (λ t. Keeps f at t × (made f t ≡ t)) (get s) × Keeps (next (get s)) at s

-- bytes stand for a state: it keeps the rules, and is what is made of its own values
abbrev pub StandsFor : {S : Type 0} → Format S S → ℕ → S → Type 0
StandsFor f at s = Keeps f at s × (made f s ≡ s)

-- What is made of values that keep their rules says these values of itself, and P.
abbrev pub Says : {S A : Type 0} → (A → S) → Format S A → ℕ → (A → Type 0) → Type 0
Says state (done a) at P = P a
Says state (then_field c get rule next) at P = (v : _) → Fits c v → rule at v ≡ true → Says state (next v) at (λ a. (get (state a) ≡ v) × P a)
Says state (then_part f get next) at P =
    Says (λ t. t) f at (λ t. Unit {0}) × ((t : _) → StandsFor f at t → Says state (next t) at (λ a. (get (state a) ≡ t) × P a))
Says state (list n f get next) at P =
    Says (λ t. t) f at (λ t. Unit {0})
    × ((ts : List _) → length ts ≡ n → AllByRecursion (StandsFor f at) ts → Says state (next ts) at (λ a. (get (state a) ≡ ts) × P a))

-- a format of states is exact: what is made says what it was made of
abbrev pub IsExact : {S : Type 0} → Format S S → ℕ → Type 0
IsExact f at = Says (λ s. s) f at (λ s. Unit {0})
