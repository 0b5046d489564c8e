use Rattle.std.specs.Prelude.{ℕ, ◌≡◌, ◌≤◌, ◌<◌, List, ◌++◌, length, take, Bool, true}
use Rattle.std.proofs.Common.{lt_irrefl}

-- a sink has afterwards what it had, followed by these bytes and nothing else: if it tells now, then it told before, and it
-- stands for each list that it stood for before, followed by them (our choice)
pub record Appended {S : Type 0} (tells : S → Bool) (taken : S → List ℕ → Type 0) (old new : S) (bytes : List ℕ) : Type 0 where
  pub told : tells new ≡ true → tells old ≡ true
  pub after : tells new ≡ true → (had : List ℕ) → taken old had → taken new (had ++ bytes)

-- it has what it had, followed by a front of these bytes
pub record AppendedFront {S : Type 0} (tells : S → Bool) (taken : S → List ℕ → Type 0) (old new : S) (bytes : List ℕ) : Type 0 where
  pub count : ℕ
  pub within : count ≤ length bytes
  pub front : Appended tells taken old new (take count bytes)

-- a sink that promises no room owes nothing
pub no_room : (tells : Bool) → 0 < 0 → tells ≡ true
no_room tells h = absurd (lt_irrefl 0 h)
