use Rattle.std.specs.Prelude.{ℕ, ◌≡◌, List, [], ◌++◌, Bool}
use Rattle.ds_io.specs.Sinks.{Appended}

-- a page held bytes, and a text came: a sink has taken the first of all these, the page holds the next, and of the text only `rest`
-- is still to come
pub record Passing {S : Type 0} (tells : S → Bool) (taken : S → List ℕ → Type 0) (old new : S) (before after text rest : List ℕ) : Type 0 where
  pub sent : List ℕ
  pub all : before ++ text ≡ sent ++ (after ++ rest)
  pub appended : Appended tells taken old new sent

-- nothing is still to come
abbrev pub Passed : {S : Type 0} (tells : S → Bool) (taken : S → List ℕ → Type 0) (old new : S) (before after text : List ℕ) → Type 0
Passed tells taken old new before after text = Passing tells taken old new before after text []
