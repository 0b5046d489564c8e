use Rattle.std.specs.Prelude.{ℕ, ◌≤◌, Bool, List, Result, Ok, Err}
use Rattle.ds_io.specs.Faults.{Rose}
use Rattle.ds_io.specs.Sinks.{Appended, AppendedFront}

-- what a call left in the sink that was to take these bytes: it took them whole; or, where the call failed, a front of them, and the
-- sink's count of faults rose (our choice)
abbrev pub Puts : {S E : Type 0} → (tells : S → Bool) → (taken : S → List ℕ → Type 0) → (faults : S → ℕ) → List ℕ → Result (Unit {0}) E → S → S
    → Type 0
Puts tells taken faults bytes (Ok done) before after = Appended tells taken before after bytes × (faults before ≤ faults after)
Puts tells taken faults bytes (Err fault) before after =
    AppendedFront tells taken before after bytes × Rose (faults before) (faults after) × (faults before ≤ faults after)
