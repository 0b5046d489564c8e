use Rattle.std.specs.Prelude.{ℕ, ◌≡◌, ◌≤◌, ◌*◌, List, ◌++◌}
use Rattle.ds_runs.specs.Runs.{TickMachine, Ending, At, Runs, steps_of}

-- The laws of a machine's runs, for the states that come up (the sound ones).

-- the run to one limit and then to a later one is the run to the later one
abbrev pub RunsJoin : {S O L : Type 0} → TickMachine S O L → Type 0
RunsJoin {S} {O} {L} m = (first later : ℕ) (middle start : S) (end : Ending S L) (xs ys : List O) → first ≤ later
    → Runs m first (At middle) start xs → Runs m later end middle ys → Runs m later end start (xs ++ ys)

-- a run has one ending and one output
abbrev pub RunsAreOne : {S O L : Type 0} → TickMachine S O L → Type 0
RunsAreOne {S} {O} {L} m = (limit : ℕ) (start : S) (end end₂ : Ending S L) (outs outs₂ : List O)
    → Runs m limit end start outs → Runs m limit end₂ start outs₂ → (end ≡ end₂) × (outs ≡ outs₂)

-- from every sound state there is a run to every limit
abbrev pub RunsExist : {S O L : Type 0} → TickMachine S O L → (S → Type 0) → Type 0
RunsExist {S} {O} {L} m Sound = (limit : ℕ) (start : S) → Sound start → (end : Ending S L) × (outs : List O) × Runs m limit end start outs

-- a run to a limit takes at most so many steps for each tick below it
abbrev pub RunsEnd : {S O L : Type 0} → TickMachine S O L → ℕ → (S → Type 0) → Type 0
RunsEnd {S} {O} {L} m ranks Sound = (limit : ℕ) (start : S) (end : Ending S L) (outs : List O) → Sound start
    → (run : Runs m limit end start outs) → steps_of run ≤ ranks * limit
