use Rattle.nds_top.proofs.Words.{AreKeys, BadState, ConsoleState, Err, IsBadState, IsCart, IsFileRead, IsState, KeyLine, List, MachineState, Named}
use Rattle.nds_top.proofs.Words.{NoMemory, Ok, Option, RefusesFiles, Result, Some, Status, [], ap, file_of, most_state, read_state, refl, run_files}
use Rattle.nds_top.proofs.Words.{same_Some, sha256, state_file, subst, sym, ℕ, ◌∙◌, ◌≡◌, ◌≢◌}
use Rattle.nds_top.proofs.Outcomes.{IsOne, ReadLaws, RunComes, cart_one, keys_one, loaded_comes, not_both, read_fine, refusal, refused, run_comes_one, run_refused, same_file}

-- What comes of the files of a run that goes on, by what they are.

-- no run from a machine at boot comes of them
abbrev pub NeverCame : MachineState → Status → List ℕ → Type 0
NeverCame boot s bytes = ⊥

pub data ResumeComes (files : List Named) (state cart : List ℕ) (keys : Option (List ℕ)) (ticks : ℕ) (Came : ConsoleState → Status → List ℕ → Type 0) (s : Status) (bytes : List ℕ) : Type 0 where
  resumed : (start : ConsoleState) → IsState (Some files) state cart keys ticks start → Came start s bytes → ResumeComes files state cart keys ticks Came s bytes
  bad_state : (offset : ℕ) → IsBadState (Some files) state cart keys ticks offset → s ≡ BadState offset → bytes ≡ [] → ResumeComes files state cart keys ticks Came s bytes
  no_state : refusal most_state (file_of files state) ≡ Some s → bytes ≡ [] → ResumeComes files state cart keys ticks Came s bytes
  no_run : (saved : List ℕ) → IsFileRead (Some files) state most_state saved → RunComes files cart keys NeverCame s bytes → ResumeComes files state cart keys ticks Came s bytes

pub resume_refused : (files : List Named) (rose : Type 0) (state cart : List ℕ) (keys : Option (List ℕ)) (ticks : ℕ) (Came : ConsoleState → Status → List ℕ → Type 0) (s : Status) (named : List ℕ)
    → (rose → ⊥) → s ≢ NoMemory → RefusesFiles (Some files) rose state cart keys s named → ResumeComes files state cart keys ticks Came s []
resume_refused files rose state cart keys ticks Came s named none_rose ne (state_file h is) = no_state (refused files rose none_rose state most_state s ne h) refl
resume_refused files rose state cart keys ticks Came s named none_rose ne (run_files saved read h) = no_run saved read (run_refused files rose cart keys NeverCame s named none_rose ne h)

-- what is read
abbrev is_read : Result ConsoleState ℕ → Type 0
is_read (Ok k) = Unit {0}
is_read (Err place) = ⊥

abbrev read_or : ConsoleState → Result ConsoleState ℕ → ConsoleState
read_or d (Ok k) = k
read_or d (Err place) = d

abbrev place_or : ℕ → Result ConsoleState ℕ → ℕ
place_or d (Ok k) = d
place_or d (Err place) = place

module _ (laws : ReadLaws) (files : List Named) (state cart : List ℕ) (keys : Option (List ℕ)) (ticks : ℕ) where
  abbrev Reads : Result ConsoleState ℕ → Type 0
  Reads r = (bytes : List ℕ) × (file : List ℕ) × (lines : List KeyLine) × IsFileRead (Some files) state most_state bytes × IsCart (Some files) cart file × AreKeys (Some files) keys lines
      × (read_state (sha256 file) ticks file lines bytes ≡ r)

  -- is one
  reads_one : (a b : Result ConsoleState ℕ) → Reads a → Reads b → a ≡ b
  reads_one a b x y =
      let bytes = same_file files state most_state x.0 y.0 x.3 y.3 in
      let file = cart_one laws files cart x.1 y.1 x.4 y.4 in
      let lines = keys_one laws files keys x.2 y.2 x.5 y.5 in
      sym x.6
      ∙ ap (λ (z : List ℕ). read_state (sha256 x.1) ticks x.1 x.2 z) bytes
      ∙ ap (λ (z : List ℕ). read_state (sha256 z) ticks z x.2 y.0) file
      ∙ ap (λ (z : List KeyLine). read_state (sha256 y.1) ticks y.1 z y.0) lines
      ∙ y.6

  state_one : (a b : ConsoleState) → IsState (Some files) state cart keys ticks a → IsState (Some files) state cart keys ticks b → a ≡ b
  state_one a b x y = ap (λ (r : Result ConsoleState ℕ). read_or a r) (reads_one (Ok a) (Ok b) x y)

  not_bad : (k : ConsoleState) (offset : ℕ) → IsState (Some files) state cart keys ticks k → IsBadState (Some files) state cart keys ticks offset → ⊥
  not_bad k offset x y = subst is_read (reads_one (Ok k) (Err offset) x y) tt

  bad_one : (a b : ℕ) → IsBadState (Some files) state cart keys ticks a → IsBadState (Some files) state cart keys ticks b → a ≡ b
  bad_one a b x y = ap (λ (r : Result ConsoleState ℕ). place_or a r) (reads_one (Err a) (Err b) x y)

  module _ (Came : ConsoleState → Status → List ℕ → Type 0) where
    -- where the saved console is accepted, what comes is what comes of going on from it
    pub state_comes : (s : Status) (bytes : List ℕ) (start : ConsoleState) → IsState (Some files) state cart keys ticks start → ResumeComes files state cart keys ticks Came s bytes → Came start s bytes
    state_comes s bytes start is (resumed start₂ is₂ came) = subst (λ (k : ConsoleState). Came k s bytes) (state_one start₂ start is₂ is) came
    state_comes s bytes start is (bad_state offset bad same none) = absurd (not_bad start offset is bad)
    state_comes s bytes start is (no_state h none) = absurd (not_both (refusal most_state (file_of files state)) s (read_fine files state most_state is.0 is.3) h)
    state_comes s bytes start is (no_run saved read h) = absurd (loaded_comes laws files cart keys NeverCame s bytes is.1 is.2 is.4 is.5 h)

    -- and where it isn't, this is the status
    bad_comes : (s : Status) (bytes : List ℕ) (offset : ℕ) → IsBadState (Some files) state cart keys ticks offset → ResumeComes files state cart keys ticks Came s bytes
        → (s ≡ BadState offset) × (bytes ≡ [])
    bad_comes s bytes offset is (resumed start is₂ came) = absurd (not_bad start offset is₂ is)
    bad_comes s bytes offset is (bad_state offset₂ bad same none) = (same ∙ ap (λ (o : ℕ). (let st : Status = BadState o in st)) (bad_one offset₂ offset bad is), none)
    bad_comes s bytes offset is (no_state h none) = absurd (not_both (refusal most_state (file_of files state)) s (read_fine files state most_state is.0 is.3) h)
    bad_comes s bytes offset is (no_run saved read h) = absurd (loaded_comes laws files cart keys NeverCame s bytes is.1 is.2 is.4 is.5 h)

    both_same : (s t : Status) (xs ys : List ℕ) (offset : ℕ) → (s ≡ BadState offset) × (xs ≡ []) → (t ≡ BadState offset) × (ys ≡ []) → (s ≡ t) × (xs ≡ ys)
    both_same s t xs ys offset a b = (a.0 ∙ sym b.0, a.1 ∙ sym b.1)

    never_one : IsOne (RunComes files cart keys NeverCame)
    never_one = run_comes_one laws files cart keys NeverCame (λ boot s t xs ys a b. absurd a)

    pub resume_comes_one : ((start : ConsoleState) → IsOne (Came start)) → IsOne (ResumeComes files state cart keys ticks Came)
    resume_comes_one one s t xs ys (resumed start is came) second = one start s t xs ys came (state_comes t ys start is second)
    resume_comes_one one s t xs ys (bad_state offset is same none) second = both_same s t xs ys offset (same, none) (bad_comes t ys offset is second)
    resume_comes_one one s t xs ys (no_state h none) (resumed start is came) = absurd (not_both (refusal most_state (file_of files state)) s (read_fine files state most_state is.0 is.3) h)
    resume_comes_one one s t xs ys (no_state h none) (bad_state offset is same none₂) = absurd (not_both (refusal most_state (file_of files state)) s (read_fine files state most_state is.0 is.3) h)
    resume_comes_one one s t xs ys (no_state h none) (no_state h₂ none₂) = (same_Some s t (sym h ∙ h₂), none ∙ sym none₂)
    resume_comes_one one s t xs ys (no_state h none) (no_run saved read run) = absurd (not_both (refusal most_state (file_of files state)) s (read_fine files state most_state saved read) h)
    resume_comes_one one s t xs ys (no_run saved read run) (resumed start is came) = absurd (loaded_comes laws files cart keys NeverCame s xs is.1 is.2 is.4 is.5 run)
    resume_comes_one one s t xs ys (no_run saved read run) (bad_state offset is same none) = absurd (loaded_comes laws files cart keys NeverCame s xs is.1 is.2 is.4 is.5 run)
    resume_comes_one one s t xs ys (no_run saved read run) (no_state h none) = absurd (not_both (refusal most_state (file_of files state)) t (read_fine files state most_state saved read) h)
    resume_comes_one one s t xs ys (no_run saved read run) (no_run saved₂ read₂ run₂) = never_one s t xs ys run run₂
