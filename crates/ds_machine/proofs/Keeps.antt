use Rattle.ds_machine.proofs.Words.{Access, Arch, Bool, Fetch, Instr, List, Meaning, MemoryMachine, None, Option, Outcome, Performed, Read}
use Rattle.ds_machine.proofs.Words.{RegisterState, Setting, SideOf, Some, Stop, Width, Write, [], carried_out, concluded, condition_of, data_accesses}
use Rattle.ds_machine.proofs.Words.{either_by, enters, executed_word, false, fetched, holds, if◌then◌else◌, interrupt_meaning, meaning, perform}
use Rattle.ds_machine.proofs.Words.{refused_or, side_taken, skipped, stop_of, taken, true, undefined_meaning, ℕ, ◌∷◌, ◌≡◌}
use Rattle.arm_core.specs.Steps as steps

-- What each access of a memory machine makes of its state, a step over it makes of it.

-- accesses that are allowed one after another from a state lead on by the relation R, each to a state from which the rest is allowed
pub record FollowsEach {S : Type 0} (m : MemoryMachine S) (All : S → List Access → Type 0) (R : S → S → Type 0) : Type 0 where
  pub stays : (s : S) → All s [] → R s s
  pub joins : (s t u : S) → R s t → R t u → R s u
  pub fetches : (s : S) (at : ℕ) (width : Width) (rest : List Access) → All s (Fetch at width ∷ rest) → R s (m.fetch_next s at width) × All (m.fetch_next s at width) rest
  pub reads : (s : S) (at : ℕ) (width : Width) (rest : List Access) → All s (Read at width ∷ rest) → R s (m.read_next s at width) × All (m.read_next s at width) rest
  pub writes : (s : S) (at : ℕ) (width : Width) (value : ℕ) (rest : List Access) → All s (Write at width value ∷ rest) → R s (m.write_next s at width value) × All (m.write_next s at width value) rest

module _ {S : Type 0} (m : MemoryMachine S) (All : S → List Access → Type 0) (R : S → S → Type 0) (f : FollowsEach m All R) where
  refused_follows : (stop : Option Stop) (left start : S) (rest : Performed S) → R start left → R start rest.state → R start (refused_or stop left rest).state
  refused_follows None left start rest h k = k
  refused_follows (Some stop) left start rest h k = h

  performed_follows : (s : S) (accesses : List Access) → All s accesses → R s (perform m s accesses).state
  performed_follows s [] i = f.stays s i
  performed_follows s (Fetch at width ∷ rest) i =
      let next = m.fetch_next s at width in
      let one = f.fetches s at width rest i in
      f.joins s next (perform m next rest).state one.0 (performed_follows next rest one.1)
  performed_follows s (Read at width ∷ rest) i =
      let next = m.read_next s at width in
      let one = f.reads s at width rest i in
      f.joins s next (perform m next rest).state one.0 (performed_follows next rest one.1)
  performed_follows s (Write at width value ∷ rest) i =
      let next = m.write_next s at width value in
      let one = f.writes s at width value rest i in
      refused_follows (m.refusal s at width value) next s (perform m next rest) one.0 (f.joins s next (perform m next rest).state one.0 (performed_follows next rest one.1))

  concluded_follows : (arch : Arch) (old : RegisterState) (s : S) (meant : Meaning) (done : Performed S) (stop : Option Stop) → R s done.state → R s (concluded arch old meant done stop).state
  concluded_follows arch old s meant done None h = h
  concluded_follows arch old s meant done (Some stop) h = h

  carried_follows : (arch : Arch) (old : RegisterState) (s : S) (meant : Meaning) → All s meant.accesses → R s (carried_out m arch old s meant).state
  carried_follows arch old s meant i =
      let done = perform m s meant.accesses in
      concluded_follows arch old s meant done done.stop (performed_follows s meant.accesses i)

  unless_follows : (setting : Setting) (old : RegisterState) (s : S) (instr : Instr) (stop : Option Stop) → All s [] → All s (meaning setting.arch setting.base old instr).accesses
      → R s (steps.executed_unless m setting old s instr stop).state
  unless_follows setting old s instr None none i = carried_follows setting.arch old s (meaning setting.arch setting.base old instr) i
  unless_follows setting old s instr (Some stop) none i = f.stays s none

  skipped_follows : (setting : Setting) (old : RegisterState) (s : S) (b : Bool) → All s []
      → R s (carried_out m setting.arch old s (if b then undefined_meaning setting.base old else skipped old)).state
  skipped_follows setting old s true none = carried_follows setting.arch old s (undefined_meaning setting.base old) none
  skipped_follows setting old s false none = carried_follows setting.arch old s (skipped old) none

  -- what a word or half comes to, by the accesses of data that it makes
  pub word_leads : (setting : Setting) (old : RegisterState) (s : S) (number : ℕ) (instr : Option Instr) → All s [] → All s (data_accesses setting.arch setting.base old instr)
      → R s (executed_word m setting old s number instr).state
  word_leads setting old s number None none i = skipped_follows setting old s (holds (condition_of number) old.cpsr) none
  word_leads setting old s number (Some instr) none i = unless_follows setting old s instr (stop_of setting old instr) none i

  pub taken_leads : (side : SideOf S) (line : Bool) (old : RegisterState) (s : S) → All s []
      → (enters line old ≡ false → (let fetch = fetched m side.step.arch old s in R s (side.step.executed old s fetch.number fetch.instr).state)) → R s (side_taken m side line old s).state
  unfolding taken
  taken_leads side line old s none executes =
      either_by (λ (o : Outcome S). R s o.state) (enters line old) _ _ (λ e. carried_follows side.step.arch old s (interrupt_meaning (side.step.base s) old) none) executes

-- in the states I each access leads on by the relation R, and to such a state
pub record Follows {S : Type 0} (m : MemoryMachine S) (I : S → Type 0) (R : S → S → Type 0) : Type 0 where
  pub stays : (s : S) → I s → R s s
  pub joins : (s t u : S) → R s t → R t u → R s u
  pub ends : (s t : S) → R s t → I t
  pub fetches : (s : S) (at : ℕ) (width : Width) → I s → R s (m.fetch_next s at width)
  pub reads : (s : S) (at : ℕ) (width : Width) → I s → R s (m.read_next s at width)
  pub writes : (s : S) (at : ℕ) (width : Width) (value : ℕ) → I s → R s (m.write_next s at width value)

module _ {S : Type 0} (m : MemoryMachine S) (I : S → Type 0) (R : S → S → Type 0) (f : Follows m I R) where
  abbrev Any : S → List Access → Type 0
  Any s accesses = I s

  each : FollowsEach m Any R
  each = record {
    stays = f.stays;
    joins = f.joins;
    fetches = λ s at width rest i. (let one = f.fetches s at width i in (one, f.ends s (m.fetch_next s at width) one));
    reads = λ s at width rest i. (let one = f.reads s at width i in (one, f.ends s (m.read_next s at width) one));
    writes = λ s at width value rest i. (let one = f.writes s at width value i in (one, f.ends s (m.write_next s at width value) one));
  }

  pub word_follows : (setting : Setting) (old : RegisterState) (s : S) (number : ℕ) (instr : Option Instr) → I s → R s (executed_word m setting old s number instr).state
  word_follows setting old s number instr i = word_leads m Any R each setting old s number instr i i

  pub taken_follows : (side : SideOf S) → ((old : RegisterState) (s : S) (number : ℕ) (instr : Option Instr) → I s → R s (side.step.executed old s number instr).state)
      → (line : Bool) (old : RegisterState) (s : S) → I s → R s (side_taken m side line old s).state
  taken_follows side executes line old s i = taken_leads m Any R each side line old s i (λ e. (let fetch = fetched m side.step.arch old s in executes old s fetch.number fetch.instr i))
