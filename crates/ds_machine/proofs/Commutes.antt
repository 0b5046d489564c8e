use Rattle.ds_machine.proofs.Words.{Access, Arch, Bool, Fetch, FetchOutcome, Half, Instr, List, Meaning, MemoryMachine, None, Option, Outcome}
use Rattle.ds_machine.proofs.Words.{Performed, Read, RegisterState, Setting, SideOf, Some, Stop, Width, Word, Write, [], ap, carried_out, concluded}
use Rattle.ds_machine.proofs.Words.{condition_of, data_accesses, data_waits, decoded_arm, decoded_thumb, enters, executed_word, false, fetched}
use Rattle.ds_machine.proofs.Words.{fetched_half, fetched_word, holds, if◌then◌else◌, interrupt_meaning, is_thumb, meaning, next_fetch, perform, refl}
use Rattle.ds_machine.proofs.Words.{refused_or, side_taken, side_waits, skipped, stop_of, taken, true, undefined_meaning, unless_refused, waits_of}
use Rattle.ds_machine.proofs.Words.{waits_of_step, with_value, ℕ, ◌%◌, ◌+◌, ◌/◌, ◌^◌, ◌∙◌, ◌∷◌, ◌≡◌}
use Rattle.arm_core.specs.Steps as steps

-- A change of what a processor reaches that none of its accesses tells or undoes, none of its steps does.

-- Of accesses that are allowed one after another from a state what is read, fetched and refused is the same in the changed state, and each leaves there what it leaves of the state,
-- changed; and the rest is allowed from what it leaves
pub record Commutes {S : Type 0} (m : MemoryMachine S) (All : S → List Access → Type 0) (f : S → S) : Type 0 where
  pub fetched : (s : S) (at : ℕ) (width : Width) (rest : List Access) → All s (Fetch at width ∷ rest) → m.fetch_value (f s) at width ≡ m.fetch_value s at width
  pub read : (s : S) (at : ℕ) (width : Width) (rest : List Access) → All s (Read at width ∷ rest) → m.read_value (f s) at width ≡ m.read_value s at width
  pub refuses : (s : S) (at : ℕ) (width : Width) (value : ℕ) (rest : List Access) → All s (Write at width value ∷ rest) → m.refusal (f s) at width value ≡ m.refusal s at width value
  pub fetches : (s : S) (at : ℕ) (width : Width) (rest : List Access) → All s (Fetch at width ∷ rest) → m.fetch_next (f s) at width ≡ f (m.fetch_next s at width)
  pub reads : (s : S) (at : ℕ) (width : Width) (rest : List Access) → All s (Read at width ∷ rest) → m.read_next (f s) at width ≡ f (m.read_next s at width)
  pub writes : (s : S) (at : ℕ) (width : Width) (value : ℕ) (rest : List Access) → All s (Write at width value ∷ rest) → m.write_next (f s) at width value ≡ f (m.write_next s at width value)
  pub fetch_stays : (s : S) (at : ℕ) (width : Width) (rest : List Access) → All s (Fetch at width ∷ rest) → All (m.fetch_next s at width) rest
  pub read_stays : (s : S) (at : ℕ) (width : Width) (rest : List Access) → All s (Read at width ∷ rest) → All (m.read_next s at width) rest
  pub write_stays : (s : S) (at : ℕ) (width : Width) (value : ℕ) (rest : List Access) → All s (Write at width value ∷ rest) → All (m.write_next s at width value) rest

-- accesses, and a step, with a changed state
abbrev pub performed_so : {S : Type 0} → (S → S) → Performed S → Performed S
performed_so f p = record p { state = f p.state }

abbrev pub outcome_so : {S : Type 0} → (S → S) → Outcome S → Outcome S
outcome_so f o = record o { state = f o.state }

refused_so : {S : Type 0} (f : S → S) (stop : Option Stop) (left : S) (rest : Performed S)
    → refused_or stop (f left) (performed_so f rest) ≡ performed_so f (refused_or stop left rest)
refused_so f None left rest = refl
refused_so f (Some stop) left rest = refl

concluded_so : {S : Type 0} (f : S → S) (arch : Arch) (old : RegisterState) (meant : Meaning) (done : Performed S) (stop : Option Stop)
    → concluded arch old meant (performed_so f done) stop ≡ outcome_so f (concluded arch old meant done stop)
concluded_so f arch old meant done None = refl
concluded_so f arch old meant done (Some stop) = refl

-- what was fetched is the same
record SameWord {S : Type 0} (a b : FetchOutcome S) : Type 0 where
  number : a.number ≡ b.number
  instr : a.instr ≡ b.instr

module _ {S : Type 0} (m : MemoryMachine S) (All : S → List Access → Type 0) (f : S → S) (c : Commutes m All f) where
  performed_commutes : (s : S) (accesses : List Access) → All s accesses → perform m (f s) accesses ≡ performed_so f (perform m s accesses)
  performed_commutes s [] i = refl
  performed_commutes s (Fetch at width ∷ rest) i =
      let value = m.fetch_value s at width in
      ap (λ (v : ℕ). with_value v (perform m (m.fetch_next (f s) at width) rest)) (c.fetched s at width rest i)
      ∙ ap (λ (x : S). with_value value (perform m x rest)) (c.fetches s at width rest i)
      ∙ ap (with_value value) (performed_commutes (m.fetch_next s at width) rest (c.fetch_stays s at width rest i))
  performed_commutes s (Read at width ∷ rest) i =
      let value = m.read_value s at width in
      ap (λ (v : ℕ). with_value v (perform m (m.read_next (f s) at width) rest)) (c.read s at width rest i)
      ∙ ap (λ (x : S). with_value value (perform m x rest)) (c.reads s at width rest i)
      ∙ ap (with_value value) (performed_commutes (m.read_next s at width) rest (c.read_stays s at width rest i))
  performed_commutes s (Write at width value ∷ rest) i =
      let next = m.write_next s at width value in
      let stop = m.refusal s at width value in
      ap (λ (x : Option Stop). refused_or x (m.write_next (f s) at width value) (perform m (m.write_next (f s) at width value) rest)) (c.refuses s at width value rest i)
      ∙ ap (λ (x : S). refused_or stop x (perform m x rest)) (c.writes s at width value rest i)
      ∙ ap (refused_or stop (f next)) (performed_commutes next rest (c.write_stays s at width value rest i))
      ∙ refused_so f stop next (perform m next rest)

  carried_commutes : (arch : Arch) (old : RegisterState) (s : S) (meant : Meaning) → All s meant.accesses
      → carried_out m arch old (f s) meant ≡ outcome_so f (carried_out m arch old s meant)
  carried_commutes arch old s meant i =
      let done = perform m s meant.accesses in
      ap (λ (p : Performed S). concluded arch old meant p p.stop) (performed_commutes s meant.accesses i) ∙ concluded_so f arch old meant done done.stop

  unless_commutes : (setting : Setting) (old : RegisterState) (s : S) (instr : Instr) (stop : Option Stop) → All s (meaning setting.arch setting.base old instr).accesses
      → steps.executed_unless m setting old (f s) instr stop ≡ outcome_so f (steps.executed_unless m setting old s instr stop)
  unless_commutes setting old s instr None i = carried_commutes setting.arch old s (meaning setting.arch setting.base old instr) i
  unless_commutes setting old s instr (Some stop) i = refl

  skipped_commutes : (setting : Setting) (old : RegisterState) (s : S) (b : Bool) → All s []
      → (let meant : Meaning = if b then undefined_meaning setting.base old else skipped old in carried_out m setting.arch old (f s) meant ≡ outcome_so f (carried_out m setting.arch old s meant))
  skipped_commutes setting old s true none = carried_commutes setting.arch old s (undefined_meaning setting.base old) none
  skipped_commutes setting old s false none = carried_commutes setting.arch old s (skipped old) none

  -- what a word or half comes to, by the accesses of data that it makes
  pub word_commutes : (setting : Setting) (old : RegisterState) (s : S) (number : ℕ) (instr : Option Instr) → All s [] → All s (data_accesses setting.arch setting.base old instr)
      → executed_word m setting old (f s) number instr ≡ outcome_so f (executed_word m setting old s number instr)
  word_commutes setting old s number None none i = skipped_commutes setting old s (holds (condition_of number) old.cpsr) none
  word_commutes setting old s number (Some instr) none i = unless_commutes setting old s instr (stop_of setting old instr) i

  fetched_commutes : (arch : Arch) (old : RegisterState) (s : S) → ((width : Width) → All s (Fetch old.pc width ∷ [])) → SameWord (fetched m arch old (f s)) (fetched m arch old s)
  fetched_commutes arch old s i = by_state (is_thumb old) where
    by_state : (thumb : Bool) → SameWord (if thumb then fetched_half m arch old (f s) else fetched_word m arch old (f s))
        (if thumb then fetched_half m arch old s else fetched_word m arch old s)
    by_state true = record { number = refl; instr = ap (λ (half : ℕ). decoded_thumb arch (half % 2 ^ 16)) (c.fetched s old.pc Half [] (i Half)) }
    by_state false = record {
      number = ap (λ (word : ℕ). word / 2 ^ 28) (c.fetched s old.pc Word [] (i Word));
      instr = ap (decoded_arm arch) (c.fetched s old.pc Word [] (i Word));
    }

  -- so its waits are, where each access waits as long in the changed state
  module _ (wait : S → Access → ℕ) (same : (s : S) (access : Access) (rest : List Access) → All s (access ∷ rest) → wait (f s) access ≡ wait s access) where
    waits_commute : (s : S) (accesses : List Access) → All s accesses → waits_of m wait (f s) accesses ≡ waits_of m wait s accesses
    waits_commute s [] i = refl
    waits_commute s (Fetch at width ∷ rest) i =
        let first = wait s (Fetch at width) in
        ap (λ (n : ℕ). n + waits_of m wait (m.fetch_next (f s) at width) rest) (same s (Fetch at width) rest i)
        ∙ ap (λ (x : S). first + waits_of m wait x rest) (c.fetches s at width rest i)
        ∙ ap (λ (n : ℕ). first + n) (waits_commute (m.fetch_next s at width) rest (c.fetch_stays s at width rest i))
    waits_commute s (Read at width ∷ rest) i =
        let first = wait s (Read at width) in
        ap (λ (n : ℕ). n + waits_of m wait (m.read_next (f s) at width) rest) (same s (Read at width) rest i)
        ∙ ap (λ (x : S). first + waits_of m wait x rest) (c.reads s at width rest i)
        ∙ ap (λ (n : ℕ). first + n) (waits_commute (m.read_next s at width) rest (c.read_stays s at width rest i))
    waits_commute s (Write at width value ∷ rest) i =
        let first = wait s (Write at width value) in
        let next = m.write_next s at width value in
        let stop = m.refusal s at width value in
        ap (λ (n : ℕ). n + unless_refused (m.refusal (f s) at width value) (waits_of m wait (m.write_next (f s) at width value) rest)) (same s (Write at width value) rest i)
        ∙ ap (λ (x : Option Stop). first + unless_refused x (waits_of m wait (m.write_next (f s) at width value) rest)) (c.refuses s at width value rest i)
        ∙ ap (λ (x : S). first + unless_refused stop (waits_of m wait x rest)) (c.writes s at width value rest i)
        ∙ ap (λ (n : ℕ). first + unless_refused stop n) (waits_commute next rest (c.write_stays s at width value rest i))

  pub step_waits_commute : (side : SideOf S) (line : Bool) (old : RegisterState) (s : S)
      → ((s : S) (access : Access) (rest : List Access) → All s (access ∷ rest) → side.step.wait (f s) access ≡ side.step.wait s access)
      → ((width : Width) → All s (Fetch old.pc width ∷ [])) → side.step.base (f s) ≡ side.step.base s
      → (enters line old ≡ false → All s (data_accesses side.step.arch (side.step.base s) old (fetched m side.step.arch old s).instr))
      → side_waits m side line old (f s) ≡ side_waits m side line old s
  unfolding waits_of_step
  step_waits_commute side line old s same fetch base apart = by_entry (enters line old) refl where
    by_entry : (b : Bool) → enters line old ≡ b → (if b then 0 else side.step.wait (f s) (next_fetch old) + data_waits m side.step old (f s))
        ≡ (if b then 0 else side.step.wait s (next_fetch old) + data_waits m side.step old s)
    by_entry true e = refl
    by_entry false e =
        let first = side.step.wait s (next_fetch old) in
        let instr = (fetched m side.step.arch old s).instr in
        ap (λ (n : ℕ). n + data_waits m side.step old (f s)) (same s (next_fetch old) [] (fetch (if is_thumb old then Half else Word)))
        ∙ ap (λ (b : ℕ). first + waits_of m side.step.wait (f s) (data_accesses side.step.arch b old (fetched m side.step.arch old (f s)).instr)) base
        ∙ ap (λ (i : Option Instr). first + waits_of m side.step.wait (f s) (data_accesses side.step.arch (side.step.base s) old i)) (fetched_commutes side.step.arch old s fetch).instr
        ∙ ap (λ (n : ℕ). first + n) (waits_commute side.step.wait same s (data_accesses side.step.arch (side.step.base s) old instr) (apart e))

  pub taken_commutes : (side : SideOf S) (line : Bool) (old : RegisterState) (s : S) → All s [] → ((width : Width) → All s (Fetch old.pc width ∷ [])) → side.step.base (f s) ≡ side.step.base s
      → (enters line old ≡ false → (let fetch = fetched m side.step.arch old s in side.step.executed old (f s) fetch.number fetch.instr ≡ outcome_so f (side.step.executed old s fetch.number fetch.instr)))
      → side_taken m side line old (f s) ≡ outcome_so f (side_taken m side line old s)
  unfolding taken
  taken_commutes side line old s none fetch base executes = by_entry (enters line old) refl where
    by_entry : (b : Bool) → enters line old ≡ b → (if b then carried_out m side.step.arch old (f s) (interrupt_meaning (side.step.base (f s)) old)
        else let fetch = fetched m side.step.arch old (f s) in side.step.executed old (f s) fetch.number fetch.instr)
        ≡ outcome_so f (if b then carried_out m side.step.arch old s (interrupt_meaning (side.step.base s) old)
        else let fetch = fetched m side.step.arch old s in side.step.executed old s fetch.number fetch.instr)
    by_entry true e =
        ap (λ (base : ℕ). carried_out m side.step.arch old (f s) (interrupt_meaning base old)) base
        ∙ carried_commutes side.step.arch old s (interrupt_meaning (side.step.base s) old) none
    by_entry false e =
        let same = fetched_commutes side.step.arch old s fetch in
        ap (λ (number : ℕ). side.step.executed old (f s) number (fetched m side.step.arch old (f s)).instr) same.number
        ∙ ap (side.step.executed old (f s) (fetched m side.step.arch old s).number) same.instr
        ∙ executes e
