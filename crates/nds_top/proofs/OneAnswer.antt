use Rattle.nds_top.proofs.Words.{AreKeys, At, Call, CanBeDone, ComesTo, CommandGives, ConsoleState, DemoGives, Ending, Gives, GivesBy, HadNoFault}
use Rattle.nds_top.proofs.Words.{IsBadState, IsCart, IsFileRead, IsFirstBad, IsListing, IsSomeAnd, IsState, Keep, List, MachineState, Named, None}
use Rattle.nds_top.proofs.Words.{Option, Proc, RanFrom, Refuses, RefusesCart, RefusesFiles, RefusesRun, ResumeGives, Runs, SavedBy, Seated, Shown}
use Rattle.nds_top.proofs.Words.{Some, Status, Stopped, TracedBy, TurnsToEnd, Written, WroteAfter, [], ap, arith, command, demo_booted, demo_of}
use Rattle.nds_top.proofs.Words.{file_of, inl, inr, latest_of, length, machine_booted, most_bytes, most_text, nothing, output_of, peeked, reference}
use Rattle.nds_top.proofs.Words.{refl, same_Some, saved_after, status_number, subst, switched_on, sym, take, ℕ, ◌<◌, ◌∙◌, ◌≡◌, ◌≢◌, ◌≤◌, ◌⊎◌}
use Rattle.nds_words.specs.Words.{Asked, AskRun, AskSave, AskResume, Asks, AskList, AskAsm, AskTrace, AskPeek, AskDemo, WordsAskForOne}
use Rattle.std.specs.List.{concat}
use Rattle.ds_base.specs.declared.left_out.LeftOut.{LeftOut}
use Rattle.ds_runs.specs.Laws.{RunsAreOne}
use Rattle.asm_text.specs.declared.sets.Set.{Set}
use Rattle.run_ahead.specs.ToEndLaws.{TurnsAreOne}
use Rattle.nds_answers.specs.declared.statuses.Status.TheVariants as statuses
use Rattle.nds_top.specs.ListingAnswers.{AsmGives, ListGives, listing_of}
use Rattle.nds_plays.specs.Watches.{IsCutTrace, IsWholeTrace, LinesAreOne, run_lines, trace_of}
use Rattle.nds_top.proofs.ResumeOutcomes.{ResumeComes, bad_state, resume_comes_one, resume_refused, resumed, state_comes}
use Rattle.nds_top.proofs.Outcomes.{IsOne, ReadLaws, RunComes, loaded, cart_fine, cart_refusal, cart_refused, loaded_comes, memory_or_not, not_both, read_fine, refusal, refused, run_comes_one, run_refused, same_file}

-- What is asked for comes to one status and one list of bytes, by the files alone.

-- the laws that this rests on
pub record TopLaws : Type 0 where
  pub words : WordsAskForOne
  pub reads : ReadLaws
  pub runs : RunsAreOne reference
  pub turns : TurnsAreOne
  pub lines : LinesAreOne

-- ---- what a run from a machine at boot comes to, by command

-- the status of how a run ends
abbrev pub status_at : Ending MachineState LeftOut → Status
status_at (At s) = statuses.Done
status_at (Stopped left) = statuses.LeftOut left

-- its records, where it goes on from a console
pub record ResumeWrites (keep : Keep) (ticks : ℕ) (start : ConsoleState) (s : Status) (bytes : List ℕ) : Type 0 where
  pub end : Ending MachineState LeftOut
  pub last : ConsoleState
  pub outs : List Shown
  pub turns : TurnsToEnd ticks start end last
  pub ran : Runs reference ticks end start.machine outs
  pub status : s ≡ status_at end
  pub is : bytes ≡ output_of ticks last.turns keep (latest_of start.machine) end outs

-- the lines of its steps
abbrev pub TraceEnds : ℕ → ℕ → Ending MachineState LeftOut → Status → Type 0
TraceEnds count lines end statuses.Done = IsWholeTrace count lines end
TraceEnds count lines end (statuses.LeftOut left) = IsCutTrace left count lines end
TraceEnds count lines end other = ⊥

pub record TraceWrites (proc : Proc) (count ticks : ℕ) (boot : MachineState) (s : Status) (bytes : List ℕ) : Type 0 where
  pub end : Ending MachineState LeftOut
  pub outs : List Shown
  pub ran : Runs reference ticks end boot outs
  pub ends : TraceEnds count (length (run_lines proc ran)) end s
  pub is : bytes ≡ trace_of proc count ran

-- bytes after it
abbrev pub AfterWrites : (ConsoleState → List Shown → List ℕ) → ℕ → MachineState → Status → List ℕ → Type 0
AfterWrites tell ticks boot statuses.Done bytes = (k : ConsoleState) × (outs : List Shown) × Runs reference ticks (At k.machine) boot outs × TurnsToEnd ticks (switched_on boot) (At k.machine) k
    × (bytes ≡ tell k outs)
AfterWrites tell ticks boot (statuses.LeftOut left) bytes = (outs : List Shown) × Runs reference ticks (Stopped left) boot outs × (bytes ≡ [])
AfterWrites tell ticks boot other bytes = ⊥

-- an end is no stop
at_or_stopped : (s : MachineState) (left : LeftOut) → (let end : Ending MachineState LeftOut = At s in end) ≡ Stopped left → ⊥
at_or_stopped s left e = (let n = ap (λ (x : Ending MachineState LeftOut). status_number (status_at x)) e in omega (arith, n))

same_left : (a b : LeftOut) → (let end : Ending MachineState LeftOut = Stopped a in end) ≡ Stopped b → (let s : Status = statuses.LeftOut a in s) ≡ statuses.LeftOut b
same_left a b e = ap status_at e

module _ (laws : TopLaws) where
  pub resume_one : (keep : Keep) (ticks : ℕ) (start : ConsoleState) → IsOne (ResumeWrites keep ticks start)
  resume_one keep ticks start s t xs ys a b =
      let e = laws.turns ticks start a.last b.last a.end b.end a.turns b.turns in
      let r = laws.runs ticks start.machine a.end b.end a.outs b.outs a.ran b.ran in (
        a.status ∙ ap status_at e.0 ∙ sym b.status,
        a.is ∙ ap (λ (k : ConsoleState). output_of ticks k.turns keep (latest_of start.machine) a.end a.outs) e.1
            ∙ ap (λ (x : Ending MachineState LeftOut). output_of ticks b.last.turns keep (latest_of start.machine) x a.outs) e.0
            ∙ ap (λ (o : List Shown). output_of ticks b.last.turns keep (latest_of start.machine) b.end o) r.1 ∙ sym b.is,
      )

  trace_status : (count n : ℕ) (end : Ending MachineState LeftOut) (s t : Status) → TraceEnds count n end s → TraceEnds count n end t → s ≡ t
  trace_status count n end statuses.Done statuses.Done a b = refl
  trace_status count n end statuses.Done (statuses.LeftOut left) a b = absurd (elim a [
    | inl le ↦ (let lt = b.1 in omega (arith, le, lt))
    | inr at ↦ at_or_stopped at.0 left (sym at.1 ∙ b.0)
  ])
  trace_status count n end (statuses.LeftOut left) statuses.Done a b = absurd (elim b [
    | inl le ↦ (let lt = a.1 in omega (arith, le, lt))
    | inr at ↦ at_or_stopped at.0 left (sym at.1 ∙ a.0)
  ])
  trace_status count n end (statuses.LeftOut left) (statuses.LeftOut stop) a b = same_left left stop (sym a.0 ∙ b.0)
  trace_status count n end (statuses.LeftOut left) _ a b = absurd b
  trace_status count n end statuses.Done _ a b = absurd b
  trace_status count n end _ t a b = absurd a

  pub trace_one : (proc : Proc) (count ticks : ℕ) (boot : MachineState) → IsOne (TraceWrites proc count ticks boot)
  trace_one proc count ticks boot s t xs ys a b =
      let same = laws.lines proc ticks boot a.end b.end a.outs b.outs a.ran b.ran in
      let e = (laws.runs ticks boot a.end b.end a.outs b.outs a.ran b.ran).0 in
      let ends = subst (λ (n : ℕ). TraceEnds count n b.end s) (ap (λ (ls : List (List ℕ)). length ls) same) (subst (λ (x : Ending MachineState LeftOut). TraceEnds count (length (run_lines proc a.ran)) x s) e a.ends) in
      (trace_status count (length (run_lines proc b.ran)) b.end s t ends b.ends, a.is ∙ ap (λ (ls : List (List ℕ)). concat (take count ls)) same ∙ sym b.is)

  pub after_one : (tell : ConsoleState → List Shown → List ℕ) (ticks : ℕ) (boot : MachineState) → IsOne (AfterWrites tell ticks boot)
  after_one tell ticks boot statuses.Done statuses.Done xs ys a b =
      let k = (laws.turns ticks (switched_on boot) a.0 b.0 (At a.0.machine) (At b.0.machine) a.3 b.3).1 in
      let r = (laws.runs ticks boot (At a.0.machine) (At b.0.machine) a.1 b.1 a.2 b.2).1 in
      (refl, a.4 ∙ ap (λ (x : ConsoleState). tell x a.1) k ∙ ap (tell b.0) r ∙ sym b.4)
  after_one tell ticks boot statuses.Done (statuses.LeftOut left) xs ys a b =
      absurd (at_or_stopped a.0.machine left (laws.runs ticks boot (At a.0.machine) (Stopped left) a.1 b.0 a.2 b.1).0)
  after_one tell ticks boot (statuses.LeftOut left) statuses.Done xs ys a b =
      absurd (at_or_stopped b.0.machine left (laws.runs ticks boot (At b.0.machine) (Stopped left) b.1 a.0 b.2 a.1).0)
  after_one tell ticks boot (statuses.LeftOut left) (statuses.LeftOut stop) xs ys a b =
      (same_left left stop (laws.runs ticks boot (Stopped left) (Stopped stop) a.0 b.0 a.1 b.1).0, a.2 ∙ sym b.2)
  after_one tell ticks boot (statuses.LeftOut left) _ xs ys a b = absurd b
  after_one tell ticks boot statuses.Done _ xs ys a b = absurd b
  after_one tell ticks boot _ t xs ys a b = absurd a

-- ---- what comes of each command

-- of `list`: the cartridge's refusal, or its listing
abbrev pub ListComes : List Named → List ℕ → Proc → Set → Status → List ℕ → Type 0
ListComes files name proc set s bytes = ((cart_refusal (file_of files name) ≡ Some s) × (bytes ≡ []))
    ⊎ ((file : List ℕ) × IsCart (Some files) name file × (s ≡ statuses.Done) × (bytes ≡ listing_of file proc set))

-- of `asm`: the file's refusal, its first bad line, or its image
abbrev pub AsmComes : List Named → List ℕ → Status → List ℕ → Type 0
AsmComes files name s bytes = ((refusal most_text (file_of files name) ≡ Some s) × (bytes ≡ []))
    ⊎ (((text : List ℕ) × (line : ℕ) × IsFileRead (Some files) name most_text text × IsFirstBad text line × (s ≡ statuses.BadText line) × (bytes ≡ []))
    ⊎ ((text : List ℕ) × (image : List ℕ) × IsFileRead (Some files) name most_text text × IsListing text image × (s ≡ statuses.Done) × (bytes ≡ image)))

abbrev pub Comes : List Named → Asked → Status → List ℕ → Type 0
Comes files (AskRun cart keys ticks keep) s bytes = RunComes files cart keys (λ boot. ResumeWrites keep ticks (switched_on boot)) s bytes
Comes files (AskList name proc set) s bytes = ListComes files name proc set s bytes
Comes files (AskAsm name) s bytes = AsmComes files name s bytes
Comes files (AskTrace cart keys ticks proc count) s bytes = RunComes files cart keys (TraceWrites proc count ticks) s bytes
Comes files (AskPeek cart keys ticks memory place count) s bytes = RunComes files cart keys (AfterWrites (peeked memory place count) ticks) s bytes
Comes files (AskSave cart keys ticks) s bytes = RunComes files cart keys (AfterWrites saved_after ticks) s bytes
Comes files (AskResume state cart keys ticks keep) s bytes = ResumeComes files state cart keys ticks (ResumeWrites keep ticks) s bytes
Comes files (AskDemo number ticks) s bytes = AfterWrites (demo_of number ticks (demo_booted number)) ticks (demo_booted number) s bytes

module _ (laws : TopLaws) (files : List Named) where
  abbrev reads : ReadLaws
  reads = laws.reads

  list_one : (name : List ℕ) (proc : Proc) (set : Set) → IsOne (ListComes files name proc set)
  list_one name proc set s t xs ys (inl a) (inl b) = (same_Some s t (sym a.0 ∙ b.0), a.1 ∙ sym b.1)
  list_one name proc set s t xs ys (inl a) (inr b) = absurd (not_both (cart_refusal (file_of files name)) s (cart_fine files name b.0 b.1) a.0)
  list_one name proc set s t xs ys (inr a) (inl b) = absurd (not_both (cart_refusal (file_of files name)) t (cart_fine files name a.0 a.1) b.0)
  list_one name proc set s t xs ys (inr a) (inr b) =
      (a.2 ∙ sym b.2, a.3 ∙ ap (λ (x : List ℕ). listing_of x proc set) (same_file files name most_bytes a.0 b.0 a.1.whole b.1.whole) ∙ sym b.3)

  -- of a text that is read, the first bad line or the image
  abbrev TextComes : List ℕ → Status → List ℕ → Type 0
  TextComes text s bytes = ((line : ℕ) × IsFirstBad text line × (s ≡ statuses.BadText line) × (bytes ≡ []))
      ⊎ ((image : List ℕ) × IsListing text image × (s ≡ statuses.Done) × (bytes ≡ image))

  text_one : (text : List ℕ) (s t : Status) (xs ys : List ℕ) → TextComes text s xs → TextComes text t ys → (s ≡ t) × (xs ≡ ys)
  text_one text s t xs ys (inl a) (inl b) =
      (a.2 ∙ ap (λ (line : ℕ). (let st : Status = statuses.BadText line in st)) (reads.listing_first text a.0 b.0 a.1 b.1) ∙ sym b.2, a.3 ∙ sym b.3)
  text_one text s t xs ys (inl a) (inr b) = absurd (reads.listing_good text b.0 a.0 b.1 a.1)
  text_one text s t xs ys (inr a) (inl b) = absurd (reads.listing_good text a.0 b.0 a.1 b.1)
  text_one text s t xs ys (inr a) (inr b) = (a.2 ∙ sym b.2, a.3 ∙ reads.listing_one text a.0 b.0 a.1 b.1 ∙ sym b.3)

  -- a refusal, or what comes of the text that is read
  abbrev FileComes : List ℕ → Status → List ℕ → Type 0
  FileComes name s bytes = ((refusal most_text (file_of files name) ≡ Some s) × (bytes ≡ [])) ⊎ ((text : List ℕ) × IsFileRead (Some files) name most_text text × TextComes text s bytes)

  asm_one : (name : List ℕ) → IsOne (AsmComes files name)
  asm_one name s t xs ys a b = by_view (view s xs a) (view t ys b) where
    view : (s : Status) (bytes : List ℕ) → AsmComes files name s bytes → FileComes name s bytes
    view s bytes (inl h) = inl h
    view s bytes (inr (inl h)) = inr (h.0, h.2, inl (h.1, h.3, h.4, h.5))
    view s bytes (inr (inr h)) = inr (h.0, h.2, inr (h.1, h.3, h.4, h.5))

    by_view : FileComes name s xs → FileComes name t ys → (s ≡ t) × (xs ≡ ys)
    by_view (inl x) (inl y) = (same_Some s t (sym x.0 ∙ y.0), x.1 ∙ sym y.1)
    by_view (inl x) (inr y) = absurd (not_both (refusal most_text (file_of files name)) s (read_fine files name most_text y.0 y.1) x.0)
    by_view (inr x) (inl y) = absurd (not_both (refusal most_text (file_of files name)) t (read_fine files name most_text x.0 x.1) y.0)
    by_view (inr x) (inr y) =
        text_one y.0 s t xs ys (subst (λ (text : List ℕ). TextComes text s xs) (same_file files name most_text x.0 y.0 x.1 y.1) x.2) y.2

  pub comes_one : (asked : Asked) → IsOne (Comes files asked)
  comes_one (AskRun cart keys ticks keep) = run_comes_one reads files cart keys (λ boot. ResumeWrites keep ticks (switched_on boot)) (λ boot. resume_one laws keep ticks (switched_on boot))
  comes_one (AskList name proc set) = list_one name proc set
  comes_one (AskAsm name) = asm_one name
  comes_one (AskTrace cart keys ticks proc count) = run_comes_one reads files cart keys (TraceWrites proc count ticks) (trace_one laws proc count ticks)
  comes_one (AskPeek cart keys ticks memory place count) =
      run_comes_one reads files cart keys (AfterWrites (peeked memory place count) ticks) (after_one laws (peeked memory place count) ticks)
  comes_one (AskSave cart keys ticks) = run_comes_one reads files cart keys (AfterWrites saved_after ticks) (after_one laws saved_after ticks)
  comes_one (AskResume state cart keys ticks keep) = resume_comes_one reads files state cart keys ticks (ResumeWrites keep ticks) (resume_one laws keep ticks)
  comes_one (AskDemo number ticks) = after_one laws (demo_of number ticks (demo_booted number)) ticks (demo_booted number)

-- ---- so it is of a call

-- the console of a seat
seated_console : (seat : Option ConsoleState) (P : ConsoleState → Type 0) → IsSomeAnd seat P → (k : ConsoleState) × P k
seated_console None P h = absurd h
seated_console (Some k) P h = (k, h)

module _ (c : Call) (files : List Named) (told : c.files ≡ Some files) (none : HadNoFault c) (kept : c.still → c.wrote []) where
  -- bytes that were written
  abbrev pub WroteSo : (List ℕ → Type 0) → Type 0
  WroteSo Is = (bytes : List ℕ) × Is bytes × c.wrote bytes

  untouched : (Is : List ℕ → Type 0) → c.still → Is [] → WroteSo Is
  untouched Is still is = ([], is, kept still)

  by_told : (P : Option (List Named) → Type 0) → P c.files → P (Some files)
  by_told P h = subst P told h

  -- bytes that were written by the status
  written : (s : Status) (bytes : List ℕ) → Written c s bytes → (s ≡ statuses.Done) × c.wrote bytes
  written statuses.Done bytes h = (refl, h)
  written statuses.WriteFault bytes h = absurd (none.out h.0)
  written statuses.Usage bytes h = absurd h
  written statuses.NoFile bytes h = absurd h
  written statuses.ReadFault bytes h = absurd h
  written statuses.TooLong bytes h = absurd h
  written (statuses.BadHeader fault) bytes h = absurd h
  written (statuses.BadScript line column) bytes h = absurd h
  written (statuses.LeftOut left) bytes h = absurd h
  written (statuses.BadText line) bytes h = absurd h
  written (statuses.BadState offset) bytes h = absurd h
  written statuses.NoMemory bytes h = absurd h

  -- a command that runs a cartridge, by what it did
  by_told_run : (cart : List ℕ) (keys : Option (List ℕ)) (did : MachineState → Type 0) (Comes₁ : MachineState → Status → List ℕ → Type 0) (named : List ℕ) (s : Status) → s ≢ statuses.NoMemory
      → ((boot : MachineState) → did boot → WroteSo (Comes₁ boot s)) → GivesBy c cart keys did named s → WroteSo (RunComes files cart keys Comes₁ s)
  by_told_run cart keys did Comes₁ named s ne each (inl h) =
      let w = each (machine_booted h.0 h.1) h.4 in
      (w.0, loaded h.0 h.1 (by_told (λ f. IsCart f cart h.0) h.2) (by_told (λ f. AreKeys f keys h.1) h.3) w.1, w.2)
  by_told_run cart keys did Comes₁ named s ne each (inr h) =
      let refused = by_told (λ f. RefusesRun f c.shelf_rose cart keys s named) h.1 in
      untouched (RunComes files cart keys Comes₁ s) h.0.0 (run_refused files c.shelf_rose cart keys Comes₁ s named none.shelf ne refused)

  -- a console was run
  ran_told : (ticks : ℕ) (keep : Keep) (start : ConsoleState) (s : Status) → RanFrom c ticks keep start s → WroteSo (ResumeWrites keep ticks start s)
  ran_told ticks keep start statuses.Done h =
      (let k = seated_console c.seat _ h in
      let w = k.1.1.0 in
      (_, record { end = At k.0.machine; last = k.0; outs = w.outs; turns = w.turns; ran = w.ran; status = refl; is = refl }, w.written))
  ran_told ticks keep start (statuses.LeftOut left) h =
      (let k = seated_console c.seat _ h in
      let w = k.1.1.0 in
      (_, record { end = Stopped left; last = k.0; outs = w.outs; turns = w.turns; ran = w.ran; status = refl; is = refl }, w.written))
  ran_told ticks keep start statuses.WriteFault h = absurd (none.out h.0)
  ran_told ticks keep start statuses.Usage h = absurd h
  ran_told ticks keep start statuses.NoFile h = absurd h
  ran_told ticks keep start statuses.ReadFault h = absurd h
  ran_told ticks keep start statuses.TooLong h = absurd h
  ran_told ticks keep start (statuses.BadHeader fault) h = absurd h
  ran_told ticks keep start (statuses.BadScript line column) h = absurd h
  ran_told ticks keep start (statuses.BadText line) h = absurd h
  ran_told ticks keep start (statuses.BadState offset) h = absurd h
  ran_told ticks keep start statuses.NoMemory h = absurd h

  -- a trace
  traced_told : (ticks : ℕ) (proc : Proc) (count : ℕ) (boot : MachineState) (s : Status) → TracedBy c ticks proc count s boot → WroteSo (TraceWrites proc count ticks boot s)
  traced_told ticks proc count boot statuses.Done h = (let w = h.1 in (_, record { end = w.0; outs = w.1; ran = w.2; ends = w.3; is = refl }, w.4))
  traced_told ticks proc count boot (statuses.LeftOut left) h = (let w = h.1 in (_, record { end = w.0; outs = w.1; ran = w.2; ends = w.3; is = refl }, w.4))
  traced_told ticks proc count boot statuses.WriteFault h = absurd (none.out h.1)
  traced_told ticks proc count boot statuses.Usage h = absurd h
  traced_told ticks proc count boot statuses.NoFile h = absurd h
  traced_told ticks proc count boot statuses.ReadFault h = absurd h
  traced_told ticks proc count boot statuses.TooLong h = absurd h
  traced_told ticks proc count boot (statuses.BadHeader fault) h = absurd h
  traced_told ticks proc count boot (statuses.BadScript line column) h = absurd h
  traced_told ticks proc count boot (statuses.BadText line) h = absurd h
  traced_told ticks proc count boot (statuses.BadState offset) h = absurd h
  traced_told ticks proc count boot statuses.NoMemory h = absurd h

  -- what was written where the run came to its tick
  abbrev After : (ConsoleState → List Shown → List ℕ) → ℕ → MachineState → Status → Type 0
  After tell ticks boot s = Seated c ticks (switched_on boot) (λ k. ((outs : List Shown) × Runs reference ticks (At k.machine) boot outs × Written c s (tell k outs)) × (k.limit ≡ ticks)
      × (k.stopped ≡ None) × TurnsToEnd ticks (switched_on boot) (At k.machine) k)

  after_so : (tell : ConsoleState → List Shown → List ℕ) (ticks : ℕ) (boot : MachineState) (s : Status) → After tell ticks boot s → WroteSo (AfterWrites tell ticks boot s)
  after_so tell ticks boot s h =
      let k = seated_console c.seat _ h in
      let w = k.1.1 in
      let so = written s (tell k.0 w.0.0) w.0.2 in
      (tell k.0 w.0.0, subst (λ (t : Status). AfterWrites tell ticks boot t (tell k.0 w.0.0)) (sym so.0) (k.0, w.0.0, w.0.1, w.3, refl), so.1)

  -- what is written after a run
  after_told : (tell : ConsoleState → List Shown → List ℕ) (ticks : ℕ) (boot : MachineState) (s : Status) → WroteAfter c ticks tell s boot → WroteSo (AfterWrites tell ticks boot s)
  after_told tell ticks boot (statuses.LeftOut left) h =
      (let k = seated_console c.seat _ h.1 in let w = k.1.1.0 in untouched (AfterWrites tell ticks boot (statuses.LeftOut left)) h.0 (w.0, w.1, refl))
  after_told tell ticks boot statuses.Done h = after_so tell ticks boot statuses.Done h
  after_told tell ticks boot statuses.WriteFault h = after_so tell ticks boot statuses.WriteFault h
  after_told tell ticks boot statuses.Usage h = after_so tell ticks boot statuses.Usage h
  after_told tell ticks boot statuses.NoFile h = after_so tell ticks boot statuses.NoFile h
  after_told tell ticks boot statuses.ReadFault h = after_so tell ticks boot statuses.ReadFault h
  after_told tell ticks boot statuses.TooLong h = after_so tell ticks boot statuses.TooLong h
  after_told tell ticks boot (statuses.BadHeader fault) h = after_so tell ticks boot (statuses.BadHeader fault) h
  after_told tell ticks boot (statuses.BadScript line column) h = after_so tell ticks boot (statuses.BadScript line column) h
  after_told tell ticks boot (statuses.BadText line) h = after_so tell ticks boot (statuses.BadText line) h
  after_told tell ticks boot (statuses.BadState offset) h = after_so tell ticks boot (statuses.BadState offset) h
  after_told tell ticks boot statuses.NoMemory h = after_so tell ticks boot statuses.NoMemory h

  -- where the run goes on from a saved console
  resume_told : (state cart : List ℕ) (keys : Option (List ℕ)) (ticks : ℕ) (keep : Keep) (named : List ℕ) (s : Status) → s ≢ statuses.NoMemory → ResumeGives c state cart keys ticks keep named s
      → WroteSo (ResumeComes files state cart keys ticks (ResumeWrites keep ticks) s)
  resume_told state cart keys ticks keep named s ne (inl h) =
      let w = ran_told ticks keep h.0 s h.2 in
      (w.0, resumed h.0 (by_told (λ f. IsState f state cart keys ticks h.0) h.1) w.1, w.2)
  resume_told state cart keys ticks keep named (statuses.BadState offset) ne (inr h) =
      untouched (ResumeComes files state cart keys ticks (ResumeWrites keep ticks) (statuses.BadState offset)) h.0.0
      (bad_state offset (by_told (λ f. IsBadState f state cart keys ticks offset) h.1) refl refl)
  resume_told state cart keys ticks keep named s ne (inr h) =
      let no = by_told (λ f. RefusesFiles f c.shelf_rose state cart keys s named) h.1 in
      untouched (ResumeComes files state cart keys ticks (ResumeWrites keep ticks) s) h.0.0
      (resume_refused files c.shelf_rose state cart keys ticks (ResumeWrites keep ticks) s named none.shelf ne no)

  demo_told : (number ticks : ℕ) (s : Status) → s ≢ statuses.NoMemory → DemoGives c number ticks s → WroteSo (Comes files (AskDemo number ticks) s)
  demo_told number ticks s ne (inl h) = after_told (demo_of number ticks (demo_booted number)) ticks (demo_booted number) s h
  demo_told number ticks s ne (inr h) = absurd (ne h.1)

  list_told : (name : List ℕ) (proc : Proc) (set : Set) (s : Status) → s ≢ statuses.NoMemory → ListGives c name proc set s → WroteSo (ListComes files name proc set s)
  list_told name proc set s ne (inl h) =
      let so = written s (listing_of h.0 proc set) h.2 in
      (listing_of h.0 proc set, inr (h.0, by_told (λ f. IsCart f name h.0) h.1, so.0, refl), so.1)
  list_told name proc set s ne (inr h) =
      let no = by_told (λ f. RefusesCart f c.shelf_rose name s) h.1 in
      untouched (ListComes files name proc set s) h.0.0 (inl (cart_refused files c.shelf_rose none.shelf name s ne no, refl))

  asm_told : (name : List ℕ) (s : Status) → s ≢ statuses.NoMemory → AsmGives c name s → WroteSo (AsmComes files name s)
  asm_told name s ne (inl h) = let so = written s h.1 h.4 in (h.1, inr (inr (h.0, h.1, by_told (λ f. IsFileRead f name most_text h.0) h.2, h.3, so.0, refl)), so.1)
  asm_told name (statuses.BadText line) ne (inr h) =
      untouched (AsmComes files name (statuses.BadText line)) h.0.0 (inr (inl (h.1.0, line, by_told (λ f. IsFileRead f name most_text h.1.0) h.1.1, h.1.2, refl, refl)))
  asm_told name s ne (inr h) =
      let no = by_told (λ f. Refuses f c.shelf_rose name most_text s) h.1 in
      untouched (AsmComes files name s) h.0.0 (inl (refused files c.shelf_rose none.shelf name most_text s ne no, refl))

  pub command_told : (asked : Asked) (named : List ℕ) (s : Status) → s ≢ statuses.NoMemory → CommandGives c asked named s → WroteSo (Comes files asked s)
  command_told (AskRun cart keys ticks keep) named s ne h =
      by_told_run cart keys (λ boot. RanFrom c ticks keep (switched_on boot) s) (λ boot. ResumeWrites keep ticks (switched_on boot)) named s ne (λ boot w. ran_told ticks keep (switched_on boot) s w) h
  command_told (AskList name proc set) named s ne h = list_told name proc set s ne h.0
  command_told (AskAsm name) named s ne h = asm_told name s ne h.0
  command_told (AskTrace cart keys ticks proc count) named s ne h =
      by_told_run cart keys (TracedBy c ticks proc count s) (TraceWrites proc count ticks) named s ne (λ boot w. traced_told ticks proc count boot s w) h
  command_told (AskPeek cart keys ticks memory place count) named s ne h =
      by_told_run cart keys (WroteAfter c ticks (peeked memory place count) s) (AfterWrites (peeked memory place count) ticks) named s ne (λ boot w. after_told (peeked memory place count) ticks boot s w) h
  command_told (AskSave cart keys ticks) named s ne h =
      by_told_run cart keys (SavedBy c ticks s) (AfterWrites saved_after ticks) named s ne (λ boot w. after_told saved_after ticks boot s w.0) h
  command_told (AskResume state cart keys ticks keep) named s ne h = resume_told state cart keys ticks keep named s ne h
  command_told (AskDemo number ticks) named s ne h = demo_told number ticks s ne h

-- ---- what can be done is done

module _ (laws : TopLaws) (files : List Named) where
  ends_done : (count n : ℕ) (m : MachineState) (end : Ending MachineState LeftOut) (s : Status) → end ≡ At m → TraceEnds count n end s → s ≡ statuses.Done
  ends_done count n m end statuses.Done e h = refl
  ends_done count n m end (statuses.LeftOut left) e h = absurd (at_or_stopped m left (sym e ∙ h.0))
  ends_done count n m end s e h = absurd h

  after_ends : (tell : ConsoleState → List Shown → List ℕ) (ticks : ℕ) (boot : MachineState) (s : Status) (bytes : List ℕ) → ComesTo ticks boot → AfterWrites tell ticks boot s bytes → s ≡ statuses.Done
  after_ends tell ticks boot statuses.Done bytes to h = refl
  after_ends tell ticks boot (statuses.LeftOut left) bytes to h = absurd (at_or_stopped to.0 left (laws.runs ticks boot (At to.0) (Stopped left) to.1 h.0 to.2 h.1).0)
  after_ends tell ticks boot s bytes to h = absurd h

  pub done_then : (asked : Asked) (s : Status) (bytes : List ℕ) → CanBeDone files asked → Comes files asked s bytes → s ≡ statuses.Done
  done_then (AskRun cart keys ticks keep) s bytes can h =
      let w = loaded_comes laws.reads files cart keys (λ boot. ResumeWrites keep ticks (switched_on boot)) s bytes can.0 can.1 can.2 can.3 h in
      let to = can.4 in
      w.status ∙ ap status_at (laws.runs ticks (machine_booted can.0 can.1) w.end (At to.0) w.outs to.1 w.ran to.2).0
  done_then (AskList name proc set) s bytes can h =
      (comes_one laws files (AskList name proc set) s statuses.Done bytes (listing_of can.0 proc set) h (inr (can.0, can.1, refl, refl))).0
  done_then (AskAsm name) s bytes can h = (comes_one laws files (AskAsm name) s statuses.Done bytes can.1 h (inr (inr (can.0, can.1, can.2, can.3, refl, refl)))).0
  done_then (AskTrace cart keys ticks proc count) s bytes can h =
      let w = loaded_comes laws.reads files cart keys (TraceWrites proc count ticks) s bytes can.0 can.1 can.2 can.3 h in
      let to = can.4 in
      ends_done count (length (run_lines proc w.ran)) to.0 w.end s (laws.runs ticks (machine_booted can.0 can.1) w.end (At to.0) w.outs to.1 w.ran to.2).0 w.ends
  done_then (AskPeek cart keys ticks memory place count) s bytes can h =
      after_ends (peeked memory place count) ticks (machine_booted can.0 can.1) s bytes can.4
      (loaded_comes laws.reads files cart keys (AfterWrites (peeked memory place count) ticks) s bytes can.0 can.1 can.2 can.3 h)
  done_then (AskSave cart keys ticks) s bytes can h =
      after_ends saved_after ticks (machine_booted can.0 can.1) s bytes can.4 (loaded_comes laws.reads files cart keys (AfterWrites saved_after ticks) s bytes can.0 can.1 can.2 can.3 h)
  done_then (AskResume state cart keys ticks keep) s bytes can h =
      let w = state_comes laws.reads files state cart keys ticks (ResumeWrites keep ticks) s bytes can.0 can.1 h in
      let to = can.2 in
      w.status ∙ ap status_at (laws.runs ticks can.0.machine w.end (At to.0) w.outs to.1 w.ran to.2).0
  done_then (AskDemo number ticks) s bytes can h = after_ends (demo_of number ticks (demo_booted number)) ticks (demo_booted number) s bytes can h

-- ---- the top call

pub completes : TopLaws → (c : Call) (files : List Named) (words : List (List ℕ)) (asked : Asked) (named : List ℕ) (s : Status) → c.files ≡ Some files → HadNoFault c → (c.still → c.wrote [])
    → Asks words asked → CanBeDone files asked → Gives c words named s → (s ≡ statuses.Done) ⊎ (s ≡ statuses.NoMemory)
completes laws c files words asked named s told none kept asks can (nothing never is still) = absurd (never asked asks)
completes laws c files words asked named s told none kept asks can (command asked₂ asks₂ given) = elim (memory_or_not s) [
  | inl memory ↦ inr memory
  | inr ne ↦
      (let same = laws.words words asked₂ asked asks₂ asks in
      let w = command_told c files told none kept asked named s ne (subst (λ (a : Asked). CommandGives c a named s) same given) in
      inl (done_then laws files asked s w.0 can w.1))
]

pub answers_one : TopLaws → (c d : Call) (files : List Named) (words : List (List ℕ)) (named named₂ : List ℕ) (s t : Status) → c.files ≡ Some files
    → d.files ≡ Some files → HadNoFault c → HadNoFault d → (c.still → c.wrote []) → (d.still → d.wrote []) → s ≢ statuses.NoMemory → t ≢ statuses.NoMemory → Gives c words named s → Gives d words named₂ t
    → (s ≡ t) × ((bytes : List ℕ) × c.wrote bytes × d.wrote bytes)
answers_one laws c d files words named named₂ s t told told₂ none none₂ kept kept₂ ne ne₂ (nothing never is still) (nothing never₂ is₂ still₂) =
    (is ∙ sym is₂, ([], kept still.0, kept₂ still₂.0))
answers_one laws c d files words named named₂ s t told told₂ none none₂ kept kept₂ ne ne₂ (nothing never is still) (command asked asks given) = absurd (never asked asks)
answers_one laws c d files words named named₂ s t told told₂ none none₂ kept kept₂ ne ne₂ (command asked asks given) (nothing never is still) = absurd (never asked asks)
answers_one laws c d files words named named₂ s t told told₂ none none₂ kept kept₂ ne ne₂ (command asked asks given) (command asked₂ asks₂ given₂) =
    let same = laws.words words asked₂ asked asks₂ asks in
    let x = command_told c files told none kept asked named s ne given in
    let y = command_told d files told₂ none₂ kept₂ asked named₂ t ne₂ (subst (λ (a : Asked). CommandGives d a named₂ t) same given₂) in
    let k = comes_one laws files asked s t x.0 y.0 x.1 y.1 in
    (k.0, (x.0, x.2, subst (λ (bytes : List ℕ). d.wrote bytes) (sym k.1) y.2))
