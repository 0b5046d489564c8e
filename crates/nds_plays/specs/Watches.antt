use Rattle.std.specs.Prelude.{ℕ, ◌≡◌, ◌≤◌, ◌<◌, ◌⊎◌, nat_eq, if◌then◌else◌, Bool, List, [], ◌∷◌, ◌++◌, length, take, map, slice_index, codes, Option, Some, None, max}
use Rattle.std.specs.List.{concat, range_with_len}
use Rattle.std.specs.Fmt.{decimal}
use Rattle.sha2.specs.Sha256.{sha256}
use Rattle.ds_base.specs.Processors.{architecture_of}
use Rattle.ds_base.specs.declared.left_out.LeftOut.{LeftOut}
use Rattle.ds_base.specs.declared.memories.Memory.{Memory}
use Rattle.ds_base.specs.declared.processors.Proc.{Proc}
use Rattle.ds_base.specs.declared.ticks.Tick.{Tick}
use Rattle.ds_io.specs.Faults.{Rose}
use Rattle.ds_io.specs.Sinks.{Appended, AppendedFront}
use Rattle.ds_runs.specs.Runs.{TickMachine, Ending, At, Stopped, Runs, over, stops, more}
use Rattle.ds_machine.specs.Inspections.{memory_of, seen_of}
use Rattle.ds_machine.specs.Private.{rank_of}
use Rattle.ds_machine.specs.Reference.{Shown, reference}
use Rattle.ds_machine.specs.States.{MachineState}
use Rattle.ds_machine.specs.declared.answers.Seen.{Seen}
use Rattle.ds_machine.specs.declared.answers.Seen.TheVariants.{Half, Idle, Irq, Word}
use Rattle.run_ahead.specs.Consoles.{ConsoleState}
use Rattle.run_ahead.specs.ToEnd.{TurnsToEnd}
use Rattle.run_ahead.specs.Turns.{HasTurned}
use Rattle.asm_text.specs.declared.sets.Set.TheVariants.{Arm, Thumb}
use Rattle.nds_records.specs.Lines.{step_line, entry_line, peek_lines, digest_line}
use Rattle.nds_words.specs.declared.commands.Keep.TheVariants.{All}
use Rattle.nds_plays.specs.Records.{latest_of, output_of}
use Rattle.nds_plays.specs.declared.plays.Played as played
use Rattle.nds_plays.specs.declared.plays.Played.TheVariants as answers

-- What is written of a run to watch it: the steps of a processor, bytes of a memory, what came of it.

-- ---- steps

-- what is told of a run's steps, one after another, by the rank, the tick and the state in which each is taken. A step that stops the
-- machine isn't taken
abbrev pub told_of : {S O L X : Type 0} {m : TickMachine S O L} {limit : ℕ} {end : Ending S L} {s : S} {outs : List O} → (ℕ → Tick → S → List X)
    → Runs m limit end s outs → List X
told_of tell (over s none) = []
told_of tell (stops s after tick rank stop least below halts) = []
told_of tell (more end s next tick rank outs rest least below goes run) = tell rank tick s ++ told_of tell run

-- the line of what a processor does at a tick. At its own step a processor is never idle
abbrev pub seen_line : Proc → ℕ → Seen → List ℕ
seen_line proc tick (Irq at) = entry_line tick at
seen_line proc tick (Word at word) = step_line (architecture_of proc) Arm tick at word
seen_line proc tick (Half at half) = step_line (architecture_of proc) Thumb tick at half
seen_line proc tick Idle = []

-- the line of a step, where it is the processor's: by what it does next, in the state before
abbrev pub step_lines : Proc → ℕ → Tick → MachineState → List (List ℕ)
step_lines proc rank tick s = if nat_eq rank (rank_of proc) then seen_line proc tick.0 (seen_of s proc) ∷ [] else []

-- the lines of a processor's steps in a run
abbrev pub run_lines : {limit : ℕ} {end : Ending MachineState LeftOut} {s : MachineState} {outs : List Shown} → Proc → Runs reference limit end s outs
    → List (List ℕ)
run_lines proc run = told_of (step_lines proc) run

-- they are those of the run, whichever derivation of it is looked at
abbrev pub LinesAreOne : Type 0
LinesAreOne = (proc : Proc) (limit : ℕ) (s : MachineState) (end end₂ : Ending MachineState LeftOut) (outs outs₂ : List Shown)
    (run : Runs reference limit end s outs)
    (run₂ : Runs reference limit end₂ s outs₂) → run_lines proc run ≡ run_lines proc run₂

-- a trace: its first lines
abbrev pub trace_of : {limit : ℕ} {end : Ending MachineState LeftOut} {s : MachineState} {outs : List Shown} → Proc → ℕ
    → Runs reference limit end s outs → List ℕ
trace_of proc count run = concat (take count (run_lines proc run))

-- a trace of the reference run from a machine was written, of which this holds, by how many lines the run has and how it ends
abbrev pub Traced : (List ℕ → Type 0) → ℕ → Proc → ℕ → MachineState → (ℕ → Ending MachineState LeftOut → Type 0) → Type 0
Traced wrote until proc count start ends = (end : Ending MachineState LeftOut) × (outs : List Shown) × (run : Runs reference until end start outs)
    × ends (length (run_lines proc run)) end × wrote (trace_of proc count run)

-- it has so many lines, or all of a run that comes to its tick; or fewer, of one that stops
abbrev pub IsWholeTrace : ℕ → ℕ → Ending MachineState LeftOut → Type 0
IsWholeTrace count lines end = (count ≤ lines) ⊎ ((s : MachineState) × (end ≡ At s))

abbrev pub IsCutTrace : LeftOut → ℕ → ℕ → Ending MachineState LeftOut → Type 0
IsCutTrace left count lines end = (end ≡ Stopped left) × (lines < count)

-- what a trace wrote, by its answer
abbrev pub Traces : {S : Type 0} → (S → Bool) → (S → List ℕ → Type 0) → (S → ℕ) → ℕ → Proc → ℕ → MachineState → S → played.Played → S → Type 0
Traces tells taken faults until proc count start before answers.Done after =
    Traced (Appended tells taken before after) until proc count start (IsWholeTrace count)
Traces tells taken faults until proc count start before (answers.LeftOut left) after =
    Traced (Appended tells taken before after) until proc count start (IsCutTrace left count)
Traces tells taken faults until proc count start before answers.WriteFault after =
    Rose (faults before) (faults after) × Traced (AppendedFront tells taken before after) until proc count start (λ lines end. Unit {0})

-- ---- what is written after a run

-- the reference run from a console's machine was taken, and the console is as after turns with that limit, up to their end; by the stop that it came
-- to
abbrev pub RanTo : ℕ → ConsoleState → Option LeftOut → ConsoleState → List Shown → Type 0
RanTo until old None new outs =
    Runs reference until (At new.machine) old.machine outs × (new.stopped ≡ None) × (new.limit ≡ max old.limit until) × HasTurned until old new
    × TurnsToEnd until old (At new.machine) new
RanTo until old (Some left) new outs = Runs reference until (Stopped left) old.machine outs × (new.stopped ≡ Some left) × HasTurned until old new

-- by the answer, these bytes of the console that the run comes to, and of what it put out, were written after it, or a front of them; where it stops
-- nothing was
abbrev pub WritesAfter : {S : Type 0} → (S → Bool) → (S → List ℕ → Type 0) → (S → ℕ) → ℕ → (ConsoleState → List Shown → List ℕ) → ConsoleState → S
    → played.Played → ConsoleState → S → Type 0
WritesAfter tells taken faults until bytes old before answers.Done new after =
    (outs : List Shown) × RanTo until old None new outs × Appended tells taken before after (bytes new outs)
WritesAfter tells taken faults until bytes old before (answers.LeftOut left) new after =
    (outs : List Shown) × RanTo until old (Some left) new outs × (after ≡ before)
WritesAfter tells taken faults until bytes old before answers.WriteFault new after =
    Rose (faults before) (faults after)
    × ((outs : List Shown) × RanTo until old None new outs × AppendedFront tells taken before after (bytes new outs))

-- so many bytes of a memory from a place on
abbrev pub bytes_at : Memory → ℕ → ℕ → MachineState → List ℕ
bytes_at memory place count s = map (λ at. slice_index (memory_of s memory) at) (range_with_len place count)

-- their lines
abbrev pub peeked : Memory → ℕ → ℕ → ConsoleState → List Shown → List ℕ
peeked memory place count k outs = peek_lines place (bytes_at memory place count k.machine)

-- what came of a run, by the console that it comes to: how many bytes it would write where all frames and lists are kept, their SHA-256 (FIPS 180-4),
-- and its counts
abbrev pub demo_lines : ℕ → ℕ → List ℕ → ConsoleState → List ℕ
demo_lines number until output k =
    let s = k.machine in
    concat (codes "demo " ∷ decimal number ∷ codes " " ∷ decimal until
    ∷ codes "\nbytes " ∷ decimal (length output)
    ∷ codes "\n" ∷ digest_line (sha256 output)
    ∷ codes "steps9 " ∷ decimal s.nine.processor.steps ∷ codes " steps7 " ∷ decimal s.seven.processor.steps ∷ codes " events " ∷ decimal s.events
    ∷ codes " turns " ∷ decimal k.turns ∷ codes "\n" ∷ [])

abbrev pub demo_of : ℕ → ℕ → MachineState → ConsoleState → List Shown → List ℕ
demo_of number until start k outs = demo_lines number until (output_of until k.turns All (latest_of start) (At k.machine) outs) k
