use Rattle.std.specs.Prelude.{ℕ, ◌≡◌, ◌≤◌, ◌+◌, ◌*◌, Bool, true, false, List, [], ◌∷◌, ◌++◌, None, max}
use Rattle.ds_base.specs.declared.left_out.LeftOut.{LeftOut}
use Rattle.ds_runs.specs.Runs.{Ending, At, Runs}
use Rattle.ds_runs.specs.Runs as runs
use Rattle.ds_runs.specs.ScheduleLaws.{places_remaining}
use Rattle.ds_machine.specs.FrameLaws.{FollowFrames, FollowLists}
use Rattle.ds_machine.specs.Frames.{last_frame, last_lists}
use Rattle.ds_machine.specs.Acting.{acting_dues, is_behind}
use Rattle.ds_machine.specs.States.{MachineState}
use Rattle.ds_machine.specs.Reference.{Shown, next_shown, reference}
use Rattle.run_ahead.specs.Consoles.{ConsoleState}
use Rattle.run_ahead.specs.declared.turns.Turned.{Turned}
use Rattle.run_ahead.specs.declared.turns.Turned.TheVariants.{Ran, Frame, AtEnd, Stopped}
use Rattle.run_ahead.specs.Turns.{HasTurned, Turns, counted_of, no_turn, one_turn}

-- What a turn says of the reference run, how many turns there are, and turns that only ran.

-- what a turn puts out: the frame that it makes whole
abbrev pub shown_in : Turned → MachineState → MachineState → List Shown
shown_in Ran old new = []
shown_in (Frame swapped) old new = next_shown old new swapped ∷ []
shown_in AtEnd old new = []
shown_in (Stopped left) old new = []

-- to each limit that isn't below this one, what runs on from the new state is the rest of the run from the old one, which puts
-- out these first
abbrev pub GoesOn : ℕ → MachineState → MachineState → List Shown → Type 0
GoesOn until old new front = (limit : ℕ) → until ≤ limit → (end : Ending MachineState LeftOut) (outs : List Shown)
    → Runs reference limit end new outs → Runs reference limit end old (front ++ outs)

-- what a turn of a console that hasn't stopped says of the reference run
abbrev pub RunsOn : ℕ → MachineState → Turned → MachineState → Type 0
RunsOn until old Ran new = GoesOn until old new []
RunsOn until old (Frame swapped) new = GoesOn until old new (next_shown old new swapped ∷ [])
RunsOn until old AtEnd new = Runs reference until (At old) old []
RunsOn until old (Stopped left) new = Runs reference until (runs.Stopped left) old []

-- the reference run goes on from a state to every limit
abbrev pub HasRuns : MachineState → Type 0
HasRuns s = (limit : ℕ) → (end : Ending MachineState LeftOut) × (outs : List Shown) × Runs reference limit end s outs

-- no more turns than this take a step below a limit, from a state on: a loop over turns counts it down. Each turn but that of quiet geometry alone
-- leaves fewer places of acting actors, and after that one no geometry is left to catch up
abbrev pub one_if : Bool → ℕ
one_if true = 1
one_if false = 0

abbrev pub turns_remaining : ℕ → MachineState → ℕ
turns_remaining until s = 2 * places_remaining 24 until 0 (acting_dues s) + one_if (is_behind until 0 s)

-- how many of a console's turns count, and all of them together add as many to its count of turns
abbrev pub turns_in : {until : ℕ} {start now : ConsoleState} → HasTurned until start now → ℕ
turns_in (no_turn start) = 0
turns_in (one_turn start before now answer earlier last) = counted_of answer + turns_in earlier

abbrev pub TurnsAddUp : Type 0
TurnsAddUp = (until : ℕ) (start now : ConsoleState) (turned : HasTurned until start now) → now.turns ≡ turns_in turned + start.turns

-- each of these turns ran
abbrev pub EachRan : {until : ℕ} {start now : ConsoleState} → HasTurned until start now → Type 0
EachRan (no_turn start) = Unit {0}
EachRan (one_turn start before now answer earlier last) = EachRan earlier × (answer ≡ Ran)

-- a console ran on: it took some turns with a limit, each of which ran. What the reference run does from there is the rest of what it
-- does from before them, and the last whole frame and the last lists are as they were
pub record RanOn (until : ℕ) (old new : ConsoleState) : Type 0 where
  pub turned : HasTurned until old new
  pub each_ran : EachRan turned
  pub stopped : new.stopped ≡ old.stopped
  pub limit : max new.limit until ≡ max old.limit until
  pub goes_on : GoesOn until old.machine new.machine []
  pub frame : last_frame new.machine ≡ last_frame old.machine
  pub lists : last_lists new.machine ≡ last_lists old.machine

-- turns with a limit up to one of this answer: the console ran on, and was like `before` when it took that turn. What is said of the
-- turn is what is said of each
pub record TurnsUpTo (until : ℕ) (old : ConsoleState) (answer : Turned) (new : ConsoleState) : Type 0 where
  pub before : ConsoleState
  pub ran : RanOn until old before
  pub last : Turns until before answer new
  pub runs : before.stopped ≡ None → RunsOn until before.machine answer new.machine
  pub frames : FollowFrames before.machine new.machine (shown_in answer before.machine new.machine)
  pub lists : FollowLists before.machine new.machine (shown_in answer before.machine new.machine)
  pub counted : new.turns ≡ counted_of answer + turns_in ran.turned + old.turns
