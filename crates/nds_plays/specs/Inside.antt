use Rattle.std.specs.Prelude.{ℕ, ◌≡◌, ◌≤◌, ◌*◌, if◌then◌else◌, Bool, List, [], ◌∷◌, ◌++◌, length, Option, Some, None, option_to_list, Result, Ok, Err, max}
use Rattle.ds_base.specs.declared.left_out.LeftOut.{LeftOut}
use Rattle.ds_io.specs.Faults.{Rose}
use Rattle.ds_io.specs.Sinks.{Appended, AppendedFront}
use Rattle.ds_io.specs.declared.faults.Failed.{Failed}
use Rattle.ds_runs.specs.Runs.{Ending, At, Stopped, Runs}
use Rattle.ds_machine.specs.FrameLaws.{FollowFrames, FollowLists}
use Rattle.ds_machine.specs.Frames.{last_frame}
use Rattle.ds_machine.specs.Reference.{Shown, reference}
use Rattle.ds_machine.specs.States.{MachineState}
use Rattle.run_ahead.specs.ToEnd.{TurnsToEnd}
use Rattle.run_ahead.specs.Turns.{HasTurned}
use Rattle.run_ahead.specs.Consoles.{ConsoleState}
use Rattle.gx_geometry.specs.States.{Swapped}
use Rattle.nds_plays.specs.Plays.{WroteFront}
use Rattle.nds_records.specs.Lists.{lists_records}
use Rattle.nds_plays.specs.Records.{Latest, frame_records, latest_records, shown_while}
use Rattle.nds_words.specs.declared.commands.Keep.{Keep}
use Rattle.nds_words.specs.declared.commands.Keep.TheVariants.{All, Last, Nothing}

-- What the code's parts say of one another. No public clause speaks of it.

-- how a run ends, by the stop that it came to and its last state
abbrev pub ending : Option LeftOut → MachineState → Ending MachineState LeftOut
ending None s = At s
ending (Some left) s = Stopped left

-- a console was turned to a tick or to a stop: it is what the reference run comes to
pub record RunsTo (until : ℕ) (old : ConsoleState) (stop : Option LeftOut) (new : ConsoleState) : Type 0 where
  pub outs : List Shown
  pub ran : Runs reference until (ending stop new.machine) old.machine outs
  pub stopped : new.stopped ≡ stop
  pub limit : new.limit ≡ max old.limit until
  pub frames : FollowFrames old.machine new.machine outs
  pub lists : FollowLists old.machine new.machine outs
  pub turned : HasTurned until old new
  pub to_end : TurnsToEnd until old (ending stop new.machine) new

-- what is written of frames and lists after a run, by the last ones then
abbrev pub shown_after : Keep → Latest → List ℕ
shown_after All latest = []
shown_after Last latest = latest_records latest
shown_after Nothing latest = []

-- the records of a machine that just made a frame whole, by whether waiting lists were swapped there
abbrev pub swapped_lists : Bool → Swapped → List Swapped
swapped_lists swapped lists = if swapped then lists ∷ [] else []

abbrev pub records_now : Bool → MachineState → List ℕ
records_now swapped s = frame_records (option_to_list (last_frame s)) ++ lists_records (swapped_lists swapped s.io.gx.geometry.last)

-- what is written where one was just made whole
abbrev pub shown_now : Keep → Bool → MachineState → List ℕ
shown_now All swapped s = records_now swapped s
shown_now Last swapped s = []
shown_now Nothing swapped s = []

-- how many bytes what a step puts out has at most: a frame's record 196,617, and that of the lists of a swap with 6,144 vertices and 2,048 polygons
-- 186,389
abbrev pub most_shown : ℕ
most_shown = 383006

-- and what comes after a run: the last frame and the last lists, eight memories of 4 MiB at most and two processors' registers, and the record of the
-- end
abbrev pub most_after : ℕ
most_after = 40000000

-- what running a console did, by its answer: it came to an end, and what it put out so far is written; or the sink failed, and a front of the output
-- is written
abbrev pub Ran : {S : Type 0} → (S → Bool) → (S → List ℕ → Type 0) → (S → ℕ) → ℕ → Keep → ConsoleState → S → Result (Option LeftOut) Failed
    → ConsoleState → S → Type 0
Ran tells taken faults until keep old before (Ok stop) new after =
    (runs : RunsTo until old stop new) × Appended tells taken before after (shown_while keep runs.outs)
    × (length (shown_while keep runs.outs) ≤ most_shown * length runs.outs)
Ran tells taken faults until keep old before (Err failed) new after =
    WroteFront (AppendedFront tells taken before after) until keep old × Rose (faults before) (faults after) × HasTurned until old new
