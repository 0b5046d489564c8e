use Rattle.std.specs.Prelude.{ℕ, ◌≡◌, ◌≤◌, ◌+◌, ◌*◌, List, length}
use Rattle.std.specs.List.{last_or}
use Rattle.ds_base.specs.declared.ticks.Tick.{Tick}
use Rattle.ds_base.specs.declared.left_out.LeftOut.{LeftOut}
use Rattle.ds_runs.specs.Runs.{Ending, IsLeast, Makes, Runs, Stops}
use Rattle.ds_machine.specs.Reference.{Shown, dues_of, reference, reference_step}
use Rattle.ds_machine.specs.Sound.{HasSoundParts}
use Rattle.ds_machine.specs.States.{MachineState}
use Rattle.ds_machine.specs.Frames.{frames_shown, last_frame, last_lists, lists_shown}

-- How frames and lists follow what a run puts out.

-- a machine's last whole frame after steps that put this out: the last of those, or where there is none the one before them
abbrev pub FollowFrames : MachineState → MachineState → List Shown → Type 0
FollowFrames old new outs = last_frame new ≡ last_or (last_frame old) (frames_shown outs)

-- so it is after each step; and one that stops leaves the last whole frame
abbrev pub StepsFollowFrames : Type 0
StepsFollowFrames = (s next : MachineState) (tick : Tick) (rank : ℕ) (outs : List Shown) → HasSoundParts s → IsLeast (dues_of s) tick rank
    → reference_step rank s ≡ Makes next outs
    → FollowFrames s next outs

abbrev pub StopsLeaveFrames : Type 0
StopsLeaveFrames = (s left : MachineState) (tick : Tick) (rank : ℕ) (stop : LeftOut) → HasSoundParts s → IsLeast (dues_of s) tick rank
    → reference_step rank s ≡ Stops stop left
    → last_frame left ≡ last_frame s

-- one becomes whole every 1,120,380 ticks, the first at tick 817,920: a run to a limit puts out no more of them than come before it
abbrev pub FramesAreFew : Type 0
FramesAreFew = (limit : ℕ) (start : MachineState) (end : Ending MachineState LeftOut) (outs : List Shown) → HasSoundParts start
    → Runs reference limit end start outs
    → 1120380 * length outs ≤ limit + 302460

-- a machine's last lists after steps that put this out: those of the last swap, or where there is none the ones before them
abbrev pub FollowLists : MachineState → MachineState → List Shown → Type 0
FollowLists old new outs = last_lists new ≡ last_or (last_lists old) (lists_shown outs)

-- so it is after each step; and one that stops leaves the last lists
abbrev pub StepsFollowLists : Type 0
StepsFollowLists = (s next : MachineState) (tick : Tick) (rank : ℕ) (outs : List Shown) → HasSoundParts s → IsLeast (dues_of s) tick rank
    → reference_step rank s ≡ Makes next outs
    → FollowLists s next outs

abbrev pub StopsLeaveLists : Type 0
StopsLeaveLists = (s left : MachineState) (tick : Tick) (rank : ℕ) (stop : LeftOut) → HasSoundParts s → IsLeast (dues_of s) tick rank
    → reference_step rank s ≡ Stops stop left
    → last_lists left ≡ last_lists s
