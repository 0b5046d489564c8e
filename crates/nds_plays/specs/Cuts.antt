use Rattle.std.specs.Prelude.{ℕ, ◌≡◌, ◌≤◌, List, ◌++◌}
use Rattle.ds_base.specs.declared.left_out.LeftOut.{LeftOut}
use Rattle.ds_runs.specs.Runs.{Ending, At, Runs}
use Rattle.ds_machine.specs.Reference.{Shown, reference}
use Rattle.ds_machine.specs.Sound.{HasSoundParts}
use Rattle.ds_machine.specs.States.{MachineState}
use Rattle.nds_words.specs.declared.commands.Keep.{Keep}
use Rattle.nds_plays.specs.Records.{latest_of, output_of, shown_while}

-- A run that is cut in two at a tick.

-- the rest of a run, from the machine to which its front came: it ends as the whole does and puts out what the front didn't. And what the whole
-- writes is what is written while the front runs, and then what the rest writes: by each way to keep frames, and with each count of turns
pub record RunsTheRest (later : ℕ) (start middle : MachineState) (end : Ending MachineState LeftOut) (front outs : List Shown) : Type 0 where
  pub rest : List Shown
  pub ran : Runs reference later end middle rest
  pub all : outs ≡ front ++ rest
  pub written : (turns : ℕ) (keep : Keep)
      → output_of later turns keep (latest_of start) end outs ≡ shown_while keep front ++ output_of later turns keep (latest_of middle) end rest

-- a run to a tick and the run to a later one are so, from each machine whose parts are sound
abbrev pub RunsAreCut : Type 0
RunsAreCut =
    (first later : ℕ) (start middle : MachineState) (end : Ending MachineState LeftOut) (front outs : List Shown) → HasSoundParts start
    → first ≤ later → Runs reference first (At middle) start front → Runs reference later end start outs
    → RunsTheRest later start middle end front outs
