use Rattle.std.specs.Prelude.{ℕ, ◌≡◌, ◌⊎◌, ◌<◌, ◌≤◌, ◌+◌, ◌^◌, List, Option, Some, None}
use Rattle.ds_base.specs.declared.keys.KeyLine.{KeyLine}
use Rattle.ds_base.specs.declared.processors.Proc.{Proc}
use Rattle.ds_card.specs.CardPorts.{block_words}
use Rattle.ds_card.specs.Cards.{CardState, ready_word}
use Rattle.ds_card.specs.Saved.{HasItsWord}
use Rattle.ds_card.specs.declared.cards.Transfer.{Transfer}
use Rattle.ds_ports.specs.Io.{io_at_boot}
use Rattle.ds_ports.specs.WithinLaws.{AreWithinTick}
use Rattle.ds_runs.specs.Runs.{At, Runs}
use Rattle.ds_machine.specs.Booted.{machine_booted}
use Rattle.ds_machine.specs.CountingLaws.{HasShortRun, run_of}
use Rattle.ds_machine.specs.HaltingLaws.{KeepsNoMore}
use Rattle.ds_machine.specs.Reference.{Shown, reference}
use Rattle.ds_machine.specs.Saved.{script_from}
use Rattle.ds_machine.specs.Sound.{HasSoundParts}
use Rattle.ds_machine.specs.States.{MachineState}
use Rattle.ds_machine.specs.Steps.{processor_of}

-- The machine where all its steps were due below a tick: what it keeps of time is told by that tick.

-- a word of a transfer that is busy is still to be taken; where it has no words none is ready
abbrev pub HasWordsLeft : CardState → Option Transfer → Type 0
HasWordsLeft s None = Unit {0}
HasWordsLeft s (Some t) =
    (t.taken < block_words s.romctrl) ⊎ ((block_words s.romctrl ≡ 0) × (t.taken ≡ 0) × (ready_word t.next ≡ None))

-- the card's transfer, of which a word that is ready is the file's
pub record HasItsTransfer (file : List ℕ) (s : CardState) : Type 0 where
  pub left : HasWordsLeft s s.transfer
  pub word : HasItsWord file s s.transfer

-- The units are within that tick; each processor is due soon after it at the latest, also where something holds it; the current run of vertices isn't
-- longer than there were ticks; nothing is kept that has no effect; and the card's word is the file's.
pub record IsWithinTick (limit : ℕ) (s : MachineState) : Type 0 where
  pub units : AreWithinTick limit s.io
  pub own : (proc : Proc) → (processor_of s proc).due ≤ limit + 2 ^ 32
  pub run : run_of s ≤ limit
  pub short : HasShortRun s
  pub kept : KeepsNoMore s
  pub card : HasItsTransfer s.file s.io.card

-- ---- the laws

-- so it is at boot, by tick 0
abbrev pub BootsWithinTick : Type 0
BootsWithinTick = (s : MachineState) (keys : List KeyLine) → s ≡ machine_booted s.file keys → s.io ≡ io_at_boot → IsWithinTick 0 s

-- by each later tick too
abbrev pub TicksRise : Type 0
TicksRise = (limit later : ℕ) (s : MachineState) → limit ≤ later → IsWithinTick limit s → IsWithinTick later s

-- and wherever a run to a tick ends
abbrev pub RunsStayWithinTick : Type 0
RunsStayWithinTick =
    (limit later : ℕ) (start end : MachineState) (outs : List Shown)
    → Runs reference later (At end) start outs → HasSoundParts start → limit ≤ later → IsWithinTick limit start → IsWithinTick later end

-- and there the lines of a script that are to come are those that are due from that tick on
abbrev pub RunsKeepScript : Type 0
RunsKeepScript =
    (limit later : ℕ) (script : List KeyLine) (start end : MachineState) (outs : List Shown)
    → Runs reference later (At end) start outs → HasSoundParts start → limit ≤ later → start.keys ≡ script_from limit script
    → end.keys ≡ script_from later script
