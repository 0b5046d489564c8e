use Rattle.std.specs.Prelude.{ℕ, ◌≡◌, ◌≤◌, List, true, IsSome}
use Rattle.ds_base.specs.declared.processors.Proc.{Proc}
use Rattle.ds_base.specs.declared.ticks.Tick.{Tick}
use Rattle.ds_dma.specs.declared.channels.Channel.{Channel}
use Rattle.ds_dma.specs.Channels.{ChangesChannel, TakesUnit, after_unit, channel_controlled}
use Rattle.ds_dma.specs.States.{DmaState, IsDma, IsLeastRunning, any_runs, dma_due, due_channel, least_running}

-- What the calls leave is told by functions. These are the relations that the functions stand for, of every channel.

-- a control's change is one of its three cases
abbrev pub ControlsChange : Type 0
ControlsChange =
    (proc : Proc) (which : ℕ) (old : Channel) (control : ℕ) (now : Tick)
    → ChangesChannel proc which old control now (channel_controlled proc which old control now)

-- a channel that has units left takes the first one of its plan, by one of the four cases; and the channel that is due has some
abbrev pub UnitsAreTaken : Type 0
UnitsAreTaken = (proc : Proc) (which : ℕ) (old : Channel) → 1 ≤ old.remaining → TakesUnit proc which old (after_unit proc which old)

abbrev pub DueChannelsHaveUnits : Type 0
DueChannelsHaveUnits = (s : DmaState) → IsDma s → IsSome (dma_due s) → 1 ≤ (due_channel s).remaining

-- where a channel runs, the one that is found runs, and none below it does
abbrev pub LeastIsFound : Type 0
LeastIsFound = (channels : List Channel) → any_runs channels ≡ true → IsLeastRunning channels (least_running channels)
