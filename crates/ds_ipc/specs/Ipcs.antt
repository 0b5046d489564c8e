use Rattle.std.specs.Prelude.{ℕ}
use Rattle.ds_base.specs.Processors.{raised_at}
use Rattle.ds_base.specs.declared.processors.Proc.{Proc}
use Rattle.ds_base.specs.declared.processors.Proc.TheVariants.{Nine, Seven}
use Rattle.ds_base.specs.declared.processors.Raised.{Raised}
use Rattle.ds_ipc.specs.Sides.{Side, IsSide, side_at_boot, sync_word, sync_written, sync_raised, control_word, fifo_control_written, control_forgotten, control_raised, sent, send_raised, received, received_word, oldest_taken, receive_raised}

-- both sides
pub record IpcState : Type 0 where
  pub nine : Side
  pub seven : Side

abbrev pub ipc_at_boot : IpcState
ipc_at_boot = record { nine = side_at_boot; seven = side_at_boot }

-- what holds of them at every time
pub record AreSides (s : IpcState) : Type 0 where
  pub nine : IsSide s.nine
  pub seven : IsSide s.seven

abbrev pub other_proc : Proc → Proc
other_proc Nine = Seven
other_proc Seven = Nine

abbrev pub side_of : IpcState → Proc → Side
side_of s Nine = s.nine
side_of s Seven = s.seven

-- both sides, of which the first is this processor's
abbrev pub sides_from : Proc → Side → Side → IpcState
sides_from Nine own other = record { nine = own; seven = other }
sides_from Seven own other = record { nine = other; seven = own }

-- Each call, made by one side: what it answers, what it leaves and what it raises.
abbrev pub ipc_sync_word : IpcState → Proc → ℕ
ipc_sync_word s side = sync_word (side_of s side) (side_of s (other_proc side))

abbrev pub ipc_sync_written : IpcState → Proc → ℕ → IpcState
ipc_sync_written s side value = sides_from side (sync_written (side_of s side) value) (side_of s (other_proc side))

abbrev pub ipc_sync_raised : IpcState → Proc → ℕ → Raised
ipc_sync_raised s side value = raised_at (other_proc side) (sync_raised (side_of s (other_proc side)) value)

abbrev pub ipc_control_word : IpcState → Proc → ℕ
ipc_control_word s side = control_word (side_of s side) (side_of s (other_proc side))

abbrev pub ipc_control_written : IpcState → Proc → ℕ → IpcState
ipc_control_written s side value =
    sides_from side (fifo_control_written (side_of s side) value) (control_forgotten (side_of s (other_proc side)) value)

abbrev pub ipc_control_raised : IpcState → Proc → ℕ → Raised
ipc_control_raised s side value = raised_at side (control_raised (side_of s side) (side_of s (other_proc side)) value)

abbrev pub ipc_sent : IpcState → Proc → ℕ → IpcState
ipc_sent s side word = sides_from side (sent (side_of s side) word) (side_of s (other_proc side))

abbrev pub ipc_send_raised : IpcState → Proc → Raised
ipc_send_raised s side = raised_at (other_proc side) (send_raised (side_of s side) (side_of s (other_proc side)))

abbrev pub ipc_received : IpcState → Proc → IpcState
ipc_received s side =
    let own = side_of s side in
    let other = side_of s (other_proc side) in
    sides_from side (received own other) (oldest_taken own other)

abbrev pub ipc_received_word : IpcState → Proc → ℕ
ipc_received_word s side = received_word (side_of s side) (side_of s (other_proc side))

abbrev pub ipc_receive_raised : IpcState → Proc → Raised
ipc_receive_raised s side = raised_at (other_proc side) (receive_raised (side_of s side) (side_of s (other_proc side)))
