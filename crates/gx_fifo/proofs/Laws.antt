use Rattle.gx_fifo.proofs.Words.{Bool, FifoState, GeometryCommand, GxEntry, List, MtxMode, None, Option, Some, Tick, arith, asks_for_swap, begun, bit}
use Rattle.gx_fifo.proofs.Words.{command_of, command_row, complete_command, done_after, drop, entries_taken, entry_added, false, if◌then◌else◌, inl}
use Rattle.gx_fifo.proofs.Words.{inr, is_some, length, length-drop, most_entries, none-some, not, option_map, option_or, refl, same_Some, sym, true}
use Rattle.gx_fifo.proofs.Words.{true≢false, word_taken, words_taken, ℕ, ◌&&◌, ◌+◌, ◌≡◌, ◌≤◌}
use Rattle.ds_base.specs.Schedules.{IsLater, Reschedules}
use Rattle.gx_geometry.specs.States.{GeometryState, geometry_error_cleared, overflow_cleared, swapped}
use Rattle.gx_geometry.proofs.Bounds.{run_after}
use Rattle.gx_fifo.specs.declared.ports.GxPort.{GxPort}
use Rattle.gx_fifo.specs.declared.ports.GxPort.TheVariants.{Display, Fifo, Direct, Status, Lengths, Position, Vector, Clip, VectorMatrix, Unlisted}
use Rattle.gx_fifo.specs.GxPorts.{gx_port}
use Rattle.gx_fifo.specs.GxStates.{GxState, AddsOneVertex, AreWaiting, done_by, entries_came, gx_finished, gx_swapped, gx_written, write_port}
use Rattle.gx_fifo.proofs.Growing.{Grows, entry_grows, grows_by, word_grows}
use Rattle.gx_fifo.proofs.Dues.{begun_is, due_kept}

-- What each call makes of what waits and of the due tick, said of the states alone, for those who take them into a larger one.

some_clocks : (command : GeometryCommand) → 1 ≤ (command_row command).clocks
some_clocks MtxMode = omega arith
some_clocks _ = omega arith

head_later : (now : Tick) (head : Option GeometryCommand) → IsLater now (option_map (done_after now) head)
head_later now None = tt
head_later now (Some command) = omega (arith, some_clocks command)

pub begun_later : (now : Tick) (swap : Bool) (entries : List GxEntry) → IsLater now (begun now swap entries)
begun_later now true entries = tt
begun_later now false entries = head_later now (complete_command entries)

came_schedules : (now : Tick) (due : Option Tick) (swap : Bool) (entries : List GxEntry) → Reschedules now due (option_or due (begun now swap entries))
came_schedules now None swap entries = inr (begun_later now swap entries)
came_schedules now (Some due) swap entries = inl refl

port_schedules : (port : GxPort) (value : ℕ) (now : Tick) (s : GxState) → Reschedules now s.due (write_port port value now s).due
unfolding write_port
port_schedules Display value now s = inl refl
port_schedules Fifo value now s = came_schedules now s.due s.swap_waits (word_taken value s.fifo).entries
port_schedules (Direct code) value now s = came_schedules now s.due s.swap_waits (entry_added (command_of code) value s.fifo).entries
port_schedules Status value now s = inl refl
port_schedules Lengths value now s = inl refl
port_schedules (Position i) value now s = inl refl
port_schedules (Vector i) value now s = inl refl
port_schedules (Clip i) value now s = inl refl
port_schedules (VectorMatrix i) value now s = inl refl
port_schedules Unlisted value now s = inl refl

pub written_schedules : (s : GxState) (at value : ℕ) (now : Tick) → Reschedules now s.due (gx_written s at value now).due
written_schedules s at value now = port_schedules (gx_port at) value now s

-- entries come
came_waiting : (most : ℕ) (now : Tick) (fifo : FifoState) (s : GxState) → length fifo.entries ≤ most_entries → Grows most s.fifo fifo → AreWaiting s →
    AreWaiting (entries_came now fifo s)
came_waiting most now fifo s room grows waiting = record {
  entries = room;
  packed = grows.packed;
  given = grows.given;
  due = due_kept most s.fifo fifo s.due now s.swap_waits grows waiting.due;
}

same_waiting : (s t : GxState) → t.fifo ≡ s.fifo → t.due ≡ s.due → t.swap_waits ≡ s.swap_waits → AreWaiting s → AreWaiting t
same_waiting s t fifo due swap waiting = record {
  entries = rw fifo waiting.entries;
  packed = rw fifo waiting.packed;
  given = rw fifo waiting.given;
  due = rw (fifo, due, swap) waiting.due;
}

port_waiting : (port : GxPort) (value : ℕ) (now : Tick) (s : GxState) → length (write_port port value now s).fifo.entries ≤ most_entries → AreWaiting s →
    AreWaiting (write_port port value now s)
unfolding write_port
port_waiting Display value now s room waiting = same_waiting s _ refl refl refl waiting
port_waiting Fifo value now s room waiting = came_waiting 4 now _ s room (word_grows value s.fifo waiting.packed) waiting
port_waiting (Direct code) value now s room waiting =
    came_waiting 4 now _ s room (entry_grows (command_of code) value s.fifo waiting.packed waiting.given) waiting
port_waiting Status value now s room waiting = same_waiting s _ refl refl refl waiting
port_waiting Lengths value now s room waiting = waiting
port_waiting (Position i) value now s room waiting = waiting
port_waiting (Vector i) value now s room waiting = waiting
port_waiting (Clip i) value now s room waiting = waiting
port_waiting (VectorMatrix i) value now s room waiting = waiting
port_waiting Unlisted value now s room waiting = waiting

-- where no more wait after a write than there is room for
pub written_waiting : (s : GxState) (at value : ℕ) (now : Tick) → length (gx_written s at value now).fifo.entries ≤ most_entries → AreWaiting s →
    AreWaiting (gx_written s at value now)
written_waiting s at value now room waiting = port_waiting (gx_port at) value now s room waiting

port_grows : (port : GxPort) (value : ℕ) (now : Tick) (s : GxState) → AreWaiting s →
    length (write_port port value now s).fifo.entries ≤ length s.fifo.entries + 4
unfolding write_port
port_grows Display value now s waiting = omega arith
port_grows Fifo value now s waiting = grows_by 4 s.fifo _ (word_grows value s.fifo waiting.packed)
port_grows (Direct code) value now s waiting = grows_by 4 s.fifo _ (entry_grows (command_of code) value s.fifo waiting.packed waiting.given)
port_grows Status value now s waiting = omega arith
port_grows Lengths value now s waiting = omega arith
port_grows (Position i) value now s waiting = omega arith
port_grows (Vector i) value now s waiting = omega arith
port_grows (Clip i) value now s waiting = omega arith
port_grows (VectorMatrix i) value now s waiting = omega arith
port_grows Unlisted value now s waiting = omega arith

pub written_grows : (s : GxState) (at value : ℕ) (now : Tick) → AreWaiting s →
    length (gx_written s at value now).fifo.entries ≤ length s.fifo.entries + 4
written_grows s at value now waiting = port_grows (gx_port at) value now s waiting

-- the head command is done: by its due tick and the head command
done_waiting : (due : Option Tick) (head : Option GeometryCommand) (s : GxState) → AreWaiting s → AreWaiting (done_by due head s)
done_waiting None head s waiting = waiting
done_waiting (Some now) None s waiting = waiting
done_waiting (Some now) (Some command) s waiting = record {
  entries = omega (arith, length-drop (entries_taken command) s.fifo.entries, waiting.entries);
  packed = waiting.packed;
  given = waiting.given;
  due = begun_is now (asks_for_swap command) (drop (entries_taken command) s.fifo.entries);
}

pub finished_waiting : (s : GxState) → AreWaiting s → AreWaiting (gx_finished s)
finished_waiting s waiting = done_waiting s.due (complete_command s.fifo.entries) s waiting

done_later : (now : Tick) (due : Option Tick) (head : Option GeometryCommand) (swap : Bool) (s : GxState) → due ≡ Some now →
    is_some due ≡ (not swap && is_some head) → IsLater now (done_by due head s).due
done_later now None head swap s now-is is = absurd (none-some now now-is)
done_later now (Some tick) None true s now-is is = absurd (true≢false is)
done_later now (Some tick) None false s now-is is = absurd (true≢false is)
done_later now (Some tick) (Some command) swap s now-is is =
    let entries = drop (entries_taken command) s.fifo.entries in
    rw (sym (same_Some tick now now-is)) (begun_later tick (asks_for_swap command) entries)

pub finished_later : (s : GxState) (now : Tick) → AreWaiting s → s.due ≡ Some now → IsLater now (gx_finished s).due
finished_later s now waiting due = done_later now s.due (complete_command s.fifo.entries) s.swap_waits s due waiting.due

done_run : (due : Option Tick) (head : Option GeometryCommand) (s : GxState) → AddsOneVertex s (done_by due head s)
done_run None head s = omega arith
done_run (Some now) None s = omega arith
done_run (Some now) (Some command) s = run_after (Some command) (words_taken command s.fifo.entries) s.geometry

pub finished_run : (s : GxState) → AddsOneVertex s (gx_finished s)
finished_run s = done_run s.due (complete_command s.fifo.entries) s

-- line 192
swap_schedules : (b : Bool) (now : Tick) (old : Option Tick) (x y : GxState) → IsLater now x.due → y.due ≡ old → Reschedules now old (if b then x else y).due
swap_schedules true now old x y later same = inr later
swap_schedules false now old x y later same = inl same

pub swapped_schedules : (now : Tick) (s : GxState) → Reschedules now s.due (gx_swapped now s).due
swapped_schedules now s = swap_schedules s.swap_waits now s.due _ s (begun_later now false s.fifo.entries) refl

either_waiting : (b : Bool) (x y : GxState) → AreWaiting x → AreWaiting y → AreWaiting (if b then x else y)
either_waiting true x y first second = first
either_waiting false x y first second = second

pub swapped_waiting : (now : Tick) (s : GxState) → AreWaiting s → AreWaiting (gx_swapped now s)
swapped_waiting now s waiting =
    either_waiting s.swap_waits _ s
    (record { entries = waiting.entries; packed = waiting.packed; given = waiting.given; due = begun_is now false s.fifo.entries }) waiting

-- the current run's vertices are counted by commands alone
either_run : (b : Bool) (x y : GeometryState) (n : ℕ) → x.numbers.run ≡ n → y.numbers.run ≡ n → (if b then x else y).numbers.run ≡ n
either_run true x y n first second = first
either_run false x y n first second = second

port_run : (port : GxPort) (value : ℕ) (now : Tick) (s : GxState) → (write_port port value now s).geometry.numbers.run ≡ s.geometry.numbers.run
unfolding write_port
port_run Display value now s = either_run (bit 13 value) (overflow_cleared s.geometry) s.geometry _ refl refl
port_run Fifo value now s = refl
port_run (Direct code) value now s = refl
port_run Status value now s = either_run (bit 15 value) (geometry_error_cleared s.geometry) s.geometry _ refl refl
port_run Lengths value now s = refl
port_run (Position i) value now s = refl
port_run (Vector i) value now s = refl
port_run (Clip i) value now s = refl
port_run (VectorMatrix i) value now s = refl
port_run Unlisted value now s = refl

pub written_run : (s : GxState) (at value : ℕ) (now : Tick) → (gx_written s at value now).geometry.numbers.run ≡ s.geometry.numbers.run
written_run s at value now = port_run (gx_port at) value now s

swap_run : (b : Bool) (x y : GxState) (n : ℕ) → x.geometry.numbers.run ≡ n → y.geometry.numbers.run ≡ n → (if b then x else y).geometry.numbers.run ≡ n
swap_run true x y n first second = first
swap_run false x y n first second = second

pub swapped_run : (now : Tick) (s : GxState) → (gx_swapped now s).geometry.numbers.run ≡ s.geometry.numbers.run
unfolding swapped
swapped_run now s = swap_run s.swap_waits _ s _ refl refl
