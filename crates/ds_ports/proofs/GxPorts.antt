use Rattle.ds_ports.proofs.Words.{Bool, GeometryCommand, GxEntry, GxPort, GxState, List, None, Option, Some, Tick, [], arith, bit, false, gx_port}
use Rattle.ds_ports.proofs.Words.{gx_written, if◌then◌else◌, is_stalled, length, length-append, nat_le, nat_lt, refl, true, waiting_entries}
use Rattle.ds_ports.proofs.Words.{write_port, ℕ, ◌++◌, ◌+◌, ◌/◌, ◌^◌, ◌∷◌, ◌≡◌, ◌≤◌}
use Rattle.gx_matrix.specs.CommandTable.{command_of, command_row}
use Rattle.gx_geometry.specs.States.{GeometryState, Swapped, geometry_error_cleared, overflow_cleared}
use Rattle.gx_fifo.specs.declared.ports.GxPort.TheVariants.{Display, Fifo, Direct, Status, Lengths, Position, Vector, Clip, VectorMatrix, Unlisted}
use Rattle.gx_fifo.specs.PackedWords.{entry_added, FifoState, added_by, first_command, parameter_taken, unpacked, with_word}

-- What a write of one of geometry's registers leaves.

-- ---- no entry leaves

appended : (xs ys : List GxEntry) (n : ℕ) → n ≤ length xs → n ≤ length (xs ++ ys)
appended xs ys n h = omega (arith, h, length-append xs ys)

unpacked_longer : (entries : List GxEntry) (word n : ℕ) → n ≤ length entries → n ≤ length (unpacked entries word).entries
unfolding unpacked
unpacked_longer entries word n h = appended entries (added_by word) n h

parameter_longer : (first : Option GeometryCommand) (word : ℕ) (s : FifoState) → length s.entries ≤ length (parameter_taken first word s).entries
parameter_longer None word s = unpacked_longer s.entries word (length s.entries) (omega arith)
parameter_longer (Some command) word s = go (nat_le (command_row command).parameters (s.given + 1)) where
  entries : List GxEntry
  entries = s.entries ++ with_word command word ∷ []

  longer : length s.entries ≤ length (s.entries ++ with_word command word ∷ [])
  longer = appended s.entries (with_word command word ∷ []) (length s.entries) (omega arith)

  go : (b : Bool) → length s.entries
      ≤ length (if b then unpacked (s.entries ++ with_word command word ∷ []) (s.packed / 2 ^ 8)
      else record s { entries = s.entries ++ with_word command word ∷ []; given = s.given + 1 }).entries
  go true = unpacked_longer (s.entries ++ with_word command word ∷ []) (s.packed / 2 ^ 8) (length s.entries) longer
  go false = longer

entry_longer : (command : Option GeometryCommand) (word : ℕ) (s : FifoState) → length s.entries ≤ length (entry_added command word s).entries
entry_longer None word s = omega arith
entry_longer (Some command) word s = appended s.entries (with_word command word ∷ []) (length s.entries) (omega arith)

port_longer : (port : GxPort) (value : ℕ) (now : Tick) (s : GxState) → waiting_entries s ≤ waiting_entries (write_port port value now s)
unfolding write_port
port_longer Display value now s = omega arith
port_longer Fifo value now s = parameter_longer (first_command s.fifo.packed) value s.fifo
port_longer (Direct code) value now s = entry_longer (command_of code) value s.fifo
port_longer Status value now s = omega arith
port_longer Lengths value now s = omega arith
port_longer (Position i) value now s = omega arith
port_longer (Vector i) value now s = omega arith
port_longer (Clip i) value now s = omega arith
port_longer (VectorMatrix i) value now s = omega arith
port_longer Unlisted value now s = omega arith

still_more : (m n : ℕ) → m ≤ n → nat_lt 260 m ≡ true → nat_lt 260 n ≡ true
still_more m n l h = grind (arith, l, h)

pub written_longer : (s : GxState) (at value : ℕ) (now : Tick) → waiting_entries s ≤ waiting_entries (gx_written s at value now)
written_longer s at value now = port_longer (gx_port at) value now s

pub written_stalls : (s : GxState) (at value : ℕ) (now : Tick) → is_stalled s ≡ true → is_stalled (gx_written s at value now) ≡ true
written_stalls s at value now h = still_more (waiting_entries s) (waiting_entries (gx_written s at value now)) (written_longer s at value now) h

-- ---- the lists of the last swap stay

either_last : (b : Bool) (x y : GeometryState) (n : Swapped) → x.last ≡ n → y.last ≡ n → (if b then x else y).last ≡ n
either_last true x y n h k = h
either_last false x y n h k = k

last_by : (port : GxPort) (value : ℕ) (now : Tick) (s : GxState) → (write_port port value now s).geometry.last ≡ s.geometry.last
unfolding write_port
last_by Display value now s = either_last (bit 13 value) (overflow_cleared s.geometry) s.geometry s.geometry.last refl refl
last_by Fifo value now s = refl
last_by (Direct code) value now s = refl
last_by Status value now s = either_last (bit 15 value) (geometry_error_cleared s.geometry) s.geometry s.geometry.last refl refl
last_by Lengths value now s = refl
last_by (Position i) value now s = refl
last_by (Vector i) value now s = refl
last_by (Clip i) value now s = refl
last_by (VectorMatrix i) value now s = refl
last_by Unlisted value now s = refl

pub written_last : (s : GxState) (at value : ℕ) (now : Tick) → (gx_written s at value now).geometry.last ≡ s.geometry.last
written_last s at value now = last_by (gx_port at) value now s
