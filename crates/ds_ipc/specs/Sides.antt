use Rattle.std.specs.Prelude.{ℕ, ◌<◌, ◌≤◌, ◌+◌, ◌*◌, ◌^◌, ◌==◌, ◌&&◌, ◌||◌, not, if◌then◌else◌, Bool, true, false, List, [], ◌∷◌, ◌++◌, length, drop, slice_index_or, All}
use Rattle.ds_base.specs.Bits.{bit, bits, flag}
use Rattle.ds_base.specs.Interrupts.{interrupt_bit}
use Rattle.ds_base.specs.declared.interrupts.Interrupt.{Interrupt}
use Rattle.ds_base.specs.declared.interrupts.Interrupt.TheVariants.{IpcSync, SendFifoEmpty, ReceiveFifoNotEmpty}

-- What one processor keeps of the two ways to the other (GBATEK, "DS Inter Process Communication (IPC)"). A receive FIFO is the other side's
-- send FIFO.
pub record Side : Type 0 where
  -- the four bits that it passes by IPCSYNC
  pub passed : ℕ
  -- IPCSYNC bit 14: the other processor may raise interrupt 16 here
  pub sync_raises : Bool
  -- the words that it sent and that wait, the oldest first
  pub words : List ℕ
  -- the word that it received last
  pub last : ℕ
  -- IPCFIFOCNT bit 14: it sent to a full FIFO or received from an empty one
  pub error : Bool
  -- IPCFIFOCNT bit 15: it may send and receive
  pub enabled : Bool
  -- IPCFIFOCNT bit 2: interrupt 17 where its send FIFO becomes empty
  pub empty_raises : Bool
  -- IPCFIFOCNT bit 10: interrupt 18 where its receive FIFO stops being empty
  pub filled_raises : Bool

-- numbers of 32 bits
abbrev pub AreWords : List ℕ → Type 0
AreWords words = All (λ word. word < 2 ^ 32) words

-- what holds of a side at every time: its FIFO holds at most 16 words, and its numbers have 4 and 32 bits (GBATEK, "DS Inter Process
-- Communication (IPC)")
pub record IsSide (s : Side) : Type 0 where
  pub at_most : length s.words ≤ 16
  pub words : AreWords s.words
  pub passed : s.passed < 2 ^ 4
  pub last : s.last < 2 ^ 32

-- all is 0 at boot (our choice)
abbrev pub side_at_boot : Side
side_at_boot =
    record { passed = 0; sync_raises = false; words = []; last = 0; error = false; enabled = false; empty_raises = false; filled_raises = false }

abbrev pub is_empty : List ℕ → Bool
is_empty words = length words == 0

abbrev pub is_full : List ℕ → Bool
is_full words = length words == 16

-- the bit of IF that is raised, if it is
abbrev pub raised_if : Bool → Interrupt → ℕ
raised_if true interrupt = interrupt_bit interrupt
raised_if false interrupt = 0

-- IPCSYNC as it reads: the other side's four bits, the own ones, and bit 14 (GBATEK, "IPCSYNC")
abbrev pub sync_word : Side → Side → ℕ
sync_word own other = other.passed + own.passed * 2 ^ 8 + flag 14 own.sync_raises

-- the bits of it that stay where a write doesn't cover them: those that it passes, and bit 14; bit 13 acts
abbrev pub sync_kept : Side → ℕ
sync_kept own = own.passed * 2 ^ 8 + flag 14 own.sync_raises

-- IPCSYNC is written
abbrev pub sync_written : Side → ℕ → Side
sync_written own value = record own { passed = bits 8 4 value; sync_raises = bit 14 value }

-- what a write of IPCSYNC raises on the other side: IPC sync, where it has bit 13 and the other side allows it (GBATEK, "IPCSYNC")
abbrev pub sync_raised : Side → ℕ → ℕ
sync_raised other value = raised_if (bit 13 value && other.sync_raises) IpcSync

-- IPCFIFOCNT as it reads; bit 3 clears and reads as 0 (GBATEK, "IPCFIFOCNT")
abbrev pub control_word : Side → Side → ℕ
control_word own other =
    flag 0 (is_empty own.words) + flag 1 (is_full own.words) + flag 2 own.empty_raises
    + flag 8 (is_empty other.words) + flag 9 (is_full other.words) + flag 10 own.filled_raises
    + flag 14 own.error + flag 15 own.enabled

-- the bits of it that stay where a write doesn't cover them: the three enables; bits 3 and 14 act
abbrev pub control_kept : Side → ℕ
control_kept own = flag 2 own.empty_raises + flag 10 own.filled_raises + flag 15 own.enabled

-- IPCFIFOCNT is written: the enables, a 1 in bit 14 takes the error away, and a 1 in bit 3 empties the send FIFO
abbrev pub fifo_control_written : Side → ℕ → Side
fifo_control_written own value = record own {
  words = (if bit 3 value then [] else own.words);
  error = own.error && not (bit 14 value);
  enabled = bit 15 value;
  empty_raises = bit 2 value;
  filled_raises = bit 10 value;
}

-- the other side forgets the word that it received last, where its receive FIFO is cleared (our choice)
abbrev pub control_forgotten : Side → ℕ → Side
control_forgotten other value = if bit 3 value then record other { last = 0 } else other

-- The send FIFO's interrupt has two causes (GBATEK, "IPCFIFOCNT" bit 2): its enable goes from 0 to 1 while the FIFO is empty, or the FIFO
-- becomes empty while the enable is set. It does so by a clear, or where the other side receives its last word. The enables of a write
-- count first, the clear after them (our choice).
abbrev pub enable_rises_on_empty : Side → ℕ → Bool
enable_rises_on_empty own value = bit 2 value && not own.empty_raises && is_empty own.words

abbrev pub clear_empties : Side → ℕ → Bool
clear_empties own value = bit 3 value && not (is_empty own.words)

abbrev pub receive_empties : Side → Side → Bool
receive_empties own other = own.enabled && length other.words == 1

-- the receive FIFO's interrupt, of a write: its enable goes from 0 to 1 while the FIFO isn't empty (GBATEK, "IPCFIFOCNT" bit 10)
abbrev pub enable_rises_on_filled : Side → Side → ℕ → Bool
enable_rises_on_filled own other value = bit 10 value && not own.filled_raises && not (is_empty other.words)

-- what a write of IPCFIFOCNT raises on its own side
abbrev pub control_raised : Side → Side → ℕ → ℕ
control_raised own other value =
    raised_if (enable_rises_on_empty own value || (bit 2 value && clear_empties own value)) SendFifoEmpty
    + raised_if (enable_rises_on_filled own other value) ReceiveFifoNotEmpty

-- A word is sent (GBATEK, "IPCFIFOSEND"). To a full FIFO it is lost, and the error is set; a disabled side sends nothing.
abbrev pub sent : Side → ℕ → Side
sent own word =
    if not own.enabled then own
    else (if is_full own.words then record own { error = true }
    else record own { words = own.words ++ word ∷ [] })

-- what a send raises on the other side: its receive FIFO stops being empty, where this is the first word there and it asks to be told,
-- whether it may receive or not (GBATEK, "IPCFIFOCNT" bit 10)
abbrev pub send_raised : Side → Side → ℕ
send_raised own other = raised_if (own.enabled && is_empty own.words && other.filled_raises) ReceiveFifoNotEmpty

-- What a receive gives (GBATEK, "IPCFIFORECV"): the oldest word of the other side's FIFO, or the one received last where that is empty, on a
-- disabled side too.
abbrev pub received_word : Side → Side → ℕ
received_word own other = slice_index_or other.words 0 own.last

-- A word is received: it leaves the other side's FIFO, and from an empty one the error is set; a disabled side takes nothing.
abbrev pub received : Side → Side → Side
received own other =
    if not own.enabled then own
    else (if is_empty other.words then record own { error = true }
    else record own { last = received_word own other })

abbrev pub oldest_taken : Side → Side → Side
oldest_taken own other = if own.enabled then record other { words = drop 1 other.words } else other

-- what a receive raises on the other side: its send FIFO becomes empty, where this is its last word and it asks to be told
abbrev pub receive_raised : Side → Side → ℕ
receive_raised own other = raised_if (receive_empties own other && other.empty_raises) SendFifoEmpty
