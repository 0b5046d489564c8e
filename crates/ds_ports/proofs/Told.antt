use Rattle.ds_ports.proofs.Words.{Bool, IpcState, IpcSync, IrqState, Nine, Proc, Raised, ReceiveFifoNotEmpty, SendFifoEmpty, Seven, ap, arith, bit}
use Rattle.ds_ports.proofs.Words.{bit_at, bit_at_or, bit_or, events, false, ipc_control_raised, ipc_receive_raised, ipc_send_raised, ipc_sync_raised}
use Rattle.ds_ports.proofs.Words.{irq_raised, max, other_proc, refl, same_from_bits, side_of, sym, true, ℕ, ◌&&◌, ◌+◌, ◌||◌, ◌∙◌, ◌≡◌}
use Rattle.ds_ports.specs.HappeningLaws.{IsTold, ipc_bits}
use Rattle.ds_base.specs.Processors.{raised_at}
use Rattle.ds_ipc.specs.Sides.{clear_empties, control_raised, enable_rises_on_empty, enable_rises_on_filled, is_empty, raised_if, receive_empties, receive_raised, send_raised, sync_raised}

-- What one processor tells the other by the IPC interrupts.

-- nothing
pub told_nothing : (s : IrqState) → IsTold s s
told_nothing s = record { ime = refl; ie = refl; if_ = refl }

-- one after another
pub told_on : (a b c : IrqState) → IsTold a b → IsTold b c → IsTold a c
told_on a b c one two = record { ime = two.ime ∙ one.ime; ie = two.ie ∙ one.ie; if_ = two.if_ ∙ one.if_ }

-- bits that are set among others, which are set afterwards
or_within : (word some all : ℕ) → bit_or some all ≡ all → bit_or (bit_or word some) all ≡ bit_or word all
or_within word some all h =
    same_from_bits (bit_or (bit_or word some) all) (bit_or word all) (λ i.
    let a = bit_at_or (bit_or word some) all i in
    let b = bit_at_or word some i in
    let c = bit_at_or word all i in
    let d : bit_at all i ≡ max (bit_at some i) (bit_at all i) = ap (λ (n : ℕ). bit_at n i) (sym h) ∙ bit_at_or some all i in
    omega (arith, a, b, c, d))

-- bits of IPC interrupts
abbrev pub AreIpcBits : ℕ → Type 0
AreIpcBits bits = bit_or (events bits) ipc_bits ≡ ipc_bits

pub raised_told : (s : IrqState) (bits : ℕ) → AreIpcBits bits → IsTold s (irq_raised s bits)
raised_told s bits h = record { ime = refl; ie = refl; if_ = or_within s.if_ (events bits) ipc_bits h }

-- ---- what the IPC raises

abbrev pub AreIpcAtBoth : Raised → Type 0
AreIpcAtBoth raised = AreIpcBits raised.nine × AreIpcBits raised.seven

at_one : (proc : Proc) (bits : ℕ) → AreIpcBits bits → AreIpcAtBoth (raised_at proc bits)
at_one Nine bits h = (h, refl)
at_one Seven bits h = (refl, h)

if_sync : (b : Bool) → AreIpcBits (raised_if b IpcSync)
if_sync true = refl
if_sync false = refl

if_empty : (b : Bool) → AreIpcBits (raised_if b SendFifoEmpty)
if_empty true = refl
if_empty false = refl

if_filled : (b : Bool) → AreIpcBits (raised_if b ReceiveFifoNotEmpty)
if_filled true = refl
if_filled false = refl

if_either : (a b : Bool) → AreIpcBits (raised_if a SendFifoEmpty + raised_if b ReceiveFifoNotEmpty)
if_either true true = refl
if_either true false = refl
if_either false true = refl
if_either false false = refl

pub sync_ipc : (s : IpcState) (proc : Proc) (value : ℕ) → AreIpcAtBoth (ipc_sync_raised s proc value)
sync_ipc s proc value =
    let other = side_of s (other_proc proc) in at_one (other_proc proc) (sync_raised other value) (if_sync (bit 13 value && other.sync_raises))

pub control_ipc : (s : IpcState) (proc : Proc) (value : ℕ) → AreIpcAtBoth (ipc_control_raised s proc value)
control_ipc s proc value =
    let own = side_of s proc in
    let other = side_of s (other_proc proc) in
    at_one proc (control_raised own other value)
    (if_either (enable_rises_on_empty own value || (bit 2 value && clear_empties own value)) (enable_rises_on_filled own other value))

pub send_ipc : (s : IpcState) (proc : Proc) → AreIpcAtBoth (ipc_send_raised s proc)
send_ipc s proc =
    let own = side_of s proc in
    let other = side_of s (other_proc proc) in
    at_one (other_proc proc) (send_raised own other) (if_filled (own.enabled && is_empty own.words && other.filled_raises))

pub receive_ipc : (s : IpcState) (proc : Proc) → AreIpcAtBoth (ipc_receive_raised s proc)
receive_ipc s proc =
    let own = side_of s proc in
    let other = side_of s (other_proc proc) in
    at_one (other_proc proc) (receive_raised own other) (if_empty (receive_empties own other && other.empty_raises))
