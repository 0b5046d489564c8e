use Rattle.ds_ports.proofs.Words.{Bool, CardData, DmaNine, Ie, If, Ime, IoState, IpcState, Ipcfifocnt, Ipcfiforecv, Ipcfifosend, Ipcsync, IrqNine}
use Rattle.ds_ports.proofs.Words.{Keycnt, Keys, List, Nine, Proc, Raised, Register, Released, Seven, Tick, UnitPart, Word, [], after_write, among, ap}
use Rattle.ds_ports.proofs.Words.{arith, bit_and, bit_at, bit_at-pow_other, bit_at_and, bit_at_not, bit_at_or, bit_not, bit_or, both, both_raised}
use Rattle.ds_ports.proofs.Words.{both_true, changes_some, data_port_at, equal, events, false, gx_level, if_written, if◌then◌else◌, interrupt_bit}
use Rattle.ds_ports.proofs.Words.{ipc_control_raised, ipc_control_written, ipc_receive_raised, ipc_received, ipc_send_raised, ipc_sent}
use Rattle.ds_ports.proofs.Words.{ipc_sync_raised, ipc_sync_written, is_equal, is_settled, kept_keycnt, keycnt_written, keys_hold, level, max}
use Rattle.ds_ports.proofs.Words.{meaning_of, moves_dues, not, processor_io_raised, raised_to, read_raised, refl, same_from_bits, subst, sym, true}
use Rattle.ds_ports.proofs.Words.{w32, word_received, word_sent, ℕ, ◌%◌, ◌&&◌, ◌<◌, ◌==◌, ◌^◌, ◌∙◌, ◌∷◌, ◌≡◌}
use Rattle.std.proofs.lemmas.Nat.{and_le_r}
use Rattle.ds_ports.specs.Touches as touches
use Rattle.ds_ports.proofs.Passed.{first_false, stays_by_row}

-- What leaves nothing to settle where nothing was: reads, and writes that move no due tick. Events that are raised or acknowledged never touch the level's bit.

pub or_swapped : (x e l : ℕ) → bit_or (bit_or x e) l ≡ bit_or (bit_or x l) e
or_swapped x e l = same_from_bits (bit_or (bit_or x e) l) (bit_or (bit_or x l) e) (λ i.
    let a = bit_at_or (bit_or x e) l i in
    let b = bit_at_or x e i in
    let c = bit_at_or (bit_or x l) e i in
    let d = bit_at_or x l i in
    omega (arith, a, b, c, d))

pub and_through : (x b m : ℕ) → bit_and (bit_or x (bit_and b m)) m ≡ bit_or (bit_and x m) (bit_and b m)
and_through x b m = same_from_bits (bit_and (bit_or x (bit_and b m)) m) (bit_or (bit_and x m) (bit_and b m)) (λ i.
    let a = bit_at_and (bit_or x (bit_and b m)) m i in
    let c = bit_at_or x (bit_and b m) i in
    let d = bit_at_and b m i in
    let e = bit_at_or (bit_and x m) (bit_and b m) i in
    let f = bit_at_and x m i in
    omega (arith, a, c, d, e, f))

-- the level's bit of IF is as it would be told
abbrev is_told : ℕ → Bool → Bool
is_told x on = (if on then bit_or x level else events x) == x

raised_told : (x b : ℕ) (on : Bool) → is_told x on ≡ true → is_told (bit_or x (events b)) on ≡ true
raised_told x b true h =
    is_equal (bit_or (bit_or x (events b)) level) (bit_or x (events b)) (or_swapped x (events b) level ∙ ap (λ (n : ℕ). bit_or n (events b)) (equal (bit_or x level) x h))
raised_told x b false h =
    is_equal (events (bit_or x (events b))) (bit_or x (events b)) (and_through x b (bit_not w32 level) ∙ ap (λ (n : ℕ). bit_or n (events b)) (equal (events x) x h))

-- an acknowledgement leaves the level's bit

or_through : (x z l : ℕ) → bit_or (bit_and x z) l ≡ bit_and (bit_or x l) (bit_or z l)
or_through x z l = same_from_bits (bit_or (bit_and x z) l) (bit_and (bit_or x l) (bit_or z l)) (λ i.
    let a = bit_at_or (bit_and x z) l i in
    let b = bit_at_and x z i in
    let c = bit_at_and (bit_or x l) (bit_or z l) i in
    let d = bit_at_or x l i in
    let e = bit_at_or z l i in
    omega (arith, a, b, c, d, e))

and_swapped : (x z m : ℕ) → bit_and (bit_and x z) m ≡ bit_and (bit_and x m) z
and_swapped x z m = same_from_bits (bit_and (bit_and x z) m) (bit_and (bit_and x m) z) (λ i.
    let a = bit_at_and (bit_and x z) m i in
    let b = bit_at_and x z i in
    let c = bit_at_and (bit_and x m) z i in
    let d = bit_at_and x m i in
    omega (arith, a, b, c, d))

events_small : (b : ℕ) → events b < 2 ^ 32
events_small b = (let l = and_le_r b (bit_not w32 level) in omega (arith, l))

no_level : (b : ℕ) → bit_at (events b) 21 ≡ 0
no_level b = (let a = bit_at_and b (bit_not w32 level) 21 in omega (arith, a))

stays_set : (b i : ℕ) → max (bit_at (bit_not w32 (events b)) i) (bit_at level i) ≡ bit_at (bit_not w32 (events b)) i
stays_set b i = go (i == 21) refl where
  go : (c : Bool) → (i == 21) ≡ c → max (bit_at (bit_not w32 (events b)) i) (bit_at level i) ≡ bit_at (bit_not w32 (events b)) i
  go true e = subst (λ (k : ℕ). max (bit_at (bit_not w32 (events b)) k) (bit_at level k) ≡ bit_at (bit_not w32 (events b)) k) (sym (equal i 21 e))
      (let a = bit_at_not w32 (events b) 21 (events_small b) (omega arith) in let n = no_level b in omega (arith, a, n))
  go false e = (let n = bit_at-pow_other 21 i (λ same. grind (arith, e, same)) in omega (arith, n))

kept_within : (b : ℕ) → bit_or (bit_not w32 (events b)) level ≡ bit_not w32 (events b)
kept_within b = same_from_bits (bit_or (bit_not w32 (events b)) level) (bit_not w32 (events b)) (λ i. bit_at_or (bit_not w32 (events b)) level i ∙ stays_set b i)

acked_told : (x b : ℕ) (on : Bool) → is_told x on ≡ true → is_told (bit_and x (bit_not w32 (events b))) on ≡ true
acked_told x b true h =
    is_equal (bit_or (bit_and x (bit_not w32 (events b))) level) (bit_and x (bit_not w32 (events b)))
    (or_through x (bit_not w32 (events b)) level ∙ ap (λ (n : ℕ). bit_and n (bit_or (bit_not w32 (events b)) level)) (equal (bit_or x level) x h)
    ∙ ap (λ (n : ℕ). bit_and x n) (kept_within b))
acked_told x b false h =
    is_equal (events (bit_and x (bit_not w32 (events b)))) (bit_and x (bit_not w32 (events b)))
    (and_swapped x (bit_not w32 (events b)) (bit_not w32 level) ∙ ap (λ (n : ℕ). bit_and n (bit_not w32 (events b))) (equal (events x) x h))

-- bits are raised at ARM9
nine_raised : (u : IoState) (n : ℕ) → is_settled u ≡ true → is_settled (record u { nine = processor_io_raised u.nine n }) ≡ true
nine_raised u n h =
    let parts = both _ _ h in
    both_true _ _ (raised_told u.nine.irq.if_ n (gx_level u.gx) parts.0) parts.1

-- some are acknowledged there
nine_acked : (u : IoState) (word : ℕ) → is_settled u ≡ true → is_settled (record u { nine = if_written u.nine word }) ≡ true
nine_acked u word h =
    let parts = both _ _ h in
    both_true _ _ (acked_told u.nine.irq.if_ word (gx_level u.gx) parts.0) parts.1

passed_raised : (u : IoState) (ipc : IpcState) (raised : Raised) → is_settled u ≡ true → is_settled (both_raised (record u { ipc = ipc }) raised) ≡ true
passed_raised u ipc raised h = nine_raised u raised.nine h

pub reads_leave_settled : (proc : Proc) (now : Tick) (u : IoState) (register : Register) → is_settled u ≡ true
    → is_settled ((meaning_of register).after_read proc now u) ≡ true
reads_leave_settled proc now u Ipcfiforecv h = passed_raised u (ipc_received u.ipc proc) (ipc_receive_raised u.ipc proc) h
reads_leave_settled Nine now u CardData h = nine_raised u (raised_to Nine (read_raised u.card Nine data_port_at Word)) h
reads_leave_settled Seven now u CardData h = h
reads_leave_settled proc now u _ h = h

keys_settled : (u : IoState) (value : ℕ) → is_settled u ≡ true → is_settled (record u { nine = keycnt_written u.nine u.pressed value }) ≡ true
keys_settled u value h = go (keys_hold (kept_keycnt value) u.pressed) where
  go : (b : Bool) → is_settled (record u { nine = if b then processor_io_raised (record u.nine { keycnt = kept_keycnt value }) (interrupt_bit Keys) else record u.nine { keycnt = kept_keycnt value } }) ≡ true
  go true = nine_raised u (interrupt_bit Keys) h
  go false = h

-- what is left to settle depends on ARM9's interrupt words and channels, on geometry and on what a stall left
abbrev settled_parts : List UnitPart
settled_parts = IrqNine ∷ touches.Geometry ∷ Released ∷ DmaNine ∷ []

by_row : (proc : Proc) (now : Tick) (u : IoState) (register : Register) (number value : ℕ) → (changes_some (among settled_parts) proc register && not (moves_dues register)) ≡ false
    → moves_dues register ≡ false → is_settled u ≡ true → is_settled (after_write proc now u register number value) ≡ true
by_row proc now u register number value row none h =
    stays_by_row proc now u register number value settled_parts is_settled (λ t x. refl) (first_false (changes_some (among settled_parts) proc register) (moves_dues register) row none) ∙ h

pub writes_leave_settled : (proc : Proc) (now : Tick) (u : IoState) (register : Register) (number value : ℕ) → moves_dues register ≡ false → is_settled u ≡ true
    → is_settled (after_write proc now u register number value) ≡ true
writes_leave_settled Nine now u If number value none h = nine_acked u value h
writes_leave_settled Nine now u Keycnt number value none h = keys_settled u (value % 2 ^ 16) h
writes_leave_settled Nine now u Ime number value none h = h
writes_leave_settled Nine now u Ie number value none h = h
writes_leave_settled proc now u Ipcsync number value none h = passed_raised u (ipc_sync_written u.ipc proc (value % 2 ^ 16)) (ipc_sync_raised u.ipc proc (value % 2 ^ 16)) h
writes_leave_settled proc now u Ipcfifocnt number value none h = passed_raised u (ipc_control_written u.ipc proc (value % 2 ^ 16)) (ipc_control_raised u.ipc proc (value % 2 ^ 16)) h
writes_leave_settled proc now u Ipcfifosend number value none h = passed_raised u (ipc_sent u.ipc proc value) (ipc_send_raised u.ipc proc) h
writes_leave_settled proc now u Ipcfiforecv number value none h = h
writes_leave_settled Nine now u register number value none h = by_row Nine now u register number value refl none h
writes_leave_settled Seven now u register number value none h = by_row Seven now u register number value refl none h

-- the words of the FIFOs
pub received_settled : (proc : Proc) (u : IoState) → is_settled u ≡ true → is_settled (word_received proc u) ≡ true
received_settled proc u h = passed_raised u (ipc_received u.ipc proc) (ipc_receive_raised u.ipc proc) h

pub sent_settled : (proc : Proc) (u : IoState) (word : ℕ) → is_settled u ≡ true → is_settled (word_sent proc u word) ≡ true
sent_settled proc u word h = passed_raised u (ipc_sent u.ipc proc word) (ipc_send_raised u.ipc proc) h
