use Rattle.ds_ports.proofs.Words.{Banks, Bool, CardData, DisplayHalf, DisplayWord, DmaDue, DmaState, Due, Half, IoState, Ipcfiforecv, List, Nine}
use Rattle.ds_ports.proofs.Words.{None, Option, Proc, ProcessorIoState, Register, Seven, Some, Tick, UnitPart, Video, Word, [], after_write, among}
use Rattle.ds_ports.proofs.Words.{ap, arith, beyond, card_due, changes_some, channel_at, channel_due, dma_due, dma_due_in, due_with, false}
use Rattle.ds_ports.proofs.Words.{first_acting_io_due, first_with, if◌then◌else◌, io_due, io_graft, io_of, is_some, keys_hold, keys_pressed}
use Rattle.ds_ports.proofs.Words.{keys_told, meaning_of, moves_dues, moving_parts, not, ready, refl, suc, timer_at, timer_due, true, with_halted}
use Rattle.ds_ports.proofs.Words.{with_io_of, word_received, word_sent, ℕ, ◌&&◌, ◌++◌, ◌+◌, ◌==◌, ◌∙◌, ◌∷◌, ◌≡◌, ◌≢◌}
use Rattle.ds_runs.specs.OrderLaws.{first_from, due_with_rank, earlier}
use Rattle.ds_runs.proofs.Firsts.{first_of_append}
use Rattle.ds_ports.specs.Touches.{Display}
use Rattle.ds_ports.proofs.DisplayPorts.{written_scan}
use Rattle.ds_ports.proofs.Passed.{first_false, stays_by_row}
use Rattle.ds_runs.proofs.AllActors.{actor_rank}
use Rattle.ds_runs.specs.declared.actors.Actor.TheVariants as who

-- The first of what is due behind the ports: how it is found; and what leaves the first of what acts as it is.

-- ---- a processor's channels, of which one is due

abbrev ranked : ℕ → Option DmaDue → Option Due
ranked rank None = None
ranked rank (Some due) = Some (record { tick = due.tick; rank = rank + due.channel })

abbrev of_number : ℕ → Option DmaDue → Option Tick
of_number which None = None
of_number which (Some due) = if due.channel == which then Some due.tick else None

at_first : (rank : ℕ) (d : Option Tick) → first_from rank (d ∷ None ∷ None ∷ None ∷ []) ≡ ranked rank (due_with 0 d)
at_first rank None = refl
at_first rank (Some t) = (let e : rank ≡ rank + 0 = omega arith in ap (λ (r : ℕ). due_with_rank r (Some t)) e)

at_second : (rank : ℕ) (d : Option Tick) → first_from rank (None ∷ d ∷ None ∷ None ∷ []) ≡ ranked rank (due_with 1 d)
at_second rank None = refl
at_second rank (Some t) = (let e : suc rank ≡ rank + 1 = omega arith in ap (λ (r : ℕ). due_with_rank r (Some t)) e)

at_third : (rank : ℕ) (d : Option Tick) → first_from rank (None ∷ None ∷ d ∷ None ∷ []) ≡ ranked rank (due_with 2 d)
at_third rank None = refl
at_third rank (Some t) = (let e : suc (suc rank) ≡ rank + 2 = omega arith in ap (λ (r : ℕ). due_with_rank r (Some t)) e)

at_fourth : (rank : ℕ) (d : Option Tick) → first_from rank (None ∷ None ∷ None ∷ d ∷ []) ≡ ranked rank (due_with 3 d)
at_fourth rank None = refl
at_fourth rank (Some t) = (let e : suc (suc (suc rank)) ≡ rank + 3 = omega arith in ap (λ (r : ℕ). due_with_rank r (Some t)) e)

abbrev only : ℕ → (ℕ → Option Tick) → ℕ → Option Tick
only least f which = if which == least then f which else None

at_least : (rank : ℕ) (f : ℕ → Option Tick) (a b c : Bool)
    → (let least : ℕ = if a then 0 else (if b then 1 else (if c then 2 else 3)) in
    first_from rank (only least f 0 ∷ only least f 1 ∷ only least f 2 ∷ only least f 3 ∷ []) ≡ ranked rank (due_with least (f least)))
at_least rank f true b c = at_first rank (f 0)
at_least rank f false true c = at_second rank (f 1)
at_least rank f false false true = at_third rank (f 2)
at_least rank f false false false = at_fourth rank (f 3)

pub first_channel : (rank : ℕ) (s : DmaState) → first_from rank (channel_due s 0 ∷ channel_due s 1 ∷ channel_due s 2 ∷ channel_due s 3 ∷ []) ≡ ranked rank (dma_due s)
first_channel rank s =
    at_least rank (λ which. ready s.last (channel_at s.channels which)) (is_some (channel_at s.channels 0).trigger) (is_some (channel_at s.channels 1).trigger)
    (is_some (channel_at s.channels 2).trigger)

-- ---- the first of all

pub first_by_parts : (geometry : Option Tick) (u : IoState) → first_with geometry u
    ≡ earlier (due_with_rank (actor_rank who.Video) (io_due Video u))
    (earlier (first_from (actor_rank (who.Timer Nine 0)) (timer_due (timer_at u.nine.timers 0) ∷ timer_due (timer_at u.nine.timers 1) ∷ timer_due (timer_at u.nine.timers 2) ∷ timer_due (timer_at u.nine.timers 3) ∷ []))
    (earlier (first_from (actor_rank (who.Timer Seven 0)) (timer_due (timer_at u.seven.timers 0) ∷ timer_due (timer_at u.seven.timers 1) ∷ timer_due (timer_at u.seven.timers 2) ∷ timer_due (timer_at u.seven.timers 3) ∷ []))
    (earlier (due_with_rank (actor_rank who.Divider) u.divider.due)
    (earlier (due_with_rank (actor_rank who.SquareRoot) u.root.due)
    (earlier (due_with_rank (actor_rank who.Geometry) geometry)
    (earlier (due_with_rank (actor_rank who.Card) (card_due u.card))
    (earlier (first_from (actor_rank (who.Dma Nine 0)) (dma_due_in u Nine 0 ∷ dma_due_in u Nine 1 ∷ dma_due_in u Nine 2 ∷ dma_due_in u Nine 3 ∷ []))
    (first_from (actor_rank (who.Dma Seven 0)) (channel_due u.seven.dma 0 ∷ channel_due u.seven.dma 1 ∷ channel_due u.seven.dma 2 ∷ channel_due u.seven.dma 3 ∷ [])))))))))
unfolding first_with
first_by_parts geometry u =
    let n : List (Option Tick) = timer_due (timer_at u.nine.timers 0) ∷ timer_due (timer_at u.nine.timers 1) ∷ timer_due (timer_at u.nine.timers 2) ∷ timer_due (timer_at u.nine.timers 3) ∷ [] in
    let s : List (Option Tick) = timer_due (timer_at u.seven.timers 0) ∷ timer_due (timer_at u.seven.timers 1) ∷ timer_due (timer_at u.seven.timers 2) ∷ timer_due (timer_at u.seven.timers 3) ∷ [] in
    let nd : List (Option Tick) = dma_due_in u Nine 0 ∷ dma_due_in u Nine 1 ∷ dma_due_in u Nine 2 ∷ dma_due_in u Nine 3 ∷ [] in
    let sd : List (Option Tick) = channel_due u.seven.dma 0 ∷ channel_due u.seven.dma 1 ∷ channel_due u.seven.dma 2 ∷ channel_due u.seven.dma 3 ∷ [] in
    let maths : List (Option Tick) = u.divider.due ∷ u.root.due ∷ geometry ∷ card_due u.card ∷ nd ++ sd in
    let video : Option Due = due_with_rank (actor_rank who.Video) (io_due Video u) in
    ap (λ (d : Option Due). earlier video d) (first_of_append (actor_rank (who.Timer Nine 0)) n (s ++ maths)
    ∙ ap (λ (d : Option Due). earlier (first_from (actor_rank (who.Timer Nine 0)) n) d) (first_of_append (actor_rank (who.Timer Seven 0)) s maths)
    ∙ ap (λ (d : Option Due). earlier (first_from (actor_rank (who.Timer Nine 0)) n) (earlier (first_from (actor_rank (who.Timer Seven 0)) s) (earlier (due_with_rank (actor_rank who.Divider) u.divider.due) (earlier (due_with_rank (actor_rank who.SquareRoot) u.root.due) (earlier (due_with_rank (actor_rank who.Geometry) geometry) (earlier (due_with_rank (actor_rank who.Card) (card_due u.card)) d)))))) (first_of_append (actor_rank (who.Dma Nine 0)) nd sd))

-- ---- what leaves the first that acts

same : (u v : IoState) → v.video.scan ≡ u.video.scan → v.nine.timers ≡ u.nine.timers → v.nine.dma ≡ u.nine.dma → v.seven.timers ≡ u.seven.timers → v.seven.dma ≡ u.seven.dma
    → v.divider ≡ u.divider → v.root ≡ u.root → v.gx ≡ u.gx → v.released ≡ u.released → v.card ≡ u.card → first_acting_io_due v ≡ first_acting_io_due u
unfolding first_acting_io_due
same u v scan a b c d e f g r k = rw (scan, a, b, c, d, e, f, g, r, k) refl

-- of a processor's own the timers and the channels stay
abbrev IsStill : ProcessorIoState → ProcessorIoState → Type 0
IsStill old new = (new.timers ≡ old.timers) × (new.dma ≡ old.dma)

told_still : (processor_io : ProcessorIoState) (pressed : ℕ) → IsStill processor_io (keys_told processor_io pressed)
told_still processor_io pressed = go (keys_hold processor_io.keycnt pressed) refl where
  go : (b : Bool) → keys_hold processor_io.keycnt pressed ≡ b → IsStill processor_io (keys_told processor_io pressed)
  go true e = rw e (refl, refl)
  go false e = rw e (refl, refl)

still : (proc : Proc) (u : IoState) (processor_io : ProcessorIoState) → IsStill (io_of u proc) processor_io → first_acting_io_due (with_io_of proc u processor_io) ≡ first_acting_io_due u
still Nine u processor_io h = same u (with_io_of Nine u processor_io) refl h.0 h.1 refl refl refl refl refl refl refl
still Seven u processor_io h = same u (with_io_of Seven u processor_io) refl refl refl h.0 h.1 refl refl refl refl refl

pub vram_moves_none : (u : IoState) (vram : Banks) → first_acting_io_due (record u { vram = vram }) ≡ first_acting_io_due u
unfolding first_acting_io_due
vram_moves_none u vram = refl

pub halts_move_none : (proc : Proc) (u : IoState) (halted : Bool) → first_acting_io_due (with_halted proc u halted) ≡ first_acting_io_due u
halts_move_none proc u halted = still proc u (record (io_of u proc) { halted = halted }) (refl, refl)

pub keys_move_none : (u : IoState) (pressed : ℕ) → first_acting_io_due (keys_pressed u pressed) ≡ first_acting_io_due u
keys_move_none u pressed =
    let n = told_still u.nine pressed in
    let s = told_still u.seven pressed in
    same u (keys_pressed u pressed) refl n.0 n.1 s.0 s.1 refl refl refl refl refl

-- a read that takes none of the card's words
pub reads_move_none : (proc : Proc) (now : Tick) (u : IoState) (register : Register) → register ≢ CardData
    → first_acting_io_due ((meaning_of register).after_read proc now u) ≡ first_acting_io_due u
unfolding first_acting_io_due
reads_move_none proc now u CardData other = absurd (other refl)
reads_move_none proc now u Ipcfiforecv other = refl
reads_move_none proc now u _ other = refl

-- what is due depends on the parts that move it, and on the display
abbrev due_parts : List UnitPart
due_parts = Display ∷ moving_parts

dues_blind : (t u : IoState) → first_acting_io_due (io_graft (beyond due_parts) t u) ≡ first_acting_io_due u
unfolding first_acting_io_due
dues_blind t u = refl

by_row : (proc : Proc) (now : Tick) (u : IoState) (register : Register) (number value : ℕ) → (changes_some (among due_parts) proc register && not (moves_dues register)) ≡ false
    → moves_dues register ≡ false → first_acting_io_due (after_write proc now u register number value) ≡ first_acting_io_due u
by_row proc now u register number value row none =
    stays_by_row proc now u register number value due_parts first_acting_io_due dues_blind (first_false (changes_some (among due_parts) proc register) (moves_dues register) row none)

pub writes_move_none : (proc : Proc) (now : Tick) (u : IoState) (register : Register) (number value : ℕ) → moves_dues register ≡ false
    → first_acting_io_due (after_write proc now u register number value) ≡ first_acting_io_due u
writes_move_none proc now u DisplayHalf number value none = same u (after_write proc now u DisplayHalf number value) (written_scan proc u.video number Half value) refl refl refl refl refl refl refl refl refl
writes_move_none proc now u DisplayWord number value none = same u (after_write proc now u DisplayWord number value) (written_scan proc u.video number Word value) refl refl refl refl refl refl refl refl refl
writes_move_none Nine now u register number value none = by_row Nine now u register number value refl none
writes_move_none Seven now u register number value none = by_row Seven now u register number value refl none

-- the words of the FIFOs
pub received_moves_none : (proc : Proc) (u : IoState) → first_acting_io_due (word_received proc u) ≡ first_acting_io_due u
unfolding first_acting_io_due
received_moves_none proc u = refl

pub sent_moves_none : (proc : Proc) (u : IoState) (word : ℕ) → first_acting_io_due (word_sent proc u word) ≡ first_acting_io_due u
unfolding first_acting_io_due
sent_moves_none proc u word = refl
