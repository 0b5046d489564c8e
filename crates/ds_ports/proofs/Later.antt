use Rattle.ds_ports.proofs.Words.{AreReadyLater, AreTimers, AreWaiting, Auxspicnt, CardData, CardState, CardWord, Control, DisplayHalf, DisplayWord}
use Rattle.ds_ports.proofs.Words.{DivDenom, DivNumer, Divcnt, DividerState, Dma, DmaPort, Dmacnt, Dmadad, Dmasad, Geometry, GxCommand, GxState}
use Rattle.ds_ports.proofs.Words.{GxWord, Half, Haltcnt, Ie, If, Ime, IoState, IpcState, Ipcfifocnt, Ipcfiforecv, Ipcfifosend, Ipcsync, IsDma, IsIo}
use Rattle.ds_ports.proofs.Words.{IsLater, IsNumbered, IsProcessorIo, IsSlot, IsUnchanged, Keycnt, List, Nine, None, Option, Proc, ProcessorIoState}
use Rattle.ds_ports.proofs.Words.{Raised, Register, Reschedules, ReschedulesEach, RootState, ScanState, Seven, Some, Source, SqrtParam, Sqrtcnt, Stop}
use Rattle.ds_ports.proofs.Words.{Target, Tick, Timer, TimerState, TmcntH, TmcntL, Video, VideoState, Width, Word, after_write, ap, arith, bits}
use Rattle.ds_ports.proofs.Words.{both_raised, card_after_read, card_due, card_due_for, card_set, card_word_taken, card_written, channel_due}
use Rattle.ds_ports.proofs.Words.{channel_written_is, channel_written_later, control_set, data_port_at, division_ticks, dma_written, either, false}
use Rattle.ds_ports.proofs.Words.{gx_set, gx_written, haltcnt_written, inl, inr, io_due, io_of, is_stalled, kept_control, kept_keycnt, keycnt_written}
use Rattle.ds_ports.proofs.Words.{keys_hold, keys_told, meaning_of, most_entries, numbers_of, one_reschedules, other_proc, port_read, port_refusal}
use Rattle.ds_ports.proofs.Words.{port_written, processor_io_raised, raised_to, read_leaves_other, read_raised, read_schedules, refl, reload_set}
use Rattle.ds_ports.proofs.Words.{same_proc, scan_due_tick, subst, sym, timer_at, timer_due, true, unless_stopped, video_written, waiting_entries}
use Rattle.ds_ports.proofs.Words.{with_io_of, write_leaves_other, write_schedules, ℕ, ◌%◌, ◌+◌, ◌<◌, ◌==◌, ◌^◌, ◌∙◌, ◌≡◌, ◌≤◌}
use Rattle.ds_dma.proofs.Turns.{all_later}
use Rattle.ds_runs.specs.declared.actors.Actor.TheVariants.{Divider, SquareRoot, Card}
use Rattle.ds_timers.proofs.Changed.{control_set_is, reload_set_is, control_schedules, reload_leaves}
use Rattle.ds_ports.specs.Guards.{guarded_written, is_overfull}
use Rattle.ds_ports.specs.HappeningLaws.{IsTold, Goes, LeavesGeometry, LeavesTransfer, HasOnlyLaterEvents}
use Rattle.ds_runs.specs.declared.actors.Actor as actor
use Rattle.gx_fifo.proofs.Laws.{written_run, written_schedules, written_waiting}
use Rattle.ds_ports.proofs.Covered.{are_all, read_leaves, write_leaves}
use Rattle.ds_ports.proofs.Passed.{any_covered, any_register}
use Rattle.ds_ports.proofs.HeldDues.{held_reschedules, stall_begins}
use Rattle.ds_ports.proofs.GxPorts.{written_last, written_longer, written_stalls}
use Rattle.ds_ports.proofs.DisplayPorts.{written_scan, written_whole}
use Rattle.ds_ports.proofs.RegisterMaps.{some_slot}
use Rattle.ds_ports.proofs.Told.{AreIpcAtBoth, control_ipc, raised_told, receive_ipc, send_ipc, sync_ipc, told_nothing, told_on}

-- Accesses make no due tick earlier, and leave each at its tick or later.

-- a due tick that is as it was, or later than a tick, is later where it was
pub still_later : (now : Tick) (old new : Option Tick) → IsLater now old → Reschedules now old new → IsLater now new
still_later now old new h (inl e) = subst (IsLater now) (sym e) h
still_later now old new h (inr l) = l

-- and what is due so in turn
pub in_turn : (now : Tick) (a b c : Option Tick) → Reschedules now a b → Reschedules now b c → Reschedules now a c
in_turn now a b c h (inl e) = subst (Reschedules now a) (sym e) h
in_turn now a b c h (inr l) = inr l

-- ---- a processor's own

abbrev AreLater : Tick → List TimerState → Type 0
AreLater now timers = (which : ℕ) → which < 4 → IsLater now (timer_due (timer_at timers which))

-- what accesses of the processor at a tick keep
abbrev Stands : Tick → ProcessorIoState → Type 0
Stands now processor_io = IsProcessorIo processor_io × HasOnlyLaterEvents now processor_io

-- nothing changed
pub unchanged_same : (processor_io : ProcessorIoState) → IsUnchanged processor_io processor_io
unchanged_same processor_io = record { timers = refl; keycnt = refl; halted = refl; dma = refl }

-- its timers and channels alone count
alike : (now : Tick) (a b : ProcessorIoState) → b.timers ≡ a.timers → b.dma ≡ a.dma → Stands now a → Stands now b
alike now a b e f s = (
  record { timers = subst AreTimers (sym e) s.0.timers; dma = subst IsDma (sym f) s.0.dma },
  record { timers = subst (AreLater now) (sym e) s.1.timers; dma = subst (AreReadyLater now) (sym f) s.1.dma },
)

control_stands : (timers : List TimerState) (which value : ℕ) (now : Tick) → AreTimers timers → AreLater now timers → which < 4
    → AreTimers (control_set timers which value now) × AreLater now (control_set timers which value now)
control_stands timers which value now is later l =
    let one = control_schedules timers which (kept_control value) now is l (later which l) in (
      control_set_is timers which value now is l,
      λ n m. still_later now (timer_due (timer_at timers n)) (timer_due (timer_at (control_set timers which value now) n)) (later n m)
          (one_reschedules which now timers (control_set timers which value now) one n m),
    )

reload_stands : (timers : List TimerState) (which value : ℕ) (now : Tick) → AreTimers timers → AreLater now timers → which < 4 → value < 2 ^ 16
    → AreTimers (reload_set timers which value) × AreLater now (reload_set timers which value)
reload_stands timers which value now is later l small = (
  reload_set_is timers which value is l small,
  λ n m. still_later now (timer_due (timer_at timers n)) (timer_due (timer_at (reload_set timers which value) n)) (later n m)
      (reload_leaves timers which value now is l n m),
)

-- other timers
timers_stand : (processor_io : ProcessorIoState) (now : Tick) (timers : List TimerState) → Stands now processor_io → AreTimers timers × AreLater now timers
    → Stands now (record processor_io { timers = timers })
timers_stand processor_io now timers s new = (record { timers = new.0; dma = s.0.dma }, record { timers = new.1; dma = s.1.dma })

dma_stands : (processor_io : ProcessorIoState) (now : Tick) (port : DmaPort) (which value : ℕ) → Stands now processor_io → which < 4 → Stands now (dma_written processor_io now port which value)
dma_stands processor_io now port which value s l = (
  record { timers = s.0.timers; dma = channel_written_is processor_io.dma which port value now s.0.dma l },
  record { timers = s.1.timers; dma = channel_written_later processor_io.dma which port value now s.0.dma l s.1.dma },
)

-- a change of the keys raises an interrupt at most
pub told_unchanged : (processor_io : ProcessorIoState) (pressed : ℕ) → IsUnchanged processor_io (keys_told processor_io pressed)
told_unchanged processor_io pressed =
    either (IsUnchanged processor_io) (keys_hold processor_io.keycnt pressed) _ _ (record { timers = refl; keycnt = refl; halted = refl; dma = refl }) (unchanged_same processor_io)

keycnt_stands : (processor_io : ProcessorIoState) (now : Tick) (pressed value : ℕ) → Stands now processor_io → Stands now (keycnt_written processor_io pressed value)
keycnt_stands processor_io now pressed value s =
    let left = told_unchanged (record processor_io { keycnt = kept_keycnt value }) pressed in
    alike now processor_io (keycnt_written processor_io pressed value) left.timers left.dma s

haltcnt_stands : (processor_io : ProcessorIoState) (now : Tick) (value : ℕ) → Stands now processor_io → Stands now (haltcnt_written processor_io value)
haltcnt_stands processor_io now value s =
    either (Stands now) (bits 6 2 value == 2) _ _ (alike now processor_io (record processor_io { halted = true }) refl refl s) s

-- ---- the due ticks of a processor's own, by actor

abbrev processor_io_due : actor.Actor → ProcessorIoState → Option Tick
processor_io_due (Timer proc number) processor_io = timer_due (timer_at processor_io.timers number)
processor_io_due (Dma proc channel) processor_io = channel_due processor_io.dma channel
processor_io_due _ processor_io = None

abbrev pub ProcessorIoReschedules : Tick → ProcessorIoState → ProcessorIoState → Type 0
ProcessorIoReschedules now old new = (a : actor.Actor) → IsNumbered a → Reschedules now (processor_io_due a old) (processor_io_due a new)

-- they are later where it stands, and as they were where nothing but its interrupt words changed
processor_io_later : (now : Tick) (old new : ProcessorIoState) → Stands now new → ProcessorIoReschedules now old new
processor_io_later now old new s (Timer proc number) l = inr (s.1.timers number l)
processor_io_later now old new s (Dma proc channel) l = all_later now new.dma (channel_due old.dma channel) s.1.dma channel l
processor_io_later now old new s _ l = inl refl

pub same_reschedules : (now : Tick) (old new : ProcessorIoState) → new.timers ≡ old.timers → new.dma ≡ old.dma → ProcessorIoReschedules now old new
same_reschedules now old new e f (Timer proc number) l = inl (ap (λ ts. timer_due (timer_at ts number)) e)
same_reschedules now old new e f (Dma proc channel) l = inl (ap (λ d. channel_due d channel) f)
same_reschedules now old new e f _ l = inl refl

-- ---- all units

-- what changes one processor's own makes of each due tick what it makes of that processor's
pub processor_io_each : (proc : Proc) (now : Tick) (u : IoState) (processor_io : ProcessorIoState) → ProcessorIoReschedules now (io_of u proc) processor_io → ReschedulesEach now u (with_io_of proc u processor_io)
processor_io_each Nine now u processor_io g (Timer Nine number) l = g (Timer Nine number) l
processor_io_each Nine now u processor_io g (Timer Seven number) l = inl refl
processor_io_each Nine now u processor_io g (Dma Nine channel) l =
    held_reschedules now (is_stalled u.gx) u.released (channel_due u.nine.dma channel) (channel_due processor_io.dma channel) (g (Dma Nine channel) l)
processor_io_each Nine now u processor_io g (Dma Seven channel) l = inl refl
processor_io_each Nine now u processor_io g _ l = inl refl
processor_io_each Seven now u processor_io g (Timer Nine number) l = inl refl
processor_io_each Seven now u processor_io g (Timer Seven number) l = g (Timer Seven number) l
processor_io_each Seven now u processor_io g (Dma Nine channel) l = inl refl
processor_io_each Seven now u processor_io g (Dma Seven channel) l = g (Dma Seven channel) l
processor_io_each Seven now u processor_io g _ l = inl refl

-- another division, or another square root
pub divider_each : (now : Tick) (u : IoState) (divider : DividerState) → Reschedules now u.divider.due divider.due
    → ReschedulesEach now u (record u { divider = divider })
divider_each now u divider d Divider l = d
divider_each now u divider d _ l = inl refl

pub root_each : (now : Tick) (u : IoState) (root : RootState) → Reschedules now u.root.due root.due → ReschedulesEach now u (record u { root = root })
root_each now u root r SquareRoot l = r
root_each now u root r _ l = inl refl

-- ---- geometry, and what accesses leave of it

pub leaves_all : (proc : Proc) (old new : IoState) → new.gx ≡ old.gx → new.released ≡ old.released → LeavesGeometry proc old new
leaves_all proc old new e f = record {
  released = f;
  longer = (let many = ap waiting_entries e in omega (arith, many));
  waiting = λ room. subst AreWaiting (sym e);
  run = ap (λ (g : GxState). g.geometry.numbers.run) e;
  last = ap (λ (g : GxState). g.geometry.last) e;
  stall = λ h. ap is_stalled e ∙ h;
  of_seven = λ h. e;
}

leaves_on : (proc : Proc) (a b c : IoState) → LeavesGeometry proc a b → LeavesGeometry proc b c → LeavesGeometry proc a c
leaves_on proc a b c g h = record {
  released = h.released ∙ g.released;
  longer = (let more = g.longer in let most = h.longer in omega (arith, more, most));
  waiting = λ room w. (let more = h.longer in h.waiting room (g.waiting (omega (arith, room, more)) w));
  run = h.run ∙ g.run;
  last = h.last ∙ g.last;
  stall = λ s. h.stall (g.stall s);
  of_seven = λ e. h.of_seven e ∙ g.of_seven e;
}

pub goes_nowhere : (proc : Proc) (now : Tick) (u : IoState) → IsProcessorIo (io_of u proc) → HasOnlyLaterEvents now (io_of u proc) → Goes proc now u u
goes_nowhere proc now u is quiet = record { is = is; quiet = quiet; each = λ a l. inl refl; other = unchanged_same (io_of u (other_proc proc)); told = told_nothing (io_of u (other_proc proc)).irq; scan = refl; whole = refl; geometry = leaves_all proc u u refl refl; card = refl }

pub goes_on : (proc : Proc) (now : Tick) (a b c : IoState) → Goes proc now a b → Goes proc now b c → Goes proc now a c
goes_on proc now a b c g h = record {
  is = h.is;
  quiet = h.quiet;
  each = λ who l. in_turn now (io_due who a) (io_due who b) (io_due who c) (g.each who l) (h.each who l);
  other = record {
    timers = h.other.timers ∙ g.other.timers;
    keycnt = h.other.keycnt ∙ g.other.keycnt;
    halted = h.other.halted ∙ g.other.halted;
    dma = h.other.dma ∙ g.other.dma;
  };
  told = told_on (io_of a (other_proc proc)).irq (io_of b (other_proc proc)).irq (io_of c (other_proc proc)).irq g.told h.told;
  scan = h.scan ∙ g.scan;
  whole = h.whole ∙ g.whole;
  geometry = leaves_on proc a b c g.geometry h.geometry;
  card = h.card ∙ g.card;
}

-- what changes the processor's own alone
processor_io_goes : (proc : Proc) (now : Tick) (u : IoState) (processor_io : ProcessorIoState) → Stands now processor_io → Goes proc now u (with_io_of proc u processor_io)
processor_io_goes proc now u processor_io s = by_proc proc (processor_io_each proc now u processor_io (processor_io_later now (io_of u proc) processor_io s)) where
  by_proc : (proc : Proc) → ReschedulesEach now u (with_io_of proc u processor_io) → Goes proc now u (with_io_of proc u processor_io)
  by_proc Nine each = record { is = s.0; quiet = s.1; each = each; other = unchanged_same u.seven; told = told_nothing u.seven.irq; scan = refl; whole = refl; geometry = leaves_all Nine u (with_io_of Nine u processor_io) refl refl; card = refl }
  by_proc Seven each = record { is = s.0; quiet = s.1; each = each; other = unchanged_same u.nine; told = told_nothing u.nine.irq; scan = refl; whole = refl; geometry = leaves_all Seven u (with_io_of Seven u processor_io) refl refl; card = refl }

-- what changes neither's own
shared_goes : (proc : Proc) (now : Tick) (u new : IoState) → ((each : Proc) → io_of new each ≡ io_of u each) → new.video.scan ≡ u.video.scan → new.video.whole ≡ u.video.whole
    → LeavesGeometry proc u new → LeavesTransfer proc u.card new.card → Stands now (io_of u proc) → ReschedulesEach now u new → Goes proc now u new
shared_goes proc now u new same scan whole geometry card s each = record {
  is = subst IsProcessorIo (sym (same proc)) s.0;
  quiet = subst (HasOnlyLaterEvents now) (sym (same proc)) s.1;
  each = each;
  other = subst (IsUnchanged (io_of u (other_proc proc))) (sym (same (other_proc proc))) (unchanged_same (io_of u (other_proc proc)));
  told = subst (λ (o : ProcessorIoState). IsTold (io_of u (other_proc proc)).irq o.irq) (sym (same (other_proc proc))) (told_nothing (io_of u (other_proc proc)).irq);
  scan = scan;
  whole = whole;
  geometry = geometry;
  card = card;
}

-- ---- what changes nothing but interrupt words, as a read: nothing is due otherwise than before

pub raised_unchanged : (processor_io : ProcessorIoState) (raised : ℕ) → IsUnchanged processor_io (processor_io_raised processor_io raised)
raised_unchanged processor_io raised = record { timers = refl; keycnt = refl; halted = refl; dma = refl }

-- nothing changed of what is due behind the ports, or holds a processor, and each is told of IPC interrupts at most
pub record AreUnchanged (old new : IoState) : Type 0 where
  pub processor_io : (proc : Proc) → IsUnchanged (io_of old proc) (io_of new proc)
  pub told : (proc : Proc) → IsTold (io_of old proc).irq (io_of new proc).irq
  pub dues : (a : actor.Actor) → io_due a new ≡ io_due a old
  pub scan : new.video.scan ≡ old.video.scan
  pub whole : new.video.whole ≡ old.video.whole
  pub gx : new.gx ≡ old.gx
  pub released : new.released ≡ old.released
  pub card : new.card ≡ old.card

-- so what holds of a processor's own holds still
pub unchanged_is : (old new : ProcessorIoState) → IsUnchanged old new → IsProcessorIo old → IsProcessorIo new
unchanged_is old new l is = record { timers = subst AreTimers (sym l.timers) is.timers; dma = subst IsDma (sym l.dma) is.dma }

pub all_unchanged : (u : IoState) → AreUnchanged u u
all_unchanged u = record { processor_io = λ each. unchanged_same (io_of u each); told = λ each. told_nothing (io_of u each).irq; dues = λ a. refl; scan = refl; whole = refl; gx = refl; released = refl; card = refl }

both_unchanged : (u : IoState) (ipc_after : IpcState) (raised : Raised) → AreIpcAtBoth raised → AreUnchanged u (both_raised (record u { ipc = ipc_after }) raised)
both_unchanged u ipc_after raised ipc = record { processor_io = processor_io; told = told; dues = dues; scan = refl; whole = refl; gx = refl; released = refl; card = refl } where
  processor_io : (proc : Proc) → IsUnchanged (io_of u proc) (io_of (both_raised (record u { ipc = ipc_after }) raised) proc)
  processor_io Nine = raised_unchanged u.nine raised.nine
  processor_io Seven = raised_unchanged u.seven raised.seven

  told : (proc : Proc) → IsTold (io_of u proc).irq (io_of (both_raised (record u { ipc = ipc_after }) raised) proc).irq
  told Nine = raised_told u.nine.irq raised.nine ipc.0
  told Seven = raised_told u.seven.irq raised.seven ipc.1

  dues : (a : actor.Actor) → io_due a (both_raised (record u { ipc = ipc_after }) raised) ≡ io_due a u
  dues (Timer Nine number) = refl
  dues (Timer Seven number) = refl
  dues (Dma Nine channel) = refl
  dues (Dma Seven channel) = refl
  dues _ = refl

-- What a read at a tick leaves: all that holds a processor, geometry and the display; and each due tick, but that the card's next word is on its way.
-- The other processor is told of IPC interrupts at most, and the transfer that it started stays.
pub record ReadLeaves (proc : Proc) (now : Tick) (old new : IoState) : Type 0 where
  pub processor_io : (each : Proc) → IsUnchanged (io_of old each) (io_of new each)
  pub told : IsTold (io_of old (other_proc proc)).irq (io_of new (other_proc proc)).irq
  pub each : ReschedulesEach now old new
  pub scan : new.video.scan ≡ old.video.scan
  pub whole : new.video.whole ≡ old.video.whole
  pub gx : new.gx ≡ old.gx
  pub released : new.released ≡ old.released
  pub card : LeavesTransfer proc old.card new.card

pub unchanged_reads : (proc : Proc) (now : Tick) (old new : IoState) → AreUnchanged old new → ReadLeaves proc now old new
unchanged_reads proc now old new left = record {
  processor_io = left.processor_io;
  told = left.told (other_proc proc);
  each = λ a l. inl (left.dues a);
  scan = left.scan;
  whole = left.whole;
  gx = left.gx;
  released = left.released;
  card = ap (card_due_for (other_proc proc)) left.card;
}

pub read_goes : (proc : Proc) (now : Tick) (old new : IoState) → IsProcessorIo (io_of old proc) → HasOnlyLaterEvents now (io_of old proc)
    → ReadLeaves proc now old new → Goes proc now old new
read_goes proc now old new is quiet left =
    let s = alike now (io_of old proc) (io_of new proc) (left.processor_io proc).timers (left.processor_io proc).dma (is, quiet) in record {
      is = s.0;
      quiet = s.1;
      each = left.each;
      other = left.processor_io (other_proc proc);
      told = left.told;
      scan = left.scan;
      whole = left.whole;
      geometry = leaves_all proc old new left.gx left.released;
      card = left.card;
    }

pub unchanged_goes : (proc : Proc) (now : Tick) (old new : IoState) → IsProcessorIo (io_of old proc) → HasOnlyLaterEvents now (io_of old proc)
    → AreUnchanged old new → Goes proc now old new
unchanged_goes proc now old new is quiet left = read_goes proc now old new is quiet (unchanged_reads proc now old new left)

-- ---- the card: what the processor does leaves the transfer that the other started

other_apart : (proc : Proc) → same_proc (other_proc proc) proc ≡ false
other_apart Nine = refl
other_apart Seven = refl

module _ (now : Tick) (u : IoState) (card : CardState) (later : Reschedules now (card_due u.card) (card_due card)) where
  pub card_each : ReschedulesEach now u (record u { card = card })
  card_each Card l = later
  card_each (Timer Nine number) l = inl refl
  card_each (Timer Seven number) l = inl refl
  card_each (Dma Nine channel) l = inl refl
  card_each (Dma Seven channel) l = inl refl
  card_each _ l = inl refl

  -- and bits of IF are raised at the processor
  card_raised_each : (proc : Proc) (raised : ℕ) → ReschedulesEach now u (with_io_of proc (record u { card = card }) (processor_io_raised (io_of u proc) raised))
  card_raised_each proc raised Card l = by_proc proc where
    by_proc : (proc : Proc) → Reschedules now (card_due u.card) (card_due (with_io_of proc (record u { card = card }) (processor_io_raised (io_of u proc) raised)).card)
    by_proc Nine = later
    by_proc Seven = later
  card_raised_each Nine raised (Timer Nine number) l = inl refl
  card_raised_each Nine raised (Timer Seven number) l = inl refl
  card_raised_each Nine raised (Dma Nine channel) l = inl refl
  card_raised_each Nine raised (Dma Seven channel) l = inl refl
  card_raised_each Seven raised (Timer Nine number) l = inl refl
  card_raised_each Seven raised (Timer Seven number) l = inl refl
  card_raised_each Seven raised (Dma Nine channel) l = inl refl
  card_raised_each Seven raised (Dma Seven channel) l = inl refl
  card_raised_each Nine raised _ l = inl refl
  card_raised_each Seven raised _ l = inl refl

-- a word is taken
module _ (now : Tick) (u : IoState) where
  taken_each : (proc : Proc) → ReschedulesEach now u (card_word_taken proc now u)
  taken_each proc =
      card_raised_each now u (card_after_read u.card proc data_port_at Word now) (read_schedules u.card proc data_port_at Word now) proc
      (raised_to proc (read_raised u.card proc data_port_at Word))

  taken_unchanged : (proc each : Proc) → IsUnchanged (io_of u each) (io_of (card_word_taken proc now u) each)
  taken_unchanged Nine Nine = raised_unchanged u.nine (raised_to Nine (read_raised u.card Nine data_port_at Word))
  taken_unchanged Nine Seven = unchanged_same u.seven
  taken_unchanged Seven Nine = unchanged_same u.nine
  taken_unchanged Seven Seven = raised_unchanged u.seven (raised_to Seven (read_raised u.card Seven data_port_at Word))

  taken_leaves : (proc : Proc) → ReadLeaves proc now u (card_word_taken proc now u)
  taken_leaves Nine = record {
    processor_io = taken_unchanged Nine;
    told = told_nothing u.seven.irq;
    each = taken_each Nine;
    scan = refl;
    whole = refl;
    gx = refl;
    released = refl;
    card = read_leaves_other u.card Seven Nine data_port_at Word now refl;
  }
  taken_leaves Seven = record {
    processor_io = taken_unchanged Seven;
    told = told_nothing u.nine.irq;
    each = taken_each Seven;
    scan = refl;
    whole = refl;
    gx = refl;
    released = refl;
    card = read_leaves_other u.card Nine Seven data_port_at Word now refl;
  }

-- ---- what a write of a register leaves

division_later : (now : Tick) (mode : ℕ) → now.0 < now.0 + division_ticks mode
division_later now mode = either (λ n. now.0 < now.0 + n) (mode == 0) 36 68 (omega arith) (omega arith)

root_later : (now : Tick) → now.0 < now.0 + 26
root_later now = omega arith

-- one of the display's leaves it where it is
module _ (now : Tick) (u : IoState) (video : VideoState) (same : video.scan ≡ u.video.scan) where
  shown_dues : (a : actor.Actor) → io_due a (record u { video = video }) ≡ io_due a u
  shown_dues Video = ap (λ (scan : ScanState). Some (scan_due_tick scan)) same
  shown_dues (Timer Nine number) = refl
  shown_dues (Timer Seven number) = refl
  shown_dues (Dma Nine channel) = refl
  shown_dues (Dma Seven channel) = refl
  shown_dues _ = refl

  shown_processor_io : (each : Proc) → io_of (record u { video = video }) each ≡ io_of u each
  shown_processor_io Nine = refl
  shown_processor_io Seven = refl

display_goes : (proc : Proc) (now : Tick) (u : IoState) → Stands now (io_of u proc) → (width : Width) (at value : ℕ)
    → Goes proc now u (record u { video = video_written proc u.video at width value })
display_goes proc now u s width at value =
    let video = video_written proc u.video at width value in
    let same = written_scan proc u.video at width value in
    shared_goes proc now u (record u { video = video }) (shown_processor_io now u video same) same (written_whole proc u.video at width value)
    (leaves_all proc u (record u { video = video }) refl refl) refl s (λ a l. inl (shown_dues now u video same a))

nine_or_seven : Nine ≡ Seven → ⊥
nine_or_seven h = grind (arith, h)

-- one of geometry's, which ARM7 doesn't have
module _ (now : Tick) (u : IoState) (number value : ℕ) where
  gx_each : ReschedulesEach now u (gx_set Nine now u number value)
  gx_each Geometry l = written_schedules u.gx number value now
  gx_each (Timer Nine which) l = inl refl
  gx_each (Timer Seven which) l = inl refl
  gx_each (Dma Nine channel) l =
      stall_begins now (is_stalled u.gx) (is_stalled (gx_written u.gx number value now)) u.released (channel_due u.nine.dma channel)
      (written_stalls u.gx number value now)
  gx_each (Dma Seven channel) l = inl refl
  gx_each _ l = inl refl

  gx_leaves : LeavesGeometry Nine u (gx_set Nine now u number value)
  gx_leaves = record {
    released = refl;
    longer = written_longer u.gx number value now;
    waiting = written_waiting u.gx number value now;
    run = written_run u.gx number value now;
    last = written_last u.gx number value now;
    stall = written_stalls u.gx number value now;
    of_seven = λ h. absurd (nine_or_seven h);
  }

gx_goes : (proc : Proc) (now : Tick) (u : IoState) (number value : ℕ) → Stands now (io_of u proc) → Goes proc now u (gx_set proc now u number value)
gx_goes Nine now u number value s = shared_goes Nine now u (gx_set Nine now u number value) same refl refl (gx_leaves now u number value) refl s (gx_each now u number value) where
  same : (each : Proc) → io_of (gx_set Nine now u number value) each ≡ io_of u each
  same Nine = refl
  same Seven = refl
gx_goes Seven now u number value s = goes_nowhere Seven now u s.0 s.1

-- one of the card's
card_goes : (proc : Proc) (now : Tick) (u : IoState) → Stands now (io_of u proc) → (width : Width) (number value : ℕ)
    → Goes proc now u (card_set width proc now u number value)
card_goes proc now u s width number value =
    let card = card_written u.card proc number width value now in
    shared_goes proc now u (record u { card = card }) (λ each. refl) refl refl (leaves_all proc u (record u { card = card }) refl refl)
    (write_leaves_other u.card (other_proc proc) proc number width value now (other_apart proc)) s
    (card_each now u card (write_schedules u.card proc number width value now))

register_goes : (proc : Proc) (now : Tick) (u : IoState) → Stands now (io_of u proc) → (register : Register) (number : ℕ)
    → number < numbers_of register → (value : ℕ) → Goes proc now u (after_write proc now u register number value)
register_goes proc now u s Dmasad number l value = processor_io_goes proc now u _ (dma_stands (io_of u proc) now Source number value s l)
register_goes proc now u s Dmadad number l value = processor_io_goes proc now u _ (dma_stands (io_of u proc) now Target number value s l)
register_goes proc now u s Dmacnt number l value = processor_io_goes proc now u _ (dma_stands (io_of u proc) now Control number value s l)
register_goes proc now u s TmcntL number l value =
    processor_io_goes proc now u _ (timers_stand (io_of u proc) now _ s
    (reload_stands (io_of u proc).timers number (value % 2 ^ 16) now s.0.timers s.1.timers l (omega arith)))
register_goes proc now u s TmcntH number l value =
    processor_io_goes proc now u _ (timers_stand (io_of u proc) now _ s (control_stands (io_of u proc).timers number (value % 2 ^ 16) now s.0.timers s.1.timers l))
register_goes proc now u s Keycnt number l value = processor_io_goes proc now u _ (keycnt_stands (io_of u proc) now u.pressed (value % 2 ^ 16) s)
register_goes proc now u s Ime number l value = processor_io_goes proc now u _ (alike now (io_of u proc) _ refl refl s)
register_goes proc now u s Ie number l value = processor_io_goes proc now u _ (alike now (io_of u proc) _ refl refl s)
register_goes proc now u s If number l value = processor_io_goes proc now u _ (alike now (io_of u proc) _ refl refl s)
register_goes proc now u s Haltcnt number l value = processor_io_goes proc now u _ (haltcnt_stands (io_of u proc) now (value % 2 ^ 8) s)
register_goes proc now u s Ipcsync number l value = unchanged_goes proc now u _ s.0 s.1 (both_unchanged u _ _ (sync_ipc u.ipc proc (value % 2 ^ 16)))
register_goes proc now u s Ipcfifocnt number l value = unchanged_goes proc now u _ s.0 s.1 (both_unchanged u _ _ (control_ipc u.ipc proc (value % 2 ^ 16)))
register_goes proc now u s Ipcfifosend number l value = unchanged_goes proc now u _ s.0 s.1 (both_unchanged u _ _ (send_ipc u.ipc proc))
register_goes proc now u s Divcnt number l value =
    shared_goes proc now u _ (λ each. refl) refl refl (leaves_all proc u _ refl refl) refl s (divider_each now u (after_write proc now u Divcnt number value).divider (inr (division_later now _)))
register_goes proc now u s DivNumer number l value =
    shared_goes proc now u _ (λ each. refl) refl refl (leaves_all proc u _ refl refl) refl s (divider_each now u (after_write proc now u DivNumer number value).divider (inr (division_later now _)))
register_goes proc now u s DivDenom number l value =
    shared_goes proc now u _ (λ each. refl) refl refl (leaves_all proc u _ refl refl) refl s (divider_each now u (after_write proc now u DivDenom number value).divider (inr (division_later now _)))
register_goes proc now u s Sqrtcnt number l value =
    shared_goes proc now u _ (λ each. refl) refl refl (leaves_all proc u _ refl refl) refl s (root_each now u (after_write proc now u Sqrtcnt number value).root (inr (root_later now)))
register_goes proc now u s SqrtParam number l value =
    shared_goes proc now u _ (λ each. refl) refl refl (leaves_all proc u _ refl refl) refl s (root_each now u (after_write proc now u SqrtParam number value).root (inr (root_later now)))
register_goes proc now u s DisplayHalf number l value = display_goes proc now u s Half number value
register_goes proc now u s DisplayWord number l value = display_goes proc now u s Word number value
register_goes proc now u s GxWord number l value = gx_goes proc now u number value s
register_goes proc now u s GxCommand number l value = gx_goes proc now u number value s
register_goes proc now u s Auxspicnt number l value = card_goes proc now u s Half number value
register_goes proc now u s CardWord number l value = card_goes proc now u s Word number value
register_goes proc now u s register number l value =
    shared_goes proc now u (after_write proc now u register number value) (λ each. refl) refl refl (leaves_all proc u _ refl refl) refl s (λ a m. inl refl)

-- ---- accesses

pub write_goes : (proc : Proc) (now : Tick) (u : IoState) (at : ℕ) (width : Width) (value : ℕ) → IsProcessorIo (io_of u proc) → HasOnlyLaterEvents now (io_of u proc)
    → Goes proc now u (port_written proc now u at width value)
write_goes proc now u at width value is quiet =
    let stays : (x : IoState) → Stands now (io_of x proc) → Goes proc now x x = λ x s. goes_nowhere proc now x s.0 s.1 in
    write_leaves IsSlot proc now (λ x y. Stands now (io_of x proc) → Goes proc now x y) stays
    (λ x y z g h s. (let first = g s in goes_on proc now x y z first (h (first.is, first.quiet))))
    (λ x slot word own s. register_goes proc now x s slot.register slot.number own.number word) u at width value (are_all IsSlot proc (some_slot proc) at width) (is, quiet)

-- a write that may be refused, and then leaves all
unless_goes : (proc : Proc) (now : Tick) (stop : Option Stop) (u v : IoState) → IsProcessorIo (io_of u proc) → HasOnlyLaterEvents now (io_of u proc) → Goes proc now u v
    → Goes proc now u (unless_stopped stop u v)
unless_goes proc now None u v is quiet goes = goes
unless_goes proc now (Some stop) u v is quiet goes = goes_nowhere proc now u is quiet

pub put_goes : (proc : Proc) (now : Tick) (old new : IoState) (at : ℕ) (width : Width) (value : ℕ) → new ≡ guarded_written proc now old at width value
    → IsProcessorIo (io_of old proc) → HasOnlyLaterEvents now (io_of old proc) → Goes proc now old new
put_goes proc now old new at width value is_new is quiet =
    subst (Goes proc now old) (sym is_new)
    (either (Goes proc now old) (is_overfull proc old) old
    (unless_stopped (port_refusal proc old at width value) old (port_written proc now old at width value)) (goes_nowhere proc now old is quiet)
    (unless_goes proc now (port_refusal proc old at width value) old (port_written proc now old at width value) is quiet
    (write_goes proc now old at width value is quiet)))

-- ---- reads

pub all_left : (proc : Proc) (now : Tick) (u : IoState) → ReadLeaves proc now u u
all_left proc now u = unchanged_reads proc now u u (all_unchanged u)

register_read : (proc : Proc) (now : Tick) (u : IoState) (register : Register) → ReadLeaves proc now u ((meaning_of register).after_read proc now u)
register_read proc now u Ipcfiforecv = unchanged_reads proc now u _ (both_unchanged u _ _ (receive_ipc u.ipc proc))
register_read proc now u CardData = taken_leaves now u proc
register_read proc now u _ = all_left proc now u

pub port_leaves : (proc : Proc) (now : Tick) (u : IoState) (at : ℕ) (width : Width) → ReadLeaves proc now u (port_read proc now u at width)
port_leaves proc now u at width =
    read_leaves any_register proc now (ReadLeaves proc now) (all_left proc now) (λ x r h. register_read proc now x r) u at width (any_covered proc at width)

-- what holds of one processor and of the other holds of both
pub of_both : (P : Proc → Type 0) (proc : Proc) → P proc → P (other_proc proc) → (each : Proc) → P each
of_both P Nine h k Nine = h
of_both P Nine h k Seven = k
of_both P Seven h k Nine = k
of_both P Seven h k Seven = h

-- accesses leave each actor due as it was, or later
pub all_io_dues : (proc : Proc) (now : Tick) (old new : IoState) → Goes proc now old new → ReschedulesEach now old new
all_io_dues proc now old new g = g.each

-- each processor's own stands for all units
pub processor_io_is : (u : IoState) → IsIo u → (proc : Proc) → IsProcessorIo (io_of u proc)
processor_io_is u h Nine = h.nine
processor_io_is u h Seven = h.seven

-- the units are the units still
pub goes_io : (proc : Proc) (now : Tick) (old new : IoState) → waiting_entries new.gx ≤ most_entries → IsIo old → Goes proc now old new → IsIo new
goes_io proc now old new room h g =
    let other : IsProcessorIo (io_of new (other_proc proc)) = record {
      timers = subst AreTimers (sym g.other.timers) (processor_io_is old h (other_proc proc)).timers;
      dma = subst IsDma (sym g.other.dma) (processor_io_is old h (other_proc proc)).dma;
    } in
    let each = of_both (λ p. IsProcessorIo (io_of new p)) proc g.is other in
    record { nine = each Nine; seven = each Seven; gx = g.geometry.waiting room h.gx }

-- ---- one processor's own, changed

pub processor_io_there : (proc : Proc) (u : IoState) (processor_io : ProcessorIoState) → io_of (with_io_of proc u processor_io) proc ≡ processor_io
processor_io_there Nine u processor_io = refl
processor_io_there Seven u processor_io = refl

pub processor_io_across : (proc : Proc) (u : IoState) (processor_io : ProcessorIoState) → io_of (with_io_of proc u processor_io) (other_proc proc) ≡ io_of u (other_proc proc)
processor_io_across Nine u processor_io = refl
processor_io_across Seven u processor_io = refl

-- what holds of the one that changes, and of the other as it was, holds of both
pub each_processor_io : (P : Proc → ProcessorIoState → Type 0) (proc : Proc) (u : IoState) (processor_io : ProcessorIoState) → P proc processor_io → P (other_proc proc) (io_of u (other_proc proc))
    → (each : Proc) → P each (io_of (with_io_of proc u processor_io) each)
each_processor_io P proc u processor_io h k =
    of_both (λ p. P p (io_of (with_io_of proc u processor_io) p)) proc (subst (P proc) (sym (processor_io_there proc u processor_io)) h) (subst (P (other_proc proc)) (sym (processor_io_across proc u processor_io)) k)

pub io_is : (u : IoState) → ((proc : Proc) → IsProcessorIo (io_of u proc)) → AreWaiting u.gx → IsIo u
io_is u h waiting = record { nine = h Nine; seven = h Seven; gx = waiting }
