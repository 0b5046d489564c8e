use Rattle.ds_machine.proofs.Words.{AreAsleep, AreKeyLines, AreWaiting, Bool, DmaState, HasSoundParts, IoState, IsIo, IsProcessorIo, MachineState}
use Rattle.ds_machine.proofs.Words.{Nine, Proc, ProcessorIoState, ProcessorState, Reschedules, ReschedulesEach, Seven, Tick, ap, arith}
use Rattle.ds_machine.proofs.Words.{awaits_geometry, awaits_none, counts_of, dma_due, due_past_unit, due_unless, ended, false, goes_on, happens_held}
use Rattle.ds_machine.proofs.Words.{if◌then◌else◌, inl, inr, io_of, is_blocked, is_half_empty, is_halted, is_settled, is_stalled, keys_due}
use Rattle.ds_machine.proofs.Words.{level_told, machine_settled, of_both, other_proc, processor_due, processor_io_is, processor_io_triggered}
use Rattle.ds_machine.proofs.Words.{processor_of, refl, release_by, release_kept, release_of, settled, settled_happens, settles, subst, sym, true}
use Rattle.ds_machine.proofs.Words.{wakes, with_halt, with_halted, with_processor, woken, woken_one, ◌&&◌, ◌+◌, ◌∙◌, ◌≡◌}
use Rattle.ds_ports.proofs.Later.{io_is, each_processor_io, processor_io_each, same_reschedules}
use Rattle.ds_dma.specs.declared.controls.Cause.TheVariants as causes
use Rattle.ds_machine.proofs.Ticks.{after_unit}
use Rattle.ds_machine.proofs.Moves.{Moves, blocked_moves, later_unless, moves_of, then_all}

-- Processors that are put into the machine with other numbers, that are halted, and that wake.

-- ---- other numbers of a processor

pub put_processor_io : (proc : Proc) (s : MachineState) (p : ProcessorState) → processor_due (with_processor proc s p) proc ≡ due_unless (is_blocked s proc) p
put_processor_io Nine s p = refl
put_processor_io Seven s p = refl

pub put_other : (proc : Proc) (s : MachineState) (p : ProcessorState) → processor_due (with_processor proc s p) (other_proc proc) ≡ processor_due s (other_proc proc)
put_other Nine s p = refl
put_other Seven s p = refl

-- all but the processors stays
pub record Beside (s next : MachineState) : Type 0 where
  pub io : next.io ≡ s.io
  pub keys : next.keys ≡ s.keys

pub put_beside : (proc : Proc) (s : MachineState) (p : ProcessorState) → Beside s (with_processor proc s p)
put_beside Nine s p = record { io = refl; keys = refl }
put_beside Seven s p = record { io = refl; keys = refl }

-- a processor's numbers, and its count of steps among all
pub put_counts : (proc : Proc) (s : MachineState) (p : ProcessorState) → counts_of (with_processor proc s p) + (processor_of s proc).steps ≡ counts_of s + p.steps
put_counts Nine s p = omega arith
put_counts Seven s p = omega arith

-- ---- a processor is halted, or goes on

pub halted_io_dues : (tick : Tick) (proc : Proc) (u : IoState) (halted : Bool) → ReschedulesEach tick u (with_halted proc u halted)
halted_io_dues tick proc u halted = processor_io_each proc tick u (record (io_of u proc) { halted = halted }) (same_reschedules tick (io_of u proc) _ refl refl)

pub halted_gx : (proc : Proc) (u : IoState) (halted : Bool) → (with_halted proc u halted).gx ≡ u.gx
halted_gx Nine u halted = refl
halted_gx Seven u halted = refl

pub halted_io : (proc : Proc) (u : IoState) (halted : Bool) → IsIo u → IsIo (with_halted proc u halted)
halted_io proc u halted are =
    let new : ProcessorIoState = record (io_of u proc) { halted = halted } in
    let is = processor_io_is u are proc in
    io_is (with_halted proc u halted) (each_processor_io (λ p x. IsProcessorIo x) proc u new (record { timers = is.timers; dma = is.dma }) (processor_io_is u are (other_proc proc)))
    (subst AreWaiting (sym (halted_gx proc u halted)) are.gx)

-- the other processor is as it was
pub halt_other : (proc : Proc) (s : MachineState) (halted : Bool) → processor_due (with_halt proc s halted) (other_proc proc) ≡ processor_due s (other_proc proc)
halt_other Nine s halted = refl
halt_other Seven s halted = refl

pub halt_blocked : (proc : Proc) (s : MachineState) → is_blocked (with_halt proc s true) proc ≡ true
halt_blocked Nine s = refl
halt_blocked Seven s = refl

-- one that is halted is blocked
pub halted_blocks : (s : MachineState) (proc : Proc) → is_halted s proc ≡ true → is_blocked s proc ≡ true
halted_blocks s Nine h = rw h refl
halted_blocks s Seven h = rw h refl

-- ---- a processor wakes

-- a processor goes on at the next tick
on_moves : (proc : Proc) (tick : Tick) (s : MachineState) → Moves tick s (goes_on proc tick s)
on_moves proc tick s =
    let halt = with_halt proc s false in
    let p : ProcessorState = record (processor_of s proc) { due = due_past_unit s proc tick } in
    let next = with_processor proc halt p in
    let b = put_beside proc halt p in
    let own : Reschedules tick (processor_due s proc) (processor_due next proc) =
    rw (put_processor_io proc halt p) (inr (later_unless tick (is_blocked halt proc) p (after_unit (io_of s.io proc).dma.last tick))) in
    let other : Reschedules tick (processor_due s (other_proc proc)) (processor_due next (other_proc proc)) = inl (put_other proc halt p ∙ halt_other proc s false) in
    moves_of tick s next (inl (ap keys_due b.keys))
    (subst (ReschedulesEach tick s.io) (sym b.io) (halted_io_dues tick proc s.io false))
    (of_both (λ each. Reschedules tick (processor_due s each) (processor_due next each)) proc own other)

on_sound : (proc : Proc) (tick : Tick) (s : MachineState) → HasSoundParts s → HasSoundParts (goes_on proc tick s)
on_sound proc tick s sound =
    let halt = with_halt proc s false in
    let b = put_beside proc halt (record (processor_of s proc) { due = due_past_unit s proc tick }) in
    record { io = subst IsIo (sym b.io) (halted_io proc s.io false sound.io); keys = subst AreKeyLines (sym b.keys) sound.keys }

pub halt_steps : (proc : Proc) (s : MachineState) (halted : Bool) → (processor_of (with_halt proc s halted) proc).steps ≡ (processor_of s proc).steps
halt_steps Nine s halted = refl
halt_steps Seven s halted = refl

on_counts : (proc : Proc) (tick : Tick) (s : MachineState) → counts_of (goes_on proc tick s) ≡ counts_of s
on_counts proc tick s =
    let halt = with_halt proc s false in
    let k = put_counts proc halt (record (processor_of s proc) { due = due_past_unit s proc tick }) in
    let e = halt_steps proc s false in
    omega (arith, k, e)

-- where it is to
pub record Wakes (tick : Tick) (s next : MachineState) : Type 0 where
  pub moves : Moves tick s next
  pub sound : HasSoundParts s → HasSoundParts next
  pub counts : counts_of next ≡ counts_of s

wakes_if : (b : Bool) (proc : Proc) (tick : Tick) (s : MachineState) → Wakes tick s (if b then goes_on proc tick s else s)
wakes_if true proc tick s = record { moves = on_moves proc tick s; sound = on_sound proc tick s; counts = on_counts proc tick s }
wakes_if false proc tick s = record { moves = λ a n. inl refl; sound = λ sound. sound; counts = refl }

pub wakes_both : (tick : Tick) (s : MachineState) → Wakes tick s (woken tick s)
wakes_both tick s =
    let first = woken_one Nine tick s in
    let a = wakes_if (wakes s Nine) Nine tick s in
    let b = wakes_if (wakes first Seven) Seven tick first in
    record {
      moves = then_all tick s first (woken tick s) a.moves b.moves;
      sound = λ sound. b.sound (a.sound sound);
      counts = b.counts ∙ a.counts;
    }

-- ---- afterwards nobody is to wake

free_wakes : (proc : Proc) (tick : Tick) (s : MachineState) → wakes (goes_on proc tick s) proc ≡ false
free_wakes Nine tick s = refl
free_wakes Seven tick s = refl

other_wakes : (proc : Proc) (tick : Tick) (s : MachineState) → wakes (goes_on proc tick s) (other_proc proc) ≡ wakes s (other_proc proc)
other_wakes Nine tick s = refl
other_wakes Seven tick s = refl

-- the one that is asked doesn't wake any more, and the other wakes as before
one_asleep : (b : Bool) (proc : Proc) (tick : Tick) (s : MachineState) → wakes s proc ≡ b → wakes (if b then goes_on proc tick s else s) proc ≡ false
one_asleep true proc tick s e = free_wakes proc tick s
one_asleep false proc tick s e = e

one_other : (b : Bool) (proc : Proc) (tick : Tick) (s : MachineState) → wakes (if b then goes_on proc tick s else s) (other_proc proc) ≡ wakes s (other_proc proc)
one_other true proc tick s = other_wakes proc tick s
one_other false proc tick s = refl

pub woken_asleep : (tick : Tick) (s : MachineState) → AreAsleep (woken tick s)
woken_asleep tick s Nine = let first = woken_one Nine tick s in one_other (wakes first Seven) Seven tick first ∙ one_asleep (wakes s Nine) Nine tick s refl
woken_asleep tick s Seven = let first = woken_one Nine tick s in one_asleep (wakes first Seven) Seven tick first refl

-- ---- and before that the units settle: that tells ARM9 of an interrupt, and triggers channels of it

pub record SettleLeaves (old new : IoState) : Type 0 where
  pub video : new.video ≡ old.video
  pub gx : new.gx ≡ old.gx
  pub seven : new.seven ≡ old.seven
  pub halted : new.nine.halted ≡ old.nine.halted
  pub timers : new.nine.timers ≡ old.nine.timers
  pub keycnt : new.nine.keycnt ≡ old.nine.keycnt
  pub card : new.card ≡ old.card

settle_by : (tick : Tick) (half : Bool) (u : IoState) → SettleLeaves u (if half then record (level_told u) { nine = processor_io_triggered (level_told u).nine causes.Geometry tick } else level_told u)
settle_by tick true u = record { video = refl; gx = refl; seven = refl; halted = refl; timers = refl; keycnt = refl; card = refl }
settle_by tick false u = record { video = refl; gx = refl; seven = refl; halted = refl; timers = refl; keycnt = refl; card = refl }

pub settle_leaves : (tick : Tick) (u : IoState) → SettleLeaves u (settled tick u)
settle_leaves tick u =
    let l = settle_by tick (is_half_empty u.gx) u in
    record { video = l.video; gx = l.gx; seven = l.seven; halted = l.halted; timers = l.timers; keycnt = l.keycnt; card = l.card }

-- where no channel is to be triggered, none is
pub settled_dma : (tick : Tick) (u : IoState) → IsIo u → (is_half_empty u.gx && awaits_geometry u.nine.dma) ≡ false → (settled tick u).nine.dma ≡ u.nine.dma
settled_dma tick u is none = by_half (is_half_empty u.gx) none where
  by_half : (half : Bool) → (half && awaits_geometry u.nine.dma) ≡ false
      → (if half then record (level_told u) { nine = processor_io_triggered (level_told u).nine causes.Geometry tick } else level_told u).nine.dma ≡ u.nine.dma
  by_half true h = awaits_none u.nine.dma tick is.nine.dma.four h
  by_half false h = refl

-- and what is kept of a stall's end goes by the channels as they were
pub settled_released : (tick : Tick) (u : IoState) → IsIo u → (is_half_empty u.gx && awaits_geometry u.nine.dma) ≡ false → (settled tick u).released ≡ release_of u
settled_released tick u is none = by_half (is_half_empty u.gx) none where
  by_half : (half : Bool) → (half && awaits_geometry u.nine.dma) ≡ false
      → (release_kept (if half then record (level_told u) { nine = processor_io_triggered (level_told u).nine causes.Geometry tick } else level_told u)).released ≡ release_of u
  by_half true h = ap (λ (dma : DmaState). release_by (is_stalled u.gx) (dma_due dma) u.released) (awaits_none u.nine.dma tick is.nine.dma.four h)
  by_half false h = refl

pub settled_due : (tick : Tick) (s : MachineState) (proc : Proc) → (processor_of (machine_settled tick s) proc).due ≡ (processor_of s proc).due
settled_due tick s Nine = refl
settled_due tick s Seven = refl

settle_moves : (tick : Tick) (s : MachineState) → IsIo s.io → Moves tick s (machine_settled tick s)
settle_moves tick s is =
    let next = machine_settled tick s in
    let h = settled_happens tick s.io is in
    moves_of tick s next (inl refl) h.dues (λ proc.
    blocked_moves tick (is_blocked s proc) (is_blocked next proc) (processor_of s proc) (processor_of next proc) (settled_due tick s proc) (happens_held tick s.io next.io h proc))

-- so a step ends
pub record Ends (tick : Tick) (s next : MachineState) : Type 0 where
  pub moves : Moves tick s next
  pub sound : HasSoundParts next

pub ends : (tick : Tick) (s : MachineState) → HasSoundParts s → Ends tick s (ended tick s)
unfolding ended
ends tick s sound =
    let first = machine_settled tick s in
    let w = wakes_both tick first in
    record {
      moves = then_all tick s first (ended tick s) (settle_moves tick s sound.io) w.moves;
      sound = w.sound (record { io = (settled_happens tick s.io sound.io).io; keys = sound.keys });
    }

pub ended_counts : (tick : Tick) (s : MachineState) → counts_of (ended tick s) ≡ counts_of s
unfolding ended
ended_counts tick s = (wakes_both tick (machine_settled tick s)).counts

pub ended_asleep : (tick : Tick) (s : MachineState) → AreAsleep (ended tick s)
unfolding ended
ended_asleep tick s = woken_asleep tick (machine_settled tick s)

-- and the units are settled: waking leaves them so
on_settled : (proc : Proc) (tick : Tick) (s : MachineState) → is_settled (goes_on proc tick s).io ≡ is_settled s.io
on_settled Nine tick s = refl
on_settled Seven tick s = refl

one_settled : (b : Bool) (proc : Proc) (tick : Tick) (s : MachineState) → is_settled (if b then goes_on proc tick s else s).io ≡ is_settled s.io
one_settled true proc tick s = on_settled proc tick s
one_settled false proc tick s = refl

pub ended_settled : (tick : Tick) (s : MachineState) → IsIo s.io → is_settled (ended tick s).io ≡ true
unfolding ended
ended_settled tick s is =
    let first = machine_settled tick s in
    let woke = woken_one Nine tick first in
    one_settled (wakes woke Seven) Seven tick woke ∙ one_settled (wakes first Nine) Nine tick first ∙ settles tick s.io is
