use Rattle.ds_machine.proofs.Words.{AreKeyLines, Bool, Dma, DmaState, DmaUnit, Goes, GxState, HasOnlyLaterEvents, HasSoundParts, IoState, IsIo}
use Rattle.ds_machine.proofs.Words.{IsLater, IsSome, IsTold, IsUnchanged, LeftOut, List, MachineState, MachineStep, Makes, MapState, MovedGoes, Nine}
use Rattle.ds_machine.proofs.Words.{None, Option, Proc, ProcessorIoState, ProcessorState, ReadLeaves, Reschedules, ReschedulesEach, Seven, Shown}
use Rattle.ds_machine.proofs.Words.{Some, Stop, Stops, Tick, Timer, TimerState, VideoState, [], all_io_dues, all_later, ap, arith, card_due_for}
use Rattle.ds_machine.proofs.Words.{channel_due, channel_moved, channel_step, counts_of, delayed_past, dma_due, due_past_unit, due_unless, false}
use Rattle.ds_machine.proofs.Words.{goes_io, held_due, inl, inr, io_due, io_of, is_blocked, is_halted, is_held, is_stalled, le-max_right}
use Rattle.ds_machine.proofs.Words.{map_after_unit, map_of, map_read_leaves, map_value, map_write_goes, moved_by, moved_goes, next_unit, none-some}
use Rattle.ds_machine.proofs.Words.{not_both, of_both, one_event, other_proc, past_tick, processor_due, processor_io_is, processor_of, refl}
use Rattle.ds_machine.proofs.Words.{same_makes, same_stops, some_due, still_later, subst, sym, timer_at, timer_due, true, true≢false, unit_read}
use Rattle.ds_machine.proofs.Words.{unit_refusal, unit_taken, unit_waits, unit_waits_most, with_map, with_processor, ℕ, ◌+◌, ◌<◌, ◌∙◌, ◌≡◌}
use Rattle.ds_ports.specs.HappeningLaws.{LeavesTransfer}
use Rattle.ds_ports.proofs.HeldDues.{held_later}
use Rattle.ds_ports.proofs.Told.{told_on}
use Rattle.ds_machine.proofs.Ticks.{after_unit}
use Rattle.ds_machine.proofs.Moves.{Moves, left_after, other_held, read_held, read_io, moves_of, same_keys, then_io_dues}
use Rattle.ds_machine.proofs.Rooms.{unit_within}
use Rattle.ds_machine.proofs.Wakes.{halted_blocks, put_beside, put_counts, put_other, put_processor_io}

-- The event of a DMA channel.

-- ---- the machine with what a processor left of its map, and with another event

pub map_processor : (of : Proc) (s : MachineState) (map : MapState) (proc : Proc) → processor_of (with_map of s map) proc ≡ processor_of s proc
map_processor of s map Nine = refl
map_processor of s map Seven = refl

pub event_due : (s : MachineState) (proc : Proc) → processor_due (one_event s) proc ≡ processor_due s proc
event_due s Nine = refl
event_due s Seven = refl

-- a processor is due as before where it is held as before
left_due : (of : Proc) (s : MachineState) (map : MapState) (proc : Proc) → is_held map.io proc ≡ is_held s.io proc
    → processor_due (with_map of s map) proc ≡ processor_due s proc
left_due of s map proc left =
    ap (λ (blocked : Bool). due_unless blocked (processor_of (with_map of s map) proc)) left
    ∙ ap (λ (p : ProcessorState). due_unless (is_blocked s proc) p) (map_processor of s map proc)

-- ---- what it comes to

-- the machine after the unit was moved
abbrev pub machine_after_unit : Proc → Tick → DmaUnit → MachineState → MachineState
machine_after_unit proc now unit s = one_event (delayed_past proc now (with_map proc s (map_after_unit None proc now unit (map_of proc s))))

module _ (rank : ℕ) (proc : Proc) (now : Tick) (unit : DmaUnit) (s : MachineState) where
  made_by : (refusal : Option Stop) (made : MachineState) (outs : List Shown)
      → moved_by rank proc now refusal (with_map proc s (map_after_unit refusal proc now unit (map_of proc s))) ≡ Makes made outs → made ≡ machine_after_unit proc now unit s
  made_by None made outs h = sym (same_makes (machine_after_unit proc now unit s) made [] outs h).0
  made_by (Some stop) made outs h = absurd (not_both made (with_map proc s (unit_read proc now unit (map_of proc s))) outs _ (sym h))

  left_by : (refusal : Option Stop) (left : MachineState) (stop : LeftOut)
      → (let step : MachineStep MachineState Shown LeftOut = moved_by rank proc now refusal (with_map proc s (map_after_unit refusal proc now unit (map_of proc s))) in step ≡ Stops stop left)
      → with_map proc s (unit_read proc now unit (map_of proc s)) ≡ left
  left_by None left stop h = absurd (not_both (machine_after_unit proc now unit s) left [] stop h)
  left_by (Some why) left stop h = (same_stops (with_map proc s (unit_read proc now unit (map_of proc s))) left _ stop h).1

-- its step moves its unit
pub channel_made : (rank : ℕ) (proc : Proc) (now : Tick) (s made : MachineState) (outs : List Shown) → channel_step rank proc (Some now) s ≡ Makes made outs
    → made ≡ machine_after_unit proc now (next_unit s.io proc) s
channel_made rank proc now s made outs h =
    let unit = next_unit s.io proc in made_by rank proc now unit s (unit_refusal proc now unit (map_of proc s)) made outs h

-- one that stops leaves all as it was after the read
pub channel_unchanged : (rank : ℕ) (proc : Proc) (now : Tick) (s left : MachineState) (stop : LeftOut)
    → (let step : MachineStep MachineState Shown LeftOut = channel_step rank proc (Some now) s in step ≡ Stops stop left)
    → with_map proc s (unit_read proc now (next_unit s.io proc) (map_of proc s)) ≡ left
channel_unchanged rank proc now s left stop h =
    let unit = next_unit s.io proc in left_by rank proc now unit s (unit_refusal proc now unit (map_of proc s)) left stop h

pub event_counts : (s : MachineState) → counts_of (one_event s) ≡ counts_of s + 1
event_counts s = omega arith

pub unit_counts : (proc : Proc) (now : Tick) (unit : DmaUnit) (s : MachineState) → counts_of (machine_after_unit proc now unit s) ≡ counts_of s + 1
unit_counts proc now unit s =
    let moved = with_map proc s (map_after_unit None proc now unit (map_of proc s)) in
    let k = put_counts proc moved (past_tick (is_halted moved proc) (due_past_unit moved proc now) (processor_of moved proc)) in
    let e = event_counts (delayed_past proc now moved) in
    omega (arith, k, e)

-- ---- where it stops after the read

pub read_left : (proc : Proc) (now : Tick) (unit : DmaUnit) (s : MachineState) → ReadLeaves proc now s.io (unit_read proc now unit (map_of proc s)).io
read_left proc now unit s = map_read_leaves proc now (map_of proc s) unit.from unit.width

pub read_moves : (tick : Tick) (proc : Proc) (unit : DmaUnit) (s : MachineState) → Moves tick s (with_map proc s (unit_read proc tick unit (map_of proc s)))
read_moves tick proc unit s =
    let left = read_left proc tick unit s in
    let read = unit_read proc tick unit (map_of proc s) in
    moves_of tick s (with_map proc s read) (inl refl) left.each (λ each. inl (left_due proc s read each (read_held proc tick s.io read.io left each)))

pub read_sound : (proc : Proc) (now : Tick) (unit : DmaUnit) (s : MachineState) → HasSoundParts s → HasSoundParts (with_map proc s (unit_read proc now unit (map_of proc s)))
read_sound proc now unit s sound =
    record { io = read_io proc now s.io (unit_read proc now unit (map_of proc s)).io sound.io (read_left proc now unit s); keys = sound.keys }

-- ---- where it moves its unit

-- a channel that is due isn't held by a stall, and is due by its own then or before
held_some : (stalled : Bool) (released now : ℕ) (d : Option Tick) → held_due stalled released d ≡ Some (record { 0 = now }) → (at : Tick) × (d ≡ Some at)
held_some true released now d h = absurd (none-some (record { 0 = now }) h)
held_some false released now None h = absurd (none-some (record { 0 = now }) h)
held_some false released now (Some at) h = (at, refl)

pub channel_is_due : (proc : Proc) (channel : ℕ) (now : Tick) (u : IoState) → io_due (Dma proc channel) u ≡ Some now → IsSome (dma_due (io_of u proc).dma)
channel_is_due Nine channel now u h = let k = held_some (is_stalled u.gx) u.released now.0 (channel_due u.nine.dma channel) h in some_due u.nine.dma channel k.0 k.1
channel_is_due Seven channel now u h = some_due u.seven.dma channel now h

-- held or not, a channel is due later that is due later
dma_later : (proc : Proc) (channel : ℕ) (now : Tick) (u : IoState) → IsLater now (channel_due (io_of u proc).dma channel) → IsLater now (io_due (Dma proc channel) u)
dma_later Nine channel now u h = held_later now (is_stalled u.gx) u.released (channel_due u.nine.dma channel) h
dma_later Seven channel now u h = h

-- a processor whose own is the same, and geometry too, is held as before
held_alike : (proc : Proc) (old new : IoState) → io_of new proc ≡ io_of old proc → new.gx ≡ old.gx → is_held new proc ≡ is_held old proc
held_alike Nine old new own gx = rw (own, gx) refl
held_alike Seven old new own gx = rw own refl

-- by the same transfers a channel is due
same_some : (proc : Proc) (old new : IoState) → IsUnchanged (io_of old proc) (io_of new proc) → IsSome (dma_due (io_of old proc).dma) → IsSome (dma_due (io_of new proc).dma)
same_some proc old new left h = subst (λ (dma : DmaState). IsSome (dma_due dma)) (sym left.dma) h

-- a processor that waits until after a tick is due later, or not at all
past_later : (now : Tick) (least : ℕ) (halted blocked : Bool) (p : ProcessorState) → now.0 < least → (halted ≡ true → blocked ≡ true)
    → IsLater now (due_unless blocked (past_tick halted least p))
past_later now least halted true p lt h = tt
past_later now least true false p lt h = absurd (true≢false (sym (h refl)))
past_later now least false false p lt h = omega (arith, lt, le-max_right p.due least)

module _ (proc : Proc) (channel : ℕ) (now : Tick) (unit : DmaUnit) (s : MachineState) (sound : HasSoundParts s) (lt : channel < 4)
    (due : io_due (Dma proc channel) s.io ≡ Some now)
    (timers : (which : ℕ) → which < 4 → IsLater now (io_due (Timer proc which) s.io)) where
  abbrev read : IoState
  read = (unit_read proc now unit (map_of proc s)).io

  left : ReadLeaves proc now s.io read
  left = read_left proc now unit s

  abbrev taken : MapState
  taken = unit_taken proc now unit (map_of proc s)

  abbrev written : MapState
  written = map_after_unit None proc now unit (map_of proc s)

  read_is : IsIo read
  read_is = read_io proc now s.io read sound.io left

  moves : MovedGoes proc now read taken.io
  moves = moved_goes proc now (unit_waits proc now unit (map_of proc s)) read (unit_waits_most proc now unit (map_of proc s)) read_is (same_some proc s.io read (left.processor_io proc) (channel_is_due proc channel now s.io due))

  is_quiet : HasOnlyLaterEvents now (io_of taken.io proc)
  is_quiet = record {
    timers = λ which small. subst (λ (all : List TimerState). IsLater now (timer_due (timer_at all which))) (sym (moves.timers proc ∙ (left.processor_io proc).timers)) (timers which small);
    dma = moves.later;
  }

  goes : Goes proc now taken.io written.io
  goes =
      map_write_goes proc now taken (processor_io_is taken.io moves.io proc) is_quiet unit.to unit.width (map_value proc now (map_of proc s) unit.from unit.width)

  dues : ReschedulesEach now s.io written.io
  dues =
      then_io_dues now s.io read written.io left.each
      (then_io_dues now read taken.io written.io moves.dues (all_io_dues proc now taken.io written.io goes))

  other : IsUnchanged (io_of s.io (other_proc proc)) (io_of written.io (other_proc proc))
  other =
      left_after (io_of s.io (other_proc proc)) (io_of read (other_proc proc)) (io_of written.io (other_proc proc)) (left.processor_io (other_proc proc))
      (subst (λ (o : ProcessorIoState). IsUnchanged o (io_of written.io (other_proc proc))) moves.other goes.other)

  told : IsTold (io_of s.io (other_proc proc)).irq (io_of written.io (other_proc proc)).irq
  told =
      told_on (io_of s.io (other_proc proc)).irq (io_of read (other_proc proc)).irq (io_of written.io (other_proc proc)).irq left.told
      (subst (λ (o : ProcessorIoState). IsTold o.irq (io_of written.io (other_proc proc)).irq) moves.other goes.told)

  -- the other processor is held as before
  other_as_before : is_held written.io (other_proc proc) ≡ is_held s.io (other_proc proc)
  other_as_before = other_held proc now taken.io written.io goes ∙ moved_held ∙ read_held proc now s.io read left (other_proc proc) where
    moved_held : is_held taken.io (other_proc proc) ≡ is_held read (other_proc proc)
    moved_held = held_alike (other_proc proc) read taken.io moves.other moves.gx

  io : IsIo written.io
  io = goes_io proc now taken.io written.io (unit_within proc channel now unit s sound.io.gx due) moves.io goes

  abbrev past : ProcessorState
  past = let m = with_map proc s written in past_tick (is_halted m proc) (due_past_unit m proc now) (processor_of m proc)

  pub unit_moves : Moves now s (machine_after_unit proc now unit s)
  unit_moves =
      let next = machine_after_unit proc now unit s in
      let m = with_map proc s written in
      let b = put_beside proc m past in
      moves_of now s next (same_keys now s.keys next.keys b.keys) (subst (ReschedulesEach now s.io) (sym b.io) dues)
      (of_both (λ each. Reschedules now (processor_due s each) (processor_due next each)) proc
      (inr (subst (IsLater now) (sym (event_due (with_processor proc m past) proc ∙ put_processor_io proc m past))
      (past_later now (due_past_unit m proc now) (is_halted m proc) (is_blocked m proc) (processor_of m proc) (after_unit (io_of m.io proc).dma.last now) (halted_blocks m proc))))
      (inl (event_due (with_processor proc m past) (other_proc proc) ∙ put_other proc m past ∙ left_due proc s written (other_proc proc) other_as_before)))

  -- the other processor's own, and the display, are as before
  pub unit_other : IsUnchanged (io_of s.io (other_proc proc)) (io_of (machine_after_unit proc now unit s).io (other_proc proc))
  unit_other =
      let b = put_beside proc (with_map proc s written) past in
      subst (λ (u : IoState). IsUnchanged (io_of s.io (other_proc proc)) (io_of u (other_proc proc))) (sym b.io) other

  pub unit_video : (machine_after_unit proc now unit s).io.video.scan ≡ s.io.video.scan
  unit_video =
      let b = put_beside proc (with_map proc s written) past in
      ap (λ (u : IoState). u.video.scan) b.io ∙ goes.scan ∙ ap (λ (v : VideoState). v.scan) moves.video ∙ left.scan

  -- the other is told of the IPC interrupts and of nothing else
  pub unit_told : IsTold (io_of s.io (other_proc proc)).irq (io_of (machine_after_unit proc now unit s).io (other_proc proc)).irq
  unit_told =
      let b = put_beside proc (with_map proc s written) past in
      subst (λ (u : IoState). IsTold (io_of s.io (other_proc proc)).irq (io_of u (other_proc proc)).irq) (sym b.io) told

  pub unit_sound : HasSoundParts (machine_after_unit proc now unit s)
  unit_sound =
      let b = put_beside proc (with_map proc s written) past in
      record { io = subst IsIo (sym b.io) io; keys = subst AreKeyLines (sym b.keys) sound.keys }

  -- the channel is due later, or not at all
  pub unit_later : IsLater now (io_due (Dma proc channel) (machine_after_unit proc now unit s).io)
  unit_later =
      let b = put_beside proc (with_map proc s written) past in
      subst (λ (u : IoState). IsLater now (io_due (Dma proc channel) u)) (sym b.io)
      (dma_later proc channel now written.io
      (still_later now None (channel_due (io_of written.io proc).dma channel) tt (all_later now (io_of written.io proc).dma None goes.quiet.dma channel lt)))

  -- the display's last whole frame is as it was
  pub unit_whole : (machine_after_unit proc now unit s).io.video.whole ≡ s.io.video.whole
  unit_whole =
      let b = put_beside proc (with_map proc s written) past in
      ap (λ (u : IoState). u.video.whole) b.io ∙ goes.whole ∙ ap (λ (v : VideoState). v.whole) moves.video ∙ left.whole

  -- of geometry the current run is as long as it was, and the lists of the last swap are as they were; a channel of ARM7's leaves all of it
  pub unit_run : (machine_after_unit proc now unit s).io.gx.geometry.numbers.run ≡ s.io.gx.geometry.numbers.run
  unit_run =
      let b = put_beside proc (with_map proc s written) past in
      ap (λ (u : IoState). u.gx.geometry.numbers.run) b.io ∙ goes.geometry.run ∙ ap (λ (g : GxState). g.geometry.numbers.run) (moves.gx ∙ left.gx)

  pub unit_lists : (machine_after_unit proc now unit s).io.gx.geometry.last ≡ s.io.gx.geometry.last
  unit_lists =
      let b = put_beside proc (with_map proc s written) past in
      ap (λ (u : IoState). u.gx.geometry.last) b.io ∙ goes.geometry.last ∙ ap (λ (g : GxState). g.geometry.last) (moves.gx ∙ left.gx)

  pub unit_gx : proc ≡ Seven → (machine_after_unit proc now unit s).io.gx ≡ s.io.gx
  unit_gx e =
      let b = put_beside proc (with_map proc s written) past in
      ap (λ (u : IoState). u.gx) b.io ∙ goes.geometry.of_seven e ∙ moves.gx ∙ left.gx

  pub unit_released : (machine_after_unit proc now unit s).io.released ≡ s.io.released
  unit_released =
      let b = put_beside proc (with_map proc s written) past in
      ap (λ (u : IoState). u.released) b.io ∙ goes.geometry.released ∙ moves.released ∙ left.released

  -- the transfer of the card that the other processor started is due as it was
  pub unit_card : LeavesTransfer proc s.io.card (machine_after_unit proc now unit s).io.card
  unit_card =
      let b = put_beside proc (with_map proc s written) past in
      ap (λ (u : IoState). card_due_for (other_proc proc) u.card) b.io ∙ goes.card ∙ ap (card_due_for (other_proc proc)) (moved_card proc read (unit_waits proc now unit (map_of proc s)))
      ∙ left.card where
        moved_card : (proc : Proc) (u : IoState) (waits : ℕ) → (channel_moved proc now waits u).card ≡ u.card
        moved_card Nine u waits = refl
        moved_card Seven u waits = refl
