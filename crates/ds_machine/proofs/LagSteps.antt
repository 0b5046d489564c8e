use Rattle.ds_machine.proofs.Words.{Access, Arch, Banks, Bool, Cell, Dma, Dtcm, Fetch, Geometry, GeometryCommand, GxState, Half, Instr, IoState}
use Rattle.ds_machine.proofs.Words.{IsLater, IsSound, Itcm, LeftOut, List, MachineState, MachineStep, Makes, MapState, Nine, NineReach, None, Nothing}
use Rattle.ds_machine.proofs.Words.{Option, Past, Place, Port, Proc, Processor, Read, RegisterState, Rom, Seven, Shown, Some, Tcm, Tick, Timer, Video}
use Rattle.ds_machine.proofs.Words.{Width, Word, Write, [], access_observes, acting_due, acting_dues, actors, after_geometry, and_parts, any_armed}
use Rattle.ds_machine.proofs.Words.{any_observes, ap, awaits_geometry, blocks_processor, channel_due, complete_command, data_accesses, decoded_arm}
use Rattle.ds_machine.proofs.Words.{decoded_thumb, dma_due, done_by, due_by, due_unless, ended, enters, equal, false, fetched, fetched_at}
use Rattle.ds_machine.proofs.Words.{fetched_half, fetched_word, finished_later, finished_waiting, geometry_rank, gx_finished, gx_level, held_due}
use Rattle.ds_machine.proofs.Words.{if◌then◌else◌, irq_levelled, is_equal, is_half_empty, is_quiet, is_settled, is_some, is_stalled, is_thumb}
use Rattle.ds_machine.proofs.Words.{line_of, map_fetched, max, nine_memory, nine_observes, nine_reach, nine_side, no_stall_begins, not, not-true}
use Rattle.ds_machine.proofs.Words.{observes_by, one_event, place_of, reference_step, refl, release_by, release_of, stall_ends, steps_as, sym, tcm_of}
use Rattle.ds_machine.proofs.Words.{tick_after, tick_of, true, true≢false, wakes, with_gx, with_io, with_processor, ℕ, ◌%◌, ◌&&◌, ◌==◌, ◌^◌, ◌||◌}
use Rattle.ds_machine.proofs.Words.{◌∙◌, ◌∷◌, ◌≡◌, ◌≢◌}
use Rattle.ds_machine.proofs.NineReads.{tcm_fetched}
use Rattle.ds_runs.specs.declared.actors.Actor as actor
use Rattle.ds_machine.proofs.ActingDues.{maps_same}
use Rattle.ds_machine.proofs.FastSteps.{end_stays}
use Rattle.ds_machine.proofs.LagCommutes.{gx_put, late_put, none_awaits, silent_level}

-- The step of quiet geometry: nobody hears of it, so that it changes geometry and no more.

-- ---- what is so where geometry is quiet

pub record QuietParts (u : IoState) : Type 0 where
  pub tick : Tick
  pub due : u.gx.due ≡ Some tick
  pub selector : u.gx.selector ≡ 0
  pub disarmed : any_armed u.nine.dma ≡ false
  pub free : is_stalled u.gx ≡ false

some_is : (o : Option Tick) → is_some o ≡ true → (tick : Tick) × (o ≡ Some tick)
some_is None h = absurd (true≢false (sym h))
some_is (Some tick) h = (tick, refl)

pub quiet_parts : (u : IoState) → is_quiet u ≡ true → QuietParts u
quiet_parts u h =
    let a = and_parts (is_some u.gx.due) ((u.gx.selector == 0) && (not (any_armed u.nine.dma) && not (is_stalled u.gx))) h in
    let b = and_parts (u.gx.selector == 0) (not (any_armed u.nine.dma) && not (is_stalled u.gx)) a.1 in
    let c = and_parts (not (any_armed u.nine.dma)) (not (is_stalled u.gx)) b.1 in
    let some = some_is u.gx.due a.0 in
    record {
      tick = some.0;
      due = some.1;
      selector = equal u.gx.selector 0 b.0;
      disarmed = not-true (any_armed u.nine.dma) c.0;
      free = not-true (is_stalled u.gx) c.1;
    }

-- else geometry is quiet exactly where it is due
quiet_by : (some none armed stalled : Bool) → none ≡ true → armed ≡ false → stalled ≡ false → (some && (none && (not armed && not stalled))) ≡ some
quiet_by true none armed stalled a b c = rw (a, b, c) refl
quiet_by false none armed stalled a b c = refl

pub quiet_where_due : (u : IoState) → u.gx.selector ≡ 0 → any_armed u.nine.dma ≡ false → is_stalled u.gx ≡ false → is_quiet u ≡ is_some u.gx.due
quiet_where_due u selector disarmed free =
    quiet_by (is_some u.gx.due) (u.gx.selector == 0) (any_armed u.nine.dma) (is_stalled u.gx) (is_equal u.gx.selector 0 selector) disarmed free

-- ---- what its step leaves of geometry

done_selector : (due : Option Tick) (head : Option GeometryCommand) (s : GxState) → (done_by due head s).selector ≡ s.selector
done_selector None head s = refl
done_selector (Some now) None s = refl
done_selector (Some now) (Some command) s = refl

pub record QuietLeaves (s : GxState) (tick : Tick) : Type 0 where
  pub free : is_stalled (gx_finished s) ≡ false
  pub selector : (gx_finished s).selector ≡ 0
  pub later : IsLater tick (gx_finished s).due

pub quiet_leaves : (s : MachineState) (tick : Tick) → IsSound s → is_quiet s.io ≡ true → s.io.gx.due ≡ Some tick → QuietLeaves s.io.gx tick
quiet_leaves s tick sound quiet due =
    let k = quiet_parts s.io quiet in
    record {
      free = no_stall_begins s.io.gx k.free;
      selector = done_selector s.io.gx.due (complete_command s.io.gx.fifo.entries) s.io.gx ∙ k.selector;
      later = finished_later s.io.gx tick sound.parts.io.gx due;
    }

-- ---- the units are settled as before with another geometry of which nobody hears

no_room : (a b waits : Bool) → waits ≡ false → (a && waits) ≡ (b && waits)
no_room true true waits h = refl
no_room true false waits h = h
no_room false true waits h = sym h
no_room false false waits h = refl

pub settled_so : (u : IoState) (g : GxState) → g.selector ≡ 0 → u.gx.selector ≡ 0 → is_stalled g ≡ is_stalled u.gx → any_armed u.nine.dma ≡ false
    → is_settled (with_gx g u) ≡ is_settled u
settled_so u g here there stalls disarmed =
    ap (λ (stalled : Bool). ((irq_levelled u.nine.irq (gx_level g)).if_ == u.nine.irq.if_)
    && (not (is_half_empty g && awaits_geometry u.nine.dma) && (release_by stalled (dma_due u.nine.dma) u.released == u.released))) stalls
    ∙ ap (λ (on : Bool). ((irq_levelled u.nine.irq on).if_ == u.nine.irq.if_) && (not (is_half_empty g && awaits_geometry u.nine.dma) && (release_of u == u.released))) (silent_level g here ∙ sym (silent_level u.gx there))
    ∙ ap (λ (b : Bool). ((irq_levelled u.nine.irq (gx_level u.gx)).if_ == u.nine.irq.if_) && (not b && (release_of u == u.released)))
    (no_room (is_half_empty g) (is_half_empty u.gx) (awaits_geometry u.nine.dma) (none_awaits u.nine.dma disarmed))

-- ---- the machine after it is sound

pub sound_late : (s : MachineState) → IsSound s → is_quiet s.io ≡ true → IsSound (late_put (gx_finished s.io.gx) s)
sound_late s sound quiet =
    let k = quiet_parts s.io quiet in
    record {
      parts = record {
        io = record { nine = sound.parts.io.nine; seven = sound.parts.io.seven; gx = finished_waiting s.io.gx sound.parts.io.gx };
        keys = sound.parts.keys;
      };
      asleep = asleep;
      settled =
          settled_so s.io (gx_finished s.io.gx) (done_selector s.io.gx.due (complete_command s.io.gx.fifo.entries) s.io.gx ∙ k.selector) k.selector
          (no_stall_begins s.io.gx k.free ∙ sym k.free) k.disarmed ∙ sound.settled;
    } where
      asleep : (proc : Proc) → wakes (late_put (gx_finished s.io.gx) s) proc ≡ false
      asleep Nine = sound.asleep Nine
      asleep Seven = sound.asleep Seven

-- ---- the step

pub no_stall_ends : (s : MachineState) → is_stalled s.io.gx ≡ false → stall_ends s.io ≡ false
no_stall_ends s h = ap (λ (b : Bool). b && not (is_stalled (gx_finished s.io.gx))) h

pub geometry_late : (s : MachineState) → stall_ends s.io ≡ false → after_geometry s ≡ late_put (gx_finished s.io.gx) s
geometry_late s h =
    ap (λ (b : Bool).
    with_processor Nine
    (one_event (with_io s (record s.io { gx = gx_finished s.io.gx; released = if b then tick_after s.io.gx.due s.io.released else s.io.released })))
    (record s.nine.processor { due = if b && not s.io.nine.halted then max s.nine.processor.due (tick_after s.io.gx.due s.nine.processor.due) else s.nine.processor.due })) h

pub quiet_step : (s : MachineState) → IsSound s → is_quiet s.io ≡ true → reference_step geometry_rank s ≡ Makes (late_put (gx_finished s.io.gx) s) []
quiet_step s sound quiet =
    let k = quiet_parts s.io quiet in
    let late = late_put (gx_finished s.io.gx) s in
    let after = sound_late s sound quiet in
    let same : ended k.tick (after_geometry s) ≡ late =
    ap (ended k.tick) (geometry_late s (no_stall_ends s k.free)) ∙ end_stays k.tick late after.parts.io after.settled after.asleep in
    let came : MachineStep MachineState Shown LeftOut = Makes late [] in
    steps_as s geometry_rank Geometry (Some k.tick) came refl k.due (ap (λ (m : MachineState). (let step : MachineStep MachineState Shown LeftOut = Makes m [] in step)) same)

-- ---- when the others are due

abbrev pub is_geometry : actor.Actor → Bool
is_geometry Geometry = true
is_geometry _ = false

not_geometry : (a : actor.Actor) → a ≢ Geometry → is_geometry a ≡ false
not_geometry Geometry other = absurd (other refl)
not_geometry _ other = refl

pub due_so : (a : actor.Actor) (g : GxState) (s : MachineState) → is_geometry a ≡ false → is_stalled g ≡ is_stalled s.io.gx → due_by a (gx_put g s) ≡ due_by a s
due_so Geometry g s other same = absurd (true≢false other)
due_so (Timer Nine number) g s other same = refl
due_so (Timer Seven number) g s other same = refl
due_so (Dma Nine channel) g s other same = ap (λ (stalled : Bool). held_due stalled s.io.released (channel_due s.io.nine.dma channel)) same
due_so (Dma Seven channel) g s other same = refl
due_so (Processor Nine) g s other same = ap (λ (stalled : Bool). due_unless (blocks_processor s.io.nine || stalled) s.nine.processor) same
due_so (Processor Seven) g s other same = refl
due_so _ g s other same = refl

-- a count of events changes no due tick
due_counted : (a : actor.Actor) (g : GxState) (s : MachineState) → due_by a (late_put g s) ≡ due_by a (gx_put g s)
due_counted (Processor Nine) g s = refl
due_counted (Processor Seven) g s = refl
due_counted _ g s = refl

pub others_due : (a : actor.Actor) (g : GxState) (s : MachineState) → a ≢ Geometry → is_stalled g ≡ is_stalled s.io.gx → due_by a (late_put g s) ≡ due_by a s
others_due a g s other same = due_counted a g s ∙ due_so a g s (not_geometry a other) same

-- all act that are due, but quiet geometry
quiet_never : (quiet : Bool) (due : Option Tick) → quiet ≡ is_some due → (if quiet then None else due) ≡ None
quiet_never true due h = refl
quiet_never false None h = refl
quiet_never false (Some tick) h = absurd (true≢false (sym h))

pub quiet_acts_never : (s : MachineState) → is_quiet s.io ≡ true → acting_due Geometry s ≡ None
quiet_acts_never s quiet = ap (λ (b : Bool). if b then None else due_by Geometry s) quiet

acting_so : (s : MachineState) (g : GxState) → is_quiet s.io ≡ true → g.selector ≡ 0 → is_stalled g ≡ false
    → (a : actor.Actor) → acting_due a (late_put g s) ≡ acting_due a s
acting_so s g quiet selector free Geometry =
    let k = quiet_parts s.io quiet in
    quiet_never (is_quiet (with_gx g s.io)) g.due (quiet_where_due (with_gx g s.io) selector k.disarmed free) ∙ sym (quiet_acts_never s quiet)
acting_so s g quiet selector free (Dma Nine channel) = due_so (Dma Nine channel) g s refl (free ∙ sym (quiet_parts s.io quiet).free)
acting_so s g quiet selector free (Processor Nine) = due_so (Processor Nine) g s refl (free ∙ sym (quiet_parts s.io quiet).free)
acting_so s g quiet selector free (Timer Nine number) = refl
acting_so s g quiet selector free (Timer Seven number) = refl
acting_so s g quiet selector free (Dma Seven channel) = refl
acting_so s g quiet selector free (Processor Seven) = refl
acting_so s g quiet selector free _ = refl

pub acting_same : (s : MachineState) → IsSound s → is_quiet s.io ≡ true → acting_dues (late_put (gx_finished s.io.gx) s) ≡ acting_dues s
unfolding acting_dues
acting_same s sound quiet =
    let k = quiet_parts s.io quiet in
    let l = quiet_leaves s k.tick sound quiet k.due in
    maps_same (λ (a : actor.Actor). acting_due a (late_put (gx_finished s.io.gx) s)) (λ (a : actor.Actor). acting_due a s)
    (acting_so s (gx_finished s.io.gx) quiet l.selector l.free) actors

-- ---- what observes geometry doesn't depend on it

-- what is fetched, of ports too, is the same
place_fetched : (place : Place) (g : GxState) (m : MapState) (width : Width) → fetched_at Nine place (record m { io = with_gx g m.io }) width ≡ fetched_at Nine place m width
place_fetched (Cell memory at) g m width = refl
place_fetched (Banks space at) g m width = refl
place_fetched (Port at) g m width = refl
place_fetched (Rom at) g m width = refl
place_fetched Nothing g m width = refl

past_fetched : (g : GxState) (m : MapState) (at : ℕ) (width : Width) → map_fetched Nine (record m { io = with_gx g m.io }) at width ≡ map_fetched Nine m at width
unfolding map_fetched
past_fetched g m at width = place_fetched (place_of Nine m.io.wramcnt at) g m width

abbrev reach_put : GxState → NineReach → NineReach
reach_put g r = record r { map = record r.map { io = with_gx g r.map.io } }

tcm_fetch : (tcm : Tcm) (g : GxState) (r : NineReach) (at : ℕ) (width : Width) → tcm_fetched tcm (reach_put g r) at width ≡ tcm_fetched tcm r at width
tcm_fetch (Itcm place) g r at width = refl
tcm_fetch (Dtcm place) g r at width = refl
tcm_fetch Past g r at width = past_fetched g r.map at width

fetch_so : (thumb : Bool) (arch : Arch) (g : GxState) (registers : RegisterState) (r : NineReach)
    → (if thumb then fetched_half nine_memory arch registers (reach_put g r) else fetched_word nine_memory arch registers (reach_put g r)).instr
    ≡ (if thumb then fetched_half nine_memory arch registers r else fetched_word nine_memory arch registers r).instr
fetch_so true arch g registers r = ap (λ (n : ℕ). decoded_thumb arch (n % 2 ^ 16)) (tcm_fetch (tcm_of r.cp15 registers.pc false true) g r registers.pc Half)
fetch_so false arch g registers r = ap (λ (n : ℕ). decoded_arm arch n) (tcm_fetch (tcm_of r.cp15 registers.pc false true) g r registers.pc Word)

access_so : (g : GxState) (r : NineReach) (access : Access) → access_observes (reach_put g r) access ≡ access_observes r access
access_so g r (Fetch at width) = refl
access_so g r (Read at width) = refl
access_so g r (Write at width value) = refl

accesses_so : (g : GxState) (r : NineReach) (accesses : List Access) → any_observes (reach_put g r) accesses ≡ any_observes r accesses
accesses_so g r [] = refl
accesses_so g r (access ∷ rest) =
    ap (λ (b : Bool). b || any_observes (reach_put g r) rest) (access_so g r access) ∙ ap (λ (b : Bool). access_observes r access || b) (accesses_so g r rest)

nine_so : (g : GxState) (s : MachineState) → nine_observes (late_put g s) ≡ nine_observes s
nine_so g s =
    let registers = s.nine.processor.registers in
    let r = nine_reach (tick_of s.nine.processor) s in
    let list : Option Instr → List Access = λ instr. data_accesses nine_side.step.arch (nine_side.step.base r) registers instr in
    let free = not (enters (line_of s Nine) registers) in
    ap (λ (instr : Option Instr). free && any_observes (reach_put g r) (list instr)) (fetch_so (is_thumb registers) nine_side.step.arch g registers r)
    ∙ ap (λ (b : Bool). free && b) (accesses_so g r (list (fetched nine_memory nine_side.step.arch registers r).instr))

pub observes_same : (a : actor.Actor) (g : GxState) (s : MachineState) → observes_by a (late_put g s) ≡ observes_by a s
observes_same Video g s = refl
observes_same (Dma Nine channel) g s = refl
observes_same (Dma Seven channel) g s = refl
observes_same (Processor Nine) g s = nine_so g s
observes_same (Processor Seven) g s = refl
observes_same _ g s = refl
