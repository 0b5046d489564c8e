use Rattle.ds_machine.proofs.Words.{Bool, Cost, Dma, DmaState, Geometry, Halted, IoState, IsPastBy, KeyLine, KeyScript, LastUnit, Left, List}
use Rattle.ds_machine.proofs.Words.{MachineState, Makes, Nine, None, Option, Proc, Processor, ProcessorState, Seven, Shown, Some, Tick, Video, []}
use Rattle.ds_machine.proofs.Words.{after_both, after_event, after_geometry, after_line, after_video, ap, arith, channel_at, channel_due}
use Rattle.ds_machine.proofs.Words.{channel_step, due_past_unit, due_then, either, ended, false, goes_on, gone_by, held_due, if◌then◌else◌, io_due}
use Rattle.ds_machine.proofs.Words.{io_of, is_blocked, is_halted, is_stalled, last_tick, le-max_right, least_running, machine_settled, map_after_unit}
use Rattle.ds_machine.proofs.Words.{map_of, max, nat_le, next_unit, none-some, not, of_both, one_event, option_map, other_proc, past_tick, past_unit}
use Rattle.ds_machine.proofs.Words.{processor_of, refl, same_Some, same_makes, scan_due, scan_due_tick, scan_line_start, stall_ends, starts_vblank}
use Rattle.ds_machine.proofs.Words.{step_by, subst, swapped_if, sym, tick_after, tick_of, true, video_done, video_stop, wakes, with_map}
use Rattle.ds_machine.proofs.Words.{with_processor, woken_one, ℕ, ◌&&◌, ◌+◌, ◌<◌, ◌==◌, ◌^◌, ◌∙◌, ◌∷◌, ◌≡◌, ◌≤◌}
use Rattle.ds_ports.proofs.WithinPorts.{Stays}
use Rattle.arm_core.specs.declared.outcomes.Stepped as arm
use Rattle.ds_dma.specs.States.{WaitsBriefly}
use Rattle.ds_ports.proofs.WithinEvents.{event_stays, geometry_stays, halt_stays, keys_stay, settle_stays, show_stays, swap_stays}
use Rattle.ds_runs.specs.declared.actors.Actor as actor
use Rattle.ds_machine.proofs.ChannelEvents.{channel_is_due, channel_made, machine_after_unit, map_processor}
use Rattle.ds_machine.proofs.Halting.{event_due, gone_other, unit_other_due}
use Rattle.ds_machine.proofs.MachineSchedule.{Steps}
use Rattle.ds_machine.proofs.MostCosts.{CostsAtMost, step_costs_few}
use Rattle.ds_machine.proofs.ProcessorSteps.{Took, came_by, concludes, costs_some, reached_by, reaches, step_is}
use Rattle.ds_machine.proofs.VideoEvents.{video_makes}
use Rattle.ds_machine.proofs.Wakes.{put_beside}
use Rattle.ds_machine.proofs.WithinAccesses.{step_stays, unit_stays}

-- Each step at a tick below a limit keeps the units within it, and each processor due soon after it.

-- ---- ticks that aren't 0

abbrev HasTick : Option Tick → Type 0
HasTick None = Unit {0}
HasTick (Some tick) = 1 ≤ tick.0

ready_some : (last : Option LastUnit) (trigger : Option Tick) → HasTick (option_map (after_both last) trigger)
ready_some last None = tt
ready_some None (Some trigger) = omega arith
ready_some (Some last) (Some trigger) = omega arith

channel_some : (dma : DmaState) (channel : ℕ) → HasTick (channel_due dma channel)
channel_some dma channel =
    either HasTick (channel == least_running dma.channels) (option_map (after_both dma.last) (channel_at dma.channels channel).trigger) None
    (ready_some dma.last (channel_at dma.channels channel).trigger) tt

held_some : (stalled : Bool) (released : ℕ) (due : Option Tick) → HasTick due → HasTick (held_due stalled released due)
held_some true released due h = tt
held_some false released None h = tt
held_some false released (Some due) h = let le = le-max_right released due.0 in omega (arith, le, h)

unit_tick : (proc : Proc) (channel : ℕ) (now : Tick) (u : IoState) → io_due (Dma proc channel) u ≡ Some now → 1 ≤ now.0
unit_tick Nine channel now u e =
    subst HasTick e (held_some (is_stalled u.gx) u.released (channel_due u.nine.dma channel) (channel_some u.nine.dma channel))
unit_tick Seven channel now u e = subst HasTick e (channel_some u.seven.dma channel)

scan_tick : (blanked : Bool) (start : ℕ) → 1 ≤ start + (if blanked then 4260 else 3212)
scan_tick true start = omega arith
scan_tick false start = omega arith

-- ---- a processor goes on soon

module _ (limit : ℕ) where
  past_soon : (last : Option LastUnit) (now : Tick) → now.0 ≤ limit → WaitsBriefly last → IsPastBy limit (last_tick last)
      → past_unit last now ≤ limit + 17
  past_soon None now le brief h = omega (arith, le)
  past_soon (Some last) now le brief h =
      let late = h.1 in omega (arith, le, brief, late)

  unit_soon : (proc : Proc) (s : MachineState) (now : Tick) → now.0 ≤ limit → Stays limit s.io → due_past_unit s proc now ≤ limit + 17
  unit_soon proc s now le h = past_soon (io_of s.io proc).dma.last now le (h.is proc).dma.last (h.within.own proc).dma.last

  -- ---- each actor's step

  abbrev pub AreSoon : MachineState → Type 0
  AreSoon s = (proc : Proc) → (processor_of s proc).due ≤ limit + 2 ^ 32

  pub record StepStays (s : MachineState) : Type 0 where
    pub io : Stays limit s.io
    pub own : AreSoon s

  line_stays : (s : MachineState) (lines : List KeyLine) → StepStays s → StepStays (after_line lines s)
  line_stays s [] h = h
  line_stays s (line ∷ lines) h = record { io = keys_stay limit s.io line.pressed h.io; own = own } where
    own : AreSoon (after_line (line ∷ lines) s)
    own Nine = h.own Nine
    own Seven = h.own Seven

  swap_if : (swaps : Bool) (now : Tick) (u : IoState) → 1 ≤ now.0 → now.0 < limit → Stays limit u → Stays limit (swapped_if swaps now u)
  swap_if true now u some lt h = swap_stays limit now u some lt h
  swap_if false now u some lt h = h

  video_stays : (s : MachineState) → scan_due s.io.video.scan < limit → video_stop s.oam s.io.video ≡ None → StepStays s → StepStays (after_video s)
  video_stays s lt none h = record {
    io = swap_if (starts_vblank s.io.video.scan) (scan_due_tick s.io.video.scan) (video_done s.palette s.oam s.io)
        (scan_tick s.io.video.scan.blanked (scan_line_start s.io.video.scan)) lt (show_stays limit s.palette s.oam s.io lt none h.io);
    own = own;
  } where
    own : AreSoon (after_video s)
    own Nine = h.own Nine
    own Seven = h.own Seven

  stall_soon : (now : Tick) (gx_due : Option Tick) (ends : Bool) (due : ℕ) → gx_due ≡ Some now → now.0 < limit → due ≤ limit + 2 ^ 32
      → (if ends then max due (tick_after gx_due due) else due) ≤ limit + 2 ^ 32
  stall_soon now None ends due e lt h = absurd (none-some now e)
  stall_soon now (Some tick) true due e lt h =
      let same = ap (λ (t : Tick). t.0) (same_Some tick now e) in omega (arith, lt, h, same)
  stall_soon now (Some tick) false due e lt h = h

  geometry_soon : (now : Tick) (s : MachineState) → now.0 < limit → s.io.gx.due ≡ Some now → StepStays s → StepStays (after_geometry s)
  geometry_soon now s lt due h = record { io = geometry_stays limit now s.io lt due h.io; own = own } where
    own : AreSoon (after_geometry s)
    own Nine = stall_soon now s.io.gx.due (stall_ends s.io && not s.io.nine.halted) s.nine.processor.due due lt (h.own Nine)
    own Seven = h.own Seven

  past_tick_soon : (halted : Bool) (least : ℕ) (p : ProcessorState) → least ≤ limit + 17 → p.due ≤ limit + 2 ^ 32 → (past_tick halted least p).due ≤ limit + 2 ^ 32
  past_tick_soon true least p le h = omega arith
  past_tick_soon false least p le h = omega (arith, le, h)

  put_there : (proc : Proc) (s : MachineState) (p : ProcessorState) → (processor_of (with_processor proc s p) proc).due ≡ p.due
  put_there Nine s p = refl
  put_there Seven s p = refl

  event_there : (proc : Proc) (s : MachineState) → (processor_of (one_event s) proc).due ≡ (processor_of s proc).due
  event_there Nine s = refl
  event_there Seven s = refl

  unit_stays_so : (proc : Proc) (channel : ℕ) (now : Tick) (s : MachineState) → now.0 < limit → io_due (Dma proc channel) s.io ≡ Some now → StepStays s
      → StepStays (machine_after_unit proc now (next_unit s.io proc) s)
  unit_stays_so proc channel now s lt due h =
      let unit = next_unit s.io proc in
      let map = map_after_unit None proc now unit (map_of proc s) in
      let m = with_map proc s map in
      let io : Stays limit m.io = unit_stays limit proc now unit (map_of proc s) None (unit_tick proc channel now s.io due) lt (channel_is_due proc channel now s.io due) h.io in
      let past = past_tick (is_halted m proc) (due_past_unit m proc now) (processor_of m proc) in
      let le : now.0 ≤ limit = omega (arith, lt) in
      let was = subst (λ (p : ProcessorState). p.due ≤ limit + 2 ^ 32) (sym (map_processor proc s map proc)) (h.own proc) in
      record {
        io = subst (Stays limit) (sym (put_beside proc m past).io) io;
        own = of_both (λ each. (processor_of (machine_after_unit proc now unit s) each).due ≤ limit + 2 ^ 32) proc
            (subst (λ (n : ℕ). n ≤ limit + 2 ^ 32) (sym (event_there proc (with_processor proc m past) ∙ put_there proc m past))
            (past_tick_soon (is_halted m proc) (due_past_unit m proc now) (processor_of m proc) (unit_soon proc m now le io) was))
            (subst (λ (n : ℕ). n ≤ limit + 2 ^ 32) (sym (unit_other_due proc now unit s)) (h.own (other_proc proc)));
      }

  gone_io : (proc : Proc) (m : MachineState) (came : arm.Stepped) → Took came → Stays limit m.io → Stays limit (gone_by proc came m).io
  gone_io Nine m (Cost ticks) took h = h
  gone_io Seven m (Cost ticks) took h = h
  gone_io Nine m (Halted ticks) took h = halt_stays limit Nine m.io true h
  gone_io Seven m (Halted ticks) took h = halt_stays limit Seven m.io true h
  gone_io proc m (Left stop) took h = absurd took

  went_soon : (halted : Bool) (due ticks : ℕ) → due < limit → ticks ≤ 180 → (if halted then 0 else due + ticks) ≤ limit + 2 ^ 32
  went_soon true due ticks lt few = omega arith
  went_soon false due ticks lt few = omega (arith, lt, few)

  gone_soon : (proc : Proc) (m : MachineState) (came : arm.Stepped) → Took came → (processor_of m proc).due < limit → CostsAtMost 180 came
      → (processor_of (gone_by proc came m) proc).due ≤ limit + 2 ^ 32
  gone_soon Nine m (Cost ticks) took lt few = went_soon (is_halted m Nine) m.nine.processor.due ticks lt few
  gone_soon Seven m (Cost ticks) took lt few = went_soon (is_halted m Seven) m.seven.processor.due ticks lt few
  gone_soon Nine m (Halted ticks) took lt few = omega arith
  gone_soon Seven m (Halted ticks) took lt few = omega arith
  gone_soon proc m (Left stop) took lt few = absurd took

  processor_stays : (proc : Proc) (s : MachineState) → (processor_of s proc).due < limit → Took (came_by proc s) → StepStays s
      → StepStays (gone_by proc (came_by proc s) (reached_by proc s))
  processor_stays proc s lt took h =
      let m = reached_by proc s in
      let came = came_by proc s in
      let re = reaches proc s in
      let due = re.due in
      let early : (processor_of m proc).due < limit = omega (arith, lt, due) in
      record {
        io = gone_io proc m came took (step_stays limit proc (tick_of (processor_of s proc)) s lt h.io);
        own = of_both (λ each. (processor_of (gone_by proc came m) each).due ≤ limit + 2 ^ 32) proc
            (gone_soon proc m came took early (step_costs_few proc (tick_of (processor_of s proc)) s))
            (subst (λ (p : ProcessorState). p.due ≤ limit + 2 ^ 32) (sym ((gone_other proc m came).1 ∙ re.other)) (h.own (other_proc proc)));
      }

  pub made_stays : (a : actor.Actor) (rank : ℕ) (tick : Tick) (s made : MachineState) (outs : List Shown) → Steps a rank tick s → step_by rank a s ≡ Makes made outs
      → tick.0 < limit → StepStays s → StepStays made
  made_stays KeyScript rank tick s made outs st h lt was = subst StepStays (same_makes (after_line s.keys s) made [] outs h).0 (line_stays s s.keys was)
  made_stays Video rank tick s made outs st h lt was =
      let k = video_makes rank s made outs h in
      let at : scan_due s.io.video.scan ≡ tick.0 = ap (λ (t : Tick). t.0) (same_Some (scan_due_tick s.io.video.scan) tick st.due) in
      subst StepStays k.0 (video_stays s (omega (arith, at, lt)) k.1 was)
  made_stays Geometry rank tick s made outs st h lt was =
      subst StepStays (same_makes (after_geometry s) made [] outs h).0 (geometry_soon tick s lt st.due was)
  made_stays (Dma proc channel) rank tick s made outs st h lt was =
      let P : Option Tick → Type 0 = λ o. channel_step rank proc o s ≡ Makes made outs in
      subst StepStays (sym (channel_made rank proc tick s made outs (subst P st.due h))) (unit_stays_so proc channel tick s lt st.due was)
  made_stays (Processor proc) rank tick s made outs st h lt was =
      let came = came_by proc s in
      let k = concludes rank proc (reached_by proc s) made outs came (costs_some proc s) (sym (step_is rank proc s) ∙ h) in
      let at = (due_then (is_blocked s proc) (processor_of s proc) tick st.due).1 in
      subst StepStays k.1 (processor_stays proc s (omega (arith, at, lt)) k.0 was)
  made_stays a rank tick s made outs st h lt was =
      subst StepStays (same_makes (after_event a s) made [] outs h).0 (record {
        io = event_stays limit s.file a tick s.io lt tt st.due was.io;
        own = λ proc. subst (λ (n : ℕ). n ≤ limit + 2 ^ 32) (sym (event_due a s proc)) (was.own proc);
      })

  -- ---- and what follows it

  wake_stays : (b : Bool) (proc : Proc) (tick : Tick) (s : MachineState) → tick.0 ≤ limit → StepStays s → StepStays (if b then goes_on proc tick s else s)
  wake_stays false proc tick s le h = h
  wake_stays true Nine tick s le h = record { io = halt_stays limit Nine s.io false h.io; own = own } where
    own : AreSoon (goes_on Nine tick s)
    own Nine = let soon = unit_soon Nine s tick le h.io in omega (arith, soon)
    own Seven = h.own Seven
  wake_stays true Seven tick s le h = record { io = halt_stays limit Seven s.io false h.io; own = own } where
    own : AreSoon (goes_on Seven tick s)
    own Nine = h.own Nine
    own Seven = let soon = unit_soon Seven s tick le h.io in omega (arith, soon)

  pub ended_stays : (tick : Tick) (s : MachineState) → tick.0 ≤ limit → StepStays s → StepStays (ended tick s)
  unfolding ended
  ended_stays tick s le h =
      let rest = machine_settled tick s in
      let first = woken_one Nine tick rest in
      let settles : StepStays rest = record { io = settle_stays limit tick s.io le h.io; own = own } in
      wake_stays (wakes first Seven) Seven tick first le (wake_stays (wakes rest Nine) Nine tick rest le settles) where
        own : AreSoon (machine_settled tick s)
        own Nine = h.own Nine
        own Seven = h.own Seven
