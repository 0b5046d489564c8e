use Rattle.ds_machine.proofs.Words.{Access, Banks, Bool, Card, CartFile, Cell, Cost, Cp15, Divider, Dma, DueNine, DueSeven, Fetch, Geometry, Halted}
use Rattle.ds_machine.proofs.Words.{IoState, IsSharedSo, KeyLine, KeyScript, Left, LeftOut, List, MachineState, MachineStep, Makes, MapState, Nine}
use Rattle.ds_machine.proofs.Words.{NineOwn, None, Nothing, Option, Outcome, OwnRam, PartSet, Place, Port, Proc, Processor, ProcessorIoState, Read}
use Rattle.ds_machine.proofs.Words.{RegistersNine, RegistersSeven, Rom, Seven, SevenReach, Shown, Some, SquareRoot, StepsNine, StepsSeven, Stop}
use Rattle.ds_machine.proofs.Words.{Stops, Tick, Timer, Video, VideoState, Width, Write, [], after_line, aligned_down, answer_unless, ap, arm7}
use Rattle.ds_machine.proofs.Words.{both_raised, card_due, card_starter, channel_step, channels_triggered, covers_all, false, fetched, if◌then◌else◌}
use Rattle.ds_machine.proofs.Words.{io_due, left_by, line_of, machine_concluded, machine_graft, map_of, mixed_same, moved_by, next_unit, nine_own_of}
use Rattle.ds_machine.proofs.Words.{one_event, outcome_of, place_of, refl, scan_due, scan_due_tick, seven_memory, seven_reach, seven_side, seven_wait}
use Rattle.ds_machine.proofs.Words.{shown_at, side_taken, side_waits, starts_vblank, step_by, step_with, swapped_if, sym, tick_of, true, unchanged_by}
use Rattle.ds_machine.proofs.Words.{unit_moved, unit_refusal, unit_taken, unless_stop, untouched_by, video_after_event, video_shown, video_step}
use Rattle.ds_machine.proofs.Words.{video_stop, with_io, with_map, with_nine_own, with_seven, ℕ, ◌++◌, ◌∙◌, ◌∷◌, ◌≡◌}
use Rattle.ds_base.specs.Interrupts.{interrupt_bit}
use Rattle.ds_base.specs.declared.interrupts.Interrupt.TheVariants.{Keys}
use Rattle.ds_base.specs.declared.processors.Raised.{Raised}
use Rattle.ds_base.proofs.Parted.{pick_same, same}
use Rattle.arm_core.specs.declared.outcomes.Stepped as arm
use Rattle.ds_dma.specs.declared.controls.Cause.TheVariants as causes
use Rattle.ds_map.proofs.Passed as passed
use Rattle.ds_map.proofs.Passed.{IsPast, OfOthers, PlacePasses, fetch_passes, place_passes}
use Rattle.ds_ports.specs.ProcessorIo.{keys_hold, processor_io_raised}
use Rattle.ds_ports.specs.Touches.{UnitPart, beyond, io_graft, touches_none}
use Rattle.ds_ports.proofs.Passed.{units}
use Rattle.ds_runs.specs.declared.actors.Actor as actor
use Rattle.video2d.specs.declared.videos.Shown as display
use Rattle.ds_machine.specs.Touched.{ByteSet, EachTouches, EveryByte, GeometryDelays, IsAsLong, NoByte, Itcm, Dtcm, MainRam, PaletteRam, OamRam, KeyLines, Events, BytesWhere, bytes_from, seven_changes, seven_shows}
use Rattle.ds_machine.proofs.Commutes.{Commutes, step_waits_commute, taken_commutes, word_commutes}
use Rattle.ds_machine.proofs.Ticks.{ticked, ticked_so}
use Rattle.ds_machine.proofs.OwnShares.{given, given_to, is_shared_so, put_own_of, seven_channel, seven_steps}

-- Each row of the table of what actors touch is true: by computing, but for what chooses a whole state, and for ARM7's accesses.

abbrev Step : Type 0
Step = MachineStep MachineState Shown LeftOut

-- ---- steps with other parts

bytes_same : (b : ByteSet) (xs : List ℕ) → bytes_from b xs xs ≡ xs
bytes_same EveryByte xs = refl
bytes_same NoByte xs = refl
bytes_same (BytesWhere is) xs = mixed_same is xs

-- parts of the machine itself change nothing
pub graft_same : (P : PartSet) (s : MachineState) → machine_graft P s s ≡ s
graft_same P s = λ i. record {
  nine = record {
    processor = record {
      registers = pick_same (P.rest RegistersNine) s.nine.processor.registers i;
      due = pick_same (P.rest DueNine) s.nine.processor.due i;
      steps = pick_same (P.rest StepsNine) s.nine.processor.steps i;
    };
    cp15 = pick_same (P.rest Cp15) s.nine.cp15 i;
    itcm = pick_same (P.rest Itcm) s.nine.itcm i;
    dtcm = pick_same (P.rest Dtcm) s.nine.dtcm i;
  };
  seven = record {
    processor = record {
      registers = pick_same (P.rest RegistersSeven) s.seven.processor.registers i;
      due = pick_same (P.rest DueSeven) s.seven.processor.due i;
      steps = pick_same (P.rest StepsSeven) s.seven.processor.steps i;
    };
    wram = pick_same (P.rest OwnRam) s.seven.wram i;
  };
  main = pick_same (P.rest MainRam) s.main i;
  shared = bytes_same P.shared s.shared i;
  palette = pick_same (P.rest PaletteRam) s.palette i;
  oam = pick_same (P.rest OamRam) s.oam i;
  io = (let u : IoState = same units P.units s.io i in record u { vram = record u.vram { bytes = bytes_same P.vram s.io.vram.bytes i } });
  keys = pick_same (P.rest KeyLines) s.keys i;
  events = pick_same (P.rest Events) s.events i;
  file = pick_same (P.rest CartFile) s.file i;
}

step_ext : (f g : MachineState → MachineState) (came : Step) → f (left_by came) ≡ g (left_by came) → step_with f came ≡ step_with g came
step_ext f g (Makes next outs) e = ap (λ (m : MachineState). (let step : Step = Makes m outs in step)) e
step_ext f g (Stops stop left) e = ap (λ (m : MachineState). (let step : Step = Stops stop m in step)) e

step_twice : (f g : MachineState → MachineState) (came : Step) → step_with f (step_with g came) ≡ step_with (λ m. f (g m)) came
step_twice f g (Makes next outs) = refl
step_twice f g (Stops stop left) = refl

step_left : (f : MachineState → MachineState) (came : Step) → left_by (step_with f came) ≡ f (left_by came)
step_left f (Makes next outs) = refl
step_left f (Stops stop left) = refl

abbrev as_long : (s : MachineState) → IsAsLong s s
as_long s = record { shared = refl; vram = refl }

-- what passes all parts of a set leaves them
module _ (rank : ℕ) (a : actor.Actor) (s : MachineState) (passes : (t : MachineState) → IsAsLong t s
    → step_by rank a (machine_graft (untouched_by a s) t s) ≡ step_with (machine_graft (untouched_by a s) t) (step_by rank a s)) where
  stays : step_by rank a s ≡ step_with (machine_graft (untouched_by a s) s) (step_by rank a s)
  stays = ap (λ (m : MachineState). step_by rank a m) (sym (graft_same (untouched_by a s) s)) ∙ passes s (as_long s)

  left_as_it_was : machine_graft (untouched_by a s) s (left_by (step_by rank a s)) ≡ left_by (step_by rank a s)
  left_as_it_was = sym (step_left (machine_graft (untouched_by a s) s) (step_by rank a s)) ∙ sym (ap (λ (m : Step). left_by m) stays)

-- ---- the key script

module _ (line : KeyLine) (lines : List KeyLine) where
  abbrev told : Bool → ProcessorIoState → ProcessorIoState
  told b own = if b then processor_io_raised own (interrupt_bit Keys) else own

  abbrev pressed_by : Bool → Bool → MachineState → MachineState
  pressed_by b c s = one_event (record (with_io s (record s.io { pressed = line.pressed; nine = told b s.io.nine; seven = told c s.io.seven })) { keys = lines })

  keys_pass : (t s : MachineState) (b c : Bool) → pressed_by b c (machine_graft (untouched_by KeyScript s) t s) ≡ machine_graft (untouched_by KeyScript s) t (pressed_by b c s)
  keys_pass t s true true = refl
  keys_pass t s true false = refl
  keys_pass t s false true = refl
  keys_pass t s false false = refl

  keys_leave : (s : MachineState) (b c : Bool) → machine_graft (unchanged_by KeyScript s) s (pressed_by b c s) ≡ pressed_by b c s
  keys_leave s true true = refl
  keys_leave s true false = refl
  keys_leave s false true = refl
  keys_leave s false false = refl

line_passes : (t s : MachineState) (lines : List KeyLine) → after_line lines (machine_graft (untouched_by KeyScript s) t s) ≡ machine_graft (untouched_by KeyScript s) t (after_line lines s)
line_passes t s [] = refl
line_passes t s (line ∷ lines) = keys_pass line lines t s (keys_hold s.io.nine.keycnt line.pressed) (keys_hold s.io.seven.keycnt line.pressed)

line_leaves : (s : MachineState) (lines : List KeyLine) → machine_graft (unchanged_by KeyScript s) s (after_line lines s) ≡ after_line lines s
line_leaves s [] = refl
line_leaves s (line ∷ lines) = keys_leave line lines s (keys_hold s.io.nine.keycnt line.pressed) (keys_hold s.io.seven.keycnt line.pressed)

-- ---- the display

-- what the display is afterwards and what it raises are given; by whether it stops, what it triggers, and whether lists are swapped
module _ (video : VideoState) (raised : Raised) (now : Tick) where
  abbrev shown_by : Option Stop → Bool → Bool → Bool → MachineState → MachineState
  shown_by stop vblank hblank swaps s =
      let told = both_raised (record s.io { video = video }) raised in
      one_event (with_io s (swapped_if swaps now (
      unless_stop stop (if vblank then channels_triggered causes.VBlank now told else (if hblank then channels_triggered causes.HBlank now told else told)) s.io)))

  video_passes : (t s : MachineState) (stop : Option Stop) (vblank hblank swaps : Bool)
      → shown_by stop vblank hblank swaps (machine_graft (untouched_by Video s) t s) ≡ machine_graft (untouched_by Video s) t (shown_by stop vblank hblank swaps s)
  video_passes t s (Some stop) vblank hblank true = refl
  video_passes t s (Some stop) vblank hblank false = refl
  video_passes t s None true hblank true = refl
  video_passes t s None true hblank false = refl
  video_passes t s None false true true = refl
  video_passes t s None false true false = refl
  video_passes t s None false false true = refl
  video_passes t s None false false false = refl

  video_leaves : (s : MachineState) (stop : Option Stop) (vblank hblank swaps : Bool)
      → machine_graft (unchanged_by Video s) s (shown_by stop vblank hblank swaps s) ≡ shown_by stop vblank hblank swaps s
  video_leaves s (Some stop) vblank hblank true = refl
  video_leaves s (Some stop) vblank hblank false = refl
  video_leaves s None true hblank true = refl
  video_leaves s None true hblank false = refl
  video_leaves s None false true true = refl
  video_leaves s None false true false = refl
  video_leaves s None false false true = refl
  video_leaves s None false false false = refl

module _ (s : MachineState) where
  abbrev shown : display.Shown
  shown = video_shown s.io.video

  abbrev outs_of : MachineState → List Shown
  outs_of m = if shown.frame then shown_at (scan_due s.io.video.scan) m s.io.gx.swap_waits ∷ [] else []

  show_passes : (rank : ℕ) (t : MachineState) (stop : Option Stop)
      → video_step rank (answer_unless stop (video_shown s.io.video)) (machine_graft (untouched_by Video s) t s)
      ≡ step_with (machine_graft (untouched_by Video s) t) (video_step rank (answer_unless stop (video_shown s.io.video)) s)
  show_passes rank t None =
      ap (λ (m : MachineState). (let step : Step = Makes m (outs_of m) in step))
      (video_passes (video_after_event s.io.vram s.palette s.oam s.io.video) shown.raised (scan_due_tick s.io.video.scan) t s (video_stop s.oam s.io.video)
      shown.vblank shown.hblank (starts_vblank s.io.video.scan))
  show_passes rank t (Some stop) = refl

  show_leaves : (rank : ℕ) (stop : Option Stop)
      → (let left = left_by (video_step rank (answer_unless stop (video_shown s.io.video)) s) in machine_graft (unchanged_by Video s) s left ≡ left)
  show_leaves rank None =
      video_leaves (video_after_event s.io.vram s.palette s.oam s.io.video) shown.raised (scan_due_tick s.io.video.scan) s (video_stop s.oam s.io.video)
      shown.vblank shown.hblank (starts_vblank s.io.video.scan)
  show_leaves rank (Some stop) = graft_same (unchanged_by Video s) s

-- ---- ARM9 and its channels

module _ (rank : ℕ) (s t : MachineState) where
  abbrev beside_nine : MachineState → MachineState
  beside_nine m = machine_graft (untouched_by (Processor Nine) s) t m

  nine_concluded : (m : MachineState) (came : arm.Stepped) → (let step : Step = machine_concluded rank Nine (beside_nine m) came in step) ≡ step_with beside_nine (machine_concluded rank Nine m came)
  nine_concluded m (Cost clocks) = refl
  nine_concluded m (Halted clocks) = refl
  nine_concluded m (Left stop) = refl

  nine_pass : IsAsLong t s → step_by rank (Processor Nine) (beside_nine s) ≡ step_with beside_nine (step_by rank (Processor Nine) s)
  nine_pass long = let o = outcome_of Nine (tick_of s.nine.processor) s in nine_concluded o.machine o.stepped

  module _ (channel : ℕ) where
    abbrev beside_unit : MachineState → MachineState
    beside_unit m = machine_graft (untouched_by (Dma Nine channel) s) t m

    unit_moves : (now : Tick) (refused : Option Stop) (m : MachineState)
        → (let step : Step = moved_by rank Nine now refused (beside_unit m) in step) ≡ step_with beside_unit (moved_by rank Nine now refused m)
    unit_moves now None m = refl
    unit_moves now (Some stop) m = refl

    by_due : (due : Option Tick) → (let step : Step = channel_step rank Nine due (beside_unit s) in step) ≡ step_with beside_unit (channel_step rank Nine due s)
    by_due None = refl
    by_due (Some now) =
        let unit = next_unit s.io Nine in unit_moves now (unit_refusal Nine now unit (map_of Nine s)) (with_map Nine s (unit_moved Nine now unit (map_of Nine s)))

    unit_pass : IsAsLong t s → step_by rank (Dma Nine channel) (beside_unit s) ≡ step_with beside_unit (step_by rank (Dma Nine channel) s)
    unit_pass long = by_due (io_due (Dma Nine channel) s.io)

-- ---- ARM7 and its channels: past the bytes that ARM9 alone reaches (as in OwnShares) other units, keys and counts

abbrev past_seven : UnitPart → Bool
past_seven = beyond (seven_shows ++ seven_changes)

others : OfOthers past_seven
others = record { bytes = refl; controls = refl; wram = refl }

every_past : (width : Width) (place : Place) → IsPast past_seven Seven width place
every_past width (Port at) = covers_all (touches_none past_seven Seven) Seven (aligned_down width at) width refl
every_past width (Cell memory at) = tt
every_past width (Banks space at) = tt
every_past width (Rom at) = tt
every_past width Nothing = tt

abbrev same_bytes : List ℕ → List ℕ
same_bytes bytes = bytes

abbrev Every : SevenReach → List Access → Type 0
Every r accesses = Unit {0}

module _ (t : MachineState) where
  abbrev other_units : IoState → IoState
  other_units u = io_graft past_seven t.io u

  abbrev reach_put : SevenReach → SevenReach
  reach_put r = record r { map = record r.map { io = other_units r.map.io } }

  passes_at : (m : MapState) (width : Width) (place : Place) → PlacePasses same_bytes other_units Seven m width place
  passes_at m width place = place_passes past_seven others t.io Seven m width place (every_past width place)

  units_commute : Commutes seven_memory Every reach_put
  units_commute = record {
    fetched = λ r at width rest i. passed.fetched same_bytes other_units Seven r.map refl at width (fetch_passes past_seven others t.io Seven r.map width (place_of Seven r.map.io.wramcnt at));
    read = λ r at width rest i. passed.value same_bytes other_units Seven r.map refl at width r.now (passes_at r.map width (place_of Seven r.map.io.wramcnt at));
    refuses = λ r at width value rest i. passed.refusal same_bytes other_units Seven r.map refl at width value (passes_at r.map width (place_of Seven r.map.io.wramcnt at));
    fetches = λ r at width rest i. refl;
    reads = λ r at width rest i.
        ap (λ (m : MapState). (let left : SevenReach = record r { map = m } in left))
        (passed.read same_bytes other_units Seven r.map refl at width r.now (passes_at r.map width (place_of Seven r.map.io.wramcnt at)));
    writes = λ r at width value rest i.
        ap (λ (m : MapState). (let left : SevenReach = record r { map = m } in left))
        (passed.written same_bytes other_units Seven r.map refl at width r.now value (passes_at r.map width (place_of Seven r.map.io.wramcnt at)));
    fetch_stays = λ r at width rest i. tt;
    read_stays = λ r at width rest i. tt;
    write_stays = λ r at width value rest i. tt;
  }

  waits_beside : (r : SevenReach) (access : Access) → seven_wait (reach_put r) access ≡ seven_wait r access
  waits_beside r (Fetch at width) = refl
  waits_beside r (Read at width) = refl
  waits_beside r (Write at width value) = refl

  -- ARM7's step
  abbrev beside : MachineState → MachineState
  beside m = record m { io = other_units m.io; keys = t.keys; events = t.events; file = t.file }

  beside_concluded : (rank : ℕ) (m : MachineState) (came : arm.Stepped)
      → (let step : Step = machine_concluded rank Seven (beside m) came in step) ≡ step_with beside (machine_concluded rank Seven m came)
  beside_concluded rank m (Cost clocks) = refl
  beside_concluded rank m (Halted clocks) = refl
  beside_concluded rank m (Left stop) = refl

  beside_steps : (rank : ℕ) (s : MachineState) → step_by rank (Processor Seven) (beside s) ≡ step_with beside (step_by rank (Processor Seven) s)
  beside_steps rank s =
      let r = seven_reach (tick_of s.seven.processor) s in
      let old = s.seven.processor.registers in
      let line = line_of s Seven in
      let waits = side_waits seven_memory seven_side line old r in
      let taken = side_taken seven_memory seven_side line old r in
      let o = ticked Seven waits taken in
      let f = fetched seven_memory seven_side.step.arch old r in
      ap (λ (x : Outcome SevenReach). (let step : Step = machine_concluded rank Seven (with_seven (beside s) x) x.stepped in step))
      (ticked_so Seven (side_waits seven_memory seven_side line old (reach_put r)) waits reach_put (side_taken seven_memory seven_side line old (reach_put r)) taken
      (step_waits_commute seven_memory Every reach_put units_commute seven_side line old r (λ r access rest i. waits_beside r access) (λ width. tt) refl (λ e. tt))
      (taken_commutes seven_memory Every reach_put units_commute seven_side line old r tt (λ width. tt) refl (λ e.
      word_commutes seven_memory Every reach_put units_commute arm7 old r f.number f.instr tt tt)))
      ∙ beside_concluded rank (with_seven s o) o.stepped

  -- a channel's unit
  abbrev beside_channel : MachineState → MachineState
  beside_channel m = record m {
    seven = record m.seven { processor = record m.seven.processor { registers = t.seven.processor.registers; steps = t.seven.processor.steps } };
    io = other_units m.io;
    keys = t.keys;
    file = t.file;
  }

  beside_moved : (rank : ℕ) (now : Tick) (refused : Option Stop) (m : MachineState)
      → (let step : Step = moved_by rank Seven now refused (beside_channel m) in step) ≡ step_with beside_channel (moved_by rank Seven now refused m)
  beside_moved rank now None m = refl
  beside_moved rank now (Some stop) m = refl

  channel_beside : (rank : ℕ) (due : Option Tick) (s : MachineState)
      → (let step : Step = channel_step rank Seven due (beside_channel s) in step) ≡ step_with beside_channel (channel_step rank Seven due s)
  channel_beside rank None s = refl
  channel_beside rank (Some now) s =
      let unit = next_unit s.io Seven in
      let m = map_of Seven s in
      let n : MapState = record m { io = other_units m.io } in
      let left = unit_moved Seven now unit m in
      let from = passes_at m unit.width (place_of Seven m.io.wramcnt unit.from) in
      let taken = unit_taken Seven now unit m in
      let to = passes_at taken unit.width (place_of Seven taken.io.wramcnt unit.to) in
      ap (λ (x : Option Stop). (let step : Step = moved_by rank Seven now x (with_map Seven (beside_channel s) (unit_moved Seven now unit n)) in step))
      (passed.unit_refuses same_bytes other_units Seven m now unit refl from (λ waits u. refl) refl refl to)
      ∙ ap (λ (x : MapState). (let step : Step = moved_by rank Seven now (unit_refusal Seven now unit m) (with_map Seven (beside_channel s) x) in step))
      (passed.unit_moves same_bytes other_units Seven m now unit refl from (λ waits u. refl) refl refl to)
      ∙ beside_moved rank now (unit_refusal Seven now unit m) (with_map Seven s left)

-- with both: the bytes that ARM9 alone reaches from another machine, shared out as they are here, and what stands beside
abbrev own_from : MachineState → MachineState → NineOwn
own_from t s = record {
  part = record { nine = t.nine; palette = t.palette; oam = t.oam };
  share = record { shared = t.shared; vram = record { bytes = t.io.vram.bytes; controls = s.io.vram.controls }; wramcnt = s.io.wramcnt };
}

-- how memories are shared out, as it was
record SharesStay (s left : MachineState) : Type 0 where
  wramcnt : s.io.wramcnt ≡ left.io.wramcnt
  controls : s.io.vram.controls ≡ left.io.vram.controls

shares_stay : (s : MachineState) (came : Step) → came ≡ step_with (with_nine_own (nine_own_of s)) came → SharesStay s (left_by came)
shares_stay s came h =
    let e : left_by came ≡ with_nine_own (nine_own_of s) (left_by came) = ap (λ (x : Step). left_by x) h ∙ step_left (with_nine_own (nine_own_of s)) came in
    record { wramcnt = ap (λ (m : MachineState). m.io.wramcnt) (sym e); controls = ap (λ (m : MachineState). m.io.vram.controls) (sym e) }

module _ (a : actor.Actor) (rank : ℕ) (s : MachineState)
    (own_pass : (own : NineOwn) → IsSharedSo own.share s.shared s.io → step_by rank a (with_nine_own own s) ≡ step_with (with_nine_own own) (step_by rank a s)) where
  stay : SharesStay s (left_by (step_by rank a s))
  stay = shares_stay s (step_by rank a s) (ap (λ (m : MachineState). step_by rank a m) (sym (put_own_of s)) ∙ own_pass (nine_own_of s) (is_shared_so s))

  both_pass : (t : MachineState) → IsAsLong t s → (put graft : MachineState → MachineState)
      → ((m : MachineState) → step_by rank a (put m) ≡ step_with put (step_by rank a m))
      → ((left : MachineState) → SharesStay s left → put (with_nine_own (own_from t s) left) ≡ graft left)
      → step_by rank a (put (with_nine_own (own_from t s) s)) ≡ step_with graft (step_by rank a s)
  both_pass t long put graft put_pass meets =
      let own = own_from t s in
      let came = step_by rank a s in
      put_pass (with_nine_own own s)
      ∙ ap (step_with put) (own_pass own (record { wramcnt = refl; controls = refl; shared = long.shared; bytes = long.vram }))
      ∙ step_twice put (with_nine_own own) came
      ∙ step_ext (λ (m : MachineState). put (with_nine_own own m)) graft came (meets (left_by came) stay)

seven_meets : (t s left : MachineState) → SharesStay s left → beside t (with_nine_own (own_from t s) left) ≡ machine_graft (untouched_by (Processor Seven) s) t left
seven_meets t s left k =
    let whole = machine_graft (untouched_by (Processor Seven) s) t left in
    λ i. record whole { io = record whole.io { wramcnt = k.wramcnt i; vram = record whole.io.vram { controls = k.controls i } } }

channel_meets : (channel : ℕ) (t s left : MachineState) → SharesStay s left
    → beside_channel t (with_nine_own (own_from t s) left) ≡ machine_graft (untouched_by (Dma Seven channel) s) t left
channel_meets channel t s left k =
    let whole = machine_graft (untouched_by (Dma Seven channel) s) t left in
    λ i. record whole { io = record whole.io { wramcnt = k.wramcnt i; vram = record whole.io.vram { controls = k.controls i } } }

-- what it leaves of how memories are shared out
with_shares_of : (s left : MachineState) → SharesStay s left → (graft : MachineState) → graft ≡ left
    → record graft { io = record graft.io { wramcnt = s.io.wramcnt; vram = record graft.io.vram { controls = s.io.vram.controls } } } ≡ left
with_shares_of s left k graft e =
    λ i. (let m : MachineState = e i in record m { io = record m.io { wramcnt = k.wramcnt i; vram = record m.io.vram { controls = k.controls i } } })

module _ (rank : ℕ) (s : MachineState) where
  seven_pass : (t : MachineState) → IsAsLong t s
      → step_by rank (Processor Seven) (machine_graft (untouched_by (Processor Seven) s) t s) ≡ step_with (machine_graft (untouched_by (Processor Seven) s) t) (step_by rank (Processor Seven) s)
  seven_pass t long =
      both_pass (Processor Seven) rank s (λ own so. seven_steps rank own s so) t long (beside t) (machine_graft (untouched_by (Processor Seven) s) t) (beside_steps t rank) (seven_meets t s)

  seven_leaves : (let left = left_by (step_by rank (Processor Seven) s) in machine_graft (unchanged_by (Processor Seven) s) s left ≡ left)
  seven_leaves =
      let left = left_by (step_by rank (Processor Seven) s) in
      with_shares_of s left (stay (Processor Seven) rank s (λ own so. seven_steps rank own s so)) (machine_graft (untouched_by (Processor Seven) s) s left)
      (left_as_it_was rank (Processor Seven) s seven_pass)

  channel_pass : (channel : ℕ) (t : MachineState) → IsAsLong t s
      → step_by rank (Dma Seven channel) (machine_graft (untouched_by (Dma Seven channel) s) t s)
      ≡ step_with (machine_graft (untouched_by (Dma Seven channel) s) t) (step_by rank (Dma Seven channel) s)
  channel_pass channel t long =
      both_pass (Dma Seven channel) rank s (λ own so. seven_channel rank (io_due (Dma Seven channel) s.io) own s so) t long (beside_channel t)
      (machine_graft (untouched_by (Dma Seven channel) s) t) (λ m. channel_beside t rank (io_due (Dma Seven channel) m.io) m) (channel_meets channel t s)

  channel_leaves : (channel : ℕ) → (let left = left_by (step_by rank (Dma Seven channel) s) in machine_graft (unchanged_by (Dma Seven channel) s) s left ≡ left)
  channel_leaves channel =
      let left = left_by (step_by rank (Dma Seven channel) s) in
      with_shares_of s left (stay (Dma Seven channel) rank s (λ own so. seven_channel rank (io_due (Dma Seven channel) s.io) own s so))
      (machine_graft (untouched_by (Dma Seven channel) s) s left) (left_as_it_was rank (Dma Seven channel) s (channel_pass channel))

-- ---- each actor

-- ---- the card: by when it is due, and who started its transfer

given_passes : (t s : MachineState) (now : Tick) (starter : Option Proc)
    → given_to starter now (machine_graft (untouched_by Card s) t s) ≡ machine_graft (untouched_by Card s) t (given_to starter now s)
given_passes t s now None = refl
given_passes t s now (Some Nine) = refl
given_passes t s now (Some Seven) = refl

card_passes : (t s : MachineState) (due : Option Tick) → given due (machine_graft (untouched_by Card s) t s) ≡ machine_graft (untouched_by Card s) t (given due s)
card_passes t s None = refl
card_passes t s (Some now) = given_passes t s now (card_starter s.io.card)

given_leaves : (s : MachineState) (now : Tick) (starter : Option Proc) → machine_graft (unchanged_by Card s) s (given_to starter now s) ≡ given_to starter now s
given_leaves s now None = refl
given_leaves s now (Some Nine) = refl
given_leaves s now (Some Seven) = refl

card_leaves : (s : MachineState) (due : Option Tick) → machine_graft (unchanged_by Card s) s (given due s) ≡ given due s
card_leaves s None = refl
card_leaves s (Some now) = given_leaves s now (card_starter s.io.card)

pub each_touches : EachTouches
each_touches rank KeyScript s = record {
  passes = λ t long. ap (λ (m : MachineState). (let step : Step = Makes m [] in step)) (line_passes t s s.keys);
  leaves = line_leaves s s.keys;
}
each_touches rank Video s =
    let stop = video_stop s.oam s.io.video in record { passes = λ t long. show_passes s rank t stop; leaves = show_leaves s rank stop }
each_touches rank (Timer Nine number) s = record { passes = λ t long. refl; leaves = refl }
each_touches rank (Timer Seven number) s = record { passes = λ t long. refl; leaves = refl }
each_touches rank Divider s = record { passes = λ t long. refl; leaves = refl }
each_touches rank SquareRoot s = record { passes = λ t long. refl; leaves = refl }
each_touches rank Geometry s = record { passes = λ t long. refl; leaves = refl }
each_touches rank Card s = record {
  passes = λ t long. ap (λ (m : MachineState). (let step : Step = Makes m [] in step)) (card_passes t s (card_due s.io.card));
  leaves = card_leaves s (card_due s.io.card);
}
each_touches rank (Dma Nine channel) s = record {
  passes = λ t. unit_pass rank s t channel;
  leaves = left_as_it_was rank (Dma Nine channel) s (λ t. unit_pass rank s t channel);
}
each_touches rank (Dma Seven channel) s = record { passes = channel_pass rank s channel; leaves = channel_leaves rank s channel }
each_touches rank (Processor Nine) s = record { passes = nine_pass rank s; leaves = left_as_it_was rank (Processor Nine) s (nine_pass rank s) }
each_touches rank (Processor Seven) s = record { passes = seven_pass rank s; leaves = seven_leaves rank s }

pub geometry_delays : GeometryDelays
geometry_delays rank due s = refl

-- so with other parts put in, of those that it doesn't touch, a step comes to the same
pub comes_to_same : (rank : ℕ) (a : actor.Actor) (s : MachineState) (put : MachineState → MachineState) → IsAsLong (put s) s
    → ((left : MachineState) → machine_graft (untouched_by a s) (put s) left ≡ put (machine_graft (untouched_by a s) s left)) → step_by rank a (put s) ≡ step_with put (step_by rank a s)
comes_to_same rank a s put long goes =
    let P = untouched_by a s in
    let came = step_by rank a s in
    let passes = (each_touches rank a s).passes in
    ap (λ (m : MachineState). step_by rank a m) (sym (goes s ∙ ap put (graft_same P s)))
    ∙ passes (put s) long
    ∙ step_ext (machine_graft P (put s)) (λ (m : MachineState). put (machine_graft P s m)) came (goes (left_by came))
    ∙ sym (step_twice put (machine_graft P s) came)
    ∙ ap (step_with put) (sym (stays rank a s passes))
