use Rattle.ds_machine.proofs.Words.{Access, Arch, Auxspicnt, Banks, Bool, CardState, CardWord, Cell, Cost, Cp15State, Dma, Dmacnt, Dtcm, Fetch, Half}
use Rattle.ds_machine.proofs.Words.{Haltcnt, Halted, Instr, IoState, Itcm, Left, LeftOut, List, MachineState, MachineStep, Makes, MapState, Meaning}
use Rattle.ds_machine.proofs.Words.{MemoryMachine, MoveOutcome, Moved, Nine, NineReach, None, Nothing, Option, Outcome, Past, Performed, Port, Proc}
use Rattle.ds_machine.proofs.Words.{Processor, Read, Register, RegisterState, Rom, Setting, Seven, SevenReach, Shown, SideOf, Some, Stop, Stops, Swi}
use Rattle.ds_machine.proofs.Words.{Tcm, ThumbSwi, Tick, Video, VideoState, Width, Word, Write, [], actor_of, aligned_down, answer_unless, arm7, arm9}
use Rattle.ds_machine.proofs.Words.{awake, bit, bits, carried_out, carried_over, channel_at, channel_step, concluded, condition, condition_of, due_by}
use Rattle.ds_machine.proofs.Words.{either, enters, executed_unless, executed_word, false, fetched, holds, if◌then◌else◌, in_ticks, interrupt_meaning}
use Rattle.ds_machine.proofs.Words.{io_due, io_of, is_served, line_of, machine_concluded, map, map_of, map_refusal, meaning, meaning_of, move_of}
use Rattle.ds_machine.proofs.Words.{moved_by, moved_if, next_unit, nine_executed, nine_memory, nine_reach, nine_side, not, outcome_of, perform}
use Rattle.ds_machine.proofs.Words.{place_of, processor_of, refusal_at, refusal_is_so, refused_or, register, register_moved, seven_memory}
use Rattle.ds_machine.proofs.Words.{seven_reach, seven_side, side_taken, side_waits, skipped, start_refusal, step_by, stop_of, subst, swi_stop, taken}
use Rattle.ds_machine.proofs.Words.{tcm_of, tcm_refusal, tick_of, true, undefined_meaning, unit_moved, unit_refusal, video_shown, video_step}
use Rattle.ds_machine.proofs.Words.{video_stop, with_map, written_by, ℕ, ◌%◌, ◌&&◌, ◌/◌, ◌==◌, ◌^◌, ◌||◌, ◌∷◌, ◌≢◌}
use Rattle.cp15_tcm.specs.Registers.{Cp15Register, write_answer, asks_big_endian}
use Rattle.ds_dma.specs.Controls.{is_enabled, is_left_out, kept_channel_control, refusal}
use Rattle.ds_ports.specs.Ports.{port_refusal}
use Rattle.std.specs.List.{range_with_len}
use Rattle.ds_base.specs.declared.left_out.LeftKind.{LeftKind}
use Rattle.ds_base.specs.declared.left_out.LeftKind.TheVariants as kinds
use Rattle.arm_core.specs.declared.outcomes.Stepped as arm
use Rattle.cp15_tcm.specs.Registers.Cp15Register.{WaitForInterrupt}
use Rattle.cp15_tcm.specs.declared.answers.Mcr as answer
use Rattle.cp15_tcm.specs.declared.answers.Mcr.TheVariants as mcr
use Rattle.ds_places.specs.declared.kinds.Place as place
use Rattle.ds_ports.specs.Registers.{halt_refusal}
use Rattle.ds_runs.specs.declared.actors.Actor as actor
use Rattle.video2d.specs.Backgrounds.{is_background_on}
use Rattle.video2d.specs.Engines.{EngineState, background_mosaic, bgcnt}
use Rattle.video2d.specs.Pictures.{is_engine_enabled, is_forced_blank, object_memory, shows_layers}
use Rattle.video2d.specs.Scans.{blanks_drawn_line}
use Rattle.video2d.specs.Stops.{first_need, needed_if, needs_capture, needs_display_mode, needs_mode, needs_of_background, needs_of_engine, needs_of_line, needs_of_object, needs_of_objects, needs_of_objects_shown, value_of_engine}
use Rattle.video2d.specs.declared.engines.Engine.{Engine}
use Rattle.video2d.specs.declared.engines.Engine.TheVariants.{A, B}
use Rattle.video2d.specs.declared.videos.Shown as display
use Rattle.ds_machine.specs.Stopping.{NoStopIsNotYet}

-- No step stops for want of what isn't built yet.

-- ---- stops that are named

-- a kind that names what is left out
abbrev HasName : LeftKind → Type 0
HasName kind = kind ≢ kinds.NotYet

-- a stop, if there is one, has such a kind
abbrev IsNamed : Option Stop → Type 0
IsNamed None = Unit {0}
IsNamed (Some stop) = HasName stop.kind

stop_if : (b : Bool) (stop : Stop) → HasName stop.kind → IsNamed (if b then Some stop else None)
stop_if true stop h = h
stop_if false stop h = tt

stop_unless : (b : Bool) (stop : Stop) → HasName stop.kind → IsNamed (if b then None else Some stop)
stop_unless true stop h = tt
stop_unless false stop h = h

named_if : (b : Bool) (stop : Option Stop) → IsNamed stop → IsNamed (if b then stop else None)
named_if true stop h = h
named_if false stop h = tt

-- ---- the display's

need_named : (b : Bool) (kind : LeftKind) (value : ℕ) → HasName kind → IsNamed (needed_if b kind value)
need_named b kind value h = stop_if b (record { kind = kind; value = value }) h

-- so of each of them
abbrev AreNamed : List (Option Stop) → Type 0
AreNamed [] = Unit {0}
AreNamed (need ∷ needs) = IsNamed need × AreNamed needs

first_named : (needs : List (Option Stop)) → AreNamed needs → IsNamed (first_need needs)
first_named [] h = tt
first_named (None ∷ needs) h = first_named needs h.1
first_named (Some stop ∷ needs) h = h.0

each_named : (need : ℕ → Option Stop) → ((n : ℕ) → IsNamed (need n)) → (ns : List ℕ) → AreNamed (map need ns)
each_named need h [] = tt
each_named need h (n ∷ ns) = (h n, each_named need h ns)

capture_named : (which : Engine) (e : EngineState) → IsNamed (needs_capture which e)
capture_named A e = need_named _ kinds.Capture _ (λ e. cc)
capture_named B e = tt

module _ (which : Engine) (e : EngineState) where
  background_named : (n : ℕ) → IsNamed (needs_of_background which e n)
  background_named n =
      named_if (shows_layers which e && is_background_on e n) _
      (need_named (bit 6 (bgcnt e n) && not (background_mosaic e == 0)) kinds.Mosaic (value_of_engine which n) (λ e. cc))

  -- what an object needs, by whether it covers the line, is a bitmap and has mosaic
  object_by : (lies bitmap mosaic : Bool) (value other : ℕ)
      → IsNamed (if lies then first_need (needed_if bitmap kinds.BitmapObject value ∷ needed_if mosaic kinds.Mosaic other ∷ []) else None)
  object_by lies bitmap mosaic value other =
      let needs : List (Option Stop) = needed_if bitmap kinds.BitmapObject value ∷ needed_if mosaic kinds.Mosaic other ∷ [] in
      let h : AreNamed needs = (need_named bitmap kinds.BitmapObject value (λ e. cc), (need_named mosaic kinds.Mosaic other (λ e. cc), tt)) in
      named_if lies (first_need needs) (first_named needs h)

  object_named : (oam : List ℕ) (line n : ℕ) → IsNamed (needs_of_object which e oam line n)
  object_named oam line n = object_by _ _ _ _ _

  objects_named : (oam : List ℕ) (line : ℕ) → IsNamed (needs_of_objects which e oam line)
  unfolding needs_of_objects
  objects_named oam line =
      let need : ℕ → Option Stop = λ n. needs_of_object which e oam line n in
      first_named (map need (range_with_len 0 128)) (each_named need (object_named oam line) (range_with_len 0 128))

  shown_named : (oam : List ℕ) (line : ℕ) → IsNamed (needs_of_objects_shown which e oam line)
  shown_named oam line = named_if (shows_layers which e) (needs_of_objects which e oam line) (objects_named oam line)

  -- what an engine needs before its backgrounds
  mode_named : IsNamed (needs_display_mode which e) × (IsNamed (needs_mode which e) × IsNamed (needs_capture which e))
  mode_named = (need_named _ kinds.DisplayMode _ (λ e. cc), (need_named _ kinds.BgMode _ (λ e. cc), capture_named which e))

  engine_named : (power : ℕ) (oam : List ℕ) (line : ℕ) → IsNamed (needs_of_engine which power e oam line)
  engine_named power oam line =
      let needs : List (Option Stop) =
      needs_display_mode which e ∷ needs_mode which e ∷ needs_capture which e
      ∷ needs_of_background which e 0 ∷ needs_of_background which e 1 ∷ needs_of_background which e 2 ∷ needs_of_background which e 3
      ∷ needs_of_objects_shown which e (object_memory which oam) line ∷ [] in
      let m = mode_named in
      let b = background_named in
      let o = shown_named (object_memory which oam) line in
      let h : AreNamed needs = (m.0, (m.1.0, (m.1.1, (b 0, (b 1, (b 2, (b 3, (o, tt)))))))) in
      named_if (is_engine_enabled which power && not (is_forced_blank e)) (first_need needs) (first_named needs h)

line_named : (oam : List ℕ) (v : VideoState) → IsNamed (video_stop oam v)
line_named oam v =
    let needs : List (Option Stop) = needs_of_engine A v.power v.a oam v.scan.line ∷ needs_of_engine B v.power v.b oam v.scan.line ∷ [] in
    let h : AreNamed needs = (engine_named A v.a v.power oam v.scan.line, (engine_named B v.b v.power oam v.scan.line, tt)) in
    named_if (blanks_drawn_line v.scan) (needs_of_line v.power v.a v.b oam v.scan.line) (first_named needs h)

-- ---- those of the ports, and of the map

control_named : (proc : Proc) (old control : ℕ) → IsNamed (refusal proc old control)
control_named proc old control = stop_if (is_enabled control && not (is_enabled old) && is_left_out proc control) (record { kind = kinds.DmaStart; value = control }) (λ e. cc)

card_named : (card : CardState) (at : ℕ) (width : Width) (word : ℕ) → IsNamed (start_refusal card at width word)
card_named card at width word = stop_if _ (record { kind = kinds.CardTransfer; value = _ }) (λ e. cc)

halt_named : (value : ℕ) → IsNamed (halt_refusal value)
halt_named value = stop_if ((bits 6 2 value == 1) || (bits 6 2 value == 3)) (record { kind = kinds.HaltMode; value = value }) (λ e. cc)

module _ (proc : Proc) (u : IoState) where
  register_named : (n word : ℕ) (register : Register) → IsNamed ((meaning_of register).refusal proc u n word)
  register_named n word Dmacnt =
      control_named (io_of u proc).dma.proc (channel_at (io_of u proc).dma.channels n).cnt (kept_channel_control (io_of u proc).dma.proc n word)
  register_named n word Auxspicnt = card_named u.card n Half word
  register_named n word CardWord = card_named u.card n Word word
  register_named n word Haltcnt = halt_named (word % 2 ^ 8)
  register_named n word _ = tt

  port_named : (at : ℕ) (width : Width) (value : ℕ) → IsNamed (port_refusal proc u at width value)
  port_named at width value = refusal_is_so proc u IsNamed tt (λ register n word. register_named n word register) at width value

place_named : (proc : Proc) (p : place.Place) (m : MapState) (width : Width) (value : ℕ) → IsNamed (refusal_at proc p m width value)
place_named proc (Cell memory at) m width value = tt
place_named proc (Banks space at) m width value = tt
place_named proc (Port at) m width value = port_named proc m.io (aligned_down width at) width value
place_named proc (Rom at) m width value = tt
place_named proc Nothing m width value = tt

map_named : (proc : Proc) (m : MapState) (at : ℕ) (width : Width) (value : ℕ) → IsNamed (map_refusal proc m at width value)
unfolding map_refusal
map_named proc m at width value = place_named proc (place_of proc m.io.wramcnt at) m width value

tcm_named : (t : Tcm) (r : NineReach) (at : ℕ) (width : Width) (value : ℕ) → IsNamed (tcm_refusal t r at width value)
tcm_named (Itcm p) r at width value = tt
tcm_named (Dtcm p) r at width value = tt
tcm_named Past r at width value = map_named Nine r.map at width value

-- ---- a processor's, over any memory machine whose refusals are named

abbrev CameNamed : arm.Stepped → Type 0
CameNamed (Cost clocks) = Unit {0}
CameNamed (Halted clocks) = Unit {0}
CameNamed (Left stop) = HasName stop.kind

swi_named : (instr : Instr) → IsNamed (swi_stop instr)
swi_named (Swi cond immed) = stop_unless (is_served (immed / 2 ^ 16)) (record { kind = kinds.Swi; value = immed / 2 ^ 16 }) (λ e. cc)
swi_named (ThumbSwi immed) = stop_unless (is_served immed) (record { kind = kinds.Swi; value = immed }) (λ e. cc)
swi_named _ = tt

module _ {S : Type 0} (memory : MemoryMachine S) (refuses : (s : S) (at : ℕ) (width : Width) (value : ℕ) → IsNamed (memory.refusal s at width value)) where
  refused_named : (stop : Option Stop) (left : S) (rest : Performed S) → IsNamed stop → IsNamed rest.stop → IsNamed (refused_or stop left rest).stop
  refused_named None left rest h k = k
  refused_named (Some stop) left rest h k = h

  performed_named : (accesses : List Access) (s : S) → IsNamed (perform memory s accesses).stop
  performed_named [] s = tt
  performed_named (Fetch at width ∷ rest) s = performed_named rest (memory.fetch_next s at width)
  performed_named (Read at width ∷ rest) s = performed_named rest (memory.read_next s at width)
  performed_named (Write at width value ∷ rest) s =
      refused_named (memory.refusal s at width value) (memory.write_next s at width value) (perform memory (memory.write_next s at width value) rest)
      (refuses s at width value) (performed_named rest (memory.write_next s at width value))

  concluded_named : (arch : Arch) (old : RegisterState) (m : Meaning) (done : Performed S) (stop : Option Stop) → IsNamed stop
      → CameNamed (concluded arch old m done stop).stepped
  concluded_named arch old m done None h = tt
  concluded_named arch old m done (Some stop) h = h

  carried_named : (arch : Arch) (old : RegisterState) (s : S) (m : Meaning) → CameNamed (carried_out memory arch old s m).stepped
  carried_named arch old s m =
      let done = perform memory s m.accesses in concluded_named arch old m done done.stop (performed_named m.accesses s)

  unless_named : (setting : Setting) (old : RegisterState) (s : S) (instr : Instr) (stop : Option Stop) → IsNamed stop
      → CameNamed (executed_unless memory setting old s instr stop).stepped
  unless_named setting old s instr None h = carried_named setting.arch old s (meaning setting.arch setting.base old instr)
  unless_named setting old s instr (Some stop) h = h

  word_came : (setting : Setting) (old : RegisterState) (s : S) (number : ℕ) (instr : Option Instr) → CameNamed (executed_word memory setting old s number instr).stepped
  word_came setting old s number (Some instr) =
      unless_named setting old s instr (stop_of setting old instr) (named_if (setting.in_rom && holds (condition instr) old.cpsr) (swi_stop instr) (swi_named instr))
  word_came setting old s number None =
      carried_named setting.arch old s (if holds (condition_of number) old.cpsr then undefined_meaning setting.base old else skipped old)

  taken_named : (side : SideOf S) → ((old : RegisterState) (s : S) (number : ℕ) (instr : Option Instr) → CameNamed (side.step.executed old s number instr).stepped)
      → (line : Bool) (old : RegisterState) (s : S) → CameNamed (side_taken memory side line old s).stepped
  unfolding taken
  taken_named side executes line old s =
      let f = fetched memory side.step.arch old s in
      either (λ (o : Outcome S). CameNamed o.stepped) (enters line old) (carried_out memory side.step.arch old s (interrupt_meaning (side.step.base s) old)) (side.step.executed old s f.number f.instr)
      (carried_named side.step.arch old s (interrupt_meaning (side.step.base s) old)) (executes old s f.number f.instr)

-- ---- a move to CP15

abbrev AnswerNamed : answer.Mcr → Type 0
AnswerNamed mcr.Kept = Unit {0}
AnswerNamed mcr.Halt = Unit {0}
AnswerNamed (mcr.Left stop) = HasName stop.kind

big_named : (b : Bool) (value : ℕ) → AnswerNamed (if b then mcr.Left (record { kind = kinds.BigEndian; value = value }) else mcr.Kept)
big_named true value = λ e. cc
big_named false value = tt

answer_named : (value : ℕ) (r : Cp15Register) → AnswerNamed (write_answer r value)
answer_named value WaitForInterrupt = tt
answer_named value r = big_named (asks_big_endian r value) value

written_named : (s : RegisterState) (cp : Cp15State) (r : Cp15Register) (value : ℕ) (m : answer.Mcr) → AnswerNamed m → CameNamed (written_by s cp r value m).stepped
written_named s cp r value mcr.Kept h = tt
written_named s cp r value mcr.Halt h = tt
written_named s cp r value (mcr.Left stop) h = h

moved_named : (s : RegisterState) (cp : Cp15State) (m : Moved) → CameNamed (moved_if s cp m).stepped
moved_named s cp m =
    let r = register_moved m in
    let value = register s m.rd in
    either (λ (o : MoveOutcome). CameNamed o.stepped) (holds m.cond s.cpsr) (carried_over s cp m) _
    (either (λ (o : MoveOutcome). CameNamed o.stepped) m.load _ (written_by s cp r value (write_answer r value)) tt (written_named s cp r value (write_answer r value) (answer_named value r))) tt

-- ---- both processors

nine_refuses : (r : NineReach) (at : ℕ) (width : Width) (value : ℕ) → IsNamed (nine_memory.refusal r at width value)
nine_refuses r at width value = tcm_named (tcm_of r.cp15 at true false) r at width value

seven_refuses : (r : SevenReach) (at : ℕ) (width : Width) (value : ℕ) → IsNamed (seven_memory.refusal r at width value)
seven_refuses r at width value = map_named Seven r.map at width value

nine_came : (old : RegisterState) (r : NineReach) (number : ℕ) (instr : Option Instr) (move : Option Moved) → CameNamed (nine_executed old r number instr move).stepped
nine_came old r number instr None = word_came nine_memory nine_refuses (arm9 r.cp15) old r number instr
nine_came old r number instr (Some move) = moved_named old r.cp15 move

ticks_named : (proc : Proc) (waits : ℕ) (came : arm.Stepped) → CameNamed came → CameNamed (in_ticks proc waits came)
ticks_named proc waits (Cost clocks) h = tt
ticks_named proc waits (Halted clocks) h = tt
ticks_named proc waits (Left stop) h = h

outcome_named : (proc : Proc) (now : Tick) (s : MachineState) → CameNamed (outcome_of proc now s).stepped
outcome_named Nine now s =
    ticks_named Nine (side_waits nine_memory nine_side (line_of s Nine) s.nine.processor.registers (nine_reach now s))
    (side_taken nine_memory nine_side (line_of s Nine) s.nine.processor.registers (nine_reach now s)).stepped
    (taken_named nine_memory nine_refuses nine_side (λ old r number instr. nine_came old r number instr (move_of instr)) (line_of s Nine) s.nine.processor.registers (nine_reach now s))
outcome_named Seven now s =
    ticks_named Seven (side_waits seven_memory seven_side (line_of s Seven) s.seven.processor.registers (seven_reach now s))
    (side_taken seven_memory seven_side (line_of s Seven) s.seven.processor.registers (seven_reach now s)).stepped
    (taken_named seven_memory seven_refuses seven_side (word_came seven_memory seven_refuses arm7) (line_of s Seven) s.seven.processor.registers (seven_reach now s))

-- ---- steps of the machine

abbrev StepNamed : MachineStep MachineState Shown LeftOut → Type 0
StepNamed (Makes next outs) = Unit {0}
StepNamed (Stops stop left) = HasName stop.kind

processor_named : (rank : ℕ) (proc : Proc) (s : MachineState) (came : arm.Stepped) → CameNamed came → StepNamed (machine_concluded rank proc s came)
processor_named rank proc s (Cost clocks) h = tt
processor_named rank proc s (Halted clocks) h = tt
processor_named rank proc s (Left stop) h = h

unit_named : (rank : ℕ) (proc : Proc) (now : Tick) (stop : Option Stop) (s : MachineState) → IsNamed stop → StepNamed (moved_by rank proc now stop s)
unit_named rank proc now None s h = tt
unit_named rank proc now (Some stop) s h = h

channel_named : (rank : ℕ) (proc : Proc) (due : Option Tick) (s : MachineState) → StepNamed (channel_step rank proc due s)
channel_named rank proc None s = tt
channel_named rank proc (Some now) s =
    let unit = next_unit s.io proc in
    unit_named rank proc now (unit_refusal proc now unit (map_of proc s)) (with_map proc s (unit_moved proc now unit (map_of proc s))) (map_named proc _ _ _ _)

display_named : (rank : ℕ) (stop : Option Stop) (shown : display.Shown) (s : MachineState) → IsNamed stop → StepNamed (video_step rank (answer_unless stop shown) s)
display_named rank None shown s h = tt
display_named rank (Some stop) shown s h = h

by_named : (rank : ℕ) (s : MachineState) (a : actor.Actor) → StepNamed (step_by rank a s)
by_named rank s Video = display_named rank (video_stop s.oam s.io.video) (video_shown s.io.video) s (line_named s.oam s.io.video)
by_named rank s (Dma proc channel) = channel_named rank proc (io_due (Dma proc channel) s.io) s
by_named rank s (Processor proc) =
    let o = outcome_of proc (tick_of (processor_of s proc)) s in processor_named rank proc o.machine o.stepped (outcome_named proc (tick_of (processor_of s proc)) s)
by_named rank s _ = tt

awake_named : (due : Option Tick) (came : MachineStep MachineState Shown LeftOut) → StepNamed came → StepNamed (awake due came)
awake_named None came h = h
awake_named (Some tick) (Makes next outs) h = tt
awake_named (Some tick) (Stops stop left) h = h

pub no_stop_is_not_yet : NoStopIsNotYet
no_stop_is_not_yet rank s left stop h = subst StepNamed h (awake_named (due_by (actor_of rank) s) (step_by rank (actor_of rank) s) (by_named rank s (actor_of rank)))
