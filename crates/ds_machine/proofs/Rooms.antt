use Rattle.ds_machine.proofs.Words.{Access, Arch, AreWaiting, Bool, Cost, Cp15State, Dma, DmaUnit, Dtcm, Fetch, FindsRoom, GxState, Halted, Instr}
use Rattle.ds_machine.proofs.Words.{IoState, Itcm, Left, LeftOut, List, MachineState, MachineStep, Makes, MapState, Moved, Nine, NineReach, None}
use Rattle.ds_machine.proofs.Words.{Option, Past, Performed, Proc, Processor, Read, RegisterState, Setting, Seven, SevenReach, Shown, Some, Stop}
use Rattle.ds_machine.proofs.Words.{Stops, Tcm, Tick, V5, Width, Write, [], accesses_of, actor_of, ap, arith, arm7, arm9, awake, blocks_processor}
use Rattle.ds_machine.proofs.Words.{channel_due, channel_step, due_by, ended, enters, executed_word, false, fetched, goes_on, held_due, if◌then◌else◌}
use Rattle.ds_machine.proofs.Words.{interrupt_meaning, io_due, is_blocked, is_half_empty, is_stalled, left_by, length, level_told, line_of}
use Rattle.ds_machine.proofs.Words.{machine_concluded, machine_settled, map_after_unit, map_of, map_read_leaves, map_value, meaning, most_entries}
use Rattle.ds_machine.proofs.Words.{move_of, moved_by, nat_lt, next_unit, nine_executed, nine_memory, nine_reach, nine_side, none-some, or_parts}
use Rattle.ds_machine.proofs.Words.{outcome_of, perform, processor_due, processor_io_triggered, processor_of, processor_step, read_leaves}
use Rattle.ds_machine.proofs.Words.{reference_step, refl, refused_or, settled, seven_memory, seven_reach, seven_side, side_taken, step_accesses}
use Rattle.ds_machine.proofs.Words.{step_by, subst, sym, taken_leaves, tcm_of, tcm_read, tcm_written, tick_of, true, unit_moved, unit_read}
use Rattle.ds_machine.proofs.Words.{unit_refusal, unit_taken, waiting_entries, wakes, with_map, woken_one, ℕ, ◌*◌, ◌+◌, ◌-◌, ◌∙◌, ◌∷◌, ◌≡◌, ◌≤◌}
use Rattle.arm_core.specs.declared.outcomes.Stepped as arm
use Rattle.ds_dma.specs.declared.controls.Cause.TheVariants as causes
use Rattle.ds_runs.specs.declared.actors.Actor as actor
use Rattle.ds_machine.specs.Rooms.{InstructionsFindRoom, NineStepsFindRoom, NineUnitsFindRoom, SevenStepsLeaveGeometry, SevenUnitsLeaveGeometry, StepFindsRoom, StepsFindRoom, UnitFindsRoom}
use Rattle.ds_machine.specs.Steps.{StepOutcome}
use Rattle.ds_machine.proofs.FewAccesses.{instructions_are_short}
use Rattle.ds_machine.proofs.MadeAccesses.{carried_state, move_silent, word_made}
use Rattle.ds_machine.proofs.Keeps.{Follows, taken_follows, word_follows}
use Rattle.ds_machine.proofs.RoomWrites.{GrowsByFour, nine_grows, no_growth, seven_stays}
use Rattle.ds_machine.proofs.Taken.{taken_entered, taken_executed}

-- Whatever is written to geometry finds room.

-- ---- what ARM9's accesses make of what waits

tcm_reads : (t : Tcm) (r : NineReach) (at : ℕ) (width : Width) → (tcm_read t r at width).map.io.gx ≡ r.map.io.gx
tcm_reads (Itcm place) r at width = refl
tcm_reads (Dtcm place) r at width = refl
tcm_reads Past r at width = (map_read_leaves Nine r.now r.map at width).gx

tcm_writes : (t : Tcm) (r : NineReach) (at : ℕ) (width : Width) (value : ℕ) → GrowsByFour r.map.io.gx (tcm_written t r at width value).map.io.gx
tcm_writes (Itcm place) r at width value = no_growth r.map.io.gx
tcm_writes (Dtcm place) r at width value = no_growth r.map.io.gx
tcm_writes Past r at width value = nine_grows r.now r.map at width value

-- ---- accesses one after another, where there is room for four entries each

abbrev waiting : NineReach → ℕ
waiting r = waiting_entries r.map.io.gx

refused_within : (stop : Option Stop) (left : NineReach) (rest : Performed NineReach) → waiting left ≤ most_entries → waiting rest.state ≤ most_entries
    → waiting (refused_or stop left rest).state ≤ most_entries
refused_within None left rest h k = k
refused_within (Some stop) left rest h k = h

abbrev HaveRoom : List Access → NineReach → Type 0
HaveRoom accesses r = FindsRoom accesses r × (waiting (perform nine_memory r accesses).state ≤ most_entries)

have_room : (accesses : List Access) (r : NineReach) → AreWaiting r.map.io.gx → waiting r + 4 * length accesses ≤ most_entries → HaveRoom accesses r
have_room [] r w h = (tt, omega (arith, h))
have_room (Fetch at width ∷ rest) r w h =
    let l : waiting r + 4 * length rest ≤ most_entries = omega (arith, h) in
    let more : HaveRoom rest r = have_room rest r w l in
    let now : waiting r ≤ most_entries - 4 = omega (arith, h) in
    ((now, more.0), more.1)
have_room (Read at width ∷ rest) r w h =
    let next : NineReach = tcm_read (tcm_of r.cp15 at false false) r at width in
    let e : next.map.io.gx ≡ r.map.io.gx = tcm_reads (tcm_of r.cp15 at false false) r at width in
    let many : waiting next ≡ waiting r = ap waiting_entries e in
    let l : waiting next + 4 * length rest ≤ most_entries = omega (arith, h, many) in
    let more : HaveRoom rest next = have_room rest next (subst AreWaiting (sym e) w) l in
    let now : waiting r ≤ most_entries - 4 = omega (arith, h) in
    ((now, more.0), more.1)
have_room (Write at width value ∷ rest) r w h =
    let next : NineReach = tcm_written (tcm_of r.cp15 at true false) r at width value in
    let g : GrowsByFour r.map.io.gx next.map.io.gx = tcm_writes (tcm_of r.cp15 at true false) r at width value in
    let many : waiting next ≤ waiting r + 4 = g.entries w in
    let l : waiting next + 4 * length rest ≤ most_entries = omega (arith, h, many) in
    let now : waiting r ≤ most_entries - 4 = omega (arith, h) in
    let left : waiting next ≤ most_entries = omega (arith, now, many) in
    let more : HaveRoom rest next = have_room rest next (g.waiting left w) l in
    ((now, more.0), refused_within (nine_memory.refusal r at width value) next (perform nine_memory next rest) left more.1)

not_over : (n : ℕ) → nat_lt 260 n ≡ false → n ≤ 260
not_over n h = grind (arith, h)

pub few_have_room : (accesses : List Access) (r : NineReach) → length accesses ≤ 16 → AreWaiting r.map.io.gx → is_stalled r.map.io.gx ≡ false → HaveRoom accesses r
few_have_room accesses r few w free =
    let l : waiting r ≤ 260 = not_over (waiting r) free in
    let h : waiting r + 4 * length accesses ≤ most_entries = omega (arith, l, few) in
    have_room accesses r w h

pub instructions_find_room : InstructionsFindRoom
instructions_find_room arch base s instr r w free =
    (few_have_room (meaning arch base s instr).accesses r (instructions_are_short arch base s instr) w free).0

-- ---- a step makes its accesses, and no other change but of CP15

none_made : 0 ≤ 16
none_made = omega arith

executed_few : (arch : Arch) (base : ℕ) (s : RegisterState) (instr : Option Instr) → length (accesses_of arch base s instr) ≤ 16
executed_few arch base s None = none_made
executed_few arch base s (Some instr) = instructions_are_short arch base s instr

either_few : (b : Bool) (accesses : List Access) → length accesses ≤ 16 → length (if b then [] else accesses) ≤ 16
either_few true accesses h = none_made
either_few false accesses h = h

module _ (s : RegisterState) (r : NineReach) where
  abbrev setting : Setting
  setting = arm9 r.cp15

  abbrev state_after : List Access → NineReach
  state_after accesses = (perform nine_memory r accesses).state

  -- what is left is what they leave, but for CP15
  abbrev IsMade : NineReach → List Access → Type 0
  IsMade left accesses = left ≡ record (state_after accesses) { cp15 = left.cp15 }

  beside_cp15 : (x y : NineReach) → x ≡ y → x ≡ record y { cp15 = x.cp15 }
  beside_cp15 x y e = e ∙ ap (λ (c : Cp15State). (let t : NineReach = record y { cp15 = c } in t)) (sym (ap (λ (z : NineReach). z.cp15) e))

  executed_made : (number : ℕ) (instr : Option Instr) (move : Option Moved) → move_of instr ≡ move
      → IsMade (nine_executed s r number instr move).state (accesses_of V5 setting.base s instr)
  executed_made number instr None is =
      beside_cp15 (executed_word nine_memory setting s r number instr).state (state_after (accesses_of V5 setting.base s instr))
      (word_made nine_memory setting s r number instr)
  executed_made number instr (Some move) is =
      let left : NineReach = (nine_executed s r number instr (Some move)).state in
      let none : accesses_of V5 setting.base s instr ≡ [] = move_silent V5 setting.base s instr (rw is refl) in
      ap (λ (x : NineReach). (let t : NineReach = record x { cp15 = left.cp15 } in t)) (sym (ap state_after none))

  pub step_made : (line : Bool) → IsMade (side_taken nine_memory nine_side line s r).state (step_accesses nine_memory nine_side line s r)
  step_made line = by_entry (enters line s) refl where
    by_entry : (b : Bool) → enters line s ≡ b
        → IsMade (side_taken nine_memory nine_side line s r).state (if b then [] else accesses_of V5 setting.base s (fetched nine_memory V5 s r).instr)
    by_entry true e =
        rw (taken_entered nine_memory nine_side line s r e) (beside_cp15 _ r (carried_state nine_memory V5 s r (interrupt_meaning setting.base s)))
    by_entry false e =
        let f = fetched nine_memory V5 s r in
        rw (taken_executed nine_memory nine_side line s r f.number f.instr e refl refl) (executed_made f.number f.instr (move_of f.instr) refl)

pub steps_find_room : StepsFindRoom
steps_find_room line s r w free =
    let accesses : List Access = step_accesses nine_memory nine_side line s r in
    let f = fetched nine_memory V5 s r in
    let few : length accesses ≤ 16 = either_few (enters line s) _ (executed_few V5 (nine_side.step.base r) s f.instr) in
    let room : HaveRoom accesses r = few_have_room accesses r few w free in
    let made = step_made s r line in
    record { accesses = room.0; after = subst (λ (n : ℕ). n ≤ most_entries) (sym (ap waiting made)) room.1; made = made }

-- ---- what follows a step leaves geometry

abbrev gx_of : MachineState → GxState
gx_of s = s.io.gx

settled_leaves : (now : Tick) (u : IoState) → (settled now u).gx ≡ u.gx
settled_leaves now u = by_room (is_half_empty u.gx) where
  by_room : (b : Bool) → (if b then record (level_told u) { nine = processor_io_triggered (level_told u).nine causes.Geometry now } else level_told u).gx ≡ u.gx
  by_room true = refl
  by_room false = refl

on_leaves : (proc : Proc) (tick : Tick) (s : MachineState) → gx_of (goes_on proc tick s) ≡ gx_of s
on_leaves Nine tick s = refl
on_leaves Seven tick s = refl

one_leaves : (proc : Proc) (tick : Tick) (s : MachineState) → gx_of (woken_one proc tick s) ≡ gx_of s
one_leaves proc tick s = by_waking (wakes s proc) where
  by_waking : (b : Bool) → gx_of (if b then goes_on proc tick s else s) ≡ gx_of s
  by_waking true = on_leaves proc tick s
  by_waking false = refl

awake_leaves : (due : Option Tick) (came : MachineStep MachineState Shown LeftOut) → gx_of (left_by (awake due came)) ≡ gx_of (left_by came)
unfolding ended
awake_leaves None came = refl
awake_leaves (Some tick) (Makes next outs) =
    let settles = machine_settled tick next in
    one_leaves Seven tick (woken_one Nine tick settles) ∙ one_leaves Nine tick settles ∙ settled_leaves tick next.io
awake_leaves (Some tick) (Stops stop left) = refl

-- ---- a processor's step in the machine

abbrev own_step : ℕ → Proc → MachineState → MachineStep MachineState Shown LeftOut
own_step rank proc s = processor_step rank proc s

concluded_leaves : (rank : ℕ) (proc : Proc) (s : MachineState) (came : arm.Stepped)
    → (let step : MachineStep MachineState Shown LeftOut = machine_concluded rank proc s came in gx_of (left_by step) ≡ gx_of s)
concluded_leaves rank Nine s (Cost clocks) = refl
concluded_leaves rank Nine s (Halted clocks) = refl
concluded_leaves rank Nine s (Left stop) = refl
concluded_leaves rank Seven s (Cost clocks) = refl
concluded_leaves rank Seven s (Halted clocks) = refl
concluded_leaves rank Seven s (Left stop) = refl

abbrev outcome : Proc → MachineState → StepOutcome
outcome proc s = outcome_of proc (tick_of (processor_of s proc)) s

processor_leaves : (rank : ℕ) (proc : Proc) (s : MachineState) (due : Option Tick)
    → gx_of (left_by (awake due (own_step rank proc s))) ≡ gx_of (outcome proc s).machine
processor_leaves rank proc s due =
    awake_leaves due (own_step rank proc s) ∙ concluded_leaves rank proc (outcome proc s).machine (outcome proc s).stepped

-- of the actor of a rank
by_actor : (P : MachineState → Type 0) (rank : ℕ) (a : actor.Actor) (s : MachineState) → actor_of rank ≡ a → P (left_by (awake (due_by a s) (step_by rank a s)))
    → P (left_by (reference_step rank s))
by_actor P rank a s is h = rw is h

pub nine_steps_find_room : NineStepsFindRoom
nine_steps_find_room s w free =
    let now : Tick = tick_of s.nine.processor in
    let step : StepFindsRoom (line_of s Nine) s.nine.processor.registers (nine_reach now s) =
    steps_find_room (line_of s Nine) s.nine.processor.registers (nine_reach now s) w (or_parts (blocks_processor s.io.nine) (is_stalled s.io.gx) free).1 in record {
      step = step;
      after = λ rank is.
          by_actor (λ (x : MachineState). waiting_entries x.io.gx ≤ most_entries) rank (Processor Nine) s is
          (subst (λ (g : GxState). waiting_entries g ≤ most_entries) (sym (processor_leaves rank Nine s (processor_due s Nine))) step.after);
    }

-- ---- ARM9's DMA

pub due_unstalled : (stalled : Bool) (released : ℕ) (due : Option Tick) (now : Tick) → held_due stalled released due ≡ Some now → stalled ≡ false
due_unstalled true released due now h = absurd (none-some now h)
due_unstalled false released due now h = refl

unit_grows : (stop : Option Stop) (now : Tick) (unit : DmaUnit) (m : MapState) → AreWaiting m.io.gx
    → waiting_entries (map_after_unit stop Nine now unit m).io.gx ≤ waiting_entries m.io.gx + 4
unit_grows None now unit m w =
    let e = taken_leaves Nine now unit m in
    let g = nine_grows now (unit_taken Nine now unit m) unit.to unit.width (map_value Nine now m unit.from unit.width) in
    let many : waiting_entries (unit_taken Nine now unit m).io.gx ≡ waiting_entries m.io.gx = ap waiting_entries e in
    omega (arith, g.entries (subst AreWaiting (sym e) w), many)
unit_grows (Some stop) now unit m w =
    let many : waiting_entries (unit_read Nine now unit m).io.gx ≡ waiting_entries m.io.gx = ap waiting_entries (read_leaves Nine now unit m) in omega (arith, many)

unit_finds_room : (now : Tick) (unit : DmaUnit) (m : MapState) → AreWaiting m.io.gx → is_stalled m.io.gx ≡ false → UnitFindsRoom now unit m
unit_finds_room now unit m w free =
    let l : waiting_entries m.io.gx ≤ 260 = not_over (waiting_entries m.io.gx) free in
    let many : waiting_entries (unit_taken Nine now unit m).io.gx ≡ waiting_entries m.io.gx = ap waiting_entries (taken_leaves Nine now unit m) in
    let more : waiting_entries (unit_moved Nine now unit m).io.gx ≤ waiting_entries m.io.gx + 4 = unit_grows (unit_refusal Nine now unit m) now unit m w in
    let before : waiting_entries (unit_taken Nine now unit m).io.gx ≤ most_entries - 4 = omega (arith, l, many) in
    record { read = omega (arith, l); write = before; after = omega (arith, l, more) }

abbrev channel_came : ℕ → Proc → Option Tick → MachineState → MachineStep MachineState Shown LeftOut
channel_came rank proc due s = channel_step rank proc due s

refused_leaves : (rank : ℕ) (proc : Proc) (now : Tick) (refusal : Option Stop) (s : MachineState)
    → (let step : MachineStep MachineState Shown LeftOut = moved_by rank proc now refusal s in gx_of (left_by step) ≡ gx_of s)
refused_leaves rank Nine now None s = refl
refused_leaves rank Seven now None s = refl
refused_leaves rank proc now (Some stop) s = refl

channel_leaves : (rank : ℕ) (proc : Proc) (now : Tick) (s : MachineState)
    → gx_of (left_by (channel_came rank proc (Some now) s)) ≡ (unit_moved proc now (next_unit s.io proc) (map_of proc s)).io.gx
channel_leaves rank proc now s =
    let unit = next_unit s.io proc in
    refused_leaves rank proc now (unit_refusal proc now unit (map_of proc s)) (with_map proc s (unit_moved proc now unit (map_of proc s)))

pub nine_units_find_room : NineUnitsFindRoom
nine_units_find_room now channel s w due =
    let unit : UnitFindsRoom now (next_unit s.io Nine) (map_of Nine s) =
    unit_finds_room now (next_unit s.io Nine) (map_of Nine s) w (due_unstalled (is_stalled s.io.gx) s.io.released (channel_due s.io.nine.dma channel) now due) in record {
      unit = unit;
      after = λ rank is.
          by_actor (λ (x : MachineState). waiting_entries x.io.gx ≤ most_entries) rank (Dma Nine channel) s is
          (subst (λ (g : GxState). waiting_entries g ≤ most_entries) (sym (awake_leaves (io_due (Dma Nine channel) s.io) (channel_came rank Nine (io_due (Dma Nine channel) s.io) s)))
          (subst (λ (d : Option Tick). waiting_entries (gx_of (left_by (channel_came rank Nine d s))) ≤ most_entries) (sym due)
          (subst (λ (g : GxState). waiting_entries g ≤ most_entries) (sym (channel_leaves rank Nine now s)) unit.after)));
    }

-- ---- ARM7

seven_follows : Follows seven_memory (λ (r : SevenReach). Unit {0}) (λ (r t : SevenReach). t.map.io.gx ≡ r.map.io.gx)
seven_follows = record {
  stays = λ r i. refl;
  joins = λ r t u one two. two ∙ one;
  ends = λ r t one. tt;
  fetches = λ r at width i. refl;
  reads = λ r at width i. (map_read_leaves Seven r.now r.map at width).gx;
  writes = λ r at width value i. seven_stays r.now r.map at width value;
}

seven_taken : (line : Bool) (s : RegisterState) (r : SevenReach) → (side_taken seven_memory seven_side line s r).state.map.io.gx ≡ r.map.io.gx
seven_taken line s r =
    taken_follows seven_memory (λ (r : SevenReach). Unit {0}) (λ (r t : SevenReach). t.map.io.gx ≡ r.map.io.gx) seven_follows seven_side
    (λ old t number instr i. word_follows seven_memory (λ (r : SevenReach). Unit {0}) (λ (r t : SevenReach). t.map.io.gx ≡ r.map.io.gx) seven_follows arm7 old t number instr i)
    line s r tt

pub seven_steps_leave_geometry : SevenStepsLeaveGeometry
seven_steps_leave_geometry rank s is =
    by_actor (λ (x : MachineState). x.io.gx ≡ s.io.gx) rank (Processor Seven) s is
    (processor_leaves rank Seven s (processor_due s Seven) ∙ seven_taken (line_of s Seven) s.seven.processor.registers (seven_reach (tick_of s.seven.processor) s))

seven_unit : (stop : Option Stop) (now : Tick) (unit : DmaUnit) (m : MapState) → (map_after_unit stop Seven now unit m).io.gx ≡ m.io.gx
seven_unit None now unit m =
    seven_stays now (unit_taken Seven now unit m) unit.to unit.width (map_value Seven now m unit.from unit.width) ∙ taken_leaves Seven now unit m
seven_unit (Some stop) now unit m = read_leaves Seven now unit m

seven_channel : (rank : ℕ) (due : Option Tick) (s : MachineState) → gx_of (left_by (channel_came rank Seven due s)) ≡ s.io.gx
seven_channel rank None s = refl
seven_channel rank (Some now) s =
    let unit = next_unit s.io Seven in
    channel_leaves rank Seven now s ∙ seven_unit (unit_refusal Seven now unit (map_of Seven s)) now unit (map_of Seven s)

pub seven_units_leave_geometry : SevenUnitsLeaveGeometry
seven_units_leave_geometry rank channel s is =
    by_actor (λ (x : MachineState). x.io.gx ≡ s.io.gx) rank (Dma Seven channel) s is
    (awake_leaves (io_due (Dma Seven channel) s.io) (channel_came rank Seven (io_due (Dma Seven channel) s.io) s) ∙ seven_channel rank (io_due (Dma Seven channel) s.io) s)

-- ---- so what waits after a step, or after a unit, is no more than there is room for

pub reached_within : (proc : Proc) (s : MachineState) → AreWaiting s.io.gx → is_blocked s proc ≡ false → waiting_entries (outcome proc s).machine.io.gx ≤ most_entries
reached_within Nine s w free = (nine_steps_find_room s w free).step.after
reached_within Seven s w free =
    subst (λ (g : GxState). waiting_entries g ≤ most_entries)
    (sym (seven_taken (line_of s Seven) s.seven.processor.registers (seven_reach (tick_of s.seven.processor) s))) w.entries

pub unit_within : (proc : Proc) (channel : ℕ) (now : Tick) (unit : DmaUnit) (s : MachineState) → AreWaiting s.io.gx → io_due (Dma proc channel) s.io ≡ Some now
    → waiting_entries (map_after_unit None proc now unit (map_of proc s)).io.gx ≤ most_entries
unit_within Nine channel now unit s w due =
    let l : waiting_entries s.io.gx ≤ 260 =
    not_over (waiting_entries s.io.gx) (due_unstalled (is_stalled s.io.gx) s.io.released (channel_due s.io.nine.dma channel) now due) in
    omega (arith, l, unit_grows None now unit (map_of Nine s) w)
unit_within Seven channel now unit s w due = subst (λ (g : GxState). waiting_entries g ≤ most_entries) (sym (seven_unit None now unit (map_of Seven s))) w.entries
