use Rattle.ds_machine.proofs.Words.{Access, Banks, Bool, Card, Cell, Channel, Cost, Cp15State, Dma, DmaState, DmaUnit, Dtcm, Fetch, FetchOutcome}
use Rattle.ds_machine.proofs.Words.{Geometry, GxState, Halted, Instr, IoState, Itcm, KeyLine, KeyScript, Left, LeftOut, List, MachineState}
use Rattle.ds_machine.proofs.Words.{MachineStep, Makes, MapState, Moved, Nine, NineReach, None, Nothing, Option, Outcome, Past, Place, Port, Proc}
use Rattle.ds_machine.proofs.Words.{Processor, Read, RegisterState, Rom, Seven, Shown, Some, Stop, Tcm, Tick, Timer, V5, Video, Width, Write, []}
use Rattle.ds_machine.proofs.Words.{access_observes, after_event, after_line, after_video, and_false, answer_unless, any_armed, any_observes, ap}
use Rattle.ds_machine.proofs.Words.{arm9, awaits_geometry, awaits_none, both_raised, card_after_event, card_done_at, card_due, card_starter}
use Rattle.ds_machine.proofs.Words.{channel_at, channel_observes, channel_step, channels_triggered, data_accesses, delayed_past, dma_due, either}
use Rattle.ds_machine.proofs.Words.{ended, enters, false, fetched, goes_on, gx_level, if◌then◌else◌, io_due, io_event, irq_levelled, is_half_empty}
use Rattle.ds_machine.proofs.Words.{is_observed_past, is_observed_place, is_running, is_stalled, keys_pressed, left_by, length, level_told, line_of}
use Rattle.ds_machine.proofs.Words.{machine_concluded, machine_graft, machine_settled, map_of, move_of, moved_by, next_unit, nine_executed}
use Rattle.ds_machine.proofs.Words.{nine_memory, nine_observes, nine_reach, nine_side, nine_wait, not, observes_by, one_event, or_from, or_parts}
use Rattle.ds_machine.proofs.Words.{place_of, processor_io_triggered, refl, release_by, release_kept, same_makes, scan_due, scan_due_tick, settled}
use Rattle.ds_machine.proofs.Words.{shown_at, shown_to_others, side_taken, side_waits, starter_told, starts_vblank, step_by, step_with, subst}
use Rattle.ds_machine.proofs.Words.{swapped_if, sym, tcm_of, tcm_read, tcm_refusal, tcm_written, tick_of, true, true≢false, unchanged_by, unit_moved}
use Rattle.ds_machine.proofs.Words.{unit_refusal, unless_stop, vectors_of, video_after_event, video_done, video_shown, video_step, video_stop, wakes}
use Rattle.ds_machine.proofs.Words.{with_gx, with_io, with_map, with_nine, woken, woken_one, ℕ, ◌&&◌, ◌+◌, ◌==◌, ◌||◌, ◌∙◌, ◌∷◌, ◌≡◌, ◌≢◌}
use Rattle.ds_dma.specs.Controls.{is_enabled, waits_for}
use Rattle.ds_machine.proofs.NineReads.{tcm_fetched, tcm_value}
use Rattle.arm_core.specs.declared.outcomes.Stepped as arm
use Rattle.ds_dma.specs.Channels.{is_triggered}
use Rattle.ds_card.specs.Cards.{event_readies}
use Rattle.ds_dma.specs.declared.controls.Cause.TheVariants as causes
use Rattle.ds_map.proofs.GxApart as gx_map
use Rattle.ds_map.proofs.GxApart.{IsApartPlace, gx_in_map}
use Rattle.ds_ports.proofs.Arms.{ArmsNoMore, KeepsControls, armed, arms_by, arms_kept, arms_same, arms_then, keeps_same, triggered_keeps}
use Rattle.ds_ports.proofs.GxApart.{channel_due_apart, event_apart, video_apart}
use Rattle.ds_runs.specs.declared.actors.Actor as actor
use Rattle.gx_fifo.specs.GxStates.{shown_count}
use Rattle.ds_ports.specs.Acting.{is_armed}
use Rattle.ds_machine.proofs.Commutes.{Commutes, outcome_so, step_waits_commute, taken_commutes, word_commutes}
use Rattle.ds_machine.proofs.Ticks.{ticked, ticked_so}
use Rattle.ds_machine.proofs.Keeps.{FollowsEach, taken_leads, word_leads}
use Rattle.ds_machine.proofs.Touched.{comes_to_same, each_touches}

-- A step that doesn't observe geometry comes to the same with another geometry engine, and leaves that as it was.

-- and with another count of events, on which each step counts on
abbrev pub put_with : (ℕ → ℕ) → GxState → MachineState → MachineState
put_with count g s = record s { io = with_gx g s.io; events = count s.events }

abbrev pub gx_put : GxState → MachineState → MachineState
gx_put g s = put_with (λ n. n) g s

abbrev pub late_put : GxState → MachineState → MachineState
late_put g s = put_with (λ n. n + 1) g s

-- ---- places

pub place_apart : (place : Place) → is_observed_place place ≡ false → IsApartPlace Nine place
place_apart (Cell memory at) h = tt
place_apart (Banks space at) h = tt
place_apart (Port at) h = h
place_apart (Rom at) h = tt
place_apart Nothing h = tt

place_unseen : (place : Place) → IsApartPlace Nine place → is_observed_place place ≡ false
place_unseen (Cell memory at) h = refl
place_unseen (Banks space at) h = refl
place_unseen (Port at) h = h
place_unseen (Rom at) h = refl
place_unseen Nothing h = refl

-- ---- ARM9's accesses past its tightly coupled memories

abbrev nine_put : GxState → NineReach → NineReach
nine_put g r = record r { map = gx_in_map g r.map }

-- as many channels, no more of them armed, and CP15 as it was
record NineGoes (r left : NineReach) : Type 0 where
  cp15 : left.cp15 ≡ r.cp15
  arms : ArmsNoMore r.map.io.nine.dma left.map.io.nine.dma

goes_same : (r : NineReach) → NineGoes r r
goes_same r = record { cp15 = refl; arms = arms_same r.map.io.nine.dma }

-- what isn't observed, isn't whatever WRAMCNT is
past_again : (tcm : Tcm) (w v at : ℕ) → is_observed_past tcm w at ≡ false → is_observed_past tcm v at ≡ false
past_again (Itcm place) w v at h = refl
past_again (Dtcm place) w v at h = refl
past_again Past w v at h = place_unseen (place_of Nine v at) (gx_map.apart_anyhow Nine w v at (place_apart (place_of Nine w at) h))

access_again : (r left : NineReach) (access : Access) → left.cp15 ≡ r.cp15 → access_observes r access ≡ false → access_observes left access ≡ false
access_again r left (Fetch at width) e h = refl
access_again r left (Read at width) e h =
    ap (λ (cp : Cp15State). is_observed_past (tcm_of cp at false false) left.map.io.wramcnt at) e ∙ past_again (tcm_of r.cp15 at false false) r.map.io.wramcnt left.map.io.wramcnt at h
access_again r left (Write at width value) e h =
    ap (λ (cp : Cp15State). is_observed_past (tcm_of cp at true false) left.map.io.wramcnt at) e ∙ past_again (tcm_of r.cp15 at true false) r.map.io.wramcnt left.map.io.wramcnt at h

any_again : (r left : NineReach) (accesses : List Access) → left.cp15 ≡ r.cp15 → any_observes r accesses ≡ false → any_observes left accesses ≡ false
any_again r left [] e h = refl
any_again r left (access ∷ rest) e h =
    let k = or_parts (access_observes r access) (any_observes r rest) h in
    or_from (access_observes left access) (any_observes left rest) (access_again r left access e k.0) (any_again r left rest e k.1)

module _ (g : GxState) where
  fetched_so : (tcm : Tcm) (r : NineReach) (at : ℕ) (width : Width) → tcm_fetched tcm (nine_put g r) at width ≡ tcm_fetched tcm r at width
  fetched_so (Itcm place) r at width = refl
  fetched_so (Dtcm place) r at width = refl
  fetched_so Past r at width = gx_map.fetched g Nine r.map at width

  value_so : (tcm : Tcm) (r : NineReach) (at : ℕ) (width : Width) → is_observed_past tcm r.map.io.wramcnt at ≡ false → tcm_value tcm (nine_put g r) at width ≡ tcm_value tcm r at width
  value_so (Itcm place) r at width h = refl
  value_so (Dtcm place) r at width h = refl
  value_so Past r at width h = gx_map.value g Nine r.map r.now at width (place_apart (place_of Nine r.map.io.wramcnt at) h)

  read_so : (tcm : Tcm) (r : NineReach) (at : ℕ) (width : Width) → is_observed_past tcm r.map.io.wramcnt at ≡ false
      → tcm_read tcm (nine_put g r) at width ≡ nine_put g (tcm_read tcm r at width)
  read_so (Itcm place) r at width h = refl
  read_so (Dtcm place) r at width h = refl
  read_so Past r at width h =
      ap (λ (m : MapState). (let left : NineReach = record r { map = m } in left)) (gx_map.read g Nine r.map r.now at width (place_apart (place_of Nine r.map.io.wramcnt at) h))

  refusal_so : (tcm : Tcm) (r : NineReach) (at : ℕ) (width : Width) (value : ℕ) → is_observed_past tcm r.map.io.wramcnt at ≡ false
      → tcm_refusal tcm (nine_put g r) at width value ≡ tcm_refusal tcm r at width value
  refusal_so (Itcm place) r at width value h = refl
  refusal_so (Dtcm place) r at width value h = refl
  refusal_so Past r at width value h = gx_map.refusal g Nine r.map at width value (place_apart (place_of Nine r.map.io.wramcnt at) h)

  written_so : (tcm : Tcm) (r : NineReach) (at : ℕ) (width : Width) (value : ℕ) → is_observed_past tcm r.map.io.wramcnt at ≡ false
      → tcm_written tcm (nine_put g r) at width value ≡ nine_put g (tcm_written tcm r at width value)
  written_so (Itcm place) r at width value h = refl
  written_so (Dtcm place) r at width value h = refl
  written_so Past r at width value h =
      ap (λ (m : MapState). (let left : NineReach = record r { map = m } in left)) (gx_map.written g Nine r.map r.now at width value (place_apart (place_of Nine r.map.io.wramcnt at) h))

read_goes : (tcm : Tcm) (r : NineReach) (at : ℕ) (width : Width) → NineGoes r (tcm_read tcm r at width)
read_goes (Itcm place) r at width = goes_same r
read_goes (Dtcm place) r at width = goes_same r
read_goes Past r at width = record { cp15 = refl; arms = arms_by r.map.io.nine.dma _ (gx_map.map_read_dma Nine r.now r.map at width) }

written_goes : (tcm : Tcm) (r : NineReach) (at : ℕ) (width : Width) (value : ℕ) → is_observed_past tcm r.map.io.wramcnt at ≡ false → NineGoes r (tcm_written tcm r at width value)
written_goes (Itcm place) r at width value h = record { cp15 = refl; arms = arms_same r.map.io.nine.dma }
written_goes (Dtcm place) r at width value h = record { cp15 = refl; arms = arms_same r.map.io.nine.dma }
written_goes Past r at width value h = record {
  cp15 = refl;
  arms = arms_kept r.map.io.nine.dma _ (gx_map.map_written_keeps Nine r.now r.map at width value (place_apart (place_of Nine r.map.io.wramcnt at) h));
}

-- ---- ARM9's step, where its instruction's accesses don't observe geometry

abbrev NoneObserve : NineReach → List Access → Type 0
NoneObserve r accesses = any_observes r accesses ≡ false

-- the first doesn't, and after what it leaves the rest doesn't
first_apart : (r : NineReach) (access : Access) (rest : List Access) → NoneObserve r (access ∷ rest) → access_observes r access ≡ false
first_apart r access rest h = (or_parts (access_observes r access) (any_observes r rest) h).0

rest_apart : (r left : NineReach) (access : Access) (rest : List Access) → NineGoes r left → NoneObserve r (access ∷ rest) → NoneObserve left rest
rest_apart r left access rest goes h = any_again r left rest goes.cp15 (or_parts (access_observes r access) (any_observes r rest) h).1

read_on : (r : NineReach) (at : ℕ) (width : Width) → NineGoes r (nine_memory.read_next r at width)
read_on r at width = read_goes (tcm_of r.cp15 at false false) r at width

written_on : (r : NineReach) (at : ℕ) (width : Width) (value : ℕ) (rest : List Access) → NoneObserve r (Write at width value ∷ rest) → NineGoes r (nine_memory.write_next r at width value)
written_on r at width value rest h = written_goes (tcm_of r.cp15 at true false) r at width value (first_apart r (Write at width value) rest h)

nine_commutes : (g : GxState) → Commutes nine_memory NoneObserve (nine_put g)
nine_commutes g = record {
  fetched = λ r at width rest h. fetched_so g (tcm_of r.cp15 at false true) r at width;
  read = λ r at width rest h. value_so g (tcm_of r.cp15 at false false) r at width (first_apart r (Read at width) rest h);
  refuses = λ r at width value rest h. refusal_so g (tcm_of r.cp15 at true false) r at width value (first_apart r (Write at width value) rest h);
  fetches = λ r at width rest h. refl;
  reads = λ r at width rest h. read_so g (tcm_of r.cp15 at false false) r at width (first_apart r (Read at width) rest h);
  writes = λ r at width value rest h. written_so g (tcm_of r.cp15 at true false) r at width value (first_apart r (Write at width value) rest h);
  fetch_stays = λ r at width rest h. h;
  read_stays = λ r at width rest h. rest_apart r (nine_memory.read_next r at width) (Read at width) rest (read_on r at width) h;
  write_stays = λ r at width value rest h. rest_apart r (nine_memory.write_next r at width value) (Write at width value) rest (written_on r at width value rest h) h;
}

nine_waits_so : (g : GxState) (r : NineReach) (access : Access) → nine_wait (nine_put g r) access ≡ nine_wait r access
nine_waits_so g r (Fetch at width) = refl
nine_waits_so g r (Read at width) = refl
nine_waits_so g r (Write at width value) = refl

abbrev NineArms : NineReach → NineReach → Type 0
NineArms r left = ArmsNoMore r.map.io.nine.dma left.map.io.nine.dma

nine_follows : FollowsEach nine_memory NoneObserve NineArms
nine_follows = record {
  stays = λ r h. arms_same r.map.io.nine.dma;
  joins = λ r t u a b. arms_then r.map.io.nine.dma t.map.io.nine.dma u.map.io.nine.dma a b;
  fetches = λ r at width rest h. (arms_same r.map.io.nine.dma, h);
  reads = λ r at width rest h.
      let one = read_on r at width in (one.arms, rest_apart r (nine_memory.read_next r at width) (Read at width) rest one h);
  writes = λ r at width value rest h.
      let one = written_on r at width value rest h in (one.arms, rest_apart r (nine_memory.write_next r at width value) (Write at width value) rest one h);
}

past_entry : (enter observes : Bool) → (not enter && observes) ≡ false → enter ≡ false → observes ≡ false
past_entry true observes h e = absurd (true≢false e)
past_entry false observes h e = h

-- what it comes to with another geometry engine, and what it leaves of ARM9's channels
module _ (old : RegisterState) (r : NineReach) where
  abbrev next_word : FetchOutcome NineReach
  next_word = fetched nine_memory V5 old r

  abbrev IsApart : Bool → Type 0
  IsApart line = (not (enters line old) && any_observes r (data_accesses V5 (vectors_of r.cp15) old next_word.instr)) ≡ false

  executed_same : (g : GxState) (number : ℕ) (instr : Option Instr) (move : Option Moved) → NoneObserve r (data_accesses V5 (vectors_of r.cp15) old instr)
      → nine_executed old (nine_put g r) number instr move ≡ outcome_so (nine_put g) (nine_executed old r number instr move)
  executed_same g number instr None h = word_commutes nine_memory NoneObserve (nine_put g) (nine_commutes g) (arm9 r.cp15) old r number instr refl h
  executed_same g number instr (Some move) h = refl

  executed_arms : (number : ℕ) (instr : Option Instr) (move : Option Moved) → NoneObserve r (data_accesses V5 (vectors_of r.cp15) old instr)
      → NineArms r (nine_executed old r number instr move).state
  executed_arms number instr None h = word_leads nine_memory NoneObserve NineArms nine_follows (arm9 r.cp15) old r number instr refl h
  executed_arms number instr (Some move) h = arms_same r.map.io.nine.dma

  taken_same : (g : GxState) (line : Bool) → IsApart line → side_taken nine_memory nine_side line old (nine_put g r) ≡ outcome_so (nine_put g) (side_taken nine_memory nine_side line old r)
  taken_same g line h =
      taken_commutes nine_memory NoneObserve (nine_put g) (nine_commutes g) nine_side line old r refl (λ width. refl) refl (λ e.
      executed_same g next_word.number next_word.instr (move_of next_word.instr) (past_entry (enters line old) (any_observes r (data_accesses V5 (vectors_of r.cp15) old next_word.instr)) h e))

  waits_same : (g : GxState) (line : Bool) → IsApart line → side_waits nine_memory nine_side line old (nine_put g r) ≡ side_waits nine_memory nine_side line old r
  waits_same g line h =
      step_waits_commute nine_memory NoneObserve (nine_put g) (nine_commutes g) nine_side line old r (λ r access rest h. nine_waits_so g r access) (λ width. refl) refl
      (λ e. past_entry (enters line old) (any_observes r (data_accesses V5 (vectors_of r.cp15) old next_word.instr)) h e)

  -- and by ticks
  came_same : (g : GxState) (line : Bool) → IsApart line
      → ticked Nine (side_waits nine_memory nine_side line old (nine_put g r)) (side_taken nine_memory nine_side line old (nine_put g r))
      ≡ outcome_so (nine_put g) (ticked Nine (side_waits nine_memory nine_side line old r) (side_taken nine_memory nine_side line old r))
  came_same g line h =
      ticked_so Nine (side_waits nine_memory nine_side line old (nine_put g r)) (side_waits nine_memory nine_side line old r) (nine_put g)
      (side_taken nine_memory nine_side line old (nine_put g r)) (side_taken nine_memory nine_side line old r) (waits_same g line h) (taken_same g line h)

  taken_arms : (line : Bool) → IsApart line → NineArms r (side_taken nine_memory nine_side line old r).state
  taken_arms line h =
      taken_leads nine_memory NoneObserve NineArms nine_follows nine_side line old r refl (λ e.
      executed_arms next_word.number next_word.instr (move_of next_word.instr) (past_entry (enters line old) (any_observes r (data_accesses V5 (vectors_of r.cp15) old next_word.instr)) h e))

-- ---- processors in the machine

abbrev Step : Type 0
Step = MachineStep MachineState Shown LeftOut

module _ (count : ℕ → ℕ) (on : (n : ℕ) → count (n + 1) ≡ count n + 1) (g : GxState) where
  abbrev put : MachineState → MachineState
  put s = put_with count g s

  -- the count goes on
  counts : (s : MachineState) → one_event (put s) ≡ put (one_event s)
  counts s = ap (λ (n : ℕ). (let m : MachineState = record s { io = with_gx g s.io; events = n } in m)) (sym (on s.events))

  concluded_gx : (rank : ℕ) (s : MachineState) (came : arm.Stepped)
      → (let step : Step = machine_concluded rank Nine (put s) came in step) ≡ step_with put (machine_concluded rank Nine s came)
  concluded_gx rank s (Cost clocks) = refl
  concluded_gx rank s (Halted clocks) = refl
  concluded_gx rank s (Left stop) = refl

  concluded_dma : (rank : ℕ) (s : MachineState) (came : arm.Stepped) → (left_by (let step : Step = machine_concluded rank Nine s came in step)).io.nine.dma ≡ s.io.nine.dma
  concluded_dma rank s (Cost clocks) = refl
  concluded_dma rank s (Halted clocks) = refl
  concluded_dma rank s (Left stop) = refl

  -- a step with another geometry engine, and what it leaves of ARM9's channels
  record Lets (s : MachineState) (with_it came : Step) : Type 0 where
    same : with_it ≡ step_with put came
    arms : ArmsNoMore s.io.nine.dma (left_by came).io.nine.dma

  nine_lets : (rank : ℕ) (s : MachineState) → nine_observes s ≡ false → Lets s (step_by rank (Processor Nine) (put s)) (step_by rank (Processor Nine) s)
  nine_lets rank s h =
      let r = nine_reach (tick_of s.nine.processor) s in
      let old = s.nine.processor.registers in
      let line = line_of s Nine in
      let o = ticked Nine (side_waits nine_memory nine_side line old r) (side_taken nine_memory nine_side line old r) in
      record {
        same = ap (λ (x : Outcome NineReach). (let step : Step = machine_concluded rank Nine (with_nine (put s) x) x.stepped in step)) (came_same old r g line h)
            ∙ concluded_gx rank (with_nine s o) o.stepped;
        arms = arms_then s.io.nine.dma o.state.map.io.nine.dma _ (taken_arms old r (line_of s Nine) h)
            (arms_by o.state.map.io.nine.dma _ (concluded_dma rank (with_nine s o) o.stepped));
      }

  -- what the table says of ARM9's channels
  table_arms : (rank : ℕ) (a : actor.Actor) (s : MachineState) → (machine_graft (unchanged_by a s) s (left_by (step_by rank a s))).io.nine.dma ≡ s.io.nine.dma
      → ArmsNoMore s.io.nine.dma (left_by (step_by rank a s)).io.nine.dma
  table_arms rank a s same = arms_by s.io.nine.dma _ (ap (λ (m : MachineState). m.io.nine.dma) (sym (each_touches rank a s).leaves) ∙ same)

  seven_lets : (rank : ℕ) (s : MachineState) → Lets s (step_by rank (Processor Seven) (put s)) (step_by rank (Processor Seven) s)
  seven_lets rank s = record { same = comes_to_same rank (Processor Seven) s put (record { shared = refl; vram = refl }) (λ left. refl); arms = table_arms rank (Processor Seven) s refl }

  -- ---- a channel's unit

  moved_gx : (rank : ℕ) (proc : Proc) (now : Tick) (refused : Option Stop) (s : MachineState)
      → (let step : Step = moved_by rank proc now refused (put s) in step) ≡ step_with put (moved_by rank proc now refused s)
  moved_gx rank Nine now None s = ap (λ (m : MachineState). (let step : Step = Makes m [] in step)) (counts (delayed_past Nine now s))
  moved_gx rank Seven now None s = ap (λ (m : MachineState). (let step : Step = Makes m [] in step)) (counts (delayed_past Seven now s))
  moved_gx rank proc now (Some stop) s = refl

  moved_dma : (rank : ℕ) (proc : Proc) (now : Tick) (refused : Option Stop) (s : MachineState)
      → (left_by (let step : Step = moved_by rank proc now refused s in step)).io.nine.dma ≡ s.io.nine.dma
  moved_dma rank Nine now None s = refl
  moved_dma rank Seven now None s = refl
  moved_dma rank proc now (Some stop) s = refl

  unit_lets : (rank : ℕ) (proc : Proc) (now : Tick) (s : MachineState) (unit : DmaUnit) → IsApartPlace proc (place_of proc s.io.wramcnt unit.from)
      → IsApartPlace proc (place_of proc s.io.wramcnt unit.to)
      → (let m = map_of proc s in
      let n = gx_in_map g m in
      Lets s (moved_by rank proc now (unit_refusal proc now unit n) (with_map proc (put s) (unit_moved proc now unit n)))
      (moved_by rank proc now (unit_refusal proc now unit m) (with_map proc s (unit_moved proc now unit m))))
  unit_lets rank proc now s unit from to =
      let m = map_of proc s in
      let n = gx_in_map g m in
      let refused = unit_refusal proc now unit m in
      let left = unit_moved proc now unit m in
      record {
        same = ap (λ (x : Option Stop). (let step : Step = moved_by rank proc now x (with_map proc (put s) (unit_moved proc now unit n)) in step)) (gx_map.unit_refuses g proc m now unit from to)
            ∙ ap (λ (x : MapState). (let step : Step = moved_by rank proc now refused (with_map proc (put s) x) in step)) (gx_map.unit_moves g proc m now unit from to)
            ∙ moved_gx rank proc now refused (with_map proc s left);
        arms = arms_then s.io.nine.dma left.io.nine.dma _ (gx_map.unit_arms proc m now unit to) (arms_by left.io.nine.dma _ (moved_dma rank proc now refused (with_map proc s left)));
      }

  nine_channel : (rank : ℕ) (due : Option Tick) (s : MachineState) → channel_observes s.io ≡ false
      → Lets s (channel_step rank Nine due (put s)) (channel_step rank Nine due s)
  nine_channel rank None s h = record { same = refl; arms = arms_same s.io.nine.dma }
  nine_channel rank (Some now) s h =
      let unit = next_unit s.io Nine in
      let k = or_parts (is_observed_place (place_of Nine s.io.wramcnt unit.from)) (is_observed_place (place_of Nine s.io.wramcnt unit.to)) h in
      unit_lets rank Nine now s unit (place_apart (place_of Nine s.io.wramcnt unit.from) k.0) (place_apart (place_of Nine s.io.wramcnt unit.to) k.1)

  seven_channel : (rank : ℕ) (due : Option Tick) (s : MachineState) → Lets s (channel_step rank Seven due (put s)) (channel_step rank Seven due s)
  seven_channel rank None s = record { same = refl; arms = arms_same s.io.nine.dma }
  seven_channel rank (Some now) s = unit_lets rank Seven now s (next_unit s.io Seven) tt tt

  -- ---- the display

  video_step_so : (s : MachineState) (b : Bool) (x y : Shown) → b ≡ false
      → (let step : Step = Makes (one_event (with_io (put s) (swapped_if b (scan_due_tick s.io.video.scan) (video_done s.palette s.oam (with_gx g s.io))))) (if b then x ∷ [] else []) in step)
      ≡ step_with put (Makes (one_event (with_io s (swapped_if b (scan_due_tick s.io.video.scan) (video_done s.palette s.oam s.io)))) (if b then y ∷ [] else []))
  video_step_so s true x y h = absurd (true≢false h)
  video_step_so s false x y h =
      ap (λ (u : IoState). (let step : Step = Makes (one_event (with_io (put s) u)) [] in step)) (video_apart g s.palette s.oam s.io)
      ∙ ap (λ (m : MachineState). (let step : Step = Makes m [] in step)) (counts (with_io s (video_done s.palette s.oam s.io)))

  swap_dma : (b : Bool) (now : Tick) (u : IoState) → (swapped_if b now u).nine.dma ≡ u.nine.dma
  swap_dma true now u = refl
  swap_dma false now u = refl

  channels_keep : (vblank hblank : Bool) (now : Tick) (u : IoState)
      → KeepsControls u.nine.dma (if vblank then channels_triggered causes.VBlank now u else (if hblank then channels_triggered causes.HBlank now u else u)).nine.dma
  channels_keep true hblank now u = triggered_keeps u.nine.dma causes.VBlank now
  channels_keep false true now u = triggered_keeps u.nine.dma causes.HBlank now
  channels_keep false false now u = keeps_same u.nine.dma

  video_keeps : (palette oam : List ℕ) (u : IoState) → KeepsControls u.nine.dma (video_done palette oam u).nine.dma
  video_keeps palette oam u = by_stop (video_stop oam u.video) where
    by_stop : (stop : Option Stop)
        → KeepsControls u.nine.dma (unless_stop stop (shown_to_others (video_shown u.video) (scan_due_tick u.video.scan) (record u { video = video_after_event u.vram palette oam u.video })) u).nine.dma
    by_stop None =
        channels_keep (video_shown u.video).vblank (video_shown u.video).hblank (scan_due_tick u.video.scan)
        (both_raised (record u { video = video_after_event u.vram palette oam u.video }) (video_shown u.video).raised)
    by_stop (Some stop) = keeps_same u.nine.dma

  video_lets : (rank : ℕ) (stop : Option Stop) (s : MachineState) → starts_vblank s.io.video.scan ≡ false
      → Lets s (video_step rank (answer_unless stop (video_shown s.io.video)) (put s)) (video_step rank (answer_unless stop (video_shown s.io.video)) s)
  video_lets rank None s h = record {
    same = video_step_so s (starts_vblank s.io.video.scan) (shown_at (scan_due s.io.video.scan) (after_video (put s)) g.swap_waits)
        (shown_at (scan_due s.io.video.scan) (after_video s) s.io.gx.swap_waits) h;
    arms =
        (let shown = video_done s.palette s.oam s.io in
        arms_then s.io.nine.dma shown.nine.dma _ (arms_kept s.io.nine.dma shown.nine.dma (video_keeps s.palette s.oam s.io))
        (arms_by shown.nine.dma _ (swap_dma (starts_vblank s.io.video.scan) (scan_due_tick s.io.video.scan) shown)));
  }
  video_lets rank (Some stop) s h = record { same = refl; arms = arms_same s.io.nine.dma }

  -- ---- the key script

  line_so : (s : MachineState) (lines : List KeyLine) → after_line lines (put s) ≡ put (after_line lines s)
  line_so s [] = refl
  line_so s (line ∷ lines) = counts (record (with_io s (keys_pressed s.io line.pressed)) { keys = lines })

  -- ---- each actor

  event_lets : (rank : ℕ) (a : actor.Actor) (s : MachineState) → ArmsNoMore s.io.nine.dma (io_event s.file a s.io).nine.dma → a ≢ Geometry
      → Lets s (Makes (after_event a (put s)) []) (Makes (after_event a s) [])
  event_lets rank a s e other = record {
    same = ap (λ (u : IoState). (let step : Step = Makes (one_event (with_io (put s) u)) [] in step)) (event_apart g s.file a s.io other)
        ∙ ap (λ (m : MachineState). (let step : Step = Makes m [] in step)) (counts (with_io s (io_event s.file a s.io)));
    arms = e;
  }

  -- the card triggers channels at most
  given_arms : (file : List ℕ) (u : IoState) (now : Tick) (starter : Option Proc)
      → ArmsNoMore u.nine.dma (starter_told starter u.card now (record u { card = card_after_event file u.card })).nine.dma
  given_arms file u now None = arms_same u.nine.dma
  given_arms file u now (Some Nine) =
      either (ArmsNoMore u.nine.dma) (event_readies u.card) _ _ (arms_kept u.nine.dma _ (triggered_keeps u.nine.dma causes.Card now)) (arms_same u.nine.dma)
  given_arms file u now (Some Seven) = arms_same u.nine.dma

  card_arms : (file : List ℕ) (u : IoState) (due : Option Tick) → ArmsNoMore u.nine.dma (card_done_at due file u).nine.dma
  card_arms file u None = arms_same u.nine.dma
  card_arms file u (Some now) = given_arms file u now (card_starter u.card)

  lets : (rank : ℕ) (a : actor.Actor) (s : MachineState) → a ≢ Geometry → observes_by a s ≡ false → is_stalled g ≡ is_stalled s.io.gx
      → Lets s (step_by rank a (put s)) (step_by rank a s)
  lets rank KeyScript s other h same = record {
    same = ap (λ (m : MachineState). (let step : Step = Makes m [] in step)) (line_so s s.keys);
    arms = table_arms rank KeyScript s refl;
  }
  lets rank Video s other h same = video_lets rank (video_stop s.oam s.io.video) s h
  lets rank (Timer Nine number) s other h same = event_lets rank (Timer Nine number) s (arms_same s.io.nine.dma) other
  lets rank (Timer Seven number) s other h same = event_lets rank (Timer Seven number) s (arms_same s.io.nine.dma) other
  lets rank Geometry s other h same = absurd (other refl)
  lets rank (Dma Nine channel) s other h same =
      let due = io_due (Dma Nine channel) s.io in
      let k = nine_channel rank due s h in
      record {
        same = ap (λ (x : Option Tick). (let step : Step = channel_step rank Nine x (put s) in step)) (channel_due_apart g channel s.io same) ∙ k.same;
        arms = k.arms;
      }
  lets rank (Dma Seven channel) s other h same = seven_channel rank (io_due (Dma Seven channel) s.io) s
  lets rank (Processor Nine) s other h same = nine_lets rank s h
  lets rank (Processor Seven) s other h same = seven_lets rank s
  lets rank Card s other h same = event_lets rank Card s (card_arms s.file s.io (card_due s.io.card)) other
  lets rank a s other h same = event_lets rank a s (arms_same s.io.nine.dma) other

pub gx_commutes : (rank : ℕ) (a : actor.Actor) (g : GxState) (s : MachineState) → a ≢ Geometry → observes_by a s ≡ false → is_stalled g ≡ is_stalled s.io.gx
    → step_by rank a (gx_put g s) ≡ step_with (gx_put g) (step_by rank a s)
gx_commutes rank a g s other h same = (lets (λ n. n) (λ n. refl) g rank a s other h same).same

-- ---- the laws

none_of : (a b c d : Bool) → a ≡ false → b ≡ false → c ≡ false → d ≡ false → (a || b || c || d) ≡ false
none_of a b c d h k l m = rw (h, k, l, m) refl

pub late_commutes : (rank : ℕ) (a : actor.Actor) (g : GxState) (s : MachineState) → a ≢ Geometry → observes_by a s ≡ false → is_stalled g ≡ is_stalled s.io.gx
    → step_by rank a (late_put g s) ≡ step_with (late_put g) (step_by rank a s)
late_commutes rank a g s other h same = (lets (λ n. n + 1) (λ n. refl) g rank a s other h same).same

pub apart_commutes : (rank : ℕ) (a : actor.Actor) (g : GxState) (s : MachineState) → a ≢ Geometry → observes_by a s ≡ false → is_stalled g ≡ false → is_stalled s.io.gx ≡ false
    → step_by rank a (late_put g s) ≡ step_with (late_put g) (step_by rank a s)
apart_commutes rank a g s other h here there = late_commutes rank a g s other h (here ∙ sym there)

none_armed : (old new : DmaState) → ArmsNoMore old new → any_armed old ≡ false → any_armed new ≡ false
none_armed old new more none =
    let l = or_parts (armed old 0 || armed old 1 || armed old 2) (armed old 3) none in
    let m = or_parts (armed old 0 || armed old 1) (armed old 2) l.0 in
    let n = or_parts (armed old 0) (armed old 1) m.0 in
    let a : ℕ → Bool = λ which. armed new which in
    none_of (a 0) (a 1) (a 2) (a 3) (more.none 0 n.0) (more.none 1 n.1) (more.none 2 m.1) (more.none 3 l.1)

module _ (rank : ℕ) (a : actor.Actor) (s made : MachineState) (outs : List Shown) (other : a ≢ Geometry) (apart : observes_by a s ≡ false) (came : step_by rank a s ≡ Makes made outs) where
  pub gx_left : made.io.gx ≡ s.io.gx
  gx_left =
      let both : (let step : Step = Makes made outs in step) ≡ Makes (gx_put s.io.gx made) outs =
      sym came ∙ gx_commutes rank a s.io.gx s other apart refl ∙ ap (step_with (gx_put s.io.gx)) came in
      ap (λ (m : MachineState). m.io.gx) (same_makes made (gx_put s.io.gx made) outs outs both).0

  made_arms : ArmsNoMore s.io.nine.dma made.io.nine.dma
  made_arms = subst (λ (x : Step). ArmsNoMore s.io.nine.dma (left_by x).io.nine.dma) came (lets (λ n. n) (λ n. refl) s.io.gx rank a s other apart refl).arms

  pub arms_left : any_armed s.io.nine.dma ≡ false → any_armed made.io.nine.dma ≡ false
  arms_left = none_armed s.io.nine.dma made.io.nine.dma made_arms

-- ---- what follows a step, where no channel is armed and nothing is told by GXSTAT's selector

selector_never : (n : ℕ) (a b : Bool) → n ≡ 0 → ((n == 1 && a) || (n == 2 && b)) ≡ false
selector_never n a b e = ap (λ (k : ℕ). (k == 1 && a) || (k == 2 && b)) e

pub silent_level : (g : GxState) → g.selector ≡ 0 → gx_level g ≡ false
silent_level g e = selector_never g.selector (is_half_empty g) (shown_count g == 0) e

waits_none : (enabled waits runs : Bool) → (enabled && waits) ≡ false → (enabled && waits && not runs) ≡ false
waits_none true true runs h = absurd (true≢false h)
waits_none true false runs h = refl
waits_none false waits runs h = refl

-- (a channel of ARM7's never waits for it)
waits_armed : (proc : Proc) (c : Channel) → is_armed c.cnt ≡ false → is_triggered proc causes.Geometry c ≡ false
waits_armed Nine c h = waits_none (is_enabled c.cnt) (waits_for Nine causes.Geometry c.cnt) (is_running c) h
waits_armed Seven c h = waits_none (is_enabled c.cnt) false (is_running c) (and_false (is_enabled c.cnt))

pub none_awaits : (dma : DmaState) → any_armed dma ≡ false → awaits_geometry dma ≡ false
none_awaits dma none =
    let l = or_parts (armed dma 0 || armed dma 1 || armed dma 2) (armed dma 3) none in
    let m = or_parts (armed dma 0 || armed dma 1) (armed dma 2) l.0 in
    let n = or_parts (armed dma 0) (armed dma 1) m.0 in
    let at : ℕ → Channel = λ which. channel_at dma.channels which in
    let t : ℕ → Bool = λ which. is_triggered dma.proc causes.Geometry (at which) in
    let none : (which : ℕ) → armed dma which ≡ false → t which ≡ false = λ which h. waits_armed dma.proc (at which) h in
    none_of (t 0) (t 1) (t 2) (t 3) (none 0 n.0) (none 1 n.1) (none 2 m.1) (none 3 l.1)

pub level_so : (g : GxState) (u : IoState) → g.selector ≡ 0 → u.gx.selector ≡ 0 → level_told (with_gx g u) ≡ with_gx g (level_told u)
level_so g u here there =
    ap (λ (b : Bool). (let told : IoState = record u { gx = g; nine = record u.nine { irq = irq_levelled u.nine.irq b } } in told)) (silent_level g here ∙ sym (silent_level u.gx there))

room_none : (tick : Tick) (room : Bool) (u : IoState) → length u.nine.dma.channels ≡ 4 → awaits_geometry u.nine.dma ≡ false
    → (if room then record u { nine = processor_io_triggered u.nine causes.Geometry tick } else u) ≡ u
room_none tick true u four none =
    ap (λ (d : DmaState). (let told : IoState = record u { nine = record u.nine { dma = d } } in told)) (awaits_none u.nine.dma tick four none)
room_none tick false u four none = refl

pub settled_told : (tick : Tick) (u : IoState) → length u.nine.dma.channels ≡ 4 → any_armed u.nine.dma ≡ false → settled tick u ≡ release_kept (level_told u)
settled_told tick u four none = ap release_kept (room_none tick (is_half_empty u.gx) (level_told u) four (none_awaits u.nine.dma none))

kept_so : (g : GxState) (u : IoState) → is_stalled g ≡ is_stalled u.gx → release_kept (with_gx g u) ≡ with_gx g (release_kept u)
kept_so g u stalls = ap (λ (stalled : Bool). (let kept : IoState = record u { gx = g; released = release_by stalled (dma_due u.nine.dma) u.released } in kept)) stalls

settled_so : (tick : Tick) (g : GxState) (u : IoState) → length u.nine.dma.channels ≡ 4 → any_armed u.nine.dma ≡ false → g.selector ≡ 0 → u.gx.selector ≡ 0
    → is_stalled g ≡ is_stalled u.gx → settled tick (with_gx g u) ≡ with_gx g (settled tick u)
settled_so tick g u four none here there stalls =
    settled_told tick (with_gx g u) four none ∙ ap release_kept (level_so g u here there) ∙ kept_so g (level_told u) stalls ∙ ap (λ (x : IoState). with_gx g x) (sym (settled_told tick u four none))

goes_so : (proc : Proc) (tick : Tick) (g : GxState) (m : MachineState) (b : Bool)
    → (if b then goes_on proc tick (late_put g m) else late_put g m) ≡ late_put g (if b then goes_on proc tick m else m)
goes_so Nine tick g m true = refl
goes_so Seven tick g m true = refl
goes_so proc tick g m false = refl

wakes_so : (proc : Proc) (tick : Tick) (g : GxState) (m : MachineState) → woken_one proc tick (late_put g m) ≡ late_put g (woken_one proc tick m)
wakes_so Nine tick g m = goes_so Nine tick g m (wakes m Nine)
wakes_so Seven tick g m = goes_so Seven tick g m (wakes m Seven)

pub ended_late : (tick : Tick) (g : GxState) (m : MachineState) → length m.io.nine.dma.channels ≡ 4 → any_armed m.io.nine.dma ≡ false → m.io.gx.selector ≡ 0 → g.selector ≡ 0
    → is_stalled g ≡ is_stalled m.io.gx → ended tick (late_put g m) ≡ late_put g (ended tick m)
unfolding ended
ended_late tick g m four none there here stalls =
    let rest = machine_settled tick m in
    ap (λ (u : IoState). woken tick (with_io (late_put g m) u)) (settled_so tick g m.io four none here there stalls)
    ∙ ap (woken_one Seven tick) (wakes_so Nine tick g rest)
    ∙ wakes_so Seven tick g (woken_one Nine tick rest)

-- it leaves geometry, and ARM9's channels
record Stays (old new : IoState) : Type 0 where
  gx : new.gx ≡ old.gx
  dma : new.nine.dma ≡ old.nine.dma

wake_stays : (proc : Proc) (tick : Tick) (b : Bool) (m : MachineState) → Stays m.io (if b then goes_on proc tick m else m).io
wake_stays Nine tick true m = record { gx = refl; dma = refl }
wake_stays Seven tick true m = record { gx = refl; dma = refl }
wake_stays proc tick false m = record { gx = refl; dma = refl }

settled_stays : (tick : Tick) (u : IoState) → length u.nine.dma.channels ≡ 4 → any_armed u.nine.dma ≡ false → Stays u (settled tick u)
settled_stays tick u four none =
    let e = settled_told tick u four none in
    record { gx = ap (λ (x : IoState). x.gx) e; dma = ap (λ (x : IoState). x.nine.dma) e }

module _ (tick : Tick) (m : MachineState) (four : length m.io.nine.dma.channels ≡ 4) (none : any_armed m.io.nine.dma ≡ false) where
  end_stays : Stays m.io (ended tick m).io
  unfolding ended
  end_stays =
      let rest = machine_settled tick m in
      let first = woken_one Nine tick rest in
      let a = settled_stays tick m.io four none in
      let b = wake_stays Nine tick (wakes rest Nine) rest in
      let c = wake_stays Seven tick (wakes first Seven) first in
      record { gx = c.gx ∙ b.gx ∙ a.gx; dma = c.dma ∙ b.dma ∙ a.dma }

  pub ended_gx_left : (ended tick m).io.gx ≡ m.io.gx
  ended_gx_left = end_stays.gx

  pub ended_disarmed : any_armed (ended tick m).io.nine.dma ≡ false
  ended_disarmed = ap any_armed end_stays.dma ∙ none
