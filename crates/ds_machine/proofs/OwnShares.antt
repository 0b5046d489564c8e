use Rattle.ds_machine.proofs.Words.{Access, Bool, Card, Cost, Dma, Fetch, Geometry, Halted, IoState, IsOutside, IsSharedSo, KeyScript, Left, LeftOut}
use Rattle.ds_machine.proofs.Words.{List, MachineState, MachineStep, Makes, MapState, Nine, NineOwn, None, Option, Outcome, Proc, Processor, Read}
use Rattle.ds_machine.proofs.Words.{Seven, SevenReach, SharedPart, Shown, Some, Stop, Tick, Timer, Video, Write, [], ap, arm7, card_after_event}
use Rattle.ds_machine.proofs.Words.{card_done_at, card_due, card_starter, channel_step, ended, false, fetched, goes_on, if◌then◌else◌, io_due}
use Rattle.ds_machine.proofs.Words.{is_beyond_seven, is_half_empty, is_halted, is_shown_to_nine, level_told, line_of, machine_concluded}
use Rattle.ds_machine.proofs.Words.{machine_settled, map_of, map_put, mixed, mixed_length, mixed_same, mixed_twice, moved_by, next_unit, nine_own_of}
use Rattle.ds_machine.proofs.Words.{one_event, processor_io_triggered, refl, release_kept, same_makes, settled, seven_memory, seven_reach, seven_side}
use Rattle.ds_machine.proofs.Words.{seven_wait, shares_put, side_taken, side_waits, starter_told, step_by, step_with, sym, tick_of, true, unit_moved}
use Rattle.ds_machine.proofs.Words.{unit_refusal, wait_at, wakes, with_io, with_map, with_nine_own, with_seven, woken, woken_one, ℕ, ◌∙◌, ◌≡◌}
use Rattle.arm_core.specs.declared.outcomes.Stepped as arm
use Rattle.ds_dma.specs.declared.controls.Cause.TheVariants as causes
use Rattle.ds_map.proofs.SevenShares as seven_map
use Rattle.ds_runs.specs.declared.actors.Actor as actor
use Rattle.ds_machine.proofs.Commutes.{Commutes, step_waits_commute, taken_commutes, word_commutes}
use Rattle.ds_machine.proofs.Ticks.{ticked, ticked_so}
use Rattle.ds_machine.proofs.OuterSteps.{not_woken, settled_halted}

-- A step of an actor outside ARM9's fence comes to the same with other bytes in what ARM9 alone reaches by the present map, and leaves that as it was.

-- ---- putting it and taking it

pub put_own_of : (s : MachineState) → with_nine_own (nine_own_of s) s ≡ s
put_own_of s =
    let shown = is_shown_to_nine s.io.wramcnt in
    let apart = is_beyond_seven s.io.vram.controls in
    let own = nine_own_of s in
    ap (λ (bytes : List ℕ). (let m : MachineState = record s { shared = bytes; io = shares_put own.share s.io } in m))
    (mixed_twice shown s.shared [] s.shared ∙ mixed_same shown s.shared)
    ∙ ap (λ (bytes : List ℕ). (let m : MachineState = record s { io = record s.io { vram = record s.io.vram { bytes = bytes } } } in m))
    (mixed_twice apart s.io.vram.bytes [] s.io.vram.bytes ∙ mixed_same apart s.io.vram.bytes)

pub own_of_put : (t s : MachineState) → nine_own_of (with_nine_own (nine_own_of t) s) ≡ nine_own_of t
own_of_put t s =
    let shown = is_shown_to_nine t.io.wramcnt in
    let apart = is_beyond_seven t.io.vram.controls in
    let own = nine_own_of t in
    let vram = mixed apart (mixed apart own.share.vram.bytes s.io.vram.bytes) [] in
    ap (λ (bytes : List ℕ). (let o : NineOwn = record own { share = record own.share { shared = bytes; vram = record own.share.vram { bytes = vram } } } in o))
    (mixed_twice shown own.share.shared s.shared [] ∙ mixed_twice shown t.shared [] [])
    ∙ ap (λ (bytes : List ℕ). (let o : NineOwn = record own { share = record own.share { vram = record own.share.vram { bytes = bytes } } } in o))
    (mixed_twice apart own.share.vram.bytes s.io.vram.bytes [] ∙ mixed_twice apart t.io.vram.bytes [] [])

-- a machine's memories are shared out as its own part says
pub is_shared_so : (s : MachineState) → IsSharedSo (nine_own_of s).share s.shared s.io
is_shared_so s = record {
  wramcnt = refl;
  controls = refl;
  shared = mixed_length (is_shown_to_nine s.io.wramcnt) s.shared [];
  bytes = mixed_length (is_beyond_seven s.io.vram.controls) s.io.vram.bytes [];
}

-- ---- what ARM7 reaches

abbrev reach_put : SharedPart → SevenReach → SevenReach
reach_put own r = record r { map = map_put own r.map }

abbrev IsReachedSo : SharedPart → SevenReach → Type 0
IsReachedSo own r = IsSharedSo own r.map.memories.shared r.map.io

abbrev AllReachedSo : SharedPart → SevenReach → List Access → Type 0
AllReachedSo own r accesses = IsReachedSo own r

seven_commutes : (own : SharedPart) → Commutes seven_memory (AllReachedSo own) (reach_put own)
seven_commutes own = record {
  fetched = λ r at width rest i. seven_map.fetched own r.map i at width;
  read = λ r at width rest i. seven_map.value own r.map i r.now at width;
  refuses = λ r at width value rest i. seven_map.refusal own r.map i at width value;
  fetches = λ r at width rest i. refl;
  reads = λ r at width rest i. ap (λ (m : MapState). (let left : SevenReach = record r { map = m } in left)) (seven_map.read own r.map i r.now at width);
  writes = λ r at width value rest i. ap (λ (m : MapState). (let left : SevenReach = record r { map = m } in left)) (seven_map.written own r.map i r.now at width value);
  fetch_stays = λ r at width rest i. i;
  read_stays = λ r at width rest i. seven_map.read_stays own r.map i r.now at width;
  write_stays = λ r at width value rest i. seven_map.written_stays own r.map i r.now at width value;
}

-- each waits as long, since WRAMCNT is the same
seven_waits_so : (own : SharedPart) (r : SevenReach) (access : Access) → IsReachedSo own r → seven_wait (reach_put own r) access ≡ seven_wait r access
seven_waits_so own r (Fetch at width) i = ap (λ (w : ℕ). wait_at Seven w at width) i.wramcnt
seven_waits_so own r (Read at width) i = ap (λ (w : ℕ). wait_at Seven w at width) i.wramcnt
seven_waits_so own r (Write at width value) i = ap (λ (w : ℕ). wait_at Seven w at width) i.wramcnt

-- ---- ARM7's step

abbrev seven_waited : MachineState → ℕ
seven_waited s = side_waits seven_memory seven_side (line_of s Seven) s.seven.processor.registers (seven_reach (tick_of s.seven.processor) s)

abbrev seven_taken : MachineState → Outcome SevenReach
seven_taken s =
    ticked Seven (seven_waited s) (side_taken seven_memory seven_side (line_of s Seven) s.seven.processor.registers (seven_reach (tick_of s.seven.processor) s))

seven_concluded : (rank : ℕ) (own : NineOwn) (s : MachineState) (came : arm.Stepped)
    → (let step : MachineStep MachineState Shown LeftOut = machine_concluded rank Seven (with_nine_own own s) came in step)
    ≡ step_with (with_nine_own own) (machine_concluded rank Seven s came)
seven_concluded rank own s (Cost clocks) = refl
seven_concluded rank own s (Halted clocks) = refl
seven_concluded rank own s (Left stop) = refl

pub seven_steps : (rank : ℕ) (own : NineOwn) (s : MachineState) → IsSharedSo own.share s.shared s.io
    → step_by rank (Processor Seven) (with_nine_own own s) ≡ step_with (with_nine_own own) (step_by rank (Processor Seven) s)
seven_steps rank own s shared =
    let old = s.seven.processor.registers in
    let r = seven_reach (tick_of s.seven.processor) s in
    let o = seven_taken s in
    let line = line_of s Seven in
    let put = reach_put own.share in
    ap (λ (o : Outcome SevenReach). (let step : MachineStep MachineState Shown LeftOut = machine_concluded rank Seven (with_seven (with_nine_own own s) o) o.stepped in step))
    (ticked_so Seven (side_waits seven_memory seven_side line old (put r)) (seven_waited s) put (side_taken seven_memory seven_side line old (put r))
    (side_taken seven_memory seven_side line old r)
    (step_waits_commute seven_memory (AllReachedSo own.share) put (seven_commutes own.share) seven_side line old r (λ r access rest i. seven_waits_so own.share r access i)
    (λ width. shared) refl (λ e. shared))
    (taken_commutes seven_memory (AllReachedSo own.share) put (seven_commutes own.share) seven_side line old r shared (λ width. shared) refl (λ e.
    let fetch = fetched seven_memory seven_side.step.arch old r in
    word_commutes seven_memory (AllReachedSo own.share) put (seven_commutes own.share) arm7 old r fetch.number fetch.instr shared shared)))
    ∙ seven_concluded rank own (with_seven s o) o.stepped

-- ---- a unit that a channel of ARM7's moves

seven_moved : (rank : ℕ) (now : Tick) (refused : Option Stop) (own : NineOwn) (s : MachineState)
    → (let step : MachineStep MachineState Shown LeftOut = moved_by rank Seven now refused (with_nine_own own s) in step)
    ≡ step_with (with_nine_own own) (moved_by rank Seven now refused s)
seven_moved rank now None own s = refl
seven_moved rank now (Some stop) own s = refl

pub seven_channel : (rank : ℕ) (due : Option Tick) (own : NineOwn) (s : MachineState) → IsSharedSo own.share s.shared s.io
    → (let step : MachineStep MachineState Shown LeftOut = channel_step rank Seven due (with_nine_own own s) in step)
    ≡ step_with (with_nine_own own) (channel_step rank Seven due s)
seven_channel rank None own s shared = refl
seven_channel rank (Some now) own s shared =
    let unit = next_unit s.io Seven in
    let m = map_of Seven s in
    let put = with_nine_own own s in
    let moved = with_map Seven put (unit_moved Seven now unit (map_put own.share m)) in
    ap (λ (refused : Option Stop). (let step : MachineStep MachineState Shown LeftOut = moved_by rank Seven now refused moved in step))
    (seven_map.unit_refuses own.share m shared now unit)
    ∙ ap (λ (left : MapState). (let step : MachineStep MachineState Shown LeftOut = moved_by rank Seven now (unit_refusal Seven now unit m) (with_map Seven put left) in step))
    (seven_map.unit_moves own.share m shared now unit)
    ∙ seven_moved rank now (unit_refusal Seven now unit m) own (with_map Seven s (unit_moved Seven now unit m))

-- ---- the card's event

-- by when it is due, and by who started its transfer
abbrev pub given : Option Tick → MachineState → MachineState
given due m = one_event (with_io m (card_done_at due m.file m.io))

abbrev pub given_to : Option Proc → Tick → MachineState → MachineState
given_to starter now m =
    one_event (with_io m (starter_told starter m.io.card now (record m.io { card = card_after_event m.file m.io.card })))

given_own : (own : NineOwn) (now : Tick) (s : MachineState) (starter : Option Proc) → given_to starter now (with_nine_own own s) ≡ with_nine_own own (given_to starter now s)
given_own own now s None = refl
given_own own now s (Some Nine) = refl
given_own own now s (Some Seven) = refl

card_own : (own : NineOwn) (s : MachineState) (due : Option Tick) → given due (with_nine_own own s) ≡ with_nine_own own (given due s)
card_own own s None = refl
card_own own s (Some now) = given_own own now s (card_starter s.io.card)

-- ---- each actor

pub leave_nine_own : (rank : ℕ) (a : actor.Actor) (own : NineOwn) (s : MachineState) → IsOutside a s → IsSharedSo own.share s.shared s.io
    → step_by rank a (with_nine_own own s) ≡ step_with (with_nine_own own) (step_by rank a s)
leave_nine_own rank KeyScript own s outside shared = absurd (outside.1 tt)
leave_nine_own rank Video own s outside shared = absurd (outside.1 tt)
leave_nine_own rank (Timer Nine number) own s outside shared = absurd (outside.1 refl)
leave_nine_own rank Geometry own s outside shared = absurd (outside.1 refl)
leave_nine_own rank Card own s outside shared =
    ap (λ (m : MachineState). (let step : MachineStep MachineState Shown LeftOut = Makes m [] in step)) (card_own own s (card_due s.io.card))
leave_nine_own rank (Dma Nine channel) own s outside shared = absurd (outside.1 refl)
leave_nine_own rank (Dma Seven channel) own s outside shared = seven_channel rank (io_due (Dma Seven channel) s.io) own s shared
leave_nine_own rank (Processor Nine) own s outside shared = absurd (outside.0 refl)
leave_nine_own rank (Processor Seven) own s outside shared = seven_steps rank own s shared
leave_nine_own rank (Timer Seven number) own s outside shared = refl
leave_nine_own rank a own s outside shared = refl

-- so such an actor leaves all that ARM9 alone reaches
pub own_stays : (rank : ℕ) (a : actor.Actor) (s made : MachineState) (outs : List Shown) → IsOutside a s → step_by rank a s ≡ Makes made outs
    → nine_own_of made ≡ nine_own_of s
own_stays rank a s made outs outside h =
    let put = with_nine_own (nine_own_of s) in
    let both : (let step : MachineStep MachineState Shown LeftOut = Makes made outs in step) ≡ Makes (put made) outs =
    sym h ∙ ap (λ (m : MachineState). step_by rank a m) (sym (put_own_of s)) ∙ leave_nine_own rank a (nine_own_of s) s outside (is_shared_so s) ∙ ap (step_with put) h in
    ap nine_own_of (same_makes made (put made) outs outs both).0 ∙ own_of_put s made

-- ---- what follows a step, where ARM9 isn't halted

abbrev triggered : Tick → IoState → IoState
triggered tick u = record (level_told u) { nine = processor_io_triggered (level_told u).nine causes.Geometry tick }

settled_so : (tick : Tick) (own : SharedPart) (u : IoState) → settled tick (shares_put own u) ≡ shares_put own (settled tick u)
settled_so tick own u = ap release_kept (by_room (is_half_empty u.gx)) where
  by_room : (b : Bool) → (if b then triggered tick (shares_put own u) else level_told (shares_put own u)) ≡ shares_put own (if b then triggered tick u else level_told u)
  by_room true = refl
  by_room false = refl

wakes_so : (tick : Tick) (own : NineOwn) (m : MachineState) → woken_one Seven tick (with_nine_own own m) ≡ with_nine_own own (woken_one Seven tick m)
wakes_so tick own m = by_wake (wakes m Seven) where
  by_wake : (b : Bool) → (if b then goes_on Seven tick (with_nine_own own m) else with_nine_own own m) ≡ with_nine_own own (if b then goes_on Seven tick m else m)
  by_wake true = refl
  by_wake false = refl

pub ends_nine_own : (tick : Tick) (own : NineOwn) (s : MachineState) → is_halted s Nine ≡ false → ended tick (with_nine_own own s) ≡ with_nine_own own (ended tick s)
unfolding ended
ends_nine_own tick own s h =
    let m = machine_settled tick s in
    let free : is_halted m Nine ≡ false = settled_halted tick s.io Nine ∙ h in
    let free_put : is_halted (with_nine_own own m) Nine ≡ false = free in
    ap (λ (u : IoState). woken tick (let n : MachineState = record (with_nine_own own s) { io = u } in n)) (settled_so tick own.share s.io)
    ∙ ap (woken_one Seven tick) (not_woken Nine tick (with_nine_own own m) free_put)
    ∙ wakes_so tick own m
    ∙ ap (λ (x : MachineState). with_nine_own own (woken_one Seven tick x)) (sym (not_woken Nine tick m free))

pub own_ends : (tick : Tick) (s : MachineState) → is_halted s Nine ≡ false → nine_own_of (ended tick s) ≡ nine_own_of s
own_ends tick s h =
    ap nine_own_of (ap (ended tick) (sym (put_own_of s)) ∙ ends_nine_own tick (nine_own_of s) s h) ∙ own_of_put s (ended tick s)
