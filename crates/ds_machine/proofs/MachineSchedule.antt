use Rattle.ds_machine.proofs.Words.{AreAsleep, AreKeyLines, Bool, Dma, Geometry, Happens, HasSoundParts, IoState, IsIo, IsLater, IsLeast, IsNumbered}
use Rattle.ds_machine.proofs.Words.{IsSound, KeyLine, KeyScript, LeftOut, List, MachineState, MachineStep, Makes, Nine, None, Option, Proc, Processor}
use Rattle.ds_machine.proofs.Words.{ProcessorState, Reschedules, Schedules, Seven, Shown, Some, Stops, Tick, Timer, Video, VideoState, [], actor_of}
use Rattle.ds_machine.proofs.Words.{after_event, after_geometry, after_line, after_video, ap, arith, awake, blocks_processor, channel_step}
use Rattle.ds_machine.proofs.Words.{display_done, due_at, due_by, due_of_least, due_of_rank, due_then, due_unless, dues_of, ended, entries_are}
use Rattle.ds_machine.proofs.Words.{event_goes, false, gone_by, gx_finished, happens_held, happens_on, if◌then◌else◌, inl, inr, io_event, io_of}
use Rattle.ds_machine.proofs.Words.{is_blocked, is_numbered, is_settled, is_stalled, keys_due, keys_happen, keys_pressed, le-max_right, length}
use Rattle.ds_machine.proofs.Words.{line_at, low_rank, map_of, max, next_unit, none-some, not, not_both, one_event, processor_due, processor_of}
use Rattle.ds_machine.proofs.Words.{reference, reference_step, refl, same_Some, same_makes, scan_due, scan_due_tick, show_goes, somebody_is}
use Rattle.ds_machine.proofs.Words.{starts_vblank, step_by, still_later, subst, suc, swapped_if, sym, tick_after, true, true≢false, unit_read}
use Rattle.ds_machine.proofs.Words.{video_done, video_stop, with_io, with_map, ℕ, ◌&&◌, ◌+◌, ◌<◌, ◌||◌, ◌∙◌, ◌∷◌, ◌≡◌}
use Rattle.ds_ports.proofs.Settles.{geometry_goes, swapped_happens}
use Rattle.ds_runs.specs.declared.actors.Actor as actor
use Rattle.ds_machine.proofs.ChannelEvents.{machine_after_unit, channel_unchanged, channel_made, read_moves, read_sound, unit_later, unit_moves, unit_sound}
use Rattle.ds_machine.proofs.Moves.{Moves, blocked_moves, moves_all, moves_of, then_all}
use Rattle.ds_machine.proofs.ProcessorSteps.{Operation, came_by, concluded_stops, concludes, costs_some, gone_moves, gone_sound, processor_io_later, reached_by, reached_moves, reached_sound, step_is}
use Rattle.ds_machine.proofs.Quiet.{comes_late, none_blocked, own_blocks, timers_later}
use Rattle.ds_machine.proofs.VideoEvents.{display_video, video_makes, video_stops}
use Rattle.ds_machine.proofs.Wakes.{ended_asleep, ended_settled, ends}

-- What the reference machine owes of its due ticks.

-- no due tick at or before the step's own, its own later, and a sound machine again
pub record Owes (a : actor.Actor) (tick : Tick) (s next : MachineState) : Type 0 where
  pub moves : Moves tick s next
  pub own : IsLater tick (due_by a next)
  pub sound : HasSoundParts next

-- ---- events of the units behind the ports and of the key script

-- the machine with other units, and with other lines to come
abbrev changed : MachineState → IoState → List KeyLine → MachineState
changed s io keys = one_event (record (with_io s io) { keys = keys })

changed_due : (s : MachineState) (io : IoState) (keys : List KeyLine) (proc : Proc) → (processor_of (changed s io keys) proc).due ≡ (processor_of s proc).due
changed_due s io keys Nine = refl
changed_due s io keys Seven = refl

event_moves : (tick : Tick) (s : MachineState) (io : IoState) (keys : List KeyLine) → Happens tick s.io io → Reschedules tick (keys_due s.keys) (keys_due keys)
    → Moves tick s (changed s io keys)
event_moves tick s io keys h lines =
    let next = changed s io keys in
    moves_of tick s next lines h.dues (λ proc.
    blocked_moves tick (is_blocked s proc) (is_blocked next proc) (processor_of s proc) (processor_of next proc) (changed_due s io keys proc) (happens_held tick s.io io h proc))

-- the lines that are to come are later, and rise still
rest_later : (tick : Tick) (line : KeyLine) (rest : List KeyLine) → AreKeyLines (line ∷ rest) → line.tick ≡ tick → IsLater tick (keys_due rest)
rest_later tick line [] are e = tt
rest_later tick line (next ∷ rest) are e = subst (λ (t : Tick). t.0 < next.tick.0) e (are.rising 0 (omega arith))

rest_rises : (line : KeyLine) (rest : List KeyLine) → AreKeyLines (line ∷ rest) → AreKeyLines rest
rest_rises line rest are = record { rising = rising; twelve = λ at lt. are.twelve (suc at) (omega (arith, lt)) } where
  rising : (at : ℕ) → at + 1 < length rest → (line_at rest at).tick.0 < (line_at rest (at + 1)).tick.0
  rising at lt =
      let e : suc at + 1 ≡ suc (at + 1) = omega arith in
      let P : ℕ → Type 0 = λ n. (line_at rest at).tick.0 < (line_at (line ∷ rest) n).tick.0 in
      subst P e (are.rising (suc at) (omega (arith, lt)))

owes_keys : (tick : Tick) (s : MachineState) (lines : List KeyLine) → s.keys ≡ lines → keys_due lines ≡ Some tick → HasSoundParts s → Owes KeyScript tick s (after_line lines s)
owes_keys tick s [] e due sound = absurd (none-some tick due)
owes_keys tick s (line ∷ rest) e due sound =
    let are = subst AreKeyLines e sound.keys in
    let h = keys_happen tick s.io line.pressed sound.io in
    let later = rest_later tick line rest are (same_Some line.tick tick due) in
    record {
      moves = event_moves tick s (keys_pressed s.io line.pressed) rest h (inr later);
      own = later;
      sound = record { io = h.io; keys = rest_rises line rest are };
    }

event_owes : (a : actor.Actor) (tick : Tick) (s : MachineState) → Happens tick s.io (io_event s.file a s.io) → IsLater tick (due_by a (after_event a s)) → HasSoundParts s
    → Owes a tick s (after_event a s)
event_owes a tick s h later sound = record {
  moves = event_moves tick s (io_event s.file a s.io) s.keys h (inl refl);
  own = later;
  sound = record { io = h.io; keys = sound.keys };
}

swap_happens : (whole : Bool) (now : Tick) (u : IoState) → IsIo u → Happens now u (swapped_if whole now u)
swap_happens true now u is = swapped_happens now u is
swap_happens false now u is = record { io = is; dues = λ a n. inl refl; halted = λ proc. refl; blocked = λ proc h. h; stall = λ h. h }

pub display_happens : (s : MachineState) → IsIo s.io → video_stop s.oam s.io.video ≡ None → Happens (scan_due_tick s.io.video.scan) s.io (display_done s)
display_happens s is none =
    let done = video_done s.palette s.oam s.io in
    let start = scan_due_tick s.io.video.scan in
    let g = (show_goes s.palette s.oam s.io is none).0 in
    happens_on start s.io done (display_done s) g (swap_happens (starts_vblank s.io.video.scan) start done g.io)

video_owes : (tick : Tick) (s : MachineState) → due_by Video s ≡ Some tick → video_stop s.oam s.io.video ≡ None → HasSoundParts s → Owes Video tick s (after_video s)
video_owes tick s due none sound =
    let io = display_done s in
    let start = scan_due_tick s.io.video.scan in
    let g = show_goes s.palette s.oam s.io sound.io none in
    let both = display_happens s sound.io none in
    let later = subst (λ (v : VideoState). start.0 < scan_due v.scan) (sym (display_video s)) g.1 in
    let there = subst (λ (t : Tick). Happens t s.io io × (t.0 < scan_due io.video.scan)) (same_Some start tick due) (both, later) in
    record {
      moves = event_moves tick s io s.keys there.0 (inl refl);
      own = there.1;
      sound = record { io = there.0.io; keys = sound.keys };
    }

-- geometry's: where it ends a stall ARM9 is due later
past_moves : (tick : Tick) (blocks old new halted : Bool) (p : ProcessorState) (due : Option Tick) → (halted ≡ true → blocks ≡ true) → due ≡ Some tick → (old ≡ false → new ≡ false)
    → Reschedules tick (due_unless (blocks || old) p) (due_unless (blocks || new) (record p { due = if (old && not new) && not halted then max p.due (tick_after due p.due) else p.due }))
past_moves tick true old new halted p due b e h = inr tt
past_moves tick false true true halted p due b e h = inr tt
past_moves tick false true false true p due b e h = absurd (true≢false (sym (b refl)))
past_moves tick false true false false p due b e h = inr (rw e (let l = le-max_right p.due (tick.0 + 1) in omega (arith, l)))
past_moves tick false false true halted p due b e h = absurd (true≢false (h refl))
past_moves tick false false false halted p due b e h = inl refl

geometry_owes : (tick : Tick) (s : MachineState) → due_by Geometry s ≡ Some tick → HasSoundParts s → Owes Geometry tick s (after_geometry s)
geometry_owes tick s due sound =
    let g = geometry_goes tick s.io sound.io due in
    record {
      moves = moves_of tick s (after_geometry s) (inl refl) g.dues each;
      own = g.later;
      sound = record { io = g.io; keys = sound.keys };
    } where
      each : (proc : Proc) → Reschedules tick (processor_due s proc) (processor_due (after_geometry s) proc)
      each Nine =
          past_moves tick (blocks_processor s.io.nine) (is_stalled s.io.gx) (is_stalled (gx_finished s.io.gx)) s.io.nine.halted s.nine.processor s.io.gx.due (λ h. rw h refl) due
          (geometry_goes tick s.io sound.io due).begins
      each Seven = inl refl

-- ---- each actor, where it is due

-- an actor is a processor, or a DMA channel of it
abbrev pub IsPartOf : Proc → actor.Actor → Type 0
IsPartOf proc (Dma each channel) = each ≡ proc
IsPartOf proc (Processor each) = each ≡ proc
IsPartOf proc a = ⊥

-- what is so where an actor steps: it is due, and where it is a processor or a channel that one's timers are due later
pub record Steps (a : actor.Actor) (rank : ℕ) (tick : Tick) (s : MachineState) : Type 0 where
  pub sound : HasSoundParts s
  pub there : due_at (dues_of s) rank ≡ Some tick
  pub is : actor_of rank ≡ a
  pub numbered : IsNumbered a
  pub due : due_by a s ≡ Some tick
  pub timers : (proc : Proc) → IsPartOf proc a → (which : ℕ) → which < 4 → IsLater tick (due_by (Timer proc which) s)

pub operation : (proc : Proc) (rank : ℕ) (tick : Tick) (s : MachineState) → Steps (Processor proc) rank tick s → Operation proc tick s
operation proc rank tick s st = record {
  sound = st.sound;
  quiet = record {
    timers = st.timers proc refl;
    dma = none_blocked tick (io_of s.io proc) (own_blocks s proc (due_then (is_blocked s proc) (processor_of s proc) tick st.due).0);
  };
  due = st.due;
}

pub channel_timers : (proc : Proc) (channel rank : ℕ) (tick : Tick) (s : MachineState) → Steps (Dma proc channel) rank tick s
    → (which : ℕ) → which < 4 → IsLater tick (due_by (Timer proc which) s)
channel_timers proc channel rank tick s st = st.timers proc refl

pub owes_by : (a : actor.Actor) (rank : ℕ) (tick : Tick) (s made : MachineState) (outs : List Shown) → Steps a rank tick s → step_by rank a s ≡ Makes made outs → Owes a tick s made
owes_by KeyScript rank tick s made outs st h = subst (Owes KeyScript tick s) (same_makes (after_line s.keys s) made [] outs h).0 (owes_keys tick s s.keys refl st.due st.sound)
owes_by Video rank tick s made outs st h =
    let k = video_makes rank s made outs h in
    subst (Owes Video tick s) k.0 (video_owes tick s st.due k.1 st.sound)
owes_by Geometry rank tick s made outs st h = subst (Owes Geometry tick s) (same_makes (after_geometry s) made [] outs h).0 (geometry_owes tick s st.due st.sound)
owes_by (Dma proc channel) rank tick s made outs st h =
    let P : Option Tick → Type 0 = λ o. channel_step rank proc o s ≡ Makes made outs in
    let unit = next_unit s.io proc in
    let timers = channel_timers proc channel rank tick s st in
    let owes : Owes (Dma proc channel) tick s (machine_after_unit proc tick unit s) = record {
      moves = unit_moves proc channel tick unit s st.sound st.numbered st.due timers;
      own = unit_later proc channel tick unit s st.sound st.numbered st.due timers;
      sound = unit_sound proc channel tick unit s st.sound st.numbered st.due timers;
    } in
    subst (Owes (Dma proc channel) tick s) (sym (channel_made rank proc tick s made outs (subst P st.due h))) owes
owes_by (Processor proc) rank tick s made outs st h =
    let came = came_by proc s in
    let k = concludes rank proc (reached_by proc s) made outs came (costs_some proc s) (sym (step_is rank proc s) ∙ h) in
    let r = operation proc rank tick s st in
    let owes : Owes (Processor proc) tick s (gone_by proc came (reached_by proc s)) = record {
      moves = gone_moves proc tick s r came k.0;
      own = processor_io_later proc tick s r came k.0;
      sound = gone_sound proc tick s r came k.0;
    } in
    subst (Owes (Processor proc) tick s) k.1 owes
owes_by a rank tick s made outs st h =
    let g = event_goes s.file a tick s.io st.sound.io tt st.numbered st.due in
    subst (Owes a tick s) (same_makes (after_event a s) made [] outs h).0 (event_owes a tick s g.0 g.1 st.sound)

-- ---- and then the units settle, and processors wake

pub awake_makes : (tick : Tick) (came : MachineStep MachineState Shown LeftOut) (next : MachineState) (outs : List Shown) → awake (Some tick) came ≡ Makes next outs
    → (made : MachineState) × (came ≡ Makes made outs) × (ended tick made ≡ next)
awake_makes tick (Makes made out) next outs h =
    let k = same_makes (ended tick made) next out outs h in
    (made, ap (λ (o : List Shown). (let came : MachineStep MachineState Shown LeftOut = Makes made o in came)) k.1, k.0)
awake_makes tick (Stops stop left) next outs h = absurd (not_both next left outs stop (sym h))

pub awake_stops : (due : Option Tick) (came : MachineStep MachineState Shown LeftOut) (left : MachineState) (stop : LeftOut) → awake due came ≡ Stops stop left → came ≡ Stops stop left
awake_stops None came left stop h = h
awake_stops (Some tick) (Makes made out) left stop h = absurd (not_both (ended tick made) left out stop h)
awake_stops (Some tick) (Stops why was) left stop h = h

-- one that is part of a processor has a high rank
pub part_late : (proc : Proc) (a : actor.Actor) → IsPartOf proc a → comes_late a ≡ true
part_late proc (Dma each channel) part = refl
part_late proc (Processor each) part = refl
part_late proc _ part = absurd part

-- the least actor steps so
pub steps_here : (s : MachineState) (tick : Tick) (rank : ℕ) → HasSoundParts s → IsLeast (dues_of s) tick rank → Steps (actor_of rank) rank tick s
steps_here s tick rank sound least = record {
  sound = sound;
  there = least.there;
  is = refl;
  numbered = is_numbered rank (low_rank s rank tick least.there);
  due = due_of_least s rank tick least;
  timers = λ proc part. timers_later s tick rank least (part_late proc (actor_of rank) part) proc;
}

-- what came of a step
pub step_made_as : (s next : MachineState) (tick : Tick) (rank : ℕ) (outs : List Shown) → Steps (actor_of rank) rank tick s → reference_step rank s ≡ Makes next outs
    → (made : MachineState) × (step_by rank (actor_of rank) s ≡ Makes made outs) × (ended tick made ≡ next)
step_made_as s next tick rank outs st h =
    let came = step_by rank (actor_of rank) s in
    awake_makes tick came next outs (subst (λ (o : Option Tick). awake o came ≡ Makes next outs) st.due h)

pub step_made : (s next : MachineState) (tick : Tick) (rank : ℕ) (outs : List Shown) → IsLeast (dues_of s) tick rank → reference_step rank s ≡ Makes next outs
    → (made : MachineState) × (step_by rank (actor_of rank) s ≡ Makes made outs) × (ended tick made ≡ next)
step_made s next tick rank outs least h =
    let came = step_by rank (actor_of rank) s in
    awake_makes tick came next outs (subst (λ (o : Option Tick). awake o came ≡ Makes next outs) (due_of_least s rank tick least) h)

pub owes_as : (s next : MachineState) (tick : Tick) (rank : ℕ) (outs : List Shown) → Steps (actor_of rank) rank tick s → reference_step rank s ≡ Makes next outs
    → Owes (actor_of rank) tick s next
owes_as s next tick rank outs st h =
    let a = actor_of rank in
    let k = step_made_as s next tick rank outs st h in
    let o = owes_by a rank tick s k.0 outs st k.1 in
    let w = ends tick k.0 o.sound in
    let last = ended tick k.0 in
    let woke : Owes a tick s last = record {
      moves = then_all tick s k.0 last o.moves w.moves;
      own = still_later tick (due_by a k.0) (due_by a last) o.own (w.moves a st.numbered);
      sound = w.sound;
    } in
    subst (Owes a tick s) k.2 woke

pub owes : (s next : MachineState) (tick : Tick) (rank : ℕ) (outs : List Shown) → HasSoundParts s → IsLeast (dues_of s) tick rank → reference_step rank s ≡ Makes next outs
    → Owes (actor_of rank) tick s next
owes s next tick rank outs sound least h = owes_as s next tick rank outs (steps_here s tick rank sound least) h

-- what the reference machine owes of its due ticks
pub reference_schedules : Schedules reference 24 HasSoundParts
reference_schedules = record {
  entries = λ s sound. entries_are s;
  somebody = λ s sound. (1, scan_due_tick s.io.video.scan, somebody_is s);
  reschedules = λ s next tick rank outs sound least goes. moves_all tick s next (owes s next tick rank outs sound least goes).moves;
  later = λ s next tick rank outs sound least goes.
      (let lt = low_rank s rank tick least.there in
      subst (IsLater tick) (sym (due_of_rank next rank lt)) (owes s next tick rank outs sound least goes).own);
  stays = λ s next tick rank outs sound least goes. (owes s next tick rank outs sound least goes).sound;
}

-- after a step that is taken no halted processor is to wake, and the units are settled
pub sound_as : (s next : MachineState) (tick : Tick) (rank : ℕ) (outs : List Shown) → Steps (actor_of rank) rank tick s → reference_step rank s ≡ Makes next outs → IsSound next
sound_as s next tick rank outs st h =
    let k = step_made_as s next tick rank outs st h in
    let o = owes_by (actor_of rank) rank tick s k.0 outs st k.1 in
    record {
      parts = (owes_as s next tick rank outs st h).sound;
      asleep = subst AreAsleep k.2 (ended_asleep tick k.0);
      settled = subst (λ (m : MachineState). is_settled m.io ≡ true) k.2 (ended_settled tick k.0 o.sound.io);
    }

pub sound_made : (s next : MachineState) (tick : Tick) (rank : ℕ) (outs : List Shown) → HasSoundParts s → IsLeast (dues_of s) tick rank → reference_step rank s ≡ Makes next outs
    → IsSound next
sound_made s next tick rank outs sound least h = sound_as s next tick rank outs (steps_here s tick rank sound least) h

pub asleep_made : (s next : MachineState) (tick : Tick) (rank : ℕ) (outs : List Shown) → IsLeast (dues_of s) tick rank → reference_step rank s ≡ Makes next outs → AreAsleep next
asleep_made s next tick rank outs least h = let k = step_made s next tick rank outs least h in subst AreAsleep k.2 (ended_asleep tick k.0)

pub settled_made : (s next : MachineState) (tick : Tick) (rank : ℕ) (outs : List Shown) → HasSoundParts s → IsLeast (dues_of s) tick rank → reference_step rank s ≡ Makes next outs
    → is_settled next.io ≡ true
settled_made s next tick rank outs sound least h = (sound_made s next tick rank outs sound least h).settled

-- ---- a step that stops leaves a sound machine, and each due tick as it was or later

pub record Leaves (tick : Tick) (s left : MachineState) : Type 0 where
  pub moves : Moves tick s left
  pub sound : HasSoundParts left

leaves_read : (tick : Tick) (proc : Proc) (s left : MachineState) → HasSoundParts s → with_map proc s (unit_read proc tick (next_unit s.io proc) (map_of proc s)) ≡ left → Leaves tick s left
leaves_read tick proc s left sound read =
    subst (Leaves tick s) read (record { moves = read_moves tick proc (next_unit s.io proc) s; sound = read_sound proc tick (next_unit s.io proc) s sound })

leaves_by : (a : actor.Actor) (rank : ℕ) (tick : Tick) (s left : MachineState) (stop : LeftOut) → Steps a rank tick s → step_by rank a s ≡ Stops stop left → Leaves tick s left
leaves_by KeyScript rank tick s left stop st h = absurd (not_both (after_line s.keys s) left [] stop h)
leaves_by Video rank tick s left stop st h = subst (Leaves tick s) (video_stops rank s left stop h) (record { moves = λ a n. inl refl; sound = st.sound })
leaves_by (Dma proc channel) rank tick s left stop st h =
    let P : Option Tick → Type 0 = λ o. (let step : MachineStep MachineState Shown LeftOut = channel_step rank proc o s in step ≡ Stops stop left) in
    leaves_read tick proc s left st.sound (channel_unchanged rank proc tick s left stop (subst P st.due h))
leaves_by (Processor proc) rank tick s left stop st h =
    let r = operation proc rank tick s st in
    let e = concluded_stops rank proc (reached_by proc s) left stop (came_by proc s) (sym (step_is rank proc s) ∙ h) in
    subst (Leaves tick s) e (record { moves = reached_moves proc tick s r; sound = reached_sound proc tick s r })
leaves_by Geometry rank tick s left stop st h = absurd (not_both (after_geometry s) left [] stop h)
leaves_by a rank tick s left stop st h = absurd (not_both (after_event a s) left [] stop h)

pub stopped_as : (s left : MachineState) (tick : Tick) (rank : ℕ) (stop : LeftOut) → Steps (actor_of rank) rank tick s → reference_step rank s ≡ Stops stop left → Leaves tick s left
stopped_as s left tick rank stop st h =
    leaves_by (actor_of rank) rank tick s left stop st (awake_stops (due_by (actor_of rank) s) (step_by rank (actor_of rank) s) left stop h)

pub stopped : (s left : MachineState) (tick : Tick) (rank : ℕ) (stop : LeftOut) → HasSoundParts s → IsLeast (dues_of s) tick rank → reference_step rank s ≡ Stops stop left → Leaves tick s left
stopped s left tick rank stop sound least h = stopped_as s left tick rank stop (steps_here s tick rank sound least) h
