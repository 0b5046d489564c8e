use Rattle.ds_machine.proofs.Words.{ActsUnobserving, Bool, Dma, Err, Geometry, GxState, HasSoundParts, IsAhead, IsLater, IsLeast, KeyScript, LeftOut}
use Rattle.ds_machine.proofs.Words.{List, MachineState, MachineStep, Makes, Nine, Ok, Proc, Processor, Result, Seven, Shown, Some, Stop, Swapped}
use Rattle.ds_machine.proofs.Words.{Tick, Timer, Video, VideoState, [], acting_dues, actor_of, after_event, after_geometry, after_line, after_video}
use Rattle.ds_machine.proofs.Words.{ap, due_at, due_of_rank, dues_of, ended, false, if◌then◌else◌, inl, inr, io_due, is_numbered, low_rank, not_both}
use Rattle.ds_machine.proofs.Words.{own_tick, processor_of, rank_of, rank_there, reference_step, refl, same_makes, scan_due, scan_due_tick, shown_at}
use Rattle.ds_machine.proofs.Words.{step_by, stepped_of, stopped_at, subst, sym, tick_of, true, video_answer, video_step, ℕ, ◌<◌, ◌∙◌, ◌∷◌, ◌≡◌, ◌⊎◌}
use Rattle.ds_runs.specs.declared.actors.Actor as actor
use Rattle.video2d.specs.declared.videos.Shown as display
use Rattle.ds_machine.specs.declared.answers.Done as answer
use Rattle.ds_machine.specs.declared.answers.Done.TheVariants as answers
use Rattle.ds_machine.proofs.ActingDues.{due_where_acts}
use Rattle.ds_machine.proofs.Frames.{channel_outs, outs_of, processor_outs}
use Rattle.ds_machine.proofs.MachineSchedule.{IsPartOf, Steps, part_late, step_made_as, steps_here}
use Rattle.ds_machine.proofs.ProcessorSteps.{came_by, reached_by, step_is}
use Rattle.ds_machine.proofs.Quiet.{acting_timers_later, quiet_ahead}
use Rattle.ds_machine.proofs.VideoEvents.{ended_leaves}

-- Where an actor may step, as the least of all, as the least that acts, or before its turn: what is so there, and what its step answers.

-- ---- the least that acts

pub steps_acting : (s : MachineState) (tick : Tick) (rank : ℕ) → HasSoundParts s → IsLeast (acting_dues s) tick rank → Steps (actor_of rank) rank tick s
steps_acting s tick rank sound least =
    let there = due_where_acts s rank tick least.there in
    let low = low_rank s rank tick there in
    record {
      sound = sound;
      there = there;
      is = refl;
      numbered = is_numbered rank low;
      due = sym (due_of_rank s rank low) ∙ there;
      timers = λ proc part. acting_timers_later s tick rank least (part_late proc (actor_of rank) part) proc;
    }

-- ---- a processor before its turn

own_timers : (s : MachineState) (proc each : Proc) → IsAhead s proc → IsPartOf each (actor_of (rank_of proc)) → (which : ℕ) → which < 4
    → IsLater (tick_of (processor_of s proc)) (io_due (Timer each which) s.io)
own_timers s Nine each ahead part which lt =
    subst (λ (p : Proc). IsLater (tick_of (processor_of s Nine)) (io_due (Timer p which) s.io)) part ((quiet_ahead s Nine ahead).timers which lt)
own_timers s Seven each ahead part which lt =
    subst (λ (p : Proc). IsLater (tick_of (processor_of s Seven)) (io_due (Timer p which) s.io)) part ((quiet_ahead s Seven ahead).timers which lt)

pub steps_alone : (s : MachineState) (proc : Proc) (tick : Tick) → HasSoundParts s → IsAhead s proc → due_at (dues_of s) (rank_of proc) ≡ Some tick
    → Steps (actor_of (rank_of proc)) (rank_of proc) tick s
steps_alone s proc tick sound ahead there =
    let low = low_rank s (rank_of proc) tick there in
    let at = own_tick s proc tick (sym (rank_there s proc) ∙ there) in
    record {
      sound = sound;
      there = there;
      is = refl;
      numbered = is_numbered (rank_of proc) low;
      due = sym (due_of_rank s (rank_of proc) low) ∙ there;
      timers = λ each part which lt. subst (λ (t : Tick). IsLater t (io_due (Timer each which) s.io)) (sym at) (own_timers s proc each ahead part which lt);
    }

-- ---- any of these, at its tick

abbrev pub MayThen : MachineState → ℕ → Tick → Type 0
MayThen s rank tick = IsLeast (dues_of s) tick rank ⊎ (ActsUnobserving s rank tick ⊎ ((proc : Proc) × (rank ≡ rank_of proc) × IsAhead s proc))

pub steps_then : (s : MachineState) (rank : ℕ) (tick : Tick) → HasSoundParts s → due_at (dues_of s) rank ≡ Some tick → MayThen s rank tick → Steps (actor_of rank) rank tick s
steps_then s rank tick sound there may = elim may [
  | inl least ↦ steps_here s tick rank sound least
  | inr other ↦ elim other [
    | inl apart ↦ steps_acting s tick rank sound apart.least
    | inr k ↦
        (let own : due_at (dues_of s) (rank_of k.0) ≡ Some tick = subst (λ (r : ℕ). due_at (dues_of s) r ≡ Some tick) k.1 there in
        subst (λ (r : ℕ). Steps (actor_of r) r tick s) (sym k.1) (steps_alone s k.0 tick sound k.2 own))
  ]
]

-- ---- what is answered of it: nothing is put out, or by the display a frame at its tick

abbrev pub Answers : actor.Actor → MachineState → MachineState → List Shown → Type 0
Answers a s next outs = (outs ≡ []) ⊎ ((swapped : Bool) × (outs ≡ shown_at (scan_due s.io.video.scan) next swapped ∷ []) × (a ≡ Video))

frame_answers : (frame waits : Bool) (s made : MachineState) (outs : List Shown) → after_video s ≡ made
    → (if frame then shown_at (scan_due s.io.video.scan) (after_video s) waits ∷ [] else []) ≡ outs → Answers Video s made outs
frame_answers true waits s made outs same e = inr (waits, sym e ∙ ap (λ (m : MachineState). shown_at (scan_due s.io.video.scan) m waits ∷ []) same, refl)
frame_answers false waits s made outs same e = inl (sym e)

video_answers : (rank : ℕ) (s made : MachineState) (outs : List Shown) (came : Result display.Shown Stop) → video_step rank came s ≡ Makes made outs → Answers Video s made outs
video_answers rank s made outs (Ok shown) h =
    let put : List Shown = if shown.frame then shown_at (scan_due s.io.video.scan) (after_video s) s.io.gx.swap_waits ∷ [] else [] in
    let k = same_makes (after_video s) made put outs h in
    frame_answers shown.frame s.io.gx.swap_waits s made outs k.0 k.1
video_answers rank s made outs (Err stop) h = absurd (not_both made s outs (stopped_at rank (scan_due_tick s.io.video.scan) stop) (sym h))

made_answers : (a : actor.Actor) (rank : ℕ) (s made : MachineState) (outs : List Shown) → step_by rank a s ≡ Makes made outs → Answers a s made outs
made_answers KeyScript rank s made outs h = inl (sym (same_makes (after_line s.keys s) made [] outs h).1)
made_answers Video rank s made outs h = video_answers rank s made outs (video_answer s.oam s.io.video) h
made_answers Geometry rank s made outs h = inl (sym (same_makes (after_geometry s) made [] outs h).1)
made_answers (Dma proc channel) rank s made outs h = inl (sym (ap outs_of h) ∙ channel_outs rank proc (io_due (Dma proc channel) s.io) s)
made_answers (Processor proc) rank s made outs h = inl (sym (ap outs_of (sym (step_is rank proc s) ∙ h)) ∙ processor_outs rank proc (reached_by proc s) (came_by proc s))
made_answers a rank s made outs h = inl (sym (same_makes (after_event a s) made [] outs h).1)

-- what follows the step leaves the frame and the lists
shown_same : (at : ℕ) (tick : Tick) (made : MachineState) (swapped : Bool) → shown_at at made swapped ≡ shown_at at (ended tick made) swapped
shown_same at tick made swapped =
    let k = ended_leaves tick made in
    let shown : List ℕ → Swapped → Shown = λ frame lists. record { tick = at; frame = frame; swapped = swapped; lists = lists } in
    sym (ap (λ (v : VideoState). shown v.whole (ended tick made).io.gx.geometry.last) k.video ∙ ap (λ (g : GxState). shown made.io.video.whole g.geometry.last) k.gx)

pub answers_as : (s next : MachineState) (tick : Tick) (rank : ℕ) (outs : List Shown) → Steps (actor_of rank) rank tick s → reference_step rank s ≡ Makes next outs
    → Answers (actor_of rank) s next outs
answers_as s next tick rank outs st h =
    let k = step_made_as s next tick rank outs st h in
    subst (λ (m : MachineState). Answers (actor_of rank) s m outs) k.2
    (elim (made_answers (actor_of rank) rank s k.0 outs k.1) [
      | inl none ↦ inl none
      | inr some ↦ inr (some.0, some.1 ∙ ap (λ (shown : Shown). shown ∷ []) (shown_same (scan_due s.io.video.scan) tick k.0 some.0), some.2)
    ])

pub answer_of : (s next : MachineState) (tick : Tick) (rank : ℕ) (outs : List Shown) → Steps (actor_of rank) rank tick s → reference_step rank s ≡ Makes next outs
    → (done : answer.Done) × (reference_step rank s ≡ stepped_of s done next)
answer_of s next tick rank outs st h =
    let step : List Shown → MachineStep MachineState Shown LeftOut = λ o. Makes next o in
    elim (answers_as s next tick rank outs st h) [
      | inl none ↦ (answers.Made, h ∙ ap step none)
      | inr some ↦ (answers.Frame some.0, h ∙ ap step some.1)
    ]
