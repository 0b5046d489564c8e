use Rattle.ds_machine.proofs.Words.{Dma, Geometry, IsLeast, KeyLine, KeyScript, LeftOut, List, MachineState, MachineStep, Makes, None, Option, Proc}
use Rattle.ds_machine.proofs.Words.{Processor, Shown, Some, Stops, Tick, Video, [], actor_of, after_event, after_geometry, after_line, ap, awake}
use Rattle.ds_machine.proofs.Words.{channel_step, counts_of, due_by, due_of_least, dues_of, keys_due, next_unit, none-some, not_both, reference_step}
use Rattle.ds_machine.proofs.Words.{same_makes, step_by, subst, sym, ℕ, ◌+◌, ◌∙◌, ◌∷◌, ◌≡◌}
use Rattle.ds_runs.specs.declared.actors.Actor as actor
use Rattle.ds_machine.proofs.ChannelEvents.{channel_unchanged, channel_made, event_counts, unit_counts}
use Rattle.ds_machine.proofs.MachineSchedule.{awake_makes, awake_stops}
use Rattle.ds_machine.proofs.ProcessorSteps.{came_by, concluded_stops, concludes, costs_some, gone_counts, reached_by, reaches, step_is}
use Rattle.ds_machine.proofs.VideoEvents.{video_makes, video_stops}
use Rattle.ds_machine.proofs.Wakes.{ended_counts}

-- One more for each step that is taken, whatever the machine is.

keys_count : (tick : Tick) (s : MachineState) (lines : List KeyLine) → keys_due lines ≡ Some tick → counts_of (after_line lines s) ≡ counts_of s + 1
keys_count tick s [] due = absurd (none-some tick due)
keys_count tick s (line ∷ rest) due = event_counts s

made_counts : (a : actor.Actor) (rank : ℕ) (tick : Tick) (s made : MachineState) (outs : List Shown) → due_by a s ≡ Some tick → step_by rank a s ≡ Makes made outs
    → counts_of made ≡ counts_of s + 1
made_counts KeyScript rank tick s made outs due h =
    ap counts_of (sym (same_makes (after_line s.keys s) made [] outs h).0) ∙ keys_count tick s s.keys due
made_counts Video rank tick s made outs due h = ap counts_of (sym (video_makes rank s made outs h).0) ∙ event_counts s
made_counts Geometry rank tick s made outs due h = ap counts_of (sym (same_makes (after_geometry s) made [] outs h).0) ∙ event_counts s
made_counts (Dma proc channel) rank tick s made outs due h =
    let P : Option Tick → Type 0 = λ o. channel_step rank proc o s ≡ Makes made outs in
    ap counts_of (channel_made rank proc tick s made outs (subst P due h)) ∙ unit_counts proc tick (next_unit s.io proc) s
made_counts (Processor proc) rank tick s made outs due h =
    let m = reached_by proc s in
    let k = concludes rank proc m made outs (came_by proc s) (costs_some proc s) (sym (step_is rank proc s) ∙ h) in
    ap counts_of (sym k.1) ∙ gone_counts proc m (came_by proc s) k.0 ∙ ap (λ (n : ℕ). n + 1) (reaches proc s).counts
made_counts a rank tick s made outs due h = ap counts_of (sym (same_makes (after_event a s) made [] outs h).0) ∙ event_counts s

pub one_more_as : (s next : MachineState) (tick : Tick) (rank : ℕ) (outs : List Shown) → due_by (actor_of rank) s ≡ Some tick → reference_step rank s ≡ Makes next outs
    → counts_of next ≡ counts_of s + 1
one_more_as s next tick rank outs due h =
    let came = step_by rank (actor_of rank) s in
    let k = awake_makes tick came next outs (subst (λ (o : Option Tick). awake o came ≡ Makes next outs) due h) in
    ap counts_of (sym k.2) ∙ ended_counts tick k.0 ∙ made_counts (actor_of rank) rank tick s k.0 outs due k.1

-- and so the least of all
pub one_more : (s next : MachineState) (tick : Tick) (rank : ℕ) (outs : List Shown) → IsLeast (dues_of s) tick rank → reference_step rank s ≡ Makes next outs
    → counts_of next ≡ counts_of s + 1
one_more s next tick rank outs least h = one_more_as s next tick rank outs (due_of_least s rank tick least) h

-- a step that stops leaves the counts as they were

channel_counts : (proc : Proc) (due : Option Tick) (rank : ℕ) (s left : MachineState) (stop : LeftOut)
    → (let step : MachineStep MachineState Shown LeftOut = channel_step rank proc due s in step ≡ Stops stop left) → counts_of left ≡ counts_of s
channel_counts proc None rank s left stop h = absurd (not_both s left [] stop h)
channel_counts proc (Some now) rank s left stop h = ap counts_of (sym (channel_unchanged rank proc now s left stop h))

left_counts : (a : actor.Actor) (rank : ℕ) (s left : MachineState) (stop : LeftOut) → step_by rank a s ≡ Stops stop left → counts_of left ≡ counts_of s
left_counts KeyScript rank s left stop h = absurd (not_both (after_line s.keys s) left [] stop h)
left_counts Video rank s left stop h = ap counts_of (sym (video_stops rank s left stop h))
left_counts (Dma proc channel) rank s left stop h = channel_counts proc (due_by (Dma proc channel) s) rank s left stop h
left_counts (Processor proc) rank s left stop h =
    let e = concluded_stops rank proc (reached_by proc s) left stop (came_by proc s) (sym (step_is rank proc s) ∙ h) in
    ap counts_of (sym e) ∙ (reaches proc s).counts
left_counts Geometry rank s left stop h = absurd (not_both (after_geometry s) left [] stop h)
left_counts a rank s left stop h = absurd (not_both (after_event a s) left [] stop h)

pub stop_counts : (s left : MachineState) (rank : ℕ) (stop : LeftOut) → reference_step rank s ≡ Stops stop left → counts_of left ≡ counts_of s
stop_counts s left rank stop h =
    left_counts (actor_of rank) rank s left stop (awake_stops (due_by (actor_of rank) s) (step_by rank (actor_of rank) s) left stop h)
