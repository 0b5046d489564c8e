use Rattle.ds_machine.proofs.Words.{At, Bool, Cost, Dma, DmaUnit, Ending, Geometry, Halted, Happens, HasSoundParts, IoState, IsLeast, KeyLine}
use Rattle.ds_machine.proofs.Words.{KeyScript, Left, LeftOut, List, MachineState, Makes, Nine, Option, Proc, Processor, ProcessorState, Runs, Seven}
use Rattle.ds_machine.proofs.Words.{Shown, Tick, Video, [], actor_of, after_event, after_geometry, after_line, after_video, ap, channel_step}
use Rattle.ds_machine.proofs.Words.{display_done, dues_of, ended, event_goes, false, goes_on, gone_by, if◌then◌else◌, inl, inr, io_at_boot, io_of}
use Rattle.ds_machine.proofs.Words.{is_halted, keys_happen, machine_settled, max, more, next_unit, not, of_both, other_proc, over, processor_of}
use Rattle.ds_machine.proofs.Words.{reference, reference_step, refl, same_makes, scan_due_tick, stall_ends, step_by, stops, subst, sym, tick_after}
use Rattle.ds_machine.proofs.Words.{true, true≢false, wakes, woken, woken_one, ℕ, ◌&&◌, ◌∙◌, ◌∷◌, ◌≡◌, ◌⊎◌}
use Rattle.arm_core.specs.declared.outcomes.Stepped as arm
use Rattle.ds_runs.specs.Runs as runs
use Rattle.ds_runs.specs.declared.actors.Actor as actor
use Rattle.ds_machine.specs.HaltingLaws.{BootsKeepNoMore, KeepsNoMore, RunsKeepNoMore}
use Rattle.ds_machine.proofs.Booting.{settled_booted}
use Rattle.ds_machine.proofs.ChannelEvents.{channel_made, machine_after_unit, unit_other}
use Rattle.ds_machine.proofs.MachineSchedule.{Steps, channel_timers, display_happens, operation, owes_as, sound_as, step_made_as, steps_here}
use Rattle.ds_machine.proofs.OuterSteps.{settled_halted}
use Rattle.ds_machine.proofs.ProcessorSteps.{Took, came_by, concludes, costs_some, goes, reached_by, reaches, step_is}
use Rattle.ds_machine.proofs.VideoEvents.{video_makes}
use Rattle.ds_machine.proofs.Wakes.{settled_due}

-- While a processor is halted it has no tick: at each step it is halted or not as before and due as before, or it has none.

abbrev IsStill : MachineState → Type 0
IsStill s = (proc : Proc) → is_halted s proc ≡ true → (processor_of s proc).due ≡ 0

abbrev StaysStill : MachineState → MachineState → Proc → Type 0
StaysStill s next proc =
    ((is_halted next proc ≡ is_halted s proc) × ((processor_of next proc).due ≡ (processor_of s proc).due)) ⊎ (is_halted next proc ≡ true → (processor_of next proc).due ≡ 0)

keeps_still : (s next : MachineState) → IsStill s → ((proc : Proc) → StaysStill s next proc) → IsStill next
keeps_still s next still stays proc h = elim (stays proc) [ inl same ↦ same.1 ∙ still proc (sym same.0 ∙ h) | inr none ↦ none h ]

-- ---- each actor's step

happens_still : (tick : Tick) (s next : MachineState) → Happens tick s.io next.io → ((proc : Proc) → (processor_of next proc).due ≡ (processor_of s proc).due) → (proc : Proc) → StaysStill s next proc
happens_still tick s next h due proc = inl (h.halted proc, due proc)

line_still : (tick : Tick) (s : MachineState) (lines : List KeyLine) → HasSoundParts s → (proc : Proc) → StaysStill s (after_line lines s) proc
line_still tick s [] sound proc = inl (refl, refl)
line_still tick s (line ∷ lines) sound Nine = inl ((keys_happen tick s.io line.pressed sound.io).halted Nine, refl)
line_still tick s (line ∷ lines) sound Seven = inl ((keys_happen tick s.io line.pressed sound.io).halted Seven, refl)

video_still : (s : MachineState) → Happens (scan_due_tick s.io.video.scan) s.io (display_done s) → (proc : Proc) → StaysStill s (after_video s) proc
video_still s h Nine = inl (h.halted Nine, refl)
video_still s h Seven = inl (h.halted Seven, refl)

pub event_due : (a : actor.Actor) (s : MachineState) (proc : Proc) → (processor_of (after_event a s) proc).due ≡ (processor_of s proc).due
event_due a s Nine = refl
event_due a s Seven = refl

not_past : (ends halted : Bool) (due other : ℕ) → halted ≡ true → (if ends && not halted then other else due) ≡ due
not_past true true due other h = refl
not_past true false due other h = absurd (true≢false (sym h))
not_past false halted due other h = refl

geometry_still : (s : MachineState) (proc : Proc) → StaysStill s (after_geometry s) proc
geometry_still s Nine = by_halt s.io.nine.halted refl where
  by_halt : (b : Bool) → s.io.nine.halted ≡ b → StaysStill s (after_geometry s) Nine
  by_halt true e = inl (refl, not_past (stall_ends s.io) s.io.nine.halted s.nine.processor.due (max s.nine.processor.due (tick_after s.io.gx.due s.nine.processor.due)) e)
  by_halt false e = inr (λ h. absurd (true≢false (sym h ∙ e)))
geometry_still s Seven = inl (refl, refl)

none_past : (halted : Bool) (other : ℕ) → halted ≡ true → (if halted then 0 else other) ≡ 0
none_past true other h = refl
none_past false other h = absurd (true≢false (sym h))

unit_own_still : (proc : Proc) (now : Tick) (unit : DmaUnit) (s : MachineState) → StaysStill s (machine_after_unit proc now unit s) proc
unit_own_still Nine now unit s = inr (λ h. none_past (is_halted (machine_after_unit Nine now unit s) Nine) _ h)
unit_own_still Seven now unit s = inr (λ h. none_past (is_halted (machine_after_unit Seven now unit s) Seven) _ h)

pub unit_other_due : (proc : Proc) (now : Tick) (unit : DmaUnit) (s : MachineState)
    → (processor_of (machine_after_unit proc now unit s) (other_proc proc)).due ≡ (processor_of s (other_proc proc)).due
unit_other_due Nine now unit s = refl
unit_other_due Seven now unit s = refl

gone_own : (proc : Proc) (m : MachineState) (came : arm.Stepped) → Took came → is_halted (gone_by proc came m) proc ≡ true → (processor_of (gone_by proc came m) proc).due ≡ 0
gone_own Nine m (Cost clocks) took h = none_past (is_halted m Nine) _ h
gone_own Seven m (Cost clocks) took h = none_past (is_halted m Seven) _ h
gone_own Nine m (Halted clocks) took h = refl
gone_own Seven m (Halted clocks) took h = refl
gone_own proc m (Left stop) took h = absurd took

pub gone_other : (proc : Proc) (m : MachineState) (came : arm.Stepped)
    → (is_halted (gone_by proc came m) (other_proc proc) ≡ is_halted m (other_proc proc)) × (processor_of (gone_by proc came m) (other_proc proc) ≡ processor_of m (other_proc proc))
gone_other Nine m (Cost clocks) = (refl, refl)
gone_other Seven m (Cost clocks) = (refl, refl)
gone_other Nine m (Halted clocks) = (refl, refl)
gone_other Seven m (Halted clocks) = (refl, refl)
gone_other proc m (Left stop) = (refl, refl)

made_still : (a : actor.Actor) (rank : ℕ) (tick : Tick) (s made : MachineState) (outs : List Shown) → Steps a rank tick s → step_by rank a s ≡ Makes made outs → (proc : Proc) → StaysStill s made proc
made_still KeyScript rank tick s made outs st h =
    subst (λ (m : MachineState). (proc : Proc) → StaysStill s m proc) (same_makes (after_line s.keys s) made [] outs h).0 (line_still tick s s.keys st.sound)
made_still Video rank tick s made outs st h =
    let k = video_makes rank s made outs h in
    subst (λ (m : MachineState). (proc : Proc) → StaysStill s m proc) k.0 (video_still s (display_happens s st.sound.io k.1))
made_still Geometry rank tick s made outs st h =
    subst (λ (m : MachineState). (proc : Proc) → StaysStill s m proc) (same_makes (after_geometry s) made [] outs h).0 (geometry_still s)
made_still (Dma proc channel) rank tick s made outs st h =
    let P : Option Tick → Type 0 = λ o. channel_step rank proc o s ≡ Makes made outs in
    let unit = next_unit s.io proc in
    let next = machine_after_unit proc tick unit s in
    let other = unit_other proc channel tick unit s st.sound st.numbered st.due (channel_timers proc channel rank tick s st) in
    subst (λ (m : MachineState). (each : Proc) → StaysStill s m each) (sym (channel_made rank proc tick s made outs (subst P st.due h)))
    (of_both (λ each. StaysStill s next each) proc (unit_own_still proc tick unit s) (inl (other.halted, unit_other_due proc tick unit s)))
made_still (Processor proc) rank tick s made outs st h =
    let came = came_by proc s in
    let m = reached_by proc s in
    let k = concludes rank proc m made outs came (costs_some proc s) (sym (step_is rank proc s) ∙ h) in
    let g = goes proc tick s (operation proc rank tick s st) in
    let o = gone_other proc m came in
    subst (λ (x : MachineState). (each : Proc) → StaysStill s x each) k.1
    (of_both (λ each. StaysStill s (gone_by proc came m) each) proc (inr (gone_own proc m came k.0))
    (inl (o.0 ∙ g.other.halted, ap (λ (p : ProcessorState). p.due) (o.1 ∙ (reaches proc s).other))))
made_still a rank tick s made outs st h =
    let g = event_goes s.file a tick s.io st.sound.io tt st.numbered st.due in
    subst (λ (m : MachineState). (proc : Proc) → StaysStill s m proc) (same_makes (after_event a s) made [] outs h).0
    (happens_still tick s (after_event a s) g.0 (event_due a s))

-- ---- and what follows it

on_own : (proc : Proc) (tick : Tick) (s : MachineState) → is_halted (goes_on proc tick s) proc ≡ false
on_own Nine tick s = refl
on_own Seven tick s = refl

on_other : (proc : Proc) (tick : Tick) (s : MachineState) → StaysStill s (goes_on proc tick s) (other_proc proc)
on_other Nine tick s = inl (refl, refl)
on_other Seven tick s = inl (refl, refl)

one_still : (b : Bool) (proc : Proc) (tick : Tick) (s : MachineState) (each : Proc) → StaysStill s (if b then goes_on proc tick s else s) each
one_still true proc tick s each = of_both (λ p. StaysStill s (goes_on proc tick s) p) proc (inr (λ h. absurd (true≢false (sym h ∙ on_own proc tick s)))) (on_other proc tick s) each
one_still false proc tick s each = inl (refl, refl)

ended_still : (tick : Tick) (s : MachineState) → IsStill s → IsStill (ended tick s)
unfolding ended
ended_still tick s still =
    let rest = machine_settled tick s in
    let first = woken_one Nine tick rest in
    let settles = keeps_still s rest still (λ proc. inl (settled_halted tick s.io proc, settled_due tick s proc)) in
    keeps_still first (woken tick rest) (keeps_still rest first settles (one_still (wakes rest Nine) Nine tick rest)) (one_still (wakes first Seven) Seven tick first)

-- ---- the law

pub step_still : (s next : MachineState) (tick : Tick) (rank : ℕ) (outs : List Shown) → HasSoundParts s → IsLeast (dues_of s) tick rank → reference_step rank s ≡ Makes next outs
    → IsStill s → KeepsNoMore next
step_still s next tick rank outs sound least h still =
    let st = steps_here s tick rank sound least in
    let k = step_made_as s next tick rank outs st h in
    record {
      halted = subst IsStill k.2 (ended_still tick k.0 (keeps_still s k.0 still (made_still (actor_of rank) rank tick s k.0 outs st k.1)));
      settled = (sound_as s next tick rank outs st h).settled;
    }

-- where a run ends that isn't stopped
abbrev EndKeeps : Ending MachineState LeftOut → Type 0
EndKeeps (At s) = KeepsNoMore s
EndKeeps (runs.Stopped stop) = Unit {0}

run_keeps : (limit : ℕ) (end : Ending MachineState LeftOut) (s : MachineState) (all : List Shown) → Runs reference limit end s all → HasSoundParts s → KeepsNoMore s → EndKeeps end
run_keeps limit end s all (over s0 none) sound h = h
run_keeps limit end s all (stops s0 after tick rank stop least below halts) sound h = tt
run_keeps limit end s all (more e0 s0 next tick rank outs rest least below goes run) sound h =
    run_keeps limit e0 next rest run (owes_as s0 next tick rank outs (steps_here s0 tick rank sound least) goes).sound (step_still s0 next tick rank outs sound least goes h.halted)

pub runs_keep_no_more : RunsKeepNoMore
runs_keep_no_more limit start end outs run sound h = run_keeps limit (At end) start outs run sound h

-- nobody is halted at boot
free_at_boot : (proc : Proc) → (io_of io_at_boot proc).halted ≡ false
free_at_boot Nine = refl
free_at_boot Seven = refl

pub boots_keep_no_more : BootsKeepNoMore
boots_keep_no_more s e = record {
  halted = λ proc h. absurd (true≢false (sym h ∙ ap (λ (u : IoState). (io_of u proc).halted) e ∙ free_at_boot proc));
  settled = settled_booted s e;
}
