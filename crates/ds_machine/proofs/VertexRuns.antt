use Rattle.ds_machine.proofs.Words.{Bool, Cost, Dma, Geometry, GxState, Halted, IoState, Left, LeftOut, List, MachineState, MachineStep, Makes, Nine}
use Rattle.ds_machine.proofs.Words.{Option, Proc, Processor, Seven, Shown, Tick, Timer, Video, [], after_geometry, after_video, ap, arith}
use Rattle.ds_machine.proofs.Words.{channel_step, false, finished_run, gone_by, left_by, machine_graft, next_unit, refl, run_of, same_makes}
use Rattle.ds_machine.proofs.Words.{scan_due_tick, starts_vblank, step_by, subst, swapped_if, swapped_run, sym, true, unchanged_by, video_done, ℕ}
use Rattle.ds_machine.proofs.Words.{◌+◌, ◌∙◌, ◌≡◌, ◌≤◌}
use Rattle.arm_core.specs.declared.outcomes.Stepped as arm
use Rattle.ds_runs.specs.declared.actors.Actor as actor
use Rattle.ds_machine.proofs.ChannelEvents.{channel_made, unit_run}
use Rattle.ds_machine.proofs.MachineSchedule.{Steps, channel_timers, operation}
use Rattle.ds_machine.proofs.ProcessorSteps.{came_by, concludes, costs_some, goes, reached_by, step_is}
use Rattle.ds_machine.proofs.Touched.{each_touches}
use Rattle.ds_machine.proofs.VideoEvents.{done_gx, video_makes}

-- How many vertices the current run has: geometry adds one at most in a step.

-- the current run grows by geometry's steps alone
abbrev pub runs_in : actor.Actor → ℕ
runs_in Geometry = 1
runs_in a = 0

gone_run : (proc : Proc) (m : MachineState) (came : arm.Stepped) → run_of (gone_by proc came m) ≡ run_of m
gone_run Nine m (Cost clocks) = refl
gone_run Seven m (Cost clocks) = refl
gone_run Nine m (Halted clocks) = refl
gone_run Seven m (Halted clocks) = refl
gone_run proc m (Left stop) = refl

swap_run : (whole : Bool) (now : Tick) (u : IoState) → (swapped_if whole now u).gx.geometry.numbers.run ≡ u.gx.geometry.numbers.run
swap_run true now u = swapped_run now u.gx
swap_run false now u = refl

video_run : (s : MachineState) → run_of (after_video s) ≡ run_of s
video_run s =
    swap_run (starts_vblank s.io.video.scan) (scan_due_tick s.io.video.scan) (video_done s.palette s.oam s.io)
    ∙ ap (λ (g : GxState). g.geometry.numbers.run) (done_gx s.palette s.oam s.io)

as_long : (made s : MachineState) → run_of made ≡ run_of s → run_of made ≤ run_of s + 0
as_long made s e = omega (arith, e)

-- who doesn't change geometry, by the table
by_table : (a : actor.Actor) (rank : ℕ) (s made : MachineState) (outs : List Shown) → step_by rank a s ≡ Makes made outs
    → run_of (machine_graft (unchanged_by a s) s (left_by (step_by rank a s))) ≡ run_of s → run_of made ≤ run_of s + 0
by_table a rank s made outs h same =
    as_long made s (ap run_of (sym ((each_touches rank a s).leaves ∙ ap (λ (x : MachineStep MachineState Shown LeftOut). left_by x) h)) ∙ same)

pub made_run : (a : actor.Actor) (rank : ℕ) (tick : Tick) (s made : MachineState) (outs : List Shown) → Steps a rank tick s → step_by rank a s ≡ Makes made outs
    → run_of made ≤ run_of s + runs_in a
made_run Video rank tick s made outs st h = as_long made s (ap run_of (sym (video_makes rank s made outs h).0) ∙ video_run s)
made_run (Timer Nine number) rank tick s made outs st h = by_table (Timer Nine number) rank s made outs h refl
made_run (Timer Seven number) rank tick s made outs st h = by_table (Timer Seven number) rank s made outs h refl
made_run Geometry rank tick s made outs st h =
    subst (λ (m : MachineState). run_of m ≤ run_of s + 1) (same_makes (after_geometry s) made [] outs h).0 (finished_run s.io.gx)
made_run (Dma proc channel) rank tick s made outs st h =
    let P : Option Tick → Type 0 = λ o. channel_step rank proc o s ≡ Makes made outs in
    let timers = channel_timers proc channel rank tick s st in
    as_long made s (ap run_of (channel_made rank proc tick s made outs (subst P st.due h)) ∙ unit_run proc channel tick (next_unit s.io proc) s st.sound st.numbered st.due timers)
made_run (Processor proc) rank tick s made outs st h =
    let m = reached_by proc s in
    let k = concludes rank proc m made outs (came_by proc s) (costs_some proc s) (sym (step_is rank proc s) ∙ h) in
    as_long made s (ap run_of (sym k.1) ∙ gone_run proc m (came_by proc s) ∙ (goes proc tick s (operation proc rank tick s st)).geometry.run)
made_run a rank tick s made outs st h = by_table a rank s made outs h refl
