use Rattle.std.proofs.Common.{◌≡◌, ◌∙◌, sym, subst, ap, slice_set}
use Rattle.ds_base.specs.Schedules.{Reschedules}
use Rattle.ds_timers.specs.Timing.{timer_at, timer_due, reload_set}
use Rattle.ds_timers.proofs.Changed.{reload_leaves}
use Rattle.ds_timers.proofs.timers.Timers.set_reload.Goals as goal

pub returns-clause-schedule : goal.returns-clause-schedule
returns-clause-schedule c =
    let old = c.args.self.now in
    let which = c.args.which in
    let is : c.put.new.self ≡ reload_set old which c.args.value =
    c.put.ensures ∙ ap (λ x. slice_set old which (record x { reload = c.args.value })) c.timer-timer.ensures.seen in
    λ now each l. subst (λ new. Reschedules now (timer_due (timer_at old each)) (timer_due (timer_at new each))) (sym is) (reload_leaves old which c.args.value now c.laws.ensures c.requires each l)
