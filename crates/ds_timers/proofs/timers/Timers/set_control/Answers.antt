use Rattle.std.proofs.Common.{◌≡◌, ◌∙◌, sym, subst, ap, slice_set}
use Rattle.ds_base.specs.Schedules.{IsEarly, IsLater}
use Rattle.ds_timers.specs.declared.timers.Timer.{Timer}
use Rattle.ds_timers.specs.Timing.{IsTimer, ChangesControl, CountsFrom, SchedulesOne, timer_at, timer_due, kept_control, controlled, control_set}
use Rattle.ds_timers.proofs.Changed.{controlled_is, controlled_early, kept_twice, control_changes, control_counts, control_schedules}
use Rattle.ds_timers.proofs.Four.{one_reschedules}
use Rattle.ds_timers.proofs.timers.Timers.set_control.Goals as goal

pub put-requires-clause-is : goal.put-requires-clause-is
put-requires-clause-is c =
    let t = c.timer.result in
    let now = c.args.now in
    subst (IsTimer c.args.which) (sym c.with_control-timer.ensures)
    (controlled_is c.args.which t (kept_control c.args.value) now c.timer.ensures.is (kept_twice c.args.value))

pub put-requires-clause-early : goal.put-requires-clause-early
put-requires-clause-early c =
    subst (λ (x : Timer). IsEarly x.since) (sym c.with_control-timer.ensures)
    (controlled_early c.args.which c.timer.result (kept_control c.args.value) c.args.now c.timer.ensures.early c.requires.early)

new_is : (c : goal.After-put) → c.put.new.self ≡ control_set c.args.self.now c.args.which c.args.value c.args.now
new_is c =
    let kept = kept_control c.args.value in
    c.put.ensures ∙ ap (slice_set c.args.self.now c.args.which) (c.with_control-timer.ensures ∙ ap (λ x. controlled c.args.which x kept c.args.now) c.timer.ensures.seen)

pub returns-clause-change : goal.returns-clause-change
returns-clause-change c =
    let old = c.args.self.now in
    let which = c.args.which in
    let kept = kept_control c.args.value in
    subst (λ new. ChangesControl which (timer_at old which) kept c.args.now (timer_at new which)) (sym (new_is c)) (control_changes old which kept c.args.now c.laws.ensures c.requires.which)

pub returns-clause-start : goal.returns-clause-start
returns-clause-start c =
    let old = c.args.self.now in
    let which = c.args.which in
    λ starts free. subst (λ new. CountsFrom (timer_at new which) (timer_at old which).reload c.args.now) (sym (new_is c))
    (control_counts old which (kept_control c.args.value) c.args.now c.laws.ensures c.requires.which starts free)

alone : (c : goal.After-put) → IsLater c.args.now (timer_due (timer_at c.args.self.now c.args.which)) → SchedulesOne c.args.which c.args.now c.args.self.now c.put.new.self
alone c ahead =
    let old = c.args.self.now in
    let which = c.args.which in
    subst (SchedulesOne which c.args.now old) (sym (new_is c)) (control_schedules old which (kept_control c.args.value) c.args.now c.laws.ensures c.requires.which ahead)

pub returns-clause-alone : goal.returns-clause-alone
returns-clause-alone c ahead = alone c ahead

pub returns-clause-schedule : goal.returns-clause-schedule
returns-clause-schedule c ahead = one_reschedules c.args.which c.args.now c.args.self.now c.put.new.self (alone c ahead)
