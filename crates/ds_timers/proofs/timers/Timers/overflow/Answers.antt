use Rattle.std.proofs.Common.{◌≡◌, [], ◌∷◌, sym, subst, rules}
use Rattle.ds_timers.specs.Timing.{AreEarly, AreTimers, CountsFrom, SchedulesOne, timer_at, overflow_of}
use Rattle.ds_timers.proofs.Overflowed.{overflow_keeps, overflow_early, overflow_counts, overflow_schedules}
use Rattle.ds_timers.proofs.Four.{one_reschedules}
use Rattle.ds_timers.proofs.timers.Timers.overflow.Goals as goal

pub invariant_of-self : goal.invariant_of-self
invariant_of-self c =
    let is : c.passed-zero.result.timer ∷ c.passed-one.result.timer ∷ c.passed-two.result.timer ∷ c.passed-three.result.timer ∷ [] ≡ (overflow_of c.args.self.now c.args.which).timers = search rules in (
      subst AreTimers (sym is) (overflow_keeps c.args.self.now c.args.which c.laws.ensures),
      subst AreEarly (sym is) (overflow_early c.args.self.now c.args.which (subst AreEarly c.self.view_is c.self.invariant.1) c.requires.early),
    )

pub returns-clause-again : goal.returns-clause-again
returns-clause-again c =
    let is : c.passed-zero.result.timer ∷ c.passed-one.result.timer ∷ c.passed-two.result.timer ∷ c.passed-three.result.timer ∷ [] ≡ (overflow_of c.args.self.now c.args.which).timers = search rules in
    let old = c.args.self.now in
    let which = c.args.which in
    λ now e. subst (λ new. CountsFrom (timer_at new which) (timer_at old which).reload now) (sym is) (overflow_counts old which c.requires.which now e)

pub returns-clause-alone : goal.returns-clause-alone
returns-clause-alone c =
    let is : c.passed-zero.result.timer ∷ c.passed-one.result.timer ∷ c.passed-two.result.timer ∷ c.passed-three.result.timer ∷ [] ≡ (overflow_of c.args.self.now c.args.which).timers = search rules in
    let old = c.args.self.now in
    let which = c.args.which in
    λ now e. subst (SchedulesOne which now old) (sym is) (overflow_schedules old which c.laws.ensures c.requires.which now e)

pub returns-clause-schedule : goal.returns-clause-schedule
returns-clause-schedule c =
    let is : c.passed-zero.result.timer ∷ c.passed-one.result.timer ∷ c.passed-two.result.timer ∷ c.passed-three.result.timer ∷ [] ≡ (overflow_of c.args.self.now c.args.which).timers = search rules in
    let old = c.args.self.now in
    let which = c.args.which in
    λ now each l e. one_reschedules which now old _ (subst (SchedulesOne which now old) (sym is) (overflow_schedules old which c.laws.ensures c.requires.which now e)) each l
