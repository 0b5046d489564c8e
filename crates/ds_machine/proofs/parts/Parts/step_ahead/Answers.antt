use Rattle.ds_machine.proofs.Words.{Cost, ProcessorState, ap, arith, false, inl, inr, refl, subst, sym, tick_of, ℕ, ◌<◌, ◌∙◌}
use Rattle.arm_core.specs.declared.outcomes.Stepped as arm
use Rattle.ds_machine.proofs.FastTurns.{is_due, over_at_end, over_past, went_fast}
use Rattle.ds_machine.proofs.GoingSteps.{ahead_data, ahead_if, ahead_may}
use Rattle.ds_machine.proofs.GuardedSteps.{free_for}
use Rattle.ds_machine.proofs.MostCosts.{CostsAtMost, step_costs_few}
use Rattle.ds_machine.proofs.ProcessorSteps.{reached_early, reached_few}
use Rattle.ds_machine.proofs.Running.{few_steps}
use Rattle.ds_machine.proofs.parts.Parts.step_ahead.Goals as goal

pub may_go_on-requires : goal.may_go_on-requires
may_go_on-requires g c = record { down = c.requires.goes.line; end = c.requires.goes.events }

pub returns-then-not-may_go_on : goal.returns-then-not-may_go_on
returns-then-not-may_go_on g c = (
  λ b.
      (let s = c.args.self.now in
      let proc = c.args.proc in
      let until = c.args.until.0 in
      let n = c.processor.result.now.due in
      let past = c.requires.past in
      let due = ap (λ (p : ProcessorState). p.due) c.processor.ensures in
      elim (c.may_go_on.ensures.no c.if-not-may_go_on.true) [
        | inl le ↦ over_at_end s proc until c.args.end c.args.limit false n c.requires.goes due c.requires.early le b
        | inr k ↦
            over_past s proc until c.args.end c.args.limit false n c.requires.goes due c.requires.early (omega (arith, due, past))
            (λ lt ahead. k (ahead_may s proc n (is_due s proc until c.args.end c.args.limit false n c.requires.goes due c.requires.early) ahead)) b
      ]),
  refl,
)

pub take_fast-fast-requires-clause-early : goal.take_fast-fast-requires-clause-early
take_fast-fast-requires-clause-early g c =
    let early = c.requires.early in
    let lt = (c.may_go_on.ensures.yes c.if-not-may_go_on.false).0 in
    omega (arith, lt, early)

pub take_fast-fast-requires-clause-line : goal.take_fast-fast-requires-clause-line
take_fast-fast-requires-clause-line g c = sym c.requires.goes.line

pub take_fast-fast-requires-clause-room : goal.take_fast-fast-requires-clause-room
take_fast-fast-requires-clause-room g c =
    free_for c.args.proc c.args.self.now c.requires.goes.running.sound.parts c.requires.goes.least.free

pub returns-then-fast : goal.returns-then-fast
returns-then-fast g c = (
  λ b.
      (let s = c.args.self.now in
      let proc = c.args.proc in
      let until = c.args.until.0 in
      let n = c.processor.result.now.due in
      let past = c.requires.past in
      let due = ap (λ (p : ProcessorState). p.due) c.processor.ensures in
      over_past s proc until c.args.end c.args.limit false n c.requires.goes due c.requires.early (omega (arith, due, past))
      (λ lt ahead. c.take_fast-fast.ensures.leaves c.if-fast.true
      (ahead_data s proc n (is_due s proc until c.args.end c.args.limit false n c.requires.goes due c.requires.early) ahead)) b),
  c.take_fast-fast.ensures.none (c.take_fast-fast.ensures.left c.if-fast.true).0,
)

pub few_ticks_of-requires : goal.few_ticks_of-requires
few_ticks_of-requires g c =
    let some : 0 < c.take_fast-fast.result.clocks = (let more = c.if-fast-eq0.false in omega (arith, more)) in
    subst (CostsAtMost 180) (c.take_fast-fast.ensures.stepped some) (step_costs_few c.args.proc (record { 0 = c.processor.result.now.due }) c.args.self.now)

pub go_on-requires-clause-early : goal.go_on-requires-clause-early
go_on-requires-clause-early g c =
    let n = c.processor.result.now.due in
    let early = c.requires.early in
    let some : 0 < c.take_fast-fast.result.clocks = (let more = c.if-fast-eq0.false in omega (arith, more)) in
    let lt = (c.may_go_on.ensures.yes c.if-not-may_go_on.false).0 in
    reached_early c.args.proc (record { 0 = n }) c.args.self.now c.take_fast-fast.new.self (c.take_fast-fast.ensures.machine some) (ap tick_of c.processor.ensures)
    (omega (arith, lt, early))

pub go_on-requires-clause-counted : goal.go_on-requires-clause-counted
go_on-requires-clause-counted g c =
    let some : 0 < c.take_fast-fast.result.clocks = (let more = c.if-fast-eq0.false in omega (arith, more)) in
    reached_few c.args.proc (record { 0 = c.processor.result.now.due }) c.args.self.now c.take_fast-fast.new.self (c.take_fast-fast.ensures.machine some)
    (few_steps c.args.proc c.args.self.now c.requires.goes.running)

pub returns : goal.returns
returns g c =
    let s = c.args.self.now in
    let proc = c.args.proc in
    let until = c.args.until.0 in
    let n = c.processor.result.now.due in
    let early = c.requires.early in
    let due = ap (λ (p : ProcessorState). p.due) c.processor.ensures in
    let cost : ℕ → arm.Stepped = λ n. Cost n in
    let some : 0 < c.take_fast-fast.result.clocks = (let more = c.if-fast-eq0.false in omega (arith, more)) in
    let fast = c.take_fast-fast.ensures in
    let k = c.may_go_on.ensures.yes c.if-not-may_go_on.false in
    let d = is_due s proc until c.args.end c.args.limit false n c.requires.goes due early in
    went_fast s proc until c.args.end c.args.limit false n c.requires.goes due early c.take_fast-fast.new.self c.go_on.new.self
    c.few_ticks_of.result k.0 (inr (ahead_if s proc n d k.1 (fast.stays refl some))) (fast.machine some) (fast.stepped some ∙ ap cost (sym c.few_ticks_of.ensures.value))
    fast.io c.go_on.ensures (fast.near some)
