use Rattle.ds_machine.proofs.Words.{Cost, ProcessorState, ap, arith, inl, subst, sym, tick_of, ℕ, ◌<◌, ◌∙◌}
use Rattle.arm_core.specs.declared.outcomes.Stepped as arm
use Rattle.ds_machine.proofs.FastTurns.{below_turn, least_now, went_fast}
use Rattle.ds_machine.proofs.GuardedSteps.{free_for}
use Rattle.ds_machine.proofs.MostCosts.{CostsAtMost, step_costs_few}
use Rattle.ds_machine.proofs.ProcessorSteps.{reached_early, reached_few}
use Rattle.ds_machine.proofs.Running.{few_steps}
use Rattle.ds_machine.proofs.parts.Parts.step_least.Goals as goal

pub take_fast-fast-requires-clause-early : goal.take_fast-fast-requires-clause-early
take_fast-fast-requires-clause-early g c =
    let n = c.processor.result.now.due in
    let early = c.requires.early in
    let least = c.requires.least in
    let due = ap (λ (p : ProcessorState). p.due) c.processor.ensures in
    let lt = below_turn c.args.self.now c.args.proc c.args.until.0 c.args.end c.args.limit c.args.up n c.requires.goes due early (omega (arith, due, least)) in
    omega (arith, lt, early)

pub take_fast-fast-requires-clause-line : goal.take_fast-fast-requires-clause-line
take_fast-fast-requires-clause-line g c = sym c.requires.goes.line

pub take_fast-fast-requires-clause-room : goal.take_fast-fast-requires-clause-room
take_fast-fast-requires-clause-room g c =
    free_for c.args.proc c.args.self.now c.requires.goes.running.sound.parts c.requires.goes.least.free

pub few_ticks_of-requires : goal.few_ticks_of-requires
few_ticks_of-requires g c =
    let some : 0 < c.take_fast-fast.result.clocks = (let more = c.if-fast-eq0.false in omega (arith, more)) in
    subst (CostsAtMost 180) (c.take_fast-fast.ensures.stepped some) (step_costs_few c.args.proc (record { 0 = c.processor.result.now.due }) c.args.self.now)

pub go_on-requires-clause-early : goal.go_on-requires-clause-early
go_on-requires-clause-early g c =
    let n = c.processor.result.now.due in
    let early = c.requires.early in
    let least = c.requires.least in
    let due = ap (λ (p : ProcessorState). p.due) c.processor.ensures in
    let some : 0 < c.take_fast-fast.result.clocks = (let more = c.if-fast-eq0.false in omega (arith, more)) in
    let lt = below_turn c.args.self.now c.args.proc c.args.until.0 c.args.end c.args.limit c.args.up n c.requires.goes due early (omega (arith, due, least)) in
    reached_early c.args.proc (record { 0 = n }) c.args.self.now c.take_fast-fast.new.self (c.take_fast-fast.ensures.machine some) (ap tick_of c.processor.ensures)
    (omega (arith, lt, early))

pub go_on-requires-clause-counted : goal.go_on-requires-clause-counted
go_on-requires-clause-counted g c =
    let some : 0 < c.take_fast-fast.result.clocks = (let more = c.if-fast-eq0.false in omega (arith, more)) in
    reached_few c.args.proc (record { 0 = c.processor.result.now.due }) c.args.self.now c.take_fast-fast.new.self (c.take_fast-fast.ensures.machine some)
    (few_steps c.args.proc c.args.self.now c.requires.goes.running)

pub returns : goal.returns
returns g c =
    let s = c.args.self.now in
    let proc = c.args.proc in
    let until = c.args.until.0 in
    let n = c.processor.result.now.due in
    let early = c.requires.early in
    let least = c.requires.least in
    let due = ap (λ (p : ProcessorState). p.due) c.processor.ensures in
    let cost : ℕ → arm.Stepped = λ n. Cost n in
    let some : 0 < c.take_fast-fast.result.clocks = (let more = c.if-fast-eq0.false in omega (arith, more)) in
    let fast = c.take_fast-fast.ensures in
    let before : n < c.args.limit = omega (arith, due, least) in
    went_fast s proc until c.args.end c.args.limit c.args.up n c.requires.goes due early c.take_fast-fast.new.self c.go_on.new.self
    c.few_ticks_of.result (below_turn s proc until c.args.end c.args.limit c.args.up n c.requires.goes due early before)
    (inl (least_now s proc until c.args.end c.args.limit c.args.up n c.requires.goes due early before)) (fast.machine some) (fast.stepped some ∙ ap cost (sym c.few_ticks_of.ensures.value))
    fast.io c.go_on.ensures (fast.near some)
