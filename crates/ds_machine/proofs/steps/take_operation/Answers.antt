use Rattle.ds_machine.proofs.Words.{Outcome, ap, run_is_decoded, sym, ◌∙◌}
use Rattle.ds_machine.proofs.Taken.{decoded_waits, taken_operation}
use Rattle.ds_machine.proofs.steps.take_operation.Goals as goal

pub returns-clause-registers : goal.returns-clause-registers
returns-clause-registers g c =
    let is = taken_operation g.V.Side.memory g.V.Side.side c.args.line c.args.s.now (g.V.Side.state c.args.view.now) c.args.next.now c.run.ensures.executes c.requires.none c.requires.operation in
    c.run.ensures.registers ∙ ap (λ (o : Outcome g.V.Side.State). o.registers) (sym is)

pub returns-clause-state : goal.returns-clause-state
returns-clause-state g c =
    let is = taken_operation g.V.Side.memory g.V.Side.side c.args.line c.args.s.now (g.V.Side.state c.args.view.now) c.args.next.now c.run.ensures.executes c.requires.none c.requires.operation in
    c.run.ensures.state ∙ ap (λ (o : Outcome g.V.Side.State). o.state) (sym is)

pub returns-clause-stepped : goal.returns-clause-stepped
returns-clause-stepped g c =
    let is = taken_operation g.V.Side.memory g.V.Side.side c.args.line c.args.s.now (g.V.Side.state c.args.view.now) c.args.next.now c.run.ensures.executes c.requires.none c.requires.operation in
    c.run.ensures.stepped ∙ ap (λ (o : Outcome g.V.Side.State). o.stepped) (sym is)

pub returns-clause-waits : goal.returns-clause-waits
returns-clause-waits g c =
    c.run.ensures.waits
    ∙ decoded_waits g.V.Side.memory g.V.Side.side c.args.s.now (g.V.Side.state c.args.view.now) c.args.next.now (run_is_decoded c.args.next.now.op c.requires.known) c.requires.operation
