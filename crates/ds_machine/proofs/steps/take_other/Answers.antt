use Rattle.ds_machine.proofs.Words.{Instr, Option, Outcome, ap, data_accesses, sym, waits_of, ◌∙◌}
use Rattle.ds_machine.proofs.Taken.{taken_executed}
use Rattle.ds_machine.proofs.steps.take_other.Goals as goal

pub returns-clause-registers : goal.returns-clause-registers
returns-clause-registers g c =
    let is = taken_executed g.V.Side.memory g.V.Side.side c.args.line c.args.s.now (g.V.Side.state c.args.view.now) c.next_decoded-next.result.number
    c.next_decoded-next.result.instr c.requires.none c.next_decoded-next.ensures.number c.next_decoded-next.ensures.instr in
    c.execute.ensures.registers ∙ ap (λ (o : Outcome g.V.Side.State). o.registers) (sym is)

pub returns-clause-state : goal.returns-clause-state
returns-clause-state g c =
    let is = taken_executed g.V.Side.memory g.V.Side.side c.args.line c.args.s.now (g.V.Side.state c.args.view.now) c.next_decoded-next.result.number
    c.next_decoded-next.result.instr c.requires.none c.next_decoded-next.ensures.number c.next_decoded-next.ensures.instr in
    c.execute.ensures.state ∙ ap (λ (o : Outcome g.V.Side.State). o.state) (sym is)

pub returns-clause-stepped : goal.returns-clause-stepped
returns-clause-stepped g c =
    let is = taken_executed g.V.Side.memory g.V.Side.side c.args.line c.args.s.now (g.V.Side.state c.args.view.now) c.next_decoded-next.result.number
    c.next_decoded-next.result.instr c.requires.none c.next_decoded-next.ensures.number c.next_decoded-next.ensures.instr in
    c.execute.ensures.stepped ∙ ap (λ (o : Outcome g.V.Side.State). o.stepped) (sym is)

pub returns-clause-waits : goal.returns-clause-waits
returns-clause-waits g c =
    c.execute.ensures.waits
    ∙ ap (λ (i : Option Instr). waits_of g.V.Side.memory g.V.Side.side.step.wait (g.V.Side.state c.args.view.now)
    (data_accesses g.V.Side.side.step.arch (g.V.Side.side.step.base (g.V.Side.state c.args.view.now)) c.args.s.now i)) c.next_decoded-next.ensures.instr
