use Rattle.ds_machine.proofs.Words.{MachineState, Proc, Seven, ap, line_of, outcome_of, sym, the_view, unreached, ◌∙◌}
use Rattle.ds_machine.proofs.Reached.{apart_of, seven_went}
use Rattle.ds_machine.proofs.parts.Parts.take.Goals as goal

pub returns-in-Seven-clause-machine : goal.returns-in-Seven-clause-machine
returns-in-Seven-clause-machine c =
    let s = the_view c.self.inside in
    let m = c.take_in_view-in-Seven.new.view.map.now in
    let line = c.requires.line ∙ ap (λ (x : MachineState). line_of x c.args.proc) (sym c.self.view_is) ∙ ap (λ (p : Proc). line_of s p) c.in-Seven.is in
    seven_went s m c.take_in_view-in-Seven.new.view.io.now c.take_in_view-in-Seven.new.s c.args.now c.take_in_view-in-Seven.new.view.now c.args.line
    (apart_of _ _ _ _ (unreached Seven m) (unreached Seven c.self.inside.map) c.take_in_view-in-Seven.ensures.same) line c.take_in_view-in-Seven.ensures.state
    c.take_in_view-in-Seven.ensures.registers
    ∙ ap (λ (x : MachineState). (outcome_of Seven c.args.now x).machine) c.self.view_is
    ∙ ap (λ (p : Proc). (outcome_of p c.args.now c.args.self.now).machine) (sym c.in-Seven.is)
