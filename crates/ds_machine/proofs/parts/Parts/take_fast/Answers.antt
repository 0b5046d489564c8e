use Rattle.ds_machine.proofs.Words.{MachineState, Proc, Seven, ap, line_of, outcome_of, sym, the_view, unreached, ◌∙◌}
use Rattle.ds_machine.proofs.Reached.{apart_of, seven_stood, seven_went}
use Rattle.ds_machine.proofs.parts.Parts.take_fast.Goals as goal

pub returns-in-Seven-clause-none : goal.returns-in-Seven-clause-none
returns-in-Seven-clause-none g c = λ none.
    (let s = the_view c.self.inside in
    let m = c.take_fast_in_view-in-Seven.new.view.map.now in
    seven_stood s m c.take_fast_in_view-in-Seven.new.view.io.now c.take_fast_in_view-in-Seven.new.s c.args.now c.take_fast_in_view-in-Seven.new.view.now
    (apart_of _ _ _ _ (unreached Seven m) (unreached Seven c.self.inside.map) c.take_fast_in_view-in-Seven.ensures.same)
    (c.take_fast_in_view-in-Seven.ensures.none none).1 (c.take_fast_in_view-in-Seven.ensures.none none).0
    ∙ c.self.view_is)

pub returns-in-Seven-clause-machine : goal.returns-in-Seven-clause-machine
returns-in-Seven-clause-machine g c = λ some.
    (let s = the_view c.self.inside in
    let m = c.take_fast_in_view-in-Seven.new.view.map.now in
    let line = c.requires.line ∙ ap (λ (x : MachineState). line_of x c.args.proc) (sym c.self.view_is) ∙ ap (λ (p : Proc). line_of s p) c.in-Seven.is in
    seven_went s m c.take_fast_in_view-in-Seven.new.view.io.now c.take_fast_in_view-in-Seven.new.s c.args.now c.take_fast_in_view-in-Seven.new.view.now c.args.line
    (apart_of _ _ _ _ (unreached Seven m) (unreached Seven c.self.inside.map) c.take_fast_in_view-in-Seven.ensures.same) line
    (c.take_fast_in_view-in-Seven.ensures.state some) (c.take_fast_in_view-in-Seven.ensures.registers some)
    ∙ ap (λ (x : MachineState). (outcome_of Seven c.args.now x).machine) c.self.view_is
    ∙ ap (λ (p : Proc). (outcome_of p c.args.now c.args.self.now).machine) (sym c.in-Seven.is))
