use Rattle.ds_machine.proofs.Words.{false}
use Rattle.ds_machine.proofs.FastTurns.{went_more, went_none, went_same, went_then}
use Rattle.ds_machine.proofs.parts.Parts.go_both.Goals as goal

pub steps-init : goal.steps-init
steps-init c = went_none c.args.until.0 c.args.proc c.args.end c.args.limit false c.args.self.now c.requires.goes

pub returns-then-limit-processor-clause-went : goal.returns-then-limit-processor-clause-went
returns-then-limit-processor-clause-went c =
    went_then c.args.until.0 c.args.proc c.args.end c.args.limit false c.args.self.now c.steps.self c.go_ahead.new.self c.steps.invariant c.go_ahead.ensures.went

pub steps-preserved-in-Took : goal.steps-preserved-in-Took
steps-preserved-in-Took c =
    went_more c.args.until.0 c.args.proc c.args.end c.args.limit false c.args.self.now c.steps.self c.step_least.new.self c.steps.invariant c.in-Took.ensures

pub steps-preserved : goal.steps-preserved
steps-preserved c =
    let here = went_same c.args.until.0 c.args.proc c.args.end c.args.limit false c.args.self.now c.steps.self c.step_least.new.self c.steps.invariant c.in-List.ensures in
    went_more c.args.until.0 c.args.proc c.args.end c.args.limit false c.args.self.now c.step_least.new.self c.step_list_least.new.self here c.in-Took-step_list_least.ensures
