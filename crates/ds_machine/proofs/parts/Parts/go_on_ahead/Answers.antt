use Rattle.ds_machine.proofs.Words.{MachineState, ap, arith, false, processor_of}
use Rattle.ds_machine.proofs.FastTurns.{later, went_more, went_none, went_same}
use Rattle.ds_machine.proofs.parts.Parts.go_on_ahead.Goals as goal

pub steps-init : goal.steps-init
steps-init c = (went_none c.args.until.0 c.args.proc c.args.end c.args.limit false c.args.self.now c.requires.goes, c.requires.past)

pub steps-preserved-in-Took : goal.steps-preserved-in-Took
steps-preserved-in-Took c =
    let past = c.steps.invariant.1 in
    let due = later c.args.until.0 c.args.proc c.args.end c.args.limit false c.steps.self c.step_ahead.new.self c.steps.invariant.0.goes c.in-Took.ensures in (
      went_more c.args.until.0 c.args.proc c.args.end c.args.limit false c.args.self.now c.steps.self c.step_ahead.new.self c.steps.invariant.0 c.in-Took.ensures,
      omega (arith, past, due),
    )

pub steps-preserved : goal.steps-preserved
steps-preserved c =
    let past = c.steps.invariant.1 in
    let here = went_same c.args.until.0 c.args.proc c.args.end c.args.limit false c.args.self.now c.steps.self c.step_ahead.new.self c.steps.invariant.0 c.in-List.ensures in
    let same = ap (λ (s : MachineState). (processor_of s c.args.proc).due) c.in-List.ensures in
    let due = later c.args.until.0 c.args.proc c.args.end c.args.limit false c.step_ahead.new.self c.step_list_ahead.new.self here.goes c.in-Took-step_list_ahead.ensures in (
      went_more c.args.until.0 c.args.proc c.args.end c.args.limit false c.args.self.now c.step_ahead.new.self c.step_list_ahead.new.self here c.in-Took-step_list_ahead.ensures,
      omega (arith, past, same, due),
    )
