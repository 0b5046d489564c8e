use Rattle.ds_machine.proofs.Words.{done_of, in_ticks, own_tick}
use Rattle.ds_machine.proofs.ProcessorSteps.{reached_early, reached_few, step_concluded}
use Rattle.ds_machine.proofs.parts.Parts.step_processor.Goals as goal

pub conclude-requires-clause-early : goal.conclude-requires-clause-early
conclude-requires-clause-early c =
    let s = c.args.self.now in
    reached_early c.args.proc c.args.tick s c.take-came.new.self c.take-came.ensures.machine (own_tick s c.args.proc c.args.tick c.requires.due) c.requires.early

pub conclude-requires-clause-counted : goal.conclude-requires-clause-counted
conclude-requires-clause-counted c =
    reached_few c.args.proc c.args.tick c.args.self.now c.take-came.new.self c.take-came.ensures.machine c.requires.counted

pub returns : goal.returns
returns c =
    let s = c.args.self.now in
    step_concluded c.args.rank c.args.proc c.args.tick s c.take-came.new.self c.conclude.new.self (in_ticks c.args.proc c.take-came.result.waits c.take-came.result.stepped) (done_of c.conclude.new.stop)
    (own_tick s c.args.proc c.args.tick c.requires.due) c.take-came.ensures.machine c.take-came.ensures.stepped c.conclude.ensures
