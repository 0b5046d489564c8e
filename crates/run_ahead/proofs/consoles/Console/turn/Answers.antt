use Rattle.run_ahead.proofs.TurnLaws.{runs_on, turn_counts, turn_falls, turn_frames, turn_lists}
use Rattle.run_ahead.proofs.consoles.Console.turn.Goals as goal

pub returns-clause-runs : goal.returns-clause-runs
returns-clause-runs c = λ none. runs_on c.args.until.0 c.args.self.now c.step.result c.step.new.self c.laws.ensures.sound c.step.ensures none

pub returns-clause-counted : goal.returns-clause-counted
returns-clause-counted c = turn_counts c.args.until.0 c.args.self.now c.step.result c.step.new.self c.step.ensures

pub returns-clause-falls : goal.returns-clause-falls
returns-clause-falls c = λ counts. turn_falls c.args.until.0 c.args.self.now c.step.result c.step.new.self c.laws.ensures.sound c.step.ensures counts

pub returns-clause-frames : goal.returns-clause-frames
returns-clause-frames c = turn_frames c.args.until.0 c.args.self.now c.step.result c.step.new.self c.laws.ensures.sound c.step.ensures

pub returns-clause-lists : goal.returns-clause-lists
returns-clause-lists c = turn_lists c.args.until.0 c.args.self.now c.step.result c.step.new.self c.laws.ensures.sound c.step.ensures
