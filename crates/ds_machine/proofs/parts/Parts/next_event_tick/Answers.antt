use Rattle.ds_machine.proofs.FastSteps.{event_first, events_over}
use Rattle.ds_machine.proofs.parts.Parts.next_event_tick.Goals as goal

pub returns-clause-events : goal.returns-clause-events
returns-clause-events c = events_over c.args.self.now c.acting_event.result c.acting_event.ensures

pub returns-clause-first : goal.returns-clause-first
returns-clause-first c = λ some. event_first c.args.self.now c.acting_event.result c.acting_event.ensures
