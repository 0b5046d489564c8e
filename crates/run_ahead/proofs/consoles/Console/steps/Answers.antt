use Rattle.run_ahead.proofs.Words.{ConsoleState, ap, processor_of, ◌∙◌}
use Rattle.run_ahead.proofs.consoles.Console.steps.Goals as goal

pub returns : goal.returns
returns c = c.steps.ensures ∙ ap (λ (x : ConsoleState). (processor_of x.machine c.args.proc).steps) c.self.view_is
