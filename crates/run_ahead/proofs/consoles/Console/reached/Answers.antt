use Rattle.run_ahead.proofs.Words.{ConsoleState, subst}
use Rattle.ds_machine.specs.Looks.{IsReached}
use Rattle.run_ahead.proofs.consoles.Console.reached.Goals as goal

pub returns : goal.returns
returns c = subst (λ (x : ConsoleState). IsReached x.machine c.args.proc c.reached.result) c.self.view_is c.reached.ensures
