use Rattle.run_ahead.proofs.Words.{not_true, sym, ◌∙◌}
use Rattle.run_ahead.proofs.StepTurns.{ends_over, over_all}
use Rattle.run_ahead.proofs.machine_turns.is_over.Goals as goal

pub returns-then-is_quiet_below : goal.returns-then-is_quiet_below
returns-then-is_quiet_below c = λ yes.
    (let s = c.args.machine.now in
    let until = c.args.until.0 in
    let e = c.is_quiet_below.ensures c.if-is_quiet_below.true in
    over_all until s (ends_over until s c.ends.result c.ends.ensures e.0 e.1 e.2) (sym c.is_behind.ensures ∙ not_true c.is_behind.result yes))
