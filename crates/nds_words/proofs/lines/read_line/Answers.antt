use Rattle.std.proofs.Common.{arith}
use Rattle.std.proofs.lemmas.Result.{err_from_is_err_and}
use Rattle.nds_words.proofs.LineLaws.{line_good, line_none, line_start}
use Rattle.nds_words.proofs.lines.read_line.Goals as goal

pub returns-then-count-eq0-clause-none : goal.returns-then-count-eq0-clause-none
returns-then-count-eq0-clause-none c = line_start c.args.text.now c.read_tick-tick.result.0 c.read_tick-tick.result.1 c.read_tick-tick.ensures (omega arith)

pub returns-in_err-pressed-clause-none : goal.returns-in_err-pressed-clause-none
returns-in_err-pressed-clause-none c =
    let p = err_from_is_err_and c.from_residual.result c.from_residual.ensures.1 in
    rw (p.1, p.2) (line_none c.args.text.now c.read_tick-tick.result.0 c.read_tick-tick.result.1 c.read_tick-tick.ensures _ (omega arith) c.in_err-pressed.ensures.is)

pub returns-clause-good : goal.returns-clause-good
returns-clause-good c = (line_good c.args.text.now c.read_tick-tick.result.0 c.read_tick-tick.result.1 c.read_tick-tick.ensures c.in_ok-pressed.pressed (omega arith) c.in_ok-pressed.ensures.is).0

pub returns-clause-is : goal.returns-clause-is
returns-clause-is c = (line_good c.args.text.now c.read_tick-tick.result.0 c.read_tick-tick.result.1 c.read_tick-tick.ensures c.in_ok-pressed.pressed (omega arith) c.in_ok-pressed.ensures.is).1
