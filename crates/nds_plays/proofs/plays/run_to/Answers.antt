use Rattle.nds_plays.proofs.Words.{append_none, err_from_is_err_and, rose_within}
use Rattle.nds_plays.proofs.Playing.{writing_first, writing_shown, front_at, writing_over, writing_stopped}
use Rattle.nds_plays.proofs.plays.run_to.Goals as goal

pub turns-init : goal.turns-init
turns-init g c =
    writing_first g.O.Sink.tells g.O.Sink.taken g.O.Sink.faults c.args.until.0 c.args.keep c.args.console.now c.args.out.now c.requires.open
    (append_none g.O.Sink.tells g.O.Sink.taken c.args.out.now)

pub turns-preserved : goal.turns-preserved
turns-preserved g c =
    let put = c.in_ok-put_shown-in-Frame.ensures.put in
    writing_shown g.O.Sink.tells g.O.Sink.taken g.O.Sink.faults c.args.until.0 c.args.keep c.args.console.now c.args.out.now c.turns.console c.run_on.new.self c.turns.out c.put_shown.new.out
    c.in-Frame.swapped c.turns.invariant c.in-Frame.ensures.turns put.0 put.1 c.in_ok-put_shown-in-Frame.ensures.few

pub returns-in_err-put_shown-in-Frame-clause-ran : goal.returns-in_err-put_shown-in-Frame-clause-ran
returns-in_err-put_shown-in-Frame-clause-ran g c =
    let p = err_from_is_err_and c.from_residual.result c.from_residual.ensures.1 in
    let w = c.turns.invariant in
    let put = c.in_err-put_shown-in-Frame.ensures.put in
    let front = front_at g.O.Sink.tells g.O.Sink.taken g.O.Sink.faults c.args.until.0 c.args.keep c.args.console.now c.args.out.now c.turns.console c.run_on.new.self c.turns.out c.put_shown.new.out
    c.in-Frame.swapped w c.in-Frame.ensures.turns c.laws.ensures.sound put.0 in
    rw p.1 (front.0, rose_within _ _ _ w.later put.1, front.1)

pub returns-in-Stopped-clause-ran : goal.returns-in-Stopped-clause-ran
returns-in-Stopped-clause-ran g c =
    writing_stopped g.O.Sink.tells g.O.Sink.taken g.O.Sink.faults c.args.until.0 c.args.keep c.args.console.now c.args.out.now c.turns.console c.run_on.new.self c.turns.out
    c.in-Stopped.left c.turns.invariant c.in-Stopped.ensures.turns

pub returns-in-AtEnd-clause-ran : goal.returns-in-AtEnd-clause-ran
returns-in-AtEnd-clause-ran g c =
    writing_over g.O.Sink.tells g.O.Sink.taken g.O.Sink.faults c.args.until.0 c.args.keep c.args.console.now c.args.out.now c.turns.console c.run_on.new.self c.turns.out
    c.turns.invariant c.in-AtEnd.ensures.turns
