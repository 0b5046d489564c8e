use Rattle.asm_files.proofs.Words.{Thumb, arith, err_from_is_err_and}
use Rattle.asm_files.proofs.PageLaws.{half_step, left_step, then_passed, then_failed}
use Rattle.asm_files.proofs.writing.write_halves.Goals as goal

pub returns-in_err-put_line-clause-err : goal.returns-in_err-put_line-clause-err
returns-in_err-put_line-clause-err g c =
    let p = err_from_is_err_and c.from_residual.result c.from_residual.ensures.1 in
    let step = half_step c.args.arch c.loop-rest.at c.loop-rest.rest.now _ c.from_le_bytes-half.result c.in-len2-up.len_at_least (omega arith) c.list_word.ensures in
    rw p.1 (then_failed g.O.Sink.tells g.O.Sink.taken _ _ _ _ _ _ _ _ _ step c.loop-rest.invariant.passing c.in_err-put_line.ensures.err)

pub loop-rest-preserved : goal.loop-rest-preserved
loop-rest-preserved g c =
    let step = half_step c.args.arch c.loop-rest.at c.loop-rest.rest.now _ c.from_le_bytes-half.result c.in-len2-up.len_at_least (omega arith) c.list_word.ensures in
    record {
      passing = then_passed g.O.Sink.tells g.O.Sink.taken _ _ _ _ _ _ _ _ _ _ step c.loop-rest.invariant.passing c.in_ok-put_line.ensures.ok;
      later = (let a = c.loop-rest.invariant.later in let b = c.in_ok-put_line.ensures.later in omega (arith, a, b));
    }

pub returns-in_err-write_bytes-clause-err : goal.returns-in_err-write_bytes-clause-err
returns-in_err-write_bytes-clause-err g c =
    let p = err_from_is_err_and c.from_residual-in_err-write_bytes.result c.from_residual-in_err-write_bytes.ensures.1 in
    let step = left_step c.args.arch Thumb c.loop-rest.at c.loop-rest.rest.now (omega (arith, c.in_default.len_below)) in
    rw p.1 (then_failed g.O.Sink.tells g.O.Sink.taken _ _ _ _ _ _ _ _ _ step c.loop-rest.invariant.passing c.in_err-write_bytes.ensures.err)

pub returns-clause-ok : goal.returns-clause-ok
returns-clause-ok g c =
    let step = left_step c.args.arch Thumb c.loop-rest.at c.loop-rest.rest.now (omega (arith, c.in_default.len_below)) in
    then_passed g.O.Sink.tells g.O.Sink.taken _ _ _ _ _ _ _ _ _ _ step c.loop-rest.invariant.passing c.in_ok-write_bytes.ensures.ok
