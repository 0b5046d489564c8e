use Rattle.asm_files.proofs.Words.{arith, err_from_is_err_and}
use Rattle.asm_files.proofs.PageLaws.{byte_step, then_passed, then_failed}
use Rattle.asm_files.proofs.writing.write_bytes.Goals as goal

pub returns-in_err-put_line-clause-err : goal.returns-in_err-put_line-clause-err
returns-in_err-put_line-clause-err g c =
    let p = err_from_is_err_and c.from_residual.result c.from_residual.ensures.1 in
    let step = byte_step c.loop-rest.rest.now _ c.in-len1-up.len_at_least c.list_byte.ensures in
    rw p.1 (then_failed g.O.Sink.tells g.O.Sink.taken _ _ _ _ _ _ _ _ _ step c.loop-rest.invariant.passing c.in_err-put_line.ensures.err)

pub loop-rest-preserved : goal.loop-rest-preserved
loop-rest-preserved g c =
    let step = byte_step c.loop-rest.rest.now _ c.in-len1-up.len_at_least c.list_byte.ensures in
    record {
      passing = then_passed g.O.Sink.tells g.O.Sink.taken _ _ _ _ _ _ _ _ _ _ step c.loop-rest.invariant.passing c.in_ok-put_line.ensures.ok;
      later = (let a = c.loop-rest.invariant.later in let b = c.in_ok-put_line.ensures.later in omega (arith, a, b));
    }
