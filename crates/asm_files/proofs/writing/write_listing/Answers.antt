use Rattle.asm_files.proofs.Words.{[], append-nil, err_from_is_err_and, lines_of, listing, start, sym}
use Rattle.asm_files.proofs.PageLaws.{start_step, none_passed, then_passed, then_failed, from_empty, last_passed, last_failed}
use Rattle.asm_files.proofs.writing.write_listing.Goals as goal

pub returns-in_err-put_line-clause-err : goal.returns-in_err-put_line-clause-err
returns-in_err-put_line-clause-err g c =
    let p = err_from_is_err_and c.from_residual.result c.from_residual.ensures.1 in
    let text = listing c.args.arch c.args.set c.args.at c.args.image.now in
    let step = start_step (start c.args.arch c.args.set c.args.at) _ (lines_of c.args.arch c.args.set c.args.at c.args.image.now) c.list_start.ensures in
    let none = none_passed g.O.Sink.tells g.O.Sink.taken c.args.out.now c.new-page.result text in
    rw p.1 (from_empty g.O.Sink.tells g.O.Sink.taken _ _ _ _ c.new-page.ensures (then_failed g.O.Sink.tells g.O.Sink.taken _ _ _ _ _ _ _ _ _ step none c.in_err-put_line.ensures.err))

pub returns-in_err-write_lines-clause-err : goal.returns-in_err-write_lines-clause-err
returns-in_err-write_lines-clause-err g c =
    let p = err_from_is_err_and c.from_residual-in_err-write_lines.result c.from_residual-in_err-write_lines.ensures.1 in
    let text = listing c.args.arch c.args.set c.args.at c.args.image.now in
    let step = start_step (start c.args.arch c.args.set c.args.at) _ (lines_of c.args.arch c.args.set c.args.at c.args.image.now) c.list_start.ensures in
    let none = none_passed g.O.Sink.tells g.O.Sink.taken c.args.out.now c.new-page.result text in
    let first = then_passed g.O.Sink.tells g.O.Sink.taken _ _ _ _ _ _ _ _ _ _ step none c.in_ok-put_line.ensures.ok in
    rw p.1 (from_empty g.O.Sink.tells g.O.Sink.taken _ _ _ _ c.new-page.ensures (then_failed g.O.Sink.tells g.O.Sink.taken _ _ _ _ _ _ _ _ [] (sym (append-nil _)) first c.in_err-write_lines.ensures.err))

pub returns-in_err-send-clause-err : goal.returns-in_err-send-clause-err
returns-in_err-send-clause-err g c =
    let p = err_from_is_err_and c.from_residual-in_err-send.result c.from_residual-in_err-send.ensures.1 in
    let text = listing c.args.arch c.args.set c.args.at c.args.image.now in
    let step = start_step (start c.args.arch c.args.set c.args.at) _ (lines_of c.args.arch c.args.set c.args.at c.args.image.now) c.list_start.ensures in
    let none = none_passed g.O.Sink.tells g.O.Sink.taken c.args.out.now c.new-page.result text in
    let first = then_passed g.O.Sink.tells g.O.Sink.taken _ _ _ _ _ _ _ _ _ _ step none c.in_ok-put_line.ensures.ok in
    let all = then_passed g.O.Sink.tells g.O.Sink.taken _ _ _ _ _ _ _ _ [] _ (sym (append-nil _)) first c.in_ok-write_lines.ensures.ok in
    rw p.1 (last_failed g.O.Sink.tells g.O.Sink.taken _ _ _ _ _ _ c.new-page.ensures all c.in_err-send.ensures.err)

pub returns-clause-ok : goal.returns-clause-ok
returns-clause-ok g c =
    let text = listing c.args.arch c.args.set c.args.at c.args.image.now in
    let step = start_step (start c.args.arch c.args.set c.args.at) _ (lines_of c.args.arch c.args.set c.args.at c.args.image.now) c.list_start.ensures in
    let none = none_passed g.O.Sink.tells g.O.Sink.taken c.args.out.now c.new-page.result text in
    let first = then_passed g.O.Sink.tells g.O.Sink.taken _ _ _ _ _ _ _ _ _ _ step none c.in_ok-put_line.ensures.ok in
    let all = then_passed g.O.Sink.tells g.O.Sink.taken _ _ _ _ _ _ _ _ [] _ (sym (append-nil _)) first c.in_ok-write_lines.ensures.ok in
    last_passed g.O.Sink.tells g.O.Sink.taken _ _ _ _ _ _ c.new-page.ensures all c.in_ok-send.ensures.ok
