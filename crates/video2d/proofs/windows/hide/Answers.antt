use Rattle.video2d.proofs.Words.{get_or}
use Rattle.video2d.proofs.LineLemmas.{shown_whole}
use Rattle.video2d.proofs.windows.hide.Goals as goal

pub returns-then-shown : goal.returns-then-shown
returns-then-shown c = λ x small.
    let a = c.args in
    shown_whole a.shown.now.all a.n (get_or a.shown.now.bits x 0) (get_or a.row.now x 0) c.if-shown.true c.requires
