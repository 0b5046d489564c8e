use Rattle.ds_machine.proofs.Words.{around_of, asked_of, is_late, rules, ◌≡◌}
use Rattle.ds_machine.proofs.SavedReads.{card_fails, fails_on, front_read, gx_fails, video_fails}
use Rattle.ds_machine.proofs.saved.Taken.take.Goals as goal

pub returns-in_err-video : goal.returns-in_err-video
returns-in_err-video c = λ keys nine seven events.
    let p = c.in_ok-processors.processors in
    let halted : c.processors.inside.seven.halted ≡ p.seven.halted = search rules in
    let late : c.is_late.result ≡ is_late c.args.at.0 p.seven = search rules in
    let front = front_read c.args.at.0 _ _ _ _ _ p _ _ _ _ _ c.in_ok-processors.ensures c.in_ok-memories.ensures c.in_ok-units.ensures c.in_ok-channels.ensures halted late in
    let fails = video_fails (around_of c.args.file.now keys nine seven events) c.args.at.0 _ p _ _ _ _ front _ c.in_err-video.ensures in
    search (rules, fails)

pub returns-in_err-gx : goal.returns-in_err-gx
returns-in_err-gx c = λ keys nine seven events.
    let p = c.in_ok-processors.processors in
    let halted : c.processors.inside.seven.halted ≡ p.seven.halted = search rules in
    let late : c.is_late.result ≡ is_late c.args.at.0 p.seven = search rules in
    let asked : c.asked_of-asked.result ≡ asked_of c.args.at.0 p.nine c.in_ok-units.units.irq_of_nine c.in_ok-channels.channels.nine = search rules in
    let front = front_read c.args.at.0 _ _ _ _ _ p _ _ _ _ _ c.in_ok-processors.ensures c.in_ok-memories.ensures c.in_ok-units.ensures c.in_ok-channels.ensures halted late in
    let fails = gx_fails (around_of c.args.file.now keys nine seven events) c.args.at.0 _ p _ _ _ _ front _ _ _ c.in_ok-video.ensures _ asked c.in_err-gx.ensures in
    fails_on _ _ _ _ _ c.from_residual-in_err-gx.ensures.1 fails

pub returns-in_err-card : goal.returns-in_err-card
returns-in_err-card c = λ keys nine seven events.
    let p = c.in_ok-processors.processors in
    let halted : c.processors.inside.seven.halted ≡ p.seven.halted = search rules in
    let late : c.is_late.result ≡ is_late c.args.at.0 p.seven = search rules in
    let asked : c.asked_of-asked.result ≡ asked_of c.args.at.0 p.nine c.in_ok-units.units.irq_of_nine c.in_ok-channels.channels.nine = search rules in
    let front = front_read c.args.at.0 _ _ _ _ _ p _ _ _ _ _ c.in_ok-processors.ensures c.in_ok-memories.ensures c.in_ok-units.ensures c.in_ok-channels.ensures halted late in
    let fails = card_fails (around_of c.args.file.now keys nine seven events) c.args.at.0 _ p _ _ _ _ front _ _ _ c.in_ok-video.ensures _ _ _ asked c.in_ok-gx.ensures c.in_err-card.ensures in
    fails_on _ _ _ _ _ c.from_residual-in_err-card.ensures.1 fails
