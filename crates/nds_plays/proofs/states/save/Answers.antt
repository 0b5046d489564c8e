use Rattle.nds_plays.proofs.Words.{At, reference}
use Rattle.nds_plays.specs.States.{IsReady}
use Rattle.nds_plays.proofs.Saving.{ends_over, read_again}
use Rattle.nds_plays.proofs.states.save.Goals as goal

pub save-requires-clause-over : goal.save-requires-clause-over
save-requires-clause-over g c =
    let ran = c.in_default.ensures in
    ends_over reference c.args.until.0 (At c.run_through.new.console.machine) c.args.console.now.machine ran.0 ran.1.0

pub returns-in-Ok-clause-back : goal.returns-in-Ok-clause-back
returns-in-Ok-clause-back g c = λ (ready : IsReady c.args.console.now).
    (let ran = c.in_default.ensures in
    let old = c.args.console.now in
    let now = c.run_through.new.console in
    let within = c.time_laws.ensures.run old.limit c.args.until.0 old.machine now.machine ran.0 ran.1.0 ready.parts c.requires.limit ready.within in
    read_again c.digest-digest.result now c.file.result.now c.in_ok-bytes.bytes.items c.file.ensures c.digest-digest.ensures c.in_ok-bytes.ensures.bytes (c.in_ok-bytes.ensures.accepted within))
