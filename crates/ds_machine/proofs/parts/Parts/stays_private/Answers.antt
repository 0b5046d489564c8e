use Rattle.ds_machine.proofs.PrivateTests.{stays_by_instr}
use Rattle.ds_machine.proofs.parts.Parts.stays_private.Goals as goal

pub returns-in-Some : goal.returns-in-Some
returns-in-Some c =
    let fetch = c.fetch_stays_private.ensures.0 c.if-not-fetch_stays_private.false in
    let by = stays_by_instr c.args.self.now c.args.proc c.in-Some.instr c.in-Some.ensures.instr fetch in
    (λ h. by.0 (c.instr_stays_private.ensures.0 h), λ k. c.instr_stays_private.ensures.1 (by.1 k))
