use Rattle.std.proofs.Common.{◌∙◌, sym}
use Rattle.ds_io.specs.Numbered.{Numbered}
use Rattle.ds_io.proofs.CallLemmas.{later_call, failed_call}
use Rattle.ds_io.proofs.calls.Numbering.call.Goals as goal

pub returns-clause-later : goal.returns-clause-later
returns-clause-later c =
    rw (sym c.self.view_is, c.saturating_add-self-inside.ensures) (later_call (record { fails = c.self.inside.fails; made = c.self.inside.made }) c.self.invariant)

pub returns-clause-cause : goal.returns-clause-cause
returns-clause-cause c =
    let n : Numbered = record { fails = c.self.inside.fails; made = c.self.inside.made } in
    let among = rw c.saturating_add-self-inside.ensures at c.contains.ensures.among in
    let below = rw c.saturating_add-self-inside.ensures at c.contains.ensures.below in
    rw (sym c.self.view_is, c.saturating_add-self-inside.ensures) (λ h. failed_call n c.self.invariant (below h) (sym among ∙ h))
