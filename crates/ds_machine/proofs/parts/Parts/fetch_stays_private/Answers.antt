use Rattle.ds_machine.proofs.Words.{Bool, Fetch, FetchStaysPrivate, ProcessorState, ap, next_fetch, subst, sym, true, ℕ, ◌↔◌, ◌∙◌, ◌≡◌}
use Rattle.ds_machine.proofs.PrivateTests.{fetch_stays}
use Rattle.ds_machine.proofs.parts.Parts.fetch_stays_private.Goals as goal

pub returns : goal.returns
returns c =
    subst (λ (b : Bool). (b ≡ true) ↔ FetchStaysPrivate c.args.self.now c.args.proc) (sym c.is_touch_private.ensures)
    (fetch_stays c.args.self.now c.args.proc c.access_touch.result c.pc.result c.width_at.result
    (ap (λ (at : ℕ). Fetch at c.width_at.result) c.pc.ensures ∙ c.width_at.ensures ∙ ap (λ (p : ProcessorState). next_fetch p.registers) c.processor.ensures) c.access_touch.ensures.bytes)
