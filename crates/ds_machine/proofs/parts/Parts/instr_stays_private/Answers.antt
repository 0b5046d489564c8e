use Rattle.ds_machine.proofs.Words.{Arch, Bool, InstrStaysPrivate, Some, ap, data_private, may_go_ahead, subst, sym, true, ◌&&◌, ◌↔◌, ◌∙◌, ◌≡◌}
use Rattle.ds_machine.proofs.PrivateTests.{instr_stays}
use Rattle.ds_machine.proofs.parts.Parts.instr_stays_private.Goals as goal

pub returns-then-may_go_ahead : goal.returns-then-may_go_ahead
returns-then-may_go_ahead c =
    let s = c.args.self.now in
    let proc = c.args.proc in
    let instr = c.args.instr.now in
    let reach = c.footprint_of.result in
    let go = ap (λ (a : Arch). may_go_ahead a (Some instr)) (sym c.architecture.ensures) ∙ sym c.may_go_ahead.ensures ∙ c.if-may_go_ahead.true in
    let e = c.is_data_private.ensures ∙ sym (ap (λ (b : Bool). b && data_private s proc reach) go) in
    subst (λ (b : Bool). (b ≡ true) ↔ InstrStaysPrivate s proc instr) (sym e) (instr_stays s proc instr reach c.footprint_of.ensures)
