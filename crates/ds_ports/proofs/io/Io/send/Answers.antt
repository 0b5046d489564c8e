use Rattle.ds_ports.proofs.Words.{IoState, ap, first_acting_io_due, is_settled, subst, sym, true, ◌∙◌, ◌≡◌}
use Rattle.ds_ports.proofs.Dues.{sent_moves_none}
use Rattle.ds_ports.proofs.Settled.{sent_settled}
use Rattle.ds_ports.proofs.io.Io.send.Goals as goal

pub invariant_of-self : goal.invariant_of-self
invariant_of-self c = (
  c.self.invariant.0 ∙ sym (sent_moves_none c.args.proc c.self.inside.units c.args.word) ∙ ap first_acting_io_due (sym c.send.ensures),
  λ settled. subst (λ (u : IoState). is_settled u ≡ true) (sym c.send.ensures) (sent_settled c.args.proc c.self.inside.units c.args.word (c.self.invariant.1 settled)),
)
