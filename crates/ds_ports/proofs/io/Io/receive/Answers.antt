use Rattle.ds_ports.proofs.Words.{IoState, ap, first_acting_io_due, is_settled, subst, sym, true, ◌∙◌, ◌≡◌}
use Rattle.ds_ports.proofs.Dues.{received_moves_none}
use Rattle.ds_ports.proofs.Settled.{received_settled}
use Rattle.ds_ports.proofs.io.Io.receive.Goals as goal

pub invariant_of-self : goal.invariant_of-self
invariant_of-self c = (
  c.self.invariant.0 ∙ sym (received_moves_none c.args.proc c.self.inside.units) ∙ ap first_acting_io_due (sym c.receive.ensures.state),
  λ settled. subst (λ (u : IoState). is_settled u ≡ true) (sym c.receive.ensures.state) (received_settled c.args.proc c.self.inside.units (c.self.invariant.1 settled)),
)
