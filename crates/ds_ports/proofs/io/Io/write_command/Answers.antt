use Rattle.ds_ports.proofs.Words.{GxCommand, ap, first_acting_io_due, is_settled, is_silent, refl, sym, true, ◌∙◌, ◌≡◌}
use Rattle.ds_ports.proofs.Silent.{geometry_written_moves_none, geometry_written_settles_none}
use Rattle.ds_ports.proofs.io.Io.write_command.Goals as goal

pub invariant_of-self : goal.invariant_of-self
invariant_of-self c =
    let u = c.self.inside.units in
    let before : is_silent u ≡ true = sym c.is_silent-silent.ensures ∙ c.if-silent.true in
    let after = ap is_silent (sym c.set_gx.ensures) ∙ sym c.is_silent.ensures ∙ c.if-is_silent.true in (
      c.self.invariant.0
          ∙ sym (geometry_written_moves_none c.args.proc c.args.now u GxCommand c.args.number c.args.value refl before after)
          ∙ ap first_acting_io_due (sym c.set_gx.ensures),
      λ settled.
          ap is_settled c.set_gx.ensures
          ∙ geometry_written_settles_none c.args.proc c.args.now u GxCommand c.args.number c.args.value refl before after
          ∙ c.self.invariant.1 settled,
    )
