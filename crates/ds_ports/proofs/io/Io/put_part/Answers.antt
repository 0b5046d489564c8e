use Rattle.ds_ports.proofs.Words.{IoState, IsGx, ap, subst, sym, ◌∙◌}
use Rattle.ds_ports.proofs.Wholes.{command_put}
use Rattle.ds_ports.proofs.io.Io.put_part.Goals as goal

pub returns-then-is_command-clause-next : goal.returns-then-is_command-clause-next
returns-then-is_command-clause-next c =
    let is = c.is_command.ensures c.if-is_command.true in
    let gx = subst IsGx (c.gx.ensures ∙ ap (λ (u : IoState). u.gx) c.deref.ensures) c.laws.ensures.is in
    c.write_command.ensures
    ∙ sym (command_put c.args.proc c.args.now c.args.self.now c.args.width c.args.slot c.args.value is.0 is.1 c.requires.whole c.ranges.value.fits gx)
