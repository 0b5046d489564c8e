use Rattle.ds_machine.proofs.Words.{MachineState, ap, stored, the_view, unreached_by, ◌∙◌}
use Rattle.ds_machine.proofs.Reached.{left_map}
use Rattle.ds_machine.proofs.parts.Parts.store.Goals as goal

pub returns : goal.returns
returns c =
    left_map c.args.proc (the_view c.self.inside) c.put.new.self c.put.new.io _
    (unreached_by c.args.proc c.put.new.self c.self.inside.map c.put.ensures.wram c.put.ensures.palette c.put.ensures.oam) c.put.ensures.next
    ∙ ap (λ (s : MachineState). stored c.args.proc s c.args.at c.args.byte) c.self.view_is
