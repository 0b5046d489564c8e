use Rattle.ds_machine.proofs.Words.{MachineState, ap, map_of, the_view, unit_moved, unreached_by, with_map, ◌∙◌}
use Rattle.ds_machine.proofs.Reached.{left_map}
use Rattle.ds_machine.proofs.parts.Parts.move_unit.Goals as goal

pub returns-clause-map : goal.returns-clause-map
returns-clause-map c =
    left_map c.args.proc (the_view c.self.inside) c.move_unit.new.self c.move_unit.new.io _
    (unreached_by c.args.proc c.move_unit.new.self c.self.inside.map c.move_unit.ensures.wram c.move_unit.ensures.palette c.move_unit.ensures.oam) c.move_unit.ensures.map
    ∙ ap (λ (s : MachineState). with_map c.args.proc s (unit_moved c.args.proc c.args.tick c.args.unit (map_of c.args.proc s))) c.self.view_is
