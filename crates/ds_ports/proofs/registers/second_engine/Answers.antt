use Rattle.ds_ports.proofs.Words.{B, ap, engine_registers, slot_from, sym, ◌∙◌}
use Rattle.ds_ports.proofs.DisplayRows.{among_rows}
use Rattle.ds_ports.proofs.registers.second_engine.Goals as goal

pub returns-in-Nine : goal.returns-in-Nine
returns-in-Nine c =
    rw c.in-Nine.is (c.in_display.ensures
    ∙ ap (slot_from 0x1000 c.args.at) c.engine_row_at.ensures.value
    ∙ sym (among_rows 0x1000 (engine_registers B) c.args.at c.requires))
