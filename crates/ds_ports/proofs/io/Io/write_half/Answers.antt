use Rattle.ds_ports.proofs.Words.{Half, ap, sym, whole_in, ◌∙◌}
use Rattle.ds_ports.proofs.Grows.{half_room}
use Rattle.ds_ports.proofs.io.Io.write_half.Goals as goal

pub returns-in-Some-clause-room : goal.returns-in-Some-clause-room
returns-in-Some-clause-room c =
    half_room c.args.proc c.args.now c.args.self.now c.write_part.new.self c.args.at c.args.value c.in-Some.slot
    (ap (whole_in Half) (sym c.slot_of.ensures.value) ∙ sym c.in-Some.ensures.value) c.write_part.ensures c.requires.room
