use Rattle.ds_ports.proofs.Words.{sym}
use Rattle.ds_ports.proofs.Grows.{byte_room}
use Rattle.ds_ports.proofs.io.Io.write_byte.Goals as goal

pub returns-in-Some-clause-room : goal.returns-in-Some-clause-room
returns-in-Some-clause-room c =
    byte_room c.args.proc c.args.now c.args.self.now c.write_part.new.self c.args.at c.args.value c.in-Some.slot (sym c.in-Some.ensures.value)
    c.write_part.ensures c.requires.room
