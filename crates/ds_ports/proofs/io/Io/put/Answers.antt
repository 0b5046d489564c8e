use Rattle.ds_ports.proofs.Grows.{put_grows}
use Rattle.ds_ports.proofs.Later.{put_goes}
use Rattle.ds_ports.proofs.io.Io.put.Goals as goal

pub returns-clause-schedule : goal.returns-clause-schedule
returns-clause-schedule c = put_goes c.args.proc c.args.now c.args.self.now c.put_any.new.self _ c.args.width c.args.value c.put_any.ensures.next

pub returns-clause-grows : goal.returns-clause-grows
returns-clause-grows c =
    put_grows c.args.proc c.args.now c.args.self.now c.put_any.new.self _ c.args.width c.args.value c.aligned_down.ensures.even c.put_any.ensures.next
