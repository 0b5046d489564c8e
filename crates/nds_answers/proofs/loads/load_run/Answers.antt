use Rattle.std.proofs.Common.{option_map, ap}
use Rattle.ds_io.specs.Shelves.{files_of}
use Rattle.nds_answers.specs.Loads.{script}
use Rattle.nds_answers.proofs.Loading.{script_refused}
use Rattle.nds_answers.proofs.loads.load_run.Goals as goal

pub returns-in-Err-load_script-clause-err : goal.returns-in-Err-load_script-clause-err
returns-in-Err-load_script-clause-err g c =
    let told = g.F.Shelf.told in
    let faults = g.F.Shelf.faults in
    let mid = c.load_cart.new.shelf in
    script c.in-Ok.file c.in-Ok.ensures.ok (ap (option_map (λ name. name.now)) c.in-Some.is)
    (script_refused (files_of (told c.args.shelf.now)) (files_of (told mid)) (faults c.args.shelf.now) (faults mid) (faults c.load_script.new.shelf) c.in-Some.name.now c.in-Err-load_script.status
    c.in-Ok.ensures.files c.in-Ok.ensures.later c.in-Err-load_script.ensures.err)
