use Rattle.std.proofs.Common.{option_map}
use Rattle.ds_io.specs.Shelves.{files_of}
use Rattle.nds_answers.specs.Loads.{run_files}
use Rattle.nds_answers.proofs.Loading.{run_refused}
use Rattle.nds_answers.proofs.loads.load_saved.Goals as goal

pub returns-in-Err-load_run-clause-err : goal.returns-in-Err-load_run-clause-err
returns-in-Err-load_run-clause-err g c =
    let told = g.F.Shelf.told in
    let faults = g.F.Shelf.faults in
    let mid = c.load.new.shelf in
    let ended = c.in-Err-load_run.ended in
    run_files c.in-Ok.bytes.items c.in-Ok.ensures.ok
    (run_refused (files_of (told c.args.shelf.now)) (files_of (told mid)) (faults c.args.shelf.now) (faults mid) (faults c.load_run.new.shelf) c.args.cart.now
    (option_map (λ name. name.now) c.args.keys) ended.status ended.file.now c.in-Ok.ensures.files c.in-Ok.ensures.later c.in-Err-load_run.ensures.err)
