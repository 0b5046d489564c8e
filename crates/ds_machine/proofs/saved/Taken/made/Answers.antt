use Rattle.ds_machine.proofs.saved.Taken.made.Goals as goal

pub returns : goal.returns
returns c = λ file. c.with_caches.ensures file c.args.keys c.from_tick-script.ensures
