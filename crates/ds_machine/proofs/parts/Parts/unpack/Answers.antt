use Rattle.ds_machine.proofs.Words.{MachineState, Ok, ap, slice_index, sym, ◌∙◌}
use Rattle.ds_machine.proofs.SavedParts.{machine_reads}
use Rattle.ds_machine.proofs.parts.Parts.unpack.Goals as goal

pub returns : goal.returns
returns c =
    let nine = slice_index c.args.steps 0 in
    let seven = slice_index c.args.steps 1 in
    let events = slice_index c.args.steps 2 in
    let parts = machine_reads c.args.file.now c.args.keys nine seven events c.args.at.0 c.args.from.now in
    let read = c.in_ok-taken.ensures c.args.keys nine seven events in
    parts ∙ (read ∙ ap (λ (s : MachineState). Ok (s, c.take.new.from)) (sym (c.in_ok-parts.ensures c.args.file.now)))
