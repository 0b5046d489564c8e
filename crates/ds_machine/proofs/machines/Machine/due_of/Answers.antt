use Rattle.ds_machine.proofs.Words.{MachineState, ap, due_at, due_by, due_of_rank, dues_of, sym, ◌∙◌}
use Rattle.ds_runs.specs.declared.actors.Actor as actor
use Rattle.ds_machine.proofs.machines.Machine.due_of.Goals as goal

pub returns : goal.returns
returns c =
    let s = c.self.inside.parts in
    let f = λ (a : actor.Actor). due_by a s in
    c.due_by.ensures ∙ ap f c.of.ensures.actor ∙ sym (due_of_rank s c.args.rank c.requires)
    ∙ ap (λ (m : MachineState). due_at (dues_of m) c.args.rank) c.self.view_is
