use Rattle.ds_machine.proofs.Words.{MachineState, ap, sym}
use Rattle.ds_machine.proofs.FenceFirsts.{nine_by_parts}
use Rattle.ds_machine.proofs.parts.Parts.first_fence_of_nine.Goals as goal

pub returns : goal.returns
returns c =
    rw (
      c.first_before.ensures,
      c.earlier-others.ensures,
      c.entry-geometry.ensures,
      c.geometry_due.ensures,
      c.earlier-later.ensures,
      c.entry-card.ensures,
      c.due_for.ensures,
      c.card.ensures,
      c.deref.ensures,
      ap (λ (m : MachineState). m.io) c.self.view_is,
      c.first_channel-channels.ensures,
    ) (sym (nine_by_parts c.args.self.now))
