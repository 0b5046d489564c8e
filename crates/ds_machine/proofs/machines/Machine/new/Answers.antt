use Rattle.ds_machine.proofs.Words.{HasBothStatuses, subst, sym, with_file}
use Rattle.ds_machine.proofs.Booting.{running_booted}
use Rattle.ds_machine.proofs.Files.{parts_put, statuses_put}
use Rattle.ds_machine.proofs.Statuses.{boots_with_statuses}
use Rattle.ds_machine.proofs.machines.Machine.new.Goals as goal

pub invariant_of-result : goal.invariant_of-result
invariant_of-result c =
    let file = c.args.cart.now in
    let parts = c.in_ok-parts.parts in (
      c.next_event-next_event.ensures,
      statuses_put parts.file (with_file file parts) (subst HasBothStatuses (sym c.in_ok-parts.ensures.booted) (boots_with_statuses file c.args.keys)),
    )

pub returns-clause-running : goal.returns-clause-running
returns-clause-running c =
    let file = c.args.cart.now in
    let parts = c.in_ok-parts.parts in
    running_booted (with_file file parts) file c.args.keys c.in_ok-parts.ensures.booted (parts_put file parts c.laws.ensures) c.in_ok-parts.ensures.units
