use Rattle.ds_machine.proofs.SavedMachine.{read_running, read_statuses}
use Rattle.ds_machine.proofs.machines.Machine.unpack.Goals as goal

pub invariant_of-result : goal.invariant_of-result
invariant_of-result c = (
  c.next_event-next_event.ensures,
  read_statuses _ _ _ _ _ _ _ c.in_ok-parts.parts _ c.requires.bytes c.in_ok-parts.ensures,
)

pub returns-clause-running : goal.returns-clause-running
returns-clause-running c =
    read_running _ _ _ _ _ _ _ c.in_ok-parts.parts _ c.requires.bytes c.in_ok-parts.ensures c.laws.ensures c.requires.counts
