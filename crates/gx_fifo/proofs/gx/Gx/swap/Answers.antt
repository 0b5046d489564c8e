use Rattle.gx_fifo.proofs.Words.{false}
use Rattle.gx_fifo.proofs.Dues.{begun_is}
use Rattle.gx_fifo.proofs.Parameters.{none_swapped}
use Rattle.gx_fifo.proofs.gx.Gx.swap.Goals as goal

pub invariant_of-self : goal.invariant_of-self
invariant_of-self c = (
  rw (c.begun-self-inside.ensures.value, c.entries.ensures.value) (begun_is c.args.now false c.self.inside.fifo.entries),
  λ none. rw c.swap.ensures.state (none_swapped c.args.now c.self.inside.engine),
  c.self.invariant.2,
  c.self.invariant.3,
  c.self.invariant.4,
)
