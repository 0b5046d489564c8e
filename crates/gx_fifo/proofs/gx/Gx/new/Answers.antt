use Rattle.gx_fifo.proofs.Words.{arith, refl}
use Rattle.gx_fifo.proofs.Parameters.{none_at_boot}
use Rattle.gx_fifo.proofs.gx.Gx.new.Goals as goal

pub invariant_of-result : goal.invariant_of-result
invariant_of-result c =
    (rw c.in_ok-fifo.ensures refl, λ none. rw c.in_ok-engine.ensures none_at_boot, omega arith, refl, omega arith)
