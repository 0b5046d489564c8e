use Rattle.ds_dma.proofs.Made.{early_made, four_made}
use Rattle.ds_dma.proofs.dma.Dma.unpack_by.Goals as goal

pub invariant_of-dma : goal.invariant_of-dma
invariant_of-dma c = (
  four_made c.args.proc _ _ _ _ c.last_of.result c.in_ok-zero.ensures.is c.in_ok-one.ensures.is c.in_ok-two.ensures.is c.in_ok-three.ensures.is
      c.last_of.ensures.brief,
  early_made c.args.proc _ _ _ _ c.last_of.result c.in_ok-zero.ensures.early c.in_ok-one.ensures.early c.in_ok-two.ensures.early
      c.in_ok-three.ensures.early c.last_of.ensures.early,
)
