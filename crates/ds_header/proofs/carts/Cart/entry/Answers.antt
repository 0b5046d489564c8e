use Rattle.ds_header.proofs.Accepted.{entry_aligned, entry_lies}
use Rattle.ds_header.proofs.carts.Cart.entry.Goals as goal

pub returns-clause-aligned : goal.returns-clause-aligned
returns-clause-aligned c = rw (c.image_fields.ensures.entry, c.as_slice.ensures.value) (entry_aligned _ c.args.proc c.self.invariant)

pub returns-clause-lies : goal.returns-clause-lies
returns-clause-lies c = rw (c.image_fields.ensures.entry, c.as_slice.ensures.value) (entry_lies _ c.args.proc c.self.invariant)
