use Rattle.std.proofs.Common.{◌≡◌, ◌≤◌, vec_len, ◌+◌, ◌-◌, length}
use Rattle.ds_io.proofs.ShelfLemmas.{Took}
use Rattle.ds_io.proofs.reads.read_all.Given as goal

abbrev pub invariant-loop-buffer : goal.invariant-loop-buffer
invariant-loop-buffer g l = record {
  within : vec_len l.all ≤ l.limit + 1;
  same : vec_len l.all ≡ length l.all.items;
  took : Took (g.F.Shelf.told l.initial.shelf) l.all.items (g.F.Shelf.told l.shelf);
  later : g.F.Shelf.faults l.initial.shelf ≤ g.F.Shelf.faults l.shelf;
}

abbrev pub decreases-loop-buffer : goal.decreases-loop-buffer
decreases-loop-buffer g l = l.limit + 1 - vec_len l.all
