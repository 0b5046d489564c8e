use Rattle.std.proofs.Common.{arith, sym, ◌∙◌}
use Rattle.ds_io.specs.Entries.{no_file}
use Rattle.ds_io.proofs.ShelfLemmas.{file_skip, file_hit}
use Rattle.ds_io.proofs.files.Files.position.Goals as goal

pub loop-i-preserved : goal.loop-i-preserved
loop-i-preserved c =
    let miss = rw c.as_str.ensures.value at c.if-eq.ensures in
    let skip = rw c.self.view_is at (file_skip c.self.inside.entries.items c.loop-i.i c.args.name.now c.index.result.now (omega arith) c.index.ensures miss) in
    skip ∙ c.loop-i.invariant

pub returns-then-eq-clause-found : goal.returns-then-eq-clause-found
returns-then-eq-clause-found c =
    let hit = rw c.as_str.ensures.value at c.if-eq.ensures in
    let found = rw c.self.view_is at (file_hit c.self.inside.entries.items c.loop-i.i c.args.name.now c.index.result.now no_file (omega arith) c.index.ensures hit) in
    sym c.loop-i.invariant ∙ found
