use Rattle.std.proofs.Common.{rules, arith, ◌+◌, take, drop, length-append}
use Rattle.std.proofs.lemmas.List.{length-take, take-append-le}
use Rattle.ds_io.proofs.ShelfLemmas.{took_more, took_some}
use Rattle.ds_io.proofs.reads.read_all.Goals as goal

pub loop-buffer-preserved : goal.loop-buffer-preserved
loop-buffer-preserved g c =
    let old = c.loop-buffer.invariant in
    let n = c.in_ok-n.n in
    let room = c.min-room.result + 1 in
    let rest = drop room c.loop-buffer.buffer in
    let more = took_more _ _ _ _ _ _ n old.took c.in_ok-n.ensures.ok in
    let ok = c.in_ok-extend_from_slice.ensures in
    let asked = length-take room c.loop-buffer.buffer in
    let cut = take-append-le n c.read.new.into rest (omega (arith, c.in_ok-n.ensures.count, asked)) in
    let some = length-take n c.read.new.into in
    let long = rw cut at ok.len in
    record {
      within = omega (arith, long, some, c.in_ok-n.ensures.count, asked);
      same = rw (ok.items, cut) (rw (length-append c.loop-buffer.all.items (take n c.read.new.into)) (omega (arith, long, old.same)));
      took = rw (ok.items, cut) more;
      later = omega arith;
    }

pub returns-in_err-extend_from_slice-clause-err : goal.returns-in_err-extend_from_slice-clause-err
returns-in_err-extend_from_slice-clause-err g c =
    let old = c.loop-buffer.invariant in
    let n = c.in_ok-n.n in
    let more = took_more _ _ _ _ _ _ n old.took c.in_ok-n.ensures.ok in
    let asked = length-take (c.min-room.result + 1) c.loop-buffer.buffer in
    let some = length-take n c.read.new.into in
    let long = length-append c.loop-buffer.all.items (take n c.read.new.into) in
    let p = took_some _ _ _ (c.args.limit + 1) more (omega (arith, long, some, c.in_ok-n.ensures.count, asked, old.within, old.same)) in
    search (rules, p)
