use Rattle.std.proofs.Common.{arith, length-drop, drop, sym}
use Rattle.std.proofs.Math.Seq.{take-length}
use Rattle.ds_io.proofs.SinkLemmas.{append_next}
use Rattle.ds_io.proofs.sinks.put_all.Goals as goal

pub loop-done-preserved : goal.loop-done-preserved
loop-done-preserved g c =
    let old = c.loop-done.invariant in
    let xs = c.args.bytes.now in
    let i = c.loop-done.done in
    let ok = rw (sym (length-drop i xs), take-length (drop i xs)) at c.in_ok-n.ensures.ok in
    let count = rw (sym (length-drop i xs), take-length (drop i xs)) at c.in_ok-n.ensures.count in
    record {
      within = omega (arith, count.0, length-drop c.loop-done.done c.args.bytes.now);
      front = append_next g.O.Sink.tells g.O.Sink.taken _ _ _ c.args.bytes.now c.loop-done.done c.in_ok-n.n old.front ok;
      left = (let first = old.left in let second = c.in_ok-n.ensures.left in omega (arith, first, second));
      later = omega arith;
    }
