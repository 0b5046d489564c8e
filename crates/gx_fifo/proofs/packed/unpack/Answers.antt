use Rattle.gx_fifo.proofs.Words.{arith, false, stops_at, sym, true, ◌<◌, ◌^◌, ◌∙◌, ◌≡◌}
use Rattle.gx_fifo.proofs.Unpacks.{passes, passes_left, room_rest, stops, stops_left}
use Rattle.gx_fifo.proofs.packed.unpack.Goals as goal

pub loop-entries-preserved : goal.loop-entries-preserved
loop-entries-preserved c =
    let w = c.loop-entries.left in
    let small : c.loop-entries.left < 2 ^ 32 = omega (arith, c.loop-entries.auto.left-fits) in
    let on : stops_at c.loop-entries.left ≡ false = sym c.stops_at.ensures ∙ c.loop-entries-test.true in
    record {
      entries = rw c.add_first.ensures (passes w c.loop-entries.entries small on ∙ c.loop-entries.invariant.entries);
      left = passes_left w small on ∙ c.loop-entries.invariant.left;
      room = rw c.add_first.ensures (room_rest w c.loop-entries.entries _ small c.loop-entries.invariant.room);
    }

pub returns-clause-entries : goal.returns-clause-entries
returns-clause-entries c =
    let w = c.loop-entries.left in
    let small : c.loop-entries.left < 2 ^ 32 = omega (arith, c.loop-entries.auto.left-fits) in
    let ends : stops_at c.loop-entries.left ≡ true = sym c.stops_at.ensures ∙ c.loop-entries-test.false in
    sym (stops w c.loop-entries.entries small ends) ∙ c.loop-entries.invariant.entries

pub returns-clause-left : goal.returns-clause-left
returns-clause-left c =
    let w = c.loop-entries.left in
    let small : c.loop-entries.left < 2 ^ 32 = omega (arith, c.loop-entries.auto.left-fits) in
    let ends : stops_at c.loop-entries.left ≡ true = sym c.stops_at.ensures ∙ c.loop-entries-test.false in
    sym (stops_left w small ends) ∙ c.loop-entries.invariant.left
