use Rattle.std.proofs.Common.{arith}
use Rattle.nds_words.proofs.Peeked.{past_the_end, small_memory}
use Rattle.nds_words.proofs.reading.peek_of.Goals as goal

pub returns-then-size-place-clause-none : goal.returns-then-size-place-clause-none
returns-then-size-place-clause-none c =
    let bound = small_memory c.in_ok-memory.memory in
    past_the_end c.args.cart.now c.args.keys.now c.args.ticks.now c.args.memory.now c.args.place.now c.args.count.now c.in_ok-memory.memory c.in_ok-place.place c.in_ok-count.count
    c.in_ok-memory.ensures.some c.in_ok-place.ensures.some.0 c.in_ok-count.ensures.some.0
    (omega (arith, bound, c.in_ok-place.ensures.some.2, c.size-size.ensures)) (omega (arith, c.in_ok-count.ensures.some.2)) (omega (arith, c.if-size-place.true, c.size-size.ensures))
