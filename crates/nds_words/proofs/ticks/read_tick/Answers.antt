use Rattle.std.proofs.Common.{arith, rules, ◌<◌, ◌≤◌, ◌-◌, slice_index_or}
use Rattle.std.proofs.lemmas.Bool.Decides.{nat_tests}
use Rattle.nds_words.proofs.LoopLaws.{digit_more, digits_room}
use Rattle.nds_words.proofs.ticks.read_tick.Goals as goal

pub loop-count-preserved : goal.loop-count-preserved
loop-count-preserved c =
    let i = c.loop-count.invariant in
    let line = c.args.line.now in
    let count = c.loop-count.count in
    let tick = c.loop-count.tick in
    let low : 48 ≤ slice_index_or line count 0 = first_of (omega arith, grind (arith, nat_tests), search rules) in
    let high : slice_index_or line count 0 ≤ 57 = first_of (omega arith, grind (arith, nat_tests), search rules) in
    let some : 0 < count → 0 < tick = λ p. first_of (grind (arith, c.else-count-eq1.either, i.some), search rules) in
    let room = digits_room tick count (slice_index_or line count 0 - 48) (omega arith) i.in_range (omega arith) in
    record {
      within = omega arith;
      few = omega arith;
      in_range = room.0;
      text = λ h. digit_more line count tick (omega arith) (omega arith) i.in_range i.text some low high;
      some = λ h. (let p = some (omega arith) in omega (arith, p));
    }
