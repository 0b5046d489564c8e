use Rattle.std.proofs.Common.{length, ◌-◌, ◌≡◌, ◌<◌, ◌≤◌, ◌^◌, take}
use Rattle.std.specs.Fmt.{decimal}
use Rattle.nds_words.proofs.ticks.read_tick.Given as goal

abbrev pub invariant-loop-count : goal.invariant-loop-count
invariant-loop-count l = record {
  within : l.count ≤ length l.line;
  few : l.count ≤ 11;
  in_range : l.tick < 10 ^ l.count;
  text : 0 < l.count → take l.count l.line ≡ decimal l.tick;
  some : 1 < l.count → 0 < l.tick;
}

abbrev pub decreases-loop-count : goal.decreases-loop-count
decreases-loop-count l = length l.line - l.count
