use Rattle.std.proofs.Common.{length, take, ◌-◌, ◌≡◌, ◌*◌, ◌≤◌}
use Rattle.line_lanes.specs.Nibbles.{nibbles}
use Rattle.line_lanes.proofs.nibbles.unpack4.Given as goal

abbrev pub invariant-sixteens : goal.invariant-sixteens
invariant-sixteens l = record {
  within : l.at ≤ length l.bytes;
  same : length l.into ≡ 2 * length l.bytes;
  done : take (2 * l.at) l.into ≡ nibbles (take l.at l.bytes);
}

abbrev pub decreases-sixteens : goal.decreases-sixteens
decreases-sixteens l = length l.bytes - l.at

abbrev pub invariant-rest : goal.invariant-rest
invariant-rest l = record {
  within : l.at ≤ length l.bytes;
  same : length l.into ≡ 2 * length l.bytes;
  done : take (2 * l.at) l.into ≡ nibbles (take l.at l.bytes);
}

abbrev pub decreases-rest : goal.decreases-rest
decreases-rest l = length l.bytes - l.at
