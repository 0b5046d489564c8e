use Rattle.std.proofs.Common.{length, ◌-◌, ◌+◌, ◌≡◌, ◌≤◌, drop}
use Rattle.nds_words.specs.Reader.Names.{common}
use Rattle.nds_words.proofs.names.common.Given as goal

abbrev pub invariant-loop-count : goal.invariant-loop-count
invariant-loop-count l = record {
  piece : l.count ≤ length l.piece;
  text : l.count ≤ length l.text;
  same : l.count + common (drop l.count l.piece) (drop l.count l.text) ≡ common l.piece l.text;
}

abbrev pub decreases-loop-count : goal.decreases-loop-count
decreases-loop-count l = length l.piece - l.count
