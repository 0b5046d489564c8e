use Rattle.std.proofs.Common.{length, ◌-◌, ◌≤◌, take}
use Rattle.ds_base.specs.Texts.{HasNoFeed}
use Rattle.nds_words.proofs.lines.first_line.Given as goal

abbrev pub invariant-loop-end : goal.invariant-loop-end
invariant-loop-end l = record {
  within : l.end ≤ length l.text;
  plain : HasNoFeed (take l.end l.text);
}

abbrev pub decreases-loop-end : goal.decreases-loop-end
decreases-loop-end l = length l.text - l.end
