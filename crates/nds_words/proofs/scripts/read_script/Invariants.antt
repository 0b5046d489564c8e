use Rattle.std.proofs.Common.{◌≤◌, ◌+◌, length}
use Rattle.nds_words.specs.Scripts.{AreLines}
use Rattle.nds_words.specs.Reader.Scripts.{AreRead}
use Rattle.nds_words.proofs.scripts.read_script.Given as goal

abbrev pub invariant-loop-rest : goal.invariant-loop-rest
invariant-loop-rest l = record {
  good : AreLines l.keys;
  read : AreRead l.bytes l.keys l.rest;
  few : length l.keys + length l.rest ≤ length l.bytes;
}

abbrev pub decreases-loop-rest : goal.decreases-loop-rest
decreases-loop-rest l = length l.rest
