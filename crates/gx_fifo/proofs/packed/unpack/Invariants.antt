use Rattle.gx_fifo.proofs.Words.{added_by, bytes_left, length, most_entries, packed_commands, ◌++◌, ◌+◌, ◌≡◌, ◌≤◌}
use Rattle.gx_fifo.proofs.packed.unpack.Given as goal

-- what is left to unpack gives what all gives at the start
abbrev pub invariant-loop-entries : goal.invariant-loop-entries
invariant-loop-entries l = record {
  entries : l.entries ++ added_by l.left ≡ l.initial.entries ++ added_by l.word;
  left : bytes_left l.left ≡ bytes_left l.word;
  room : length l.entries + length (packed_commands l.left) ≤ most_entries;
}

abbrev pub decreases-loop-entries : goal.decreases-loop-entries
decreases-loop-entries l = l.left
