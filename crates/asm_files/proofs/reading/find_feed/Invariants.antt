use Rattle.asm_files.proofs.Words.{[], drop, lines_in, tail_in, take, ◌≡◌}
use Rattle.asm_files.proofs.reading.find_feed.Given as goal

abbrev pub invariant-loop-i : goal.invariant-loop-i
invariant-loop-i l = record {
  lines : lines_in (take l.i l.text) (drop l.i l.text) ≡ lines_in [] l.text;
  tail : tail_in (take l.i l.text) (drop l.i l.text) ≡ tail_in [] l.text;
}
