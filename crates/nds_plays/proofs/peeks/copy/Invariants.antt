use Rattle.nds_plays.proofs.Words.{bytes_at, length, take, ◌≡◌}
use Rattle.nds_plays.proofs.peeks.copy.Given as goal

-- the bytes so far were taken
abbrev pub invariant-loop-i : goal.invariant-loop-i
invariant-loop-i l = record {
  front : take l.i l.into ≡ bytes_at l.memory l.place l.i l.console.machine;
  long : length l.into ≡ length l.initial.into;
}
