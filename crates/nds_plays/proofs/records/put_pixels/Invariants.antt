use Rattle.nds_plays.proofs.Words.{Appended, halves, take, ◌*◌, ◌≤◌}
use Rattle.nds_plays.proofs.records.put_pixels.Given as goal

-- the rows so far were written
abbrev pub invariant-loop-row : goal.invariant-loop-row
invariant-loop-row g l = record {
  written : Appended g.O.Sink.tells g.O.Sink.taken l.initial.out l.out (halves (take (256 * l.row) l.pixels));
  later : g.O.Sink.faults l.initial.out ≤ g.O.Sink.faults l.out;
}
