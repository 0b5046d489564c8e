use Rattle.std.proofs.Common.{◌≤◌, ◌+◌, ◌*◌, take, drop, flat_map}
use Rattle.std.specs.List.{range_with_len}
use Rattle.ds_io.specs.Sinks.{Appended}
use Rattle.nds_records.specs.Lines.{peek_line}
use Rattle.nds_records.proofs.peeks.put_peek.Given as goal

-- the lines so far were written
abbrev pub invariant-loop-line : goal.invariant-loop-line
invariant-loop-line g l = record {
  written : Appended g.O.Sink.tells g.O.Sink.taken l.initial.out l.out
      (flat_map (λ line. peek_line (l.fn.place + 16 * line) (take 16 (drop (16 * line) l.fn.bytes))) (range_with_len 0 l.line));
  later : g.O.Sink.faults l.initial.out ≤ g.O.Sink.faults l.out;
}
