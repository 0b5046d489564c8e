use Rattle.std.proofs.Common.{◌≤◌, ◌+◌, length, take, ◌-◌}
use Rattle.ds_io.specs.Sinks.{Appended}
use Rattle.ds_io.proofs.sinks.put_all.Given as goal

abbrev pub invariant-loop-done : goal.invariant-loop-done
invariant-loop-done g l = record {
  within : l.done ≤ length l.bytes;
  front : Appended g.O.Sink.tells g.O.Sink.taken l.initial.sink l.sink (take l.done l.bytes);
  left : g.O.Sink.room l.initial.sink ≤ g.O.Sink.room l.sink + l.done;
  later : g.O.Sink.faults l.initial.sink ≤ g.O.Sink.faults l.sink;
}

abbrev pub decreases-loop-done : goal.decreases-loop-done
decreases-loop-done g l = length l.bytes - l.done
