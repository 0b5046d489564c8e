use Rattle.std.proofs.Common.{◌≡◌, ◌%◌, ◌++◌, take, sum}
use Rattle.gdb_packets.specs.Packets.{escaped}
use Rattle.gdb_packets.proofs.answers.Answer.put_packet.Given as goal

abbrev pub invariant-loop-byte : goal.invariant-loop-byte
invariant-loop-byte l = record {
  text : l.self ≡ l.initial.self ++ escaped (take l.byte-index l.body);
  total : l.total ≡ sum (escaped (take l.byte-index l.body)) % 256;
}
