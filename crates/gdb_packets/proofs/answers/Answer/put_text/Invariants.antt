use Rattle.std.proofs.Common.{◌≡◌, ◌++◌, take}
use Rattle.gdb_packets.specs.Packets.{digits_of}
use Rattle.gdb_packets.proofs.answers.Answer.put_text.Given as goal

abbrev pub invariant-loop-byte : goal.invariant-loop-byte
invariant-loop-byte l = l.self ≡ l.initial.self ++ digits_of (take l.byte-index l.text)
