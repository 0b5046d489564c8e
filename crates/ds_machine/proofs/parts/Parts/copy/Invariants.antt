use Rattle.ds_machine.proofs.Words.{copied, drop, ◌+◌, ◌≡◌}
use Rattle.ds_machine.proofs.parts.Parts.copy.Given as goal

-- what is left, copied from here on, gives what all gives from the start
abbrev pub invariant-loop-i : goal.invariant-loop-i
invariant-loop-i l = copied l.proc l.self (l.at + l.i) (drop l.i l.bytes) ≡ copied l.proc l.initial.self l.at l.bytes
