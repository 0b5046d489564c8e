use Rattle.asm_text.proofs.Words.{◌≡◌, ◌-◌, ◌<◌, ◌^◌, members_from, registers_at}
use Rattle.asm_text.proofs.reading.parts.registers_at.Given as goal

abbrev pub invariant-loop : goal.invariant-loop
invariant-loop l = record {
  members : members_from (16 - l.counter) l.sum l.rest ≡ registers_at l.text;
  bits : l.sum < 2 ^ 16;
}
