use Rattle.asm_text.proofs.Words.{◌≡◌, length, name}
use Rattle.asm_text.proofs.reading.names.name.Given as goal

abbrev pub invariant-loop-rest : goal.invariant-loop-rest
invariant-loop-rest l = name l.key l.rest ≡ name 0 l.text

abbrev pub decreases-loop-rest : goal.decreases-loop-rest
decreases-loop-rest l = length l.rest
