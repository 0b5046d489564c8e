use Rattle.asm_text.proofs.Words.{◌≡◌, length, numeral}
use Rattle.asm_text.proofs.reading.parts.numeral.Given as goal

abbrev pub invariant-loop-rest : goal.invariant-loop-rest
invariant-loop-rest l = numeral l.n l.rest ≡ numeral 0 l.text

abbrev pub decreases-loop-rest : goal.decreases-loop-rest
decreases-loop-rest l = length l.rest
