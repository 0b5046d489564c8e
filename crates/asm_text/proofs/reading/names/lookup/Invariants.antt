use Rattle.asm_text.proofs.Words.{◌≡◌, length, lookup}
use Rattle.asm_text.proofs.reading.names.lookup.Given as goal

abbrev pub invariant-loop-rest : goal.invariant-loop-rest
invariant-loop-rest g l = lookup l.key l.rest ≡ lookup l.key l.table

abbrev pub decreases-loop-rest : goal.decreases-loop-rest
decreases-loop-rest g l = length l.rest
