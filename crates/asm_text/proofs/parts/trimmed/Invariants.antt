use Rattle.asm_text.proofs.Words.{◌≡◌, ◌≤◌, length, trimmed}
use Rattle.asm_text.proofs.parts.trimmed.Given as goal

abbrev pub invariant-loop-rest : goal.invariant-loop-rest
invariant-loop-rest l = record { same : trimmed l.rest ≡ trimmed l.digits; room : length l.rest ≤ length l.digits }

abbrev pub decreases-loop-rest : goal.decreases-loop-rest
decreases-loop-rest l = length l.rest
