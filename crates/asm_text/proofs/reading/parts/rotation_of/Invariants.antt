use Rattle.asm_text.proofs.Words.{◌≡◌, ◌-◌, rotation_of, rotation_from}
use Rattle.asm_text.proofs.reading.parts.rotation_of.Given as goal

abbrev pub invariant-loop-rotate : goal.invariant-loop-rotate
invariant-loop-rotate l = rotation_from l.n l.rotate (16 - l.rotate) ≡ rotation_of l.n
