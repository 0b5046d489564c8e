use Rattle.arm_exec.proofs.Words.{◌≡◌, [], sym, subst, Instr, enhanced_meaning}
use Rattle.arm_exec.proofs.enhanced.enhanced.Goals as goal

pub returns-in-Smlal-clause-registers : goal.returns-in-Smlal-clause-registers
returns-in-Smlal-clause-registers c =
    let P : Instr → Type 0 = λ i. c.half_long.new.s ≡ (enhanced_meaning c.args.arch c.args.base c.args.s.now i).after [] in
    subst P (sym c.in-Smlal.is) c.half_long.ensures.registers
