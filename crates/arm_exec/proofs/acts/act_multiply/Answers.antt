use Rattle.arm_exec.proofs.Words.{◌≡◌, [], sym, subst, Instr, act_multiply}
use Rattle.arm_exec.proofs.acts.act_multiply.Goals as goal

pub returns-in-LongMultiply-clause-registers : goal.returns-in-LongMultiply-clause-registers
returns-in-LongMultiply-clause-registers c =
    let P : Instr → Type 0 = λ i. c.long_multiply.new.s ≡ (act_multiply c.args.arch c.args.base c.args.s.now i).after [] in
    subst P (sym c.in-LongMultiply.is) c.long_multiply.ensures.registers
