use Rattle.std.proofs.Common.{false, true, sym, subst}
use Rattle.arm_core.specs.FootprintLaws.{AreAsTold, GoesOver}
use Rattle.arm_core.specs.Meanings.{act}
use Rattle.arm_core.specs.Transfers.{word_or_byte_meaning}
use Rattle.arm_core.specs.declared.addresses.Addressed.{Addressed}
use Rattle.arm_words.specs.declared.instructions.Instr.{Instr}
use Rattle.arm_core.proofs.touches.act_reach.Goals as goal

pub returns-in-ThumbLoadLiteral-clause-over : goal.returns-in-ThumbLoadLiteral-clause-over
returns-in-ThumbLoadLiteral-clause-over c = λ base.
    let a = c.args in
    let r = c.word_or_byte_reach-in-ThumbLoadLiteral in
    let rd = c.in-ThumbLoadLiteral.rd in
    subst (λ (i : Instr). GoesOver r.result.touch (act a.arch base a.s.now i).accesses) (sym c.in-ThumbLoadLiteral.is)
    (subst (λ (to : Addressed). GoesOver r.result.touch (word_or_byte_meaning a.arch a.s.now true false 15 rd to).accesses) c.addressed_literal.ensures
    (r.ensures.over a.arch a.s.now 15 rd))

pub returns-in-ThumbLoadLiteral-clause-told : goal.returns-in-ThumbLoadLiteral-clause-told
returns-in-ThumbLoadLiteral-clause-told c = λ base.
    let a = c.args in
    let r = c.word_or_byte_reach-in-ThumbLoadLiteral in
    let rd = c.in-ThumbLoadLiteral.rd in
    subst (λ (i : Instr). AreAsTold r.result.reads r.result.writes (act a.arch base a.s.now i).accesses) (sym c.in-ThumbLoadLiteral.is)
    (subst (λ (to : Addressed). AreAsTold r.result.reads r.result.writes (word_or_byte_meaning a.arch a.s.now true false 15 rd to).accesses) c.addressed_literal.ensures
    (r.ensures.told a.arch a.s.now 15 rd))
