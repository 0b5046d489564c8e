use Rattle.asm_text.proofs.Words.{ap, ◌∙◌, arith, candidate}
use Rattle.asm_text.proofs.ReadBack.{read_back}
use Rattle.asm_text.proofs.reading.lines.only_candidate.Goals as goal

pub returns-clause-own : goal.returns-clause-own
returns-clause-own c arch word h e = c.candidate.ensures.value ∙ ap (candidate c.args.set c.args.at) e ∙ read_back arch c.args.set c.args.at word (omega arith) h
