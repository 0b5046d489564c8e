use Rattle.std.proofs.Common.{ℕ, List, ◌++◌, Option, sym, ◌∙◌, ap}
use Rattle.arm_words.specs.Canonical.{canonical}
use Rattle.arm_words.specs.declared.instructions.Instr.{Instr}
use Rattle.arm_words.specs.declared.spellings.Spelling.{Spelling}
use Rattle.asm_text.specs.Listed.{raw, spelling}
use Rattle.asm_text.specs.Statements.{statement}
use Rattle.asm_text.proofs.UnreadBits.{listed_is, spelled_line}
use Rattle.asm_lines.proofs.listing.list_word.Goals as goal

pub returns-in-Some : goal.returns-in-Some
returns-in-Some c =
    let s = spelling c.args.set c.args.word in
    let found = ap (λ (x : Spelling). canonical c.args.arch x) (sym c.spelling-spelling.ensures) ∙ sym c.canonical.ensures.test ∙ c.in-Some.is in
    c.statement.ensures ∙ ap (λ (line : List ℕ). line ++ statement c.args.at c.in-Some.instr) c.clear.ensures
    ∙ sym (listed_is c.args.arch c.args.set c.args.at c.args.word c.requires ∙ ap (λ (o : Option Instr). spelled_line c.args.at s o) found)

pub returns-in-None : goal.returns-in-None
returns-in-None c =
    let s = spelling c.args.set c.args.word in
    let found = ap (λ (x : Spelling). canonical c.args.arch x) (sym c.spelling-spelling.ensures) ∙ sym c.canonical.ensures.test ∙ c.in-None.is in
    c.raw.ensures ∙ ap (λ (line : List ℕ). line ++ raw c.spelling-spelling.result) c.clear.ensures ∙ ap raw c.spelling-spelling.ensures
    ∙ sym (listed_is c.args.arch c.args.set c.args.at c.args.word c.requires ∙ ap (λ (o : Option Instr). spelled_line c.args.at s o) found)
