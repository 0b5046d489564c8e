use Rattle.std.proofs.Common.{ℕ, ◌≡◌, ap, refl, sym, ◌∙◌, Ok, Some, true, false}
use Rattle.asm_text.specs.Listed.{listed, spelling, number_in}
use Rattle.asm_text.specs.declared.sets.Set.{Set}
use Rattle.asm_text.specs.declared.sets.Set.TheVariants.{Arm, Thumb}
use Rattle.asm_lines.proofs.reading.read_bytes.Goals as goal

number_of_spelling : (set : Set) (word : ℕ) → number_in (spelling set word) ≡ word
number_of_spelling Arm word = refl
number_of_spelling Thumb word = refl

pub returns-in_default-clause-none : goal.returns-in_default-clause-none
returns-in_default-clause-none c word h e =
    c.in_default.not-Some word (c.only_candidate.ensures.own c.args.arch word h e)

pub returns-in_default-clause-own : goal.returns-in_default-clause-own
returns-in_default-clause-own c word h e = absurd (returns-in_default-clause-none c word h e)

-- the text is the statement of the word that was read
pub returns-then-same-clause-found : goal.returns-then-same-clause-found
returns-then-same-clause-found c =
    let n : number_in (spelling c.args.set c.in-Some.word) ≡ c.in-Some.word = number_of_spelling c.args.set c.in-Some.word in
    let text : c.args.text.now ≡ listed c.args.arch c.args.set c.args.at c.in-Some.word = sym (c.if-same.ensures.0 refl) ∙ c.bytes.ensures.text ∙ c.list_word.ensures in
    rw (c.spelling.ensures, n) (c.in-Some.ensures.range, refl, text)

pub returns-then-same-clause-own : goal.returns-then-same-clause-own
returns-then-same-clause-own c word h e =
    let k : c.in-Some.word ≡ word = (let s : Some c.in-Some.word ≡ Some word = sym c.in-Some.is ∙ c.only_candidate.ensures.own c.args.arch word h e in cc) in
    let s = c.spelling.ensures ∙ ap (spelling c.args.set) k in
    ap (λ x. Ok x) s

pub returns-else-same-clause-none : goal.returns-else-same-clause-none
returns-else-same-clause-none c word h e =
    let k : c.in-Some.word ≡ word = (let s : Some c.in-Some.word ≡ Some word = sym c.in-Some.is ∙ c.only_candidate.ensures.own c.args.arch word h e in cc) in
    let same = c.bytes.ensures.text ∙ c.list_word.ensures ∙ ap (listed c.args.arch c.args.set c.args.at) k ∙ sym e in
    let g : false ≡ true = c.if-same.ensures.1 same in
    cc

pub returns-else-same-clause-own : goal.returns-else-same-clause-own
returns-else-same-clause-own c word h e = absurd (returns-else-same-clause-none c word h e)
