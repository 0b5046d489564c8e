use Rattle.asm_text.proofs.Words.{ℕ, List, ◌≡◌, ◌%◌, ◌^◌, ap, sym, ◌∙◌, true, false, hex_at, listed_byte_at, raw_byte}
use Rattle.asm_text.proofs.StartLaws.{byte_line_again}
use Rattle.asm_text.proofs.starts.read_byte.Goals as goal

pub returns-else-same-clause-own : goal.returns-else-same-clause-own
returns-else-same-clause-own c b h e =
    let k : c.hex_at-number.result.0 % 2 ^ 8 ≡ b = ap (λ (n : ℕ). n % 2 ^ 8) (c.hex_at-number.ensures.value ∙ ap (λ (l : List ℕ). (hex_at l).0) c.past.ensures) ∙ ap listed_byte_at e ∙ byte_line_again b h in
    let same = c.bytes.ensures.text ∙ c.list_byte.ensures ∙ ap raw_byte k ∙ sym e in
    let g : false ≡ true = c.if-same.ensures.1 same in
    absurd cc
