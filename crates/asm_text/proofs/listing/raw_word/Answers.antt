use Rattle.std.proofs.Common.{◌++◌, ℕ, List, codes, ap, append_assoc, ◌∙◌}
use Rattle.asm_text.proofs.listing.raw_word.Goals as goal

pub returns : goal.returns
returns c =
    let into = c.args.into.now in
    c.put_bytes.ensures.text
    ∙ ap (λ (l : List ℕ). l ++ c.hex_digits.result) c.put_text.ensures.text
    ∙ append_assoc into (codes ".word 0x") c.hex_digits.result
    ∙ ap (λ (ds : List ℕ). into ++ (codes ".word 0x" ++ ds)) c.hex_digits.ensures
