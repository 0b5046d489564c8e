use Rattle.std.proofs.Common.{◌++◌, ℕ, List, codes, ap, append_assoc, ◌∙◌, take, drop}
use Rattle.asm_text.proofs.listing.raw_half.Goals as goal

pub returns : goal.returns
returns c =
    let into = c.args.into.now in
    c.put_bytes.ensures.text
    ∙ ap (λ (l : List ℕ). l ++ take 4 (drop 4 c.hex_digits.result)) c.put_text.ensures.text
    ∙ append_assoc into (codes ".half 0x") (take 4 (drop 4 c.hex_digits.result))
    ∙ ap (λ (ds : List ℕ). into ++ (codes ".half 0x" ++ take 4 (drop 4 ds))) c.hex_digits.ensures
