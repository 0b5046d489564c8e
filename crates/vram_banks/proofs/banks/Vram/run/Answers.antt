use Rattle.vram_banks.proofs.Words.{Banks, List, ap, arith, get_or, or_at, origin_of, space_size, subst, sym, ℕ, ◌%◌, ◌+◌, ◌-◌, ◌<◌, ◌∙◌, ◌≡◌}
use Rattle.vram_banks.proofs.CellLemmas.{run_byte, in_rest}
use Rattle.vram_banks.proofs.SetLaws.{byte_flat}
use Rattle.vram_banks.proofs.banks.Vram.run.Goals as goal

pub returns : goal.returns
returns c = λ i lt.
    let v = c.self.inside in
    let a = c.args in
    let run = c.run-run.result in
    let long = c.part.ensures.long in
    let less = c.min.ensures in
    let rest = c.rest_of.ensures in
    let most = c.run-run.ensures.most in
    let within : i < run.size = omega (arith, long, lt) in
    let inside : i < space_size a.space - a.at % space_size a.space = omega (arith, within, most, less, rest) in
    let place : c.flat.result + i ≡ origin_of a.space + (a.at + i) % space_size a.space =
    ap (λ (x : ℕ). x + i) c.flat.ensures.value
    ∙ (let e = in_rest a.space a.at i inside in omega (arith, e)) in
    let P : Banks → Type 0 = λ s. get_or c.part.result.now i 0 ≡ or_at s.controls s.bytes (c.flat.result + i) in
    subst P c.self.view_is
    (ap (λ (row : List ℕ). get_or row i 0) c.part.ensures.value ∙ run_byte v.map v.cells c.flat.result run i c.run-run.ensures.run within)
    ∙ ap (or_at a.self.now.controls a.self.now.bytes) place
    ∙ sym (byte_flat a.self.now a.space (a.at + i))
