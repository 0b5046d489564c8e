use Rattle.bg_ext.proofs.Words.{Banks, Half, List, Space, ap, arith, get_or, sym, vram_byte, vram_value, ℕ, ◌%◌, ◌*◌, ◌+◌, ◌-◌, ◌<◌, ◌∙◌, ◌≡◌}
use Rattle.ds_base.specs.Numbers.{number_at}

-- a half among bytes that were read from an even address on
pub half_read : (v : Banks) (space : Space) (at k n : ℕ) (bytes : List ℕ) → at % 2 ≡ 0 → 2 * k + 1 < n →
    ((i : ℕ) → i < n → get_or bytes i 0 ≡ vram_byte v space (at + i)) → number_at Half bytes (2 * k) ≡ vram_value v space (at + 2 * k) Half
half_read v space at k n bytes even small read =
    let f : ℕ → ℕ = vram_byte v space in
    let here : ℕ = at + 2 * k in
    let down : here - here % 2 ≡ here = omega (arith, even) in
    let low : get_or bytes (2 * k) 0 ≡ f here = read (2 * k) (omega (arith, small)) in
    let next : at + (2 * k + 1) ≡ here + 1 = omega arith in
    let high : get_or bytes (2 * k + 1) 0 ≡ f (here + 1) = read (2 * k + 1) small ∙ ap f next in
    ap (λ (n : ℕ). n + 256 * get_or bytes (2 * k + 1) 0) low
    ∙ ap (λ (n : ℕ). f here + 256 * n) high
    ∙ sym (ap (λ (n : ℕ). f n + 256 * f (n + 1)) down)
