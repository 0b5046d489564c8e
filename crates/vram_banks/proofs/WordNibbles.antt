use Rattle.vram_banks.proofs.Words.{Word, ap, arith, nibble_at, suc, value_by, zero, ℕ, ◌%◌, ◌*◌, ◌+◌, ◌/◌, ◌<◌, ◌^◌, ◌∙◌, ◌≡◌}

-- The nibbles of a word are those of its bytes.

of_0 : (b0 b1 b2 b3 : ℕ) → b0 < 256 → b1 < 256 → b2 < 256 → b3 < 256 → (b0 + 256 * b1 + 65536 * b2 + 16777216 * b3) / 1 % 16 ≡ b0 % 16
of_0 b0 b1 b2 b3 h0 h1 h2 h3 = omega (arith, h0, h1, h2, h3)

of_1 : (b0 b1 b2 b3 : ℕ) → b0 < 256 → b1 < 256 → b2 < 256 → b3 < 256 → (b0 + 256 * b1 + 65536 * b2 + 16777216 * b3) / 16 % 16 ≡ b0 / 16
of_1 b0 b1 b2 b3 h0 h1 h2 h3 = omega (arith, h0, h1, h2, h3)

of_2 : (b0 b1 b2 b3 : ℕ) → b0 < 256 → b1 < 256 → b2 < 256 → b3 < 256 → (b0 + 256 * b1 + 65536 * b2 + 16777216 * b3) / 256 % 16 ≡ b1 % 16
of_2 b0 b1 b2 b3 h0 h1 h2 h3 = omega (arith, h0, h1, h2, h3)

of_3 : (b0 b1 b2 b3 : ℕ) → b0 < 256 → b1 < 256 → b2 < 256 → b3 < 256 → (b0 + 256 * b1 + 65536 * b2 + 16777216 * b3) / 4096 % 16 ≡ b1 / 16
of_3 b0 b1 b2 b3 h0 h1 h2 h3 = omega (arith, h0, h1, h2, h3)

of_4 : (b0 b1 b2 b3 : ℕ) → b0 < 256 → b1 < 256 → b2 < 256 → b3 < 256 → (b0 + 256 * b1 + 65536 * b2 + 16777216 * b3) / 65536 % 16 ≡ b2 % 16
of_4 b0 b1 b2 b3 h0 h1 h2 h3 = omega (arith, h0, h1, h2, h3)

of_5 : (b0 b1 b2 b3 : ℕ) → b0 < 256 → b1 < 256 → b2 < 256 → b3 < 256 → (b0 + 256 * b1 + 65536 * b2 + 16777216 * b3) / 1048576 % 16 ≡ b2 / 16
of_5 b0 b1 b2 b3 h0 h1 h2 h3 = omega (arith, h0, h1, h2, h3)

of_6 : (b0 b1 b2 b3 : ℕ) → b0 < 256 → b1 < 256 → b2 < 256 → b3 < 256 → (b0 + 256 * b1 + 65536 * b2 + 16777216 * b3) / 16777216 % 16 ≡ b3 % 16
of_6 b0 b1 b2 b3 h0 h1 h2 h3 = omega (arith, h0, h1, h2, h3)

of_7 : (b0 b1 b2 b3 : ℕ) → b0 < 256 → b1 < 256 → b2 < 256 → b3 < 256 → (b0 + 256 * b1 + 65536 * b2 + 16777216 * b3) / 268435456 % 16 ≡ b3 / 16
of_7 b0 b1 b2 b3 h0 h1 h2 h3 = omega (arith, h0, h1, h2, h3)

pub word_nibble : (f : ℕ → ℕ) (at i : ℕ) → ((k : ℕ) → f k < 256) → i < 8 → value_by Word f at / 2 ^ (4 * i) % 16 ≡ nibble_at i (f (at + i / 2))
word_nibble f at zero small h =
    of_0 (f at) (f (at + 1)) (f (at + 2)) (f (at + 3)) (small at) (small (at + 1)) (small (at + 2)) (small (at + 3))
    ∙ ap (λ (n : ℕ). f n % 16) (let e : at ≡ at + 0 = omega arith in e)
word_nibble f at (suc zero) small h =
    of_1 (f at) (f (at + 1)) (f (at + 2)) (f (at + 3)) (small at) (small (at + 1)) (small (at + 2)) (small (at + 3))
    ∙ ap (λ (n : ℕ). f n / 16) (let e : at ≡ at + 0 = omega arith in e)
word_nibble f at (suc (suc zero)) small h =
    of_2 (f at) (f (at + 1)) (f (at + 2)) (f (at + 3)) (small at) (small (at + 1)) (small (at + 2)) (small (at + 3))
    ∙ ap (λ (n : ℕ). f n % 16) (let e : (at + 1) ≡ at + 1 = omega arith in e)
word_nibble f at (suc (suc (suc zero))) small h =
    of_3 (f at) (f (at + 1)) (f (at + 2)) (f (at + 3)) (small at) (small (at + 1)) (small (at + 2)) (small (at + 3))
    ∙ ap (λ (n : ℕ). f n / 16) (let e : (at + 1) ≡ at + 1 = omega arith in e)
word_nibble f at (suc (suc (suc (suc zero)))) small h =
    of_4 (f at) (f (at + 1)) (f (at + 2)) (f (at + 3)) (small at) (small (at + 1)) (small (at + 2)) (small (at + 3))
    ∙ ap (λ (n : ℕ). f n % 16) (let e : (at + 2) ≡ at + 2 = omega arith in e)
word_nibble f at (suc (suc (suc (suc (suc zero))))) small h =
    of_5 (f at) (f (at + 1)) (f (at + 2)) (f (at + 3)) (small at) (small (at + 1)) (small (at + 2)) (small (at + 3))
    ∙ ap (λ (n : ℕ). f n / 16) (let e : (at + 2) ≡ at + 2 = omega arith in e)
word_nibble f at (suc (suc (suc (suc (suc (suc zero)))))) small h =
    of_6 (f at) (f (at + 1)) (f (at + 2)) (f (at + 3)) (small at) (small (at + 1)) (small (at + 2)) (small (at + 3))
    ∙ ap (λ (n : ℕ). f n % 16) (let e : (at + 3) ≡ at + 3 = omega arith in e)
word_nibble f at (suc (suc (suc (suc (suc (suc (suc zero))))))) small h =
    of_7 (f at) (f (at + 1)) (f (at + 2)) (f (at + 3)) (small at) (small (at + 1)) (small (at + 2)) (small (at + 3))
    ∙ ap (λ (n : ℕ). f n / 16) (let e : (at + 3) ≡ at + 3 = omega arith in e)
word_nibble f at (suc (suc (suc (suc (suc (suc (suc (suc more)))))))) small h = absurd (omega (arith, h))
