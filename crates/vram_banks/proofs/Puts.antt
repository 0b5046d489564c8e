use Rattle.vram_banks.proofs.Words.{List, [], ap, arith, length, refl, slice_index, slice_set, suc, zero, ℕ, ◌+◌, ◌∷◌, ◌≡◌, ◌≤◌}
use native.Mathlib.Numerals.{unary_clauses}
use borrow.Rule.Slice.PartMut.{put_mid}

-- Bytes in the place of as many others are each put at its place.
two : (xs ys : List ℕ) (at : ℕ) → length ys ≡ 2 → at + 2 ≤ length xs → put_mid at 2 xs ys ≡ slice_set (slice_set xs at (slice_index ys 0)) (suc at) (slice_index ys 1)
two [] ys at long le = absurd (omega (arith, le))
two (x ∷ []) ys zero long le = absurd (omega (arith, le))
two (x ∷ y ∷ xs) (a ∷ b ∷ []) zero long le = refl
two (x ∷ y ∷ xs) [] zero long le = absurd (omega (arith, long))
two (x ∷ y ∷ xs) (a ∷ []) zero long le = absurd (omega (arith, long))
two (x ∷ y ∷ xs) (a ∷ b ∷ c ∷ ys) zero long le = absurd (omega (arith, long))
two (x ∷ xs) ys (suc at) long le = ap (λ (zs : List ℕ). x ∷ zs) (two xs ys at long (omega (arith, le)))

four : (xs ys : List ℕ) (at : ℕ) → length ys ≡ 4 → at + 4 ≤ length xs
    → put_mid at 4 xs ys ≡ slice_set (slice_set (slice_set (slice_set xs at (slice_index ys 0)) (suc at) (slice_index ys 1)) (suc (suc at)) (slice_index ys 2)) (suc (suc (suc at))) (slice_index ys 3)
four [] ys at long le = absurd (omega (arith, le))
four (x ∷ []) ys zero long le = absurd (omega (arith, le))
four (x ∷ y ∷ []) ys zero long le = absurd (omega (arith, le))
four (x ∷ y ∷ z ∷ []) ys zero long le = absurd (omega (arith, le))
four (x ∷ y ∷ z ∷ w ∷ xs) (a ∷ b ∷ c ∷ d ∷ []) zero long le = refl
four (x ∷ y ∷ z ∷ w ∷ xs) [] zero long le = absurd (omega (arith, long))
four (x ∷ y ∷ z ∷ w ∷ xs) (a ∷ []) zero long le = absurd (omega (arith, long))
four (x ∷ y ∷ z ∷ w ∷ xs) (a ∷ b ∷ []) zero long le = absurd (omega (arith, long))
four (x ∷ y ∷ z ∷ w ∷ xs) (a ∷ b ∷ c ∷ []) zero long le = absurd (omega (arith, long))
four (x ∷ y ∷ z ∷ w ∷ xs) (a ∷ b ∷ c ∷ d ∷ e ∷ ys) zero long le = absurd (omega (arith, long))
four (x ∷ xs) ys (suc at) long le = ap (λ (zs : List ℕ). x ∷ zs) (four xs ys at long (omega (arith, le)))

pub two_put : (xs ys zs : List ℕ) (at n : ℕ) → ys ≡ zs → length zs ≡ 2 → n ≡ 2 → at + 2 ≤ length xs
    → put_mid at n xs ys ≡ slice_set (slice_set xs at (slice_index zs 0)) (at + 1) (slice_index zs 1)
two_put xs ys zs at n same long e le = rw (same, e) (simp unary_clauses (two xs zs at long le))

pub four_put : (xs ys zs : List ℕ) (at n : ℕ) → ys ≡ zs → length zs ≡ 4 → n ≡ 4 → at + 4 ≤ length xs
    → put_mid at n xs ys ≡ slice_set (slice_set (slice_set (slice_set xs at (slice_index zs 0)) (at + 1) (slice_index zs 1)) (at + 2) (slice_index zs 2)) (at + 3) (slice_index zs 3)
four_put xs ys zs at n same long e le = rw (same, e) (simp unary_clauses (four xs zs at long le))
