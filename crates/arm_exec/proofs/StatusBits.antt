use Rattle.arm_exec.proofs.Words.{ℕ, ◌≡◌, ◌<◌, ◌+◌, ◌*◌, ◌/◌, ◌%◌, ◌^◌, bit_and, Bool, true, false, [], ◌∷◌, refl, sym, ap, subst, ◌∙◌, arith, flag}
use Rattle.arm_exec.proofs.Words.{Arch, V4, V5, kept_status_bits, IsStatus}
use Rattle.std.proofs.Common.{min, bit_or}
use Rattle.std.specs.Int.{bit_at}
use Rattle.std.proofs.lemmas.Nat.{and_assoc, and_comm}
use Rattle.std.proofs.lemmas.Nat.Bits.{bit_at_and, bit_at_or, same_from_bits}
use Rattle.arm_words.proofs.Masks.{masked, part}

-- What makes a number of a status register from others.

-- ---- by bits

-- the bits of one under any mask
pub and_status : (arch : Arch) (x m : ℕ) → IsStatus arch x → IsStatus arch (bit_and x m)
and_status arch x m h =
    let k = kept_status_bits arch in
    and_assoc k x m ∙ ap (λ n. bit_and x n) (and_comm m k) ∙ sym (and_assoc m x k) ∙ ap (λ n. bit_and n m) h

-- the bits of any number under one
pub under_status : (arch : Arch) (x m : ℕ) → IsStatus arch m → IsStatus arch (bit_and x m)
under_status arch x m h = and_assoc (kept_status_bits arch) x m ∙ ap (λ n. bit_and x n) h

-- those of any number under what is kept
pub kept_status : (arch : Arch) (x : ℕ) → IsStatus arch (bit_and x (kept_status_bits arch))
kept_status V4 x = under_status V4 x 0xF00000FF refl
kept_status V5 x = under_status V5 x 0xF80000FF refl

-- the bits of two
pub or_status : (arch : Arch) (x y : ℕ) → IsStatus arch x → IsStatus arch y → IsStatus arch (bit_or x y)
or_status arch x y hx hy = let k = kept_status_bits arch in same_from_bits (bit_and (bit_or x y) k) (bit_or x y) (λ i.
    let a = bit_at_and (bit_or x y) k i in
    let b = bit_at_or x y i in
    let cx : min (bit_at x i) (bit_at k i) ≡ bit_at x i = sym (bit_at_and x k i) ∙ ap (λ n. bit_at n i) hx in
    let cy : min (bit_at y i) (bit_at k i) ≡ bit_at y i = sym (bit_at_and y k i) ∙ ap (λ n. bit_at n i) hy in
    omega (arith, a, b, cx, cy))

-- no bits
pub no_status : (arch : Arch) → IsStatus arch 0
no_status V4 = refl
no_status V5 = refl

-- T alone
pub thumb_status : (arch : Arch) (thumb : Bool) → IsStatus arch (flag 5 thumb)
thumb_status V4 true = refl
thumb_status V4 false = refl
thumb_status V5 true = refl
thumb_status V5 false = refl

-- ---- by fields

v4_fields : (x : ℕ) → bit_and x 0xF00000FF ≡ x / 2 ^ 28 % 2 ^ 4 * 2 ^ 28 + x % 2 ^ 8
v4_fields x = masked x (part 28 4 ∷ (part 0 8 ∷ [])) refl ∙ omega arith

v5_fields : (x : ℕ) → bit_and x 0xF80000FF ≡ x / 2 ^ 27 % 2 ^ 5 * 2 ^ 27 + x % 2 ^ 8
v5_fields x = masked x (part 27 5 ∷ (part 0 8 ∷ [])) refl ∙ omega arith

-- N, Z, C and V are others
pub flags_status : (arch : Arch) (x t : ℕ) → t < 16 → IsStatus arch x → IsStatus arch (x % 2 ^ 28 + t * 2 ^ 28)
flags_status V4 x t low h = let f = v4_fields x in v4_fields (x % 2 ^ 28 + t * 2 ^ 28) ∙ omega (arith, f, h, low)
flags_status V5 x t low h = let f = v5_fields x in v5_fields (x % 2 ^ 28 + t * 2 ^ 28) ∙ omega (arith, f, h, low)

-- N and Z are others
sign_status : (arch : Arch) (x t : ℕ) → t < 4 → IsStatus arch x → IsStatus arch (x % 2 ^ 30 + t * 2 ^ 30)
sign_status V4 x t low h = let f = v4_fields x in v4_fields (x % 2 ^ 30 + t * 2 ^ 30) ∙ omega (arith, f, h, low)
sign_status V5 x t low h = let f = v5_fields x in v5_fields (x % 2 ^ 30 + t * 2 ^ 30) ∙ omega (arith, f, h, low)

-- I is set, T is clear and the mode is another
pub entered_of : (arch : Arch) (x mode : ℕ) → mode < 32 → IsStatus arch x → IsStatus arch (bit_and x 0xFFFFFF40 + 0x80 + mode)
entered_of arch x mode low h = by_arch arch h where
  above : bit_and x 0xFFFFFF40 ≡ x / 2 ^ 8 % 2 ^ 24 * 2 ^ 8 + x / 2 ^ 6 % 2 ^ 1 * 2 ^ 6
  above = masked x (part 8 24 ∷ (part 6 1 ∷ [])) refl ∙ omega arith

  by_arch : (arch : Arch) → IsStatus arch x → IsStatus arch (bit_and x 0xFFFFFF40 + 0x80 + mode)
  by_arch V4 h = let f = v4_fields x in v4_fields (bit_and x 0xFFFFFF40 + 0x80 + mode) ∙ omega (arith, f, h, above, low)
  by_arch V5 h = let f = v5_fields x in v5_fields (bit_and x 0xFFFFFF40 + 0x80 + mode) ∙ omega (arith, f, h, above, low)

-- a flag is 0 or 1 at its place
record FlagAt (b : Bool) : Type 0 where
  low : flag 0 b < 2
  at28 : flag 28 b ≡ flag 0 b * 2 ^ 28
  at29 : flag 29 b ≡ flag 0 b * 2 ^ 29
  at30 : flag 30 b ≡ flag 0 b * 2 ^ 30
  at31 : flag 31 b ≡ flag 0 b * 2 ^ 31

flag_at : (b : Bool) → FlagAt b
flag_at true = record { low = omega arith; at28 = refl; at29 = refl; at30 = refl; at31 = refl }
flag_at false = record { low = omega arith; at28 = refl; at29 = refl; at30 = refl; at31 = refl }

-- after data processing
pub four_flags : (arch : Arch) (x : ℕ) (v c z n : Bool) → IsStatus arch x
    → IsStatus arch (x % 2 ^ 28 + flag 28 v + flag 29 c + flag 30 z + flag 31 n)
four_flags arch x v c z n h =
    let fv = flag_at v in let fc = flag_at c in let fz = flag_at z in let fn = flag_at n in
    let t : ℕ = flag 0 v + flag 0 c * 2 + flag 0 z * 4 + flag 0 n * 8 in
    let low : t < 16 = omega (arith, fv.low, fc.low, fz.low, fn.low) in
    let e : x % 2 ^ 28 + t * 2 ^ 28 ≡ x % 2 ^ 28 + flag 28 v + flag 29 c + flag 30 z + flag 31 n =
    omega (arith, fv.at28, fc.at29, fz.at30, fn.at31) in
    let P : ℕ → Type 0 = λ y. IsStatus arch y in
    subst P e (flags_status arch x t low h)

-- after a multiply
pub two_flags : (arch : Arch) (x : ℕ) (z n : Bool) → IsStatus arch x → IsStatus arch (x % 2 ^ 30 + flag 30 z + flag 31 n)
two_flags arch x z n h =
    let fz = flag_at z in let fn = flag_at n in
    let t : ℕ = flag 0 z + flag 0 n * 2 in
    let low : t < 4 = omega (arith, fz.low, fn.low) in
    let e : x % 2 ^ 30 + t * 2 ^ 30 ≡ x % 2 ^ 30 + flag 30 z + flag 31 n = omega (arith, fz.at30, fn.at31) in
    let P : ℕ → Type 0 = λ y. IsStatus arch y in
    subst P e (sign_status arch x t low h)
