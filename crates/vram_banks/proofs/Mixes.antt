use Rattle.vram_banks.proofs.Words.{Bool, Byte, Half, List, Width, Word, [], add-zero, ap, arith, drop, false, if◌then◌else◌, length, length-set}
use Rattle.vram_banks.proofs.Words.{mixed, number_at, refl, slice_index, slice_set, subst, suc, sym, true, width_bytes, with_number, zero, ℕ, ◌%◌}
use Rattle.vram_banks.proofs.Words.{◌+◌, ◌/◌, ◌<◌, ◌∙◌, ◌∷◌, ◌≡◌}

-- ---- one byte of a list that two owners share

pub mixed_length : (own : ℕ → Bool) (xs ys : List ℕ) → length (mixed own xs ys) ≡ length xs
unfolding mixed
mixed_length own [] ys = refl
mixed_length own (x ∷ xs) ys = ap suc (mixed_length (λ i. own (suc i)) xs (drop 1 ys))

-- what is read at an owner's place is his; past the end it is 0
pub mixed_own : (own : ℕ → Bool) (xs ys : List ℕ) (i : ℕ) → own i ≡ true → slice_index (mixed own xs ys) i ≡ slice_index xs i
unfolding mixed
mixed_own own [] ys i h = refl
mixed_own own (x ∷ xs) ys zero h = rw h refl
mixed_own own (x ∷ xs) ys (suc i) h = mixed_own (λ k. own (suc k)) xs (drop 1 ys) i h

pub mixed_other : (own : ℕ → Bool) (xs ys : List ℕ) (i : ℕ) → length xs ≡ length ys → own i ≡ false → slice_index (mixed own xs ys) i ≡ slice_index ys i
unfolding mixed
mixed_other own [] [] i e h = refl
mixed_other own [] (y ∷ ys) i e h = absurd (omega arith)
mixed_other own (x ∷ xs) [] i e h = absurd (omega arith)
mixed_other own (x ∷ xs) (y ∷ ys) zero e h = rw h refl
mixed_other own (x ∷ xs) (y ∷ ys) (suc i) e h = mixed_other (λ k. own (suc k)) xs ys i (omega arith) h

-- what is written at an owner's place is his
pub mixed_set_own : (own : ℕ → Bool) (xs ys : List ℕ) (i value : ℕ) → own i ≡ true → slice_set (mixed own xs ys) i value ≡ mixed own (slice_set xs i value) ys
unfolding mixed
mixed_set_own own [] ys i value h = refl
mixed_set_own own (x ∷ xs) ys zero value h = rw h refl
mixed_set_own own (x ∷ xs) ys (suc i) value h =
    ap (λ (t : List ℕ). (if own 0 then x else slice_index ys 0) ∷ t) (mixed_set_own (λ k. own (suc k)) xs (drop 1 ys) i value h)

pub mixed_set_other : (own : ℕ → Bool) (xs ys : List ℕ) (i value : ℕ) → length xs ≡ length ys → own i ≡ false →
    slice_set (mixed own xs ys) i value ≡ mixed own xs (slice_set ys i value)
unfolding mixed
mixed_set_other own [] ys i value e h = refl
mixed_set_other own (x ∷ xs) [] i value e h = absurd (omega arith)
mixed_set_other own (x ∷ xs) (y ∷ ys) zero value e h = rw h refl
mixed_set_other own (x ∷ xs) (y ∷ ys) (suc i) value e h =
    ap (λ (t : List ℕ). (if own 0 then x else y) ∷ t) (mixed_set_other (λ k. own (suc k)) xs ys i value (omega arith) h)

-- one owner's bytes put into the same bytes change nothing; put twice, the first others count for nothing
either : (b : Bool) (x : ℕ) → (if b then x else x) ≡ x
either true x = refl
either false x = refl

first_twice : (b : Bool) (x y z : ℕ) → (if b then (if b then x else y) else z) ≡ (if b then x else z)
first_twice true x y z = refl
first_twice false x y z = refl

pub mixed_same : (own : ℕ → Bool) (xs : List ℕ) → mixed own xs xs ≡ xs
unfolding mixed
mixed_same own [] = refl
mixed_same own (x ∷ xs) = ap (λ (y : ℕ). y ∷ mixed (λ i. own (suc i)) xs xs) (either (own 0) x) ∙ ap (λ (t : List ℕ). x ∷ t) (mixed_same (λ i. own (suc i)) xs)

pub mixed_twice : (own : ℕ → Bool) (xs ys zs : List ℕ) → mixed own (mixed own xs ys) zs ≡ mixed own xs zs
unfolding mixed
mixed_twice own [] ys zs = refl
mixed_twice own (x ∷ xs) ys zs =
    ap (λ (y : ℕ). y ∷ mixed (λ i. own (suc i)) (mixed (λ i. own (suc i)) xs (drop 1 ys)) (drop 1 zs)) (first_twice (own 0) x (slice_index ys 0) (slice_index zs 0))
    ∙ ap (λ (t : List ℕ). (if own 0 then x else slice_index zs 0) ∷ t) (mixed_twice (λ i. own (suc i)) xs (drop 1 ys) (drop 1 zs))

-- ---- an access of a width, all of whose bytes have one owner

-- so it is of each byte of an access
abbrev pub IsAll : (ℕ → Bool) → Bool → Width → ℕ → Type 0
IsAll is b width at = (k : ℕ) → k < width_bytes width → is (at + k) ≡ b

first_of : (is : ℕ → Bool) (b : Bool) (at : ℕ) → is (at + 0) ≡ b → is at ≡ b
first_of is b at h = (let P : ℕ → Type 0 = λ i. is i ≡ b in subst P (add-zero at) h)

pub number_own : (own : ℕ → Bool) (xs ys : List ℕ) (width : Width) (at : ℕ) → IsAll own true width at → number_at width (mixed own xs ys) at ≡ number_at width xs at
number_own own xs ys Byte at h = mixed_own own xs ys at (first_of own true at (h 0 (omega arith)))
number_own own xs ys Half at h =
    rw (mixed_own own xs ys at (first_of own true at (h 0 (omega arith))), mixed_own own xs ys (at + 1) (h 1 (omega arith))) refl
number_own own xs ys Word at h =
    rw (
      mixed_own own xs ys at (first_of own true at (h 0 (omega arith))),
      mixed_own own xs ys (at + 1) (h 1 (omega arith)),
      mixed_own own xs ys (at + 2) (h 2 (omega arith)),
      mixed_own own xs ys (at + 3) (h 3 (omega arith)),
    ) refl

pub number_other : (own : ℕ → Bool) (xs ys : List ℕ) (width : Width) (at : ℕ) → length xs ≡ length ys → IsAll own false width at →
    number_at width (mixed own xs ys) at ≡ number_at width ys at
number_other own xs ys Byte at e h = mixed_other own xs ys at e (first_of own false at (h 0 (omega arith)))
number_other own xs ys Half at e h =
    rw (mixed_other own xs ys at e (first_of own false at (h 0 (omega arith))), mixed_other own xs ys (at + 1) e (h 1 (omega arith))) refl
number_other own xs ys Word at e h =
    rw (
      mixed_other own xs ys at e (first_of own false at (h 0 (omega arith))),
      mixed_other own xs ys (at + 1) e (h 1 (omega arith)),
      mixed_other own xs ys (at + 2) e (h 2 (omega arith)),
      mixed_other own xs ys (at + 3) e (h 3 (omega arith)),
    ) refl

pub with_number_own : (own : ℕ → Bool) (xs ys : List ℕ) (width : Width) (at value : ℕ) → IsAll own true width at →
    with_number width (mixed own xs ys) at value ≡ mixed own (with_number width xs at value) ys
with_number_own own xs ys Byte at value h = mixed_set_own own xs ys at (value % 256) (first_of own true at (h 0 (omega arith)))
with_number_own own xs ys Half at value h =
    let x0 : List ℕ = slice_set xs at (value % 256) in
    ap (λ (b : List ℕ). slice_set b (at + 1) (value / 256 % 256)) (mixed_set_own own xs ys at (value % 256) (first_of own true at (h 0 (omega arith))))
    ∙ mixed_set_own own x0 ys (at + 1) (value / 256 % 256) (h 1 (omega arith))
with_number_own own xs ys Word at value h =
    let x0 : List ℕ = slice_set xs at (value % 256) in
    let x1 : List ℕ = slice_set x0 (at + 1) (value / 256 % 256) in
    let x2 : List ℕ = slice_set x1 (at + 2) (value / 65536 % 256) in
    ap (λ (b : List ℕ). slice_set (slice_set (slice_set b (at + 1) (value / 256 % 256)) (at + 2) (value / 65536 % 256)) (at + 3) (value / 16777216 % 256))
    (mixed_set_own own xs ys at (value % 256) (first_of own true at (h 0 (omega arith))))
    ∙ ap (λ (b : List ℕ). slice_set (slice_set b (at + 2) (value / 65536 % 256)) (at + 3) (value / 16777216 % 256))
    (mixed_set_own own x0 ys (at + 1) (value / 256 % 256) (h 1 (omega arith)))
    ∙ ap (λ (b : List ℕ). slice_set b (at + 3) (value / 16777216 % 256)) (mixed_set_own own x1 ys (at + 2) (value / 65536 % 256) (h 2 (omega arith)))
    ∙ mixed_set_own own x2 ys (at + 3) (value / 16777216 % 256) (h 3 (omega arith))

pub with_number_other : (own : ℕ → Bool) (xs ys : List ℕ) (width : Width) (at value : ℕ) → length xs ≡ length ys → IsAll own false width at →
    with_number width (mixed own xs ys) at value ≡ mixed own xs (with_number width ys at value)
with_number_other own xs ys Byte at value e h = mixed_set_other own xs ys at (value % 256) e (first_of own false at (h 0 (omega arith)))
with_number_other own xs ys Half at value e h =
    let y0 : List ℕ = slice_set ys at (value % 256) in
    let e0 : length xs ≡ length y0 = e ∙ sym (length-set ys at (value % 256)) in
    ap (λ (b : List ℕ). slice_set b (at + 1) (value / 256 % 256)) (mixed_set_other own xs ys at (value % 256) e (first_of own false at (h 0 (omega arith))))
    ∙ mixed_set_other own xs y0 (at + 1) (value / 256 % 256) e0 (h 1 (omega arith))
with_number_other own xs ys Word at value e h =
    let y0 : List ℕ = slice_set ys at (value % 256) in
    let y1 : List ℕ = slice_set y0 (at + 1) (value / 256 % 256) in
    let y2 : List ℕ = slice_set y1 (at + 2) (value / 65536 % 256) in
    let e0 : length xs ≡ length y0 = e ∙ sym (length-set ys at (value % 256)) in
    let e1 : length xs ≡ length y1 = e0 ∙ sym (length-set y0 (at + 1) (value / 256 % 256)) in
    let e2 : length xs ≡ length y2 = e1 ∙ sym (length-set y1 (at + 2) (value / 65536 % 256)) in
    ap (λ (b : List ℕ). slice_set (slice_set (slice_set b (at + 1) (value / 256 % 256)) (at + 2) (value / 65536 % 256)) (at + 3) (value / 16777216 % 256))
    (mixed_set_other own xs ys at (value % 256) e (first_of own false at (h 0 (omega arith))))
    ∙ ap (λ (b : List ℕ). slice_set (slice_set b (at + 2) (value / 65536 % 256)) (at + 3) (value / 16777216 % 256))
    (mixed_set_other own xs y0 (at + 1) (value / 256 % 256) e0 (h 1 (omega arith)))
    ∙ ap (λ (b : List ℕ). slice_set b (at + 3) (value / 16777216 % 256)) (mixed_set_other own xs y1 (at + 2) (value / 65536 % 256) e1 (h 2 (omega arith)))
    ∙ mixed_set_other own xs y2 (at + 3) (value / 16777216 % 256) e2 (h 3 (omega arith))

-- a number that is written leaves as many bytes
pub with_number_length : (width : Width) (xs : List ℕ) (at value : ℕ) → length (with_number width xs at value) ≡ length xs
with_number_length Byte xs at value = length-set xs at (value % 256)
with_number_length Half xs at value =
    let x0 : List ℕ = slice_set xs at (value % 256) in
    length-set x0 (at + 1) (value / 256 % 256) ∙ length-set xs at (value % 256)
with_number_length Word xs at value =
    let x0 : List ℕ = slice_set xs at (value % 256) in
    let x1 : List ℕ = slice_set x0 (at + 1) (value / 256 % 256) in
    let x2 : List ℕ = slice_set x1 (at + 2) (value / 65536 % 256) in
    length-set x2 (at + 3) (value / 16777216 % 256) ∙ length-set x1 (at + 2) (value / 65536 % 256)
    ∙ length-set x0 (at + 1) (value / 256 % 256) ∙ length-set xs at (value % 256)
