use Rattle.std.proofs.Common.{ℕ, zero, suc, ◌≡◌, ◌≤◌, ◌<◌, ◌+◌, ◌-◌, ◌*◌, List, [], ◌∷◌, ◌++◌, length, take, drop, flat_map, min, sym, ◌∙◌, ap, arith, append-nil}
use Rattle.std.specs.List.{range_with_len}
use Rattle.std.proofs.lemmas.List.Concat.{flat_map-append}
use Rattle.std.proofs.lemmas.List.{take_min, length-drop}
use Rattle.nds_records.specs.Lines.{peek_line}

-- Lines one after another.

-- a front of some numbers, and those after it
range_split : (a m k : ℕ) → range_with_len a (m + k) ≡ range_with_len a m ++ range_with_len (a + m) k
range_split a zero k =
    let e : 0 + k ≡ k = omega arith in
    let f : a ≡ a + 0 = omega arith in
    ap (range_with_len a) e ∙ ap (λ (b : ℕ). range_with_len b k) f
range_split a (suc m) k =
    let e : suc m + k ≡ suc (m + k) = omega arith in
    let f : (a + 1) + m ≡ a + suc m = omega arith in
    ap (λ (n : ℕ). range_with_len a n) e ∙ ap (λ (rest : List ℕ). a ∷ rest) (range_split (a + 1) m k ∙ ap (λ (b : ℕ). range_with_len (a + 1) m ++ range_with_len b k) f)

-- the line of a number
abbrev pub line_at : ℕ → List ℕ → ℕ → List ℕ
line_at place bytes line = peek_line (place + 16 * line) (take 16 (drop (16 * line) bytes))

-- the lines so far, and the next
pub lines_more : (place : ℕ) (bytes : List ℕ) (n : ℕ) → flat_map (line_at place bytes) (range_with_len 0 n) ++ line_at place bytes n ≡ flat_map (line_at place bytes) (range_with_len 0 (n + 1))
lines_more place bytes n =
    let f = line_at place bytes in
    let z : 0 + n ≡ n = omega arith in
    let last : range_with_len (0 + n) 1 ≡ n ∷ [] = ap (λ (b : ℕ). b ∷ []) z in
    sym (ap (flat_map f) (range_split 0 n 1) ∙ flat_map-append f (range_with_len 0 n) (range_with_len (0 + n) 1)
    ∙ ap (λ (x : List ℕ). flat_map f (range_with_len 0 n) ++ flat_map f x) last ∙ ap (λ (x : List ℕ). flat_map f (range_with_len 0 n) ++ x) (append-nil (f n)))

-- and those after it
pub lines_split : (place : ℕ) (bytes : List ℕ) (n all : ℕ) → n < all → (flat_map (line_at place bytes) (range_with_len 0 n) ++ line_at place bytes n)
    ++ flat_map (line_at place bytes) (range_with_len (n + 1) (all - (n + 1))) ≡ flat_map (line_at place bytes) (range_with_len 0 all)
lines_split place bytes n all lt =
    let e : (n + 1) + (all - (n + 1)) ≡ all = omega (arith, lt) in
    let z : n + 1 ≡ 0 + (n + 1) = omega arith in
    let rest : List ℕ = flat_map (line_at place bytes) (range_with_len (n + 1) (all - (n + 1))) in
    ap (λ (x : List ℕ). x ++ rest) (lines_more place bytes n)
    ∙ ap (λ (b : ℕ). flat_map (line_at place bytes) (range_with_len 0 (n + 1)) ++ flat_map (line_at place bytes) (range_with_len b (all - (n + 1)))) z
    ∙ sym (flat_map-append (line_at place bytes) (range_with_len 0 (n + 1)) (range_with_len (0 + (n + 1)) (all - (n + 1))))
    ∙ ap (flat_map (line_at place bytes)) (sym (range_split 0 (n + 1) (all - (n + 1))) ∙ ap (range_with_len 0) e)

-- a line's bytes, as they are lent
pub line_lent : (bytes : List ℕ) (from to : ℕ) → from ≤ length bytes → to ≡ min (length bytes) (from + 16) → take (to - from) (drop from bytes) ≡ take 16 (drop from bytes)
line_lent bytes from to inside e =
    let long : length (drop from bytes) ≡ length bytes - from = length-drop from bytes in
    let n : to - from ≡ min 16 (length (drop from bytes)) = omega (arith, e, long, inside) in
    ap (λ (k : ℕ). take k (drop from bytes)) n ∙ take_min 16 (drop from bytes)
