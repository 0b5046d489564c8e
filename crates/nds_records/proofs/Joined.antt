use Rattle.std.proofs.Common.{◌≡◌, ℕ, List, [], ◌∷◌, ◌++◌, length, set, drop, refl, ◌∙◌, ap, subst, arith}
use Rattle.std.proofs.lemmas.List.{length-append, set-append_right, append_assoc}
use Rattle.std.proofs.Math.Seq.{take-append_seam, drop-append_seam}
use borrow.Rule.Slice.PartMut.{put_mid}
use Rattle.nds_records.specs.Numbers.{words}

-- Bytes that are laid one behind another in a buffer.

four_words : (a b c d : ℕ) → length (words (a ∷ b ∷ c ∷ d ∷ [])) ≡ 16
unfolding words
four_words a b c d = refl

-- behind what stands there
laid_at : (k : ℕ) (front rest bytes : List ℕ) → put_mid (length front) k (front ++ rest) bytes ≡ front ++ (bytes ++ drop k rest)
laid_at k front rest bytes = rw (take-append_seam front rest, drop-append_seam front rest) refl

laid : (n k : ℕ) (front rest bytes : List ℕ) → length front ≡ n → put_mid n k (front ++ rest) bytes ≡ front ++ (bytes ++ drop k rest)
laid n k front rest bytes long =
    let P : ℕ → Type 0 = λ m. put_mid m k (front ++ rest) bytes ≡ front ++ (bytes ++ drop k rest) in
    subst P long (laid_at k front rest bytes)

-- a vertex's: four words, and six bytes
pub vertex_laid : (front bytes colours : List ℕ) (x y z w : ℕ) → front ≡ words (x ∷ y ∷ z ∷ w ∷ []) → bytes ≡ colours
    → put_mid 16 6 (front ++ 0 ∷ 0 ∷ 0 ∷ 0 ∷ 0 ∷ 0 ∷ []) bytes ≡ words (x ∷ y ∷ z ∷ w ∷ []) ++ (colours ++ [])
vertex_laid front bytes colours x y z w e f =
    let long : length front ≡ 16 = ap length e ∙ four_words x y z w in
    laid 16 6 front (0 ∷ 0 ∷ 0 ∷ 0 ∷ 0 ∷ 0 ∷ []) bytes long
    ∙ ap (λ (l : List ℕ). l ++ (bytes ++ [])) e
    ∙ ap (λ (l : List ℕ). words (x ∷ y ∷ z ∷ w ∷ []) ++ (l ++ [])) f

-- a polygon's: four words, a byte, and eight
pub polygon_laid : (front bytes indices : List ℕ) (corners a t p v : ℕ) → front ≡ words (a ∷ t ∷ p ∷ v ∷ []) → bytes ≡ indices
    → put_mid 17 8 (set (front ++ 0 ∷ 0 ∷ 0 ∷ 0 ∷ 0 ∷ 0 ∷ 0 ∷ 0 ∷ 0 ∷ []) 16 corners) bytes ≡ words (a ∷ t ∷ p ∷ v ∷ []) ++ corners ∷ (indices ++ [])
polygon_laid front bytes indices corners a t p v e f =
    let long : length front ≡ 16 = ap length e ∙ four_words a t p v in
    let rest : List ℕ = 0 ∷ 0 ∷ 0 ∷ 0 ∷ 0 ∷ 0 ∷ 0 ∷ 0 ∷ [] in
    let first : set (front ++ 0 ∷ rest) 16 corners ≡ front ++ corners ∷ rest = set-append_right front (0 ∷ rest) 16 16 corners long (omega arith) in
    let second : front ++ corners ∷ rest ≡ (words (a ∷ t ∷ p ∷ v ∷ []) ++ corners ∷ []) ++ rest =
    ap (λ (l : List ℕ). l ++ corners ∷ rest) e ∙ behind (words (a ∷ t ∷ p ∷ v ∷ [])) corners rest in
    let whole : List ℕ = words (a ∷ t ∷ p ∷ v ∷ []) ++ corners ∷ [] in
    ap (λ (l : List ℕ). put_mid 17 8 l bytes) (first ∙ second)
    ∙ laid 17 8 whole rest bytes (length_more (words (a ∷ t ∷ p ∷ v ∷ [])) corners (four_words a t p v))
    ∙ append_assoc (words (a ∷ t ∷ p ∷ v ∷ [])) (corners ∷ []) (bytes ++ [])
    ∙ ap (λ (l : List ℕ). words (a ∷ t ∷ p ∷ v ∷ []) ++ corners ∷ (l ++ [])) f
  where
    behind : (xs : List ℕ) (x : ℕ) (ys : List ℕ) → xs ++ x ∷ ys ≡ (xs ++ x ∷ []) ++ ys
    behind [] x ys = refl
    behind (z ∷ zs) x ys = ap (λ (l : List ℕ). z ∷ l) (behind zs x ys)

    length_more : (xs : List ℕ) (x : ℕ) → length xs ≡ 16 → length (xs ++ x ∷ []) ≡ 17
    length_more xs x e = simp (length-append) (omega (arith, e))
