-- Names that are read one after another.
use Rattle.std.proofs.Common.{ℕ, suc, ◌≡◌, ◌<◌, ◌≤◌, ◌+◌, ◌*◌, ◌/◌, ◌%◌, Bool, true, false, List, [], ◌∷◌, ◌++◌, length, take, drop, Result, Ok, Err, refl, sym, ap, ◌∙◌, arith, inl, inr, ◌⊎◌}
use Rattle.std.proofs.lemmas.Bool.{false≢true, both_ways, not-true, eqb-true, eq-eqb, and_parts, and_from, or_cases, cases_Bool, ne_eqb}
use Rattle.std.proofs.lemmas.List.{drop_at}
use Rattle.std.specs.Prelude.{◌==◌, ◌&&◌, ◌||◌, not, if◌then◌else◌}
use Prim.Native.Nat.{max}
use Rattle.nds_words.specs.Scripts.{key_names, chosen, marked}
use Rattle.nds_words.specs.Reader.Names.{common, may_end, stands, after_name, passed}

-- a result's value, or its count
abbrev pub Gives : (ℕ → Type 0) → Result ℕ ℕ → Type 0
Gives P (Ok bits) = P bits
Gives P (Err most) = Unit {0}

abbrev pub Fails : (ℕ → Type 0) → Result ℕ ℕ → Type 0
Fails P (Ok bits) = Unit {0}
Fails P (Err most) = P most

pub gives_taken : (P Q : ℕ → Type 0) (count : ℕ) (r : Result ℕ ℕ) → ((n : ℕ) → P n → Q (1 + 2 * n)) → Gives P r → Gives Q (after_name count r)
gives_taken P Q count (Ok bits) f h = f bits h
gives_taken P Q count (Err most) f h = tt

pub gives_passed : (P Q : ℕ → Type 0) (count : ℕ) (r : Result ℕ ℕ) → ((n : ℕ) → P n → Q (2 * n)) → Gives P r → Gives Q (passed count r)
gives_passed P Q count (Ok bits) f h = f bits h
gives_passed P Q count (Err most) f h = tt

pub fails_taken : (P Q : ℕ → Type 0) (count : ℕ) (r : Result ℕ ℕ) → ((n : ℕ) → P n → Q (count + n)) → Fails P r → Fails Q (after_name count r)
fails_taken P Q count (Ok bits) f h = tt
fails_taken P Q count (Err most) f h = f most h

pub fails_passed : (P Q : ℕ → Type 0) (count : ℕ) (r : Result ℕ ℕ) → ((n : ℕ) → P n → Q (max count n)) → Fails P r → Fails Q (passed count r)
fails_passed P Q count (Ok bits) f h = tt
fails_passed P Q count (Err most) f h = f most h

pub fails_any : (P : ℕ → Type 0) (r : Result ℕ ℕ) → ((n : ℕ) → P n) → Fails P r
fails_any P (Ok bits) f = tt
fails_any P (Err most) f = f most

-- a piece that is whole, and a front of two texts
step_true : (a b : ℕ) (x y : ℕ) → (a == b) ≡ true → (if a == b then x else y) ≡ x
step_true a b x y e = rw e refl

pub common_text : (piece text : List ℕ) → common piece text ≤ length text
common_text [] text = omega arith
common_text (p ∷ piece) [] = omega arith
common_text (p ∷ piece) (b ∷ text) = one (cases_Bool (p == b)) (common_text piece text) where
  one : ((p == b) ≡ true) ⊎ ((p == b) ≡ false) → common piece text ≤ length text → common (p ∷ piece) (b ∷ text) ≤ length (b ∷ text)
  one (inl e) h = rw e (omega arith)
  one (inr e) h = rw e (omega arith)

-- what is in common stands at both fronts
pub common_same : (piece text : List ℕ) → take (common piece text) text ≡ take (common piece text) piece
common_same [] text = refl
common_same (p ∷ piece) [] = refl
common_same (p ∷ piece) (b ∷ text) = one (cases_Bool (p == b)) (common_same piece text) where
  one : ((p == b) ≡ true) ⊎ ((p == b) ≡ false) → take (common piece text) text ≡ take (common piece text) piece → take (common (p ∷ piece) (b ∷ text)) (b ∷ text) ≡ take (common (p ∷ piece) (b ∷ text)) (p ∷ piece)
  one (inl e) h = let s : p ≡ b = eqb-true p b e in rw e cc
  one (inr e) h = rw e refl

-- a piece that is whole in common is the text's front
pub common_whole : (piece text : List ℕ) → common piece text ≡ length piece → text ≡ piece ++ drop (length piece) text
common_whole [] text h = refl
common_whole (p ∷ piece) [] h = absurd (omega arith)
common_whole (p ∷ piece) (b ∷ text) h = one (cases_Bool (p == b)) (common_whole piece text) where
  one : ((p == b) ≡ true) ⊎ ((p == b) ≡ false) → (common piece text ≡ length piece → text ≡ piece ++ drop (length piece) text) → b ∷ text ≡ p ∷ piece ++ drop (length piece) text
  one (inl e) f = let s : p ≡ b = eqb-true p b e in let g : common piece text ≡ length piece = (let k = rw e at h in omega arith) in let t = f g in cc
  one (inr e) f = absurd (let k = rw e at h in omega arith)

pub common_front : (piece rest : List ℕ) → common piece (piece ++ rest) ≡ length piece
common_front [] rest = refl
common_front (p ∷ piece) rest = step_true p p _ _ (eq-eqb p p refl) ∙ ap suc (common_front piece rest)

-- a front of a text that is no longer than a piece and begins the piece
pub common_most : (piece text f r s x : List ℕ) → text ≡ f ++ s → piece ++ x ≡ f ++ r → length f ≤ length piece → length f ≤ common piece text
common_most piece text [] r s x e h l = omega arith
common_most [] text (c ∷ f) r s x e h l = absurd (omega arith)
common_most (p ∷ piece) [] (c ∷ f) r s x e h l = absurd cc
common_most (p ∷ piece) (b ∷ text) (c ∷ f) r s' x e h l =
    let s : p ≡ b = cc in
    let i : length f ≤ common piece text = common_most piece text f r s' x (cc) (cc) (omega arith) in
    rw (eq-eqb p b s) (omega arith)

-- a front that is no shorter than a piece with which the same text begins
pub record Over (piece x f s : List ℕ) : Type 0 where
  pub is : f ≡ piece ++ drop (length piece) f
  pub rest : x ≡ drop (length piece) f ++ s

pub over : (piece x f s : List ℕ) → piece ++ x ≡ f ++ s → length piece ≤ length f → Over piece x f s
over [] x f s e l = record { is = refl; rest = e }
over (p ∷ piece) x [] s e l = absurd (omega arith)
over (p ∷ piece) x (c ∷ f) s e l =
    let o = over piece x f s (cc) (omega arith) in
    let h : p ≡ c = cc in
    let i : f ≡ piece ++ drop (length piece) f = o.is in
    record { is = cc; rest = o.rest }

-- a name may end before a text by the text's first byte
pub may_end_front : (f r s : List ℕ) → 0 < length f → may_end (f ++ s) ≡ true → may_end (f ++ r) ≡ true
may_end_front [] r s l h = absurd (omega arith)
may_end_front (b ∷ f) r s l h = h

pub ends_marked : (names : List (List ℕ)) → may_end (marked 43 names) ≡ true
ends_marked [] = refl
ends_marked (name ∷ names) = refl

pub stands_front : (piece rest : List ℕ) → may_end rest ≡ true → stands piece (piece ++ rest) ≡ true
unfolding stands
stands_front piece rest h =
    and_from _ _ (eq-eqb _ _ (common_front piece rest)) (rw (drop_at piece rest (length piece) refl) h)

pub record Stands (piece text : List ℕ) : Type 0 where
  pub is : text ≡ piece ++ drop (length piece) text
  pub ends : may_end (drop (length piece) text) ≡ true

pub stands_whole : (piece text : List ℕ) → stands piece text ≡ true → Stands piece text
unfolding stands
stands_whole piece text h =
    let p = and_parts (common piece text == length piece) (may_end (drop (length piece) text)) h in
    record { is = common_whole piece text (eqb-true _ _ p.0); ends = p.1 }

-- names that can't be read as one another
abbrev pub differ : List ℕ → List ℕ → Bool
differ [] [] = false
differ [] (b ∷ bs) = not (b == 43)
differ (a ∷ m) [] = not (a == 43)
differ (a ∷ m) (b ∷ n) = not (a == b) || differ m n

abbrev pub all_differ : List ℕ → List (List ℕ) → Bool
all_differ name [] = true
all_differ name (n ∷ names) = differ name n && all_differ name names

abbrev pub apart : List (List ℕ) → Bool
apart [] = true
apart (name ∷ names) = all_differ name names && apart names

pub names_apart : apart key_names ≡ true
unfolding key_names
names_apart = refl

not_same : (a b : ℕ) → a ≡ b → not (a == b) ≡ true → ⊥
not_same a b e h = both_ways (a == b) (not-true (a == b) h) (eq-eqb a b e)

not_plus : (x n y : List ℕ) (b : ℕ) → may_end x ≡ true → x ≡ b ∷ n ++ y → not (b == 43) ≡ true → ⊥
not_plus [] n y b h e k = absurd cc
not_plus (c ∷ x) n y b h e k = let s : c ≡ b = cc in not_same b 43 (sym s ∙ eqb-true c 43 h) k

differ_apart : (m n x y : List ℕ) → differ m n ≡ true → may_end x ≡ true → may_end y ≡ true → m ++ x ≡ n ++ y → ⊥
differ_apart [] [] x y d h k e = false≢true d
differ_apart [] (b ∷ n) x y d h k e = not_plus x n y b h e d
differ_apart (a ∷ m) [] x y d h k e = not_plus y m x a k (sym e) d
differ_apart (a ∷ m) (b ∷ n) x y d h k e = one (or_cases (not (a == b)) (differ m n) d) (λ p q. differ_apart m n x y p h k q) where
  one : (not (a == b) ≡ true) ⊎ (differ m n ≡ true) → (differ m n ≡ true → m ++ x ≡ n ++ y → ⊥) → ⊥
  one (inl p) f = not_same a b (cc) p
  one (inr p) f = f p (cc)

-- what is chosen of names by an odd number, and by an even one
pub chosen_odd : (name : List ℕ) (names : List (List ℕ)) (bits : ℕ) → (bits % 2 == 1) ≡ true → chosen (name ∷ names) bits ≡ name ∷ chosen names (bits / 2)
chosen_odd name names bits e = rw e refl

pub chosen_even : (name : List ℕ) (names : List (List ℕ)) (bits : ℕ) → (bits % 2 == 1) ≡ false → chosen (name ∷ names) bits ≡ chosen names (bits / 2)
chosen_even name names bits e = rw e refl

-- with a name before or not
pub with_name : (name : List ℕ) (names : List (List ℕ)) (bits : ℕ) → chosen (name ∷ names) (1 + 2 * bits) ≡ name ∷ chosen names bits
with_name name names bits =
    let h : (1 + 2 * bits) / 2 ≡ bits = omega arith in
    chosen_odd name names (1 + 2 * bits) (eq-eqb _ _ (omega arith)) ∙ ap (λ (n : ℕ). name ∷ chosen names n) h

pub without_name : (name : List ℕ) (names : List (List ℕ)) (bits : ℕ) → chosen (name ∷ names) (2 * bits) ≡ chosen names bits
without_name name names bits =
    let h : 2 * bits / 2 ≡ bits = omega arith in
    chosen_even name names (2 * bits) (ne_eqb _ _ (λ (e : 2 * bits % 2 ≡ 1). omega arith)) ∙ ap (λ (n : ℕ). chosen names n) h

-- names with a mark are no other names with it
pub not_chosen : (mark : ℕ) (name x : List ℕ) (names : List (List ℕ)) (bits : ℕ) → all_differ name names ≡ true → may_end x ≡ true → mark ∷ name ++ x ≡ marked mark (chosen names bits) → ⊥
not_chosen mark name x [] bits d h e = absurd cc
not_chosen mark name x (n ∷ names) bits d h e = one (cases_Bool (bits % 2 == 1)) (not_chosen mark name x names (bits / 2)) where
  parts : (differ name n ≡ true) × (all_differ name names ≡ true)
  parts = and_parts (differ name n) (all_differ name names) d

  one : ((bits % 2 == 1) ≡ true) ⊎ ((bits % 2 == 1) ≡ false) → (all_differ name names ≡ true → may_end x ≡ true → mark ∷ name ++ x ≡ marked mark (chosen names (bits / 2)) → ⊥) → ⊥
  one (inl o) f =
      let g : mark ∷ name ++ x ≡ mark ∷ n ++ marked 43 (chosen names (bits / 2)) = e ∙ ap (marked mark) (chosen_odd n names bits o) in
      differ_apart name n x (marked 43 (chosen names (bits / 2))) parts.0 h (ends_marked (chosen names (bits / 2))) (cc)
  one (inr o) f = f parts.1 h (e ∙ ap (marked mark) (chosen_even n names bits o))
