-- What is read of names is right: the bits are those of the names, and a count is that of the longest front.
use Rattle.std.proofs.Common.{ℕ, suc, ◌≡◌, ◌<◌, ◌≤◌, ◌+◌, ◌*◌, ◌/◌, ◌%◌, ◌^◌, true, false, List, [], ◌∷◌, ◌++◌, length, take, drop, Result, Ok, refl, sym, ap, ◌∙◌, arith, inl, inr, ◌⊎◌, subst, append_assoc, length-append, length-drop}
use Rattle.std.proofs.lemmas.Bool.{both_ways, eqb-true, eqb-false, and_parts, cases_Bool, cases_lt}
use Rattle.std.proofs.lemmas.List.{take-append-drop, drop_at}
use Rattle.std.specs.Prelude.{◌==◌}
use Prim.Native.Nat.{max}
use Rattle.nds_words.specs.Scripts.{key_names, chosen, marked}
use Rattle.nds_words.specs.Reader.Names.{common, may_end, stands, after_name, passed, names_from}
use Rattle.nds_words.proofs.NameLaws.{Gives, Fails, gives_taken, gives_passed, fails_taken, fails_passed, fails_any, common_text, common_same, common_most, Over, over, may_end_front, ends_marked, stands_front, stands_whole, all_differ, apart, chosen_odd, chosen_even, with_name, without_name, not_chosen}

-- a number has no bits but those of names
abbrev pub Fits : List (List ℕ) → ℕ → Type 0
Fits [] bits = bits ≡ 0
Fits (name ∷ names) bits = Fits names (bits / 2)

fits_with : (names : List (List ℕ)) (bits : ℕ) → Fits names bits → Fits names ((1 + 2 * bits) / 2)
fits_with names bits h = let e : bits ≡ (1 + 2 * bits) / 2 = omega arith in subst (Fits names) e h

fits_without : (names : List (List ℕ)) (bits : ℕ) → Fits names bits → Fits names (2 * bits / 2)
fits_without names bits h = let e : bits ≡ 2 * bits / 2 = omega arith in subst (Fits names) e h

pub fits_none : (names : List (List ℕ)) → Fits names 0
fits_none [] = refl
fits_none (name ∷ names) = fits_none names

-- a text is what names give
pub record IsNames (mark : ℕ) (names : List (List ℕ)) (text : List ℕ) (bits : ℕ) : Type 0 where
  pub fits : Fits names bits
  pub is : text ≡ marked mark (chosen names bits)

names_step : (mark : ℕ) (name : List ℕ) (names : List (List ℕ)) (text : List ℕ) → (stands (mark ∷ name) text ≡ true) ⊎ (stands (mark ∷ name) text ≡ false) →
    Gives (IsNames 43 names (drop (length (mark ∷ name)) text)) (names_from 43 names (drop (length (mark ∷ name)) text)) → Gives (IsNames mark names text) (names_from mark names text) →
    Gives (IsNames mark (name ∷ names) text) (names_from mark (name ∷ names) text)
names_step mark name names text (inl e) h k = rw e (gives_taken _ (IsNames mark (name ∷ names) text) _ (names_from 43 names (drop (length (mark ∷ name)) text)) with h) where
  with : (n : ℕ) → IsNames 43 names (drop (length (mark ∷ name)) text) n → IsNames mark (name ∷ names) text (1 + 2 * n)
  with n i = record {
    fits = fits_with names n i.fits;
    is = (stands_whole (mark ∷ name) text e).is ∙ ap (λ (z : List ℕ). (mark ∷ name) ++ z) i.is ∙ sym (ap (marked mark) (with_name name names n));
  }
names_step mark name names text (inr e) h k = rw e (gives_passed _ (IsNames mark (name ∷ names) text) _ (names_from mark names text) without k) where
  without : (n : ℕ) → IsNames mark names text n → IsNames mark (name ∷ names) text (2 * n)
  without n i = record { fits = fits_without names n i.fits; is = i.is ∙ sym (ap (marked mark) (without_name name names n)) }

pub names_sound : (mark : ℕ) (names : List (List ℕ)) (text : List ℕ) → Gives (IsNames mark names text) (names_from mark names text)
names_sound mark [] [] = record { fits = refl; is = refl }
names_sound mark [] (b ∷ text) = tt
names_sound mark (name ∷ names) text =
    names_step mark name names text (cases_Bool (stands (mark ∷ name) text)) (names_sound 43 names (drop (length (mark ∷ name)) text)) (names_sound mark names text)

-- so many bytes of a text are a front of what names give
pub record IsBegun (mark : ℕ) (names : List (List ℕ)) (text : List ℕ) (count : ℕ) : Type 0 where
  pub bits : ℕ
  pub fits : Fits names bits
  pub within : count ≤ length text
  pub rest : List ℕ
  pub is : marked mark (chosen names bits) ≡ take count text ++ rest

pub take_over : (piece x : List ℕ) (n : ℕ) → take (length piece + n) (piece ++ x) ≡ piece ++ take n x
take_over [] x n = let e : 0 + n ≡ n = omega arith in rw e refl
take_over (p ∷ piece) x n = let e : suc (length piece) + n ≡ suc (length piece + n) = omega arith in rw e (ap (λ (z : List ℕ). p ∷ z) (take_over piece x n))

begun_with : (mark : ℕ) (name : List ℕ) (names : List (List ℕ)) (text : List ℕ) (n : ℕ) → stands (mark ∷ name) text ≡ true → IsBegun 43 names (drop (length (mark ∷ name)) text) n → IsBegun mark (name ∷ names) text (length (mark ∷ name) + n)
begun_with mark name names text n e i =
    let piece : List ℕ = mark ∷ name in
    let more : List ℕ = drop (length piece) text in
    let w : text ≡ piece ++ more = (stands_whole piece text e).is in
    let l : n ≤ length more = i.within in
    record {
      bits = 1 + 2 * i.bits;
      fits = fits_with names i.bits i.fits;
      within = (let k : length text ≡ length (piece ++ more) = ap length w in omega (arith, k, length-append piece more));
      rest = i.rest;
      is =
          ap (marked mark) (with_name name names i.bits)
          ∙ ap (λ (z : List ℕ). piece ++ z) i.is
          ∙ sym (append_assoc piece (take n more) i.rest)
          ∙ ap (λ (z : List ℕ). z ++ i.rest) (sym (take_over piece more n))
          ∙ ap (λ (z : List ℕ). take (length piece + n) z ++ i.rest) (sym w);
    }

begun_without : (mark : ℕ) (name : List ℕ) (names : List (List ℕ)) (text : List ℕ) (n : ℕ) → IsBegun mark names text n → IsBegun mark (name ∷ names) text n
begun_without mark name names text n i = record {
  bits = 2 * i.bits;
  fits = fits_without names i.bits i.fits;
  within = i.within;
  rest = i.rest;
  is = ap (marked mark) (without_name name names i.bits) ∙ i.is;
}

begun_common : (mark : ℕ) (name : List ℕ) (names : List (List ℕ)) (text : List ℕ) → IsBegun mark (name ∷ names) text (common (mark ∷ name) text)
begun_common mark name names text =
    let piece : List ℕ = mark ∷ name in
    let x : List ℕ = marked 43 (chosen names 0) in
    let count : ℕ = common piece text in
    record {
      bits = 1;
      fits = fits_none names;
      within = common_text piece text;
      rest = drop count piece ++ x;
      is =
          ap (λ (z : List ℕ). z ++ x) (sym (take-append-drop count piece))
          ∙ append_assoc (take count piece) (drop count piece) x
          ∙ ap (λ (z : List ℕ). z ++ (drop count piece ++ x)) (sym (common_same piece text));
    }

larger : (a b : ℕ) → (max a b ≡ a) ⊎ (max a b ≡ b)
larger a b = grind arith

begun_step : (mark : ℕ) (name : List ℕ) (names : List (List ℕ)) (text : List ℕ) → (stands (mark ∷ name) text ≡ true) ⊎ (stands (mark ∷ name) text ≡ false) →
    Fails (IsBegun 43 names (drop (length (mark ∷ name)) text)) (names_from 43 names (drop (length (mark ∷ name)) text)) → Fails (IsBegun mark names text) (names_from mark names text) →
    Fails (IsBegun mark (name ∷ names) text) (names_from mark (name ∷ names) text)
begun_step mark name names text (inl e) h k = rw e (fails_taken _ (IsBegun mark (name ∷ names) text) _ (names_from 43 names (drop (length (mark ∷ name)) text)) (λ n i. begun_with mark name names text n e i) h)
begun_step mark name names text (inr e) h k = rw e (fails_passed _ (IsBegun mark (name ∷ names) text) _ (names_from mark names text) (λ n i. either n i (larger (common (mark ∷ name) text) n)) k) where
  either : (n : ℕ) → IsBegun mark names text n → (max (common (mark ∷ name) text) n ≡ common (mark ∷ name) text) ⊎ (max (common (mark ∷ name) text) n ≡ n) → IsBegun mark (name ∷ names) text (max (common (mark ∷ name) text) n)
  either n i (inl m) = subst (IsBegun mark (name ∷ names) text) (sym m) (begun_common mark name names text)
  either n i (inr m) = subst (IsBegun mark (name ∷ names) text) (sym m) (begun_without mark name names text n i)

pub names_begun : (mark : ℕ) (names : List (List ℕ)) (text : List ℕ) → Fails (IsBegun mark names text) (names_from mark names text)
names_begun mark [] [] = tt
names_begun mark [] (b ∷ text) = record { bits = 0; fits = refl; within = omega arith; rest = []; is = refl }
names_begun mark (name ∷ names) text =
    begun_step mark name names text (cases_Bool (stands (mark ∷ name) text)) (names_begun 43 names (drop (length (mark ∷ name)) text)) (names_begun mark names text)

-- no longer front of the text is one
module _ (mark : ℕ) (name : List ℕ) (names : List (List ℕ)) (text f s r : List ℕ) (bits : ℕ) where
  most_with : all_differ name names ≡ true → stands (mark ∷ name) text ≡ true → text ≡ f ++ s → marked mark (chosen (name ∷ names) bits) ≡ f ++ r →
      ((g q : List ℕ) → drop (length (mark ∷ name)) text ≡ g ++ s → marked 43 (chosen names (bits / 2)) ≡ g ++ q → Fails (λ n. length g ≤ n) (names_from 43 names (drop (length (mark ∷ name)) text))) →
      Fails (λ n. length f ≤ n) (after_name (length (mark ∷ name)) (names_from 43 names (drop (length (mark ∷ name)) text)))
  most_with d e t i rec = one (cases_lt (length (mark ∷ name)) (length f)) where
    piece : List ℕ
    piece = mark ∷ name

    more : List ℕ
    more = drop (length (mark ∷ name)) text

    inside : length (mark ∷ name) < length f → Over (mark ∷ name) (drop (length (mark ∷ name)) text) f s → ((bits % 2 == 1) ≡ true) ⊎ ((bits % 2 == 1) ≡ false) →
        Fails (λ n. length f ≤ n) (after_name (length (mark ∷ name)) (names_from 43 names (drop (length (mark ∷ name)) text)))
    inside l o (inl b) =
        let g : mark ∷ name ++ marked 43 (chosen names (bits / 2)) ≡ f ++ r = sym (ap (marked mark) (chosen_odd name names bits b)) ∙ i in
        let p = over (mark ∷ name) (marked 43 (chosen names (bits / 2))) f r g (omega arith) in
        fails_taken (λ n. length (drop (length (mark ∷ name)) f) ≤ n) (λ n. length f ≤ n) (length (mark ∷ name)) (names_from 43 names (drop (length (mark ∷ name)) text)) (λ n h. omega (arith, h, length-drop (length (mark ∷ name)) f)) (rec (drop (length (mark ∷ name)) f) r o.rest p.rest)
    inside l o (inr b) =
        let w = stands_whole (mark ∷ name) text e in
        let end : may_end (drop (length (mark ∷ name)) f ++ r) ≡ true = may_end_front (drop (length (mark ∷ name)) f) r s (omega (arith, length-drop (length (mark ∷ name)) f)) (subst (λ (z : List ℕ). may_end z ≡ true) o.rest w.ends) in
        let g : mark ∷ name ++ (drop (length (mark ∷ name)) f ++ r) ≡ marked mark (chosen names (bits / 2)) =
        sym (append_assoc (mark ∷ name) (drop (length (mark ∷ name)) f) r) ∙ ap (λ (z : List ℕ). z ++ r) (sym o.is) ∙ sym i ∙ ap (marked mark) (chosen_even name names bits b) in
        absurd (not_chosen mark name (drop (length (mark ∷ name)) f ++ r) names (bits / 2) d end g)

    one : (length (mark ∷ name) < length f) ⊎ (length f ≤ length (mark ∷ name)) → Fails (λ n. length f ≤ n) (after_name (length (mark ∷ name)) (names_from 43 names (drop (length (mark ∷ name)) text)))
    one (inl l) = inside l (over (mark ∷ name) (drop (length (mark ∷ name)) text) f s (sym (stands_whole (mark ∷ name) text e).is ∙ t) (omega arith)) (cases_Bool (bits % 2 == 1))
    one (inr l) = fails_taken (λ n. Unit {0}) (λ n. length f ≤ n) (length (mark ∷ name)) (names_from 43 names (drop (length (mark ∷ name)) text)) (λ n h. omega arith) (fails_any (λ n. Unit {0}) (names_from 43 names (drop (length (mark ∷ name)) text)) (λ n. tt))

  most_without : stands (mark ∷ name) text ≡ false → text ≡ f ++ s → marked mark (chosen (name ∷ names) bits) ≡ f ++ r →
      (marked mark (chosen names (bits / 2)) ≡ f ++ r → Fails (λ n. length f ≤ n) (names_from mark names text)) →
      Fails (λ n. length f ≤ n) (passed (common (mark ∷ name) text) (names_from mark names text))
  most_without e t i rec = one (cases_Bool (bits % 2 == 1)) where
    long : mark ∷ name ++ marked 43 (chosen names (bits / 2)) ≡ f ++ r → (length (mark ∷ name) < length f) ⊎ (length f ≤ length (mark ∷ name)) → length f ≤ common (mark ∷ name) text
    long g (inl l) =
        let o = over (mark ∷ name) (marked 43 (chosen names (bits / 2))) f r g (omega arith) in
        let more : List ℕ = drop (length (mark ∷ name)) f in
        let end : may_end (more ++ s) ≡ true = may_end_front more s r (omega (arith, length-drop (length (mark ∷ name)) f)) (subst (λ (z : List ℕ). may_end z ≡ true) o.rest (ends_marked (chosen names (bits / 2)))) in
        let w : text ≡ (mark ∷ name) ++ (more ++ s) = t ∙ ap (λ (z : List ℕ). z ++ s) o.is ∙ append_assoc (mark ∷ name) more s in
        absurd (both_ways (stands (mark ∷ name) text) e (subst (λ (z : List ℕ). stands (mark ∷ name) z ≡ true) (sym w) (stands_front (mark ∷ name) (more ++ s) end)))
    long g (inr l) = common_most (mark ∷ name) text f r s (marked 43 (chosen names (bits / 2))) t g l

    one : ((bits % 2 == 1) ≡ true) ⊎ ((bits % 2 == 1) ≡ false) → Fails (λ n. length f ≤ n) (passed (common (mark ∷ name) text) (names_from mark names text))
    one (inl b) =
        let g : mark ∷ name ++ marked 43 (chosen names (bits / 2)) ≡ f ++ r = sym (ap (marked mark) (chosen_odd name names bits b)) ∙ i in
        let k : length f ≤ common (mark ∷ name) text = long g (cases_lt (length (mark ∷ name)) (length f)) in
        fails_passed (λ n. Unit {0}) (λ n. length f ≤ n) (common (mark ∷ name) text) (names_from mark names text) (λ n h. omega arith) (fails_any (λ n. Unit {0}) (names_from mark names text) (λ n. tt))
    one (inr b) =
        fails_passed (λ n. length f ≤ n) (λ n. length f ≤ n) (common (mark ∷ name) text) (names_from mark names text) (λ n h. omega (arith, h)) (rec (sym (ap (marked mark) (chosen_even name names bits b)) ∙ i))

nothing_over : (f r : List ℕ) → [] ≡ f ++ r → length f ≤ 0
nothing_over f r e = omega (arith, ap length e, length-append f r)

most_step : (mark : ℕ) (name : List ℕ) (names : List (List ℕ)) (text f s r : List ℕ) (bits : ℕ) → all_differ name names ≡ true → text ≡ f ++ s → marked mark (chosen (name ∷ names) bits) ≡ f ++ r →
    (stands (mark ∷ name) text ≡ true) ⊎ (stands (mark ∷ name) text ≡ false) →
    ((g q : List ℕ) → drop (length (mark ∷ name)) text ≡ g ++ s → marked 43 (chosen names (bits / 2)) ≡ g ++ q → Fails (λ n. length g ≤ n) (names_from 43 names (drop (length (mark ∷ name)) text))) →
    (marked mark (chosen names (bits / 2)) ≡ f ++ r → Fails (λ n. length f ≤ n) (names_from mark names text)) →
    Fails (λ n. length f ≤ n) (names_from mark (name ∷ names) text)
most_step mark name names text f s r bits d t i (inl e) h k = rw e (most_with mark name names text f s r bits d e t i h)
most_step mark name names text f s r bits d t i (inr e) h k = rw e (most_without mark name names text f s r bits e t i k)

pub names_most : (mark : ℕ) (names : List (List ℕ)) (text f s r : List ℕ) (bits : ℕ) → apart names ≡ true → text ≡ f ++ s → marked mark (chosen names bits) ≡ f ++ r → Fails (λ n. length f ≤ n) (names_from mark names text)
names_most mark [] [] f s r bits a t i = tt
names_most mark [] (b ∷ text) f s r bits a t i = nothing_over f r i
names_most mark (name ∷ names) text f s r bits a t i =
    let p = and_parts (all_differ name names) (apart names) a in
    most_step mark name names text f s r bits p.0 t i (cases_Bool (stands (mark ∷ name) text))
    (λ g q t' i'. names_most 43 names (drop (length (mark ∷ name)) text) g s q (bits / 2) p.1 t' i')
    (λ i'. names_most mark names text f s r (bits / 2) p.1 t i')

-- what names give is read as them
same_bits : (m n : ℕ) → m ≡ n → ◌≡◌ {A = Result ℕ ℕ} (Ok m) (Ok n)
same_bits m n e = rw e refl

again_odd : (mark : ℕ) (name : List ℕ) (names : List (List ℕ)) (bits : ℕ) → (bits % 2 == 1) ≡ true → names_from 43 names (marked 43 (chosen names (bits / 2))) ≡ Ok (bits / 2) → names_from mark (name ∷ names) (marked mark (chosen (name ∷ names) bits)) ≡ Ok bits
again_odd mark name names bits b h =
    let x : List ℕ = marked 43 (chosen names (bits / 2)) in
    let d : drop (length (mark ∷ name)) ((mark ∷ name) ++ x) ≡ x = drop_at (mark ∷ name) x (length (mark ∷ name)) refl in
    let odd : bits % 2 ≡ 1 = eqb-true _ _ b in
    let n : 1 + 2 * (bits / 2) ≡ bits = omega arith in
    rw (chosen_odd name names bits b) (rw (stands_front (mark ∷ name) x (ends_marked (chosen names (bits / 2)))) (rw (d, h) (same_bits _ _ n)))

again_even : (mark : ℕ) (name : List ℕ) (names : List (List ℕ)) (bits : ℕ) → all_differ name names ≡ true → (bits % 2 == 1) ≡ false → names_from mark names (marked mark (chosen names (bits / 2))) ≡ Ok (bits / 2) → names_from mark (name ∷ names) (marked mark (chosen (name ∷ names) bits)) ≡ Ok bits
again_even mark name names bits a b h = rw (chosen_even name names bits b) (one (cases_Bool (stands (mark ∷ name) (marked mark (chosen names (bits / 2)))))) where
  x : List ℕ
  x = marked mark (chosen names (bits / 2))

  odd : bits % 2 ≡ 1 → ⊥
  odd = eqb-false (bits % 2) 1 b

  n : 2 * (bits / 2) ≡ bits
  n = let o : bits % 2 ≡ 1 → ⊥ = odd in grind (arith, o)

  one : (stands (mark ∷ name) (marked mark (chosen names (bits / 2))) ≡ true) ⊎ (stands (mark ∷ name) (marked mark (chosen names (bits / 2))) ≡ false) → names_from mark (name ∷ names) (marked mark (chosen names (bits / 2))) ≡ Ok bits
  one (inl e) =
      let w = stands_whole (mark ∷ name) (marked mark (chosen names (bits / 2))) e in
      absurd (not_chosen mark name (drop (length (mark ∷ name)) (marked mark (chosen names (bits / 2)))) names (bits / 2) a w.ends (sym w.is))
  one (inr e) = rw (e, h) (same_bits _ _ n)

again_step : (mark : ℕ) (name : List ℕ) (names : List (List ℕ)) (bits : ℕ) → all_differ name names ≡ true → ((bits % 2 == 1) ≡ true) ⊎ ((bits % 2 == 1) ≡ false) →
    names_from 43 names (marked 43 (chosen names (bits / 2))) ≡ Ok (bits / 2) → names_from mark names (marked mark (chosen names (bits / 2))) ≡ Ok (bits / 2) →
    names_from mark (name ∷ names) (marked mark (chosen (name ∷ names) bits)) ≡ Ok bits
again_step mark name names bits a (inl b) h k = again_odd mark name names bits b h
again_step mark name names bits a (inr b) h k = again_even mark name names bits a b k

pub names_again : (mark : ℕ) (names : List (List ℕ)) (bits : ℕ) → apart names ≡ true → Fits names bits → names_from mark names (marked mark (chosen names bits)) ≡ Ok bits
names_again mark [] bits a h = same_bits _ _ (sym h)
names_again mark (name ∷ names) bits a h =
    let p = and_parts (all_differ name names) (apart names) a in
    again_step mark name names bits p.0 (cases_Bool (bits % 2 == 1)) (names_again 43 names (bits / 2) p.1 h) (names_again mark names (bits / 2) p.1 h)

-- twelve bits are those of the twelve names
pub twelve_fit : (bits : ℕ) → bits < 2 ^ 12 → Fits key_names bits
unfolding key_names
twelve_fit bits h = omega arith

pub fit_twelve : (bits : ℕ) → Fits key_names bits → bits < 2 ^ 12
unfolding key_names
fit_twelve bits h = omega arith
