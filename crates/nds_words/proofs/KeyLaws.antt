-- The keys of a line, which are names or a minus sign.
use Rattle.std.proofs.Common.{ℕ, zero, suc, ◌≡◌, ◌<◌, ◌≤◌, ◌^◌, true, false, List, [], ◌∷◌, ◌++◌, length, take, drop, Result, Ok, Err, refl, sym, ap, ◌∙◌, arith, inl, inr, ◌⊎◌, subst, length-append}
use Rattle.std.proofs.lemmas.Bool.{both_ways, eqb-true, eqb-false, cases_Bool}
use Rattle.std.specs.Prelude.{◌==◌}
use Rattle.nds_words.specs.Scripts.{key_names, chosen, marked, keys_text}
use Rattle.nds_words.specs.Reader.Names.{common, stands, names_from}
use Rattle.nds_words.specs.Reader.Lines.{some, keys_from}
use Rattle.nds_words.proofs.NameLaws.{Gives, Fails, common_whole, names_apart}
use Rattle.nds_words.proofs.NamesRead.{IsNames, IsBegun, names_sound, names_begun, names_most, names_again, twelve_fit, fit_twelve}

keys_some : (bits : ℕ) → (bits == 0) ≡ false → keys_text bits ≡ marked 32 (chosen key_names bits)
keys_some bits e = rw e refl

none_chosen : chosen key_names 0 ≡ []
unfolding key_names
none_chosen = refl

first_chosen : marked 32 (chosen key_names 1) ≡ 32 ∷ 65 ∷ []
unfolding key_names
first_chosen = refl

-- no name begins with a minus sign
minus_names : (more : List ℕ) → names_from 32 key_names (32 ∷ 45 ∷ more) ≡ Err 1
unfolding key_names stands
minus_names more = refl

minus_whole : (text : List ℕ) → (common (32 ∷ 45 ∷ []) text == 2) ≡ true → text ≡ 32 ∷ 45 ∷ drop 2 text
minus_whole text e = common_whole (32 ∷ 45 ∷ []) text (eqb-true _ _ e)

-- by what the text begins with
from_minus : (text : List ℕ) → (common (32 ∷ 45 ∷ []) text == 2) ≡ true → (length text == 2) ≡ true → keys_from text ≡ Ok 0
unfolding keys_from
from_minus text e l = rw (e, l) refl

from_more : (text : List ℕ) → (common (32 ∷ 45 ∷ []) text == 2) ≡ true → (length text == 2) ≡ false → keys_from text ≡ Err 2
unfolding keys_from
from_more text e l = rw (e, l) refl

from_names : (text : List ℕ) → (common (32 ∷ 45 ∷ []) text == 2) ≡ false → keys_from text ≡ some (names_from 32 key_names text)
unfolding keys_from
from_names text e = rw e refl

-- a text is the keys of a line
pub record AreKeys (text : List ℕ) (bits : ℕ) : Type 0 where
  pub twelve : bits < 2 ^ 12
  pub is : text ≡ keys_text bits

some_sound : (text : List ℕ) (r : Result ℕ ℕ) → Gives (IsNames 32 key_names text) r → Gives (AreKeys text) (some r)
some_sound text (Err n) h = tt
some_sound text (Ok bits) h = one (cases_Bool (bits == 0)) where
  one : ((bits == 0) ≡ true) ⊎ ((bits == 0) ≡ false) → Gives (AreKeys text) (some (Ok bits))
  one (inl e) = rw e tt
  one (inr e) = let k : AreKeys text bits = record { twelve = fit_twelve bits h.fits; is = h.is ∙ sym (keys_some bits e) } in rw e k

nothing_left : (text : List ℕ) (n : ℕ) → length text ≡ n → drop n text ≡ []
nothing_left [] n h = let z : n ≡ 0 = omega arith in rw z refl
nothing_left (b ∷ text) n h = rw (sym h) (nothing_left text (length text) refl)

pub keys_sound : (text : List ℕ) → Gives (AreKeys text) (keys_from text)
keys_sound text = one (cases_Bool (common (32 ∷ 45 ∷ []) text == 2)) (cases_Bool (length text == 2)) where
  one : ((common (32 ∷ 45 ∷ []) text == 2) ≡ true) ⊎ ((common (32 ∷ 45 ∷ []) text == 2) ≡ false) → ((length text == 2) ≡ true) ⊎ ((length text == 2) ≡ false) → Gives (AreKeys text) (keys_from text)
  one (inl e) (inl l) = let k : AreKeys text 0 = record { twelve = omega arith; is = minus_whole text e ∙ ap (λ (z : List ℕ). 32 ∷ 45 ∷ z) (nothing_left text 2 (eqb-true _ _ l)) } in rw (from_minus text e l) k
  one (inl e) (inr l) = rw (from_more text e l) tt
  one (inr e) l = rw (from_names text e) (some_sound text (names_from 32 key_names text) (names_sound 32 key_names text))

-- so many bytes of a text are a front of the keys of a line
pub record AreBegun (text : List ℕ) (count : ℕ) : Type 0 where
  pub bits : ℕ
  pub twelve : bits < 2 ^ 12
  pub within : count ≤ length text
  pub rest : List ℕ
  pub is : keys_text bits ≡ take count text ++ rest

begun_nothing : (text : List ℕ) → AreBegun text 0
begun_nothing text = record { bits = 0; twelve = omega arith; within = omega arith; rest = 32 ∷ 45 ∷ []; is = refl }

nothing_taken : (text rest : List ℕ) (n : ℕ) → n ≤ length text → [] ≡ take n text ++ rest → n ≡ 0
nothing_taken text rest zero h e = refl
nothing_taken [] rest (suc n) h e = absurd (omega arith)
nothing_taken (b ∷ text) rest (suc n) h e = absurd cc

begun_names : (text : List ℕ) (n : ℕ) → IsBegun 32 key_names text n → AreBegun text n
begun_names text n i = one (cases_Bool (i.bits == 0)) where
  one : ((i.bits == 0) ≡ true) ⊎ ((i.bits == 0) ≡ false) → AreBegun text n
  one (inl e) =
      let g : [] ≡ take n text ++ i.rest = sym (ap (λ (z : ℕ). marked 32 (chosen key_names z)) (eqb-true i.bits 0 e) ∙ ap (marked 32) none_chosen) ∙ i.is in
      subst (AreBegun text) (sym (nothing_taken text i.rest n i.within g)) (begun_nothing text)
  one (inr e) = record { bits = i.bits; twelve = fit_twelve i.bits i.fits; within = i.within; rest = i.rest; is = keys_some i.bits e ∙ i.is }

some_begun : (text : List ℕ) (r : Result ℕ ℕ) → Fails (IsBegun 32 key_names text) r → Fails (AreBegun text) (some r)
some_begun text (Err n) h = begun_names text n h
some_begun text (Ok bits) h = one (cases_Bool (bits == 0)) where
  one : ((bits == 0) ≡ true) ⊎ ((bits == 0) ≡ false) → Fails (AreBegun text) (some (Ok bits))
  one (inl e) = rw e (begun_nothing text)
  one (inr e) = rw e tt

begun_minus : (text : List ℕ) → (common (32 ∷ 45 ∷ []) text == 2) ≡ true → AreBegun text 2
begun_minus text e =
    let w = minus_whole text e in
    record {
      bits = 0;
      twelve = omega arith;
      within = (let l : length text ≡ suc (suc (length (drop 2 text))) = ap length w in omega arith);
      rest = [];
      is = ap (λ (z : List ℕ). take 2 z ++ []) (sym w);
    }

pub keys_begun : (text : List ℕ) → Fails (AreBegun text) (keys_from text)
keys_begun text = one (cases_Bool (common (32 ∷ 45 ∷ []) text == 2)) (cases_Bool (length text == 2)) where
  one : ((common (32 ∷ 45 ∷ []) text == 2) ≡ true) ⊎ ((common (32 ∷ 45 ∷ []) text == 2) ≡ false) → ((length text == 2) ≡ true) ⊎ ((length text == 2) ≡ false) → Fails (AreBegun text) (keys_from text)
  one (inl e) (inl l) = rw (from_minus text e l) tt
  one (inl e) (inr l) = rw (from_more text e l) (begun_minus text e)
  one (inr e) l = rw (from_names text e) (some_begun text (names_from 32 key_names text) (names_begun 32 key_names text))

-- no longer front of the text is one
two_at_most : (f r : List ℕ) → 32 ∷ 45 ∷ [] ≡ f ++ r → length f ≤ 2
two_at_most f r e = omega (arith, ap length e, length-append f r)

one_of_minus : (text f s r : List ℕ) → (common (32 ∷ 45 ∷ []) text == 2) ≡ false → text ≡ f ++ s → 32 ∷ 45 ∷ [] ≡ f ++ r → (f ≡ []) ⊎ (f ≡ 32 ∷ [])
one_of_minus text [] s r e t i = inl refl
one_of_minus text (a ∷ []) s r e t i = let h : a ≡ 32 = cc in inr (cc)
one_of_minus text (a ∷ b ∷ []) s r e t i =
    let h : text ≡ 32 ∷ 45 ∷ s = cc in
    absurd (both_ways (common (32 ∷ 45 ∷ []) text == 2) e (rw h refl))
one_of_minus text (a ∷ b ∷ c ∷ f) s r e t i = absurd (let h : 2 ≡ length ((a ∷ b ∷ c ∷ f) ++ r) = ap length i in omega arith)

module _ (text f s r : List ℕ) (bits : ℕ) where
  most_some : (q : Result ℕ ℕ) → text ≡ f ++ s → Gives (IsNames 32 key_names text) q → Fails (λ n. length f ≤ n) q → Fails (λ n. length f ≤ n) (some q)
  most_some (Err n) t g h = h
  most_some (Ok b) t g h = one (cases_Bool (b == 0)) where
    one : ((b == 0) ≡ true) ⊎ ((b == 0) ≡ false) → Fails (λ n. length f ≤ n) (some (Ok b))
    one (inl e) =
        let z : [] ≡ f ++ s = sym (g.is ∙ ap (λ (z : ℕ). marked 32 (chosen key_names z)) (eqb-true b 0 e) ∙ ap (marked 32) none_chosen) ∙ t in
        let l : length f ≤ 0 = omega (arith, ap length z, length-append f s) in
        rw e l
    one (inr e) = rw e tt

  most_none : (common (32 ∷ 45 ∷ []) text == 2) ≡ false → text ≡ f ++ s → 32 ∷ 45 ∷ [] ≡ f ++ r → Fails (λ n. length f ≤ n) (names_from 32 key_names text)
  most_none e t i = one (one_of_minus text f s r e t i) where
    one : (f ≡ []) ⊎ (f ≡ 32 ∷ []) → Fails (λ n. length f ≤ n) (names_from 32 key_names text)
    one (inl h) = names_most 32 key_names text f s (32 ∷ 65 ∷ []) 1 names_apart t (first_chosen ∙ ap (λ (z : List ℕ). z ++ 32 ∷ 65 ∷ []) (sym h))
    one (inr h) = names_most 32 key_names text f s (65 ∷ []) 1 names_apart t (first_chosen ∙ ap (λ (z : List ℕ). z ++ 65 ∷ []) (sym h))

  most_names : (common (32 ∷ 45 ∷ []) text == 2) ≡ false → text ≡ f ++ s → keys_text bits ≡ f ++ r → ((bits == 0) ≡ true) ⊎ ((bits == 0) ≡ false) → Fails (λ n. length f ≤ n) (names_from 32 key_names text)
  most_names e t i (inl z) = most_none e t (sym (ap keys_text (eqb-true bits 0 z)) ∙ i)
  most_names e t i (inr z) = names_most 32 key_names text f s r bits names_apart t (sym (keys_some bits z) ∙ i)

  most_minus : (common (32 ∷ 45 ∷ []) text == 2) ≡ true → text ≡ f ++ s → keys_text bits ≡ f ++ r → ((bits == 0) ≡ true) ⊎ ((bits == 0) ≡ false) → length f ≤ 2
  most_minus e t i (inl z) = two_at_most f r (sym (ap keys_text (eqb-true bits 0 z)) ∙ i)
  most_minus e t i (inr z) =
      let h = names_most 32 key_names text f s r bits names_apart t (sym (keys_some bits z) ∙ i) in
      let k : names_from 32 key_names text ≡ Err 1 = ap (names_from 32 key_names) (minus_whole text e) ∙ minus_names (drop 2 text) in
      let l : length f ≤ 1 = subst (Fails (λ n. length f ≤ n)) k h in
      omega arith

  pub keys_most : text ≡ f ++ s → keys_text bits ≡ f ++ r → Fails (λ n. length f ≤ n) (keys_from text)
  keys_most t i = one (cases_Bool (common (32 ∷ 45 ∷ []) text == 2)) (cases_Bool (length text == 2)) where
    one : ((common (32 ∷ 45 ∷ []) text == 2) ≡ true) ⊎ ((common (32 ∷ 45 ∷ []) text == 2) ≡ false) → ((length text == 2) ≡ true) ⊎ ((length text == 2) ≡ false) → Fails (λ n. length f ≤ n) (keys_from text)
    one (inl e) (inl l) = rw (from_minus text e l) tt
    one (inl e) (inr l) = rw (from_more text e l) (most_minus e t i (cases_Bool (bits == 0)))
    one (inr e) l = rw (from_names text e) (most_some (names_from 32 key_names text) t (names_sound 32 key_names text) (most_names e t i (cases_Bool (bits == 0))))

pub ok_no_err : (m n : ℕ) → ◌≡◌ {A = Result ℕ ℕ} (Ok m) (Err n) → ⊥
ok_no_err m n e = absurd cc

-- the keys of a line are read as them
pub keys_again : (bits : ℕ) → bits < 2 ^ 12 → keys_from (keys_text bits) ≡ Ok bits
keys_again bits h = one (cases_Bool (bits == 0)) where
  two : (bits == 0) ≡ false → names_from 32 key_names (marked 32 (chosen key_names bits)) ≡ Ok bits → ((common (32 ∷ 45 ∷ []) (marked 32 (chosen key_names bits)) == 2) ≡ true) ⊎ ((common (32 ∷ 45 ∷ []) (marked 32 (chosen key_names bits)) == 2) ≡ false) → keys_from (marked 32 (chosen key_names bits)) ≡ Ok bits
  two z a (inl e) =
      let w = minus_whole (marked 32 (chosen key_names bits)) e in
      let k : names_from 32 key_names (marked 32 (chosen key_names bits)) ≡ Err 1 = ap (names_from 32 key_names) w ∙ minus_names (drop 2 (marked 32 (chosen key_names bits))) in
      absurd (ok_no_err bits 1 (sym a ∙ k))
  two z a (inr e) = from_names (marked 32 (chosen key_names bits)) e ∙ rw (a, z) refl

  one : ((bits == 0) ≡ true) ⊎ ((bits == 0) ≡ false) → keys_from (keys_text bits) ≡ Ok bits
  one (inl z) = rw (eqb-true bits 0 z) (from_minus (32 ∷ 45 ∷ []) refl refl)
  one (inr z) = ap keys_from (keys_some bits z) ∙ two z (names_again 32 key_names bits names_apart (twelve_fit bits h)) (cases_Bool (common (32 ∷ 45 ∷ []) (marked 32 (chosen key_names bits)) == 2))

-- they begin with a space
pub keys_space : (bits : ℕ) → bits < 2 ^ 12 → take 1 (keys_text bits) ≡ 32 ∷ []
keys_space bits h = one (cases_Bool (bits == 0)) where
  marked_space : (names : List (List ℕ)) → (names ≡ [] → ⊥) → take 1 (marked 32 names) ≡ 32 ∷ []
  marked_space [] k = absurd (k refl)
  marked_space (name ∷ names) k = refl

  some_chosen : (bits == 0) ≡ false → chosen key_names bits ≡ [] → ⊥
  some_chosen z e =
      let a : names_from 32 key_names (marked 32 (chosen key_names bits)) ≡ Ok bits = names_again 32 key_names bits names_apart (twelve_fit bits h) in
      let b : names_from 32 key_names [] ≡ Ok 0 = ap (λ (z : List (List ℕ)). names_from 32 key_names (marked 32 z)) (sym none_chosen) ∙ names_again 32 key_names 0 names_apart (twelve_fit 0 (omega arith)) in
      let c : Ok bits ≡ Ok 0 = sym a ∙ ap (λ (z : List (List ℕ)). names_from 32 key_names (marked 32 z)) e ∙ b in
      let d : bits ≡ 0 = cc in
      eqb-false bits 0 z d

  one : ((bits == 0) ≡ true) ⊎ ((bits == 0) ≡ false) → take 1 (keys_text bits) ≡ 32 ∷ []
  one (inl z) = rw (eqb-true bits 0 z) refl
  one (inr z) = ap (take 1) (keys_some bits z) ∙ marked_space (chosen key_names bits) (some_chosen z)
