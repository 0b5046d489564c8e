-- Lines after a listing's first one lead from place to place in one way, and do so exactly where they are an image's lines.
use Rattle.asm_files.proofs.Words.{AllBytes, Arch, Arm, Half, HasPath, IsByteLine, IsStatement, Leads, LinePlace, List, Path, Set, StatementLaws}
use Rattle.asm_files.proofs.Words.{Thumb, Word, [], ap, append-nil, append_assoc, arith, arm_lines, first_place, half_from, inl, inr, length}
use Rattle.asm_files.proofs.Words.{lines_of, listed, map, one_byte, raw_byte, refl, size, spelling, spelling_bytes, subst, sym, thumb_lines}
use Rattle.asm_files.proofs.Words.{word_from, ℕ, ◌%◌, ◌++◌, ◌+◌, ◌/◌, ◌<◌, ◌^◌, ◌∙◌, ◌∷◌, ◌≡◌, ◌≤◌}
use Rattle.arm_words.specs.Spellings.{IsInRange}

-- a line leads to one place
pub leads_once : StatementLaws → (arch : Arch) (set : Set) (from : LinePlace) (line b : List ℕ) (m : LinePlace) (c : List ℕ) (n : LinePlace) → from.at < 2 ^ 32 → Leads arch set from line b m → Leads arch set from line c n → (b ≡ c) × (m ≡ n)
leads_once laws arch set from line b m c n h (inl x) (inl y) =
    let e : x.number ≡ y.number = laws.one arch set from.at x.number y.number h x.in_range y.in_range (sym x.text ∙ y.text) in
    (x.its_bytes ∙ ap (λ (w : ℕ). spelling_bytes (spelling set w)) e ∙ sym y.its_bytes, x.next ∙ sym y.next)
leads_once laws arch set from line b m c n h (inl x) (inr y) = absurd (laws.apart arch set from.at x.number y.number h x.in_range y.in_range (sym x.text ∙ y.text))
leads_once laws arch set from line b m c n h (inr x) (inl y) = absurd (laws.apart arch set from.at y.number x.number h y.in_range x.in_range (sym y.text ∙ x.text))
leads_once laws arch set from line b m c n h (inr x) (inr y) =
    let e : x.number ≡ y.number = one_byte x.number y.number x.in_range y.in_range (sym x.text ∙ y.text) in
    (x.its_bytes ∙ ap (λ (w : ℕ). w ∷ []) e ∙ sym y.its_bytes, x.next ∙ sym y.next)

below_word : (n : ℕ) → n % 2 ^ 32 < 2 ^ 32
below_word n = omega arith

pub leads_in_range : (arch : Arch) (set : Set) (from : LinePlace) (line b : List ℕ) (to : LinePlace) → from.at < 2 ^ 32 → Leads arch set from line b to → to.at < 2 ^ 32
leads_in_range arch set from line b to h (inl x) = (let P : LinePlace → Type 0 = λ p. p.at < 2 ^ 32 in subst P (sym x.next) (below_word (from.at + size set)))
leads_in_range arch set from line b to h (inr x) = (let P : LinePlace → Type 0 = λ p. p.at < 2 ^ 32 in subst P (sym x.next) h)

pub path_once : StatementLaws → (arch : Arch) (set : Set) (from : LinePlace) (lines : List (List ℕ)) (b : List ℕ) (m : LinePlace) (c : List ℕ) (n : LinePlace) → from.at < 2 ^ 32 → Path arch set from lines b m → Path arch set from lines c n → (b ≡ c) × (m ≡ n)
path_once laws arch set from [] b m c n h p q = (p.0 ∙ sym q.0, p.1 ∙ sym q.1)
path_once laws arch set from (l ∷ ls) b m c n h p q =
    let o = leads_once laws arch set from l p.0 p.1 q.0 q.1 h p.3 q.3 in
    let P : LinePlace → Type 0 = λ x. Path arch set x ls q.2 n in
    let r = path_once laws arch set p.1 ls p.2 m q.2 n (leads_in_range arch set from l p.0 p.1 h p.3) p.5 (subst P (sym o.1) q.5) in
    (p.4 ∙ ap (λ (x : List ℕ). x ++ p.2) o.0 ∙ ap (λ (x : List ℕ). q.0 ++ x) r.0 ∙ sym q.4, r.1)

-- a front of a path is one
pub record Split (arch : Arch) (set : Set) (from : LinePlace) (a b : List (List ℕ)) (bytes : List ℕ) (to : LinePlace) : Type 0 where
  pub first : List ℕ
  pub mid : LinePlace
  pub rest : List ℕ
  pub before : Path arch set from a first mid
  pub after : Path arch set mid b rest to
  pub is : bytes ≡ first ++ rest

pub path_split : (arch : Arch) (set : Set) (from : LinePlace) (a b : List (List ℕ)) (bytes : List ℕ) (to : LinePlace) → Path arch set from (a ++ b) bytes to → Split arch set from a b bytes to
path_split arch set from [] b bytes to p = record { first = []; mid = from; rest = bytes; before = (refl, refl); after = p; is = refl }
path_split arch set from (l ∷ a) b bytes to p =
    let r = path_split arch set p.1 a b p.2 to p.5 in
    record {
      first = p.0 ++ r.first;
      mid = r.mid;
      rest = r.rest;
      before = (p.0, p.1, r.first, p.3, refl, r.before);
      after = r.after;
      is = p.4 ∙ ap (λ (x : List ℕ). p.0 ++ x) r.is ∙ sym (append_assoc p.0 r.first r.rest);
    }

-- one line more
pub path_more : (arch : Arch) (set : Set) (from : LinePlace) (ls : List (List ℕ)) (b : List ℕ) (mid : LinePlace) (l c : List ℕ) (to : LinePlace) → Path arch set from ls b mid → Leads arch set mid l c to → Path arch set from (ls ++ l ∷ []) (b ++ c) to
path_more arch set from [] b mid l c to p s =
    let P : LinePlace → Type 0 = λ x. Leads arch set x l c to in
    (c, to, [], subst P p.1 s, ap (λ (x : List ℕ). x ++ c) p.0 ∙ sym (append-nil c), (refl, refl))
path_more arch set from (k ∷ ls) b mid l c to p s =
    (p.0, p.1, p.2 ++ c, p.3, ap (λ (x : List ℕ). x ++ c) p.4 ∙ append_assoc p.0 p.2 c, path_more arch set p.1 ls p.2 mid l c to p.5 s)

-- a word's bytes are those it was made of
word_again : (w : ℕ) → w < 2 ^ 32 → word_from (w % 2 ^ 8) (w / 2 ^ 8 % 2 ^ 8) (w / 2 ^ 16 % 2 ^ 8) (w / 2 ^ 24 % 2 ^ 8) ≡ w
word_again w h = omega arith

half_again : (w : ℕ) → w < 2 ^ 16 → half_from (w % 2 ^ 8) (w / 2 ^ 8 % 2 ^ 8) ≡ w
half_again w h = omega arith

word_bytes : (a b c d : ℕ) → a < 2 ^ 8 → b < 2 ^ 8 → c < 2 ^ 8 → d < 2 ^ 8 → a ∷ b ∷ c ∷ d ∷ [] ≡ spelling_bytes (Word (word_from a b c d))
unfolding spelling_bytes
word_bytes a b c d ha hb hc hd =
    let ea : word_from a b c d % 2 ^ 8 ≡ a = omega arith in
    let eb : word_from a b c d / 2 ^ 8 % 2 ^ 8 ≡ b = omega arith in
    let ec : word_from a b c d / 2 ^ 16 % 2 ^ 8 ≡ c = omega arith in
    let ed : word_from a b c d / 2 ^ 24 % 2 ^ 8 ≡ d = omega arith in
    rw (ea, eb, ec, ed) refl

half_bytes : (a b : ℕ) → a < 2 ^ 8 → b < 2 ^ 8 → a ∷ b ∷ [] ≡ spelling_bytes (Half (half_from a b))
unfolding spelling_bytes
half_bytes a b ha hb =
    let ea : half_from a b % 2 ^ 8 ≡ a = omega arith in
    let eb : half_from a b / 2 ^ 8 % 2 ^ 8 ≡ b = omega arith in
    rw (ea, eb) refl

-- the lines of bytes that are left
bytes_path : (arch : Arch) (set : Set) (at left : ℕ) (bytes : List ℕ) → length bytes + left < size set → AllBytes bytes → HasPath arch set (record { at = at; left = left }) (map raw_byte bytes) bytes
bytes_path arch set at left [] h all = record { to = record { at = at; left = left }; path = (refl, refl) }
bytes_path arch set at left (b ∷ bs) h all =
    let r = bytes_path arch set at (left + 1) bs (omega arith) all.1 in
    let step : IsByteLine set (record { at = at; left = left }) (raw_byte b) (b ∷ []) (record { at = at; left = left + 1 }) = record { few = omega arith; number = b; in_range = all.0; text = refl; its_bytes = refl; next = refl } in
    record { to = r.to; path = (b ∷ [], record { at = at; left = left + 1 }, bs, inr step, refl, r.path) }

arm_path : (arch : Arch) (at : ℕ) (image : List ℕ) → AllBytes image → HasPath arch Arm (first_place at) (arm_lines arch at image) image
arm_path arch at [] all = bytes_path arch Arm at 0 [] (omega arith) all
arm_path arch at (a ∷ []) all = bytes_path arch Arm at 0 (a ∷ []) (omega arith) all
arm_path arch at (a ∷ b ∷ []) all = bytes_path arch Arm at 0 (a ∷ b ∷ []) (omega arith) all
arm_path arch at (a ∷ b ∷ c ∷ []) all = bytes_path arch Arm at 0 (a ∷ b ∷ c ∷ []) (omega arith) all
arm_path arch at (a ∷ b ∷ c ∷ d ∷ rest) all =
    let r = arm_path arch ((at + 4) % 2 ^ 32) rest all.1.1.1.1 in
    let w : word_from a b c d < 2 ^ 32 = omega (arith, all) in
    let step : IsStatement arch Arm (first_place at) (listed arch Arm at (word_from a b c d)) (a ∷ b ∷ c ∷ d ∷ []) (first_place ((at + 4) % 2 ^ 32)) = record { whole = refl; number = word_from a b c d; in_range = w; text = refl; its_bytes = word_bytes a b c d all.0 all.1.0 all.1.1.0 all.1.1.1.0; next = refl } in
    record { to = r.to; path = (a ∷ b ∷ c ∷ d ∷ [], first_place ((at + 4) % 2 ^ 32), rest, inl step, refl, r.path) }

thumb_path : (arch : Arch) (at : ℕ) (image : List ℕ) → AllBytes image → HasPath arch Thumb (first_place at) (thumb_lines arch at image) image
thumb_path arch at [] all = bytes_path arch Thumb at 0 [] (omega arith) all
thumb_path arch at (a ∷ []) all = bytes_path arch Thumb at 0 (a ∷ []) (omega arith) all
thumb_path arch at (a ∷ b ∷ rest) all =
    let r = thumb_path arch ((at + 2) % 2 ^ 32) rest all.1.1 in
    let w : half_from a b < 2 ^ 16 = omega (arith, all) in
    let step : IsStatement arch Thumb (first_place at) (listed arch Thumb at (half_from a b)) (a ∷ b ∷ []) (first_place ((at + 2) % 2 ^ 32)) = record { whole = refl; number = half_from a b; in_range = w; text = refl; its_bytes = half_bytes a b all.0 all.1.0; next = refl } in
    record { to = r.to; path = (a ∷ b ∷ [], first_place ((at + 2) % 2 ^ 32), rest, inl step, refl, r.path) }

-- an image's lines are a path with its bytes
pub path_of_lines : (arch : Arch) (set : Set) (at : ℕ) (image : List ℕ) → AllBytes image → HasPath arch set (first_place at) (lines_of arch set at image) image
path_of_lines arch Arm at image all = arm_path arch at image all
path_of_lines arch Thumb at image all = thumb_path arch at image all

-- after a byte only bytes come
pub record AreLeft (set : Set) (left : ℕ) (lines : List (List ℕ)) (bytes : List ℕ) : Type 0 where
  pub are : lines ≡ map raw_byte bytes
  pub few : length bytes + left < size set
  pub all : AllBytes bytes

left_more : (set : Set) (left b : ℕ) (l : List ℕ) (ls : List (List ℕ)) (bytes : List ℕ) → b < 2 ^ 8 → l ≡ raw_byte b → AreLeft set (left + 1) ls bytes → AreLeft set left (l ∷ ls) (b ∷ bytes)
left_more set left b l ls bytes h e r = record {
  are = ap (λ (x : List ℕ). x ∷ ls) e ∙ ap (λ (x : List (List ℕ)). raw_byte b ∷ x) r.are;
  few = (let f : length bytes + (left + 1) < size set = r.few in omega arith);
  all = (h, r.all);
}

left_first : (arch : Arch) (set : Set) (at left : ℕ) (l : List ℕ) (ls : List (List ℕ)) (bytes : List ℕ) (to : LinePlace) → 0 < left → (first : List ℕ) (mid : LinePlace) (rest : List ℕ) → Leads arch set (record { at = at; left = left }) l first mid → bytes ≡ first ++ rest → Path arch set mid ls rest to →
    ((more : List ℕ) → left + 1 < size set → Path arch set (record { at = at; left = left + 1 }) ls more to → AreLeft set (left + 1) ls more) → AreLeft set left (l ∷ ls) bytes
left_first arch set at left l ls bytes to pos first mid rest (inl x) e q rec = absurd (let z : left ≡ 0 = x.whole in omega arith)
left_first arch set at left l ls bytes to pos first mid rest (inr x) e q rec =
    let P : LinePlace → Type 0 = λ y. Path arch set y ls rest to in
    let r = rec rest x.few (subst P x.next q) in
    let Q : List ℕ → Type 0 = λ y. AreLeft set left (l ∷ ls) y in
    subst Q (sym (e ∙ ap (λ (y : List ℕ). y ++ rest) x.its_bytes)) (left_more set left x.number l ls rest x.in_range x.text r)

left_only : (arch : Arch) (set : Set) (at left : ℕ) (ls : List (List ℕ)) (bytes : List ℕ) (to : LinePlace) → 0 < left → left < size set → Path arch set (record { at = at; left = left }) ls bytes to → AreLeft set left ls bytes
left_only arch set at left [] bytes to pos few p = (let P : List ℕ → Type 0 = λ x. AreLeft set left [] x in subst P (sym p.0) (record { are = refl; few = omega arith; all = tt }))
left_only arch set at left (l ∷ ls) bytes to pos few p = left_first arch set at left l ls bytes to pos p.0 p.1 p.2 p.3 p.4 p.5 (λ rest many q. left_only arch set at (left + 1) ls rest to (omega arith) many q)

-- at most three bytes make no word, one no half
few_words : (arch : Arch) (at : ℕ) (image : List ℕ) → length image < 4 → map raw_byte image ≡ arm_lines arch at image
few_words arch at [] h = refl
few_words arch at (a ∷ []) h = refl
few_words arch at (a ∷ b ∷ []) h = refl
few_words arch at (a ∷ b ∷ c ∷ []) h = refl
few_words arch at (a ∷ b ∷ c ∷ d ∷ rest) h = absurd (omega arith)

few_halves : (arch : Arch) (at : ℕ) (image : List ℕ) → length image < 2 → map raw_byte image ≡ thumb_lines arch at image
few_halves arch at [] h = refl
few_halves arch at (a ∷ []) h = refl
few_halves arch at (a ∷ b ∷ rest) h = absurd (omega arith)

pub few_lines : (arch : Arch) (set : Set) (at : ℕ) (image : List ℕ) → length image < size set → map raw_byte image ≡ lines_of arch set at image
few_lines arch Arm at image h = few_words arch at image h
few_lines arch Thumb at image h = few_halves arch at image h

pub record AreLines (arch : Arch) (set : Set) (at : ℕ) (lines : List (List ℕ)) (image : List ℕ) : Type 0 where
  pub are : lines ≡ lines_of arch set at image
  pub all : AllBytes image

number_more : (arch : Arch) (set : Set) (at n : ℕ) (ls : List (List ℕ)) (rest : List ℕ) → IsInRange (spelling set n) → AreLines arch set ((at + size set) % 2 ^ 32) ls rest → AreLines arch set at (listed arch set at n ∷ ls) (spelling_bytes (spelling set n) ++ rest)
unfolding spelling_bytes
number_more arch Arm at n ls rest h r = record {
  are = ap (λ (x : ℕ). listed arch Arm at x ∷ ls) (sym (word_again n h)) ∙ ap (λ (x : List (List ℕ)). listed arch Arm at (word_from (n % 2 ^ 8) (n / 2 ^ 8 % 2 ^ 8) (n / 2 ^ 16 % 2 ^ 8) (n / 2 ^ 24 % 2 ^ 8)) ∷ x) r.are;
  all = (omega arith, (omega arith, (omega arith, (omega arith, r.all))));
}
number_more arch Thumb at n ls rest h r = record {
  are = ap (λ (x : ℕ). listed arch Thumb at x ∷ ls) (sym (half_again n h)) ∙ ap (λ (x : List (List ℕ)). listed arch Thumb at (half_from (n % 2 ^ 8) (n / 2 ^ 8 % 2 ^ 8)) ∷ x) r.are;
  all = (omega arith, (omega arith, r.all));
}

size_many : (set : Set) → 2 ≤ size set
size_many Arm = omega arith
size_many Thumb = omega arith

first_of_path : (arch : Arch) (set : Set) (at : ℕ) (l : List ℕ) (ls : List (List ℕ)) (image : List ℕ) (to : LinePlace) (first : List ℕ) (mid : LinePlace) (rest : List ℕ) → Leads arch set (first_place at) l first mid → image ≡ first ++ rest → Path arch set mid ls rest to →
    ((more : List ℕ) → Path arch set (first_place ((at + size set) % 2 ^ 32)) ls more to → AreLines arch set ((at + size set) % 2 ^ 32) ls more) → AreLines arch set at (l ∷ ls) image
first_of_path arch set at l ls image to first mid rest (inl x) e q rec =
    let P : LinePlace → Type 0 = λ y. Path arch set y ls rest to in
    let r = rec rest (subst P x.next q) in
    let Q : List ℕ → Type 0 = λ y. AreLines arch set at (l ∷ ls) y in
    let R : List ℕ → Type 0 = λ y. AreLines arch set at (y ∷ ls) (spelling_bytes (spelling set x.number) ++ rest) in
    subst Q (sym (e ∙ ap (λ (y : List ℕ). y ++ rest) x.its_bytes)) (subst R (sym x.text) (number_more arch set at x.number ls rest x.in_range r))
first_of_path arch set at l ls image to first mid rest (inr x) e q rec =
    let P : LinePlace → Type 0 = λ y. Path arch set y ls rest to in
    let r = left_only arch set at 1 ls rest to (omega arith) x.few (subst P x.next q) in
    let m = left_more set 0 x.number l ls rest x.in_range x.text r in
    let f : length (x.number ∷ rest) + 0 < size set = m.few in
    let Q : List ℕ → Type 0 = λ y. AreLines arch set at (l ∷ ls) y in
    subst Q (sym (e ∙ ap (λ (y : List ℕ). y ++ rest) x.its_bytes)) (record { are = m.are ∙ few_lines arch set at (x.number ∷ rest) (omega arith); all = m.all })

-- a path's lines are those of the image of its bytes
pub lines_of_path : (arch : Arch) (set : Set) (at : ℕ) (ls : List (List ℕ)) (image : List ℕ) (to : LinePlace) → Path arch set (first_place at) ls image to → AreLines arch set at ls image
lines_of_path arch set at [] image to p =
    let many = size_many set in
    let P : List ℕ → Type 0 = λ x. AreLines arch set at [] x in
    subst P (sym p.0) (record { are = few_lines arch set at [] (omega arith); all = tt })
lines_of_path arch set at (l ∷ ls) image to p = first_of_path arch set at l ls image to p.0 p.1 p.2 p.3 p.4 p.5 (λ rest q. lines_of_path arch set ((at + size set) % 2 ^ 32) ls rest to q)
