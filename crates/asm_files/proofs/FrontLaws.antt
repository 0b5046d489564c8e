-- Listings, fronts of listings, and first bad lines.
use Rattle.asm_files.proofs.Words.{Arch, Arm, EndsAt, HasPath, IsFirstBad, IsFront, IsListing, LinePlace, List, Path, Set, StatementLaws, [], ap}
use Rattle.asm_files.proofs.Words.{append-nil, append_assoc, arith, drop, first_place, inl, inr, length, lines_of, listing_lines, one_start, refl}
use Rattle.asm_files.proofs.Words.{start, subst, suc, sym, tail, take, take-append-drop, take-take, text_of, whole_lines, ℕ, ◌++◌, ◌+◌, ◌<◌, ◌^◌, ◌∙◌}
use Rattle.asm_files.proofs.Words.{◌∷◌, ◌≡◌, ◌≢◌, ◌≤◌, ◌⊎◌}
use Rattle.ds_base.specs.declared.processors.Arch.TheVariants.{V5}
use Rattle.asm_files.proofs.PathLaws.{path_of_lines, lines_of_path, path_split, path_once}
use Rattle.asm_files.proofs.TextLaws.{lines_again, tail_again, text_again, listing_plain}

-- the parts of a list that begins so
head_same : (a b : List ℕ) (ls ms : List (List ℕ)) → a ∷ ls ≡ b ∷ ms → a ≡ b
head_same a b ls ms e = cc

rest_same : (a b : List ℕ) (ls ms : List (List ℕ)) → a ∷ ls ≡ b ∷ ms → ls ≡ ms
rest_same a b ls ms e = cc

moved : (arch arch' : Arch) (set set' : Set) (at at' : ℕ) (ls : List (List ℕ)) (b : List ℕ) (to : LinePlace) → arch ≡ arch' → set ≡ set' → at ≡ at' → Path arch set (first_place at) ls b to → Path arch' set' (first_place at') ls b to
moved arch arch' set set' at at' ls b to ea es et p =
    let A : Arch → Type 0 = λ x. Path x set (first_place at) ls b to in
    let S : Set → Type 0 = λ x. Path arch' x (first_place at) ls b to in
    let T : ℕ → Type 0 = λ x. Path arch' set' (first_place x) ls b to in
    subst T et (subst S es (subst A ea p))

-- lines after a first line are a front of a listing exactly where they are a path
pub front_of_path : (arch : Arch) (set : Set) (at : ℕ) (ls : List (List ℕ)) (bytes : List ℕ) → at < 2 ^ 32 → HasPath arch set (first_place at) ls bytes → IsFront (start arch set at ∷ ls)
front_of_path arch set at ls bytes h p =
    let r = lines_of_path arch set at ls bytes p.to p.path in
    record {
      arch = arch;
      set = set;
      at = at;
      in_range = h;
      image = bytes;
      bytes = r.all;
      rest = [];
      is = ap (λ (x : List (List ℕ)). start arch set at ∷ x) (sym r.are) ∙ sym (append-nil (start arch set at ∷ ls));
    }

pub record SomePath (arch : Arch) (set : Set) (at : ℕ) (ls : List (List ℕ)) : Type 0 where
  pub bytes : List ℕ
  pub path : HasPath arch set (first_place at) ls bytes

pub path_of_front : (arch : Arch) (set : Set) (at : ℕ) (ls : List (List ℕ)) → at < 2 ^ 32 → IsFront (start arch set at ∷ ls) → SomePath arch set at ls
path_of_front arch set at ls h f =
    let o = one_start f.arch f.set f.at arch set at f.in_range h (head_same _ _ _ _ f.is) in
    let m : lines_of f.arch f.set f.at f.image ≡ ls ++ f.rest = rest_same _ _ _ _ f.is in
    let p = path_of_lines f.arch f.set f.at f.image f.bytes in
    let P : List (List ℕ) → Type 0 = λ x. Path f.arch f.set (first_place f.at) x f.image p.to in
    let r = path_split f.arch f.set (first_place f.at) ls f.rest f.image p.to (subst P m p.path) in
    record { bytes = r.first; path = record { to = r.mid; path = moved f.arch arch f.set set f.at at ls r.first r.mid o.0 o.1 o.2 r.before } }

-- a text whose lines are a path is a listing
pub listing_of_path : (arch : Arch) (set : Set) (at : ℕ) (ls : List (List ℕ)) (text image : List ℕ) → at < 2 ^ 32 → whole_lines text ≡ start arch set at ∷ ls → tail text ≡ [] → HasPath arch set (first_place at) ls image → IsListing text image
listing_of_path arch set at ls text image h lines end p =
    let r = lines_of_path arch set at ls image p.to p.path in
    record {
      arch = arch;
      set = set;
      at = at;
      in_range = h;
      bytes = r.all;
      is =
          sym (text_again [] text)
          ∙ ap (λ (x : List ℕ). text_of (whole_lines text) ++ x) end
          ∙ append-nil (text_of (whole_lines text))
          ∙ ap text_of lines
          ∙ ap (λ (x : List (List ℕ)). text_of (start arch set at ∷ x)) r.are;
    }

pub lines_of_listing : StatementLaws → (text image : List ℕ) (x : IsListing text image) → whole_lines text ≡ listing_lines x.arch x.set x.at image
lines_of_listing laws text image x = ap whole_lines x.is ∙ lines_again (listing_lines x.arch x.set x.at image) (listing_plain laws x.arch x.set x.at image x.bytes)

-- a text is the listing of one image
pub one_image : StatementLaws → (text a b : List ℕ) → IsListing text a → IsListing text b → a ≡ b
one_image laws text a b x y =
    let e = sym (lines_of_listing laws text a x) ∙ lines_of_listing laws text b y in
    let o = one_start x.arch x.set x.at y.arch y.set y.at x.in_range y.in_range (head_same _ _ _ _ e) in
    let p = path_of_lines x.arch x.set x.at a x.bytes in
    let q = path_of_lines y.arch y.set y.at b y.bytes in
    let P : List (List ℕ) → Type 0 = λ ls. Path x.arch x.set (first_place x.at) ls a p.to in
    let ls = lines_of y.arch y.set y.at b in
    let r = moved x.arch y.arch x.set y.set x.at y.at ls a p.to o.0 o.1 o.2 (subst P (rest_same _ _ _ _ e) p.path) in
    (path_once laws y.arch y.set (first_place y.at) ls a p.to b q.to y.in_range r q.path).0

no_lines : (l : List ℕ) (ls : List (List ℕ)) → [] ≡ l ∷ ls → ⊥
no_lines l ls e = absurd cc

-- a listing has no bad line
pub none_bad : StatementLaws → (text image : List ℕ) (line : ℕ) → IsListing text image → IsFirstBad text line → ⊥
none_bad laws text image line x b = one b.bad where
  lines : whole_lines text ≡ listing_lines x.arch x.set x.at image
  lines = lines_of_listing laws text image x

  end : tail text ≡ []
  end = ap tail x.is ∙ tail_again (listing_lines x.arch x.set x.at image) (listing_plain laws x.arch x.set x.at image x.bytes)

  one : ((b.before < length (whole_lines text)) × (IsFront (take (b.before + 1) (whole_lines text)) → ⊥)) ⊎ ((b.before ≡ length (whole_lines text)) × ((tail text ≢ []) ⊎ (text ≡ []))) → ⊥
  one (inl q) = q.1 (record {
    arch = x.arch;
    set = x.set;
    at = x.at;
    in_range = x.in_range;
    image = image;
    bytes = x.bytes;
    rest = drop (b.before + 1) (whole_lines text);
    is = sym lines ∙ sym (take-append-drop (b.before + 1) (whole_lines text));
  })
  one (inr (n, inl open_line)) = open_line end
  one (inr (n, inr empty)) = no_lines _ _ (sym (ap whole_lines empty) ∙ lines)

-- a front of a front is one
front_front : (a b : List (List ℕ)) → IsFront (a ++ b) → IsFront a
front_front a b f = record {
  arch = f.arch;
  set = f.set;
  at = f.at;
  in_range = f.in_range;
  image = f.image;
  bytes = f.bytes;
  rest = b ++ f.rest;
  is = f.is ∙ append_assoc a b f.rest;
}

front_take : (m n : ℕ) (ls : List (List ℕ)) → m ≤ n → IsFront (take n ls) → IsFront (take m ls)
front_take m n ls h f =
    let P : List (List ℕ) → Type 0 = λ x. IsFront x in
    subst P (take-take m n ls h) (front_front (take m (take n ls)) (drop m (take n ls)) (subst P (sym (take-append-drop m (take n ls))) f))

not_before : (text : List ℕ) (a b : ℕ) (x : IsFirstBad text a) (y : IsFirstBad text b) → x.before < y.before → ⊥
not_before text a b x y h = one x.bad where
  one : ((x.before < length (whole_lines text)) × (IsFront (take (x.before + 1) (whole_lines text)) → ⊥)) ⊎ ((x.before ≡ length (whole_lines text)) × ((tail text ≢ []) ⊎ (text ≡ []))) → ⊥
  one (inl q) = q.1 (front_take (x.before + 1) y.before (whole_lines text) (omega arith) y.front)
  one (inr q) = absurd (let e : x.before ≡ length (whole_lines text) = q.0 in let w : y.before ≤ length (whole_lines text) = y.within in omega arith)

less_or_same : (a b : ℕ) → (a < b) ⊎ (a ≡ b) ⊎ (b < a)
less_or_same a b = grind arith

-- the first bad line is one line
pub one_bad : (text : List ℕ) (a b : ℕ) → IsFirstBad text a → IsFirstBad text b → a ≡ b
one_bad text a b x y = one (less_or_same x.before y.before) where
  one : (x.before < y.before) ⊎ (x.before ≡ y.before) ⊎ (y.before < x.before) → a ≡ b
  one (inl less) = absurd (not_before text a b x y less)
  one (inr (inl same)) = x.number ∙ ap (λ (n : ℕ). n + 1) same ∙ sym y.number
  one (inr (inr more)) = absurd (not_before text b a y x more)

-- where the first line is bad
empty_front : IsFront []
empty_front = record { arch = V5; set = Arm; at = 0; in_range = omega arith; image = []; bytes = tt; rest = listing_lines V5 Arm 0 []; is = refl }

pub bad_start : (text l : List ℕ) (ls : List (List ℕ)) → whole_lines text ≡ l ∷ ls → ((arch : Arch) (set : Set) (at : ℕ) → at < 2 ^ 32 → l ≢ start arch set at) → IsFirstBad text 1
bad_start text l ls lines never = record {
  before = 0;
  number = omega arith;
  within = omega arith;
  front = empty_front;
  bad = inl (rw lines (omega arith), rw lines (λ f. never f.arch f.set f.at f.in_range (sym (head_same _ _ _ _ f.is))));
}

-- a later one
pub bad_later : (arch : Arch) (set : Set) (at : ℕ) (text : List ℕ) (ls : List (List ℕ)) (end : List ℕ) (count : ℕ) → at < 2 ^ 32 → whole_lines text ≡ start arch set at ∷ ls → tail text ≡ end → EndsAt arch set (first_place at) ls end count → IsFirstBad text (count + 2)
bad_later arch set at text ls end count h lines last r = record {
  before = suc count;
  number = omega arith;
  within = rw lines (let w : count ≤ length ls = r.within in omega arith);
  front = rw lines (front_of_path arch set at (take count ls) r.bytes h r.front);
  bad = rw lines (one r.bad);
} where
  one : ((count < length ls) × ((bytes : List ℕ) → HasPath arch set (first_place at) (take (count + 1) ls) bytes → ⊥)) ⊎ ((count ≡ length ls) × (end ≢ [])) → ((suc count < length (start arch set at ∷ ls)) × (IsFront (take (suc count + 1) (start arch set at ∷ ls)) → ⊥)) ⊎ ((suc count ≡ length (start arch set at ∷ ls)) × ((tail text ≢ []) ⊎ (text ≡ [])))
  one (inl q) = inl ((let f : count < length ls = q.0 in omega arith), λ f. (let e : suc count + 1 ≡ suc (count + 1) = omega arith in let g = rw e at f in let p = path_of_front arch set at (take (count + 1) ls) h g in q.1 p.bytes p.path))
  one (inr q) = inr ((let f : count ≡ length ls = q.0 in omega arith), inl (λ n. q.1 (sym last ∙ n)))
