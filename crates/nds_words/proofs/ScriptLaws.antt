-- Scripts and first bad lines.
use Rattle.std.proofs.Common.{ℕ, ◌≡◌, ◌≢◌, ◌<◌, ◌≤◌, ◌+◌, ◌-◌, ◌/◌, ◌%◌, ◌^◌, Bool, true, false, List, [], ◌∷◌, ◌++◌, length, get_or, refl, sym, ap, ◌∙◌, arith, inl, inr, ◌⊎◌, subst, append_assoc, length-append}
use Rattle.ds_base.specs.Texts.{HasNoFeed}
use Rattle.std.proofs.lemmas.Bool.{not-true, eqb-false, and_parts, cases_Bool}
use Rattle.std.proofs.lemmas.List.{append-nil, get_or_at, get_or_append_left}
use Rattle.std.proofs.lemmas.List.Elements.{All-head, All-tail}
use Rattle.std.proofs.lemmas.Fmt.{decimal_nonempty}
use Rattle.std.specs.Prelude.{◌==◌, ◌&&◌, not, All}
use Rattle.std.specs.Fmt.{decimal}
use Rattle.ds_base.specs.KeyLines.{no_line, AreKeyLines, ComesAfter}
use Rattle.ds_base.specs.declared.keys.KeyLine.{KeyLine}
use Rattle.nds_words.specs.Scripts.{key_names, chosen, marked, keys_text, line_text, script_text, IsLine, AreLines, IsScript, IsLongest, IsNoLine, IsLate, EndsBefore, IsFirstBadAt}
use Rattle.nds_words.proofs.DigitLaws.{AreDigits, decimal_digits}
use Rattle.nds_words.proofs.NameLaws.{chosen_odd, chosen_even}
use Rattle.nds_words.proofs.LineLaws.{one_line}

-- no line has a line feed
plain_append : (a b : List ℕ) → HasNoFeed a → HasNoFeed b → HasNoFeed (a ++ b)
plain_append [] b ha hb = hb
plain_append (c ∷ a) b ha hb = (ha.0, plain_append a b ha.1 hb)

plain_digits : (ds : List ℕ) → AreDigits ds → HasNoFeed ds
plain_digits [] h = tt
plain_digits (c ∷ ds) h = (λ (e : c ≡ 10). (let l : 48 ≤ c = h.0 in absurd (omega arith)), plain_digits ds h.2)

abbrev pub plain_test : List ℕ → Bool
plain_test [] = true
plain_test (b ∷ bs) = not (b == 10) && plain_test bs

abbrev pub plain_tests : List (List ℕ) → Bool
plain_tests [] = true
plain_tests (name ∷ names) = plain_test name && plain_tests names

plain_tested : (bs : List ℕ) → plain_test bs ≡ true → HasNoFeed bs
plain_tested [] h = tt
plain_tested (b ∷ bs) h =
    let p = and_parts (not (b == 10)) (plain_test bs) h in
    (eqb-false b 10 (not-true (b == 10) p.0), plain_tested bs p.1)

names_plain : plain_tests key_names ≡ true
unfolding key_names
names_plain = refl

chosen_step : (mark : ℕ) (name : List ℕ) (names : List (List ℕ)) (bits : ℕ) → mark ≢ 10 → HasNoFeed name → HasNoFeed (marked 43 (chosen names (bits / 2))) → HasNoFeed (marked mark (chosen names (bits / 2))) → ((bits % 2 == 1) ≡ true) ⊎ ((bits % 2 == 1) ≡ false) → HasNoFeed (marked mark (chosen (name ∷ names) bits))
chosen_step mark name names bits m n h k (inl b) = rw (chosen_odd name names bits b) (m, plain_append name (marked 43 (chosen names (bits / 2))) n h)
chosen_step mark name names bits m n h k (inr b) = rw (chosen_even name names bits b) k

chosen_plain : (mark : ℕ) (names : List (List ℕ)) (bits : ℕ) → mark ≢ 10 → plain_tests names ≡ true → HasNoFeed (marked mark (chosen names bits))
chosen_plain mark [] bits m h = tt
chosen_plain mark (name ∷ names) bits m h =
    let p = and_parts (plain_test name) (plain_tests names) h in
    let q : ◌≢◌ {A = ℕ} 43 10 = λ e. absurd (omega arith) in
    chosen_step mark name names bits m (plain_tested name p.0) (chosen_plain 43 names (bits / 2) q p.1) (chosen_plain mark names (bits / 2) m p.1) (cases_Bool (bits % 2 == 1))

keys_plain : (bits : ℕ) → HasNoFeed (keys_text bits)
keys_plain bits = one (cases_Bool (bits == 0)) where
  space : ◌≢◌ {A = ℕ} 32 10
  space e = absurd (omega arith)

  minus : ◌≢◌ {A = ℕ} 45 10
  minus e = absurd (omega arith)

  one : ((bits == 0) ≡ true) ⊎ ((bits == 0) ≡ false) → HasNoFeed (keys_text bits)
  one (inl e) = rw e (space, (minus, tt))
  one (inr e) = rw e (chosen_plain 32 key_names bits space names_plain)

pub line_plain : (line : KeyLine) → IsLine line → HasNoFeed (line_text line)
line_plain line good =
    let e : line.tick.0 < 10 ^ 11 = good.early in
    plain_append (decimal line.tick.0) (keys_text line.pressed) (plain_digits (decimal line.tick.0) (decimal_digits line.tick.0 (omega arith))) (keys_plain line.pressed)

pub line_some : (line : KeyLine) → IsLine line → [] ≡ line_text line → ⊥
line_some line good e =
    let h : line.tick.0 < 10 ^ 11 = good.early in
    absurd (omega (arith, ap length e, length-append (decimal line.tick.0) (keys_text line.pressed), decimal_nonempty line.tick.0 (omega arith)))

-- up to the first line feed
feed_split : (a b x y : List ℕ) → HasNoFeed a → HasNoFeed b → a ++ 10 ∷ x ≡ b ++ 10 ∷ y → (a ≡ b) × (x ≡ y)
feed_split [] [] x y ha hb e = (refl, cc)
feed_split [] (c ∷ b) x y ha hb e = let h : c ≡ 10 = cc in absurd (hb.0 h)
feed_split (c ∷ a) [] x y ha hb e = let h : c ≡ 10 = cc in absurd (ha.0 h)
feed_split (c ∷ a) (d ∷ b) x y ha hb e =
    let r = feed_split a b x y ha.1 hb.1 (cc) in
    let h : c ≡ d = cc in
    let t : a ≡ b = r.0 in
    (cc, r.1)

no_feed_in : (a x : List ℕ) → HasNoFeed (a ++ 10 ∷ x) → ⊥
no_feed_in [] x h = h.0 refl
no_feed_in (c ∷ a) x h = no_feed_in a x h.1

-- lines go on where others end, with a line that is a text
pub record Longer (a b : List KeyLine) (bad : List ℕ) : Type 0 where
  pub line : KeyLine
  pub more : List KeyLine
  pub is : b ≡ a ++ line ∷ more
  pub text : bad ≡ line_text line

longer_by : (j k : KeyLine) (a b : List KeyLine) (bad : List ℕ) → j ≡ k → Longer a b bad → Longer (j ∷ a) (k ∷ b) bad
longer_by j k a b bad e l = record { line = l.line; more = l.more; is = ap (λ (z : List KeyLine). k ∷ z) l.is ∙ ap (λ (z : KeyLine). z ∷ (a ++ l.line ∷ l.more)) (sym e); text = l.text }

head_line : (line : KeyLine) (lines : List KeyLine) → All IsLine (line ∷ lines) → IsLine line
head_line line lines h = All-head IsLine line lines h

tail_lines : (line : KeyLine) (lines : List KeyLine) → All IsLine (line ∷ lines) → All IsLine lines
tail_lines line lines h = All-tail IsLine line lines h

-- two texts of lines, each with a text and a line feed after them
fork : (a b : List KeyLine) (bad more bad' more' : List ℕ) → All IsLine a → All IsLine b → HasNoFeed bad → HasNoFeed bad' → script_text a ++ (bad ++ 10 ∷ more) ≡ script_text b ++ (bad' ++ 10 ∷ more') → ((a ≡ b) × (bad ≡ bad')) ⊎ Longer a b bad ⊎ Longer b a bad'
fork [] [] bad more bad' more' ga gb pa pb e = inl (refl, (feed_split bad bad' more more' pa pb e).0)
fork [] (k ∷ b) bad more bad' more' ga gb pa pb e =
    let g : bad ++ 10 ∷ more ≡ line_text k ++ 10 ∷ (script_text b ++ (bad' ++ 10 ∷ more')) = e ∙ append_assoc (line_text k) (10 ∷ script_text b) (bad' ++ 10 ∷ more') in
    let s = feed_split bad (line_text k) more (script_text b ++ (bad' ++ 10 ∷ more')) pa (line_plain k (head_line k b gb)) g in
    inr (inl (record { line = k; more = b; is = refl; text = s.0 }))
fork (j ∷ a) [] bad more bad' more' ga gb pa pb e =
    let g : bad' ++ 10 ∷ more' ≡ line_text j ++ 10 ∷ (script_text a ++ (bad ++ 10 ∷ more)) = sym e ∙ append_assoc (line_text j) (10 ∷ script_text a) (bad ++ 10 ∷ more) in
    let s = feed_split bad' (line_text j) more' (script_text a ++ (bad ++ 10 ∷ more)) pb (line_plain j (head_line j a ga)) g in
    inr (inr (record { line = j; more = a; is = refl; text = s.0 }))
fork (j ∷ a) (k ∷ b) bad more bad' more' ga gb pa pb e = one (fork a b bad more bad' more' (tail_lines j a ga) (tail_lines k b gb) pa pb s.1) where
  g : line_text j ++ 10 ∷ (script_text a ++ (bad ++ 10 ∷ more)) ≡ line_text k ++ 10 ∷ (script_text b ++ (bad' ++ 10 ∷ more'))
  g = sym (append_assoc (line_text j) (10 ∷ script_text a) (bad ++ 10 ∷ more)) ∙ e ∙ append_assoc (line_text k) (10 ∷ script_text b) (bad' ++ 10 ∷ more')

  s : (line_text j ≡ line_text k) × (script_text a ++ (bad ++ 10 ∷ more) ≡ script_text b ++ (bad' ++ 10 ∷ more'))
  s = feed_split (line_text j) (line_text k) (script_text a ++ (bad ++ 10 ∷ more)) (script_text b ++ (bad' ++ 10 ∷ more')) (line_plain j (head_line j a ga)) (line_plain k (head_line k b gb)) g

  same : j ≡ k
  same = one_line j k (head_line j a ga) (head_line k b gb) s.0

  one : ((a ≡ b) × (bad ≡ bad')) ⊎ Longer a b bad ⊎ Longer b a bad' → ((j ∷ a ≡ k ∷ b) × (bad ≡ bad')) ⊎ Longer (j ∷ a) (k ∷ b) bad ⊎ Longer (k ∷ b) (j ∷ a) bad'
  one (inl r) = inl (ap (λ (z : KeyLine). z ∷ a) same ∙ ap (λ (z : List KeyLine). k ∷ z) r.0, r.1)
  one (inr (inl l)) = inr (inl (longer_by j k a b bad same l))
  one (inr (inr l)) = inr (inr (longer_by k j b a bad' (sym same) l))

-- lines alone are no shorter than those before a text and its line feed
inside : (a b : List KeyLine) (bad more : List ℕ) → All IsLine a → All IsLine b → HasNoFeed bad → script_text a ++ (bad ++ 10 ∷ more) ≡ script_text b → Longer a b bad
inside [] [] bad more ga gb p e = absurd (omega (arith, ap length e, length-append bad (10 ∷ more)))
inside [] (k ∷ b) bad more ga gb p e =
    let s = feed_split bad (line_text k) more (script_text b) p (line_plain k (head_line k b gb)) e in
    record { line = k; more = b; is = refl; text = s.0 }
inside (j ∷ a) [] bad more ga gb p e =
    absurd (omega (arith, ap length e, length-append (line_text j ++ 10 ∷ script_text a) (bad ++ 10 ∷ more), length-append (line_text j) (10 ∷ script_text a)))
inside (j ∷ a) (k ∷ b) bad more ga gb p e =
    let g = sym (append_assoc (line_text j) (10 ∷ script_text a) (bad ++ 10 ∷ more)) ∙ e in
    let s = feed_split (line_text j) (line_text k) (script_text a ++ (bad ++ 10 ∷ more)) (script_text b) (line_plain j (head_line j a ga)) (line_plain k (head_line k b gb)) g in
    longer_by j k a b bad (one_line j k (head_line j a ga) (head_line k b gb) s.0) (inside a b bad more (tail_lines j a ga) (tail_lines k b gb) p s.1)

-- and no text without a line feed stands after them
no_tail : (a b : List KeyLine) (bad : List ℕ) → All IsLine a → All IsLine b → HasNoFeed bad → bad ≢ [] → script_text a ++ bad ≡ script_text b → ⊥
no_tail [] [] bad ga gb p n e = n e
no_tail [] (k ∷ b) bad ga gb p n e = no_feed_in (line_text k) (script_text b) (subst HasNoFeed e p)
no_tail (j ∷ a) [] bad ga gb p n e =
    absurd (omega (arith, ap length e, length-append (line_text j ++ 10 ∷ script_text a) bad, length-append (line_text j) (10 ∷ script_text a)))
no_tail (j ∷ a) (k ∷ b) bad ga gb p n e =
    let g = sym (append_assoc (line_text j) (10 ∷ script_text a) bad) ∙ e in
    let s = feed_split (line_text j) (line_text k) (script_text a ++ bad) (script_text b) (line_plain j (head_line j a ga)) (line_plain k (head_line k b gb)) g in
    no_tail a b bad (tail_lines j a ga) (tail_lines k b gb) p n s.1

-- a line that goes on is no bad one
mid_line : (a : List KeyLine) (line : KeyLine) (more : List KeyLine) → All IsLine (a ++ line ∷ more) → IsLine line
mid_line [] line more h = head_line line more h
mid_line (j ∷ a) line more h = mid_line a line more (tail_lines j (a ++ line ∷ more) h)

comes_after : (a : List KeyLine) (line : KeyLine) (more : List KeyLine) → AreKeyLines (a ++ line ∷ more) → ComesAfter a line
comes_after a line more r h =
    let l : length (a ++ line ∷ more) ≡ length a + length (line ∷ more) = length-append a (line ∷ more) in
    let u = r.rising (length a - 1) (omega arith) in
    let e : length a - 1 + 1 ≡ length a = omega arith in
    let v : get_or (a ++ line ∷ more) (length a) no_line ≡ line = get_or_at a line more no_line (length a) refl in
    let w : get_or (a ++ line ∷ more) (length a - 1) no_line ≡ get_or a (length a - 1) no_line = get_or_append_left a (line ∷ more) no_line (length a - 1) (omega arith) in
    let t = rw (e, v, w) at u in
    t

not_bad : (before lines : List KeyLine) (bad : List ℕ) (column : ℕ) → AreLines lines → Longer before lines bad → IsNoLine bad column ⊎ IsLate before bad column → ⊥
not_bad before lines bad column good l (inl n) = n.none l.line (mid_line before l.line l.more (subst (All IsLine) l.is good.each)) l.text
not_bad before lines bad column good l (inr n) =
    let own = mid_line before l.line l.more (subst (All IsLine) l.is good.each) in
    let same : n.line ≡ l.line = one_line n.line l.line n.good own (sym n.is ∙ l.text) in
    n.late (subst (ComesAfter before) (sym same) (comes_after before l.line l.more (subst AreKeyLines l.is good.rise)))

-- where a bad line's line feed is, or would be
pub record Closed (text : List ℕ) (before : List KeyLine) (bad : List ℕ) : Type 0 where
  pub more : List ℕ
  pub is : text ++ 10 ∷ [] ≡ script_text before ++ (bad ++ 10 ∷ more)

closed : (text : List ℕ) (before : List KeyLine) (bad rest : List ℕ) → EndsBefore bad rest → text ≡ script_text before ++ (bad ++ rest) → Closed text before bad
closed text before bad rest ends e = record { more = past rest; is = ap (λ (z : List ℕ). z ++ 10 ∷ []) e ∙ append_assoc (script_text before) (bad ++ rest) (10 ∷ []) ∙ ap (λ (z : List ℕ). script_text before ++ z) (append_assoc bad rest (10 ∷ []) ∙ ap (λ (z : List ℕ). bad ++ z) (feed rest ends)) } where
  past : List ℕ → List ℕ
  past [] = []
  past (b ∷ bs) = bs ++ 10 ∷ []

  feed : (r : List ℕ) → EndsBefore bad r → r ++ 10 ∷ [] ≡ 10 ∷ past r
  feed [] h = refl
  feed (b ∷ bs) h = ap (λ (z : ℕ). z ∷ (bs ++ 10 ∷ [])) h

longest_once : (text : List ℕ) (m n : ℕ) → IsLongest text m → IsLongest text n → m ≤ n
longest_once text m n x y = y.longest m x.within x.front

column_once : (text : List ℕ) (c d : ℕ) → IsNoLine text c → IsNoLine text d → c ≡ d
column_once text c d x y =
    let l : x.count ≤ y.count = longest_once text x.count y.count x.longest y.longest in
    let m : y.count ≤ x.count = longest_once text y.count x.count y.longest x.longest in
    let e : c ≡ x.count + 1 = x.is in
    let f : d ≡ y.count + 1 = y.is in
    omega arith

one_column : (a b : List KeyLine) (text : List ℕ) (c d : ℕ) → IsNoLine text c ⊎ IsLate a text c → IsNoLine text d ⊎ IsLate b text d → c ≡ d
one_column a b text c d (inl x) (inl y) = column_once text c d x y
one_column a b text c d (inl x) (inr y) = absurd (x.none y.line y.good y.is)
one_column a b text c d (inr x) (inl y) = absurd (y.none x.line x.good x.is)
one_column a b text c d (inr x) (inr y) = x.first ∙ sym y.first

-- the first bad line is one, at one column
pub one_bad : (text : List ℕ) (l c m d : ℕ) → IsFirstBadAt text l c → IsFirstBadAt text m d → (l ≡ m) × (c ≡ d)
one_bad text l c m d x y = one (fork x.before y.before x.bad p.more y.bad q.more x.good.each y.good.each x.plain y.plain (sym p.is ∙ q.is)) where
  p : Closed text x.before x.bad
  p = closed text x.before x.bad x.rest x.ends x.is

  q : Closed text y.before y.bad
  q = closed text y.before y.bad y.rest y.ends y.is

  one : ((x.before ≡ y.before) × (x.bad ≡ y.bad)) ⊎ Longer x.before y.before x.bad ⊎ Longer y.before x.before y.bad → (l ≡ m) × (c ≡ d)
  one (inl s) =
      let P : List ℕ → Type 0 = λ z. IsNoLine z c ⊎ IsLate x.before z c in
      (x.number ∙ ap (λ (z : List KeyLine). length z + 1) s.0 ∙ sym y.number, one_column x.before y.before y.bad c d (subst P s.1 x.why) y.why)
  one (inr (inl s)) = absurd (not_bad x.before y.before x.bad c y.good s x.why)
  one (inr (inr s)) = absurd (not_bad y.before x.before y.bad d x.good s y.why)

-- a script has none
pub none_bad : (text : List ℕ) (lines : List KeyLine) (line column : ℕ) → IsScript text lines → IsFirstBadAt text line column → ⊥
none_bad text lines line column x y = one x.is where
  ended : (rest : List ℕ) → EndsBefore y.bad rest → text ≡ script_text y.before ++ (y.bad ++ rest) → text ≡ script_text lines → ⊥
  ended [] h e t = no_tail y.before lines y.bad y.good.each x.good.each y.plain h (ap (λ (z : List ℕ). script_text y.before ++ z) (sym (append-nil y.bad)) ∙ sym e ∙ t)
  ended (b ∷ bs) h e t =
      let f : script_text y.before ++ (y.bad ++ 10 ∷ bs) ≡ script_text lines = ap (λ (z : ℕ). script_text y.before ++ (y.bad ++ z ∷ bs)) (sym h) ∙ sym e ∙ t in
      not_bad y.before lines y.bad column x.good (inside y.before lines y.bad bs y.good.each x.good.each y.plain f) y.why

  one : (text ≡ script_text lines) ⊎ (text ++ 10 ∷ [] ≡ script_text lines) → ⊥
  one (inl t) = ended y.rest y.ends y.is t
  one (inr t) =
      let p = closed text y.before y.bad y.rest y.ends y.is in
      not_bad y.before lines y.bad column x.good (inside y.before lines y.bad p.more y.good.each x.good.each y.plain (sym p.is ∙ t)) y.why

-- and is that of one list of lines
no_longer : (a b : List KeyLine) → All IsLine b → Longer a b [] → ⊥
no_longer a b g l = line_some l.line (mid_line a l.line l.more (subst (All IsLine) l.is g)) l.text

text_once : (a b : List KeyLine) → All IsLine a → All IsLine b → script_text a ≡ script_text b → a ≡ b
text_once a b ga gb e = one (fork a b [] [] [] [] ga gb tt tt (ap (λ (z : List ℕ). z ++ 10 ∷ []) e)) where
  one : ((a ≡ b) × (◌≡◌ {A = List ℕ} [] [])) ⊎ Longer a b [] ⊎ Longer b a [] → a ≡ b
  one (inl r) = r.0
  one (inr (inl l)) = absurd (no_longer a b gb l)
  one (inr (inr l)) = absurd (no_longer b a ga l)

open_once : (text : List ℕ) (a b : List KeyLine) → All IsLine a → All IsLine b → text ≡ script_text a → text ++ 10 ∷ [] ≡ script_text b → ⊥
open_once text a b ga gb e f = no_longer a b gb (inside a b [] [] ga gb tt (ap (λ (z : List ℕ). z ++ 10 ∷ []) (sym e) ∙ f))

pub one_script : (text : List ℕ) (a b : List KeyLine) → IsScript text a → IsScript text b → a ≡ b
one_script text a b x y = one x.is y.is where
  one : (text ≡ script_text a) ⊎ (text ++ 10 ∷ [] ≡ script_text a) → (text ≡ script_text b) ⊎ (text ++ 10 ∷ [] ≡ script_text b) → a ≡ b
  one (inl e) (inl f) = text_once a b x.good.each y.good.each (sym e ∙ f)
  one (inl e) (inr f) = absurd (open_once text a b x.good.each y.good.each e f)
  one (inr e) (inl f) = absurd (open_once text b a y.good.each x.good.each f e)
  one (inr e) (inr f) = text_once a b x.good.each y.good.each (sym e ∙ f)
