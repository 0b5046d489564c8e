-- What a step of the loop over names, over digits and over bytes keeps.
use Rattle.std.proofs.Common.{ℕ, zero, suc, ◌≡◌, ◌≢◌, ◌<◌, ◌≤◌, ◌+◌, ◌-◌, ◌*◌, ◌/◌, ◌%◌, ◌^◌, true, false, List, [], ◌∷◌, ◌++◌, length, take, drop, get_or, length-drop, Result, Ok, Err, refl, sym, ap, ◌∙◌, arith, inl, inr, ◌⊎◌, subst, append_assoc, length-append}
use Rattle.ds_base.specs.Texts.{HasNoFeed}
use Rattle.std.proofs.lemmas.Bool.{cases_eq, and_left, and_right, ne_eqb, and_from, eq-eqb}
use Rattle.std.proofs.lemmas.List.{drop_all, drop-drop, append-nil, take_more, drop_more, get_or_at, get_or_append_left}
use Rattle.std.proofs.lemmas.List.Elements.{All-push}
use Rattle.std.proofs.lemmas.Fmt.{decimal_digit, decimal_step}
use Rattle.std.proofs.Math.Nat.{mul-add, mul_left_comm, mul_assoc, pow-suc, pow-le-pow_right}
use Rattle.std.specs.Prelude.{◌==◌}
use Rattle.std.specs.Fmt.{decimal}
use Prim.Native.Nat.{max}
use Rattle.ds_base.specs.KeyLines.{no_line, line_at, AreKeyLines, ComesAfter}
use Rattle.ds_base.specs.declared.keys.KeyLine.{KeyLine}
use Rattle.ds_base.proofs.Choices.{zero_or_more}
use Rattle.nds_words.specs.Scripts.{key_names, line_text, script_text, IsLine, AreLines, IsScript, IsFirstBadAt, IsNoLine, IsLate}
use Rattle.nds_words.specs.Reader.Names.{common, may_end, stands, after_name, passed, names_from, outcome}
use Rattle.nds_words.specs.Reader.Lines.{IsNamed}
use Rattle.nds_words.specs.Reader.Lines.{some, further}
use Rattle.nds_words.specs.Reader.Scripts.{AreRead, IsParted}

same_ok : (m n : ℕ) → m ≡ n → ◌≡◌ {A = Result ℕ ℕ} (Ok m) (Ok n)
same_ok m n e = rw e refl

same_err : (m n : ℕ) → m ≡ n → ◌≡◌ {A = Result ℕ ℕ} (Err m) (Err n)
same_err m n e = rw e refl

-- a name that was taken, and one that wasn't
outcome_taken : (bits weight at reached count : ℕ) (r : Result ℕ ℕ) → outcome bits weight at reached (after_name count r) ≡ outcome (bits + weight) (2 * weight) (at + count) (max reached (at + count)) r
outcome_taken bits weight at reached count (Ok b) = same_ok _ _ (omega (arith, mul-add weight 1 (2 * b), mul_left_comm weight 2 b, mul_assoc 2 weight b))
outcome_taken bits weight at reached count (Err n) = same_err (max reached (at + (count + n))) (max (max reached (at + count)) (at + count + n)) (grind arith)

outcome_passed : (bits weight at reached count : ℕ) (r : Result ℕ ℕ) → outcome bits weight at reached (passed count r) ≡ outcome bits (2 * weight) at (max reached (at + count)) r
outcome_passed bits weight at reached count (Ok b) = same_ok _ _ (omega (arith, mul_left_comm weight 2 b, mul_assoc 2 weight b))
outcome_passed bits weight at reached count (Err n) = same_err (max reached (at + max count n)) (max (max reached (at + count)) (at + n)) (grind arith)

pub doubled : (k : ℕ) → 2 ^ (k + 1) ≡ 2 * 2 ^ k
doubled k = let e : k + 1 ≡ suc k = omega arith in rw e (pow-suc 2 k ∙ omega arith)

-- the names from one on
pub name_first : (key : ℕ) → key < 12 → drop key key_names ≡ get_or key_names key [] ∷ drop (key + 1) key_names
unfolding key_names
name_first key h = drop_more key_names key [] h

module _ (bits key at reached mark : ℕ) (line name : List ℕ) (in' : key < 12) (is : name ≡ get_or key_names key []) where
  names_first : drop key key_names ≡ name ∷ drop (key + 1) key_names
  names_first = name_first key in' ∙ ap (λ (z : List ℕ). z ∷ drop (key + 1) key_names) (sym is)

  pub name_taken : stands (mark ∷ name) (drop at line) ≡ true → drop (length (mark ∷ name)) (drop at line) ≡ drop (at + length (mark ∷ name)) line →
      outcome bits (2 ^ key) at reached (names_from mark (drop key key_names) (drop at line)) ≡ outcome (bits + 2 ^ key) (2 ^ (key + 1)) (at + length (mark ∷ name)) (max reached (at + length (mark ∷ name))) (names_from 43 (drop (key + 1) key_names) (drop (at + length (mark ∷ name)) line))
  name_taken h d =
      rw (names_first, h)
      (rw (d, doubled key) (outcome_taken bits (2 ^ key) at reached (length (mark ∷ name)) (names_from 43 (drop (key + 1) key_names) (drop (at + length (mark ∷ name)) line))))

  pub name_passed : stands (mark ∷ name) (drop at line) ≡ false →
      outcome bits (2 ^ key) at reached (names_from mark (drop key key_names) (drop at line)) ≡ outcome bits (2 ^ (key + 1)) at (max reached (at + common (mark ∷ name) (drop at line))) (names_from mark (drop (key + 1) key_names) (drop at line))
  name_passed h =
      rw (names_first, h)
      (rw (doubled key) (outcome_passed bits (2 ^ key) at reached (common (mark ∷ name) (drop at line)) (names_from mark (drop (key + 1) key_names) (drop at line))))

-- a digit more
pub digit_more : (line : List ℕ) (count tick : ℕ) → count < length line → count < 11 → tick < 10 ^ count → (0 < count → take count line ≡ decimal tick) → (0 < count → 0 < tick) → 48 ≤ get_or line count 0 → get_or line count 0 ≤ 57 → take (count + 1) line ≡ decimal (tick * 10 + (get_or line count 0 - 48))
digit_more line count tick h few range text grown low high = one (zero_or_more count) where
  digit : ℕ
  digit = get_or line count 0

  early : tick < 10 ^ 11
  early = let k : count ≤ 11 = omega arith in let p : 10 ^ count ≤ 10 ^ 11 = pow-le-pow_right (omega arith) k in omega arith

  one : (count ≡ 0) ⊎ (0 < count) → take (count + 1) line ≡ decimal (tick * 10 + (get_or line count 0 - 48))
  one (inl z) =
      let t : tick < 10 ^ 0 = subst (λ (n : ℕ). tick < 10 ^ n) z range in
      let n : tick * 10 + (get_or line count 0 - 48) ≡ get_or line count 0 - 48 = omega arith in
      let c : 48 + (get_or line count 0 - 48) ≡ get_or line count 0 = omega arith in
      take_more line count 0 h
      ∙ ap (λ (n : ℕ). take n line ++ get_or line count 0 ∷ []) z
      ∙ ap (λ (n : ℕ). n ∷ []) (sym c)
      ∙ sym (decimal_digit (get_or line count 0 - 48) (omega arith))
      ∙ ap decimal (sym n)
  one (inr p) =
      let q : 0 < tick = grown p in
      let t : tick < 10 ^ 11 = early in
      let n : (tick * 10 + (get_or line count 0 - 48)) / 10 ≡ tick = omega arith in
      let m : 48 + (tick * 10 + (get_or line count 0 - 48)) % 10 ≡ get_or line count 0 = omega arith in
      take_more line count 0 h
      ∙ ap (λ (z : List ℕ). z ++ get_or line count 0 ∷ []) (text p ∙ ap decimal (sym n))
      ∙ ap (λ (z : ℕ). decimal ((tick * 10 + (get_or line count 0 - 48)) / 10) ++ z ∷ []) (sym m)
      ∙ sym (decimal_step (tick * 10 + (get_or line count 0 - 48)) (omega arith) (omega arith))

pub digits_room : (tick count digit : ℕ) → count < 11 → tick < 10 ^ count → digit ≤ 9 → (tick * 10 + digit < 10 ^ (count + 1)) × (tick * 10 + digit < 2 ^ 64)
digits_room tick count digit few h d =
    let e : count + 1 ≡ suc count = omega arith in
    let p : 10 ^ (count + 1) ≡ 10 ^ count * 10 = rw e (pow-suc 10 count) in
    let k : count ≤ 10 = omega arith in
    let q : 10 ^ count ≤ 10 ^ 10 = pow-le-pow_right (omega arith) k in
    (omega arith, omega arith)

-- a byte more that is no line feed
pub plain_more : (text : List ℕ) (end : ℕ) → end < length text → HasNoFeed (take end text) → get_or text end 0 ≢ 10 → HasNoFeed (take (end + 1) text)
plain_more [] end h p n = absurd (omega arith)
plain_more (b ∷ text) zero h p n = (n, tt)
plain_more (b ∷ text) (suc end) h p n = let e : suc end + 1 ≡ suc (end + 1) = omega arith in rw e (p.0, plain_more text end (omega arith) p.1 n)

-- a line more
text_push : (lines : List KeyLine) (line : KeyLine) → script_text (lines ++ line ∷ []) ≡ script_text lines ++ (line_text line ++ 10 ∷ [])
text_push [] line = refl
text_push (k ∷ lines) line =
    ap (λ (z : List ℕ). line_text k ++ 10 ∷ z) (text_push lines line)
    ∙ sym (append_assoc (line_text k) (10 ∷ script_text lines) (line_text line ++ 10 ∷ []))

pub read_more : (text : List ℕ) (lines : List KeyLine) (rest line more : List ℕ) (k : KeyLine) → rest ≢ [] → AreRead text lines rest → IsParted rest line more → line ≡ line_text k → AreRead text (lines ++ k ∷ []) more
read_more text lines rest line more k some (inr r) p e = absurd (some r.0)
read_more text lines rest line more k some (inl r) (inl p) e = inl (
    r
    ∙ ap (λ (z : List ℕ). script_text lines ++ z) (p ∙ ap (λ (z : List ℕ). z ++ 10 ∷ more) e ∙ sym (append_assoc (line_text k) (10 ∷ []) more))
    ∙ sym (append_assoc (script_text lines) (line_text k ++ 10 ∷ []) more)
    ∙ ap (λ (z : List ℕ). z ++ more) (sym (text_push lines k)))
read_more text lines rest line more k some (inl r) (inr p) e = inr (
  p.0,
  ap (λ (z : List ℕ). z ++ 10 ∷ []) (r ∙ ap (λ (z : List ℕ). script_text lines ++ z) (p.1 ∙ e))
      ∙ append_assoc (script_text lines) (line_text k) (10 ∷ [])
      ∙ sym (text_push lines k),
)

push_before : (lines : List KeyLine) (line : KeyLine) (at : ℕ) → at < length lines → line_at (lines ++ line ∷ []) at ≡ line_at lines at
push_before lines line at h = get_or_append_left lines (line ∷ []) no_line at h

push_last : (lines : List KeyLine) (line : KeyLine) (at : ℕ) → at ≡ length lines → line_at (lines ++ line ∷ []) at ≡ line
push_last lines line at h = get_or_at lines line [] no_line at (sym h)

rise_push : (lines : List KeyLine) (line : KeyLine) → AreKeyLines lines → ComesAfter lines line → line.pressed < 2 ^ 12 → AreKeyLines (lines ++ line ∷ [])
rise_push lines line good after twelve = record { rising = rising; twelve = all } where
  long : length (lines ++ line ∷ []) ≡ length lines + 1
  long = length-append lines (line ∷ [])

  rising_at : (at : ℕ) → at + 1 < length (lines ++ line ∷ []) → (at + 1 ≡ length lines) ⊎ (at + 1 ≡ length lines → ⊥) → (line_at (lines ++ line ∷ []) at).tick.0 < (line_at (lines ++ line ∷ []) (at + 1)).tick.0
  rising_at at h (inl e) =
      let z : length lines - 1 ≡ at = omega arith in
      rw (push_before lines line at (omega arith), push_last lines line (at + 1) e) (subst (λ (n : ℕ). (line_at lines n).tick.0 < line.tick.0) z (after (omega arith)))
  rising_at at h (inr n) =
      let l : at + 1 < length lines = grind (arith, h, long, n) in
      rw (push_before lines line at (omega arith), push_before lines line (at + 1) l) (good.rising at l)

  rising : (at : ℕ) → at + 1 < length (lines ++ line ∷ []) → (line_at (lines ++ line ∷ []) at).tick.0 < (line_at (lines ++ line ∷ []) (at + 1)).tick.0
  rising at h = rising_at at h (cases_eq (at + 1) (length lines))

  all_at : (at : ℕ) → at < length (lines ++ line ∷ []) → (at ≡ length lines) ⊎ (at ≡ length lines → ⊥) → (line_at (lines ++ line ∷ []) at).pressed < 2 ^ 12
  all_at at h (inl e) = rw (push_last lines line at e) twelve
  all_at at h (inr n) =
      let l : at < length lines = grind (arith, h, long, n) in
      rw (push_before lines line at l) (good.twelve at l)

  all : (at : ℕ) → at < length (lines ++ line ∷ []) → (line_at (lines ++ line ∷ []) at).pressed < 2 ^ 12
  all at h = all_at at h (cases_eq at (length lines))

pub lines_more : (lines : List KeyLine) (line : KeyLine) → AreLines lines → IsLine line → ComesAfter lines line → AreLines (lines ++ line ∷ [])
lines_more lines line good own after = record { each = All-push IsLine lines line good.each own; rise = rise_push lines line good.rise after own.twelve }

-- the end of the script, and a bad line
pub read_all : (text : List ℕ) (lines : List KeyLine) → AreLines lines → AreRead text lines [] → IsScript text lines
read_all text lines good (inl r) = record { good = good; is = inl (r ∙ append-nil (script_text lines)) }
read_all text lines good (inr r) = record { good = good; is = inr r.1 }

pub bad_line : (text : List ℕ) (lines : List KeyLine) (rest line more : List ℕ) (number column : ℕ) → rest ≢ [] → AreLines lines → AreRead text lines rest → IsParted rest line more → HasNoFeed line → number ≡ length lines + 1 → IsNoLine line column ⊎ IsLate lines line column → IsFirstBadAt text number column
bad_line text lines rest line more number column some good (inr r) p n e w = absurd (some r.0)
bad_line text lines rest line more number column some good (inl r) (inl p) n e w = record {
  before = lines;
  good = good;
  bad = line;
  plain = n;
  rest = 10 ∷ more;
  ends = refl;
  is = r ∙ ap (λ (z : List ℕ). script_text lines ++ z) p;
  number = e;
  why = w;
}
bad_line text lines rest line more number column some good (inl r) (inr p) n e w = record {
  before = lines;
  good = good;
  bad = line;
  plain = n;
  rest = [];
  ends = λ h. some (p.1 ∙ h);
  is = r ∙ ap (λ (z : List ℕ). script_text lines ++ z) (p.1 ∙ sym (append-nil line));
  number = e;
  why = w;
}

pub parted_less : (rest line more : List ℕ) → 0 < length rest → IsParted rest line more → length more + 1 ≤ length rest
parted_less rest line more some (inl p) = omega (arith, ap length p, length-append line (10 ∷ more))
parted_less rest line more some (inr p) = omega (arith, ap length p.0)

pub some_left : (rest : List ℕ) → 0 < length rest → rest ≢ []
some_left rest h e = absurd (omega (arith, ap length e))

-- a text that ends before a piece does
common_none : (piece : List ℕ) → common piece [] ≡ 0
common_none [] = refl
common_none (p ∷ piece) = refl

pub common_ended : (piece text : List ℕ) (count : ℕ) → length text ≤ count → count + common (drop count piece) (drop count text) ≡ common piece text → count ≡ common piece text
common_ended piece text count h e =
    let d : drop count text ≡ [] = drop_all count text h in
    let f = rw d at e in
    omega (arith, f, common_none (drop count piece))

-- a step of the loop over names
pub step_taken : (line name : List ℕ) (from bits key at reached mark count : ℕ) → key < 12 → name ≡ get_or key_names key [] → length name ≤ 6 → count ≡ common (mark ∷ name) (drop at line) → count ≡ length name + 1 → may_end (drop (at + count) line) ≡ true → at + count ≤ length line →
    IsNamed line from bits key at reached mark → IsNamed line from (bits + 2 ^ key) (key + 1) (at + count) (max reached (at + count)) 43
unfolding stands
step_taken line name from bits key at reached mark count in' is short c whole ends within i =
    let piece : List ℕ = mark ∷ name in
    let k : length piece ≡ count = omega arith in
    let d : drop (length piece) (drop at line) ≡ drop (at + length piece) line = drop-drop (length piece) at line in
    let e : may_end (drop (length piece) (drop at line)) ≡ true = ap may_end (d ∙ ap (λ (n : ℕ). drop (at + n) line) k) ∙ ends in
    let h : stands (mark ∷ name) (drop at line) ≡ true = and_from _ _ (eq-eqb _ _ (sym c ∙ sym k)) e in
    let s = name_taken bits key at reached mark line name in' is h d in
    let t = rw k at s in
    let b : bits < 2 ^ key = i.fits in
    let o : at ≤ reached = i.after in
    let r : reached ≤ length line = i.inside in
    let f : reached ≤ from + 7 * key = i.few in
    record {
      keys = omega arith;
      within = within;
      after = grind arith;
      inside = grind (arith, within, r);
      few = grind (arith, f, o, short, whole);
      fits = omega (arith, doubled key);
      unmoved = λ z. absurd (omega (arith, z, b));
      begin = omega (arith, i.begin);
      same = sym t ∙ i.same;
    }

pub step_passed : (line name : List ℕ) (from bits key at reached mark count : ℕ) → key < 12 → name ≡ get_or key_names key [] → length name ≤ 6 → count ≡ common (mark ∷ name) (drop at line) → count ≤ length name + 1 → at + count ≤ length line → stands (mark ∷ name) (drop at line) ≡ false →
    IsNamed line from bits key at reached mark → IsNamed line from bits (key + 1) at (max reached (at + count)) mark
step_passed line name from bits key at reached mark count in' is short c few within h i =
    let s = name_passed bits key at reached mark line name in' is h in
    let t = rw (sym c) at s in
    let b : bits < 2 ^ key = i.fits in
    let o : at ≤ reached = i.after in
    let r : reached ≤ length line = i.inside in
    let f : reached ≤ from + 7 * key = i.few in
    record {
      keys = omega arith;
      within = i.within;
      after = grind (arith, o);
      inside = grind (arith, within, r);
      few = grind (arith, f, o, short, few);
      fits = omega (arith, doubled key);
      unmoved = i.unmoved;
      begin = i.begin;
      same = sym t ∙ i.same;
    }

pub stands_less : (mark : ℕ) (name text : List ℕ) (count : ℕ) → count ≡ common (mark ∷ name) text → (count ≡ length name + 1 → ⊥) → stands (mark ∷ name) text ≡ false
unfolding stands
stands_less mark name text count c h = and_left (common (mark ∷ name) text == length (mark ∷ name)) (may_end (drop (length (mark ∷ name)) text)) (ne_eqb (common (mark ∷ name) text) (length (mark ∷ name)) (λ (e : common (mark ∷ name) text ≡ length (mark ∷ name)). h (omega arith)))

pub stands_on : (mark : ℕ) (name line : List ℕ) (at count : ℕ) → count ≡ length name + 1 → may_end (drop (at + count) line) ≡ false → stands (mark ∷ name) (drop at line) ≡ false
unfolding stands
stands_on mark name line at count c h =
    let k : length (mark ∷ name) ≡ count = omega arith in
    and_right _ _ (ap may_end (drop-drop (length (mark ∷ name)) at line ∙ ap (λ (n : ℕ). drop (at + n) line) k) ∙ h)

-- its end
names_over : (key : ℕ) → key ≤ 12 → 12 ≤ key → drop key key_names ≡ []
unfolding key_names
names_over key low high = let e : key ≡ 12 = omega arith in rw e refl

ok_at : (bits weight from : ℕ) (r : Result ℕ ℕ) → ◌≡◌ {A = Result ℕ ℕ} (Ok (bits + weight * 0)) (outcome 0 1 from from r) → r ≡ Ok bits
ok_at bits weight from (Ok b) e = let f : bits + weight * 0 ≡ 0 + 1 * b = cc in same_ok b bits (omega (arith, f))
ok_at bits weight from (Err n) e = absurd cc

err_at : (at reached from : ℕ) (r : Result ℕ ℕ) → at ≤ reached → from ≤ at → ◌≡◌ {A = Result ℕ ℕ} (Err (max reached (at + 0))) (outcome 0 1 from from r) → ◌≡◌ {A = Result ℕ ℕ} (Err reached) (further from (some r))
err_at at reached from (Ok b) h k e = absurd cc
err_at at reached from (Err n) h k e = let f : max reached (at + 0) ≡ max from (from + n) = cc in same_err reached (from + n) (grind (arith, f, h))

module _ (line : List ℕ) (from bits key at reached mark : ℕ) (i : IsNamed line from bits key at reached mark) (over : 12 ≤ key) where
  ended : (x : List ℕ) → drop at line ≡ x → outcome bits (2 ^ key) at reached (names_from mark [] x) ≡ outcome 0 1 from from (names_from 32 key_names (drop from line))
  ended x e =
      ap (λ (z : List ℕ). outcome bits (2 ^ key) at reached (names_from mark [] z)) (sym e)
      ∙ ap (λ (z : List (List ℕ)). outcome bits (2 ^ key) at reached (names_from mark z (drop at line))) (sym (names_over key i.keys over))
      ∙ i.same

  pub end_ok : at ≡ length line → (bits ≡ 0 → ⊥) → ◌≡◌ {A = Result ℕ ℕ} (Ok bits) (further from (some (names_from 32 key_names (drop from line))))
  end_ok e h =
      let d : drop at line ≡ [] = drop_all at line (omega arith) in
      let r = ok_at bits (2 ^ key) from (names_from 32 key_names (drop from line)) (ended [] d) in
      rw (r, ne_eqb bits 0 h) refl

  pub end_err : (at ≡ length line → bits ≡ 0) → ◌≡◌ {A = Result ℕ ℕ} (Err reached) (further from (some (names_from 32 key_names (drop from line))))
  end_err h = one (drop at line) refl where
    within : at ≤ length line
    within = i.within

    one : (x : List ℕ) → drop at line ≡ x → ◌≡◌ {A = Result ℕ ℕ} (Err reached) (further from (some (names_from 32 key_names (drop from line))))
    one [] e =
        let l : length (drop at line) ≡ 0 = ap length e in
        let m : at ≡ length line = omega (arith, l, length-drop at line) in
        let z : bits ≡ 0 = h m in
        let u : at ≡ from = i.unmoved z in
        let o : at ≤ reached = i.after in
        let q : reached ≤ length line = i.inside in
        let r = ok_at bits (2 ^ key) from (names_from 32 key_names (drop from line)) (ended [] e) in
        rw (r, eq-eqb bits 0 z) (same_err reached (from + 0) (omega arith))
    one (c ∷ x) e = err_at at reached from (names_from 32 key_names (drop from line)) i.after i.begin (ended (c ∷ x) e)
