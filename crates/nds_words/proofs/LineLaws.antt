-- Lines: what is read of one is right, and a line's text is read as it.
use Rattle.std.proofs.Common.{ℕ, zero, suc, ◌≡◌, ◌≢◌, ◌<◌, ◌≤◌, ◌+◌, ◌-◌, ◌^◌, List, [], ◌∷◌, ◌++◌, length, take, drop, Result, Ok, Err, refl, sym, ap, ◌∙◌, arith, inl, inr, ◌⊎◌, subst, append_assoc, length-append, length-drop}
use Rattle.std.proofs.lemmas.Bool.{cases_lt}
use Rattle.std.proofs.lemmas.List.{append-nil, take-append-drop, length-take-le}
use Rattle.std.proofs.lemmas.Fmt.{decimal_nonempty, decimal_injective}
use Rattle.std.specs.Prelude.{slice_index}
use Rattle.std.specs.Fmt.{decimal}
use Rattle.ds_base.specs.declared.keys.KeyLine.{KeyLine}
use Rattle.nds_words.specs.Scripts.{keys_text, line_text, IsLine, IsLineFront, IsLongest, IsNoLine}
use Rattle.nds_words.specs.Reader.Ticks.{IsTick}
use Rattle.nds_words.specs.Reader.Lines.{keys_from, further}
use Rattle.std.proofs.Math.Nat.{pow-le-pow_right}
use Rattle.nds_words.proofs.NameLaws.{Gives, Fails, Over, over}
use Rattle.nds_words.proofs.NamesRead.{take_over}
use Rattle.nds_words.proofs.DigitLaws.{AreDigits, NoDigit, decimal_digits, digit_or, digits_split, no_more}
use Rattle.nds_words.proofs.KeyLaws.{ok_no_err, AreKeys, AreBegun, keys_sound, keys_begun, keys_most, keys_again, keys_space}

-- a line of a tick and keys
abbrev pub line_of : ℕ → ℕ → KeyLine
line_of tick pressed = record { tick = record { 0 = tick }; pressed = pressed }

-- no digit begins the keys
space_first : (text : List ℕ) → take 1 text ≡ 32 ∷ [] → NoDigit text
space_first [] e = tt
space_first (c ∷ text) e = λ low high. (let s : c ≡ 32 = cc in absurd (omega arith))

pub keys_no_digit : (bits : ℕ) → bits < 2 ^ 12 → NoDigit (keys_text bits)
keys_no_digit bits h = space_first (keys_text bits) (keys_space bits h)

-- what stands in a line after a tick that was read
pub record Parts (line : KeyLine) (tick : ℕ) (x : List ℕ) : Type 0 where
  pub same : decimal line.tick.0 ≡ decimal tick
  pub keys : keys_text line.pressed ≡ x

parts : (line : KeyLine) (tick count : ℕ) (x : List ℕ) → IsLine line → tick < 10 ^ 11 → length (decimal tick) ≡ count → line_text line ≡ decimal tick ++ x →
    ((c : ℕ) (y : List ℕ) → x ≡ c ∷ y → 48 ≤ c → c ≤ 57 → (count ≡ 11) ⊎ ((count ≡ 1) × (tick ≡ 0))) → Parts line tick x
parts line tick count x good early long e starts = one x refl where
  low : line.tick.0 < 10 ^ 11
  low = good.early

  split : NoDigit x → Parts line tick x
  split n =
      let s = digits_split (decimal line.tick.0) (decimal tick) (keys_text line.pressed) x (decimal_digits line.tick.0 (let l : line.tick.0 < 10 ^ 11 = low in omega arith)) (decimal_digits tick (omega arith)) (keys_no_digit line.pressed good.twelve) n e in
      record { same = s.0; keys = s.1 }

  two : (c : ℕ) (y : List ℕ) → x ≡ c ∷ y → ((48 ≤ c) × (c ≤ 57)) ⊎ (48 ≤ c → c ≤ 57 → ⊥) → Parts line tick x
  two c y q (inl d) = absurd (no_more line.tick.0 tick count (keys_text line.pressed) y c low early long (keys_no_digit line.pressed good.twelve) d.0 d.1 (e ∙ ap (λ (z : List ℕ). decimal tick ++ z) q) (starts c y q d.0 d.1))
  two c y q (inr n) = split (subst NoDigit (sym q) n)

  one : (z : List ℕ) → x ≡ z → Parts line tick x
  one [] q = split (subst NoDigit (sym q) tt)
  one (c ∷ y) q = two c y q (digit_or c)

-- a result, seen from further back
further_ok : (count bits : ℕ) (r : Result ℕ ℕ) → Ok bits ≡ further count r → r ≡ Ok bits
further_ok count bits (Ok b) e = sym e
further_ok count bits (Err n) e = absurd cc

pub record Later (count most : ℕ) (r : Result ℕ ℕ) : Type 0 where
  pub more : ℕ
  pub sum : most ≡ count + more
  pub is : r ≡ Err more

further_err : (count most : ℕ) (r : Result ℕ ℕ) → Err most ≡ further count r → Later count most r
further_err count most (Ok b) e = absurd cc
further_err count most (Err n) e = record { more = n; sum = cc; is = refl }

byte_at : (text : List ℕ) (count c : ℕ) (y : List ℕ) → drop count text ≡ c ∷ y → (count < length text) × (slice_index text count ≡ c)
byte_at [] zero c y e = absurd cc
byte_at [] (suc count) c y e = absurd cc
byte_at (b ∷ text) zero c y e = let s : b ≡ c = cc in (omega arith, s)
byte_at (b ∷ text) (suc count) c y e = let r = byte_at text count c y e in (omega (arith, r.0), r.1)

head_of : (f s r y : List ℕ) (c : ℕ) → 0 < length f → f ++ r ≡ c ∷ y → take 1 (f ++ s) ≡ c ∷ []
head_of [] s r y c h e = absurd (omega arith)
head_of (b ∷ f) s r y c h e = let q : b ≡ c = cc in ap (λ (z : ℕ). z ∷ []) q

headed : (text : List ℕ) (c : ℕ) → take 1 text ≡ c ∷ [] → text ≡ c ∷ drop 1 text
headed [] c e = absurd cc
headed (b ∷ text) c e = let q : b ≡ c = cc in ap (λ (z : ℕ). z ∷ text) q

-- the first of some digits
pub record First (ds : List ℕ) : Type 0 where
  pub first : ℕ
  pub rest : List ℕ
  pub is : ds ≡ first ∷ rest
  pub low : 48 ≤ first
  pub high : first ≤ 57

first_digit : (ds : List ℕ) → 0 < length ds → AreDigits ds → First ds
first_digit [] h k = absurd (omega arith)
first_digit (c ∷ ds) h k = record { first = c; rest = ds; is = refl; low = k.0; high = k.1 }

same_ok : (m n : ℕ) → ◌≡◌ {A = Result ℕ ℕ} (Ok m) (Ok n) → m ≡ n
same_ok m n e = cc

module _ (text : List ℕ) (tick count : ℕ) (is : IsTick text tick count) where
  few : count ≤ 11
  few = is.few

  within : count ≤ length text
  within = is.within

  tick_early : tick < 10 ^ 11
  tick_early = let p : 10 ^ count ≤ 10 ^ 11 = pow-le-pow_right (omega arith) few in let l : tick < 10 ^ count = is.in_range in omega arith

  tick_text : 0 < count → take count text ≡ decimal tick
  tick_text some = is.text some

  whole : 0 < count → text ≡ decimal tick ++ drop count text
  whole some = sym (take-append-drop count text) ∙ ap (λ (z : List ℕ). z ++ drop count text) (tick_text some)

  tick_long : 0 < count → length (decimal tick) ≡ count
  tick_long some = sym (ap length (tick_text some)) ∙ length-take-le count text within

  -- a digit that follows in the text says that none could follow
  starts_at : (c : ℕ) (y : List ℕ) → drop count text ≡ c ∷ y → 48 ≤ c → c ≤ 57 → (count ≡ 11) ⊎ ((count ≡ 1) × (tick ≡ 0))
  starts_at c y e low high =
      let b = byte_at text count c y e in
      let at : slice_index text count ≡ c = b.1 in
      is.end b.0 (omega arith) (omega arith)

  -- a line that goes on as the text, or is it
  tick_of : 0 < count → (line : KeyLine) (x : List ℕ) → IsLine line → line_text line ≡ decimal tick ++ x → ((c : ℕ) (y : List ℕ) → x ≡ c ∷ y → take 1 (drop count text) ≡ c ∷ []) → Parts line tick x
  tick_of some line x good e heads = parts line tick count x good tick_early (tick_long some) e (λ c y q low high. starts_at c (drop 1 (drop count text)) (headed (drop count text) c (heads c y q)) low high)

  pub line_good : (bits : ℕ) → 0 < count → Ok bits ≡ further count (keys_from (drop count text)) → IsLine (line_of tick bits) × (text ≡ line_text (line_of tick bits))
  line_good bits some e =
      let k : AreKeys (drop count text) bits = subst (Gives (AreKeys (drop count text))) (further_ok count bits (keys_from (drop count text)) e) (keys_sound (drop count text)) in
      (record { early = tick_early; twelve = k.twelve }, whole some ∙ ap (λ (z : List ℕ). decimal tick ++ z) k.is)

  module _ (some : 0 < count) (more : ℕ) (e : keys_from (drop count text) ≡ Err more) where
    not_line : (line : KeyLine) → IsLine line → text ≢ line_text line
    not_line line good t =
        let p = tick_of some line (drop count text) good (sym t ∙ whole some) (λ c y q. ap (take 1) q) in
        ok_no_err line.pressed more (sym (keys_again line.pressed good.twelve) ∙ ap keys_from p.keys ∙ e)

    front : IsLineFront (take (count + more) text)
    front =
        let b : AreBegun (drop count text) more = subst (Fails (AreBegun (drop count text))) e (keys_begun (drop count text)) in
        record {
          line = line_of tick b.bits;
          good = record { early = tick_early; twelve = b.twelve };
          rest = b.rest;
          is =
              ap (λ (z : List ℕ). decimal tick ++ z) b.is
              ∙ sym (append_assoc (decimal tick) (take more (drop count text)) b.rest)
              ∙ ap (λ (z : List ℕ). z ++ b.rest) (sym (taken_over more));
        } where
          taken_over : (n : ℕ) → take (count + n) text ≡ decimal tick ++ take n (drop count text)
          taken_over n =
              ap (take (count + n)) (whole some)
              ∙ ap (λ (z : ℕ). take (z + n) (decimal tick ++ drop count text)) (sym (tick_long some))
              ∙ take_over (decimal tick) (drop count text) n

    long : (f s : List ℕ) → count < length f → Over (decimal tick) (drop count text) f s → IsLineFront f → length f ≤ count + more
    long f s l o i =
        let g : List ℕ = drop (length (decimal tick)) f in
        let n : length g ≡ length f - length (decimal tick) = length-drop (length (decimal tick)) f in
        let d : length (decimal tick) ≡ count = tick_long some in
        let h : line_text i.line ≡ decimal tick ++ (g ++ i.rest) = i.is ∙ ap (λ (z : List ℕ). z ++ i.rest) o.is ∙ append_assoc (decimal tick) g i.rest in
        let p = tick_of some i.line (g ++ i.rest) i.good h (λ c y q. ap (take 1) o.rest ∙ head_of g s i.rest y c (omega arith) q) in
        let k = keys_most (drop count text) g s i.rest i.line.pressed o.rest p.keys in
        let m : length g ≤ more = subst (Fails (λ n. length g ≤ n)) e k in
        omega arith

    fronts_end : (f s : List ℕ) → text ≡ f ++ s → IsLineFront f → length f ≤ count + more
    fronts_end f s t i = one (cases_lt count (length f)) where
      one : (count < length f) ⊎ (length f ≤ count) → length f ≤ count + more
      one (inl l) = long f s l (over (decimal tick) (drop count text) f s (sym (whole some) ∙ t) (omega (arith, tick_long some))) i
      one (inr l) = omega arith

    longest : IsLongest text (count + more)
    longest = record {
      within = (
          let b : AreBegun (drop count text) more = subst (Fails (AreBegun (drop count text))) e (keys_begun (drop count text)) in
          let w : more ≤ length (drop count text) = b.within in
          omega (arith, length-drop count text));
      front = front;
      longest = λ m h i. (
          let l : length (take m text) ≡ m = length-take-le m text h in
          let k = fronts_end (take m text) (drop m text) (sym (take-append-drop m text)) i in
          omega arith);
    }

  pub line_none : (most : ℕ) → 0 < count → Err most ≡ further count (keys_from (drop count text)) → IsNoLine text (most + 1)
  line_none most some e =
      let l = further_err count most (keys_from (drop count text)) e in
      record {
        none = not_line some l.more l.is;
        count = count + l.more;
        longest = longest some l.more l.is;
        is = ap (λ (n : ℕ). n + 1) l.sum;
      }

  -- where no digit begins the text
  no_start : count ≡ 0 → (c : ℕ) (y : List ℕ) → text ≡ c ∷ y → 48 ≤ c → c ≤ 57 → ⊥
  no_start z c y t low high = one (starts_at c y (ap (λ (n : ℕ). drop n text) z ∙ t) low high) where
    one : (count ≡ 11) ⊎ ((count ≡ 1) × (tick ≡ 0)) → ⊥
    one (inl h) = absurd (omega arith)
    one (inr h) = absurd (let k : count ≡ 1 = h.0 in omega arith)

  nothing_front : count ≡ 0 → (f s : List ℕ) → text ≡ f ++ s → IsLineFront f → length f ≤ 0
  nothing_front z [] s t i = omega arith
  nothing_front z (b ∷ f) s t i =
      let n : i.line.tick.0 < 10 ^ 11 = i.good.early in
      let d = first_digit (decimal i.line.tick.0) (decimal_nonempty i.line.tick.0 (omega arith)) (decimal_digits i.line.tick.0 (omega arith)) in
      let h : d.first ∷ (d.rest ++ keys_text i.line.pressed) ≡ b ∷ (f ++ i.rest) = ap (λ (x : List ℕ). x ++ keys_text i.line.pressed) (sym d.is) ∙ i.is in
      let q : d.first ≡ b = cc in
      let low : 48 ≤ d.first = d.low in
      let high : d.first ≤ 57 = d.high in
      absurd (no_start z b (f ++ s) t (omega arith) (omega arith))

  pub line_start : count ≡ 0 → IsNoLine text 1
  line_start z = record {
    none = λ line good t. (
        let i : IsLineFront text = record { line = line; good = good; rest = []; is = sym t ∙ sym (append-nil text) } in
        let l : length text ≤ 0 = nothing_front z text [] (sym (append-nil text)) i in
        let n : line.tick.0 < 10 ^ 11 = good.early in
        let d : 0 < length (decimal line.tick.0) = decimal_nonempty line.tick.0 (omega arith) in
        absurd (omega (arith, ap length t, length-append (decimal line.tick.0) (keys_text line.pressed))));
    count = 0;
    longest = record {
      within = omega arith;
      front = record { line = line_of 0 0; good = record { early = omega arith; twelve = omega arith }; rest = line_text (line_of 0 0); is = refl };
      longest = λ m h i. (
          let l : length (take m text) ≡ m = length-take-le m text h in
          let k = nothing_front z (take m text) (drop m text) (sym (take-append-drop m text)) i in
          omega arith);
    };
    is = omega arith;
  }

-- a line's text is that of one line
pub one_line : (a b : KeyLine) → IsLine a → IsLine b → line_text a ≡ line_text b → a ≡ b
one_line a b ga gb e =
    let m : a.tick.0 < 10 ^ 11 = ga.early in
    let n : b.tick.0 < 10 ^ 11 = gb.early in
    let s = digits_split (decimal a.tick.0) (decimal b.tick.0) (keys_text a.pressed) (keys_text b.pressed) (decimal_digits a.tick.0 (omega arith)) (decimal_digits b.tick.0 (omega arith)) (keys_no_digit a.pressed ga.twelve) (keys_no_digit b.pressed gb.twelve) e in
    let t : a.tick.0 ≡ b.tick.0 = decimal_injective a.tick.0 b.tick.0 (omega arith) (omega arith) s.0 in
    let k = sym (keys_again a.pressed ga.twelve) ∙ ap keys_from s.1 ∙ keys_again b.pressed gb.twelve in
    let p : a.pressed ≡ b.pressed = same_ok a.pressed b.pressed k in
    ap (λ (n : ℕ). line_of n a.pressed) t ∙ ap (λ (n : ℕ). line_of b.tick.0 n) p
