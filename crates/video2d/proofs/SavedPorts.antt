use Rattle.video2d.proofs.Words.{A, B, Bool, Byte, DisplayRow, Engine, Format, Half, IsExact, Keeps, List, None, Option, Says, Some, StandsFor, Width}
use Rattle.video2d.proofs.Words.{Word, and_block, and_le_r, ap, arith, bit_and, both, cases_eq, engine_bytes, engine_row_at, equal, get_or-replicate}
use Rattle.video2d.proofs.Words.{get_or-set_other, get_or-set_same, inl, inr, is_equal, kept_bits_at, kept_by, length, length-replicate, length-set}
use Rattle.video2d.proofs.Words.{made, nat_le, number_at, ports_format, refl, row_width, slice_index, slice_set, subst, suc, sym, true, width_bytes}
use Rattle.video2d.proofs.Words.{with_number, zero, zeroes, ℕ, ◌%◌, ◌&&◌, ◌*◌, ◌+◌, ◌-◌, ◌/◌, ◌<◌, ◌==◌, ◌^◌, ◌∙◌, ◌≡◌, ◌≢◌, ◌≤◌, ◌⊎◌}
use Rattle.std.proofs.lemmas.Grind.{same_number_lists}
use Rattle.video2d.proofs.SavedWalks.{register_if, registers_from, walked}

-- An engine's registers in bytes.

-- ---- the table: from each offset on a register that lies within, whose bytes keep its bits, or two bytes that keep none

abbrev pub mask_at : Engine → Width → ℕ → ℕ
mask_at which Byte at = kept_bits_at which at
mask_at which Half at = kept_bits_at which at + 256 * kept_bits_at which (at + 1)
mask_at which Word at =
    kept_bits_at which at + 256 * kept_bits_at which (at + 1) + 65536 * kept_bits_at which (at + 2) + 16777216 * kept_bits_at which (at + 3)

abbrev pub agrees : Engine → Width → ℕ → ℕ → Bool
agrees which w kept at = (kept == mask_at which w at) && nat_le (at + width_bytes w) 112

is_at_most : (a b : ℕ) → nat_le a b ≡ true → a ≤ b
is_at_most a b h = grind (arith, h)

pub agrees_within : (which : Engine) (w : Width) (kept at : ℕ) → agrees which w kept at ≡ true → at + width_bytes w ≤ 112
agrees_within which w kept at h = is_at_most _ _ (both (kept == mask_at which w at) (nat_le (at + width_bytes w) 112) h).1

pub agrees_mask : (which : Engine) (w : Width) (kept at : ℕ) → agrees which w kept at ≡ true → kept ≡ mask_at which w at
agrees_mask which w kept at h = equal kept _ (both (kept == mask_at which w at) (nat_le (at + width_bytes w) 112) h).0

abbrev pub step_by : Engine → ℕ → Option DisplayRow → (ℕ → Bool) → Bool
step_by which at None next = ((kept_bits_at which at == 0) && (kept_bits_at which (at + 1) == 0)) && next (at + 2)
step_by which at (Some row) next = agrees which (row_width row) row.kept at && next (at + width_bytes (row_width row))

abbrev pub steps : Engine → ℕ → ℕ → Bool
steps which zero at = nat_le 112 at
steps which (suc n) at = step_by which at (engine_row_at which at) (steps which n)

pub all_agree : (which : Engine) → steps which 56 0 ≡ true
all_agree A = refl
all_agree B = refl

pub step_past : (which : Engine) (n at : ℕ) → step_by which at None (steps which n) ≡ true → steps which n (at + 2) ≡ true
step_past which n at h = (both ((kept_bits_at which at == 0) && (kept_bits_at which (at + 1) == 0)) (steps which n (at + 2)) h).1

step_none : (which : Engine) (n at : ℕ) → step_by which at None (steps which n) ≡ true
    → ((kept_bits_at which at == 0) ≡ true) × ((kept_bits_at which (at + 1) == 0) ≡ true)
step_none which n at h =
    both (kept_bits_at which at == 0) (kept_bits_at which (at + 1) == 0)
    (both ((kept_bits_at which at == 0) && (kept_bits_at which (at + 1) == 0)) (steps which n (at + 2)) h).0

pub step_agrees : (which : Engine) (n at : ℕ) (row : DisplayRow) → step_by which at (Some row) (steps which n) ≡ true
    → agrees which (row_width row) row.kept at ≡ true
step_agrees which n at row h = (both (agrees which (row_width row) row.kept at) (steps which n (at + width_bytes (row_width row))) h).0

pub step_on : (which : Engine) (n at : ℕ) (row : DisplayRow) → step_by which at (Some row) (steps which n) ≡ true
    → steps which n (at + width_bytes (row_width row)) ≡ true
step_on which n at row h = (both (agrees which (row_width row) row.kept at) (steps which n (at + width_bytes (row_width row))) h).1

-- ---- a number is put among bytes

abbrev Below : ℕ → List ℕ → List ℕ → Type 0
Below at a m = (i : ℕ) → i < at → slice_index a i ≡ slice_index m i

pub record HalfPut (m : List ℕ) (at v : ℕ) : Type 0 where
  pub long : length (with_number Half m at v) ≡ 112
  pub low : slice_index (with_number Half m at v) at ≡ v % 256
  pub high : slice_index (with_number Half m at v) (at + 1) ≡ v / 256 % 256
  pub other : (i : ℕ) → (i < at) ⊎ (at + 2 ≤ i) → slice_index (with_number Half m at v) i ≡ slice_index m i

pub record WordPut (m : List ℕ) (at v : ℕ) : Type 0 where
  pub long : length (with_number Word m at v) ≡ 112
  pub first : slice_index (with_number Word m at v) at ≡ v % 256
  pub second : slice_index (with_number Word m at v) (at + 1) ≡ v / 256 % 256
  pub third : slice_index (with_number Word m at v) (at + 2) ≡ v / 65536 % 256
  pub fourth : slice_index (with_number Word m at v) (at + 3) ≡ v / 16777216 % 256
  pub other : (i : ℕ) → (i < at) ⊎ (at + 4 ≤ i) → slice_index (with_number Word m at v) i ≡ slice_index m i

apart : (i at k n : ℕ) → k < n → (i < at) ⊎ (at + n ≤ i) → i ≢ at + k
apart i at k n lt (inl before) e = omega (arith, before, e)
apart i at k n lt (inr past) e = omega (arith, past, e, lt)

first_apart : (i at n : ℕ) → 0 < n → (i < at) ⊎ (at + n ≤ i) → i ≢ at
first_apart i at n lt (inl before) e = omega (arith, before, e)
first_apart i at n lt (inr past) e = omega (arith, past, e, lt)

ne_more : (at k : ℕ) → 0 < k → at ≢ at + k
ne_more at k lt e = omega (arith, lt, e)

ne_steps : (at j k : ℕ) → j < k → at + j ≢ at + k
ne_steps at j k lt e = omega (arith, lt, e)

pub half_put : (m : List ℕ) (at v : ℕ) → length m ≡ 112 → at + 2 ≤ 112 → HalfPut m at v
half_put m at v long within =
    let b0 = v % 256 in let b1 = v / 256 % 256 in
    let one = slice_set m at b0 in
    let long1 : length one ≡ 112 = length-set m at b0 ∙ long in
    record {
      long = length-set one (at + 1) b1 ∙ long1;
      low = get_or-set_other one (at + 1) at b1 0 (ne_more at 1 (omega arith)) ∙ get_or-set_same m at b0 0 (omega (arith, long, within));
      high = get_or-set_same one (at + 1) b1 0 (omega (arith, long1, within));
      other = λ i away.
          get_or-set_other one (at + 1) i b1 0 (apart i at 1 2 (omega arith) away)
          ∙ get_or-set_other m at i b0 0 (first_apart i at 2 (omega arith) away);
    }

pub word_put : (m : List ℕ) (at v : ℕ) → length m ≡ 112 → at + 4 ≤ 112 → WordPut m at v
word_put m at v long within =
    let b0 = v % 256 in let b1 = v / 256 % 256 in let b2 = v / 65536 % 256 in let b3 = v / 16777216 % 256 in
    let one = slice_set m at b0 in let two = slice_set one (at + 1) b1 in let three = slice_set two (at + 2) b2 in
    let long1 : length one ≡ 112 = length-set m at b0 ∙ long in
    let long2 : length two ≡ 112 = length-set one (at + 1) b1 ∙ long1 in
    let long3 : length three ≡ 112 = length-set two (at + 2) b2 ∙ long2 in
    record {
      long = length-set three (at + 3) b3 ∙ long3;
      first =
          get_or-set_other three (at + 3) at b3 0 (ne_more at 3 (omega arith)) ∙ get_or-set_other two (at + 2) at b2 0 (ne_more at 2 (omega arith))
          ∙ get_or-set_other one (at + 1) at b1 0 (ne_more at 1 (omega arith)) ∙ get_or-set_same m at b0 0 (omega (arith, long, within));
      second =
          get_or-set_other three (at + 3) (at + 1) b3 0 (ne_steps at 1 3 (omega arith))
          ∙ get_or-set_other two (at + 2) (at + 1) b2 0 (ne_steps at 1 2 (omega arith))
          ∙ get_or-set_same one (at + 1) b1 0 (omega (arith, long1, within));
      third =
          get_or-set_other three (at + 3) (at + 2) b3 0 (ne_steps at 2 3 (omega arith))
          ∙ get_or-set_same two (at + 2) b2 0 (omega (arith, long2, within));
      fourth = get_or-set_same three (at + 3) b3 0 (omega (arith, long3, within));
      other = λ i away.
          get_or-set_other three (at + 3) i b3 0 (apart i at 3 4 (omega arith) away)
          ∙ get_or-set_other two (at + 2) i b2 0 (apart i at 2 4 (omega arith) away)
          ∙ get_or-set_other one (at + 1) i b1 0 (apart i at 1 4 (omega arith) away)
          ∙ get_or-set_other m at i b0 0 (first_apart i at 4 (omega arith) away);
    }

record Placed (w : Width) (m : List ℕ) (at v : ℕ) : Type 0 where
  long : length (with_number w m at v) ≡ 112
  value : (a : List ℕ) → Below (at + width_bytes w) a (with_number w m at v) → number_at w a at ≡ v
  other : (i : ℕ) → (i < at) ⊎ (at + width_bytes w ≤ i) → slice_index (with_number w m at v) i ≡ slice_index m i

half_placed : (m : List ℕ) (at v : ℕ) → length m ≡ 112 → at + 2 ≤ 112 → v < 65536 → Placed Half m at v
half_placed m at v long within small =
    let p = half_put m at v long within in
    record {
      long = p.long;
      value = λ a below.
          let x = below at (omega arith) ∙ p.low in let y = below (at + 1) (omega arith) ∙ p.high in rw (x, y) (omega (arith, small));
      other = p.other;
    }

word_placed : (m : List ℕ) (at v : ℕ) → length m ≡ 112 → at + 4 ≤ 112 → v < 4294967296 → Placed Word m at v
word_placed m at v long within small =
    let p = word_put m at v long within in
    record {
      long = p.long;
      value = λ a below.
          let x = below at (omega arith) ∙ p.first in let y = below (at + 1) (omega arith) ∙ p.second in
          let z = below (at + 2) (omega arith) ∙ p.third in let t = below (at + 3) (omega arith) ∙ p.fourth in
          rw (x, y, z, t) (omega (arith, small));
      other = p.other;
    }

byte_placed : (m : List ℕ) (at v : ℕ) → length m ≡ 112 → at + 1 ≤ 112 → v < 256 → Placed Byte m at v
byte_placed m at v long within small = record {
  long = length-set m at (v % 256) ∙ long;
  value = λ a below.
      below at (omega arith) ∙ get_or-set_same m at (v % 256) 0 (omega (arith, long, within))
      ∙ (let e : v % 256 ≡ v = omega (arith, small) in e);
  other = λ i away. get_or-set_other m at i (v % 256) 0 (first_apart i at 1 (omega arith) away);
}

placed : (w : Width) (m : List ℕ) (at v : ℕ) → length m ≡ 112 → at + width_bytes w ≤ 112 → v < 256 ^ width_bytes w → Placed w m at v
placed Byte m at v long within small = byte_placed m at v long within (omega (arith, small))
placed Half m at v long within small = half_placed m at v long within (omega (arith, small))
placed Word m at v long within small = word_placed m at v long within (omega (arith, small))

-- ---- what is made of values says these values

row_says : (which : Engine) (n tick : ℕ) → ((at : ℕ) (m : List ℕ) (P : List ℕ → Type 0) → length m ≡ 112 → steps which n at ≡ true
    → ((a : List ℕ) → Below at a m → P a) → Says (λ (s : List ℕ). s) (registers_from which n at m) tick P)
    → (at : ℕ) (m : List ℕ) (P : List ℕ → Type 0) (row : Option DisplayRow) → length m ≡ 112 → step_by which at row (steps which n) ≡ true
    → ((a : List ℕ) → Below at a m → P a) → Says (λ (s : List ℕ). s) (register_if row at m (registers_from which n)) tick P
row_says which n tick more at m P None long h all =
    more (at + 2) m P long (step_past which n at h) (λ a below. all a (λ i lt. below i (omega (arith, lt))))
row_says which n tick more at m P (Some row) long h all = λ v fits rule.
    let w = row_width row in
    let p = placed w m at v long (agrees_within which w row.kept at (step_agrees which n at row h)) fits in
    more (at + width_bytes w) (with_number w m at v) (λ a. (number_at w a at ≡ v) × P a) p.long (step_on which n at row h)
    (λ a below. (p.value a below, all a (λ i lt. below i (omega (arith, lt)) ∙ p.other i (inl lt))))

ports_say : (which : Engine) (n tick at : ℕ) (m : List ℕ) (P : List ℕ → Type 0) → length m ≡ 112 → steps which n at ≡ true
    → ((a : List ℕ) → Below at a m → P a) → Says (λ (s : List ℕ). s) (registers_from which n at m) tick P
ports_say which zero tick at m P long h all = all m (λ i lt. refl)
ports_say which (suc n) tick at m P long h all =
    row_says which n tick (λ at m P long h all. ports_say which n tick at m P long h all) at m P (engine_row_at which at) long h all

walk_exact : (which : Engine) (tick : ℕ) → IsExact (registers_from which 56 0 (zeroes engine_bytes)) tick
unfolding zeroes
walk_exact which tick =
    ports_say which 56 tick 0 (zeroes engine_bytes) (λ s. Unit {0}) (length-replicate {A = ℕ} 112 0) (all_agree which) (λ a below. tt)

pub ports_exact : (which : Engine) (tick : ℕ) → IsExact (ports_format which) tick
ports_exact which tick = subst (λ (f : Format (List ℕ) (List ℕ)). IsExact f tick) (sym (walked which)) (walk_exact which tick)

-- ---- an engine's ports stand for themselves

pub record ArePorts (which : Engine) (s : List ℕ) : Type 0 where
  pub long : length s ≡ 112
  pub kept : (at : ℕ) → at < 112 → bit_and (slice_index s at) (kept_bits_at which at) ≡ slice_index s at

pub kept_small : (row : Option DisplayRow) (at : ℕ) → kept_by row at < 256
kept_small None at = omega arith
kept_small (Some row) at = by_number (row.kept / 2 ^ (8 * ((at - row.first) % row.bytes))) where
  by_number : (n : ℕ) → n % 256 < 256
  by_number n = omega arith

byte_small : (which : Engine) (s : List ℕ) (at : ℕ) → ArePorts which s → at < 112 → slice_index s at < 256
byte_small which s at are lt =
    let kept = are.kept at lt in
    let le = and_le_r (slice_index s at) (kept_bits_at which at) in
    let few = kept_small (engine_row_at which at) at in
    omega (arith, kept, le, few)

none_there : (which : Engine) (s : List ℕ) (at : ℕ) → ArePorts which s → at < 112 → (kept_bits_at which at == 0) ≡ true → slice_index s at ≡ 0
none_there which s at are lt none =
    let kept = are.kept at lt in
    let le = and_le_r (slice_index s at) (kept_bits_at which at) in
    let zero = equal (kept_bits_at which at) 0 none in
    omega (arith, kept, le, zero)

-- so far the ports are copied, and from there on all is 0
record Copied (at : ℕ) (m s : List ℕ) : Type 0 where
  long : length m ≡ 112
  same : (i : ℕ) → i < at → i < 112 → slice_index m i ≡ slice_index s i
  rest : (i : ℕ) → at ≤ i → i < 112 → slice_index m i ≡ 0

copied_past : (which : Engine) (at : ℕ) (m s : List ℕ) → ArePorts which s → Copied at m s
    → ((kept_bits_at which at == 0) ≡ true) × ((kept_bits_at which (at + 1) == 0) ≡ true) → Copied (at + 2) m s
copied_past which at m s are c h = record {
  long = c.long;
  same = λ i lt here. by_place i lt here (cases_eq i at) (cases_eq i (at + 1));
  rest = λ i le here. c.rest i (omega (arith, le)) here;
} where
  by_place : (i : ℕ) → i < at + 2 → i < 112 → (i ≡ at) ⊎ (i ≢ at) → (i ≡ at + 1) ⊎ (i ≢ at + 1) → slice_index m i ≡ slice_index s i
  by_place i lt here (inl e) other =
      let none : (kept_bits_at which i == 0) ≡ true = rw e h.0 in
      c.rest i (omega (arith, e)) here ∙ sym (none_there which s i are here none)
  by_place i lt here (inr ne) (inl e) =
      let none : (kept_bits_at which i == 0) ≡ true = rw e h.1 in
      c.rest i (omega (arith, e)) here ∙ sym (none_there which s i are here none)
  by_place i lt here (inr ne) (inr nf) = c.same i (omega (arith, lt, ne, nf)) here

low_byte : (a b : ℕ) → a < 256 → (a + 256 * b) % 256 ≡ a
low_byte a b small = omega (arith, small)

high_byte : (a b : ℕ) → a < 256 → b < 256 → (a + 256 * b) / 256 % 256 ≡ b
high_byte a b small few = omega (arith, small, few)

below_both : (i at : ℕ) → i < at + 2 → i ≢ at → i ≢ at + 1 → i < at
below_both i at lt ne nf = omega (arith, lt, ne, nf)

half_copied : (which : Engine) (at : ℕ) (m s : List ℕ) → ArePorts which s → at + 2 ≤ 112 → Copied at m s
    → Copied (at + 2) (with_number Half m at (number_at Half s at)) s
half_copied which at m s are within c = record {
  long = p.long;
  same = λ i lt here. by_place i lt here (cases_eq i at) (cases_eq i (at + 1));
  rest = λ i le here. p.other i (inr le) ∙ c.rest i (omega (arith, le)) here;
} where
  v : ℕ
  v = number_at Half s at

  p : HalfPut m at v
  p = half_put m at v c.long within

  a : slice_index s at < 256
  a = byte_small which s at are (omega (arith, within))

  b : slice_index s (at + 1) < 256
  b = byte_small which s (at + 1) are (omega (arith, within))

  by_place : (i : ℕ) → i < at + 2 → i < 112 → (i ≡ at) ⊎ (i ≢ at) → (i ≡ at + 1) ⊎ (i ≢ at + 1)
      → slice_index (with_number Half m at v) i ≡ slice_index s i
  by_place i lt here (inl e) other = rw e (p.low ∙ low_byte (slice_index s at) (slice_index s (at + 1)) a)
  by_place i lt here (inr ne) (inl e) = rw e (p.high ∙ high_byte (slice_index s at) (slice_index s (at + 1)) a b)
  by_place i lt here (inr ne) (inr nf) =
      (let before : i < at = below_both i at lt ne nf in p.other i (inl before) ∙ c.same i before here)

record FourBytes (a b c d : ℕ) : Type 0 where
  first : (a + 256 * b + 65536 * c + 16777216 * d) % 256 ≡ a
  second : (a + 256 * b + 65536 * c + 16777216 * d) / 256 % 256 ≡ b
  third : (a + 256 * b + 65536 * c + 16777216 * d) / 65536 % 256 ≡ c
  fourth : (a + 256 * b + 65536 * c + 16777216 * d) / 16777216 % 256 ≡ d

four_bytes : (a b c d : ℕ) → a < 256 → b < 256 → c < 256 → d < 256 → FourBytes a b c d
four_bytes a b c d sa sb sc sd = record {
  first = omega (arith, sa);
  second = omega (arith, sa, sb);
  third = omega (arith, sa, sb, sc);
  fourth = omega (arith, sa, sb, sc, sd);
}

below_all : (i at : ℕ) → i < at + 4 → i ≢ at → i ≢ at + 1 → i ≢ at + 2 → i ≢ at + 3 → i < at
below_all i at lt ne nf ng nh = omega (arith, lt, ne, nf, ng, nh)

word_copied : (which : Engine) (at : ℕ) (m s : List ℕ) → ArePorts which s → at + 4 ≤ 112 → Copied at m s
    → Copied (at + 4) (with_number Word m at (number_at Word s at)) s
word_copied which at m s are within c = record {
  long = p.long;
  same = λ i lt here. by_place i lt here (cases_eq i at) (cases_eq i (at + 1)) (cases_eq i (at + 2)) (cases_eq i (at + 3));
  rest = λ i le here. p.other i (inr le) ∙ c.rest i (omega (arith, le)) here;
} where
  v : ℕ
  v = number_at Word s at

  p : WordPut m at v
  p = word_put m at v c.long within

  small : (i : ℕ) → i < at + 4 → slice_index s i < 256
  small i lt = byte_small which s i are (omega (arith, within, lt))

  bytes : FourBytes (slice_index s at) (slice_index s (at + 1)) (slice_index s (at + 2)) (slice_index s (at + 3))
  bytes = four_bytes _ _ _ _ (small at (omega arith)) (small (at + 1) (omega arith)) (small (at + 2) (omega arith)) (small (at + 3) (omega arith))

  by_place : (i : ℕ) → i < at + 4 → i < 112 → (i ≡ at) ⊎ (i ≢ at) → (i ≡ at + 1) ⊎ (i ≢ at + 1) → (i ≡ at + 2) ⊎ (i ≢ at + 2)
      → (i ≡ at + 3) ⊎ (i ≢ at + 3) → slice_index (with_number Word m at v) i ≡ slice_index s i
  by_place i lt here (inl e) f g h = rw e (p.first ∙ bytes.first)
  by_place i lt here (inr ne) (inl f) g h = rw f (p.second ∙ bytes.second)
  by_place i lt here (inr ne) (inr nf) (inl g) h = rw g (p.third ∙ bytes.third)
  by_place i lt here (inr ne) (inr nf) (inr ng) (inl h) = rw h (p.fourth ∙ bytes.fourth)
  by_place i lt here (inr ne) (inr nf) (inr ng) (inr nh) =
      (let before : i < at = below_all i at lt ne nf ng nh in p.other i (inl before) ∙ c.same i before here)

byte_copied : (which : Engine) (at : ℕ) (m s : List ℕ) → ArePorts which s → at + 1 ≤ 112 → Copied at m s
    → Copied (at + 1) (with_number Byte m at (number_at Byte s at)) s
byte_copied which at m s are within c = record {
  long = length-set m at (slice_index s at % 256) ∙ c.long;
  same = λ i lt here. by_place i lt here (cases_eq i at);
  rest = λ i le here. get_or-set_other m at i (slice_index s at % 256) 0 (λ e. omega (arith, le, e)) ∙ c.rest i (omega (arith, le)) here;
} where
  by_place : (i : ℕ) → i < at + 1 → i < 112 → (i ≡ at) ⊎ (i ≢ at) → slice_index (slice_set m at (slice_index s at % 256)) i ≡ slice_index s i
  by_place i lt here (inl e) =
      let long = c.long in let small = byte_small which s at are (omega (arith, within)) in
      let same : slice_index s at % 256 ≡ slice_index s at = omega (arith, small) in
      rw e (get_or-set_same m at (slice_index s at % 256) 0 (omega (arith, long, within)) ∙ same)
  by_place i lt here (inr ne) =
      let before : i < at = omega (arith, lt, ne) in
      get_or-set_other m at i (slice_index s at % 256) 0 ne ∙ c.same i before here

field_copied : (which : Engine) (w : Width) (at : ℕ) (m s : List ℕ) → ArePorts which s → at + width_bytes w ≤ 112 → Copied at m s
    → Copied (at + width_bytes w) (with_number w m at (number_at w s at)) s
field_copied which Byte at m s are within c = byte_copied which at m s are within c
field_copied which Half at m s are within c = half_copied which at m s are within c
field_copied which Word at m s are within c = word_copied which at m s are within c

row_made : (which : Engine) (n : ℕ) (s : List ℕ) → ArePorts which s
    → ((at : ℕ) (m : List ℕ) → steps which n at ≡ true → Copied at m s → made (registers_from which n at m) s ≡ s)
    → (at : ℕ) (m : List ℕ) (row : Option DisplayRow) → step_by which at row (steps which n) ≡ true → Copied at m s
    → made (register_if row at m (registers_from which n)) s ≡ s
row_made which n s are more at m None h c = more (at + 2) m (step_past which n at h) (copied_past which at m s are c (step_none which n at h))
row_made which n s are more at m (Some row) h c =
    let w = row_width row in
    more (at + width_bytes w) (with_number w m at (number_at w s at)) (step_on which n at row h)
    (field_copied which w at m s are (agrees_within which w row.kept at (step_agrees which n at row h)) c)

ports_made : (which : Engine) (n : ℕ) (s : List ℕ) → ArePorts which s → (at : ℕ) (m : List ℕ) → steps which n at ≡ true → Copied at m s
    → made (registers_from which n at m) s ≡ s
ports_made which zero s are at m h c =
    let le : 112 ≤ at = grind (arith, h) in
    same_number_lists m s (c.long ∙ sym are.long) (λ k lt. let long = c.long in c.same k (omega (arith, lt, long, le)) (omega (arith, lt, long)))
ports_made which (suc n) s are at m h c =
    row_made which n s are (λ at m h c. ports_made which n s are at m h c) at m (engine_row_at which at) h c

-- ---- and keep their rules

half_kept : (a b k l : ℕ) → a < 256 → k < 256 → bit_and a k ≡ a → bit_and b l ≡ b → bit_and (a + 256 * b) (k + 256 * l) ≡ a + 256 * b
half_kept a b k l small few low high =
    let x : a + 256 * b ≡ b * 2 ^ 8 + a = omega arith in
    let y : k + 256 * l ≡ l * 2 ^ 8 + k = omega arith in
    ap (λ (n : ℕ). bit_and n (k + 256 * l)) x ∙ ap (λ (n : ℕ). bit_and (b * 2 ^ 8 + a) n) y ∙ and_block 8 b l a k small few
    ∙ ap (λ (n : ℕ). n * 2 ^ 8 + bit_and a k) high ∙ ap (λ (n : ℕ). b * 2 ^ 8 + n) low ∙ sym x

word_kept : (a b c d k l m n : ℕ) → a < 256 → b < 256 → c < 256 → k < 256 → l < 256 → m < 256
    → bit_and a k ≡ a → bit_and b l ≡ b → bit_and c m ≡ c → bit_and d n ≡ d
    → bit_and (a + 256 * b + 65536 * c + 16777216 * d) (k + 256 * l + 65536 * m + 16777216 * n) ≡ a + 256 * b + 65536 * c + 16777216 * d
word_kept a b c d k l m n sa sb sc sk sl sm ka kb kc kd =
    let x : a + 256 * b + 65536 * c + 16777216 * d ≡ a + 256 * (b + 256 * (c + 256 * d)) = omega arith in
    let y : k + 256 * l + 65536 * m + 16777216 * n ≡ k + 256 * (l + 256 * (m + 256 * n)) = omega arith in
    ap (λ (v : ℕ). bit_and v (k + 256 * l + 65536 * m + 16777216 * n)) x ∙ ap (λ (v : ℕ). bit_and (a + 256 * (b + 256 * (c + 256 * d))) v) y
    ∙ half_kept a (b + 256 * (c + 256 * d)) k (l + 256 * (m + 256 * n)) sa sk ka
    (half_kept b (c + 256 * d) l (m + 256 * n) sb sl kb (half_kept c d m n sc sm kc kd)) ∙ sym x

record FieldKeeps (w : Width) (kept at : ℕ) (s : List ℕ) : Type 0 where
  fits : number_at w s at < 256 ^ width_bytes w
  rule : (bit_and (number_at w s at) kept == number_at w s at) ≡ true

field_keeps : (which : Engine) (w : Width) (kept at : ℕ) (s : List ℕ) → ArePorts which s → kept ≡ mask_at which w at → at + width_bytes w ≤ 112
    → FieldKeeps w kept at s
field_keeps which Byte kept at s are mask within =
    let a = byte_small which s at are (omega (arith, within)) in
    record {
      fits = omega (arith, a);
      rule = is_equal _ _ (ap (λ (m : ℕ). bit_and (slice_index s at) m) mask ∙ are.kept at (omega (arith, within)));
    }
field_keeps which Half kept at s are mask within =
    let a = byte_small which s at are (omega (arith, within)) in let b = byte_small which s (at + 1) are (omega (arith, within)) in
    let k = kept_small (engine_row_at which at) at in
    let low = are.kept at (omega (arith, within)) in let high = are.kept (at + 1) (omega (arith, within)) in
    record {
      fits = omega (arith, a, b);
      rule = is_equal _ _ (ap (λ (m : ℕ). bit_and (number_at Half s at) m) mask
          ∙ half_kept (slice_index s at) (slice_index s (at + 1)) (kept_bits_at which at) (kept_bits_at which (at + 1)) a k low high);
    }
field_keeps which Word kept at s are mask within =
    let a = byte_small which s at are (omega (arith, within)) in let b = byte_small which s (at + 1) are (omega (arith, within)) in
    let c = byte_small which s (at + 2) are (omega (arith, within)) in let d = byte_small which s (at + 3) are (omega (arith, within)) in
    let k = kept_small (engine_row_at which at) at in let l = kept_small (engine_row_at which (at + 1)) (at + 1) in
    let m = kept_small (engine_row_at which (at + 2)) (at + 2) in
    record {
      fits = omega (arith, a, b, c, d);
      rule = is_equal _ _ (ap (λ (m : ℕ). bit_and (number_at Word s at) m) mask
          ∙ word_kept (slice_index s at) (slice_index s (at + 1)) (slice_index s (at + 2)) (slice_index s (at + 3)) (kept_bits_at which at)
          (kept_bits_at which (at + 1)) (kept_bits_at which (at + 2)) (kept_bits_at which (at + 3)) a b c k l m (are.kept at (omega (arith, within)))
          (are.kept (at + 1) (omega (arith, within))) (are.kept (at + 2) (omega (arith, within))) (are.kept (at + 3) (omega (arith, within))));
    }

row_keeps : (which : Engine) (n tick : ℕ) (s : List ℕ) → ArePorts which s
    → ((at : ℕ) (m : List ℕ) → steps which n at ≡ true → Keeps (registers_from which n at m) tick s)
    → (at : ℕ) (m : List ℕ) (row : Option DisplayRow) → step_by which at row (steps which n) ≡ true
    → Keeps (register_if row at m (registers_from which n)) tick s
row_keeps which n tick s are more at m None h = more (at + 2) m (step_past which n at h)
row_keeps which n tick s are more at m (Some row) h =
    let w = row_width row in
    let agreed = step_agrees which n at row h in
    let k = field_keeps which w row.kept at s are (agrees_mask which w row.kept at agreed) (agrees_within which w row.kept at agreed) in
    (k.fits, k.rule, more (at + width_bytes w) _ (step_on which n at row h))

ports_keep : (which : Engine) (n tick : ℕ) (s : List ℕ) → ArePorts which s → (at : ℕ) (m : List ℕ) → steps which n at ≡ true
    → Keeps (registers_from which n at m) tick s
ports_keep which zero tick s are at m h = tt
ports_keep which (suc n) tick s are at m h =
    row_keeps which n tick s are (λ at m h. ports_keep which n tick s are at m h) at m (engine_row_at which at) h

walk_stands : (which : Engine) (tick : ℕ) (s : List ℕ) → ArePorts which s → StandsFor (registers_from which 56 0 (zeroes engine_bytes)) tick s
unfolding zeroes
walk_stands which tick s are = (
  ports_keep which 56 tick s are 0 (zeroes engine_bytes) (all_agree which),
  ports_made which 56 s are 0 (zeroes engine_bytes) (all_agree which)
      (record {
        long = length-replicate {A = ℕ} 112 0;
        same = λ i lt here. absurd (omega (arith, lt));
        rest = λ i le here. get_or-replicate 112 i 0 0 here;
      }),
)

pub ports_stand : (which : Engine) (tick : ℕ) (s : List ℕ) → ArePorts which s → StandsFor (ports_format which) tick s
ports_stand which tick s are = subst (λ (f : Format (List ℕ) (List ℕ)). StandsFor f tick s) (sym (walked which)) (walk_stands which tick s are)
