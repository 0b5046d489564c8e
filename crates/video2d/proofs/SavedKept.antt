use Rattle.video2d.proofs.Words.{Byte, DisplayRow, Engine, Format, Half, Keeps, List, None, Option, Some, Width, Word, and_block, and_le_l, ap, arith}
use Rattle.video2d.proofs.Words.{bit_and, cases_eq, engine_bytes, engine_row_at, equal, false, get_or-replicate, get_or-set_other, get_or-set_same}
use Rattle.video2d.proofs.Words.{inl, inr, kept_bits_at, length-replicate, length-set, made, nat_lt, number_at, ports_format, refl, replicate}
use Rattle.video2d.proofs.Words.{row_width, slice_index, slice_set, subst, suc, sym, true, true_or_false, width_bytes, with_number, zero, zeroes, ℕ}
use Rattle.video2d.proofs.Words.{◌%◌, ◌*◌, ◌+◌, ◌-◌, ◌/◌, ◌<◌, ◌==◌, ◌^◌, ◌∙◌, ◌≡◌, ◌≢◌, ◌≤◌, ◌⊎◌}
use Rattle.video2d.proofs.SavedPorts.{ArePorts, HalfPut, WordPut, agrees_mask, agrees_within, all_agree, half_put, kept_small, mask_at, step_agrees, step_by, step_on, step_past, steps, word_put}
use Rattle.video2d.proofs.SavedWalks.{register_if, registers_from, walked}

-- Ports that are made of numbers which keep their rules have the bits that they keep and no others.

split : (a b c d : ℕ) → a < 256 → c < 256 → b * 256 + a ≡ d * 256 + c → (a ≡ c) × (b ≡ d)
split a b c d small few e = (omega (arith, small, few, e), omega (arith, small, few, e))

-- a number and its mask, byte by byte
half_parts : (a b k l : ℕ) → a < 256 → k < 256 → bit_and (a + 256 * b) (k + 256 * l) ≡ a + 256 * b → (bit_and a k ≡ a) × (bit_and b l ≡ b)
half_parts a b k l small few e =
    let x : a + 256 * b ≡ b * 2 ^ 8 + a = omega arith in
    let y : k + 256 * l ≡ l * 2 ^ 8 + k = omega arith in
    let le = and_le_l a k in
    split (bit_and a k) (bit_and b l) a b (omega (arith, le, small)) small
    (sym (and_block 8 b l a k small few) ∙ sym (ap (λ (n : ℕ). bit_and n (l * 2 ^ 8 + k)) x)
    ∙ sym (ap (λ (n : ℕ). bit_and (a + 256 * b) n) y) ∙ e ∙ x)

record WordParts (a b c d k l m n : ℕ) : Type 0 where
  first : bit_and a k ≡ a
  second : bit_and b l ≡ b
  third : bit_and c m ≡ c
  fourth : bit_and d n ≡ d

word_parts : (a b c d k l m n : ℕ) → a < 256 → b < 256 → c < 256 → k < 256 → l < 256 → m < 256
    → bit_and (a + 256 * b + 65536 * c + 16777216 * d) (k + 256 * l + 65536 * m + 16777216 * n) ≡ a + 256 * b + 65536 * c + 16777216 * d
    → WordParts a b c d k l m n
word_parts a b c d k l m n sa sb sc sk sl sm e =
    let x : a + 256 * b + 65536 * c + 16777216 * d ≡ a + 256 * (b + 256 * (c + 256 * d)) = omega arith in
    let y : k + 256 * l + 65536 * m + 16777216 * n ≡ k + 256 * (l + 256 * (m + 256 * n)) = omega arith in
    let f : bit_and (a + 256 * (b + 256 * (c + 256 * d))) (k + 256 * (l + 256 * (m + 256 * n))) ≡ a + 256 * (b + 256 * (c + 256 * d)) =
    sym (ap (λ (v : ℕ). bit_and v (k + 256 * (l + 256 * (m + 256 * n)))) x)
    ∙ sym (ap (λ (v : ℕ). bit_and (a + 256 * b + 65536 * c + 16777216 * d) v) y) ∙ e ∙ x in
    let one = half_parts a (b + 256 * (c + 256 * d)) k (l + 256 * (m + 256 * n)) sa sk f in
    let two = half_parts b (c + 256 * d) l (m + 256 * n) sb sl one.1 in
    let three = half_parts c d m n sc sm two.1 in
    record { first = one.0; second = two.0; third = three.0; fourth = three.1 }

-- a place is one of a register's, or beside it
beside : (i at n : ℕ) → ((k : ℕ) → k < n → i ≢ at + k) → (i < at) ⊎ (at + n ≤ i)
beside i at n away = by_test (true_or_false (nat_lt i at)) (true_or_false (nat_lt i (at + n))) where
  by_test : (nat_lt i at ≡ true) ⊎ (nat_lt i at ≡ false) → (nat_lt i (at + n) ≡ true) ⊎ (nat_lt i (at + n) ≡ false) → (i < at) ⊎ (at + n ≤ i)
  by_test (inl h) _ = inl (grind (arith, h))
  by_test (inr h) (inr past) = inr (grind (arith, past))
  by_test (inr h) (inl before) =
      let le : at ≤ i = grind (arith, h) in let lt : i < at + n = grind (arith, before) in
      absurd (away (i - at) (omega (arith, le, lt)) (omega (arith, le)))

two_apart : (i at : ℕ) → i ≢ at → i ≢ at + 1 → (k : ℕ) → k < 2 → i ≢ at + k
two_apart i at a b k lt e = by_place k lt e where
  by_place : (k : ℕ) → k < 2 → i ≡ at + k → ⊥
  by_place zero lt e = a (omega (arith, e))
  by_place (suc zero) lt e = b e
  by_place (suc (suc k)) lt e = omega (arith, lt)

four_apart : (i at : ℕ) → i ≢ at → i ≢ at + 1 → i ≢ at + 2 → i ≢ at + 3 → (k : ℕ) → k < 4 → i ≢ at + k
four_apart i at a b c d k lt e = by_place k lt e where
  by_place : (k : ℕ) → k < 4 → i ≡ at + k → ⊥
  by_place zero lt e = a (omega (arith, e))
  by_place (suc zero) lt e = b e
  by_place (suc (suc zero)) lt e = c e
  by_place (suc (suc (suc zero))) lt e = d e
  by_place (suc (suc (suc (suc k)))) lt e = omega (arith, lt)

bytes_of_half : (v : ℕ) → v < 65536 → v % 256 + 256 * (v / 256 % 256) ≡ v
bytes_of_half v small = omega (arith, small)

bytes_of_word : (v : ℕ) → v < 4294967296 → v % 256 + 256 * (v / 256 % 256) + 65536 * (v / 65536 % 256) + 16777216 * (v / 16777216 % 256) ≡ v
bytes_of_word v small = omega (arith, small)

byte_below : (v : ℕ) → v % 256 < 256
byte_below v = omega arith

half_made : (which : Engine) (m : List ℕ) (at v : ℕ) → ArePorts which m → at + 2 ≤ 112 → v < 65536 → bit_and v (mask_at which Half at) ≡ v
    → ArePorts which (with_number Half m at v)
half_made which m at v are within small e = record { long = p.long; kept = λ i lt. by_place i lt (cases_eq i at) (cases_eq i (at + 1)) } where
  p : HalfPut m at v
  p = half_put m at v are.long within

  x : v % 256 + 256 * (v / 256 % 256) ≡ v
  x = bytes_of_half v small

  parts : (bit_and (v % 256) (kept_bits_at which at) ≡ v % 256) × (bit_and (v / 256 % 256) (kept_bits_at which (at + 1)) ≡ v / 256 % 256)
  parts =
      half_parts (v % 256) (v / 256 % 256) (kept_bits_at which at) (kept_bits_at which (at + 1)) (byte_below v)
      (kept_small (engine_row_at which at) at)
      (subst (λ (n : ℕ). bit_and n (mask_at which Half at) ≡ n) (sym x) e)

  Kept : ℕ → Type 0
  Kept i = bit_and (slice_index (with_number Half m at v) i) (kept_bits_at which i) ≡ slice_index (with_number Half m at v) i

  by_place : (i : ℕ) → i < 112 → (i ≡ at) ⊎ (i ≢ at) → (i ≡ at + 1) ⊎ (i ≢ at + 1)
      → bit_and (slice_index (with_number Half m at v) i) (kept_bits_at which i) ≡ slice_index (with_number Half m at v) i
  by_place i lt (inl f) other = rw (f, p.low) parts.0
  by_place i lt (inr ne) (inl f) = rw (f, p.high) parts.1
  by_place i lt (inr ne) (inr nf) = rw (p.other i (beside i at 2 (two_apart i at ne nf))) (are.kept i lt)

word_made : (which : Engine) (m : List ℕ) (at v : ℕ) → ArePorts which m → at + 4 ≤ 112 → v < 4294967296 → bit_and v (mask_at which Word at) ≡ v
    → ArePorts which (with_number Word m at v)
word_made which m at v are within small e = record {
  long = p.long;
  kept = λ i lt. by_place i lt (cases_eq i at) (cases_eq i (at + 1)) (cases_eq i (at + 2)) (cases_eq i (at + 3));
} where
  p : WordPut m at v
  p = word_put m at v are.long within

  parts : WordParts (v % 256) (v / 256 % 256) (v / 65536 % 256) (v / 16777216 % 256) (kept_bits_at which at) (kept_bits_at which (at + 1))
      (kept_bits_at which (at + 2)) (kept_bits_at which (at + 3))
  parts =
      word_parts (v % 256) (v / 256 % 256) (v / 65536 % 256) (v / 16777216 % 256) (kept_bits_at which at) (kept_bits_at which (at + 1))
      (kept_bits_at which (at + 2)) (kept_bits_at which (at + 3)) (byte_below v) (byte_below (v / 256)) (byte_below (v / 65536))
      (kept_small (engine_row_at which at) at) (kept_small (engine_row_at which (at + 1)) (at + 1))
      (kept_small (engine_row_at which (at + 2)) (at + 2))
      (subst (λ (n : ℕ). bit_and n (mask_at which Word at) ≡ n) (sym (bytes_of_word v small)) e)

  by_place : (i : ℕ) → i < 112 → (i ≡ at) ⊎ (i ≢ at) → (i ≡ at + 1) ⊎ (i ≢ at + 1) → (i ≡ at + 2) ⊎ (i ≢ at + 2)
      → (i ≡ at + 3) ⊎ (i ≢ at + 3)
      → bit_and (slice_index (with_number Word m at v) i) (kept_bits_at which i) ≡ slice_index (with_number Word m at v) i
  by_place i lt (inl f) g h j = rw (f, p.first) parts.first
  by_place i lt (inr ne) (inl g) h j = rw (g, p.second) parts.second
  by_place i lt (inr ne) (inr nf) (inl h) j = rw (h, p.third) parts.third
  by_place i lt (inr ne) (inr nf) (inr ng) (inl j) = rw (j, p.fourth) parts.fourth
  by_place i lt (inr ne) (inr nf) (inr ng) (inr nh) = rw (p.other i (beside i at 4 (four_apart i at ne nf ng nh))) (are.kept i lt)

byte_made : (which : Engine) (m : List ℕ) (at v : ℕ) → ArePorts which m → at + 1 ≤ 112 → v < 256 → bit_and v (mask_at which Byte at) ≡ v
    → ArePorts which (with_number Byte m at v)
byte_made which m at v are within small e = record { long = length-set m at (v % 256) ∙ are.long; kept = λ i lt. by_place i lt (cases_eq i at) } where
  by_place : (i : ℕ) → i < 112 → (i ≡ at) ⊎ (i ≢ at)
      → bit_and (slice_index (slice_set m at (v % 256)) i) (kept_bits_at which i) ≡ slice_index (slice_set m at (v % 256)) i
  by_place i lt (inl f) =
      let long = are.long in
      let x : v % 256 ≡ v = omega (arith, small) in
      let y = get_or-set_same m at (v % 256) 0 (omega (arith, long, within)) in
      rw (f, y, x) e
  by_place i lt (inr ne) = (let y = get_or-set_other m at i (v % 256) 0 ne in rw y (are.kept i lt))

field_made : (which : Engine) (w : Width) (kept : ℕ) (m : List ℕ) (at v : ℕ) → ArePorts which m → kept ≡ mask_at which w at → at + width_bytes w ≤ 112
    → v < 256 ^ width_bytes w → (bit_and v kept == v) ≡ true → ArePorts which (with_number w m at v)
field_made which w kept m at v are mask within small rule =
    by_width w mask within small (equal _ _ rule) where
      by_width : (w : Width) → kept ≡ mask_at which w at → at + width_bytes w ≤ 112 → v < 256 ^ width_bytes w → bit_and v kept ≡ v
          → ArePorts which (with_number w m at v)
      by_width Byte mask within small e = byte_made which m at v are within (omega (arith, small)) (subst (λ (k : ℕ). bit_and v k ≡ v) mask e)
      by_width Half mask within small e = half_made which m at v are within (omega (arith, small)) (subst (λ (k : ℕ). bit_and v k ≡ v) mask e)
      by_width Word mask within small e = word_made which m at v are within (omega (arith, small)) (subst (λ (k : ℕ). bit_and v k ≡ v) mask e)

row_are : (which : Engine) (n tick : ℕ) (s : List ℕ)
    → ((at : ℕ) (m : List ℕ) → steps which n at ≡ true → ArePorts which m → Keeps (registers_from which n at m) tick s
    → ArePorts which (made (registers_from which n at m) s))
    → (at : ℕ) (m : List ℕ) (row : Option DisplayRow) → step_by which at row (steps which n) ≡ true → ArePorts which m
    → Keeps (register_if row at m (registers_from which n)) tick s → ArePorts which (made (register_if row at m (registers_from which n)) s)
row_are which n tick s more at m None h are keeps = more (at + 2) m (step_past which n at h) are keeps
row_are which n tick s more at m (Some row) h are keeps =
    let w = row_width row in
    let agreed = step_agrees which n at row h in
    more (at + width_bytes w) (with_number w m at (number_at w s at)) (step_on which n at row h)
    (field_made which w row.kept m at (number_at w s at) are (agrees_mask which w row.kept at agreed) (agrees_within which w row.kept at agreed)
    keeps.0 keeps.1)
    keeps.2

made_are : (which : Engine) (n tick : ℕ) (s : List ℕ) (at : ℕ) (m : List ℕ) → steps which n at ≡ true → ArePorts which m
    → Keeps (registers_from which n at m) tick s → ArePorts which (made (registers_from which n at m) s)
made_are which zero tick s at m h are keeps = are
made_are which (suc n) tick s at m h are keeps =
    row_are which n tick s (λ at m h are keeps. made_are which n tick s at m h are keeps) at m (engine_row_at which at) h are keeps

none_kept : (n mask : ℕ) → n ≡ 0 → bit_and n mask ≡ n
none_kept n mask e = rw e refl

none_are : (which : Engine) → ArePorts which (zeroes engine_bytes)
unfolding zeroes
none_are which = record {
  long = length-replicate {A = ℕ} 112 0;
  kept = λ i lt. none_kept (slice_index (replicate 112 0) i) (kept_bits_at which i) (get_or-replicate 112 i 0 0 lt);
}

walk_kept : (which : Engine) (tick : ℕ) (s : List ℕ) → Keeps (registers_from which 56 0 (zeroes engine_bytes)) tick s
    → made (registers_from which 56 0 (zeroes engine_bytes)) s ≡ s → ArePorts which s
walk_kept which tick s keeps again =
    subst (λ (ports : List ℕ). ArePorts which ports) again
    (made_are which 56 tick s 0 (zeroes engine_bytes) (all_agree which) (none_are which) keeps)

pub ports_kept : (which : Engine) (tick : ℕ) (s : List ℕ) → Keeps (ports_format which) tick s → made (ports_format which) s ≡ s → ArePorts which s
ports_kept which tick s keeps again =
    walk_kept which tick s (subst (λ (f : Format (List ℕ) (List ℕ)). Keeps f tick s) (walked which) keeps)
    (subst (λ (f : Format (List ℕ) (List ℕ)). made f s ≡ s) (walked which) again)
