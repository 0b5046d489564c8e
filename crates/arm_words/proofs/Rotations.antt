use Rattle.std.proofs.Common.{ℕ, zero, suc, Bool, true, false, ◌&&◌, ◌||◌, not, ◌≡◌, ◌≢◌, inl, inr, ◌<◌, ◌≤◌, ◌+◌, ◌-◌, ◌*◌, ◌/◌, ◌%◌, ◌==◌, nat_lt, nat_le, refl, sym, ◌∙◌, ap, arith, if◌then◌else◌}
use Rattle.ds_base.proofs.Choices.{low_or_high, both, one_of, equal, is_unequal, lt_of, le_of}
use Rattle.arm_words.proofs.Facts.{last_or_less}
use Rattle.arm_words.specs.Canonical.{immediate, IsLeastRotation, turned_back, none_below, least_rotation}

-- a test of all pairs of a rotation and a byte, as numbers below 4,096
abbrev pub all_pairs : (ℕ → ℕ → Bool) → ℕ → Bool
all_pairs p zero = true
all_pairs p (suc k) = p (k / 256) (k % 256) && all_pairs p k

-- a smaller rotation and a byte that give the same number
abbrev smaller : ℕ → ℕ → ℕ
smaller rotate immed = if immed % 4 == 0 then rotate - 1 else 0

abbrev byte_of : ℕ → ℕ → ℕ
byte_of rotate immed = if immed % 4 == 0 then immed / 4 else immediate rotate immed

abbrev has_smaller : ℕ → ℕ → Bool
has_smaller rotate immed =
    nat_lt (smaller rotate immed) rotate && (nat_lt (byte_of rotate immed) 256 && (immediate (smaller rotate immed) (byte_of rotate immed) == immediate rotate immed))

least_or_smaller : all_pairs (λ r b. least_rotation r b || has_smaller r b) 4096 ≡ true
least_or_smaller = refl

back_again : all_pairs (λ r b. turned_back r (immediate r b) == b) 4096 ≡ true
back_again = refl

-- the same by two tests: no rotation at all; or the byte's low bits aren't zeros, and it doesn't reach round the word's end
abbrev pub room : ℕ → ℕ
room rotate = if nat_lt rotate 13 then 0 else if rotate == 13 then 4 else if rotate == 14 then 16 else 64

abbrev pub quick : ℕ → ℕ → Bool
quick rotate immed = rotate == 0 || (not (immed % 4 == 0) && nat_le (room rotate) immed)

quick_is_least : all_pairs (λ r b. (quick r b && least_rotation r b) || not (quick r b || least_rotation r b)) 4096 ≡ true
quick_is_least = refl

pair_number : (p : ℕ → ℕ → Bool) (k : ℕ) → all_pairs p k ≡ true → (n : ℕ) → n < k → p (n / 256) (n % 256) ≡ true
pair_number p zero e n h = absurd (omega arith)
pair_number p (suc k) e n h =
    elim (last_or_less n k h) [
      | inl same ↦ ap (λ (x : ℕ). p (x / 256) (x % 256)) same ∙ (both (p (k / 256) (k % 256)) (all_pairs p k) e).0
      | inr less ↦ pair_number p k (both (p (k / 256) (k % 256)) (all_pairs p k) e).1 n less
    ]

pub pair : (p : ℕ → ℕ → Bool) → all_pairs p 4096 ≡ true → (r b : ℕ) → r < 16 → b < 256 → p r b ≡ true
pair p e r b hr hb =
    let high : (r * 256 + b) / 256 ≡ r = omega arith in
    let low : (r * 256 + b) % 256 ≡ b = omega arith in
    sym (ap (λ (x : ℕ). p x ((r * 256 + b) % 256)) high ∙ ap (λ (x : ℕ). p r x) low) ∙ pair_number p 4096 e (r * 256 + b) (omega arith)

both_or_neither : (p q : Bool) → ((p && q) || not (p || q)) ≡ true → p ≡ q
both_or_neither true true e = refl
both_or_neither true false e = absurd (cc)
both_or_neither false true e = absurd (cc)
both_or_neither false false e = refl

pub quick_least : (r b : ℕ) → r < 16 → b < 256 → quick r b ≡ least_rotation r b
quick_least r b hr hb =
    both_or_neither (quick r b) (least_rotation r b)
    (pair (λ r b. (quick r b && least_rotation r b) || not (quick r b || least_rotation r b)) quick_is_least r b hr hb)

none : (rotate number : ℕ) → none_below rotate number ≡ true → (r : ℕ) → r < rotate → 256 ≤ turned_back r number
none zero number e r h = absurd (omega arith)
none (suc k) number e r h =
    let parts = both (nat_le 256 (turned_back k number)) (none_below k number) e in
    elim (last_or_less r k h) [
      | inl same ↦ let l = le_of 256 (turned_back k number) parts.0 in let f : turned_back r number ≡ turned_back k number = ap (λ (x : ℕ). turned_back x number) same in rw f l
      | inr less ↦ none k number parts.1 r less
    ]

pub least_is : (r b : ℕ) → r < 16 → b < 256 → least_rotation r b ≡ true → IsLeastRotation r b
least_is r b hr hb e s c hc same =
    elim (low_or_high s r) [
      | inl less ↦
          let back : turned_back s (immediate s c) ≡ c =
          equal (turned_back s (immediate s c)) c (pair (λ r b. turned_back r (immediate r b) == b) back_again s c (omega arith) hc) in
          let big : 256 ≤ turned_back s (immediate r b) = none r (immediate r b) e s less in
          let is : turned_back s (immediate r b) ≡ c = sym (ap (λ (x : ℕ). turned_back s x) same) ∙ back in
          absurd (omega (arith, big, is, hc))
      | inr fine ↦ fine
    ]

pub is_least : (r b : ℕ) → r < 16 → b < 256 → IsLeastRotation r b → least_rotation r b ≡ true
is_least r b hr hb least =
    elim (one_of (least_rotation r b) (has_smaller r b) (pair (λ r b. least_rotation r b || has_smaller r b) least_or_smaller r b hr hb)) [
      | inl fine ↦ fine
      | inr other ↦
          let a = both (nat_lt (smaller r b) r) (nat_lt (byte_of r b) 256 && (immediate (smaller r b) (byte_of r b) == immediate r b)) other in
          let c = both (nat_lt (byte_of r b) 256) (immediate (smaller r b) (byte_of r b) == immediate r b) a.1 in
          let l : smaller r b < r = lt_of (smaller r b) r a.0 in
          let le : r ≤ smaller r b =
          least (smaller r b) (byte_of r b) (lt_of (byte_of r b) 256 c.0) (equal (immediate (smaller r b) (byte_of r b)) (immediate r b) c.1) in
          absurd (omega (arith, l, le))
    ]

room_is : (r m : ℕ) → (r < 13 → m ≡ 0) → (r ≡ 13 → m ≡ 4) → (r ≡ 14 → m ≡ 16) → (14 < r → m ≡ 64) → m ≡ room r
room_is r m a b c d = grind arith

-- where there is a rotation, the byte's low bits and its room decide
pub least_by_room : (r b m : ℕ) → r < 16 → b < 256 → r ≢ 0 → b % 4 ≢ 0
    → (r < 13 → m ≡ 0) → (r ≡ 13 → m ≡ 4) → (r ≡ 14 → m ≡ 16) → (14 < r → m ≡ 64) → nat_le m b ≡ least_rotation r b
least_by_room r b m hr hb some low a1 a2 a3 a4 =
    let e : (r == 0) ≡ false = is_unequal r 0 some in
    let f : (b % 4 == 0) ≡ false = is_unequal (b % 4) 0 low in
    ap (λ (x : ℕ). nat_le x b) (room_is r m a1 a2 a3 a4)
    ∙ sym (ap (λ (x : Bool). x || (not (b % 4 == 0) && nat_le (room r) b)) e ∙ ap (λ (x : Bool). not x && nat_le (room r) b) f)
    ∙ quick_least r b hr hb

-- a byte whose low bits are zeros has a smaller rotation
pub not_least : (r b : ℕ) → r < 16 → b < 256 → r ≢ 0 → b % 4 ≡ 0 → least_rotation r b ≡ false
not_least r b hr hb some low =
    let e : (r == 0) ≡ false = is_unequal r 0 some in
    sym (quick_least r b hr hb) ∙ ap (λ (x : Bool). x || (not (b % 4 == 0) && nat_le (room r) b)) e
    ∙ ap (λ (x : ℕ). not (x == 0) && nat_le (room r) b) low
