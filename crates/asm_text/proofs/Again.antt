-- Each part of a statement is read as it was written, whatever follows that can't go on it.
use Rattle.asm_text.proofs.Words.{ℕ, zero, suc, ◌≡◌, ◌≢◌, ◌<◌, ◌≤◌, ◌+◌, ◌-◌, ◌*◌, ◌/◌, ◌%◌, ◌^◌, true, false, List, [], ◌∷◌, ◌++◌, ◌⊎◌, refl, sym}
use Rattle.asm_text.proofs.Words.{ap, ◌∙◌, arith, inl, inr, append_assoc, append-nil, nat_lt, nat_le, slice_index, codes, ◌==◌, immediate}
use Rattle.asm_text.proofs.Words.{turned_back, Shift, Lsl, Operand, Immediate, Shifted, ShiftedByRegister, shift_name, shifted, operand, numeral}
use Rattle.asm_text.proofs.Words.{hex_at, marked_at, register_at, one_at, rotation_from, rotation_of, operand_at, hex_digit, hex_digits, both}
use Rattle.asm_text.proofs.Words.{register_name, decimal, hex, number, trimmed, joined}
use Rattle.arm_words.specs.Canonical.{least_rotation, least_operand, none_below}
use Rattle.arm_words.specs.Fields.{HasOperand}
use Rattle.arm_words.specs.declared.parts.Shift.TheVariants.{Lsr, Asr, Ror}
use Rattle.asm_text.specs.Reader.Parts.{decimal_at, two_at, three_at, four_at, is_decimal, is_digit, digit_value, shift_at, by_shift, shifted_at}
use Rattle.ds_base.proofs.Choices.{le_of, low_or_high, same_or_not}
use Rattle.asm_text.proofs.Rotations.{back_again, below_word}

-- what can't go on a number
abbrev pub EndsNumber : List ℕ → Type 0
EndsNumber rest = is_digit (slice_index rest 0) ≡ false

-- what can't go on a decimal one
abbrev pub EndsDecimal : List ℕ → Type 0
EndsDecimal rest = is_decimal (slice_index rest 0) ≡ false

decimal_low : (n : ℕ) → n < 10 → nat_lt n 10 ≡ true
decimal_low n h = grind arith

decimal_high : (n : ℕ) → 10 ≤ n → nat_lt n 10 ≡ false
decimal_high n h = grind arith

pub decimal_again : (n : ℕ) (rest : List ℕ) → n < 16 → EndsDecimal rest → decimal_at (decimal n ++ rest) ≡ (n, rest)
unfolding decimal_at
decimal_again n rest h e =
    elim (low_or_high n 10) [
      | inl low ↦ (let k : (48 + n) % 16 ≡ n = omega arith in rw (decimal_low n low, e, k) refl)
      | inr high ↦ (let d : is_decimal (38 + n) ≡ true = grind arith in let k : (10 + (38 + n) % 16) % 16 ≡ n = omega arith in rw (decimal_high n high, d, k) refl)
    ]

pub register_again : (n : ℕ) (rest : List ℕ) → n < 16 → EndsDecimal rest → register_at (register_name n ++ rest) ≡ (n, rest)
register_again n rest h e = decimal_again n rest h e

-- a digit goes on a number
digit_step : (m d : ℕ) (bs : List ℕ) → d < 16 → numeral m (hex_digit d ∷ bs) ≡ numeral ((m * 16 + d) % 2 ^ 32) bs
digit_step m d bs h =
    let is : is_digit (hex_digit d) ≡ true = grind arith in
    let value : digit_value (hex_digit d) ≡ d = grind arith in
    rw (is, value) refl

numeral_stops : (m : ℕ) (rest : List ℕ) → EndsNumber rest → numeral m rest ≡ (m, rest)
numeral_stops m [] e = refl
numeral_stops m (b ∷ bs) e = rw e refl

-- leading zeros change nothing
trimmed_same : (ds rest : List ℕ) → numeral 0 (trimmed ds ++ rest) ≡ numeral 0 (ds ++ rest)
trimmed_same [] rest = refl
trimmed_same (d ∷ []) rest = refl
trimmed_same (d ∷ e ∷ ds) rest =
    elim (same_or_not d 48) [ inl same ↦ (let r = trimmed_same (e ∷ ds) rest in rw same r) | inr other ↦ grind (arith, other) ]

step_to : (m d next : ℕ) (bs : List ℕ) → d < 16 → (m * 16 + d) % 2 ^ 32 ≡ next → numeral m (hex_digit d ∷ bs) ≡ numeral next bs
step_to m d next bs h e = digit_step m d bs h ∙ ap (λ (x : ℕ). numeral x bs) e

pub digits_again : (n : ℕ) (rest : List ℕ) → n < 2 ^ 32 → EndsNumber rest → numeral 0 (hex_digits 8 n ++ rest) ≡ (n, rest)
digits_again n rest h e =
    let l0 : List ℕ = hex_digit (n / 16 ^ 0 % 16) ∷ rest in
    let l1 : List ℕ = hex_digit (n / 16 ^ 1 % 16) ∷ l0 in
    let l2 : List ℕ = hex_digit (n / 16 ^ 2 % 16) ∷ l1 in
    let l3 : List ℕ = hex_digit (n / 16 ^ 3 % 16) ∷ l2 in
    let l4 : List ℕ = hex_digit (n / 16 ^ 4 % 16) ∷ l3 in
    let l5 : List ℕ = hex_digit (n / 16 ^ 5 % 16) ∷ l4 in
    let l6 : List ℕ = hex_digit (n / 16 ^ 6 % 16) ∷ l5 in
    step_to 0 (n / 16 ^ 7 % 16) (n / 16 ^ 7) l6 (omega arith) (omega arith)
    ∙ step_to (n / 16 ^ 7) (n / 16 ^ 6 % 16) (n / 16 ^ 6) l5 (omega arith) (omega arith)
    ∙ step_to (n / 16 ^ 6) (n / 16 ^ 5 % 16) (n / 16 ^ 5) l4 (omega arith) (omega arith)
    ∙ step_to (n / 16 ^ 5) (n / 16 ^ 4 % 16) (n / 16 ^ 4) l3 (omega arith) (omega arith)
    ∙ step_to (n / 16 ^ 4) (n / 16 ^ 3 % 16) (n / 16 ^ 3) l2 (omega arith) (omega arith)
    ∙ step_to (n / 16 ^ 3) (n / 16 ^ 2 % 16) (n / 16 ^ 2) l1 (omega arith) (omega arith)
    ∙ step_to (n / 16 ^ 2) (n / 16 ^ 1 % 16) (n / 16 ^ 1) l0 (omega arith) (omega arith)
    ∙ step_to (n / 16 ^ 1) (n / 16 ^ 0 % 16) n rest (omega arith) (omega arith)
    ∙ numeral_stops n rest e

-- the four digits of a half
pub half_again : (n : ℕ) (rest : List ℕ) → n < 2 ^ 16 → EndsNumber rest → numeral 0 (hex_digits 4 n ++ rest) ≡ (n, rest)
half_again n rest h e =
    let l0 : List ℕ = hex_digit (n / 16 ^ 0 % 16) ∷ rest in
    let l1 : List ℕ = hex_digit (n / 16 ^ 1 % 16) ∷ l0 in
    let l2 : List ℕ = hex_digit (n / 16 ^ 2 % 16) ∷ l1 in
    step_to 0 (n / 16 ^ 3 % 16) (n / 16 ^ 3) l2 (omega arith) (omega arith)
    ∙ step_to (n / 16 ^ 3) (n / 16 ^ 2 % 16) (n / 16 ^ 2) l1 (omega arith) (omega arith)
    ∙ step_to (n / 16 ^ 2) (n / 16 ^ 1 % 16) (n / 16 ^ 1) l0 (omega arith) (omega arith)
    ∙ step_to (n / 16 ^ 1) (n / 16 ^ 0 % 16) n rest (omega arith) (omega arith)
    ∙ numeral_stops n rest e

-- the two digits of a byte
pub byte_again : (n : ℕ) (rest : List ℕ) → n < 2 ^ 8 → EndsNumber rest → numeral 0 (hex_digits 2 n ++ rest) ≡ (n, rest)
byte_again n rest h e =
    let l0 : List ℕ = hex_digit (n / 16 ^ 0 % 16) ∷ rest in
    step_to 0 (n / 16 ^ 1 % 16) (n / 16 ^ 1) l0 (omega arith) (omega arith)
    ∙ step_to (n / 16 ^ 1) (n / 16 ^ 0 % 16) n rest (omega arith) (omega arith)
    ∙ numeral_stops n rest e

pub hex_again : (n : ℕ) (rest : List ℕ) → n < 2 ^ 32 → EndsNumber rest → hex_at (hex n ++ rest) ≡ (n, rest)
unfolding hex_at
hex_again n rest h e = trimmed_same (hex_digits 8 n) rest ∙ digits_again n rest h e

pub marked_again : (n : ℕ) (rest : List ℕ) → n < 2 ^ 32 → EndsNumber rest → marked_at (number n ++ rest) ≡ (n, rest)
unfolding marked_at
marked_again n rest h e = trimmed_same (hex_digits 8 n) rest ∙ digits_again n rest h e

-- registers with a comma and a blank between them
pub one_again : (a : ℕ) → a < 16 → one_at (joined (codes ", ") (register_name a ∷ [])) ≡ a
one_again a ha = ap (λ (p : ℕ × List ℕ). p.0) (register_again a [] ha refl)

pub two_again : (a b : ℕ) → a < 16 → b < 16 → two_at (joined (codes ", ") (register_name a ∷ register_name b ∷ [])) ≡ (a, b)
two_again a b ha hb =
    let lb : List ℕ = register_name b ++ [] in
    rw (register_again a (44 ∷ 32 ∷ lb) ha refl, register_again b [] hb refl) refl

pub three_again : (a b c : ℕ) → a < 16 → b < 16 → c < 16 → three_at (joined (codes ", ") (register_name a ∷ register_name b ∷ register_name c ∷ [])) ≡ (a, b, c)
three_again a b c ha hb hc =
    let lc : List ℕ = register_name c ++ [] in
    let lb : List ℕ = register_name b ++ 44 ∷ 32 ∷ lc in
    rw (register_again a (44 ∷ 32 ∷ lb) ha refl, register_again b (44 ∷ 32 ∷ lc) hb refl, register_again c [] hc refl) refl

pub four_again : (a b c d : ℕ) → a < 16 → b < 16 → c < 16 → d < 16 → four_at (joined (codes ", ") (register_name a ∷ register_name b ∷ register_name c ∷ register_name d ∷ [])) ≡ (a, b, c, d)
four_again a b c d ha hb hc hd =
    let ld : List ℕ = register_name d ++ [] in
    let lc : List ℕ = register_name c ++ 44 ∷ 32 ∷ ld in
    let lb : List ℕ = register_name b ++ 44 ∷ 32 ∷ lc in
    rw (register_again a (44 ∷ 32 ∷ lb) ha refl, register_again b (44 ∷ 32 ∷ lc) hb refl, register_again c (44 ∷ 32 ∷ ld) hc refl, register_again d [] hd refl) refl

-- what can follow a shifted register
pub record EndsShift (rest : List ℕ) : Type 0 where
  pub digit : is_digit (slice_index rest 0) ≡ false
  pub comma : (slice_index rest 0 == 44) ≡ false
  pub blank : (slice_index rest 0 == 32) ≡ false

pub not_decimal : (b : ℕ) → is_digit b ≡ false → is_decimal b ≡ false
not_decimal b h = grind arith

-- a shift by a number, after the three letters of its name
by_amount : (rm n : ℕ) (shift : Shift) (a b c : ℕ) (rest : List ℕ) → rm < 16 → n < 33 → EndsNumber rest → shift_at (a ∷ b ∷ c ∷ 32 ∷ (number n ++ rest)) ≡ shift →
    shifted_at (register_name rm ++ 44 ∷ 32 ∷ a ∷ b ∷ c ∷ 32 ∷ (number n ++ rest)) ≡ (Shifted rm shift (n % 32), rest)
unfolding shifted_at by_shift
by_amount rm n shift a b c rest hm hn e s =
    rw (register_again rm (44 ∷ 32 ∷ a ∷ b ∷ c ∷ 32 ∷ (number n ++ rest)) hm refl, s, marked_again n rest (omega arith) e) refl

by_register : (rm rs : ℕ) (shift : Shift) (a b c : ℕ) (rest : List ℕ) → rm < 16 → rs < 16 → EndsDecimal rest → shift_at (a ∷ b ∷ c ∷ 32 ∷ (register_name rs ++ rest)) ≡ shift →
    shifted_at (register_name rm ++ 44 ∷ 32 ∷ a ∷ b ∷ c ∷ 32 ∷ (register_name rs ++ rest)) ≡ (ShiftedByRegister rm shift rs, rest)
unfolding shifted_at by_shift
by_register rm rs shift a b c rest hm hs e s =
    rw (register_again rm (44 ∷ 32 ∷ a ∷ b ∷ c ∷ 32 ∷ (register_name rs ++ rest)) hm refl, s, register_again rs rest hs e) refl

by_rrx : (rm : ℕ) (rest : List ℕ) → rm < 16 → EndsShift rest → shifted_at (register_name rm ++ 44 ∷ 32 ∷ 114 ∷ 114 ∷ 120 ∷ rest) ≡ (Shifted rm Ror 0, rest)
unfolding shifted_at by_shift shift_at
by_rrx rm rest hm e = rw (register_again rm (44 ∷ 32 ∷ 114 ∷ 114 ∷ 120 ∷ rest) hm refl, e.blank) refl

by_nothing : (rm : ℕ) (rest : List ℕ) → rm < 16 → EndsShift rest → shifted_at (register_name rm ++ rest) ≡ (Shifted rm Lsl 0, rest)
unfolding shifted_at
by_nothing rm rest hm e =
    let r : register_at (register_name rm ++ rest) ≡ (rm, rest) = register_again rm rest hm (not_decimal (slice_index rest 0) e.digit) in
    rw (r, e.comma) refl

zero_or : (n : ℕ) → ((n ≡ 0) × ((n == 0) ≡ true)) ⊎ ((n == 0) ≡ false)
zero_or n = grind arith

nothing_after : (a rest : List ℕ) → (a ++ []) ++ rest ≡ a ++ rest
nothing_after a rest = simp append-nil

-- a register, the letters of a shift, and its number
amount_after : (a x rest : List ℕ) (p q r : ℕ) → (a ++ 44 ∷ 32 ∷ p ∷ q ∷ r ∷ 32 ∷ x) ++ rest ≡ a ++ 44 ∷ 32 ∷ p ∷ q ∷ r ∷ 32 ∷ (x ++ rest)
amount_after a x rest p q r = append_assoc a (44 ∷ 32 ∷ p ∷ q ∷ r ∷ 32 ∷ x) rest

abbrev pair : ℕ → Shift → List ℕ → ℕ → Operand × List ℕ
pair rm shift rest amount = (Shifted rm shift amount, rest)

same_amount : (rm n m : ℕ) (shift : Shift) (rest : List ℕ) → n ≡ m → pair rm shift rest n ≡ pair rm shift rest m
same_amount rm n m shift rest e = ap (pair rm shift rest) e

amount_again : (rm n m : ℕ) (shift : Shift) (a b c : ℕ) (rest : List ℕ) → rm < 16 → n < 33 → n % 32 ≡ m → EndsShift rest → shift_at (a ∷ b ∷ c ∷ 32 ∷ (number n ++ rest)) ≡ shift →
    shifted_at ((register_name rm ++ 44 ∷ 32 ∷ a ∷ b ∷ c ∷ 32 ∷ number n) ++ rest) ≡ (Shifted rm shift m, rest)
amount_again rm n m shift a b c rest hm hn em e s =
    ap shifted_at (amount_after (register_name rm) (number n) rest a b c) ∙ by_amount rm n shift a b c rest hm hn e.digit s ∙ same_amount rm (n % 32) m shift rest em

pub shifted_again : (rm : ℕ) (shift : Shift) (amount : ℕ) (rest : List ℕ) → rm < 16 → amount < 32 → EndsShift rest → shifted_at (shifted rm shift amount ++ rest) ≡ (Shifted rm shift amount, rest)
unfolding shift_at
shifted_again rm Lsl amount rest hm ha e =
    elim (zero_or amount) [
      | inl z ↦ rw z.1 (ap shifted_at (nothing_after (register_name rm) rest) ∙ by_nothing rm rest hm e ∙ same_amount rm 0 amount Lsl rest (sym z.0))
      | inr n ↦ rw n (amount_again rm amount amount Lsl 108 115 108 rest hm (omega arith) (omega arith) e refl)
    ]
shifted_again rm Lsr amount rest hm ha e =
    elim (zero_or amount) [
      | inl z ↦ rw z.1 (amount_again rm 32 amount Lsr 108 115 114 rest hm (omega arith) (omega (arith, z.0)) e refl)
      | inr n ↦ rw n (amount_again rm amount amount Lsr 108 115 114 rest hm (omega arith) (omega arith) e refl)
    ]
shifted_again rm Asr amount rest hm ha e =
    elim (zero_or amount) [
      | inl z ↦ rw z.1 (amount_again rm 32 amount Asr 97 115 114 rest hm (omega arith) (omega (arith, z.0)) e refl)
      | inr n ↦ rw n (amount_again rm amount amount Asr 97 115 114 rest hm (omega arith) (omega arith) e refl)
    ]
shifted_again rm Ror amount rest hm ha e =
    elim (zero_or amount) [
      | inl z ↦ rw z.1 (ap shifted_at (append_assoc (register_name rm) (codes ", rrx") rest) ∙ by_rrx rm rest hm e ∙ same_amount rm 0 amount Ror rest (sym z.0))
      | inr n ↦ rw n (amount_again rm amount amount Ror 114 111 114 rest hm (omega arith) (omega arith) e refl)
    ]

shift_name_again : (shift : Shift) (rm rs : ℕ) → rm < 16 → rs < 16 →
    shifted_at ((register_name rm ++ (codes ", " ++ (shift_name shift ++ (codes " " ++ register_name rs)))) ++ []) ≡ (ShiftedByRegister rm shift rs, [])
unfolding shift_at
shift_name_again Lsl rm rs hm hs = ap shifted_at (amount_after (register_name rm) (register_name rs) [] 108 115 108) ∙ by_register rm rs Lsl 108 115 108 [] hm hs refl refl
shift_name_again Lsr rm rs hm hs = ap shifted_at (amount_after (register_name rm) (register_name rs) [] 108 115 114) ∙ by_register rm rs Lsr 108 115 114 [] hm hs refl refl
shift_name_again Asr rm rs hm hs = ap shifted_at (amount_after (register_name rm) (register_name rs) [] 97 115 114) ∙ by_register rm rs Asr 97 115 114 [] hm hs refl refl
shift_name_again Ror rm rs hm hs = ap shifted_at (amount_after (register_name rm) (register_name rs) [] 114 111 114) ∙ by_register rm rs Ror 114 111 114 [] hm hs refl refl

-- rotations that give no byte are passed over
passed : (n from count left : ℕ) → ((r : ℕ) → from ≤ r → r < from + count → 256 ≤ turned_back r n) → rotation_from n from (count + left) ≡ rotation_from n (from + count) left
passed n from zero left h =
    let l : 0 + left ≡ left = omega arith in
    let f : from ≡ from + 0 = omega arith in
    ap (rotation_from n from) l ∙ ap (λ (x : ℕ). rotation_from n x left) f
passed n from (suc count) left h =
    let big : 256 ≤ turned_back from n = h from (omega arith) (omega arith) in
    let no : nat_lt (turned_back from n) 256 ≡ false = grind arith in
    let rec : rotation_from n (from + 1) (count + left) ≡ rotation_from n (from + 1 + count) left = passed n (from + 1) count left (λ r lo hi. h r (omega arith) (omega arith)) in
    let f : from + 1 + count ≡ from + suc count = omega arith in
    let l : suc count + left ≡ suc (count + left) = omega arith in
    let step : rotation_from n from (suc (count + left)) ≡ rotation_from n (from + 1) (count + left) = rw no refl in
    ap (rotation_from n from) l ∙ step ∙ rec ∙ ap (λ (x : ℕ). rotation_from n x left) f

none : (rotate n : ℕ) → none_below rotate n ≡ true → (r : ℕ) → r < rotate → 256 ≤ turned_back r n
none zero n e r h = absurd (omega arith)
none (suc k) n e r h =
    let parts = both (nat_le 256 (turned_back k n)) (none_below k n) e in
    elim (same_or_not r k) [
      | inl same ↦ (let f : turned_back r n ≡ turned_back k n = ap (λ (x : ℕ). turned_back x n) same in rw f (le_of 256 (turned_back k n) parts.0))
      | inr other ↦ none k n parts.1 r (omega (arith, other))
    ]

pub rotation_again : (rotate immed : ℕ) → rotate < 16 → immed < 256 → least_rotation rotate immed ≡ true → rotation_of (immediate rotate immed) ≡ (rotate, immed)
unfolding rotation_of
rotation_again rotate immed hr hi l =
    let n : ℕ = immediate rotate immed in
    let back : turned_back rotate n ≡ immed = back_again rotate immed hr hi in
    let yes : nat_lt immed 256 ≡ true = grind arith in
    let count : 16 ≡ rotate + suc (15 - rotate) = omega arith in
    let start : 0 + rotate ≡ rotate = omega arith in
    let found : rotation_from n rotate (suc (15 - rotate)) ≡ (rotate, immed) = rw (back, yes) refl in
    ap (λ (x : ℕ). rotation_from n 0 x) count ∙ passed n 0 rotate (suc (15 - rotate)) (λ r lo hi. none rotate n l r (omega arith))
    ∙ ap (λ (x : ℕ). rotation_from n x (suc (15 - rotate))) start ∙ found

pub immediate_again : (rotate immed : ℕ) → rotate < 16 → immed < 256 → least_rotation rotate immed ≡ true → rotation_of (marked_at (number (immediate rotate immed) ++ [])).0 ≡ (rotate, immed)
immediate_again rotate immed hr hi l =
    ap (λ (p : ℕ × List ℕ). rotation_of p.0) (marked_again (immediate rotate immed) [] (below_word rotate immed hr hi) refl) ∙ rotation_again rotate immed hr hi l

pub operand_again : (o : Operand) → HasOperand o → least_operand o ≡ true → operand_at (operand o ++ []) ≡ o
unfolding operand_at
operand_again (Immediate rotate immed) h l = rw (immediate_again rotate immed h.0 h.1 l) refl
operand_again (Shifted rm shift amount) h l = ap (λ (p : Operand × List ℕ). p.0) (shifted_again rm shift amount [] h.0 h.1 (record { digit = refl; comma = refl; blank = refl }))
operand_again (ShiftedByRegister rm shift rs) h l = ap (λ (p : Operand × List ℕ). p.0) (shift_name_again shift rm rs h.0 h.1)
