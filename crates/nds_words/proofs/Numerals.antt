use Rattle.std.proofs.Common.{ℕ, ◌≡◌, ◌≢◌, ◌≤◌, ◌<◌, ◌+◌, ◌^◌, ◌⊎◌, inl, inr, List, [], ◌∷◌, length, Result, Ok, Err, get_or, arith, sym, ◌∙◌, ap, subst}
use Rattle.std.specs.Fmt.{decimal}
use Rattle.std.specs.Result.{OkIff}
use Rattle.std.specs.Str.Parse.{ParsesUnsigned, digits_value, AllDigits}
use Rattle.nds_words.specs.Inside.{BeginsNumber}
use Rattle.std.proofs.lemmas.Fmt.{parse-decimal, decimal-digits_value, first_decimal, decimal_digit, decimal_nonempty}
use Rattle.std.proofs.lemmas.Str.Parse.{IsNumeralModel, numerals_by_value, tells_digits, parse_plain}

own : IsNumeralModel (AllDigits 10) (digits_value 10)
own = numerals_by_value (AllDigits 10) tells_digits

ok_part : {E : Type 0} (r : Result ℕ E) (P : Type 0) (v n : ℕ) → OkIff r P v → r ≡ Ok n → P × (v ≡ n)
ok_part (Ok x) P v n h e = let same : x ≡ n = cc in (h.0, sym h.1 ∙ same)
ok_part (Err x) P v n h e = cc

-- what is read is what is written
pub read_is : {E : Type 0} (word : List ℕ) (r : Result ℕ E) (n : ℕ) → ParsesUnsigned 64 10 word r → r ≡ Ok n → 48 ≤ get_or word 0 0 → (get_or word 0 0 ≡ 48 → length word ≤ 1) → word ≡ decimal n
read_is word r n parses is first zero =
    let plain : get_or word 0 0 ≢ 43 = omega (arith, first) in
    let k = ok_part r _ _ n (parse_plain own 64 word r parses plain) is in
    sym (decimal-digits_value own word k.0.0 k.0.1 (λ e. (let le : length word ≤ 1 = zero e in let low : 0 < length word = k.0.1 in omega arith)) k.0.2) ∙ ap decimal k.1

-- what is written is read
pub read_back : {E : Type 0} (word : List ℕ) (r : Result ℕ E) (n : ℕ) → ParsesUnsigned 64 10 word r → n < 2 ^ 64 → word ≡ decimal n → r ≡ Ok n
read_back word r n parses small e = parse-decimal 64 n word r small small e parses

zero_or : (n : ℕ) → (n ≡ 0) ⊎ (0 < n)
zero_or n = grind arith

of_number : (n : ℕ) → n < 2 ^ 64 → BeginsNumber (decimal n)
of_number n small = elim (zero_or n) [
  | inl z ↦ (let e : decimal n ≡ (48 + n) ∷ [] = decimal_digit n (omega (arith, z)) in rw e (omega arith, omega arith, λ _. omega arith))
  | inr pos ↦ (let f = first_decimal n pos small in (decimal_nonempty n small, omega (arith, f), λ e. (let bad : ⊥ = omega (arith, f, e) in absurd bad)))
]

-- a number's first digit, and no 0 before others
pub begins : (word : List ℕ) (n : ℕ) → n < 2 ^ 64 → word ≡ decimal n → BeginsNumber word
begins word n small e = subst BeginsNumber (sym e) (of_number n small)
