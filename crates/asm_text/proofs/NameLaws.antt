-- A name is read as what it was written for, with each condition.
use Rattle.asm_text.proofs.Words.{ℕ, ◌≡◌, ◌<◌, ◌+◌, ◌*◌, ◌/◌, ◌%◌, ◌^◌, Bool, true, List, [], ◌∷◌, ◌++◌, refl, sym, ap, ◌∙◌, arith, Option, Some}
use Rattle.asm_text.proofs.Words.{append_assoc, codes, ◌==◌, not, both, lt_of, Condition, Al, suffix, name, lookup, named_stem, read, IsStem, on}
use Rattle.asm_text.proofs.Words.{joined}
use Rattle.ds_base.proofs.Choices.{not_true}
use Rattle.arm_words.specs.declared.parts.Condition.TheVariants.{Eq, Ne, Cs, Cc, Mi, Pl, Vs, Vc, Hi, Ls, Ge, Lt, Gt, Le}
use Rattle.asm_text.specs.Reader.Names.{letters, with_suffix, Filler, filled, no_blank}
use Rattle.asm_text.specs.declared.reading.names.Stem.{Stem}
use Rattle.asm_text.specs.declared.reading.names.TheConstants.{CONDITIONS}

-- a key goes on from a name to what follows it
letters_after : (k : ℕ) (a b : List ℕ) → letters k (a ++ b) ≡ letters (letters k a) b
letters_after k [] b = refl
letters_after k (x ∷ xs) b = letters_after ((k * 32 + x % 32) % 2 ^ 64) xs b

-- a name is read up to its blank
name_again : (k : ℕ) (nm rest : List ℕ) → no_blank nm ≡ true → name k (nm ++ 32 ∷ rest) ≡ (letters k nm, rest)
name_again k [] rest h = refl
name_again k (b ∷ bs) rest h =
    let parts = both (not (b == 32)) (no_blank bs) h in
    rw (not_true (b == 32) parts.0) (name_again ((k * 32 + b % 32) % 2 ^ 64) bs rest parts.1)

blank_free : (a b : List ℕ) → no_blank a ≡ true → no_blank b ≡ true → no_blank (a ++ b) ≡ true
blank_free [] b ha hb = hb
blank_free (x ∷ xs) b ha hb =
    let parts = both (not (x == 32)) (no_blank xs) ha in
    rw parts.0 (blank_free xs b parts.1 hb)

suffix_blank_free : (cond : Condition) → no_blank (suffix cond) ≡ true
suffix_blank_free Eq = refl
suffix_blank_free Ne = refl
suffix_blank_free Cs = refl
suffix_blank_free Cc = refl
suffix_blank_free Mi = refl
suffix_blank_free Pl = refl
suffix_blank_free Vs = refl
suffix_blank_free Vc = refl
suffix_blank_free Hi = refl
suffix_blank_free Ls = refl
suffix_blank_free Ge = refl
suffix_blank_free Lt = refl
suffix_blank_free Gt = refl
suffix_blank_free Le = refl
suffix_blank_free Al = refl

-- two letters more
pair_key : (k a b : ℕ) → k < 2 ^ 50 → letters k (a ∷ b ∷ []) ≡ k * 1024 + (a % 32 * 32 + b % 32)
pair_key k a b h = omega arith

front_key : (k n : ℕ) → n < 1024 → (k * 1024 + n) / 1024 ≡ k
front_key k n h = omega arith

back_key : (k n : ℕ) → n < 1024 → (k * 1024 + n) % 1024 ≡ n
back_key k n h = omega arith

-- a name in the table with a suffix is read as the two
with_pair : (table : List (ℕ × Stem)) (k a b : ℕ) (stem : Stem) (cond : Condition) → k < 2 ^ 50 → a % 32 * 32 + b % 32 < 1024 → lookup (a % 32 * 32 + b % 32) CONDITIONS ≡ Some cond →
    lookup k table ≡ Some stem → named_stem table (letters k (a ∷ b ∷ [])) ≡ (Some stem, cond)
unfolding named_stem
with_pair table k a b stem cond hk hn hc hs =
    let n : ℕ = a % 32 * 32 + b % 32 in
    let e : letters k (a ∷ b ∷ []) ≡ k * 1024 + n = pair_key k a b hk in
    let made : with_suffix (lookup ((k * 1024 + n) % 1024) CONDITIONS) (lookup ((k * 1024 + n) / 1024) table) (lookup (k * 1024 + n) table) ≡ (Some stem, cond) =
    rw (front_key k n hn, back_key k n hn, hc, hs) refl in
    ap (λ (x : ℕ). with_suffix (lookup (x % 1024) CONDITIONS) (lookup (x / 1024) table) (lookup x table)) e ∙ made

named_with : (table : List (ℕ × Stem)) (k : ℕ) (stem : Stem) → k < 2 ^ 50 → lookup k table ≡ Some stem → named_stem table k ≡ (Some stem, Al) → (cond : Condition) →
    named_stem table (letters k (suffix cond)) ≡ (Some stem, cond)
named_with table k stem hk hs alone Eq = with_pair table k 101 113 stem Eq hk (omega arith) refl hs
named_with table k stem hk hs alone Ne = with_pair table k 110 101 stem Ne hk (omega arith) refl hs
named_with table k stem hk hs alone Cs = with_pair table k 99 115 stem Cs hk (omega arith) refl hs
named_with table k stem hk hs alone Cc = with_pair table k 99 99 stem Cc hk (omega arith) refl hs
named_with table k stem hk hs alone Mi = with_pair table k 109 105 stem Mi hk (omega arith) refl hs
named_with table k stem hk hs alone Pl = with_pair table k 112 108 stem Pl hk (omega arith) refl hs
named_with table k stem hk hs alone Vs = with_pair table k 118 115 stem Vs hk (omega arith) refl hs
named_with table k stem hk hs alone Vc = with_pair table k 118 99 stem Vc hk (omega arith) refl hs
named_with table k stem hk hs alone Hi = with_pair table k 104 105 stem Hi hk (omega arith) refl hs
named_with table k stem hk hs alone Ls = with_pair table k 108 115 stem Ls hk (omega arith) refl hs
named_with table k stem hk hs alone Ge = with_pair table k 103 101 stem Ge hk (omega arith) refl hs
named_with table k stem hk hs alone Lt = with_pair table k 108 116 stem Lt hk (omega arith) refl hs
named_with table k stem hk hs alone Gt = with_pair table k 103 116 stem Gt hk (omega arith) refl hs
named_with table k stem hk hs alone Le = with_pair table k 108 101 stem Le hk (omega arith) refl hs
named_with table k stem hk hs alone Al = alone

-- what a stem's test tells
record Parts (table : List (ℕ × Stem)) (nm : List ℕ) (stem : Stem) : Type 0 where
  whole : lookup (letters 0 nm) table ≡ Some stem
  alone : named_stem table (letters 0 nm) ≡ (Some stem, Al)
  room : letters 0 nm < 2 ^ 50
  blank : no_blank nm ≡ true

parts_of : (table : List (ℕ × Stem)) (nm : List ℕ) (stem : Stem) → IsStem table nm stem → Parts table nm stem
parts_of table nm stem h =
    record {
      whole = ap (λ (p : Option Stem × (Option Stem × Condition) × Bool × Bool). p.0) h;
      alone = ap (λ (p : Option Stem × (Option Stem × Condition) × Bool × Bool). p.1) h;
      room = lt_of (letters 0 nm) (2 ^ 50) (ap (λ (p : Option Stem × (Option Stem × Condition) × Bool × Bool). p.2) h);
      blank = ap (λ (p : Option Stem × (Option Stem × Condition) × Bool × Bool). p.3) h;
    }

-- what is read of a statement: what its name stands for, filled in from its operands
pub read_on : (table : List (ℕ × Stem)) (fill : Filler) (at : ℕ) (nm : List ℕ) (stem : Stem) (cond : Condition) (operands : List (List ℕ)) → IsStem table nm stem →
    read table fill at (on nm cond operands) ≡ Some (filled fill at stem cond (joined (codes ", ") operands))
unfolding read
read_on table fill at nm stem cond operands h =
    let p = parts_of table nm stem h in
    let rest : List ℕ = joined (codes ", ") operands in
    let whole : List ℕ = nm ++ suffix cond in
    let again : name 0 (whole ++ 32 ∷ rest) ≡ (letters 0 whole, rest) = name_again 0 whole rest (blank_free nm (suffix cond) p.blank (suffix_blank_free cond)) in
    let text : on nm cond operands ≡ whole ++ 32 ∷ rest = sym (append_assoc nm (suffix cond) (32 ∷ rest)) in
    let key : named_stem table (letters 0 whole) ≡ (Some stem, cond) = ap (named_stem table) (letters_after 0 nm (suffix cond)) ∙ named_with table (letters 0 nm) stem p.room p.whole p.alone cond in
    rw (text, again, key) refl

-- the same of a text that is no instruction's: its name has no condition
pub read_raw : (table : List (ℕ × Stem)) (fill : Filler) (at : ℕ) (nm : List ℕ) (stem : Stem) (rest : List ℕ) → IsStem table nm stem →
    read table fill at (nm ++ 32 ∷ rest) ≡ Some (filled fill at stem Al rest)
unfolding read
read_raw table fill at nm stem rest h =
    let p = parts_of table nm stem h in
    rw (name_again 0 nm rest p.blank, p.alone) refl
