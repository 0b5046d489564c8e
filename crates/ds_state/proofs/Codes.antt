-- What a field's bytes spell, and how a value is spelled.
use Rattle.std.proofs.Common.{rules, ℤ, FitsSigned, ◌≡◌, ℕ, zero, suc, ◌+◌, ◌*◌, ◌/◌, ◌%◌, ◌^◌, ◌<◌, ◌≤◌, List, [], ◌∷◌, ◌++◌, length, take, drop, slice_index, Option, Some, None, Bool, true, false, Ok, nat_lt, ◌==◌, if◌then◌else◌, subst, ap, sym, ◌∙◌, refl, arith}
use Rattle.std.proofs.Math.Nat.{div-div-eq-div-mul, div-one, pow-succ'}
use Rattle.std.specs.Int.{byte_at, bytes_low_first, w16, w32, cast_signed, cast_unsigned}
use Rattle.std.proofs.Math.Facts.{to_z-of_z, Fits-of_z}
use Rattle.std.proofs.lemmas.Int.{of_z-to_z}
use Rattle.byteorder.specs.Endian.{little_number, little_bytes}
use Rattle.byteorder.specs.Numbers.{little_from-cons, little_from-lt, little_number-reads_back, length-bytes_low_first}
use Rattle.std.proofs.lemmas.List.{length-append, length-take-le}
use Rattle.std.proofs.Math.Seq.{take-append_seam, drop-append_seam}
use Rattle.std.proofs.lemmas.Bool.{ne_eqb, eqb-false}
use Rattle.ds_state.specs.Formats.{Code, number_code, flag_code, tick, array, signed_word, signed_half_code, code_width, no_tick, tick_number, Fits, code_bytes}
use Rattle.ds_state.specs.Reading.{Left, value, flag_of, tick_read, read_code}

-- bytes
abbrev pub AreBytes : List ℕ → Type 0
AreBytes bs = (i : ℕ) → slice_index bs i < 256

pub bytes_drop : (n : ℕ) (bs : List ℕ) → AreBytes bs → AreBytes (drop n bs)
bytes_drop zero bs h = h
bytes_drop (suc n) [] h = h
bytes_drop (suc n) (b ∷ bs) h = bytes_drop n bs (λ i. h (suc i))

byte_at-pow : (k x : ℕ) → byte_at k x ≡ x / 256 ^ k % 256
byte_at-pow zero x = ap (λ (y : ℕ). y % 256) (sym (div-one x))
byte_at-pow (suc k) x = refl

byte_up : (j b y : ℕ) → b < 256 → byte_at (suc j) (b + 256 * y) ≡ byte_at j y
byte_up j b y h =
    let low : (b + 256 * y) / 256 ≡ y = omega arith in
    let e : (b + 256 * y) / 256 ^ suc j ≡ y / 256 ^ j = rw pow-succ' (sym (div-div-eq-div-mul (b + 256 * y) 256 (256 ^ j)) ∙ ap (λ (x : ℕ). x / 256 ^ j) low) in
    ap (λ (x : ℕ). x % 256) e ∙ sym (byte_at-pow j y)

bytes_up : (k j b y : ℕ) → b < 256 → bytes_low_first (suc j) k (b + 256 * y) ≡ bytes_low_first j k y
bytes_up zero j b y h = refl
bytes_up (suc k) j b y h = rw (byte_up j b y h, bytes_up k (suc j) b y h) refl

-- the bytes of the number that bytes are
pub bytes_again : (n : ℕ) (bs : List ℕ) → AreBytes bs → n ≤ length bs → little_bytes n (little_number n bs) ≡ take n bs
bytes_again zero bs h le = refl
bytes_again (suc n) [] h le = absurd (omega (arith, le))
bytes_again (suc n) (b ∷ bs) h le =
    let y = little_number n bs in
    let whole : little_number (suc n) (b ∷ bs) ≡ b + 256 * y = ap (λ (r : ℕ). b + 256 * r) (little_from-cons 0 n b bs) in
    let low : (b + 256 * y) % 256 ≡ b = let lt = h 0 in omega arith in
    rw (whole, low, bytes_up n 0 b y (h 0), bytes_again n bs (λ i. h (suc i)) (omega (arith, le))) refl

pub length_spelled : {V : Type 0} (c : Code V) (v : V) → Fits c v → length (code_bytes c v) ≡ code_width c
length_spelled (number_code n) v h = length-bytes_low_first 0 n v
length_spelled flag_code v h = refl
length_spelled tick v h = refl
length_spelled (array n) v h = h
length_spelled signed_word v h = refl
length_spelled signed_half_code v h = refl

abbrev left : ℕ → List ℕ → Left
left place bytes = record { place = place; bytes = bytes }

not_short : (a b : ℕ) → b ≤ a → nat_lt a b ≡ false
not_short a b h = grind arith

pub long_enough : (a b : ℕ) → nat_lt a b ≡ false → b ≤ a
long_enough a b h = grind (arith, h)

tick_fits : (v : Option ℕ) → Fits tick v → tick_number v < 256 ^ 8
tick_fits None h = omega arith
tick_fits (Some t) h = omega (arith, h)

tick_back : (v : Option ℕ) → Fits tick v → tick_read (tick_number v) ≡ v
tick_back None h = refl
tick_back (Some t) h =
    let e : (t == no_tick) ≡ false = ne_eqb t no_tick (λ same. omega (arith, h, same)) in
    ap (λ (b : Bool). if b then None else Some t) e

or_else : {V : Type 0} → V → Option V → V
or_else d None = d
or_else d (Some x) = x

half_fits : (v : ℤ) → FitsSigned w16 v → cast_unsigned w16 v < 256 ^ 2
half_fits v h = let f = Fits-of_z {w = w16} {z = v} h in search rules

signed_half_fits : (n : ℕ) → n < 2 ^ 16 → FitsSigned w16 (cast_signed w16 n)
signed_half_fits n lt = search rules

cast_fits : (v : ℤ) → FitsSigned w32 v → cast_unsigned w32 v < 256 ^ 4
cast_fits v h = let f = Fits-of_z {w = w32} {z = v} h in search rules

signed_fits : (n : ℕ) → n < 2 ^ 32 → FitsSigned w32 (cast_signed w32 n)
signed_fits n lt = search rules

-- where a value's spelling stands, the value is read
value_back : {V : Type 0} (c : Code V) (v : V) (rest : List ℕ) → Fits c v → value c (code_bytes c v ++ rest) ≡ Some v
value_back (number_code n) v rest h = ap (λ (x : ℕ). Some x) (little_number-reads_back n v rest h)
value_back flag_code true rest h = ap flag_of (little_number-reads_back 1 1 rest (omega arith))
value_back flag_code false rest h = ap flag_of (little_number-reads_back 1 0 rest (omega arith))
value_back tick v rest h = ap (λ (x : Option ℕ). Some x) (ap tick_read (little_number-reads_back 8 (tick_number v) rest (tick_fits v h)) ∙ tick_back v h)
value_back (array n) v rest h = ap (λ (x : List ℕ). Some x) (ap (λ (k : ℕ). take k (v ++ rest)) (sym h) ∙ take-append_seam v rest)
value_back signed_word v rest h = ap (λ (x : ℤ). Some x) (ap (cast_signed w32) (little_number-reads_back 4 (cast_unsigned w32 v) rest (cast_fits v h)) ∙ to_z-of_z h)
value_back signed_half_code v rest h = ap (λ (x : ℤ). Some x) (ap (cast_signed w16) (little_number-reads_back 2 (cast_unsigned w16 v) rest (half_fits v h)) ∙ to_z-of_z h)

pub code_back : {V : Type 0} (c : Code V) (v : V) (place : ℕ) (rest : List ℕ) → Fits c v
    → read_code c (left place (code_bytes c v ++ rest)) ≡ Ok (v, left (place + length (code_bytes c v)) rest)
unfolding read_code
code_back c v place rest h =
    let e : length (code_bytes c v) ≡ code_width c = length_spelled c v h in
    let long : nat_lt (length (code_bytes c v ++ rest)) (code_width c) ≡ false = not_short (length (code_bytes c v ++ rest)) (code_width c) (rw (length-append (code_bytes c v) rest, e) (omega arith)) in
    let back : value c (code_bytes c v ++ rest) ≡ Some v = value_back c v rest h in
    let moved : drop (code_width c) (code_bytes c v ++ rest) ≡ rest = ap (λ (k : ℕ). drop k (code_bytes c v ++ rest)) (sym e) ∙ drop-append_seam (code_bytes c v) rest in
    rw (long, back, moved, e) refl

some_inj : {V : Type 0} {a b : V} → Some a ≡ Some b → a ≡ b
unfolding or_else
some_inj {V = V} {a = a} h = ap (λ (o : Option V). or_else a o) h

abbrev IsSomething : Option Bool → Type 0
IsSomething None = ⊥
IsSomething (Some b) = Unit {0}

flag_spells : (n : ℕ) (v : Bool) → flag_of n ≡ Some v → (if v then 1 else 0) ≡ n
flag_spells zero v h = rw (sym (some_inj h)) refl
flag_spells (suc zero) v h = rw (sym (some_inj h)) refl
flag_spells (suc (suc n)) v h = absurd (subst IsSomething (sym h) tt)

tick_spells : (n : ℕ) (b : Bool) → (n == no_tick) ≡ b → tick_number (if b then None else Some n) ≡ n
tick_spells n true h = let e : n ≡ no_tick = grind (arith, h) in sym e
tick_spells n false h = refl

tick_fitted : (n : ℕ) (b : Bool) → (n == no_tick) ≡ b → n < 256 ^ 8 → Fits tick (if b then None else Some n)
tick_fitted n true h lt = tt
tick_fitted n false h lt = let ne : n ≡ no_tick → ⊥ = eqb-false n no_tick h in omega (arith, ne, lt)

-- what is read is spelled so
pub code_spells : {V : Type 0} (c : Code V) (bytes : List ℕ) (v : V) → AreBytes bytes → code_width c ≤ length bytes → value c bytes ≡ Some v
    → (code_bytes c v ≡ take (code_width c) bytes) × Fits c v
code_spells (number_code n) bytes v are le h = (ap (little_bytes n) (sym (some_inj h)) ∙ bytes_again n bytes are le, subst (λ (x : ℕ). x < 256 ^ n) (some_inj h) (little_from-lt 0 n bytes are))
code_spells flag_code bytes v are le h = (ap (little_bytes 1) (flag_spells (little_number 1 bytes) v h) ∙ bytes_again 1 bytes are le, tt)
code_spells tick bytes v are le h =
    let n = little_number 8 bytes in
    let e : tick_read n ≡ v = some_inj h in (
      ap (little_bytes 8) (ap tick_number (sym e) ∙ tick_spells n (n == no_tick) refl) ∙ bytes_again 8 bytes are le,
      subst (Fits tick) e (tick_fitted n (n == no_tick) refl (little_from-lt 0 8 bytes are)),
    )
code_spells (array n) bytes v are le h = (sym (some_inj h), ap (λ (x : List ℕ). length x) (sym (some_inj h)) ∙ length-take-le n bytes le)
code_spells signed_word bytes v are le h =
    let n = little_number 4 bytes in
    let lt : n < 2 ^ 32 = little_from-lt 0 4 bytes are in
    let e : cast_signed w32 n ≡ v = some_inj h in
    (ap (little_bytes 4) (ap (cast_unsigned w32) (sym e) ∙ of_z-to_z w32 n lt) ∙ bytes_again 4 bytes are le, subst (FitsSigned w32) e (signed_fits n lt))
code_spells signed_half_code bytes v are le h =
    let n = little_number 2 bytes in
    let lt : n < 2 ^ 16 = little_from-lt 0 2 bytes are in
    let e : cast_signed w16 n ≡ v = some_inj h in
    (ap (little_bytes 2) (ap (cast_unsigned w16) (sym e) ∙ of_z-to_z w16 n lt) ∙ bytes_again 2 bytes are le, subst (FitsSigned w16) e (signed_half_fits n lt))
