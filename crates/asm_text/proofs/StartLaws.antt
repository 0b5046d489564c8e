-- First lines and lines of bytes: each is written for one number alone, and has no line feed.
use Rattle.asm_text.proofs.Words.{ℕ, zero, suc, ◌≡◌, ◌≢◌, ◌<◌, ◌/◌, ◌%◌, ◌^◌, Bool, true, false, List, [], ◌∷◌, ◌++◌, refl, sym, ap, ◌∙◌, arith}
use Rattle.asm_text.proofs.Words.{HasNoFeed, append-nil, codes, if◌then◌else◌, ◌==◌, Arch, Set, Arm, Thumb, hex_digit, hex_digits, trimmed, hex}
use Rattle.asm_text.proofs.Words.{hex_at, numeral, set_at, arch_at, start_address_at, listed_byte_at, start, raw_byte}
use Rattle.ds_base.specs.declared.processors.Arch.TheVariants.{V4, V5}
use Rattle.asm_text.proofs.Again.{byte_again, hex_again}
use Rattle.asm_text.specs.Starts.{start_name}

-- no line feed
pub plain_append : (a b : List ℕ) → HasNoFeed a → HasNoFeed b → HasNoFeed (a ++ b)
plain_append [] b ha hb = hb
plain_append (x ∷ a) b ha hb = (ha.0, plain_append a b ha.1 hb)

abbrev pub no_feed : List ℕ → Bool
no_feed [] = true
no_feed (b ∷ bs) = if b == 10 then false else no_feed bs

plain_head : (b : ℕ) (bs : List ℕ) (same : Bool) → (b == 10) ≡ same → (if same then false else no_feed bs) ≡ true → (no_feed bs ≡ true → HasNoFeed bs) → HasNoFeed (b ∷ bs)
plain_head b bs true e h rec = absurd cc
plain_head b bs false e h rec = (grind arith, rec h)

pub plain_of : (xs : List ℕ) → no_feed xs ≡ true → HasNoFeed xs
plain_of [] e = tt
plain_of (b ∷ bs) e = plain_head b bs (b == 10) refl e (λ h. plain_of bs h)

digit_high : (d : ℕ) → hex_digit d ≢ 10
digit_high d = grind arith

pub digits_plain : (count n : ℕ) → HasNoFeed (hex_digits count n)
digits_plain zero n = tt
digits_plain (suc count) n = (digit_high (n / 16 ^ count % 16), digits_plain count n)

pub either_plain : (b : Bool) (x y : List ℕ) → HasNoFeed x → HasNoFeed y → HasNoFeed (if b then x else y)
either_plain true x y hx hy = hx
either_plain false x y hx hy = hy

trimmed_plain : (ds : List ℕ) → HasNoFeed ds → HasNoFeed (trimmed ds)
trimmed_plain [] h = h
trimmed_plain (d ∷ []) h = h
trimmed_plain (d ∷ e ∷ ds) h = either_plain (d == 48) (trimmed (e ∷ ds)) (d ∷ e ∷ ds) (trimmed_plain (e ∷ ds) h.1) h

pub hex_plain : (n : ℕ) → HasNoFeed (hex n)
hex_plain n = plain_append (codes "0x") (trimmed (hex_digits 8 n)) (plain_of (codes "0x") refl) (trimmed_plain (hex_digits 8 n) (digits_plain 8 n))

pub byte_plain : (b : ℕ) → HasNoFeed (raw_byte b)
byte_plain b = plain_append (codes ".byte 0x") (hex_digits 2 b) (plain_of (codes ".byte 0x") refl) (digits_plain 2 b)

name_plain : (arch : Arch) (set : Set) → HasNoFeed (start_name arch set)
name_plain V5 Arm = plain_of (codes ".arm9 ") refl
name_plain V5 Thumb = plain_of (codes ".thumb9 ") refl
name_plain V4 Arm = plain_of (codes ".arm7 ") refl
name_plain V4 Thumb = plain_of (codes ".thumb7 ") refl

pub start_plain : (arch : Arch) (set : Set) (at : ℕ) → HasNoFeed (start arch set at)
start_plain arch set at = plain_append (start_name arch set) (hex at) (name_plain arch set) (hex_plain at)

-- a byte's line is read again, and so it is one byte's
pub byte_line_again : (b : ℕ) → b < 2 ^ 8 → listed_byte_at (raw_byte b) ≡ b
unfolding hex_at
byte_line_again b h =
    let r : numeral 0 (hex_digits 2 b ++ []) ≡ (b, []) = byte_again b [] h refl in
    let e : b % 2 ^ 8 ≡ b = omega arith in
    ap (λ (p : ℕ × List ℕ). p.0 % 2 ^ 8) r ∙ e

pub one_byte : (a b : ℕ) → a < 2 ^ 8 → b < 2 ^ 8 → raw_byte a ≡ raw_byte b → a ≡ b
one_byte a b ha hb e = sym (byte_line_again a ha) ∙ ap listed_byte_at e ∙ byte_line_again b hb

-- so is a first line
pub set_again : (arch : Arch) (set : Set) (at : ℕ) → set_at (start arch set at) ≡ set
set_again V5 Arm at = refl
set_again V5 Thumb at = refl
set_again V4 Arm at = refl
set_again V4 Thumb at = refl

pub arch_again : (arch : Arch) (set : Set) (at : ℕ) → arch_at (start arch set at) ≡ arch
arch_again V5 Arm at = refl
arch_again V5 Thumb at = refl
arch_again V4 Arm at = refl
arch_again V4 Thumb at = refl

hex_alone : (at : ℕ) → at < 2 ^ 32 → (hex_at (hex at)).0 ≡ at
hex_alone at h = ap (λ (l : List ℕ). (hex_at l).0) (sym (append-nil (hex at))) ∙ ap (λ (p : ℕ × List ℕ). p.0) (hex_again at [] h refl)

pub address_again : (arch : Arch) (set : Set) (at : ℕ) → at < 2 ^ 32 → start_address_at (start arch set at) ≡ at
address_again V5 Arm at h = hex_alone at h
address_again V5 Thumb at h = hex_alone at h
address_again V4 Arm at h = hex_alone at h
address_again V4 Thumb at h = hex_alone at h

pub one_start : (arch : Arch) (set : Set) (at : ℕ) (arch' : Arch) (set' : Set) (at' : ℕ) → at < 2 ^ 32 → at' < 2 ^ 32 → start arch set at ≡ start arch' set' at' → (arch ≡ arch') × (set ≡ set') × (at ≡ at')
one_start arch set at arch' set' at' h h' e = (
  sym (arch_again arch set at) ∙ ap arch_at e ∙ arch_again arch' set' at',
  sym (set_again arch set at) ∙ ap set_at e ∙ set_again arch' set' at',
  sym (address_again arch set at h) ∙ ap start_address_at e ∙ address_again arch' set' at' h',
)
