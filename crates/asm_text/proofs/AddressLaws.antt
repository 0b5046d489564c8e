-- Addresses, register lists and status fields are read as they are written.
use Rattle.asm_text.proofs.Words.{ℕ, zero, suc, ◌≡◌, ◌<◌, ◌≤◌, ◌+◌, ◌*◌, ◌/◌, ◌%◌, ◌^◌, Bool, true, false, List, [], ◌∷◌, ◌++◌, ◌⊎◌, refl, sym, ap}
use Rattle.asm_text.proofs.Words.{◌∙◌, arith, inl, inr, append_assoc, append-nil, slice_index, codes, ◌&&◌, ◌==◌, not, HasShortOffset, Shift, Lsl}
use Rattle.asm_text.proofs.Words.{FieldMask, Offset, Number, Register, ShortOffset, ShortNumber, ShortRegister, field_letters, shifted, offset}
use Rattle.asm_text.proofs.Words.{short_offset, at_offset, address, register_at, address_at, members_from, registers_at, register_name, hex, preceded}
use Rattle.asm_text.proofs.Words.{joined, register_names, members, where_set, Address}
use Rattle.std.proofs.lemmas.Nat.{mod-pow-add}
use Rattle.arm_words.specs.Fields.{HasOffset}
use Rattle.asm_text.specs.Reader.Parts.{unsigned_at, offset_at, member_at, fields_at}
use Rattle.asm_text.proofs.Again.{EndsDecimal, EndsShift, hex_again, register_again, shifted_again}

-- an offset that is read
abbrev taken : Bool → Offset → List ℕ → Bool × Offset × List ℕ
taken up off rest = (up, off, rest)

number_offset : (n : ℕ) (rest : List ℕ) → n < 4096 → EndsShift rest → unsigned_at true (hex n ++ rest) ≡ (Number n, rest)
unfolding unsigned_at
number_offset n rest h e =
    let m : n % 4096 ≡ n = omega arith in
    rw (hex_again n rest (omega arith) e.digit, m) refl

register_offset : (rm : ℕ) (shift : Shift) (amount : ℕ) (rest : List ℕ) → rm < 16 → amount < 32 → EndsShift rest → unsigned_at false (shifted rm shift amount ++ rest) ≡ (Register rm shift amount, rest)
unfolding unsigned_at
register_offset rm shift amount rest hm ha e = rw (shifted_again rm shift amount rest hm ha e) refl

pub offset_again : (up : Bool) (off : Offset) (rest : List ℕ) → HasOffset off → EndsShift rest → offset_at (offset up off ++ rest) ≡ taken up off rest
unfolding offset_at
offset_again true (Number n) rest h e = rw (number_offset n rest h e) refl
offset_again false (Number n) rest h e = rw (number_offset n rest h e) refl
offset_again true (Register rm shift amount) rest h e = rw (register_offset rm shift amount rest h.0 h.1 e) refl
offset_again false (Register rm shift amount) rest h e = rw (register_offset rm shift amount rest h.0 h.1 e) refl

-- what an offset that ends an address is followed by
at_end : EndsShift []
at_end = record { digit = refl; comma = refl; blank = refl }

at_bracket : (rest : List ℕ) → EndsShift (93 ∷ rest)
at_bracket rest = record { digit = refl; comma = refl; blank = refl }

-- an address that is read
abbrev pub given : Bool → Bool → Bool → ℕ → Offset → Address
given pre up write_back rn off = record { pre = pre; up = up; write_back = write_back; rn = rn; offset = off }

-- the three forms of an address, around an offset's text that is read as it was written
abbrev IsRead : List ℕ → Bool → Offset → Type 0
IsRead text up off = (rest : List ℕ) → EndsShift rest → offset_at (text ++ rest) ≡ taken up off rest

after : (rn : ℕ) (up : Bool) (off : Offset) (text : List ℕ) → rn < 16 → IsRead text up off → address_at (91 ∷ (register_name rn ++ 93 ∷ 44 ∷ 32 ∷ (text ++ []))) ≡ given false up false rn off
unfolding address_at
after rn up off text hn h =
    let tail : List ℕ = 93 ∷ 44 ∷ 32 ∷ (text ++ []) in
    let r : register_at (register_name rn ++ tail) ≡ (rn, tail) = register_again rn tail hn refl in
    rw (r, h [] at_end) refl

before : (rn : ℕ) (up : Bool) (off : Offset) (text rest : List ℕ) (marked : Bool) → rn < 16 → IsRead text up off → (slice_index rest 0 == 33) ≡ marked →
    address_at (91 ∷ (register_name rn ++ 44 ∷ 32 ∷ (text ++ 93 ∷ rest))) ≡ given true up marked rn off
unfolding address_at
before rn up off text rest marked hn h m =
    let tail : List ℕ = 44 ∷ 32 ∷ (text ++ 93 ∷ rest) in
    let r : register_at (register_name rn ++ tail) ≡ (rn, tail) = register_again rn tail hn refl in
    rw (r, h (93 ∷ rest) (at_bracket rest), m) refl

after_text : (a b : List ℕ) → (91 ∷ (a ++ 93 ∷ 44 ∷ 32 ∷ b)) ++ [] ≡ 91 ∷ (a ++ 93 ∷ 44 ∷ 32 ∷ (b ++ []))
after_text a b = ap (λ (x : List ℕ). 91 ∷ x) (append_assoc a (93 ∷ 44 ∷ 32 ∷ b) [])

before_text : (a b c rest : List ℕ) → ((91 ∷ (a ++ 44 ∷ 32 ∷ (b ++ 93 ∷ []))) ++ c) ++ rest ≡ 91 ∷ (a ++ 44 ∷ 32 ∷ (b ++ 93 ∷ (c ++ rest)))
before_text a b c rest = simp append_assoc

one_text : (a b rest : List ℕ) → (91 ∷ (a ++ 44 ∷ 32 ∷ (b ++ 93 ∷ []))) ++ rest ≡ 91 ∷ (a ++ 44 ∷ 32 ∷ (b ++ 93 ∷ rest))
one_text a b rest = simp append_assoc

read_address : (pre up write_back : Bool) (rn : ℕ) (off : Offset) (text : List ℕ) → rn < 16 → IsRead text up off →
    address_at (address pre write_back rn text ++ []) ≡ given pre up (pre && write_back) rn off
read_address false up write_back rn off text hn h = ap address_at (after_text (register_name rn) text) ∙ after rn up off text hn h
read_address true up true rn off text hn h = ap address_at (before_text (register_name rn) text (codes "!") []) ∙ before rn up off text (33 ∷ []) true hn h refl
read_address true up false rn off text hn h = ap address_at (before_text (register_name rn) text [] []) ∙ before rn up off text [] false hn h refl

pub address_again : (pre up write_back : Bool) (rn : ℕ) (off : Offset) → rn < 16 → HasOffset off →
    address_at (address pre write_back rn (offset up off) ++ []) ≡ given pre up (pre && write_back) rn off
address_again pre up write_back rn off hn h = read_address pre up write_back rn off (offset up off) hn (λ rest e. offset_again up off rest h e)

-- a short offset's text is that of an offset without a shift
abbrev pub lengthened : ShortOffset → Offset
lengthened (ShortNumber n) = Number n
lengthened (ShortRegister rm) = Register rm Lsl 0

lengthened_text : (up : Bool) (off : ShortOffset) → short_offset up off ≡ offset up (lengthened off)
lengthened_text up (ShortNumber n) = refl
lengthened_text up (ShortRegister rm) = ap (λ (x : List ℕ). where_set (not up) (codes "-") ++ x) (sym (append-nil (register_name rm)))

lengthened_fields : (off : ShortOffset) → HasShortOffset off → HasOffset (lengthened off)
lengthened_fields (ShortNumber n) h = omega (arith, h)
lengthened_fields (ShortRegister rm) h = (h, omega arith)

pub short_address_again : (pre up write_back : Bool) (rn : ℕ) (off : ShortOffset) → rn < 16 → HasShortOffset off →
    address_at (address pre write_back rn (short_offset up off) ++ []) ≡ given pre up (pre && write_back) rn (lengthened off)
short_address_again pre up write_back rn off hn h =
    ap (λ (x : List ℕ). address_at (address pre write_back rn x ++ [])) (lengthened_text up off) ∙ address_again pre up write_back rn (lengthened off) hn (lengthened_fields off h)

-- a base and an offset in brackets alone
pub at_offset_again : (up : Bool) (rn : ℕ) (off : Offset) → rn < 16 → HasOffset off → address_at (at_offset rn (offset up off) ++ []) ≡ given true up false rn off
at_offset_again up rn off hn h = ap address_at (one_text (register_name rn) (offset up off) []) ∙ before rn up off (offset up off) [] false hn (λ rest e. offset_again up off rest h e) refl

-- no register comes: nothing changes
stays : (fuel sum : ℕ) (rest : List ℕ) → sum < 2 ^ 16 → members_from fuel sum (125 ∷ rest) ≡ (sum, 125 ∷ rest)
unfolding member_at
stays zero sum rest h = refl
stays (suc fuel) sum rest h =
    let e : (sum + 0) % 2 ^ 16 ≡ sum = omega arith in
    rw e (stays fuel sum rest h)

-- a register comes, with or without a comma before it
plain_member : (r : ℕ) (more : List ℕ) → r < 16 → EndsDecimal more → member_at (register_name r ++ more) ≡ (2 ^ r, more)
unfolding member_at
plain_member r more h e = rw (register_again r more h e) refl

comma_member : (r : ℕ) (more : List ℕ) → r < 16 → EndsDecimal more → member_at (44 ∷ (register_name r ++ more)) ≡ (2 ^ r, more)
unfolding member_at
comma_member r more h e = rw (register_again r more h e) refl

set_or_not : (b : ℕ) → ((b % 2 == 1) ≡ false) × (b % 2 ≡ 0) ⊎ ((b % 2 == 1) ≡ true) × (b % 2 ≡ 1)
set_or_not b = grind arith

-- what follows a register of the list is no digit
follows : (xs : List (List ℕ)) (rest : List ℕ) → EndsDecimal (preceded (codes ",") xs ++ 125 ∷ rest)
follows [] rest = refl
follows (x ∷ xs) rest = refl

next_bits : (list r : ℕ) → list % 2 ^ (r + 1) ≡ list / 2 ^ r % 2 * 2 ^ r + list % 2 ^ r
next_bits list r = ap (λ (x : ℕ). list % 2 ^ x) (omega arith) ∙ mod-pow-add list 1 r

step : (fuel sum next r : ℕ) (x more : List ℕ) → member_at x ≡ (2 ^ r, more) → (sum + 2 ^ r) % 2 ^ 16 ≡ next → members_from (suc fuel) sum x ≡ members_from fuel next more
step fuel sum next r x more e h = rw (e, h) refl

mod_le : (n p : ℕ) → n % p ≤ n
mod_le n p = grind arith

unset_same : (list r : ℕ) → list / 2 ^ r % 2 ≡ 0 → list % 2 ^ r ≡ list % 2 ^ (r + 1)
unset_same list r h = let n = (let b = next_bits list r in rw h at b) in omega (arith, n)

set_next : (list r : ℕ) → list < 2 ^ 16 → list / 2 ^ r % 2 ≡ 1 → (list % 2 ^ r + 2 ^ r) % 2 ^ 16 ≡ list % 2 ^ (r + 1)
set_next list r hb h =
    let low : list % 2 ^ (r + 1) ≤ list = mod_le list (2 ^ (r + 1)) in
    let b = next_bits list r in
    let n = rw h at b in
    omega (arith, n)

-- the registers from one on, each after a comma
later_again : (list r left fuel : ℕ) (rest : List ℕ) → left ≤ fuel → r + left ≡ 16 → list < 2 ^ 16 →
    members_from fuel (list % 2 ^ r) (preceded (codes ",") (register_names left r list) ++ 125 ∷ rest) ≡ (list, 125 ∷ rest)
later_again list r zero fuel rest hf hr hb =
    let k : r ≡ 16 = omega arith in
    let e : list % 2 ^ r ≡ list = rw k (omega arith) in
    rw e (stays fuel list rest (omega arith))
later_again list r (suc left) zero rest hf hr hb = absurd (omega arith)
later_again list r (suc left) (suc fuel) rest hf hr hb =
    elim (set_or_not (list / 2 ^ r)) [
      | inl unset ↦ rw (unset.0, unset_same list r unset.1) (later_again list (r + 1) left (suc fuel) rest (omega arith) (omega arith) hb)
      | inr one ↦
          (let xs : List (List ℕ) = register_names left (r + 1) list in
          let more : List ℕ = preceded (codes ",") xs ++ 125 ∷ rest in
          let s : members_from (suc fuel) (list % 2 ^ r) (44 ∷ (register_name r ++ more)) ≡ members_from fuel (list % 2 ^ (r + 1)) more =
          step fuel (list % 2 ^ r) (list % 2 ^ (r + 1)) r (44 ∷ (register_name r ++ more)) more (comma_member r more (omega arith) (follows xs rest)) (set_next list r hb one.1) in
          rw one.0 (ap (λ (x : List ℕ). members_from (suc fuel) (list % 2 ^ r) (44 ∷ x)) (append_assoc (register_name r) (preceded (codes ",") xs) (125 ∷ rest)) ∙ s ∙ later_again list (r + 1) left fuel rest (omega arith) (omega arith) hb))
    ]

-- the same where none came before
first_again : (list r left fuel : ℕ) (rest : List ℕ) → left ≤ fuel → r + left ≡ 16 → list < 2 ^ 16 →
    members_from fuel (list % 2 ^ r) (joined (codes ",") (register_names left r list) ++ 125 ∷ rest) ≡ (list, 125 ∷ rest)
first_again list r zero fuel rest hf hr hb = later_again list r zero fuel rest hf hr hb
first_again list r (suc left) zero rest hf hr hb = absurd (omega arith)
first_again list r (suc left) (suc fuel) rest hf hr hb =
    elim (set_or_not (list / 2 ^ r)) [
      | inl unset ↦ rw (unset.0, unset_same list r unset.1) (first_again list (r + 1) left (suc fuel) rest (omega arith) (omega arith) hb)
      | inr one ↦
          (let xs : List (List ℕ) = register_names left (r + 1) list in
          let more : List ℕ = preceded (codes ",") xs ++ 125 ∷ rest in
          let s : members_from (suc fuel) (list % 2 ^ r) (register_name r ++ more) ≡ members_from fuel (list % 2 ^ (r + 1)) more =
          step fuel (list % 2 ^ r) (list % 2 ^ (r + 1)) r (register_name r ++ more) more (plain_member r more (omega arith) (follows xs rest)) (set_next list r hb one.1) in
          rw one.0 (ap (members_from (suc fuel) (list % 2 ^ r)) (append_assoc (register_name r) (preceded (codes ",") xs) (125 ∷ rest)) ∙ s ∙ later_again list (r + 1) left fuel rest (omega arith) (omega arith) hb))
    ]

pub registers_again : (list : ℕ) (rest : List ℕ) → list < 2 ^ 16 → registers_at (members list ++ 125 ∷ rest) ≡ (list, 125 ∷ rest)
unfolding registers_at members
registers_again list rest h =
    let e : 0 ≡ list % 2 ^ 0 = omega arith in
    ap (λ (x : ℕ). members_from 16 x (joined (codes ",") (register_names 16 0 list) ++ 125 ∷ rest)) e ∙ first_again list 0 16 16 rest (omega arith) refl h

-- the letters of status fields, before a comma
abbrev mask : Bool → Bool → Bool → Bool → FieldMask
mask f s x c = record { f = f; s = s; x = x; c = c }

letters_again : (f s x c : Bool) (rest : List ℕ) → fields_at (field_letters (mask f s x c) ++ 44 ∷ rest) ≡ (mask f s x c, 44 ∷ rest)
unfolding fields_at
letters_again true true true true rest = refl
letters_again true true true false rest = refl
letters_again true true false true rest = refl
letters_again true true false false rest = refl
letters_again true false true true rest = refl
letters_again true false true false rest = refl
letters_again true false false true rest = refl
letters_again true false false false rest = refl
letters_again false true true true rest = refl
letters_again false true true false rest = refl
letters_again false true false true rest = refl
letters_again false true false false rest = refl
letters_again false false true true rest = refl
letters_again false false true false rest = refl
letters_again false false false true rest = refl
letters_again false false false false rest = refl

pub fields_again : (m : FieldMask) (rest : List ℕ) → fields_at (field_letters m ++ 44 ∷ rest) ≡ (m, 44 ∷ rest)
fields_again m rest = letters_again m.f m.s m.x m.c rest
