-- Each word or half is read back from its statement, and so has one of its own.
use Rattle.asm_text.proofs.Words.{ℕ, ◌≡◌, ◌≢◌, ◌<◌, ◌^◌, ◌%◌, Bool, true, false, List, [], ◌∷◌, ◌++◌, refl, sym, ap, ◌∙◌, arith, Option, Some, None}
use Rattle.asm_text.proofs.Words.{subst, codes, ◌&&◌, if◌then◌else◌, Arch, canonical, if_canonical, canonical_form, same_spelling, HasFields, spelled}
use Rattle.asm_text.proofs.Words.{decoded, IsInRange, Instr, Spelling, Word, Half, candidate, listed, raw, spelling, read, named_stem, hex_at}
use Rattle.asm_text.proofs.Words.{hex_digits, both, equal, Raw, Set, Arm, Thumb}
use Rattle.std.specs.Prelude.{IfSome}
use Rattle.arm_words.proofs.Laws.{decoded_arm_fields, decoded_thumb_fields}
use Rattle.asm_text.specs.Reader.Candidates.{read_in, row_in, stems_in}
use Rattle.asm_text.specs.Listed.{number_in}
use Rattle.asm_text.proofs.Again.{digits_again}
use Rattle.asm_text.proofs.ArmStems.{word_stem}
use Rattle.asm_text.proofs.ArmRead.{arm_read}
use Rattle.asm_text.proofs.NameLaws.{read_raw}
use Rattle.asm_text.proofs.UnreadBits.{listed_is, spelled_line}
use Rattle.asm_text.proofs.ThumbRowsAgain.{thumb_again, raw_half_again}

same_is : (s t : Spelling) → same_spelling s t ≡ true → s ≡ t
same_is (Word w) (Word v) e = ap (λ (n : ℕ). Word n) (equal w v e)
same_is (Half h) (Half g) e = ap (λ (n : ℕ). Half n) (equal h g e)
same_is (Word w) (Half g) e = absurd cc
same_is (Half h) (Word v) e = absurd cc

-- what a canonical spelling's instruction is
record Canon (s : Spelling) (o : Option Instr) (i : Instr) : Type 0 where
  found : o ≡ Some i
  form : canonical_form i ≡ true
  spelt : spelled i ≡ s

canon_if : (b : Bool) (j i : Instr) → (if b then Some j else None) ≡ Some i → (b ≡ true) × (j ≡ i)
canon_if true j i h = (refl, cc)
canon_if false j i h = absurd cc

canon : (s : Spelling) (o : Option Instr) (i : Instr) → if_canonical s o ≡ Some i → Canon s o i
canon s None i h = absurd cc
canon s (Some j) i h =
    let k = canon_if (canonical_form j && same_spelling (spelled j) s) j i h in
    let parts = both (canonical_form j) (same_spelling (spelled j) s) k.0 in
    let P : Instr → Type 0 = λ x. Canon s (Some j) x in
    subst P k.1 (record { found = refl; form = parts.0; spelt = same_is (spelled j) s parts.1 })

fields_of : (o : Option Instr) (i : Instr) → o ≡ Some i → IfSome o (λ j. HasFields j) → HasFields i
fields_of None i h f = absurd cc
fields_of (Some j) i h f = (let e : j ≡ i = cc in let P : Instr → Type 0 = λ x. HasFields x in subst P e f)

word_raw : (at w : ℕ) → w < 2 ^ 32 → candidate Arm at (raw (Word w)) ≡ Some w
unfolding hex_at
word_raw at w h =
    let rest : List ℕ = codes "0x" ++ hex_digits 8 w in
    let e : w % 2 ^ 32 ≡ w = omega arith in
    let n : hex_at rest ≡ (w, []) = digits_again w [] h refl in
    let r : read_in Arm at (raw (Word w)) ≡ Some (Raw (hex_at rest).0) = read_raw (stems_in Arm) (row_in Arm) at (codes ".word") (Raw 0) rest word_stem in
    rw (r, n, e) refl

half_raw : (at w : ℕ) → w < 2 ^ 16 → candidate Thumb at (raw (Half w)) ≡ Some w
half_raw at w h =
    let e : w % 2 ^ 16 ≡ w = omega arith in
    rw (raw_half_again at w h, e) refl

arm_back : (arch : Arch) (at w : ℕ) (o : Option Instr) → canonical arch (Word w) ≡ o → at < 2 ^ 32 → w < 2 ^ 32 → candidate Arm at (spelled_line at (Word w) o) ≡ Some w
arm_back arch at w None c ha hw = word_raw at w hw
arm_back arch at w (Some i) c ha hw =
    let k = canon (Word w) (decoded arch (Word w)) i c in
    let f : HasFields i = fields_of (decoded arch (Word w)) i k.found (decoded_arm_fields arch w hw) in
    let n : number_in (spelled i) ≡ w = ap number_in k.spelt in
    let e : w % 2 ^ 32 ≡ w = omega arith in
    rw (arm_read at w i ha f k.form k.spelt, n, e) refl

thumb_back : (arch : Arch) (at w : ℕ) (o : Option Instr) → canonical arch (Half w) ≡ o → at < 2 ^ 32 → w < 2 ^ 16 → candidate Thumb at (spelled_line at (Half w) o) ≡ Some w
thumb_back arch at w None c ha hw = half_raw at w hw
thumb_back arch at w (Some i) c ha hw =
    let k = canon (Half w) (decoded arch (Half w)) i c in
    let f : HasFields i = fields_of (decoded arch (Half w)) i k.found (decoded_thumb_fields arch w hw) in
    let n : number_in (spelled i) ≡ w = ap number_in k.spelt in
    let e : w % 2 ^ 16 ≡ w = omega arith in
    rw (thumb_again at w i ha f k.spelt, n, e) refl

pub read_back : (arch : Arch) (set : Set) (at w : ℕ) → at < 2 ^ 32 → IsInRange (spelling set w) → candidate set at (listed arch set at w) ≡ Some w
read_back arch Arm at w ha hw = ap (candidate Arm at) (listed_is arch Arm at w hw) ∙ arm_back arch at w (canonical arch (Word w)) refl ha hw
read_back arch Thumb at w ha hw = ap (candidate Thumb at) (listed_is arch Thumb at w hw) ∙ thumb_back arch at w (canonical arch (Half w)) refl ha hw

-- each statement is one word's
pub one_text : (arch : Arch) (set : Set) (at v w : ℕ) → at < 2 ^ 32 → IsInRange (spelling set v) → IsInRange (spelling set w) → listed arch set at v ≡ listed arch set at w → v ≡ w
one_text arch set at v w ha hv hw e =
    let k : Some v ≡ Some w = sym (read_back arch set at v ha hv) ∙ ap (candidate set at) e ∙ read_back arch set at w ha hw in
    cc

-- a byte's line is no word's statement
byte_unread : (set : Set) (at : ℕ) (rest : List ℕ) → candidate set at (codes ".byte" ++ 32 ∷ rest) ≡ None
unfolding read named_stem
byte_unread Arm at rest = refl
byte_unread Thumb at rest = refl

pub no_byte : (arch : Arch) (set : Set) (at w : ℕ) (rest : List ℕ) → at < 2 ^ 32 → IsInRange (spelling set w) → listed arch set at w ≢ codes ".byte" ++ 32 ∷ rest
no_byte arch set at w rest ha hw e =
    let k : Some w ≡ None = sym (read_back arch set at w ha hw) ∙ ap (candidate set at) e ∙ byte_unread set at rest in
    cc
