-- The bits that decoding doesn't look at, row by row of the decoders' tables.
use Rattle.asm_text.proofs.Words.{ℕ, true, ◌≡◌, ◌<◌, ◌/◌, ◌%◌, ◌^◌, List, [], ◌∷◌, ◌⊎◌, inl, inr, bit_and, refl, sym, ◌∙◌, ap, arith, equal}
use Rattle.asm_text.proofs.Words.{true_or_false, arm, thumb, masked, part, under, Kind, same_spelling, InstructionRow, spelled, Instr, Spelling, Word}
use Rattle.asm_text.proofs.Words.{Half, unread_of}
use Rattle.std.proofs.Common.{◌==◌}
use Rattle.std.specs.Int.Bits.{and_zero_r}
use Rattle.ds_base.proofs.Choices.{equal_self, is_equal, never}
use Rattle.arm_words.proofs.Digits.{digits, word_is}
use Rattle.arm_words.proofs.Halves.{half_is}
use Rattle.arm_words.proofs.Masks.{Part, descend, mask}
use Rattle.arm_words.proofs.PartLaws.{short_digit}
use Rattle.arm_words.proofs.Stages.{AllExact, ◌⨾◌}
use Rattle.arm_words.specs.ArmTable.{at16, at12, at0}
use Rattle.arm_words.specs.Parts.{short_offset_of}
use Rattle.asm_text.specs.Canonical.{Unread, unread, unread_of_offset}

-- of an instruction of w: w is its spelling where those bits of w are as they should be
abbrev pub IsTold : Kind → ℕ → Instr → Type 0
IsTold k w i = same_spelling (spelled i) (k.make w) ≡ (bit_and w (unread_of i).bits == (unread_of i).ones)

pub record Keeps (k : Kind) (instr : ℕ → Instr) (w : ℕ) : Type 0 where
  pub test : IsTold k w (instr w)

pub record Kept (k : Kind) (r : InstructionRow) : Type 0 where
  pub parts : List Part
  pub is_mask : mask parts ≡ r.mask
  pub falls : descend parts ≡ true
  pub keeps : (w : ℕ) → k.Fits w → under w parts ≡ r.value → r.only w ≡ true → Keeps k r.instr w

abbrev pub AllKept : Kind → List InstructionRow → Type 0
AllKept k [] = Unit {0}
AllKept k (r ∷ rs) = Kept k r × AllKept k rs

pub kept : {k : Kind} {r : InstructionRow} (parts : List Part) → mask parts ≡ r.mask → descend parts ≡ true
    → ((w : ℕ) → k.Fits w → under w parts ≡ r.value → r.only w ≡ true → Keeps k r.instr w) → Kept k r
kept parts is_mask falls keeps = record { parts = parts; is_mask = is_mask; falls = falls; keeps = keeps }

same_test : (a b c d : ℕ) → (a ≡ b → c ≡ d) → (c ≡ d → a ≡ b) → (a == b) ≡ (c == d)
same_test a b c d there back =
    elim (true_or_false (a == b)) [
      | inl same ↦ same ∙ sym (is_equal c d (there (equal a b same)))
      | inr other ↦ elim (true_or_false (c == d)) [
        | inl same ↦ never (a == b) (is_equal a b (back (equal c d same))) other
        | inr none ↦ other ∙ sym none
      ]
    ]

same_itself : (s : Spelling) → same_spelling s s ≡ true
same_itself (Word w) = equal_self w
same_itself (Half h) = equal_self h

told_by : (k : Kind) (instr : ℕ → Instr) (w : ℕ) (t : Spelling) (u : Unread) → spelled (instr w) ≡ t → unread_of (instr w) ≡ u
    → same_spelling t (k.make w) ≡ (bit_and w u.bits == u.ones) → Keeps k instr w
told_by k instr w t u spells is same = record {
  test = ap (λ (s : Spelling). same_spelling s (k.make w)) spells ∙ same ∙ sym (ap (λ (v : Unread). bit_and w v.bits == v.ones) is);
}

-- one whose spelling has all bits of w
pub keeps_exact : (k : Kind) (instr : ℕ → Instr) (w : ℕ) → spelled (instr w) ≡ k.make w → unread_of (instr w) ≡ unread 0 0 → Keeps k instr w
keeps_exact k instr w spells none =
    told_by k instr w (k.make w) (unread 0 0) spells none (same_itself (k.make w) ∙ sym (is_equal (bit_and w 0) 0 (and_zero_r w)))

-- rows whose spelling is the word itself
abbrev pub AllPlain : List InstructionRow → Type 0
AllPlain [] = Unit {0}
AllPlain (r ∷ rs) = ((w : ℕ) → unread_of (r.instr w) ≡ unread 0 0) × AllPlain rs

pub plain_kept : (k : Kind) (rs : List InstructionRow) → AllExact k rs → AllPlain rs → AllKept k rs
plain_kept k [] e plain = tt
plain_kept k (r ∷ rs) e plain =
    kept e.0.parts e.0.is_mask e.0.falls (λ w h m o. keeps_exact k r.instr w (e.0.spelling w h m o) (plain.0 w)) ⨾ plain_kept k rs e.1 plain.1

pub exact_word : (instr : ℕ → Instr) (w x : ℕ) → spelled (instr w) ≡ Word x → x ≡ w → unread_of (instr w) ≡ unread 0 0 → Keeps arm instr w
exact_word instr w x spells sum none = keeps_exact arm instr w (spells ∙ word_is x w sum) none

pub exact_half : (instr : ℕ → Instr) (w x : ℕ) → spelled (instr w) ≡ Half x → x ≡ w → unread_of (instr w) ≡ unread 0 0 → Keeps thumb instr w
exact_half instr w x spells sum none = keeps_exact thumb instr w (spells ∙ half_is x w sum) none

-- one whose spelling has some of them so
pub differs : (instr : ℕ → Instr) (w x bits ones : ℕ) → spelled (instr w) ≡ Word x → unread_of (instr w) ≡ unread bits ones
    → (x ≡ w → bit_and w bits ≡ ones) → (bit_and w bits ≡ ones → x ≡ w) → Keeps arm instr w
differs instr w x bits ones spells is there back = told_by arm instr w (Word x) (unread bits ones) spells is
    (same_test x w (bit_and w bits) ones there back)

pub differs_half : (instr : ℕ → Instr) (w x bits ones : ℕ) → spelled (instr w) ≡ Half x → unread_of (instr w) ≡ unread bits ones
    → (x ≡ w → bit_and w bits ≡ ones) → (bit_and w bits ≡ ones → x ≡ w) → Keeps thumb instr w
differs_half instr w x bits ones spells is there back = told_by thumb instr w (Half x) (unread bits ones) spells is
    (same_test x w (bit_and w bits) ones there back)

bit_is : (k w : ℕ) → (w / 2 ^ k % 2 ≡ 0) ⊎ (w / 2 ^ k % 2 ≡ 1)
bit_is k w = zero_or_one (w / 2 ^ k % 2) (omega arith) where
  zero_or_one : (n : ℕ) → n < 2 → (n ≡ 0) ⊎ (n ≡ 1)
  zero_or_one n h = grind arith

-- one with an offset that is a number or a register
pub short_keeps : (instr : ℕ → Instr) (w x : ℕ) → spelled (instr w) ≡ Word x → unread_of (instr w) ≡ unread_of_offset (short_offset_of w)
    → x ≡ digits (w / 2 ^ 20) (at16 w) (at12 w) (short_digit w) (w / 2 ^ 4 % 2 ^ 4) (at0 w) → Keeps arm instr w
short_keeps instr w x spells is sum = told_by arm instr w (Word x) (unread_of_offset (short_offset_of w)) spells is (
    elim (bit_is 22 w) [
      | inl register ↦
          let s = rw register at sum in
          let u = masked w (part 8 4 ∷ []) refl in
          rw register (same_test x w (bit_and w 0x00000F00) 0 (λ e. omega (arith, s, u, e)) (λ e. omega (arith, s, u, e)))
      | inr number ↦
          let s = rw number at sum in
          rw number (same_test x w (bit_and w 0) 0 (λ e. and_zero_r w) (λ e. omega (arith, s)))
    ])
