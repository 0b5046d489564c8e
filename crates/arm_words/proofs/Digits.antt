use Rattle.std.proofs.Common.{ℕ, ◌≡◌, ◌<◌, ◌+◌, ◌*◌, ◌/◌, ◌%◌, ◌^◌, refl, ◌∙◌, ap, arith}
use Rattle.arm_words.specs.Fields.{HasFields}
use Rattle.arm_words.specs.Spellings.{spelled}
use Rattle.arm_words.specs.declared.instructions.Instr.{Instr}
use Rattle.arm_words.specs.declared.spellings.Spelling.TheVariants.{Word}
use Rattle.arm_words.proofs.Stages.{Kind, Respelt}

-- the bits that the rows of ARM words look at are the same
pub record Near (w v : ℕ) : Type 0 where
  pub high : v / 2 ^ 20 ≡ w / 2 ^ 20
  pub low : v / 2 ^ 4 % 2 ^ 4 ≡ w / 2 ^ 4 % 2 ^ 4

-- ARM words below those with condition 1111
abbrev pub arm : Kind
arm = record { make = λ w. Word w; Near = Near; Fits = λ w. w / 2 ^ 28 < 15 }

-- any ARM words
abbrev pub unconditional : Kind
unconditional = record { make = λ w. Word w; Near = Near; Fits = λ w. w < 2 ^ 32 }

pub word_is : (x y : ℕ) → x ≡ y → Word x ≡ Word y
word_is x y e = ap (λ (n : ℕ). Word n) e

-- a word by its twelve top bits, three digits, and its two lowest digits
abbrev pub digits : ℕ → ℕ → ℕ → ℕ → ℕ → ℕ → ℕ
digits a n d s l z = a * 2 ^ 20 + n * 2 ^ 16 + d * 2 ^ 12 + s * 2 ^ 8 + l * 2 ^ 4 + z

-- what near words have in common
pub record Common (w v : ℕ) : Type 0 where
  pub top4 : v / 2 ^ 28 ≡ w / 2 ^ 28
  pub bit25 : v / 2 ^ 25 % 2 ≡ w / 2 ^ 25 % 2
  pub bit24 : v / 2 ^ 24 % 2 ≡ w / 2 ^ 24 % 2
  pub bit23 : v / 2 ^ 23 % 2 ≡ w / 2 ^ 23 % 2
  pub bit22 : v / 2 ^ 22 % 2 ≡ w / 2 ^ 22 % 2
  pub bit21 : v / 2 ^ 21 % 2 ≡ w / 2 ^ 21 % 2
  pub bit20 : v / 2 ^ 20 % 2 ≡ w / 2 ^ 20 % 2
  pub op2 : v / 2 ^ 21 % 2 ^ 2 ≡ w / 2 ^ 21 % 2 ^ 2
  pub op4 : v / 2 ^ 21 % 2 ^ 4 ≡ w / 2 ^ 21 % 2 ^ 4
  pub bit7 : v / 2 ^ 7 % 2 ≡ w / 2 ^ 7 % 2
  pub bit6 : v / 2 ^ 6 % 2 ≡ w / 2 ^ 6 % 2
  pub bit5 : v / 2 ^ 5 % 2 ≡ w / 2 ^ 5 % 2
  pub bit4 : v / 2 ^ 4 % 2 ≡ w / 2 ^ 4 % 2
  pub two5 : v / 2 ^ 5 % 2 ^ 2 ≡ w / 2 ^ 5 % 2 ^ 2

pub common : (w v : ℕ) → Near w v → Common w v
common w v n =
    let h : v / 2 ^ 20 ≡ w / 2 ^ 20 = n.high in
    let l : v / 2 ^ 4 % 2 ^ 4 ≡ w / 2 ^ 4 % 2 ^ 4 = n.low in
    record {
      top4 = omega arith;
      bit25 = omega arith;
      bit24 = omega arith;
      bit23 = omega arith;
      bit22 = omega arith;
      bit21 = omega arith;
      bit20 = omega arith;
      op2 = omega arith;
      op4 = omega arith;
      bit7 = omega arith;
      bit6 = omega arith;
      bit5 = omega arith;
      bit4 = omega arith;
      two5 = omega arith;
    }

-- the digits of a number made of them
pub record Reads (n d s l z v : ℕ) : Type 0 where
  pub at16 : v / 2 ^ 16 % 2 ^ 4 ≡ n
  pub at12 : v / 2 ^ 12 % 2 ^ 4 ≡ d
  pub at8 : v / 2 ^ 8 % 2 ^ 4 ≡ s
  pub at4 : v / 2 ^ 4 % 2 ^ 4 ≡ l
  pub at0 : v / 2 ^ 0 % 2 ^ 4 ≡ z

reads : (a n d s l z v : ℕ) → n < 16 → d < 16 → s < 16 → l < 16 → z < 16 → v ≡ digits a n d s l z → Reads n d s l z v
reads a n d s l z v hn hd hs hl hz e = record {
  at16 = omega arith;
  at12 = omega arith;
  at8 = omega arith;
  at4 = omega arith;
  at0 = omega arith;
}

high_of : (a n d s l z : ℕ) → n < 16 → d < 16 → s < 16 → l < 16 → z < 16 → digits a n d s l z / 2 ^ 20 ≡ a
high_of a n d s l z hn hd hs hl hz = omega arith

even_of : (w v : ℕ) → v / 2 ^ 12 % 2 ^ 4 ≡ w / 2 ^ 12 % 2 ^ 4 → v / 2 ^ 12 % 2 ≡ w / 2 ^ 12 % 2
even_of w v e = omega (arith, e)

-- an instruction whose spelling has the word's top bits and bits 7 to 4, and these digits elsewhere
pub respell : (instr : ℕ → Instr) (w n d s z x : ℕ) → n < 16 → d < 16 → s < 16 → z < 16
    → spelled (instr w) ≡ Word x → x ≡ digits (w / 2 ^ 20) n d s (w / 2 ^ 4 % 2 ^ 4) z
    → ((v : ℕ) → Common w v → Reads n d s (w / 2 ^ 4 % 2 ^ 4) z v → instr v ≡ instr w)
    → HasFields (instr w) → Respelt arm instr w
respell instr w n d s z x hn hd hs hz spells sum same fields =
    let l : w / 2 ^ 4 % 2 ^ 4 < 16 = omega arith in
    let again : ℕ = digits (w / 2 ^ 20) n d s (w / 2 ^ 4 % 2 ^ 4) z in
    let r = reads (w / 2 ^ 20) n d s (w / 2 ^ 4 % 2 ^ 4) z again hn hd hs l hz refl in
    let near : Near w again = record { high = high_of (w / 2 ^ 20) n d s (w / 2 ^ 4 % 2 ^ 4) z hn hd hs l hz; low = r.at4 } in
    record {
      again = again;
      spelling = spells ∙ ap (λ (y : ℕ). Word y) sum;
      near = near;
      same = same again (common w again near) r;
      fields = fields;
    }

-- near, and rd is even in both or in neither
pub record NearEven (w v : ℕ) : Type 0 where
  pub high : v / 2 ^ 20 ≡ w / 2 ^ 20
  pub low : v / 2 ^ 4 % 2 ^ 4 ≡ w / 2 ^ 4 % 2 ^ 4
  pub even : v / 2 ^ 12 % 2 ≡ w / 2 ^ 12 % 2

abbrev pub arm_even : Kind
arm_even = record { make = λ w. Word w; Near = NearEven; Fits = λ w. w / 2 ^ 28 < 15 }

-- the same for an instruction whose spelling keeps rd
pub respell_even : (instr : ℕ → Instr) (w n s z x : ℕ) → n < 16 → s < 16 → z < 16
    → spelled (instr w) ≡ Word x → x ≡ digits (w / 2 ^ 20) n (w / 2 ^ 12 % 2 ^ 4) s (w / 2 ^ 4 % 2 ^ 4) z
    → ((v : ℕ) → Common w v → Reads n (w / 2 ^ 12 % 2 ^ 4) s (w / 2 ^ 4 % 2 ^ 4) z v → instr v ≡ instr w)
    → HasFields (instr w) → Respelt arm_even instr w
respell_even instr w n s z x hn hs hz spells sum same fields =
    let d : w / 2 ^ 12 % 2 ^ 4 < 16 = omega arith in
    let l : w / 2 ^ 4 % 2 ^ 4 < 16 = omega arith in
    let again : ℕ = digits (w / 2 ^ 20) n (w / 2 ^ 12 % 2 ^ 4) s (w / 2 ^ 4 % 2 ^ 4) z in
    let r = reads (w / 2 ^ 20) n (w / 2 ^ 12 % 2 ^ 4) s (w / 2 ^ 4 % 2 ^ 4) z again hn d hs l hz refl in
    let h = high_of (w / 2 ^ 20) n (w / 2 ^ 12 % 2 ^ 4) s (w / 2 ^ 4 % 2 ^ 4) z hn d hs l hz in
    let near : Near w again = record { high = h; low = r.at4 } in
    record {
      again = again;
      spelling = spells ∙ ap (λ (y : ℕ). Word y) sum;
      near = record { high = h; low = r.at4; even = even_of w again r.at12 };
      same = same again (common w again near) r;
      fields = fields;
    }
