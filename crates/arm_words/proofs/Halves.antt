use Rattle.std.proofs.Common.{ℕ, ◌≡◌, ◌<◌, ◌*◌, ◌/◌, ◌^◌, refl, ◌∙◌, ap, arith}
use Rattle.arm_words.specs.Fields.{HasFields}
use Rattle.arm_words.specs.Spellings.{spelled}
use Rattle.arm_words.specs.declared.instructions.Instr.{Instr}
use Rattle.arm_words.specs.declared.spellings.Spelling.TheVariants.{Half}
use Rattle.arm_words.proofs.Stages.{Kind, Respelt}

-- the bits that the rows of Thumb halves look at before BX and BLX are the same
pub record NearHalf (h v : ℕ) : Type 0 where
  pub high : v / 2 ^ 3 ≡ h / 2 ^ 3

abbrev pub thumb : Kind
thumb = record { make = λ h. Half h; Near = NearHalf; Fits = λ h. h < 2 ^ 16 }

pub half_is : (x y : ℕ) → x ≡ y → Half x ≡ Half y
half_is x y e = ap (λ (n : ℕ). Half n) e

-- an instruction whose spelling is the half itself
pub respell_half : (instr : ℕ → Instr) (h x : ℕ) → spelled (instr h) ≡ Half x → x ≡ h → HasFields (instr h) → Respelt thumb instr h
respell_half instr h x spells sum fields = record {
  again = h;
  spelling = spells ∙ half_is x h sum;
  near = record { high = refl };
  same = refl;
  fields = fields;
}

-- an instruction whose spelling has zeros in bits 2 to 0
pub respell_zeros : (instr : ℕ → Instr) (h x : ℕ) → spelled (instr h) ≡ Half x → x ≡ h / 2 ^ 3 * 2 ^ 3
    → ((v : ℕ) → v / 2 ^ 3 ≡ h / 2 ^ 3 → instr v ≡ instr h) → HasFields (instr h) → Respelt thumb instr h
respell_zeros instr h x spells sum same fields =
    let e : h / 2 ^ 3 * 2 ^ 3 / 2 ^ 3 ≡ h / 2 ^ 3 = omega arith in
    record {
      again = h / 2 ^ 3 * 2 ^ 3;
      spelling = spells ∙ half_is x (h / 2 ^ 3 * 2 ^ 3) sum;
      near = record { high = e };
      same = same (h / 2 ^ 3 * 2 ^ 3) e;
      fields = fields;
    }
