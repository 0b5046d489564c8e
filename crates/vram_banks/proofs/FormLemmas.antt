use Rattle.vram_banks.proofs.Words.{Bool, HasForm, arith, false, if◌then◌else◌, indexed_pixel, opaque_pixel, refl, true, ℕ, ◌==◌}

-- A pixel has bit 15 set, or is 0.

pub choice_form : (b : Bool) (m n : ℕ) → HasForm m → HasForm n → HasForm (if b then m else n)
choice_form true m n p q = p
choice_form false m n p q = q

pub zero_form : HasForm 0
zero_form h = absurd (h refl)

pub opaque_form : (n : ℕ) → HasForm (opaque_pixel n)
opaque_form n h = omega arith

pub indexed_form : (f : ℕ → ℕ) (i : ℕ) → HasForm (indexed_pixel f i)
indexed_form f i = choice_form (i == 0) 0 (opaque_pixel (f i)) zero_form (opaque_form (f i))
