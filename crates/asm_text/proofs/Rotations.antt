use Rattle.asm_text.proofs.Words.{ℕ, Bool, true, ◌≡◌, ◌<◌, ◌*◌, ◌^◌, refl, immediate, turned_back, nat_lt, equal, lt_of}
use Rattle.std.proofs.Common.{◌==◌}
use Rattle.std.specs.Int.{rotate_right, w32}
use Rattle.arm_words.proofs.Rotations.{all_pairs, pair}

-- the processor's rotation of a byte by twice a number below 16 is the sum of its two parts: by trying all
abbrev is_same : ℕ → ℕ → Bool
is_same rotate immed = rotate_right w32 immed (2 * rotate) == immediate rotate immed

all_same : all_pairs is_same 4096 ≡ true
all_same = refl

pub rotated : (r b : ℕ) → r < 16 → b < 256 → rotate_right w32 b (2 * r) ≡ immediate r b
rotated r b hr hb = equal (rotate_right w32 b (2 * r)) (immediate r b) (pair is_same all_same r b hr hb)

-- a byte's rotation is turned back to it, and is below 2^32: by trying all
all_back : all_pairs (λ r b. turned_back r (immediate r b) == b) 4096 ≡ true
all_back = refl

all_below : all_pairs (λ r b. nat_lt (immediate r b) (2 ^ 32)) 4096 ≡ true
all_below = refl

pub back_again : (r b : ℕ) → r < 16 → b < 256 → turned_back r (immediate r b) ≡ b
back_again r b hr hb = equal (turned_back r (immediate r b)) b (pair (λ r b. turned_back r (immediate r b) == b) all_back r b hr hb)

pub below_word : (r b : ℕ) → r < 16 → b < 256 → immediate r b < 2 ^ 32
below_word r b hr hb = lt_of (immediate r b) (2 ^ 32) (pair (λ r b. nat_lt (immediate r b) (2 ^ 32)) all_below r b hr hb)
