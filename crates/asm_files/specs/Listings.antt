-- Listings of images (our choice).
use Rattle.std.specs.Prelude.{ℕ, ◌≡◌, ◌≢◌, ◌<◌, ◌≤◌, ◌+◌, ◌%◌, ◌^◌, ◌==◌, List, [], ◌∷◌, ◌++◌, length, take, map, if◌then◌else◌, ◌⊎◌}
use Rattle.ds_base.specs.Texts.{text_of}
use Rattle.ds_base.specs.Numbers.{number_at}
use Rattle.ds_base.specs.declared.memories.Width.TheVariants.{Half, Word}
use Rattle.ds_base.specs.declared.processors.Arch.{Arch}
use Rattle.asm_text.specs.declared.sets.Set.{Set}
use Rattle.asm_text.specs.declared.sets.Set.TheVariants.{Arm, Thumb}
use Rattle.asm_text.specs.Listed.{listed}
use Rattle.asm_text.specs.Starts.{start, raw_byte}

-- the number that bytes stand for, the lowest first
abbrev pub half_from : ℕ → ℕ → ℕ
half_from a b = number_at Half (a ∷ b ∷ []) 0

abbrev pub word_from : ℕ → ℕ → ℕ → ℕ → ℕ
word_from a b c d = number_at Word (a ∷ b ∷ c ∷ d ∷ []) 0

-- the lines of an image at an address: a statement a word or half, at addresses modulo 2^32, and a line for each byte that is left
abbrev pub arm_lines : Arch → ℕ → List ℕ → List (List ℕ)
arm_lines arch at (a ∷ b ∷ c ∷ d ∷ rest) = listed arch Arm at (word_from a b c d) ∷ arm_lines arch ((at + 4) % 2 ^ 32) rest
arm_lines arch at bytes = map raw_byte bytes

abbrev pub thumb_lines : Arch → ℕ → List ℕ → List (List ℕ)
thumb_lines arch at (a ∷ b ∷ rest) = listed arch Thumb at (half_from a b) ∷ thumb_lines arch ((at + 2) % 2 ^ 32) rest
thumb_lines arch at bytes = map raw_byte bytes

abbrev pub lines_of : Arch → Set → ℕ → List ℕ → List (List ℕ)
lines_of arch Arm at image = arm_lines arch at image
lines_of arch Thumb at image = thumb_lines arch at image

-- with the first line, which is alone where the image is empty
abbrev pub listing_lines : Arch → Set → ℕ → List ℕ → List (List ℕ)
listing_lines arch set at image = start arch set at ∷ lines_of arch set at image

-- the listing of an image
abbrev pub listing : Arch → Set → ℕ → List ℕ → List ℕ
listing arch set at image = text_of (listing_lines arch set at image)

abbrev pub AllBytes : List ℕ → Type 0
AllBytes [] = Unit {0}
AllBytes (b ∷ bs) = (b < 2 ^ 8) × AllBytes bs

-- a text is the listing of an image, of either processor and set and at any address of 32 bits
pub record IsListing (text image : List ℕ) : Type 0 where
  pub arch : Arch
  pub set : Set
  pub at : ℕ
  pub in_range : at < 2 ^ 32
  pub bytes : AllBytes image
  pub is : text ≡ listing arch set at image

-- the lines of a text that have their line feeds, after a line's bytes so far
abbrev pub lines_in : List ℕ → List ℕ → List (List ℕ)
lines_in line [] = []
lines_in line (b ∷ bs) = if b == 10 then line ∷ lines_in [] bs else lines_in (line ++ b ∷ []) bs

-- what stands after the last line feed
abbrev pub tail_in : List ℕ → List ℕ → List ℕ
tail_in line [] = line
tail_in line (b ∷ bs) = if b == 10 then tail_in [] bs else tail_in (line ++ b ∷ []) bs

abbrev pub whole_lines : List ℕ → List (List ℕ)
whole_lines text = lines_in [] text

abbrev pub tail : List ℕ → List ℕ
tail text = tail_in [] text

-- some listing begins with these lines
pub record IsFront (lines : List (List ℕ)) : Type 0 where
  pub arch : Arch
  pub set : Set
  pub at : ℕ
  pub in_range : at < 2 ^ 32
  pub image : List ℕ
  pub bytes : AllBytes image
  pub rest : List (List ℕ)
  pub is : listing_lines arch set at image ≡ lines ++ rest

-- lines are counted from 1. The lines before the first bad line have their line feeds, and some listing begins with them; none
-- begins with them and the bad line, or the bad line lacks its line feed. An empty text's first line is bad.
pub record IsFirstBad (text : List ℕ) (line : ℕ) : Type 0 where
  pub before : ℕ
  pub number : line ≡ before + 1
  pub within : before ≤ length (whole_lines text)
  pub front : IsFront (take before (whole_lines text))
  pub bad : ((before < length (whole_lines text)) × (IsFront (take (before + 1) (whole_lines text)) → ⊥))
      ⊎ ((before ≡ length (whole_lines text)) × ((tail text ≢ []) ⊎ (text ≡ [])))
