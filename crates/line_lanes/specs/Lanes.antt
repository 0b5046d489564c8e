use Rattle.std.specs.Prelude.{ℕ, ℤ, ◌+◌, ◌*◌, ◌/◌, ◌%◌, ◌^◌, min, List, [], ◌∷◌, slice_index}
use Rattle.std.specs.Int.{cast_signed, cast_unsigned, w32, w64}
use Rattle.std.specs.Int.RustNames.{FitsSigned}
use Rattle.line_lanes.specs.Matrices.{at}
use Rattle.line_lanes.specs.Pixels.{by_channels, top_bit}

-- How the kernels go, lane by lane. No public clause speaks of it.

-- the channel that begins at bit `from`
abbrev pub channel_from : ℕ → ℕ → ℕ
channel_from from p = p / 2 ^ from % 32

-- a channel x of the first target mixed with y of the second, in sixteenths, and how it is rounded
abbrev pub mixed_channel : ℕ → ℕ → ℕ → ℕ → ℕ → ℕ
mixed_channel eva evb rounding x y = min 31 ((x * eva + y * evb + rounding) / 16)

-- a pixel so mixed
abbrev pub mixed_pixel : ℕ → ℕ → ℕ → ℕ → ℕ → ℕ
mixed_pixel eva evb rounding = by_channels (mixed_channel eva evb rounding)

-- the pixels of these channels, with bit 15 of the old pixels
abbrev pub joined_pixels : List ℕ → List ℕ → List ℕ → List ℕ → List ℕ
joined_pixels (r ∷ rs) (g ∷ gs) (b ∷ bs) (p ∷ ps) =
    (r + 32 * g + 1024 * b + 32768 * top_bit p) % 65536 ∷ joined_pixels rs gs bs ps
joined_pixels _ _ _ _ = []

-- the elements of two lists in turn
abbrev pub woven : List ℕ → List ℕ → List ℕ
woven (x ∷ xs) (y ∷ ys) = x ∷ (y ∷ woven xs ys)
woven _ _ = []

-- four numbers are signed words
abbrev pub AreSignedWords : List ℤ → Type 0
AreSignedWords numbers = FitsSigned w32 (at numbers 0) × FitsSigned w32 (at numbers 1) × FitsSigned w32 (at numbers 2) × FitsSigned w32 (at numbers 3)

-- four numbers, each in 64 bits
abbrev pub wide : List ℤ → List ℕ
wide numbers =
    cast_unsigned w64 (at numbers 0) ∷ cast_unsigned w64 (at numbers 1) ∷ cast_unsigned w64 (at numbers 2) ∷ cast_unsigned w64 (at numbers 3) ∷ []

-- a sum in 64 bits as a cell, and four of them
abbrev pub sum_cell : ℕ → ℤ
sum_cell sum = cast_signed w32 (sum / 4096 % 2 ^ 32)

abbrev pub sum_cells : List ℕ → List ℤ
sum_cells sums =
    sum_cell (slice_index sums 0) ∷ sum_cell (slice_index sums 1) ∷ sum_cell (slice_index sums 2) ∷ sum_cell (slice_index sums 3) ∷ []
