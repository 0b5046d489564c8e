use Rattle.std.specs.Prelude.{ℕ, Bool, ℤ, pos, negsuc, ◌+ℤ◌, ◌*ℤ◌, ◌-◌, ◌%◌, nat_lt, if◌then◌else◌, Option, Some, None}
use Rattle.std.specs.Int.{int_shr}

-- The points that the places of a line show of a background that may be turned and scaled (GBATEK, "LCD I/O BG Rotation/Scaling").

-- a coordinate of the point shown at place x of a line: the line's first, and so many steps; both have 8 fractional bits, which are cut
-- off downwards. The sum is exact
abbrev pub affine_coordinate : ℤ → ℤ → ℕ → ℤ
affine_coordinate first step x = int_shr (first +ℤ (step *ℤ pos x)) 8

-- the place of a coordinate on a background of a size: outside, the background begins again where it wraps
abbrev pub place_within : Bool → ℕ → ℤ → Option ℕ
place_within wraps size (pos n) = if wraps then Some (n % size) else (if nat_lt n size then Some n else None)
place_within wraps size (negsuc n) = if wraps then Some (size - 1 - n % size) else None
