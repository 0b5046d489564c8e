use Rattle.std.proofs.Common.{ℕ, ◌≡◌, ◌+◌, ◌-◌, length, take, drop, List, arith, refl}
use Rattle.std.proofs.lemmas.List.{length-replicate, take-take}
use Rattle.line_lanes.specs.Seconds.{pixels_of, Reaches}
use Rattle.line_lanes.specs.declared.seconds.Second.{Second}
use Rattle.line_lanes.specs.declared.seconds.Second.TheVariants.{Row, Colour}

pub length-pixels_of : (s : Second) (n : ℕ) → Reaches s n → length (pixels_of s n) ≡ n
length-pixels_of (Row row) n h = h
length-pixels_of (Colour p) n h = length-replicate n p

-- the block that is read from a slice of a row
pub block_of_slice : (at : ℕ) (row : List ℕ) → take 8 (drop 0 (take (at + 8 - at) (drop at row))) ≡ take 8 (drop at row)
block_of_slice at row =
    let e : at + 8 - at ≡ 8 = omega arith in
    rw (e, take-take 8 8 (drop at row) (omega arith)) refl
