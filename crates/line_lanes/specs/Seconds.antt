use Rattle.std.specs.Prelude.{◌≡◌, ◌≤◌, ℕ, List, length, replicate}
use Rattle.line_lanes.specs.declared.seconds.Second.{Second}
use Rattle.line_lanes.specs.declared.seconds.Second.TheVariants.{Row, Colour}

-- How the kernels take their second targets. No public clause speaks of it.

-- the second target's first n pixels
abbrev pub pixels_of : Second → ℕ → List ℕ
pixels_of (Row row) n = row.now
pixels_of (Colour p) n = replicate n p

-- the second target has n pixels
abbrev pub Reaches : Second → ℕ → Type 0
Reaches (Row row) n = length row.now ≡ n
Reaches (Colour p) n = Unit {0}

-- the second target has a pixel at each place below n
abbrev pub HasBelow : Second → ℕ → Type 0
HasBelow (Row row) n = n ≤ length row.now
HasBelow (Colour p) n = Unit {0}
