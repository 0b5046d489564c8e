use Rattle.std.specs.Prelude.{ℕ, List, flat_map}
use Rattle.byteorder.specs.Endian.{little_bytes}

-- Numbers as bytes, the lowest first: the lowest 8 bytes of each, the lowest 4, and the lowest 2.

unfoldable pub longs : List ℕ → List ℕ
longs numbers = flat_map (little_bytes 8) numbers

unfoldable pub words : List ℕ → List ℕ
words numbers = flat_map (little_bytes 4) numbers

unfoldable pub halves : List ℕ → List ℕ
halves numbers = flat_map (little_bytes 2) numbers
