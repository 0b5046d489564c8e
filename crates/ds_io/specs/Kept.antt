use Rattle.std.specs.Prelude.{ℕ, List, Bool, true, false, ◌≡◌, ◌<◌, ◌++◌, ◌+◌, ◌-◌, ◌&&◌, length, nat_le, if◌then◌else◌, refl}
use Rattle.std.proofs.Common.{lt_irrefl}

-- what a sink in memory keeps: bytes, how many there is room for, and whether they are all that was put
pub record KeptBytes : Type 0 where
  pub bytes : List ℕ
  pub room : ℕ
  pub told : Bool

-- bytes are put: they are kept where they still fit; otherwise they are dropped, and nothing is told any more (our choice)
abbrev pub kept_after : KeptBytes → List ℕ → KeptBytes
kept_after k more =
    if k.told && nat_le (length k.bytes + length more) k.room then record k { bytes = k.bytes ++ more }
    else record k { told = false }

-- one more than the bytes that still fit
abbrev pub room_of : KeptBytes → ℕ
room_of k = if k.told then k.room + 1 - length k.bytes else 0

-- what has room left tells
pub room_tells : (k : KeptBytes) → 0 < room_of k → k.told ≡ true
room_tells k h = told_of k.told (k.room + 1 - length k.bytes) h where
  told_of : (told : Bool) (n : ℕ) → 0 < (if told then n else 0) → told ≡ true
  told_of true n h = refl
  told_of false n h = absurd (lt_irrefl 0 h)
