use Rattle.std.specs.Prelude.{ℕ, ◌≡◌, ◌≢◌, ◌<◌, ◌≤◌, false, List}
use Rattle.std.specs.Int.{bit_at}
use Rattle.obj2d.specs.Attributes.{mode, object_at, object_has_mosaic}

-- How the code sees at once that no object needs anything: by the bits of all objects together. No public clause speaks of it.

-- those of bits 10 and 11 (the mode) and 12 (mosaic) of an attribute 0 that are set are set in a word
pub record IsAmong (attribute all : ℕ) : Type 0 where
  pub low : bit_at attribute 10 ≤ bit_at all 10
  pub high : bit_at attribute 11 ≤ bit_at all 11
  pub mosaic : bit_at attribute 12 ≤ bit_at all 12

-- the same of the first `count` objects
abbrev pub AreAmong : List ℕ → ℕ → ℕ → Type 0
AreAmong oam count all = (n : ℕ) → n < count → IsAmong (object_at oam n).attribute0 all

-- no object is a bitmap, and none has mosaic
abbrev pub NeedNothing : List ℕ → Type 0
NeedNothing oam = (n : ℕ) → n < 128 → (mode (object_at oam n) ≢ 3) × (object_has_mosaic (object_at oam n) ≡ false)
