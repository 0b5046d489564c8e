use Rattle.std.specs.Prelude.{ℕ, ◌<◌, ◌+◌, ◌-◌, ◌^◌, List, length, slice_index_or}
use Rattle.ds_base.specs.declared.keys.KeyLine.{KeyLine}

abbrev pub no_line : KeyLine
no_line = record { tick = record { 0 = 0 }; pressed = 0 }

abbrev pub line_at : List KeyLine → ℕ → KeyLine
line_at lines at = slice_index_or lines at no_line

-- the last line, where there is one, is before this one
abbrev pub ComesAfter : List KeyLine → KeyLine → Type 0
ComesAfter lines line = 0 < length lines → (line_at lines (length lines - 1)).tick.0 < line.tick.0

-- the lines of a key script: each tick is above the one before it, and each line tells of twelve keys
pub record AreKeyLines (lines : List KeyLine) : Type 0 where
  pub rising : (at : ℕ) → at + 1 < length lines → (line_at lines at).tick.0 < (line_at lines (at + 1)).tick.0
  pub twelve : (at : ℕ) → at < length lines → (line_at lines at).pressed < 2 ^ 12
