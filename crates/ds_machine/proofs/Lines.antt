use Rattle.ds_machine.proofs.Words.{AreKeyLines, KeyLine, List, length, line_at, ℕ, ◌<◌, ◌^◌}

-- A line of a key script tells of twelve keys.

pub line_twelve : (lines : List KeyLine) (at : ℕ) → AreKeyLines lines → at < length lines → (line_at lines at).pressed < 2 ^ 12
line_twelve lines at are below = are.twelve at below
