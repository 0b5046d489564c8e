use Rattle.std.specs.Prelude.{ℕ, ◌-◌, nat_lt, if◌then◌else◌}

-- Which pixels of an object's box the code lays over a row. No public call speaks of it.

-- which pixels of a box of n pixels are on the screen: from which one on, from which place on, and how many
abbrev pub span_first : ℕ → ℕ
span_first left = if nat_lt left 256 then 0 else 512 - left

abbrev pub span_start : ℕ → ℕ
span_start left = if nat_lt left 256 then left else 0

abbrev pub span_count : ℕ → ℕ → ℕ
span_count left n = if nat_lt (n - span_first left) (256 - span_start left) then n - span_first left else 256 - span_start left
