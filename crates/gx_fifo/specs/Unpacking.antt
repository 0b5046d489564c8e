use Rattle.std.specs.Prelude.{ℕ, ◌==◌, ◌||◌, nat_lt, Bool}
use Rattle.gx_fifo.specs.PackedWords.{first_parameters}

-- What the code that takes packed words apart asks at each byte. No public call speaks of it.

-- nothing is left, or a command that has parameters stands first
abbrev pub stops_at : ℕ → Bool
stops_at word = (word == 0) || nat_lt 0 (first_parameters word)
