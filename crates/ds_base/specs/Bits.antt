use Rattle.std.specs.Prelude.{ℕ, ◌/◌, ◌%◌, ◌^◌, ◌==◌, Bool, true, false}

-- the field of `size` bits of a word from bit `at` on (the ARM manual writes word[at + size - 1 : at])
abbrev pub bits : ℕ → ℕ → ℕ → ℕ
bits at size word = word / 2 ^ at % 2 ^ size

-- whether bit `at` of a word is 1
abbrev pub bit : ℕ → ℕ → Bool
bit at word = word / 2 ^ at % 2 == 1

-- a bit at its place
abbrev pub flag : ℕ → Bool → ℕ
flag at true = 2 ^ at
flag at false = 0
