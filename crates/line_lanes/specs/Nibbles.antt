use Rattle.std.specs.Prelude.{ℕ, ◌/◌, ◌%◌, List, [], ◌∷◌}

-- two nibbles for each byte, the low one first, as the pixels of 16-colour tiles lie (GBATEK, "LCD VRAM Character Data")
abbrev pub nibbles : List ℕ → List ℕ
nibbles [] = []
nibbles (b ∷ bs) = b % 16 ∷ (b / 16 ∷ nibbles bs)
