-- Reading the lines of a script one by one.
use Rattle.std.specs.Prelude.{ℕ, ◌≡◌, List, [], ◌∷◌, ◌++◌, ◌⊎◌}
use Rattle.ds_base.specs.declared.keys.KeyLine.{KeyLine}
use Rattle.nds_words.specs.Scripts.{script_text}

-- lines were read, and what is left of the text; nothing is left where the last line lacks its line feed
abbrev pub AreRead : List ℕ → List KeyLine → List ℕ → Type 0
AreRead text lines rest = (text ≡ script_text lines ++ rest) ⊎ ((rest ≡ []) × (text ++ 10 ∷ [] ≡ script_text lines))

-- a text is its first line and what stands after the line feed
abbrev pub IsParted : List ℕ → List ℕ → List ℕ → Type 0
IsParted text line rest = (text ≡ line ++ 10 ∷ rest) ⊎ ((rest ≡ []) × (text ≡ line))
