use Rattle.std.specs.Prelude.{ℕ, zero, suc, ◌+◌, ◌==◌, nat_lt, List, [], ◌∷◌, ◌++◌, codes, Bool, if◌then◌else◌}
use Rattle.ds_base.specs.Bits.{bit}
use Rattle.ds_base.specs.Digits.{hex_digits}

-- texts, each after a mark
abbrev pub preceded : List ℕ → List (List ℕ) → List ℕ
preceded mark [] = []
preceded mark (x ∷ xs) = mark ++ (x ++ preceded mark xs)

-- texts with a mark between each two
abbrev pub joined : List ℕ → List (List ℕ) → List ℕ
joined mark [] = []
joined mark (x ∷ xs) = x ++ preceded mark xs

-- a text that stands only where a bit is set
abbrev pub where_set : Bool → List ℕ → List ℕ
where_set b text = if b then text else []

-- numbers are written in hexadecimal with lower-case digits, after 0x and without leading zeros (our choice)
abbrev pub trimmed : List ℕ → List ℕ
trimmed [] = []
trimmed (d ∷ []) = d ∷ []
trimmed (d ∷ e ∷ ds) = if d == 48 then trimmed (e ∷ ds) else d ∷ e ∷ ds

abbrev pub hex : ℕ → List ℕ
hex n = codes "0x" ++ trimmed (hex_digits 8 n)

-- a number as an operand
abbrev pub number : ℕ → List ℕ
number n = codes "#" ++ hex n

-- the numbers in names, which are below 16, are decimal
abbrev pub decimal : ℕ → List ℕ
decimal n = if nat_lt n 10 then (48 + n) ∷ [] else 49 ∷ (38 + n) ∷ []

abbrev pub register_name : ℕ → List ℕ
register_name n = codes "r" ++ decimal n

-- of `left` registers from `r` on those whose bits are set, ascending
abbrev pub register_names : ℕ → ℕ → ℕ → List (List ℕ)
register_names zero r list = []
register_names (suc left) r list = if bit r list then register_name r ∷ register_names left (r + 1) list else register_names left (r + 1) list

-- a list of registers, whose bits are those of `list`
unfoldable pub members : ℕ → List ℕ
members list = joined (codes ",") (register_names 16 0 list)

abbrev pub register_list : ℕ → List ℕ
register_list list = codes "{" ++ (members list ++ codes "}")
