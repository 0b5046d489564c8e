-- Reading what stands after a line's tick.
use Rattle.std.specs.Prelude.{ℕ, ◌≡◌, ◌<◌, ◌≤◌, ◌+◌, ◌*◌, ◌^◌, ◌==◌, List, length, drop, codes, Result, Ok, Err, if◌then◌else◌}
use Rattle.nds_words.specs.Scripts.{key_names}
use Rattle.nds_words.specs.Reader.Names.{common, names_from, outcome}

-- no name at all is none
abbrev pub some : Result ℕ ℕ → Result ℕ ℕ
some (Ok bits) = if bits == 0 then Err 0 else Ok bits
some (Err most) = Err most

-- the bits of the keys that are the whole text, after a space; or how many bytes of the text can be the front of such keys
unfoldable pub keys_from : List ℕ → Result ℕ ℕ
keys_from text =
    if common (codes " -") text == 2 then (if length text == 2 then Ok 0 else Err 2)
    else some (names_from 32 key_names text)

-- the same, so many bytes into a line
abbrev pub further : ℕ → Result ℕ ℕ → Result ℕ ℕ
further count (Ok bits) = Ok bits
further count (Err most) = Err (count + most)

-- what a loop over the names has at one of them: what is to come of the rest of the line is what was to come of it at its start
pub record IsNamed (line : List ℕ) (from bits key at reached mark : ℕ) : Type 0 where
  pub keys : key ≤ 12
  pub begin : from ≤ at
  pub within : at ≤ length line
  pub after : at ≤ reached
  pub inside : reached ≤ length line
  pub few : reached ≤ from + 7 * key
  pub fits : bits < 2 ^ key
  pub unmoved : bits ≡ 0 → at ≡ from
  pub same : outcome bits (2 ^ key) at reached (names_from mark (drop key key_names) (drop at line))
      ≡ outcome 0 1 from from (names_from 32 key_names (drop from line))
