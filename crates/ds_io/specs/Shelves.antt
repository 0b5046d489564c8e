use Rattle.std.specs.Prelude.{ℕ, ◌≡◌, ◌≤◌, ◌<◌, ◌+◌, List, [], ◌∷◌, ◌++◌, length, take, drop, Bool, Option, Some, None, option_map, unwrap_or, is_some, if◌then◌else◌}
use Rattle.std.specs.Str.{bytes_eq}

-- a file: the bytes of its name, and its own
pub record Named : Type 0 where
  pub name : List ℕ
  pub bytes : List ℕ

-- the bytes under a name, where there is such a file: the first of the name counts (our choice)
abbrev pub file_of : List Named → List ℕ → Option (List ℕ)
file_of [] name = None
file_of (f ∷ rest) name = if bytes_eq f.name name then Some f.bytes else file_of rest name

-- what a shelf tells: its files, and what is left of the file that was found last, where one was found
pub record Told : Type 0 where
  pub files : List Named
  pub left : Option (List ℕ)

-- what is left to be read: nothing while no file was found
abbrev pub left_of : Told → List ℕ
left_of s = unwrap_or s.left []

-- the place in the found file moved on by n bytes
abbrev pub moved : Told → ℕ → Told
moved s n = record s { left = option_map (drop n) s.left }

-- a file looked for: where there is one of the name it begins, and otherwise nothing changes
abbrev pub found_in : Told → List ℕ → Told
found_in s name = if is_some (file_of s.files name) then record s { left = file_of s.files name } else s

-- a shelf answered whether there is a file of the name
abbrev pub Finds : Option Told → List ℕ → Bool → Option Told → Type 0
Finds None name found new = new ≡ None
Finds (Some s) name found new = (found ≡ is_some (file_of s.files name)) × (new ≡ Some (found_in s name))

-- a shelf put the next n bytes into a slice, and none into a slice that isn't empty only at the end
abbrev pub Reads : Option Told → List ℕ → ℕ → List ℕ → Option Told → Type 0
Reads None into n put new = new ≡ None
Reads (Some s) into n put new =
    (n ≤ length (left_of s)) × (put ≡ take n (left_of s) ++ drop n into) × (new ≡ Some (moved s n)) × (n ≡ 0 → 0 < length into → left_of s ≡ [])

-- these bytes are all that was left
abbrev pub TookAll : Option Told → List ℕ → Option Told → Type 0
TookAll None bytes new = new ≡ None
TookAll (Some s) bytes new = (bytes ≡ left_of s) × (new ≡ Some (moved s (length bytes)))

-- more bytes than the limit were left, and one more than the limit was taken
abbrev pub TookTooMany : Option Told → ℕ → Option Told → Type 0
TookTooMany None limit new = new ≡ None
TookTooMany (Some s) limit new = (limit < length (left_of s)) × (new ≡ Some (moved s (limit + 1)))

-- some bytes that were left are gone, at most so many
abbrev pub TookSome : Option Told → ℕ → Option Told → Type 0
TookSome None most new = new ≡ None
TookSome (Some s) most new = (count : ℕ) × (count ≤ most) × (count ≤ length (left_of s)) × (new ≡ Some (moved s count))

-- the files of a shelf that tells them
abbrev pub files_of : Option Told → Option (List Named)
files_of t = option_map (λ s. s.files) t
