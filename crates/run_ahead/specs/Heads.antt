use Rattle.std.specs.Prelude.{ℕ, ◌+◌, ◌*◌, ◌==◌, nat_le, nat_lt, Bool, List}
use Rattle.std.specs.Str.{bytes_eq}
use Rattle.ds_state.specs.Formats.{Format, array, number_code, done, ◌>>=◌, one_field, any, at_most}
use Rattle.run_ahead.specs.declared.heads.Head.{Head}

-- What stands before the machine in the bytes of a console (our choice of form).

-- a number that can only be this
abbrev pub is_exactly : ℕ → ℕ → ℕ → Bool
is_exactly n limit v = v == n

-- the SHA-256 is the cartridge's
abbrev pub is_digest : List ℕ → ℕ → List ℕ → Bool
is_digest digest limit sum = bytes_eq sum digest

-- the tick is below the limit of the run that is to go on from there
abbrev pub is_below : ℕ → ℕ → Bool
is_below limit at = nat_lt at limit

-- there were at most 24 steps for each tick: a rule over three fields, told at the last
abbrev pub has_few_steps : (at nine seven : ℕ) → ℕ → ℕ → Bool
has_few_steps at nine seven limit events = nat_le (nine + seven + events) (24 * at)

-- the letter 'S', the version, the SHA-256 of the cartridge's bytes, the tick, the steps of ARM9, of ARM7 and of all others, and how many turns
-- counted, no more than steps. It is read by the limit of the run that is to go on
unfoldable pub head_format : List ℕ → Format Head Head
head_format digest = do
  letter ← one_field (number_code 1) (λ h. 0x53) (is_exactly 0x53)
  version ← one_field (number_code 1) (λ h. 1) (is_exactly 1)
  sum ← one_field (array 32) (λ h. digest) (is_digest digest)
  at ← one_field (number_code 8) (λ h. h.at) is_below
  nine ← one_field (number_code 8) (λ h. h.nine) any
  seven ← one_field (number_code 8) (λ h. h.seven) any
  events ← one_field (number_code 8) (λ h. h.events) (has_few_steps at nine seven)
  turns ← one_field (number_code 8) (λ h. h.turns) (at_most (nine + seven + events))
  done (record { at = at; nine = nine; seven = seven; events = events; turns = turns })
