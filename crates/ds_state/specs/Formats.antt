-- Formats of bytes, and the bytes of a state by a format.
use Rattle.std.specs.Prelude.{ℕ, ℤ, FitsSigned, ◌≡◌, ◌⊎◌, ◌<◌, ◌+◌, ◌-◌, ◌^◌, ◌==◌, ◌&&◌, Bool, true, List, [], ◌∷◌, ◌++◌, length, Option, Some, None, nat_le, bit_and, if◌then◌else◌}
use Rattle.std.specs.Int.{w16, w32, cast_unsigned}
use Rattle.byteorder.specs.Endian.{little_bytes}

-- how one field stands in bytes: a number of so many bytes, a flag in one byte, a tick in eight with all bits 1 for none, or so many bytes
-- as they are
pub data Code : Type 0 → Type 1 where
  number_code : ℕ → Code ℕ
  flag_code : Code Bool
  tick : Code (Option ℕ)
  array : ℕ → Code (List ℕ)
  signed_word : Code ℤ
  signed_half_code : Code ℤ

abbrev pub code_width : {V : Type 0} → Code V → ℕ
code_width (number_code n) = n
code_width flag_code = 1
code_width tick = 8
code_width (array n) = n
code_width signed_word = 4
code_width signed_half_code = 2

-- how many bytes a number may have
abbrev pub IsCodeWidth : ℕ → Type 0
IsCodeWidth bytes = (bytes ≡ 1) ⊎ ((bytes ≡ 2) ⊎ ((bytes ≡ 4) ⊎ (bytes ≡ 8)))

abbrev pub no_tick : ℕ
no_tick = 2 ^ 64 - 1

abbrev pub tick_number : Option ℕ → ℕ
tick_number None = no_tick
tick_number (Some t) = t

abbrev pub code_bytes : {V : Type 0} → Code V → V → List ℕ
code_bytes (number_code n) v = little_bytes n v
code_bytes flag_code v = little_bytes 1 (if v then 1 else 0)
code_bytes tick v = little_bytes 8 (tick_number v)
code_bytes (array n) v = v
code_bytes signed_word v = little_bytes 4 (cast_unsigned w32 v)
code_bytes signed_half_code v = little_bytes 2 (cast_unsigned w16 v)

-- the values that have a spelling
abbrev pub Fits : {V : Type 0} → Code V → V → Type 0
Fits (number_code n) v = v < 256 ^ n
Fits flag_code v = Unit {0}
Fits tick None = Unit {0}
Fits tick (Some t) = t < no_tick
Fits (array n) v = length v ≡ n
Fits signed_word v = FitsSigned w32 v
Fits signed_half_code v = FitsSigned w16 v

-- A format of states S, which reads an A: one field after another. A field has its code, what it says of the state, its rule, and what
-- comes after its value. The rule looks at the tick, too. A part is a format of its own, and a list so many of them.
pub data Format : Type 0 → Type 0 → Type 1 where
  done : {S A : Type 0} → A → Format S A
  then_field : {S A V : Type 0} → Code V → (S → V) → (ℕ → V → Bool) → (V → Format S A) → Format S A
  then_part : {S A T : Type 0} → Format T T → (S → T) → (T → Format S A) → Format S A
  list : {S A T : Type 0} → ℕ → Format T T → (S → List T) → (List T → Format S A) → Format S A

-- the same after others, as they are put
abbrev pub written_each : {T : Type 0} → (List ℕ → T → List ℕ) → List ℕ → List T → List ℕ
written_each write before [] = before
written_each write before (t ∷ ts) = written_each write (write before t) ts

abbrev pub bytes_written : {S A : Type 0} → Format S A → List ℕ → S → List ℕ
bytes_written (done a) before s = before
bytes_written (then_field c get rule next) before s = bytes_written (next (get s)) (before ++ code_bytes c (get s)) s
bytes_written (then_part f get next) before s = bytes_written (next (get s)) (bytes_written f before (get s)) s
bytes_written (list n f get next) before s = bytes_written (next (get s)) (written_each (bytes_written f) before (get s)) s

-- one format after another
infixl 10 ◌>>=◌
abbrev pub ◌>>=◌ : {S A B : Type 0} → Format S A → (A → Format S B) → Format S B
(done a) >>= k = k a
(then_field c get rule next) >>= k = then_field c get rule (λ v. next v >>= k)
(then_part f get next) >>= k = then_part f get (λ t. next t >>= k)
(list n f get next) >>= k = list n f get (λ ts. next ts >>= k)

abbrev pub one_field : {S V : Type 0} → Code V → (S → V) → (ℕ → V → Bool) → Format S V
one_field c get rule = then_field c get rule (λ v. done v)

abbrev pub its : {S T : Type 0} → Format T T → (S → T) → Format S T
its f get = then_part f get (λ t. done t)

abbrev pub each : {S T : Type 0} → ℕ → Format T T → (S → List T) → Format S (List T)
each n f get = list n f get (λ ts. done ts)

-- rules of one field
abbrev pub any : {V : Type 0} → ℕ → V → Bool
any at v = true

abbrev pub keeps_mask : ℕ → ℕ → ℕ → Bool
keeps_mask mask at v = bit_and v mask == v

abbrev pub at_most : ℕ → ℕ → ℕ → Bool
at_most n at v = nat_le v n

-- a due tick is from the tick of the state on, and no later than 2^32 ticks after it
abbrev pub soon : ℕ → Option ℕ → Bool
soon at None = true
soon at (Some due) = nat_le at due && nat_le due (at + 2 ^ 32)

-- the tick of an earlier step, 0 where there was none
abbrev pub tick_or_0 : Option ℕ → ℕ
tick_or_0 None = 0
tick_or_0 (Some t) = t

abbrev pub tick_where : Bool → ℕ → Option ℕ
tick_where there n = if there then Some n else None

-- it is at most the tick of the state, and 0 where there was none
abbrev pub earlier_tick : Bool → ℕ → ℕ → Bool
earlier_tick there at n = if there then nat_le n at else n == 0

-- a number that is 0 where it isn't used
abbrev pub used_where : Bool → ℕ → ℕ → Bool
used_where used at n = if used then true else n == 0

-- a word, and a signed one, as a part of its own
abbrev pub word_format : Format ℕ ℕ
word_format = one_field (number_code 4) (λ w. w) any

abbrev pub signed_format : Format ℤ ℤ
signed_format = one_field signed_word (λ w. w) any
