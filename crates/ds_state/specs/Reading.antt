-- What is read by a format: the state that bytes stand for, or the place of the first field that isn't whole or breaks its rule.
use Rattle.std.specs.Prelude.{ℕ, zero, suc, ◌≡◌, ◌+◌, ◌==◌, Bool, true, false, List, [], ◌∷◌, length, take, drop, Option, Some, None, Result, Ok, Err, nat_lt, if◌then◌else◌}
use Rattle.std.specs.Int.{w16, w32, cast_signed}
use Rattle.byteorder.specs.Endian.{little_number}
use Rattle.ds_state.specs.Formats.{Code, number_code, flag_code, tick, array, signed_word, signed_half_code, code_width, no_tick, Format, done, then_field, then_part, list}
use Rattle.ds_state.specs.declared.unpacker.Unpacked.{Unpacked}
use Rattle.ds_state.specs.declared.unpacker.Unpacked.TheVariants.{NoMemory, Bad}

abbrev pub flag_of : ℕ → Option Bool
flag_of zero = Some false
flag_of (suc zero) = Some true
flag_of (suc (suc n)) = None

abbrev pub tick_read : ℕ → Option ℕ
tick_read n = if n == no_tick then None else Some n

-- the value that these bytes spell
abbrev pub value : {V : Type 0} → Code V → List ℕ → Option V
value (number_code n) bytes = Some (little_number n bytes)
value flag_code bytes = flag_of (little_number 1 bytes)
value tick bytes = Some (tick_read (little_number 8 bytes))
value (array n) bytes = Some (take n bytes)
value signed_word bytes = Some (cast_signed w32 (little_number 4 bytes))
value signed_half_code bytes = Some (cast_signed w16 (little_number 2 bytes))

-- what is left to be read, and where it begins
pub record Left : Type 0 where
  pub place : ℕ
  pub bytes : List ℕ

-- Reading gives a value and what is left, or the place of the field that isn't whole or breaks its rule.
abbrev pub ReadAnswer : Type 0 → Type 0
ReadAnswer A = Result (A × Left) ℕ

infixl 10 ◌>>=◌
abbrev pub ◌>>=◌ : {A B : Type 0} → ReadAnswer A → (A × Left → ReadAnswer B) → ReadAnswer B
(Ok x) >>= f = f x
(Err e) >>= f = Err e

abbrev pub past : ℕ → Left → Left
past n l = record { place = l.place + n; bytes = drop n l.bytes }

abbrev pub value_read : {V : Type 0} → Option V → ℕ → Left → ReadAnswer V
value_read None n l = Err l.place
value_read (Some v) n l = Ok (v, past n l)

unfoldable pub read_code : {V : Type 0} → Code V → Left → ReadAnswer V
read_code c l = if nat_lt (length l.bytes) (code_width c) then Err l.place else value_read (value c l.bytes) (code_width c) l

abbrev pub ruled : {V : Type 0} → (V → Bool) → Left → ReadAnswer V → ReadAnswer V
ruled rule l r = r >>= (λ p. if rule p.0 then Ok p else Err l.place)

abbrev pub read_list : {T : Type 0} → (Left → ReadAnswer T) → ℕ → Left → ReadAnswer (List T)
read_list reader zero l = Ok ([], l)
read_list reader (suc n) l = reader l >>= (λ p. read_list reader n p.1 >>= (λ q. Ok (p.0 ∷ q.0, q.1)))

abbrev pub read_format : {S A : Type 0} → Format S A → ℕ → Left → ReadAnswer A
read_format (done a) at l = Ok (a, l)
read_format (then_field c get rule next) at l = ruled (rule at) l (read_code c l) >>= (λ p. read_format (next p.0) at p.1)
read_format (then_part f get next) at l = read_format f at l >>= (λ p. read_format (next p.0) at p.1)
read_format (list n f get next) at l = read_list (read_format f at) n l >>= (λ p. read_format (next p.0) at p.1)

-- what a call answered, seen by view, with what it left, is what reading gives
abbrev pub Fails : {Y : Type 0} → Unpacked → ReadAnswer Y → Type 0
Fails NoMemory r = ⊥
Fails (Bad offset) r = r ≡ Err offset

abbrev pub GivesRead : {X Y : Type 0} → (X → Y) → Result X Unpacked → Left → ReadAnswer Y → Type 0
GivesRead view (Ok x) left r = r ≡ Ok (view x, left)
GivesRead view (Err e) left r = Fails e r

-- the same, unless memory ran out
abbrev pub FailsIn : {Y : Type 0} → Unpacked → ReadAnswer Y → Type 0
FailsIn NoMemory r = Unit {0}
FailsIn (Bad offset) r = r ≡ Err offset

abbrev pub GivesIn : {X Y : Type 0} → (X → Y) → Result X Unpacked → Left → ReadAnswer Y → Type 0
GivesIn view (Ok x) left r = r ≡ Ok (view x, left)
GivesIn view (Err e) left r = FailsIn e r

-- the same of an Option, and of a Bool; where fewer bytes are left, all is as it was
abbrev pub GivesSome : {X : Type 0} → Option X → Left → Left → ReadAnswer X → Type 0
GivesSome (Some x) old left r = r ≡ Ok (x, left)
GivesSome None old left r = (r ≡ Err old.place) × (left ≡ old)

abbrev pub GivesTrue : {X : Type 0} → Bool → X → Left → Left → ReadAnswer X → Type 0
GivesTrue true x old left r = r ≡ Ok (x, left)
GivesTrue false x old left r = (r ≡ Err old.place) × (left ≡ old)
