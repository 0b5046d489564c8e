use Rattle.std.specs.Prelude.{ℕ, ◌≡◌, ◌≢◌, ◌<◌, ◌+◌, ◌*◌, ◌-◌, ◌/◌, ◌%◌, ◌^◌, ◌==◌, if◌then◌else◌, ℤ, pos, negsuc, unsigned_abs, int_div, int_rem, Option, Some, None, is_some}
use Rattle.std.specs.Int.{cast_signed, w32, w64}
use Rattle.ds_base.specs.declared.ticks.Tick.{Tick}
use Rattle.ds_math.specs.declared.dividers.Quotient.{Quotient}
use Rattle.ds_math.specs.Division.{modulo, Divides}

-- the divider (GBATEK, "DS Maths"): the mode of DIVCNT, DIV_NUMER, DIV_DENOM, DIV_RESULT and DIVREM_RESULT as they stand, and the tick
-- at which a running division is done
pub record DividerState : Type 0 where
  pub mode : ℕ
  pub numerator : ℕ
  pub denominator : ℕ
  pub quotient : ℕ
  pub remainder : ℕ
  pub due : Option Tick

-- what holds of it at every time: how many bits its registers have (GBATEK, "DS Maths"; the mode is DIVCNT's bits 0 and 1)
pub record IsDivider (s : DividerState) : Type 0 where
  pub mode : s.mode < 2 ^ 2
  pub numerator : s.numerator < 2 ^ 64
  pub denominator : s.denominator < 2 ^ 64
  pub quotient : s.quotient < 2 ^ 64
  pub remainder : s.remainder < 2 ^ 64

-- all is 0 at boot (our choice)
abbrev pub divider_at_boot : DividerState
divider_at_boot = record { mode = 0; numerator = 0; denominator = 0; quotient = 0; remainder = 0; due = None }

-- how long a division takes, in ticks: 18 bus clocks of 2 ticks in mode 0, 34 in the others (GBATEK, "DS Maths", DIVCNT)
abbrev pub division_ticks : ℕ → ℕ
division_ticks mode = if mode == 0 then 36 else 68

-- a division starts: it takes the operands, and the old results stay until it is done
abbrev pub division_started : DividerState → ℕ → ℕ → ℕ → Tick → DividerState
division_started s mode numerator denominator now =
    record s { mode = mode; numerator = numerator; denominator = denominator; due = Some (record { 0 = now.0 + division_ticks mode }) }

-- the numerator and the denominator by the mode: 0 is 32 bits by 32, 1 is 64 by 32, 2 is 64 by 64, and 3 acts as 1; both are signed
-- (GBATEK, "DS Maths", DIVCNT)
abbrev pub dividend : ℕ → ℕ → ℤ
dividend mode numerator = if mode == 0 then cast_signed w32 (numerator % 2 ^ 32) else cast_signed w64 numerator

abbrev pub divisor : ℕ → ℕ → ℤ
divisor mode denominator = if mode == 2 then cast_signed w64 denominator else cast_signed w32 (denominator % 2 ^ 32)

-- the quotient by zero is 1 with the sign opposite to the numerator's, and -1 for 0 (GBATEK, "DS Maths", "Division by 0")
abbrev pub one_against : ℤ → ℤ
one_against (pos n) = negsuc 0
one_against (negsuc n) = pos 1

-- the upper 32 bits are inverted
abbrev pub upper_inverted : ℕ → ℕ
upper_inverted w = (2 ^ 32 - 1 - w / 2 ^ 32) * 2 ^ 32 + w % 2 ^ 32

-- in mode 0 the upper half of the quotient by zero is inverted (GBATEK, "DS Maths", "Division by 0")
abbrev pub quotient_by_zero : ℕ → ℤ → ℕ
quotient_by_zero mode n = if mode == 0 then upper_inverted (modulo (one_against n)) else modulo (one_against n)

-- what the result registers show of n by d in a mode; by zero the remainder is the numerator (GBATEK, "DS Maths", "Division by 0")
pub data AreResults (mode : ℕ) (n d : ℤ) (quotient remainder : ℕ) : Type 0 where
  divided : d ≢ pos 0 → Divides n d quotient remainder → AreResults mode n d quotient remainder
  by_zero : d ≡ pos 0 → quotient ≡ quotient_by_zero mode n → remainder ≡ modulo n → AreResults mode n d quotient remainder

-- the same results as numbers, for those who compute with them
abbrev pub quotient_word : ℕ → ℤ → ℤ → ℕ
quotient_word mode n d = if unsigned_abs d == 0 then quotient_by_zero mode n else modulo (int_div n d)

abbrev pub remainder_word : ℤ → ℤ → ℕ
remainder_word n d = if unsigned_abs d == 0 then modulo n else modulo (int_rem n d)

-- a division is done: its results stand in the registers, and none runs
abbrev pub division_finished : DividerState → DividerState
division_finished s =
    let n = dividend s.mode s.numerator in
    let d = divisor s.mode s.denominator in
    record s { quotient = quotient_word s.mode n d; remainder = remainder_word n d; due = None }

-- its results are those of the numerator and the denominator
abbrev pub HoldsResults : DividerState → Type 0
HoldsResults s = AreResults s.mode (dividend s.mode s.numerator) (divisor s.mode s.denominator) s.quotient s.remainder

-- what the registers show: the busy flag while a division runs, and the zero flag by the whole denominator, whatever the mode
-- (GBATEK, "DS Maths", DIVCNT bits 14 and 15)
abbrev pub divider_seen : DividerState → Quotient
divider_seen s = record {
  mode = s.mode;
  numerator = s.numerator;
  denominator = s.denominator;
  quotient = s.quotient;
  remainder = s.remainder;
  busy = is_some s.due;
  zero = s.denominator == 0;
}
