use Rattle.std.proofs.Common.{ℕ, ◌≡◌, ◌≤◌, Bool, true, List, ◌++◌, Result, Ok, Err, is_err, arith}
use Rattle.ds_io.specs.Faults.{Rose}
use Rattle.ds_io.specs.Sinks.{Appended, AppendedFront}
use Rattle.ds_io.proofs.SinkLemmas.{append_twice, front_after}
use Rattle.ds_io.specs.Puts.{Puts}

-- Bytes that are put one after another.

-- a fault of a part of a call is one of the call
pub rose_within : (a b c : ℕ) → a ≤ b → Rose b c → Rose a c
rose_within a b c le rose = omega (arith, le, rose)

-- some bytes, and then more
pub puts_then : {S E : Type 0} (tells : S → Bool) (taken : S → List ℕ → Type 0) (faults : S → ℕ) (a b : List ℕ) (old mid new : S) (result : Result (Unit {0}) E)
    → Appended tells taken old mid a → faults old ≤ faults mid → Puts tells taken faults b result mid new → Puts tells taken faults (a ++ b) result old new
puts_then tells taken faults a b old mid new (Ok done) first le second =
    let more : faults mid ≤ faults new = second.1 in
    (append_twice tells taken old mid new a b first second.0, omega (arith, le, more))
puts_then tells taken faults a b old mid new (Err fault) first le second =
    let more : faults mid ≤ faults new = second.2 in
    (front_after tells taken old mid new a b first second.0, rose_within (faults old) (faults mid) (faults new) le second.1, omega (arith, le, more))

-- where a call failed, a front was put
pub puts_failed : {S E : Type 0} (tells : S → Bool) (taken : S → List ℕ → Type 0) (faults : S → ℕ) (bytes : List ℕ) (old new : S) (result : Result (Unit {0}) E)
    → Puts tells taken faults bytes result old new → is_err result ≡ true → AppendedFront tells taken old new bytes × Rose (faults old) (faults new)
puts_failed tells taken faults bytes old new (Ok done) put failed = cc
puts_failed tells taken faults bytes old new (Err fault) put failed = (put.0, put.1)
