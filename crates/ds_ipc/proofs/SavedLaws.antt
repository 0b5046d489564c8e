use Rattle.std.proofs.Common.{rules, ℕ, zero, suc, ◌≡◌, ◌<◌, ◌≤◌, ◌+◌, ◌*◌, ◌/◌, ◌%◌, ◌^◌, ◌==◌, Bool, true, false, List, [], ◌∷◌, length, bit_and, refl, sym, ◌∙◌, ap, arith}
use Rattle.std.specs.List.{AllByRecursion}
use Rattle.std.proofs.lemmas.List.Elements.{recursion_from_All}
use Rattle.std.specs.Int.Bits.{and_zero_r}
use Rattle.ds_base.specs.Bits.{bit, flag}
use Rattle.ds_base.proofs.Choices.{equal, is_equal}
use Rattle.ds_ipc.specs.Ipcs.{AreSides, IpcState}
use Rattle.ds_ipc.specs.Saved.{SidesAreSaved, ipc_format, saved_control, side_format, with_words}
use Rattle.ds_ipc.specs.Sides.{IsSide, Side}
use Rattle.ds_state.proofs.Exact.{one_spelling, round_trips}
use Rattle.ds_state.proofs.Masks.{kept_top}
use Rattle.ds_state.specs.Formats.{word_format}
use Rattle.ds_state.proofs.Standing.{IsExact, StandsFor}

-- What both sides owe of their formats.

plus_none : (n : ℕ) → n + 0 ≡ n
plus_none n = omega arith

-- a control that has only the kept bits is these bits
four_bits : (control : ℕ) → bit_and control 0xC404 ≡ control / 2 ^ 14 % 2 ^ 2 * 2 ^ 14 + (control / 2 ^ 10 % 2 ^ 1 * 2 ^ 10 + control / 2 ^ 2 % 2 ^ 1 * 2 ^ 2)
four_bits control =
    kept_top control 14 2 0x404 (omega arith)
    ∙ ap (λ (x : ℕ). control / 2 ^ 14 % 2 ^ 2 * 2 ^ 14 + x) (kept_top control 10 1 4 (omega arith)
    ∙ ap (λ (x : ℕ). control / 2 ^ 10 % 2 ^ 1 * 2 ^ 10 + x) (kept_top control 2 1 0 (omega arith)
    ∙ ap (λ (x : ℕ). control / 2 ^ 2 % 2 ^ 1 * 2 ^ 2 + x) (and_zero_r control) ∙ plus_none (control / 2 ^ 2 % 2 ^ 1 * 2 ^ 2)))

flag_of_bit : (n word : ℕ) → flag n (bit n word) ≡ word / 2 ^ n % 2 * 2 ^ n
flag_of_bit n word = by_bit (word / 2 ^ n % 2) (omega arith) where
  by_bit : (b : ℕ) → b < 2 → flag n (b == 1) ≡ b * 2 ^ n
  by_bit zero l = omega arith
  by_bit (suc zero) l = omega arith
  by_bit (suc (suc b)) l = absurd (omega (arith, l))

control_again : (control : ℕ) → (bit_and control 0xC404 == control) ≡ true
    → flag 2 (bit 2 control) + flag 10 (bit 10 control) + flag 15 (bit 15 control) + flag 14 (bit 14 control) ≡ control
control_again control rule =
    let kept = equal _ _ rule in let four = four_bits control in
    let a = flag_of_bit 2 control in let b = flag_of_bit 10 control in let c = flag_of_bit 14 control in let d = flag_of_bit 15 control in
    omega (arith, kept, four, a, b, c, d)

word_exact : (at : ℕ) → IsExact word_format at
word_exact at = λ w _ _. (refl, tt)

side_exact : (at : ℕ) → IsExact side_format at
unfolding side_format
side_exact at = λ passed _ _ sync _ _ control _ rule last _ _ count _ _. (word_exact at, λ words long _. (let again = control_again control rule in search rules))

pub ipc_exact : (at : ℕ) → IsExact ipc_format at
unfolding ipc_format
ipc_exact at = (side_exact at, λ nine _. (side_exact at, λ seven _. (refl, (refl, tt))))

words_stand : (at : ℕ) (words : List ℕ) → AllByRecursion (λ word. word < 2 ^ 32) words → AllByRecursion (StandsFor word_format at) words
words_stand at [] h = tt
words_stand at (word ∷ words) h = (((h.0, refl, tt), refl), words_stand at words h.1)

-- a control that is made of four bits has them, and no others
record HasBits (word : ℕ) (a b c d : Bool) : Type 0 where
  kept : (bit_and word 0xC404 == word) ≡ true
  empty : bit 2 word ≡ a
  filled : bit 10 word ≡ b
  enabled : bit 15 word ≡ c
  error : bit 14 word ≡ d
  small : word < 2 ^ 16

has_bits : (a b c d : Bool) → HasBits (flag 2 a + flag 10 b + flag 15 c + flag 14 d) a b c d
has_bits true true true true = record { kept = refl; empty = refl; filled = refl; error = refl; enabled = refl; small = omega arith }
has_bits true true true false = record { kept = refl; empty = refl; filled = refl; error = refl; enabled = refl; small = omega arith }
has_bits true true false true = record { kept = refl; empty = refl; filled = refl; error = refl; enabled = refl; small = omega arith }
has_bits true true false false = record { kept = refl; empty = refl; filled = refl; error = refl; enabled = refl; small = omega arith }
has_bits true false true true = record { kept = refl; empty = refl; filled = refl; error = refl; enabled = refl; small = omega arith }
has_bits true false true false = record { kept = refl; empty = refl; filled = refl; error = refl; enabled = refl; small = omega arith }
has_bits true false false true = record { kept = refl; empty = refl; filled = refl; error = refl; enabled = refl; small = omega arith }
has_bits true false false false = record { kept = refl; empty = refl; filled = refl; error = refl; enabled = refl; small = omega arith }
has_bits false true true true = record { kept = refl; empty = refl; filled = refl; error = refl; enabled = refl; small = omega arith }
has_bits false true true false = record { kept = refl; empty = refl; filled = refl; error = refl; enabled = refl; small = omega arith }
has_bits false true false true = record { kept = refl; empty = refl; filled = refl; error = refl; enabled = refl; small = omega arith }
has_bits false true false false = record { kept = refl; empty = refl; filled = refl; error = refl; enabled = refl; small = omega arith }
has_bits false false true true = record { kept = refl; empty = refl; filled = refl; error = refl; enabled = refl; small = omega arith }
has_bits false false true false = record { kept = refl; empty = refl; filled = refl; error = refl; enabled = refl; small = omega arith }
has_bits false false false true = record { kept = refl; empty = refl; filled = refl; error = refl; enabled = refl; small = omega arith }
has_bits false false false false = record { kept = refl; empty = refl; filled = refl; error = refl; enabled = refl; small = omega arith }

side_stands : (at : ℕ) (s : Side) → IsSide s → StandsFor side_format at s
unfolding side_format
side_stands at s is =
    let has = has_bits s.empty_raises s.filled_raises s.enabled s.error in
    let kept = has.kept in let small = has.small in
    let passed = is.passed in let last = is.last in let few = is.at_most in
    let words = words_stand at s.words (recursion_from_All (λ word. word < 2 ^ 32) s.words is.words) in
    (search rules, rw (has.empty, has.filled, has.error, has.enabled) refl)

-- a side with the other's words is a side
crossed : (own other : Side) → IsSide own → IsSide other → IsSide (with_words own other.words)
crossed own other is there = record { at_most = there.at_most; words = there.words; passed = is.passed; last = is.last }

pub ipc_stands : (at : ℕ) (s : IpcState) → AreSides s → StandsFor ipc_format at s
unfolding ipc_format
ipc_stands at s are =
    ((side_stands at _ (crossed s.nine s.seven are.nine are.seven), (side_stands at _ (crossed s.seven s.nine are.seven are.nine), tt)), refl)

pub sides_saved : SidesAreSaved
sides_saved = record {
  back = λ at s are. round_trips ipc_format at s (ipc_stands at s are);
  spelling = λ at. one_spelling ipc_format at (ipc_exact at);
}
