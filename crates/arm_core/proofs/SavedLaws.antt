use Rattle.std.proofs.Common.{rules, ℕ, zero, suc, ◌≡◌, ◌<◌, ◌≤◌, ◌^◌, ◌==◌, true, All, List, [], ◌∷◌, length, slice_index, bit_and, refl, subst, arith}
use Rattle.std.specs.Int.Bits.{and_le_r}
use Rattle.std.specs.List.{AllByRecursion}
use Rattle.ds_base.specs.declared.processors.Arch.{Arch}
use Rattle.ds_base.specs.declared.processors.Arch.TheVariants.{V4, V5}
use Rattle.ds_base.proofs.Choices.{is_equal}
use Rattle.ds_state.specs.Formats.{keeps_mask, word_format}
use Rattle.ds_state.proofs.Standing.{IsExact, StandsFor}
use Rattle.ds_state.proofs.Exact.{one_spelling, round_trips}
use Rattle.arm_core.specs.Registers.{RegisterState}
use Rattle.arm_core.specs.StatusRegisters.{kept_status_bits}
use Rattle.arm_core.specs.StatusLaws.{HasStatuses, IsStatus}
use Rattle.arm_core.specs.Saved.{AreRegisters, RegistersAreSaved, registers_format}

-- What a core owes of its format.

word_exact : (at : ℕ) → IsExact word_format at
word_exact at = λ w _ _. (refl, tt)

registers_exact : (arch : Arch) (at : ℕ) → IsExact (registers_format arch) at
unfolding registers_format
registers_exact arch at =
    (word_exact at, λ general long _ pc _ _ cpsr _ _ fiq _ _ supervisor _ _ abort _ _ irq _ _ undefined _ _. search rules)

words_stand : (at : ℕ) (ws : List ℕ) → ((i : ℕ) → i < length ws → slice_index ws i < 2 ^ 32) → AllByRecursion (StandsFor word_format at) ws
words_stand at [] h = tt
words_stand at (w ∷ ws) h = (((h 0 (omega arith), refl, tt), refl), words_stand at ws (λ i lt. h (suc i) (omega (arith, lt))))

five_again : (xs : List ℕ) → length xs ≡ 5
    → slice_index xs 0 ∷ slice_index xs 1 ∷ slice_index xs 2 ∷ slice_index xs 3 ∷ slice_index xs 4 ∷ [] ≡ xs
five_again [] h = absurd (omega (arith, h))
five_again (a ∷ []) h = absurd (omega (arith, h))
five_again (a ∷ b ∷ []) h = absurd (omega (arith, h))
five_again (a ∷ b ∷ c ∷ []) h = absurd (omega (arith, h))
five_again (a ∷ b ∷ c ∷ d ∷ []) h = absurd (omega (arith, h))
five_again (a ∷ b ∷ c ∷ d ∷ e ∷ []) h = refl
five_again (a ∷ b ∷ c ∷ d ∷ e ∷ f ∷ rest) h = absurd (omega (arith, h))

-- a status register's number is a word that keeps the mask
small_mask : (arch : Arch) → kept_status_bits arch < 2 ^ 32
small_mask V4 = omega arith
small_mask V5 = omega arith

status_small : (arch : Arch) (n : ℕ) → IsStatus arch n → n < 2 ^ 32
status_small arch n is =
    let small = small_mask arch in
    let le : n ≤ kept_status_bits arch = subst (λ (x : ℕ). x ≤ kept_status_bits arch) is (and_le_r n (kept_status_bits arch)) in
    omega (arith, small, le)

status_keeps : (arch : Arch) (at n : ℕ) → IsStatus arch n → keeps_mask (kept_status_bits arch) at n ≡ true
status_keeps arch at n is = is_equal _ _ is

-- each SPSR
saved_is : (arch : Arch) (xs : List ℕ) (n at : ℕ) → length xs ≡ n → at < n → All (IsStatus arch) xs → IsStatus arch (slice_index xs at)
saved_is arch xs n at long lt all = all at 0 (omega (arith, long, lt))

pub registers_stand : (arch : Arch) (at : ℕ) (s : RegisterState) → AreRegisters s → HasStatuses arch s → StandsFor (registers_format arch) at s
unfolding registers_format
registers_stand arch at s are has =
    let thirty = are.thirty in
    let general = words_stand at s.general (λ i lt. are.general i (omega (arith, lt, thirty))) in
    let pc = are.pc in
    let five = are.five in
    let fiq = saved_is arch s.saved 5 0 five (omega arith) has.saved in
    let supervisor = saved_is arch s.saved 5 1 five (omega arith) has.saved in
    let abort = saved_is arch s.saved 5 2 five (omega arith) has.saved in
    let irq = saved_is arch s.saved 5 3 five (omega arith) has.saved in
    let undefined = saved_is arch s.saved 5 4 five (omega arith) has.saved in
    let cpsr_small = status_small arch s.cpsr has.cpsr in let cpsr_keeps = status_keeps arch at s.cpsr has.cpsr in
    let fiq_small = status_small arch _ fiq in let fiq_keeps = status_keeps arch at _ fiq in
    let supervisor_small = status_small arch _ supervisor in let supervisor_keeps = status_keeps arch at _ supervisor in
    let abort_small = status_small arch _ abort in let abort_keeps = status_keeps arch at _ abort in
    let irq_small = status_small arch _ irq in let irq_keeps = status_keeps arch at _ irq in
    let undefined_small = status_small arch _ undefined in let undefined_keeps = status_keeps arch at _ undefined in
    let again = five_again s.saved five in
    (search rules, rw again refl)

pub registers_saved : RegistersAreSaved
registers_saved = record {
  back = λ arch at s are has. round_trips (registers_format arch) at s (registers_stand arch at s are has);
  spelling = λ arch at. one_spelling (registers_format arch) at (registers_exact arch at);
}
