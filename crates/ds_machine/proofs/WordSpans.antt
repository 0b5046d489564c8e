use Rattle.ds_machine.proofs.Words.{Bool, MachineState, Nine, Proc, Seven, ap, arith, false, is_private_to, list_all, nine_reach, refl, seven_reach}
use Rattle.ds_machine.proofs.Words.{span, suc, sym, tick_of, true, ℕ, ◌%◌, ◌&&◌, ◌*◌, ◌+◌, ◌-◌, ◌/◌, ◌<◌, ◌^◌, ◌∙◌, ◌≡◌}
use Rattle.ds_machine.proofs.PlacesByWords.{nine_by_words, seven_by_words}

-- A span of whole words is asked word by word, where the four bytes of each answer the same.

abbrev pub GoesByWord : (ℕ → Bool) → Type 0
GoesByWord p = (a b : ℕ) → a / 4 ≡ b / 4 → p a ≡ p b

pub private_by_word : (s : MachineState) (proc : Proc) (writing fetching : Bool) → GoesByWord (is_private_to s proc writing fetching)
private_by_word s Nine writing fetching a b e = nine_by_words.same (nine_reach (tick_of s.nine.processor) s) writing fetching a b e
private_by_word s Seven writing fetching a b e = seven_by_words.same (seven_reach (tick_of s.seven.processor) s) writing fetching a b e

four_times : (t rest : Bool) → (t && (t && (t && (t && rest)))) ≡ (t && rest)
four_times true rest = refl
four_times false rest = refl

word_on : (p : ℕ → Bool) → GoesByWord p → (n m : ℕ) → n % 4 ≡ 0
    → list_all p (span n (suc (suc (suc (suc m))))) ≡ (p (n % 2 ^ 32) && list_all p (span (n + 4) m))
word_on p by n m aligned =
    let same : (k : ℕ) → k < 4 → p ((n + k) % 2 ^ 32) ≡ p (n % 2 ^ 32) = λ k lt. by ((n + k) % 2 ^ 32) (n % 2 ^ 32) (omega (arith, aligned, lt)) in
    let t = p (n % 2 ^ 32) in
    let rest = list_all p (span (n + 1 + 1 + 1 + 1) m) in
    let b = p ((n + 1) % 2 ^ 32) in
    let c = p ((n + 1 + 1) % 2 ^ 32) in
    let d = p ((n + 1 + 1 + 1) % 2 ^ 32) in
    let two : n + 1 + 1 ≡ n + 2 = omega arith in
    let three : n + 1 + 1 + 1 ≡ n + 3 = omega arith in
    let all : n + 1 + 1 + 1 + 1 ≡ n + 4 = omega arith in
    ap (λ (x : Bool). t && (x && (c && (d && rest)))) (same 1 (omega arith))
    ∙ ap (λ (x : Bool). t && (t && (x && (d && rest)))) (ap (λ (k : ℕ). p (k % 2 ^ 32)) two ∙ same 2 (omega arith))
    ∙ ap (λ (x : Bool). t && (t && (t && (x && rest)))) (ap (λ (k : ℕ). p (k % 2 ^ 32)) three ∙ same 3 (omega arith))
    ∙ four_times t rest
    ∙ ap (λ (k : ℕ). t && list_all p (span k m)) all

module _ (p : ℕ → Bool) (by : GoesByWord p) (first i count : ℕ) (lt : i < count) (aligned : first % 4 ≡ 0) where
  next : list_all p (span (first + 4 * i) (4 * (count - i))) ≡ (p ((first + 4 * i) % 2 ^ 32) && list_all p (span (first + 4 * (i + 1)) (4 * (count - (i + 1)))))
  next =
      let left : 4 * (count - i) ≡ suc (suc (suc (suc (4 * (count - (i + 1)))))) = omega (arith, lt) in
      let on : first + 4 * i + 4 ≡ first + 4 * (i + 1) = omega arith in
      ap (λ (n : ℕ). list_all p (span (first + 4 * i) n)) left
      ∙ word_on p by (first + 4 * i) (4 * (count - (i + 1))) (omega (arith, aligned))
      ∙ ap (λ (n : ℕ). p ((first + 4 * i) % 2 ^ 32) && list_all p (span n (4 * (count - (i + 1))))) on

  pub word_more : p ((first + 4 * i) % 2 ^ 32) ≡ true
      → list_all p (span (first + 4 * (i + 1)) (4 * (count - (i + 1)))) ≡ list_all p (span (first + 4 * i) (4 * (count - i)))
  word_more h = sym (next ∙ ap (λ (t : Bool). t && list_all p (span (first + 4 * (i + 1)) (4 * (count - (i + 1))))) h)

  pub word_ends : p ((first + 4 * i) % 2 ^ 32) ≡ false → list_all p (span (first + 4 * i) (4 * (count - i))) ≡ false
  word_ends h = next ∙ ap (λ (t : Bool). t && list_all p (span (first + 4 * (i + 1)) (4 * (count - (i + 1))))) h
