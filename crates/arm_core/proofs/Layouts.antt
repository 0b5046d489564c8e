use Rattle.std.proofs.Common.{◌≡◌, ℕ, ◌+◌, List, [], ◌∷◌, ◌++◌, length, set, drop, ◌∙◌, ap, subst, append-nil, arith}
use Rattle.std.proofs.lemmas.List.{set-append_right, append_assoc}
use Rattle.std.proofs.Math.Seq.{take-append-add, drop-append-add}
use borrow.Rule.Slice.PartMut.{put_mid}

-- five words behind so many and two others
pub laid_at : (general saved rest : List ℕ) (pc cpsr : ℕ)
    → put_mid (length general + 2) 5 (general ++ pc ∷ cpsr ∷ rest) saved ≡ general ++ pc ∷ cpsr ∷ (saved ++ drop 5 rest)
laid_at general saved rest pc cpsr =
    rw (take-append-add general (pc ∷ cpsr ∷ rest) 2, drop-append-add general (pc ∷ cpsr ∷ rest) 2)
    (append_assoc general (pc ∷ cpsr ∷ []) (saved ++ drop 5 rest))

-- 30 words, two, and five
pub laid : (general saved : List ℕ) (pc cpsr : ℕ) → length general ≡ 30
    → put_mid 32 5 (set (set (general ++ 0 ∷ 0 ∷ 0 ∷ 0 ∷ 0 ∷ 0 ∷ 0 ∷ []) 30 pc) 31 cpsr) saved ≡ general ++ pc ∷ cpsr ∷ saved
laid general saved pc cpsr g =
    let first : set (general ++ 0 ∷ 0 ∷ 0 ∷ 0 ∷ 0 ∷ 0 ∷ 0 ∷ []) 30 pc ≡ general ++ pc ∷ 0 ∷ 0 ∷ 0 ∷ 0 ∷ 0 ∷ 0 ∷ [] =
    set-append_right general (0 ∷ 0 ∷ 0 ∷ 0 ∷ 0 ∷ 0 ∷ 0 ∷ []) 30 30 pc g (omega arith) in
    let second : set (general ++ pc ∷ 0 ∷ 0 ∷ 0 ∷ 0 ∷ 0 ∷ 0 ∷ []) 31 cpsr ≡ general ++ pc ∷ cpsr ∷ 0 ∷ 0 ∷ 0 ∷ 0 ∷ 0 ∷ [] =
    set-append_right general (pc ∷ 0 ∷ 0 ∷ 0 ∷ 0 ∷ 0 ∷ 0 ∷ []) 30 31 cpsr g (omega arith) in
    let e : length general + 2 ≡ 32 = omega arith in
    let behind : put_mid 32 5 (general ++ pc ∷ cpsr ∷ 0 ∷ 0 ∷ 0 ∷ 0 ∷ 0 ∷ []) saved ≡ general ++ pc ∷ cpsr ∷ (saved ++ []) =
    (let P : ℕ → Type 0 = λ n. put_mid n 5 (general ++ pc ∷ cpsr ∷ 0 ∷ 0 ∷ 0 ∷ 0 ∷ 0 ∷ []) saved ≡ general ++ pc ∷ cpsr ∷ (saved ++ [])
    in subst P e (laid_at general saved (0 ∷ 0 ∷ 0 ∷ 0 ∷ 0 ∷ []) pc cpsr)) in
    rw (first, second) (behind ∙ ap (λ (l : List ℕ). general ++ pc ∷ cpsr ∷ l) (append-nil saved))
