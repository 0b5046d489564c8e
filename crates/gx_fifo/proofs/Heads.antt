use Rattle.gx_fifo.proofs.Words.{GxEntry, List, None, Some, [], append_assoc, arith, drop, map, none-some, option_map, refl, slice_get, suc, sym}
use Rattle.gx_fifo.proofs.Words.{take, zero, ℕ, ◌++◌, ◌∙◌, ◌∷◌, ◌≡◌}

-- Words are taken one after another: the next one goes over to those that were taken.

pub next_goes : (words all : List ℕ) (word m : ℕ) (es : List GxEntry) →
    words ++ map (λ (e : GxEntry). e.word) (take (suc m) es) ≡ all → Some word ≡ option_map (λ (e : GxEntry). e.word) (slice_get es 0) →
    (words ++ word ∷ []) ++ map (λ (e : GxEntry). e.word) (take m (drop 1 es)) ≡ all
next_goes words all word m [] taken next = absurd (none-some word (sym next))
next_goes words all word m (e ∷ es) taken next =
    append_assoc words (word ∷ []) (map (λ (e : GxEntry). e.word) (take m es)) ∙ grind (arith, taken, next)

pub none_goes : (words all : List ℕ) (m : ℕ) (es : List GxEntry) →
    words ++ map (λ (e : GxEntry). e.word) (take (suc m) es) ≡ all → None ≡ option_map (λ (e : GxEntry). e.word) (slice_get es 0) →
    words ++ map (λ (e : GxEntry). e.word) (take m (drop 1 es)) ≡ all
none_goes words all zero [] taken next = taken
none_goes words all (suc m) [] taken next = taken
none_goes words all m (e ∷ es) taken next = absurd (none-some e.word next)

pub rest_goes : (m : ℕ) (es : List GxEntry) → drop (suc m) es ≡ drop m (drop 1 es)
rest_goes zero [] = refl
rest_goes (suc m) [] = refl
rest_goes m (e ∷ es) = refl
