use Rattle.gx_fifo.proofs.Words.{AllByRecursion, GxEntry, List, MtxMode, [], arith, length, refl, slice_index_or, subst, suc, written_each, ℕ, ◌++◌}
use Rattle.gx_fifo.proofs.Words.{◌<◌, ◌^◌, ◌∷◌, ◌≡◌}

-- A list that is put in two pieces is put.
pub in_pieces : (write : List ℕ → GxEntry → List ℕ) (before : List ℕ) (front back : List GxEntry)
    → written_each write (written_each write before front) back ≡ written_each write before (front ++ back)
in_pieces write before [] back = refl
in_pieces write before (e ∷ front) back = in_pieces write (write before e) front back

-- What is known of each place of a list is known of all.
abbrev pub no_entry : GxEntry
no_entry = record { command = MtxMode; word = 0 }

pub all_words : (xs : List GxEntry) → ((i : ℕ) → i < length xs → (slice_index_or xs i no_entry).word < 2 ^ 32)
    → AllByRecursion (λ e. e.word < 2 ^ 32) xs
all_words [] h = tt
all_words (x ∷ xs) h = (h 0 (omega arith), all_words xs (λ i l. h (suc i) (omega (arith, l))))

both : (front back : List GxEntry) → AllByRecursion (λ e. e.word < 2 ^ 32) front → AllByRecursion (λ e. e.word < 2 ^ 32) back
    → AllByRecursion (λ e. e.word < 2 ^ 32) (front ++ back)
both [] back h k = k
both (e ∷ front) back h k = (h.0, both front back h.1 k)

pub both_words : (front back all : List GxEntry) → front ++ back ≡ all → AllByRecursion (λ e. e.word < 2 ^ 32) front
    → AllByRecursion (λ e. e.word < 2 ^ 32) back → AllByRecursion (λ e. e.word < 2 ^ 32) all
both_words front back all e h k = subst (AllByRecursion (λ (x : GxEntry). x.word < 2 ^ 32)) e (both front back h k)
