-- What is put after other bytes are the state's bytes.
use Rattle.std.proofs.Common.{◌≡◌, ℕ, List, [], ◌∷◌, ◌++◌, ap, sym, ◌∙◌, append_assoc}
use Rattle.std.proofs.lemmas.List.{append-nil}
use Rattle.ds_state.specs.Formats.{Format, done, then_field, then_part, list, code_bytes, bytes_written, written_each}
use Rattle.ds_state.proofs.Spelled.{bytes_of, bytes_each}

each_after : {T : Type 0} (write : List ℕ → T → List ℕ) (bytes : T → List ℕ) → ((before : List ℕ) (t : T) → write before t ≡ before ++ bytes t)
    → (before : List ℕ) (ts : List T) → written_each write before ts ≡ before ++ bytes_each bytes ts
each_after write bytes h before [] = sym (append-nil before)
each_after write bytes h before (t ∷ ts) = each_after write bytes h (write before t) ts ∙ ap (λ (b : List ℕ). b ++ bytes_each bytes ts) (h before t) ∙ simp append_assoc

pub written_after : {S A : Type 0} (f : Format S A) (before : List ℕ) (s : S) → bytes_written f before s ≡ before ++ bytes_of f s
written_after (done a) before s = sym (append-nil before)
written_after (then_field c get rule next) before s = written_after (next (get s)) (before ++ code_bytes c (get s)) s ∙ simp append_assoc
written_after (then_part f get next) before s =
    written_after (next (get s)) (bytes_written f before (get s)) s ∙ ap (λ (b : List ℕ). b ++ bytes_of (next (get s)) s) (written_after f before (get s)) ∙ simp append_assoc
written_after (list n f get next) before s =
    written_after (next (get s)) (written_each (bytes_written f) before (get s)) s
    ∙ ap (λ (b : List ℕ). b ++ bytes_of (next (get s)) s) (each_after (bytes_written f) (bytes_of f) (λ b t. written_after f b t) before (get s)) ∙ simp append_assoc
