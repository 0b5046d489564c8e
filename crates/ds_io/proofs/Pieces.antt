use Rattle.std.proofs.Common.{ℕ, ◌≡◌, ◌<◌, suc, List, ◌++◌, length, take, drop, get_or, flat_map, sym, ◌∙◌, ap, append_assoc, take-append-drop}
use Rattle.std.proofs.Math.Seq.{drop-cons}
use Rattle.std.proofs.lemmas.List.Concat.{flat_map-append}

-- a list is its front and what is left
split : {X : Type 0} (xs : List X) (i : ℕ) → take i xs ++ drop i xs ≡ xs
split xs i = take-append-drop i xs

-- the pieces of a list: those so far, the next, and those after it
pub pieces : {X : Type 0} (f : X → List ℕ) (xs : List X) (i : ℕ) (d : X) → i < length xs → (flat_map f (take i xs) ++ f (get_or xs i d)) ++ flat_map f (drop (suc i) xs) ≡ flat_map f xs
pieces f xs i d lt =
    append_assoc (flat_map f (take i xs)) (f (get_or xs i d)) (flat_map f (drop (suc i) xs))
    ∙ ap (λ (x : List ℕ). flat_map f (take i xs) ++ x) (ap (flat_map f) (sym (drop-cons xs i d lt)))
    ∙ sym (flat_map-append f (take i xs) (drop i xs))
    ∙ ap (flat_map f) (split xs i)
