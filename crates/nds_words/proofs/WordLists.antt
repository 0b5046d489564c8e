use Rattle.std.proofs.Common.{ℕ, ◌≡◌, ◌<◌, List, [], ◌∷◌, length, get_or, map, refl, sym, ◌∙◌, ap, arith, Bool, ◌↔◌, IsTrue, Option, Some, None}
use Rattle.std.specs.Str.{bytes_eq}
use Rattle.std.proofs.lemmas.List.{length-map, get_or-map}
use Rattle.std.proofs.lemmas.Slice.Eq.{bytes_eq-Decides}
use Rattle.nds_words.specs.Inside.{AreOf}
use Rattle.nds_words.specs.Words.{IsName, IsScriptName, keys_word}

-- words that have a command's name and are as many as it has
pub are_of_texts : {X : Type 0} (f : X → List ℕ) (xs : List X) (name : List ℕ) (count : ℕ) (v : X) (answer : Bool) → 0 < count → length xs ≡ count → v ≡ get_or xs 0 v
    → answer ≡ bytes_eq (f v) name → IsTrue answer ↔ AreOf name count (map f xs)
are_of_texts f xs name count v answer some long is same =
    let first : get_or (map f xs) 0 [] ≡ f v = get_or-map f xs 0 v [] (omega (arith, some, long)) ∙ ap f (sym is) in (
      λ t. (length-map xs f ∙ long, first ∙ (bytes_eq-Decides (f v) name).0 (sym same ∙ t)),
      λ a. same ∙ (bytes_eq-Decides (f v) name).1 (sym first ∙ a.1),
    )

-- their list, by the words after the first
pub three_of : {X : Type 0} (f : X → List ℕ) (xs : List X) (name : List ℕ) (b c : X) → AreOf name 3 (map f xs) → b ≡ get_or xs 1 b → c ≡ get_or xs 2 c → map f xs ≡ name ∷ f b ∷ f c ∷ []
three_of f [] name b c h q r = absurd (omega (arith, h.0))
three_of f (v ∷ []) name b c h q r = absurd (omega (arith, h.0))
three_of f (v ∷ w ∷ []) name b c h q r = absurd (omega (arith, h.0))
three_of f (v ∷ w ∷ x ∷ []) name b c h q r = rw (sym h.1, q, r) refl
three_of f (v ∷ w ∷ x ∷ u ∷ rest) name b c h q r = absurd (omega (arith, h.0))

pub four_of : {X : Type 0} (f : X → List ℕ) (xs : List X) (name : List ℕ) (b c d : X) → AreOf name 4 (map f xs) → b ≡ get_or xs 1 b → c ≡ get_or xs 2 c → d ≡ get_or xs 3 d
    → map f xs ≡ name ∷ f b ∷ f c ∷ f d ∷ []
four_of f [] name b c d h q r s = absurd (omega (arith, h.0))
four_of f (v ∷ []) name b c d h q r s = absurd (omega (arith, h.0))
four_of f (v ∷ w ∷ []) name b c d h q r s = absurd (omega (arith, h.0))
four_of f (v ∷ w ∷ x ∷ []) name b c d h q r s = absurd (omega (arith, h.0))
four_of f (v ∷ w ∷ x ∷ y ∷ []) name b c d h q r s = rw (sym h.1, q, r, s) refl
four_of f (v ∷ w ∷ x ∷ y ∷ u ∷ rest) name b c d h q r s = absurd (omega (arith, h.0))

-- the word for keys may name a file
pub keys_named : (keys : Option (List ℕ)) → IsScriptName keys → IsName (keys_word keys)
keys_named None allowed = (omega arith, omega arith)
keys_named (Some name) allowed = allowed.0
