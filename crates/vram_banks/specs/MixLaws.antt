use Rattle.std.specs.Prelude.{ℕ, suc, Bool, if◌then◌else◌, List, [], ◌∷◌, drop, slice_index}

-- Bytes of two owners in one list.

-- one owner's bytes where a rule says that a place is his, and elsewhere another's; there are as many as the first has
unfoldable pub mixed : (ℕ → Bool) → List ℕ → List ℕ → List ℕ
mixed own [] others = []
mixed own (byte ∷ bytes) others = (if own 0 then byte else slice_index others 0) ∷ mixed (λ i. own (suc i)) bytes (drop 1 others)
