use Rattle.nds_plays.proofs.Words.{List, [], ap, append-nil, sym, ℕ, ◌++◌, ◌∙◌, ◌∷◌, ◌≡◌}

-- The record of a machine's last whole frame.

-- a frame's record by its head and its pixels
pub frame_split : (tick long pixels : List ℕ) → tick ≡ long → (70 ∷ (tick ++ [])) ++ pixels ≡ 70 ∷ (long ++ (pixels ++ []))
frame_split tick long pixels e =
    ap (λ (x : List ℕ). 70 ∷ x) (ap (λ (x : List ℕ). x ++ pixels) (append-nil tick ∙ e) ∙ ap (λ (x : List ℕ). long ++ x) (sym (append-nil pixels)))
