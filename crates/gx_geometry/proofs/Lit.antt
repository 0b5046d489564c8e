use Rattle.gx_geometry.proofs.Words.{Light, [], arith, no_light, slice_index_or, suc, zero, ℕ, ◌<◌, ◌^◌, ◌∷◌}

-- Four lights with colours of fifteen bits.
pub four_lights : (a b c d : Light) → a.colour < 2 ^ 15 → b.colour < 2 ^ 15 → c.colour < 2 ^ 15 → d.colour < 2 ^ 15
    → (i : ℕ) → (slice_index_or (a ∷ b ∷ c ∷ d ∷ []) i no_light).colour < 2 ^ 15
four_lights a b c d p q r s zero = p
four_lights a b c d p q r s (suc zero) = q
four_lights a b c d p q r s (suc (suc zero)) = r
four_lights a b c d p q r s (suc (suc (suc zero))) = s
four_lights a b c d p q r s (suc (suc (suc (suc i)))) = omega arith
