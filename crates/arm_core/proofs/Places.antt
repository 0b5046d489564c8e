use Rattle.std.proofs.Common.{ℕ, zero, suc, ◌≡◌, List, [], ◌∷◌, ◌++◌, refl, arith, slice_index_or}
use Rattle.arm_core.specs.declared.banks.Bank.{Bank}
use Rattle.arm_core.specs.Registers.{place, places}

-- a 0 behind a list is what is read past its end
ended : (xs : List ℕ) (r : ℕ) → slice_index_or (xs ++ 0 ∷ []) r 0 ≡ slice_index_or xs r 0
ended [] zero = refl
ended [] (suc r) = refl
ended (x ∷ xs) zero = refl
ended (x ∷ xs) (suc r) = ended xs r

-- r0 to r7 in front of the places of r8 to r14
pub whole_row : (b : Bank) (r : ℕ) → slice_index_or (0 ∷ 1 ∷ 2 ∷ 3 ∷ 4 ∷ 5 ∷ 6 ∷ 7 ∷ (places b ++ 0 ∷ [])) r 0 ≡ place b r
whole_row b zero = refl
whole_row b (suc zero) = refl
whole_row b (suc (suc zero)) = refl
whole_row b (suc (suc (suc zero))) = refl
whole_row b (suc (suc (suc (suc zero)))) = refl
whole_row b (suc (suc (suc (suc (suc zero))))) = refl
whole_row b (suc (suc (suc (suc (suc (suc zero)))))) = refl
whole_row b (suc (suc (suc (suc (suc (suc (suc zero))))))) = refl
whole_row b (suc (suc (suc (suc (suc (suc (suc (suc r)))))))) = grind (arith, ended (places b) r)
