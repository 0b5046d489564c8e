use Rattle.std.proofs.Common.{ℕ, zero, suc, ◌≡◌, ◌<◌, Bool, true, false, List, [], ◌∷◌, length, map, slice_set, slice_index_or, ap, refl, arith}
use Rattle.line_lanes.specs.declared.matrices.Matrix.{Matrix}
use Rattle.gx_matrix.specs.declared.currents.Pose.{Pose}
use Rattle.gx_matrix.specs.Saved.{pose_half, paired}

-- The stack of poses as its position and its vector matrices.

pub paired_again : (poses : List Pose) → paired (map (pose_half false) poses) (map (pose_half true) poses) ≡ poses
paired_again [] = refl
paired_again (p ∷ poses) = ap (λ (ps : List Pose). p ∷ ps) (paired_again poses)

pub positions_of : (n : ℕ) (positions vectors : List Matrix) → length positions ≡ n → length vectors ≡ n → map (pose_half false) (paired positions vectors) ≡ positions
positions_of n [] vectors a b = refl
positions_of zero (p ∷ positions) vectors a b = absurd (omega (arith, a))
positions_of (suc n) (p ∷ positions) [] a b = absurd (omega (arith, b))
positions_of (suc n) (p ∷ positions) (v ∷ vectors) a b =
    ap (λ (ps : List Matrix). p ∷ ps) (positions_of n positions vectors (omega (arith, a)) (omega (arith, b)))

pub vectors_of : (n : ℕ) (positions vectors : List Matrix) → length positions ≡ n → length vectors ≡ n → map (pose_half true) (paired positions vectors) ≡ vectors
vectors_of zero [] [] a b = refl
vectors_of zero [] (v ∷ vectors) a b = absurd (omega (arith, b))
vectors_of (suc n) [] vectors a b = absurd (omega (arith, a))
vectors_of zero (p ∷ positions) vectors a b = absurd (omega (arith, a))
vectors_of (suc n) (p ∷ positions) [] a b = absurd (omega (arith, b))
vectors_of (suc n) (p ∷ positions) (v ∷ vectors) a b =
    ap (λ (vs : List Matrix). v ∷ vs) (vectors_of n positions vectors (omega (arith, a)) (omega (arith, b)))

-- another pose in a place, with the same half
pub same_half : (vector : Bool) (poses : List Pose) (i : ℕ) (p d : Pose) → i < length poses → pose_half vector p ≡ pose_half vector (slice_index_or poses i d)
    → map (pose_half vector) (slice_set poses i p) ≡ map (pose_half vector) poses
same_half vector [] i p d lt e = refl
same_half vector (q ∷ poses) zero p d lt e = ap (λ (m : Matrix). m ∷ map (pose_half vector) poses) e
same_half vector (q ∷ poses) (suc i) p d lt e = ap (λ (ms : List Matrix). pose_half vector q ∷ ms) (same_half vector poses i p d (omega (arith, lt)) e)
