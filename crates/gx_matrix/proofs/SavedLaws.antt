use Rattle.std.proofs.Common.{rules, ℕ, zero, suc, ℤ, pos, FitsSigned, ◌≡◌, ◌<◌, Bool, true, false, List, [], ◌∷◌, length, map, slice_index_or, refl, arith}
use Rattle.std.specs.Int.{w32}
use Rattle.std.specs.List.{AllByRecursion}
use Rattle.std.proofs.lemmas.List.{length-map}
use Rattle.ds_state.specs.Formats.{signed_format}
use Rattle.ds_state.proofs.Standing.{IsExact, StandsFor}
use Rattle.ds_state.proofs.Exact.{one_spelling, round_trips}
use Rattle.line_lanes.specs.declared.matrices.Matrix.{Matrix}
use Rattle.gx_matrix.specs.Commands.{StacksState, mode_of, zero_pose}
use Rattle.gx_matrix.specs.declared.currents.Mode.{Mode}
use Rattle.gx_matrix.specs.declared.currents.Mode.TheVariants.{Projection, Position, PositionAndVector, Texture}
use Rattle.gx_matrix.specs.declared.currents.Pose.{Pose}
use Rattle.gx_matrix.specs.Saved.{StacksAreSaved, AreStacks, IsMatrix, IsPose, matrix_format, mode_number, pose_half, stacks_format}
use Rattle.gx_matrix.proofs.Poses.{paired_again, positions_of, vectors_of}

-- What the matrices and their stacks owe of their format.

signed_exact : (at : ℕ) → IsExact signed_format at
signed_exact at = λ w _ _. (refl, tt)

matrix_exact : (at : ℕ) → IsExact matrix_format at
unfolding matrix_format
matrix_exact at = (signed_exact at, λ cells long _. search rules)

mode_again : (mode : Mode) → mode_of (mode_number mode) ≡ mode
mode_again Projection = refl
mode_again Position = refl
mode_again PositionAndVector = refl
mode_again Texture = refl

number_of_mode : (n : ℕ) → n < 4 → mode_number (mode_of n) ≡ n
number_of_mode zero h = refl
number_of_mode (suc zero) h = refl
number_of_mode (suc (suc zero)) h = refl
number_of_mode (suc (suc (suc zero))) h = refl
number_of_mode (suc (suc (suc (suc n)))) h = absurd (omega (arith, h))

pub stacks_exact : (at : ℕ) → IsExact stacks_format at
unfolding stacks_format
stacks_exact at = λ mode _ small level _ _ projection_pushed _ _ texture_pushed _ _ error _ _. (
  matrix_exact at,
  λ projection _. (
    matrix_exact at,
    λ position _. (
      matrix_exact at,
      λ vector _. (
        matrix_exact at,
        λ texture _. (
          matrix_exact at,
          λ positions long _. (
            matrix_exact at,
            λ vectors as_long _. (
              matrix_exact at,
              λ projection_stored _. (
                matrix_exact at,
                λ texture_stored _.
                    let few : mode < 4 = grind (arith, small) in
                    let number = number_of_mode mode few in
                    let firsts = positions_of 31 positions vectors long as_long in
                    let seconds = vectors_of 31 positions vectors long as_long in
                    search rules,
              ),
            ),
          ),
        ),
      ),
    ),
  ),
)

words_stand : (at : ℕ) (ws : List ℤ) → ((i : ℕ) → i < length ws → FitsSigned w32 (slice_index_or ws i (pos 0)))
    → AllByRecursion (StandsFor signed_format at) ws
words_stand at [] h = tt
words_stand at (w ∷ ws) h = (((h 0 (omega arith), refl, tt), refl), words_stand at ws (λ i lt. h (suc i) (omega (arith, lt))))

matrix_stands : (at : ℕ) (m : Matrix) → IsMatrix m → StandsFor matrix_format at m
unfolding matrix_format
matrix_stands at m is =
    let sixteen = is.sixteen in
    let words = words_stand at m.cells (λ i lt. is.words i (omega (arith, lt, sixteen))) in
    (search rules, refl)

halves_stand : (at : ℕ) (vector : Bool) (poses : List Pose) → ((i : ℕ) → i < length poses → IsPose (slice_index_or poses i zero_pose))
    → AllByRecursion (StandsFor matrix_format at) (map (pose_half vector) poses)
halves_stand at vector [] h = tt
halves_stand at false (p ∷ poses) h =
    let p0 = h 0 (omega arith) in (matrix_stands at p.position p0.position, halves_stand at false poses (λ i lt. h (suc i) (omega (arith, lt))))
halves_stand at true (p ∷ poses) h =
    let p0 = h 0 (omega arith) in (matrix_stands at p.vector p0.vector, halves_stand at true poses (λ i lt. h (suc i) (omega (arith, lt))))

long_halves : (vector : Bool) (poses : List Pose) (n : ℕ) → length poses ≡ n → length (map (pose_half vector) poses) ≡ n
long_halves vector poses n h = rw length-map h

few_modes : (mode : Mode) → mode_number mode < 4
few_modes Projection = omega arith
few_modes Position = omega arith
few_modes PositionAndVector = omega arith
few_modes Texture = omega arith

pub stacks_stand : (at : ℕ) (s : StacksState) → AreStacks s → StandsFor stacks_format at s
unfolding stacks_format
stacks_stand at s are =
    let few = few_modes s.mode in
    let level = are.level in
    let projection = matrix_stands at s.projection.current are.projection in
    let projection_stored = matrix_stands at s.projection.stored are.projection_stored in
    let texture = matrix_stands at s.texture.current are.texture in
    let texture_stored = matrix_stands at s.texture.stored are.texture_stored in
    let position = matrix_stands at s.pose.position are.pose.position in
    let vector = matrix_stands at s.pose.vector are.pose.vector in
    let places = are.places in
    let firsts = long_halves false s.poses 31 places in
    let seconds = long_halves true s.poses 31 places in
    let positions = halves_stand at false s.poses (λ i lt. are.poses i (omega (arith, lt, places))) in
    let vectors = halves_stand at true s.poses (λ i lt. are.poses i (omega (arith, lt, places))) in
    let mode = mode_again s.mode in
    let again = paired_again s.poses in
    (search rules, rw (mode, again) refl)

pub stacks_saved : StacksAreSaved
stacks_saved = record {
  back = λ at s are. round_trips stacks_format at s (stacks_stand at s are);
  spelling = λ at. one_spelling stacks_format at (stacks_exact at);
}
