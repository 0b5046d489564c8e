use Rattle.std.specs.Prelude.{ℕ, FitsSigned, ◌≡◌, ◌<◌, ◌≤◌, pos, slice_index_or, Bool, true, false, List, [], ◌∷◌, length, map}
use Rattle.std.specs.Int.{w32}
use Rattle.ds_state.specs.Formats.{Format, number_code, flag_code, done, ◌>>=◌, one_field, its, each, any, at_most, signed_format}
use Rattle.ds_state.specs.FormatLaws.{OneSpelling, RoundTrips}
use Rattle.line_lanes.specs.declared.matrices.Matrix.{Matrix}
use Rattle.gx_matrix.specs.Commands.{StacksState, zero_pose, mode_of}
use Rattle.gx_matrix.specs.declared.currents.Mode.{Mode}
use Rattle.gx_matrix.specs.declared.currents.Mode.TheVariants.{Projection, Position, PositionAndVector, Texture}
use Rattle.gx_matrix.specs.declared.currents.Pose.{Pose}

-- The matrices and their stacks in bytes: the mode's number, the three levels and the error; the current matrices; and what the stacks store.
-- A matrix is its sixteen cells, row by row, as signed words.

unfoldable pub matrix_format : Format Matrix Matrix
matrix_format = do
  cells ← each 16 signed_format (λ m. m.cells)
  done (record { cells = cells })

abbrev pub mode_number : Mode → ℕ
mode_number Projection = 0
mode_number Position = 1
mode_number PositionAndVector = 2
mode_number Texture = 3

-- the stack of poses has its position matrices before its vector matrices
abbrev pub pose_half : Bool → Pose → Matrix
pose_half false p = p.position
pose_half true p = p.vector

abbrev pub paired : List Matrix → List Matrix → List Pose
paired [] vectors = []
paired (p ∷ positions) [] = []
paired (p ∷ positions) (v ∷ vectors) = record { position = p; vector = v } ∷ paired positions vectors

unfoldable pub stacks_format : Format StacksState StacksState
stacks_format = do
  mode ← one_field (number_code 1) (λ s. mode_number s.mode) (at_most 3)
  level ← one_field (number_code 1) (λ s. s.level) (at_most 31)
  projection_pushed ← one_field flag_code (λ s. s.projection.pushed) any
  texture_pushed ← one_field flag_code (λ s. s.texture.pushed) any
  error ← one_field flag_code (λ s. s.error) any
  projection ← its matrix_format (λ s. s.projection.current)
  position ← its matrix_format (λ s. s.pose.position)
  vector ← its matrix_format (λ s. s.pose.vector)
  texture ← its matrix_format (λ s. s.texture.current)
  positions ← each 31 matrix_format (λ s. map (pose_half false) s.poses)
  vectors ← each 31 matrix_format (λ s. map (pose_half true) s.poses)
  projection_stored ← its matrix_format (λ s. s.projection.stored)
  texture_stored ← its matrix_format (λ s. s.texture.stored)
  done (record {
    mode = mode_of mode;
    projection = record { current = projection; stored = projection_stored; pushed = projection_pushed };
    texture = record { current = texture; stored = texture_stored; pushed = texture_pushed };
    pose = record { position = position; vector = vector };
    poses = paired positions vectors;
    level = level;
    error = error;
  })

-- what always holds of them: a matrix has sixteen cells, each a signed word, the stack of poses 31 places, and the level is one of them or 31
pub record IsMatrix (m : Matrix) : Type 0 where
  pub sixteen : length m.cells ≡ 16
  pub words : (i : ℕ) → i < 16 → FitsSigned w32 (slice_index_or m.cells i (pos 0))

pub record IsPose (p : Pose) : Type 0 where
  pub position : IsMatrix p.position
  pub vector : IsMatrix p.vector

pub record AreStacks (s : StacksState) : Type 0 where
  pub projection : IsMatrix s.projection.current
  pub projection_stored : IsMatrix s.projection.stored
  pub texture : IsMatrix s.texture.current
  pub texture_stored : IsMatrix s.texture.stored
  pub pose : IsPose s.pose
  pub places : length s.poses ≡ 31
  pub poses : (i : ℕ) → i < 31 → IsPose (slice_index_or s.poses i zero_pose)
  pub level : s.level ≤ 31

-- their bytes are read as they were, and bytes that are read are theirs
pub record StacksAreSaved : Type 0 where
  pub back : (at : ℕ) (s : StacksState) → AreStacks s → RoundTrips stacks_format at s
  pub spelling : (at : ℕ) → OneSpelling stacks_format at
