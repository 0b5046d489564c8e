use Rattle.std.specs.Prelude.{ℕ, ◌+◌, ◌-◌, ◌*◌, ◌^◌, ◌==◌, nat_lt, nat_le, if◌then◌else◌, Bool, true, false, ℤ, pos, negsuc, ◌-ℤ◌, Option, Some, None, List, replicate, slice_index, slice_index_or, slice_set}
use Rattle.ds_base.specs.Bits.{bits, flag}
use Rattle.line_lanes.specs.declared.matrices.Matrix.{Matrix}
use Rattle.gx_matrix.specs.declared.commands.GeometryCommand.{GeometryCommand}
use Rattle.gx_matrix.specs.declared.commands.GeometryCommand.TheVariants.{MtxMode, MtxPush, MtxPop, MtxStore, MtxRestore, MtxIdentity, MtxLoad4x4, MtxLoad4x3, MtxMult4x4, MtxMult4x3, MtxMult3x3, MtxScale, MtxTrans}
use Rattle.gx_matrix.specs.declared.currents.Mode.{Mode}
use Rattle.gx_matrix.specs.declared.currents.Mode.TheVariants.{Projection, Position, PositionAndVector, Texture}
use Rattle.gx_matrix.specs.declared.currents.Pose.{Pose}
use Rattle.gx_matrix.specs.declared.currents.Single.{Single}
use Rattle.gx_matrix.specs.Algebra.{product, identity, given, scaling, translation}

-- The current matrices and their stacks (GBATEK, "DS 3D Matrix Stack"): the projection and the texture matrix with a stack of one place each,
-- and the position and the vector matrix, which share a stack of 31 places and its level.
pub record StacksState : Type 0 where
  pub mode : Mode
  pub projection : Single
  pub texture : Single
  pub pose : Pose
  pub poses : List Pose
  pub level : ℕ
  pub error : Bool

-- at boot the four current matrices are the identity, and all else is 0, what the stacks store too until something is stored there (our choice)
unfoldable pub zero_matrix : Matrix
zero_matrix = record { cells = replicate 16 (pos 0) }

abbrev pub single_at_boot : Single
single_at_boot = record { current = identity; stored = zero_matrix; pushed = false }

abbrev pub pose_at_boot : Pose
pose_at_boot = record { position = identity; vector = identity }

abbrev pub zero_pose : Pose
zero_pose = record { position = zero_matrix; vector = zero_matrix }

unfoldable pub poses_at_boot : List Pose
poses_at_boot = replicate 31 zero_pose

unfoldable pub stacks_at_boot : StacksState
stacks_at_boot = record {
  mode = Projection;
  projection = single_at_boot;
  texture = single_at_boot;
  pose = pose_at_boot;
  poses = poses_at_boot;
  level = 0;
  error = false;
}

-- the mode by its number (GBATEK, MTX_MODE)
abbrev pub mode_of : ℕ → Mode
mode_of n = if n == 0 then Projection else (if n == 1 then Position else (if n == 2 then PositionAndVector else Texture))

-- the matrices that are current in a mode: they become a matrix, or are multiplied by one from the left, C = M C
unfoldable pub matrix_loaded : Mode → Matrix → StacksState → StacksState
matrix_loaded Projection m s = record s { projection = record s.projection { current = m } }
matrix_loaded Position m s = record s { pose = record s.pose { position = m } }
matrix_loaded PositionAndVector m s = record s { pose = record { position = m; vector = m } }
matrix_loaded Texture m s = record s { texture = record s.texture { current = m } }

unfoldable pub multiplied : Mode → Matrix → StacksState → StacksState
multiplied Projection m s = record s { projection = record s.projection { current = product m s.projection.current } }
multiplied Position m s = record s { pose = record s.pose { position = product m s.pose.position } }
multiplied PositionAndVector m s =
    record s { pose = record { position = product m s.pose.position; vector = product m s.pose.vector } }
multiplied Texture m s = record s { texture = record s.texture { current = product m s.texture.current } }

-- scaling leaves the vector matrix alone, so that light vectors and normals keep their length (GBATEK, MTX_SCALE)
abbrev pub scaled_mode : Mode → Mode
scaled_mode Projection = Projection
scaled_mode Position = Position
scaled_mode PositionAndVector = Position
scaled_mode Texture = Texture

-- a place of the stack of poses, if it has it: 0 to 30
abbrev pub pose_place : ℤ → Option ℕ
pose_place (pos n) = if nat_le n 30 then Some n else None
pose_place (negsuc n) = None

-- what can't be done sets the error and does nothing else (GBATEK, GXSTAT bit 15; the other matrices and levels stay by our choice)
abbrev pub failed : StacksState → StacksState
failed s = record s { error = true }

-- a stack of one place: it takes the current matrix, or gives it back
abbrev pub single_stored : Single → Single
single_stored x = record x { stored = x.current }

abbrev pub single_restored : Single → Single
single_restored x = record x { current = x.stored }

-- the stack of poses: a place takes the current one, or gives it back
abbrev pub pose_stored : Option ℕ → StacksState → StacksState
pose_stored None s = failed s
pose_stored (Some n) s = record s { poses = slice_set s.poses n s.pose }

abbrev pub pose_restored : Option ℕ → StacksState → StacksState
pose_restored None s = failed s
pose_restored (Some n) s = record s { pose = slice_index_or s.poses n zero_pose }

-- push: the place at the level takes the current matrices, and the level goes up (GBATEK, MTX_PUSH)
abbrev pub pose_pushed : Option ℕ → StacksState → StacksState
pose_pushed None s = failed s
pose_pushed (Some n) s = record s { poses = slice_set s.poses n s.pose; level = n + 1 }

unfoldable pub pushed : Mode → StacksState → StacksState
pushed Projection s =
    if s.projection.pushed then failed s else record s { projection = record (single_stored s.projection) { pushed = true } }
pushed Position s = pose_pushed (pose_place (pos s.level)) s
pushed PositionAndVector s = pose_pushed (pose_place (pos s.level)) s
pushed Texture s =
    if s.texture.pushed then failed s else record s { texture = record (single_stored s.texture) { pushed = true } }

-- pop: the level goes down by the parameter's bits 0 to 5, a signed number, and the place there becomes current; a stack of one place ignores
-- the parameter (GBATEK, MTX_POP)
abbrev pub signed_bits : ℕ → ℕ → ℕ → ℤ
signed_bits from size word =
    if nat_lt (bits from size word) (2 ^ (size - 1)) then pos (bits from size word) else negsuc (2 ^ size - 1 - bits from size word)

unfoldable pub popped_place : ℕ → ℕ → Option ℕ
popped_place level word = pose_place (pos level -ℤ signed_bits 0 6 word)

abbrev pub pose_popped : Option ℕ → StacksState → StacksState
pose_popped None s = failed s
pose_popped (Some n) s = record s { pose = slice_index_or s.poses n zero_pose; level = n }

unfoldable pub popped : Mode → ℕ → StacksState → StacksState
popped Projection word s =
    if s.projection.pushed then record s { projection = record (single_restored s.projection) { pushed = false } } else failed s
popped Position word s = pose_popped (popped_place s.level word) s
popped PositionAndVector word s = pose_popped (popped_place s.level word) s
popped Texture word s =
    if s.texture.pushed then record s { texture = record (single_restored s.texture) { pushed = false } } else failed s

-- store and restore: the place of the parameter's bits 0 to 4; the levels stay (GBATEK, MTX_STORE and MTX_RESTORE)
unfoldable pub named_place : ℕ → Option ℕ
named_place word = pose_place (pos (bits 0 5 word))

unfoldable pub matrix_stored : Mode → ℕ → StacksState → StacksState
matrix_stored Projection word s = record s { projection = single_stored s.projection }
matrix_stored Position word s = pose_stored (named_place word) s
matrix_stored PositionAndVector word s = pose_stored (named_place word) s
matrix_stored Texture word s = record s { texture = single_stored s.texture }

unfoldable pub matrix_restored : Mode → ℕ → StacksState → StacksState
matrix_restored Projection word s = record s { projection = single_restored s.projection }
matrix_restored Position word s = pose_restored (named_place word) s
matrix_restored PositionAndVector word s = pose_restored (named_place word) s
matrix_restored Texture word s = record s { texture = single_restored s.texture }

-- what each matrix command leaves; no other command changes matrices (GBATEK, "DS 3D Matrix Load/Multiply" and "DS 3D Matrix Stack")
unfoldable pub current_changed : GeometryCommand → List ℕ → StacksState → StacksState
current_changed MtxIdentity params s = matrix_loaded s.mode identity s
current_changed MtxLoad4x4 params s = matrix_loaded s.mode (given 4 4 params) s
current_changed MtxLoad4x3 params s = matrix_loaded s.mode (given 4 3 params) s
current_changed MtxMult4x4 params s = multiplied s.mode (given 4 4 params) s
current_changed MtxMult4x3 params s = multiplied s.mode (given 4 3 params) s
current_changed MtxMult3x3 params s = multiplied s.mode (given 3 3 params) s
current_changed MtxScale params s = multiplied (scaled_mode s.mode) (scaling params) s
current_changed MtxTrans params s = multiplied s.mode (translation params) s
current_changed _ params s = s

unfoldable pub commanded : GeometryCommand → List ℕ → StacksState → StacksState
commanded MtxMode params s = record s { mode = mode_of (bits 0 2 (slice_index params 0)) }
commanded MtxPush params s = pushed s.mode s
commanded MtxPop params s = popped s.mode (slice_index params 0) s
commanded MtxStore params s = matrix_stored s.mode (slice_index params 0) s
commanded MtxRestore params s = matrix_restored s.mode (slice_index params 0) s
commanded command params s = current_changed command params s

-- the clip matrix: position times projection (GBATEK, CLIPMTX_RESULT)
abbrev pub clip_of : StacksState → Matrix
clip_of s = product s.pose.position s.projection.current

-- the levels as GXSTAT shows them: the position level in bits 8 to 12, the projection level in bit 13 (GBATEK, GXSTAT)
abbrev pub levels_of : StacksState → ℕ
levels_of s = s.level * 2 ^ 8 + flag 13 s.projection.pushed

-- a write of 1 to the error's bit clears it, and makes the projection and texture levels 0 (GBATEK, GXSTAT bit 15)
abbrev pub error_cleared : StacksState → StacksState
error_cleared s = record s {
  projection = record s.projection { pushed = false };
  texture = record s.texture { pushed = false };
  error = false;
}
