use Rattle.std.proofs.Common.{ℕ, ◌≡◌, refl}
use Rattle.std.specs.Prelude.{Bool, true, false, if◌then◌else◌, Option, Some, None, pos}
use Rattle.gx_matrix.specs.declared.currents.Mode.{Mode}
use Rattle.gx_matrix.specs.declared.currents.Mode.TheVariants.{Projection, Position, PositionAndVector, Texture}
use Rattle.gx_matrix.specs.Commands.{StacksState, clip_of, failed, pose_place, pose_pushed, pushed, pose_stored, named_place, matrix_stored}

-- What stores matrices and changes none leaves the clip matrix.

-- what fails or doesn't
either : (b : Bool) (s t : StacksState) → clip_of t ≡ clip_of s → clip_of (if b then failed s else t) ≡ clip_of s
either true s t h = refl
either false s t h = h

pose_pushed_stays : (place : Option ℕ) (s : StacksState) → clip_of (pose_pushed place s) ≡ clip_of s
pose_pushed_stays None s = refl
pose_pushed_stays (Some n) s = refl

pub clip_pushed : (mode : Mode) (s : StacksState) → clip_of (pushed mode s) ≡ clip_of s
unfolding pushed
clip_pushed Projection s = either s.projection.pushed s _ refl
clip_pushed Position s = pose_pushed_stays (pose_place (pos s.level)) s
clip_pushed PositionAndVector s = pose_pushed_stays (pose_place (pos s.level)) s
clip_pushed Texture s = either s.texture.pushed s _ refl

pose_stored_stays : (place : Option ℕ) (s : StacksState) → clip_of (pose_stored place s) ≡ clip_of s
pose_stored_stays None s = refl
pose_stored_stays (Some n) s = refl

pub clip_stored : (mode : Mode) (word : ℕ) (s : StacksState) → clip_of (matrix_stored mode word s) ≡ clip_of s
unfolding matrix_stored
clip_stored Projection word s = refl
clip_stored Position word s = pose_stored_stays (named_place word) s
clip_stored PositionAndVector word s = pose_stored_stays (named_place word) s
clip_stored Texture word s = refl
