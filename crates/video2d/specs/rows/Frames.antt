use Rattle.std.specs.Prelude.{ℕ, ◌/◌, Bool, false, if◌then◌else◌, List, map, slice_index, slice_index_or}
use Rattle.std.specs.List.{range_with_len}

-- How the code keeps the frame being drawn and the last whole one. No public clause speaks of it.

pub record FramesState : Type 0 where
  pub drawn : List ℕ
  pub whole : List ℕ

-- a pixel of the frame being drawn, of which the lines that aren't fresh are those of the last whole one
abbrev pub frame_pixel : List Bool → List ℕ → List ℕ → ℕ → ℕ
frame_pixel fresh drawn whole i = if slice_index_or fresh (i / 256) false then slice_index drawn i else slice_index whole i

-- all of them; a list of so many doesn't unfold by itself
unfoldable pub frame_of : List Bool → List ℕ → List ℕ → List ℕ
frame_of fresh drawn whole = map (frame_pixel fresh drawn whole) (range_with_len 0 98304)
