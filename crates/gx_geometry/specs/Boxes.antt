use Rattle.std.specs.Prelude.{ℕ, Bool, true, false, ◌||◌, not, if◌then◌else◌, ℤ, pos, neg_ℤ, int_lt, ◌+ℤ◌, List, [], ◌∷◌, slice_index}
use Rattle.std.specs.Int.{int_wrap, w16}
use Rattle.std.specs.List.{list_all}
use Rattle.line_lanes.specs.Matrices.{at, transform4}
use Rattle.line_lanes.specs.declared.matrices.Matrix.{Matrix}
use Rattle.gx_geometry.specs.declared.numbers.Point.{Point}
use Rattle.gx_geometry.specs.declared.boxes.Clipped.{Clipped}
use Rattle.gx_geometry.specs.declared.boxes.Plane.{Plane}
use Rattle.gx_geometry.specs.declared.boxes.Plane.TheVariants.{Right, Left, Top, Bottom, Far, Near}
use Rattle.gx_geometry.specs.Numbers.{low_half, high_half, given_point}

-- A vertex through the clip matrix: x, y, z, 1.0 as a row (GBATEK, "DS 3D Matrix Types")
unfoldable pub through : Point → Matrix → Clipped
through p m =
    let v = transform4 (p.x ∷ p.y ∷ p.z ∷ pos 4096 ∷ []) m in
    record { x = at v 0; y = at v 1; z = at v 2; w = at v 3 }

-- The box test (GBATEK, BOX_TEST): x, y and z of a corner, and how wide, high and deep the box is; the other corners wrap to halves (our choice)
unfoldable pub far_side : Bool → ℤ → ℤ → ℤ
far_side far from size = if far then int_wrap w16 (from +ℤ size) else from

unfoldable pub corner : List ℕ → Matrix → Bool → Bool → Bool → Clipped
corner params m i j k =
    let first = slice_index params 0 in
    let second = slice_index params 1 in
    let third = slice_index params 2 in
    through (given_point (far_side i (low_half first) (high_half second)) (far_side j (high_half first) (low_half third))
    (far_side k (low_half second) (high_half third))) m

unfoldable pub corners_of : List ℕ → Matrix → List Clipped
corners_of params m =
    corner params m false false false ∷ corner params m false false true ∷ corner params m false true false ∷ corner params m false true true
    ∷ corner params m true false false ∷ corner params m true false true ∷ corner params m true true false ∷ corner params m true true true ∷ []

-- outside one of the six planes of the view volume: x, y and z are within -w to w
abbrev pub outside : Plane → Clipped → Bool
outside Right c = int_lt c.w c.x
outside Left c = int_lt c.x (neg_ℤ c.w)
outside Top c = int_lt c.w c.y
outside Bottom c = int_lt c.y (neg_ℤ c.w)
outside Far c = int_lt c.w c.z
outside Near c = int_lt c.z (neg_ℤ c.w)

unfoldable pub all_outside : Plane → List Clipped → Bool
all_outside plane corners = list_all (outside plane) corners

-- a box is seen unless all its corners are outside one same plane
unfoldable pub box_test : List ℕ → Matrix → Bool
box_test params m =
    let corners = corners_of params m in
    not (all_outside Right corners || (all_outside Left corners || (all_outside Top corners
    || (all_outside Bottom corners || (all_outside Far corners || all_outside Near corners)))))
