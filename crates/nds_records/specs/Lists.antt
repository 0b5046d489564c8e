use Rattle.std.specs.Prelude.{ℕ, ℤ, List, [], ◌∷◌, ◌++◌, flat_map, length, codes}
use Rattle.std.specs.List.{concat}
use Rattle.std.specs.Int.{cast_unsigned, w16, w32}
use Rattle.gx_geometry.specs.States.{Swapped}
use Rattle.gx_geometry.specs.declared.polygons.Polygon.{Polygon}
use Rattle.gx_geometry.specs.declared.polygons.Vertex.{Vertex}
use Rattle.nds_records.specs.Numbers.{longs, words, halves}

-- The record of the geometry lists of a swap (our choice), by its parts. All numbers are little-endian, and signed ones in two's complement.

abbrev pub word_of : ℤ → ℕ
word_of z = cast_unsigned w32 z

abbrev pub half_of : ℤ → ℕ
half_of z = cast_unsigned w16 z

-- a vertex: its four coordinates in clip space, its colour, its two texture coordinates
abbrev pub vertex_record : Vertex → List (List ℕ)
vertex_record v = words (word_of v.x ∷ word_of v.y ∷ word_of v.z ∷ word_of v.w ∷ []) ∷ halves (v.colour ∷ half_of v.s ∷ half_of v.t ∷ []) ∷ []

-- a polygon: its attributes, its texture's parameter, its palette's base and its viewport, how many vertices it has, and their four places in the
-- list, the fourth also where it isn't used
abbrev pub polygon_record : Polygon → List (List ℕ)
polygon_record p = words (p.attributes ∷ p.texture ∷ p.palette ∷ p.viewport ∷ []) ∷ (p.corners ∷ []) ∷ halves p.indices ∷ []

abbrev pub vertex_records : List Vertex → List ℕ
vertex_records vertices = flat_map (λ (v : Vertex). concat (vertex_record v)) vertices

abbrev pub polygon_records : List Polygon → List ℕ
polygon_records polygons = flat_map (λ (p : Polygon). concat (polygon_record p)) polygons

-- the record: 'G', the tick of the swap, its parameter, how many vertices and polygons there are, the vertices and then the polygons
abbrev pub lists_head : Swapped → List (List ℕ)
lists_head lists = codes "G" ∷ longs (lists.tick.0 ∷ []) ∷ words (lists.parameter ∷ []) ∷ words (length lists.vertices ∷ [])
    ∷ words (length lists.polygons ∷ []) ∷ []

abbrev pub lists_record : Swapped → List ℕ
lists_record lists = concat (lists_head lists) ++ (vertex_records lists.vertices ++ polygon_records lists.polygons)

-- the records of the lists of some swaps, one after another
abbrev pub lists_records : List Swapped → List ℕ
lists_records swaps = flat_map lists_record swaps
