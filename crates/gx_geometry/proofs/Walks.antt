use Rattle.gx_geometry.proofs.Words.{AllByRecursion, FitsLight, FitsPolygon, FitsSigned, FitsVertex, HaveColours, HavePalettes, HaveShapes, Light}
use Rattle.gx_geometry.proofs.Words.{List, Polygon, Vertex, [], arith, dark_light, is_shaped, length, map, no_light, no_polygon, no_vertex, pos}
use Rattle.gx_geometry.proofs.Words.{slice_index, slice_index_or, suc, true, w32, ℕ, ℤ, ◌<◌, ◌^◌, ◌∷◌, ◌≡◌}
use Rattle.gx_geometry.specs.SavedLaws.{IsLight, IsPolygon, IsVertex}
use Rattle.gx_geometry.specs.Saved.{has_corner_count, may_be_fourth}

-- What is known of each place of a list is known of all.

pub all_signed : (xs : List ℤ) → ((i : ℕ) → i < length xs → FitsSigned w32 (slice_index_or xs i (pos 0))) → AllByRecursion (λ x. FitsSigned w32 x) xs
all_signed [] h = tt
all_signed (x ∷ xs) h = (h 0 (omega arith), all_signed xs (λ i l. h (suc i) (omega (arith, l))))

vertex_is : (v : Vertex) → v.colour < 2 ^ 15 → FitsVertex v → IsVertex v
vertex_is v colour fits = record { x = fits.x; y = fits.y; z = fits.z; w = fits.w; colour = colour; s = fits.s; t = fits.t }

pub all_vertices : (xs : List Vertex) → HaveColours xs → ((i : ℕ) → i < length xs → FitsVertex (slice_index_or xs i no_vertex))
    → AllByRecursion IsVertex xs
all_vertices [] colours h = tt
all_vertices (x ∷ xs) colours h =
    (vertex_is x (colours 0) (h 0 (omega arith)), all_vertices xs (λ i. colours (suc i)) (λ i l. h (suc i) (omega (arith, l))))

corners_are : (p : Polygon) → is_shaped p ≡ true → has_corner_count 0 p.corners ≡ true
corners_are p h = grind (arith, h)

fourth_is : (p : Polygon) → is_shaped p ≡ true → may_be_fourth p.corners 0 (slice_index p.indices 3) ≡ true
fourth_is p h = grind (arith, h)

polygon_is : (p : Polygon) → p.palette < 2 ^ 13 → is_shaped p ≡ true → FitsPolygon p → IsPolygon p
polygon_is p palette shaped fits = record {
  attributes = fits.attributes;
  texture = fits.texture;
  palette = palette;
  viewport = fits.viewport;
  corners = corners_are p shaped;
  four = fits.four;
  first = fits.first;
  second = fits.second;
  third = fits.third;
  fourth = fits.fourth;
  unused = fourth_is p shaped;
}

pub all_polygons : (xs : List Polygon) → HavePalettes xs → HaveShapes xs → ((i : ℕ) → i < length xs → FitsPolygon (slice_index_or xs i no_polygon))
    → AllByRecursion IsPolygon xs
all_polygons [] palettes shapes h = tt
all_polygons (x ∷ xs) palettes shapes h =
    (polygon_is x (palettes 0) shapes.0 (h 0 (omega arith)), all_polygons xs (λ i. palettes (suc i)) shapes.1 (λ i l. h (suc i) (omega (arith, l))))

light_is : (l : Light) → l.colour < 2 ^ 15 → FitsLight l → IsLight l
light_is l colour fits = record { x = fits.x; y = fits.y; z = fits.z; colour = colour }

pub all_lights : (xs : List Light) → ((i : ℕ) → (slice_index_or xs i no_light).colour < 2 ^ 15)
    → ((i : ℕ) → i < length xs → FitsLight (slice_index_or xs i dark_light)) → AllByRecursion IsLight xs
all_lights [] colours h = tt
all_lights (x ∷ xs) colours h =
    (light_is x (colours 0) (h 0 (omega arith)), all_lights xs (λ i. colours (suc i)) (λ i l. h (suc i) (omega (arith, l))))
