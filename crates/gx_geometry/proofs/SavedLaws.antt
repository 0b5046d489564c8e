use Rattle.gx_geometry.proofs.Words.{AllByRecursion, ArePlaces, FitsSigned, Kind, Light, List, None, Option, Polygon, QuadStrip, Quads, Some}
use Rattle.gx_geometry.proofs.Words.{TriangleStrip, Triangles, Vertex, [], ap, arith, geometry_format, is_place, is_told, kind_of, length}
use Rattle.gx_geometry.proofs.Words.{most_polygons, most_vertices, nat_le, no_light, polygon_format, refl, rules, signed_format, slice_index}
use Rattle.gx_geometry.proofs.Words.{slice_index_or, suc, true, vertex_format, w32, zero, ℕ, ℤ, ◌<◌, ◌^◌, ◌∷◌, ◌≡◌, ◌≤◌}
use Rattle.ds_state.proofs.Standing.{IsExact, StandsFor}
use Rattle.ds_state.proofs.Exact.{one_spelling, round_trips}
use Rattle.gx_matrix.proofs.SavedLaws.{stacks_exact, stacks_stand}
use Rattle.gx_geometry.specs.States.{GeometryState, Swapped, no_swap}
use Rattle.gx_geometry.specs.SavedLaws.{GeometryIsSaved, IsSavedGeometry, AreSwapped, IsLight, IsPolygon, IsVertex}
use Rattle.gx_geometry.specs.Saved.{signed_at, holds_recent, unless_none, light_format, lists_format, place_number, place_of_number, run_kind_number}

-- What the geometry engine owes of its format.

vertex_exact : (at : ℕ) → IsExact vertex_format at
unfolding vertex_format
vertex_exact at = λ x _ _ y _ _ z _ _ w _ _ colour _ _ s _ _ t _ _. search rules

polygon_exact : (at : ℕ) → IsExact polygon_format at
unfolding polygon_format
polygon_exact at = λ attributes _ _ texture _ _ palette _ _ viewport _ _ corners _ _ first _ _ second _ _ third _ _ fourth _ _. search rules

light_exact : (at : ℕ) → IsExact light_format at
unfolding light_format
light_exact at = λ x _ _ y _ _ z _ _ colour _ _. search rules

signed_exact : (at : ℕ) → IsExact signed_format at
signed_exact at = λ w _ _. (refl, tt)

lists_exact : (at : ℕ) → IsExact lists_format at
unfolding lists_format
lists_exact at = λ tick _ _ parameter _ _ vertex_count _ _ polygon_count _ _.
    (vertex_exact at, λ vertices long _. (polygon_exact at, λ polygons as_long _. search rules))

number_of_kind : (n : ℕ) → n < 4 → run_kind_number (kind_of n) ≡ n
number_of_kind zero h = refl
number_of_kind (suc zero) h = refl
number_of_kind (suc (suc zero)) h = refl
number_of_kind (suc (suc (suc zero))) h = refl
number_of_kind (suc (suc (suc (suc n)))) h = absurd (omega (arith, h))

number_again : (n : ℕ) → place_number (place_of_number n) ≡ n
number_again n = grind arith

pub geometry_exact : (at : ℕ) → IsExact geometry_format at
unfolding geometry_format
geometry_exact at = (
  stacks_exact at,
  λ stacks _ overflow _ _ parameter _ _ colour _ _ x _ _ y _ _ z _ _ raw_s _ _ raw_t _ _ s _ _ t _ _ set _ _ attributes _ _ texture _ _ palette _ _
      viewport _ _ diffuse _ _ ambient _ _ specular _ _ emission _ _ by_table _ _ table _ _. (
        light_exact at,
        λ light_0 _. (
          light_exact at,
          λ light_1 _. (
            light_exact at,
            λ light_2 _. (
              light_exact at,
              λ light_3 _ kind _ small run _ _ first _ _ second _ _ third _ _. (
                signed_exact at,
                λ position four _ vector_x _ _ vector_y _ _ vector_z _ _ inside _ _ vertex_count _ _ polygon_count _ _. (
                  vertex_exact at,
                  λ vertices long _. (
                    polygon_exact at,
                    λ polygons as_long _. (
                      lists_exact at,
                      λ last _.
                          let few : kind < 4 = grind (arith, small) in
                          let number = number_of_kind kind few in
                          let a = number_again first in let b = number_again second in let c = number_again third in
                          search rules,
                    ),
                  ),
                ),
              ),
            ),
          ),
        ),
      ),
)

-- numbers that have their bounds stand for themselves

vertex_stands : (at : ℕ) (v : Vertex) → IsVertex v → StandsFor vertex_format at v
unfolding vertex_format
vertex_stands at v is =
    let x = is.x in let y = is.y in let z = is.z in let w = is.w in let colour = is.colour in let s = is.s in let t = is.t in
    (search rules, refl)

four_again : (xs : List ℕ) → length xs ≡ 4 → slice_index xs 0 ∷ slice_index xs 1 ∷ slice_index xs 2 ∷ slice_index xs 3 ∷ [] ≡ xs
four_again [] h = absurd (omega (arith, h))
four_again (a ∷ []) h = absurd (omega (arith, h))
four_again (a ∷ b ∷ []) h = absurd (omega (arith, h))
four_again (a ∷ b ∷ c ∷ []) h = absurd (omega (arith, h))
four_again (a ∷ b ∷ c ∷ d ∷ []) h = refl
four_again (a ∷ b ∷ c ∷ d ∷ e ∷ rest) h = absurd (omega (arith, h))

three_again : (xs : List (Option ℕ)) → length xs ≡ 3 → slice_index_or xs 0 None ∷ slice_index_or xs 1 None ∷ slice_index_or xs 2 None ∷ [] ≡ xs
three_again [] h = absurd (omega (arith, h))
three_again (a ∷ []) h = absurd (omega (arith, h))
three_again (a ∷ b ∷ []) h = absurd (omega (arith, h))
three_again (a ∷ b ∷ c ∷ []) h = refl
three_again (a ∷ b ∷ c ∷ d ∷ rest) h = absurd (omega (arith, h))

halves_again : (xs : List ℤ) → length xs ≡ 3 → signed_at xs 0 ∷ signed_at xs 1 ∷ signed_at xs 2 ∷ [] ≡ xs
halves_again [] h = absurd (omega (arith, h))
halves_again (a ∷ []) h = absurd (omega (arith, h))
halves_again (a ∷ b ∷ []) h = absurd (omega (arith, h))
halves_again (a ∷ b ∷ c ∷ []) h = refl
halves_again (a ∷ b ∷ c ∷ d ∷ rest) h = absurd (omega (arith, h))

lights_again : (xs : List Light) → length xs ≡ 4 →
    slice_index_or xs 0 no_light ∷ slice_index_or xs 1 no_light ∷ slice_index_or xs 2 no_light ∷ slice_index_or xs 3 no_light ∷ [] ≡ xs
lights_again [] h = absurd (omega (arith, h))
lights_again (a ∷ []) h = absurd (omega (arith, h))
lights_again (a ∷ b ∷ []) h = absurd (omega (arith, h))
lights_again (a ∷ b ∷ c ∷ []) h = absurd (omega (arith, h))
lights_again (a ∷ b ∷ c ∷ d ∷ []) h = refl
lights_again (a ∷ b ∷ c ∷ d ∷ e ∷ rest) h = absurd (omega (arith, h))

polygon_stands : (at : ℕ) (p : Polygon) → IsPolygon p → StandsFor polygon_format at p
unfolding polygon_format
polygon_stands at p is =
    let attributes = is.attributes in let texture = is.texture in let palette = is.palette in let viewport = is.viewport in
    let corners = is.corners in let unused = is.unused in
    let first = is.first in let second = is.second in let third = is.third in let fourth = is.fourth in
    let few : p.corners < 256 = grind (arith, corners) in
    let again = four_again p.indices is.four in
    (search rules, rw again refl)

vertices_stand : (at : ℕ) (vs : List Vertex) → AllByRecursion IsVertex vs → AllByRecursion (StandsFor vertex_format at) vs
vertices_stand at [] h = tt
vertices_stand at (v ∷ vs) h = (vertex_stands at v h.0, vertices_stand at vs h.1)

polygons_stand : (at : ℕ) (ps : List Polygon) → AllByRecursion IsPolygon ps → AllByRecursion (StandsFor polygon_format at) ps
polygons_stand at [] h = tt
polygons_stand at (p ∷ ps) h = (polygon_stands at p h.0, polygons_stand at ps h.1)

signed_stand : (at : ℕ) (ws : List ℤ) → AllByRecursion (λ x. FitsSigned w32 x) ws → AllByRecursion (StandsFor signed_format at) ws
signed_stand at [] h = tt
signed_stand at (w ∷ ws) h = (((h.0, refl, tt), refl), signed_stand at ws h.1)

light_stands : (at : ℕ) (l : Light) → IsLight l → StandsFor light_format at l
unfolding light_format
light_stands at l is = let x = is.x in let y = is.y in let z = is.z in let colour = is.colour in (search rules, refl)

light_among : (xs : List Light) → AllByRecursion IsLight xs → (i : ℕ) → i < length xs → IsLight (slice_index_or xs i no_light)
light_among [] all i h = absurd (omega (arith, h))
light_among (x ∷ xs) all zero h = all.0
light_among (x ∷ xs) all (suc i) h = light_among xs all.1 i (omega (arith, h))

-- at tick 0 there was no swap
unless : (tick most at n : ℕ) → n ≤ most → (tick ≡ 0 → n ≡ 0) → unless_none tick most at n ≡ true
unless zero most at n le none = let e : n ≡ 0 = none refl in rw e (grind arith)
unless (suc tick) most at n le none = grind (arith, le)

lists_stand : (at : ℕ) (l : Swapped) → at ≤ 2 ^ 56 → AreSwapped l → l.tick.0 ≤ at → (l.tick.0 ≡ 0 → l ≡ no_swap) → StandsFor lists_format at l
unfolding lists_format
lists_stand at l early are tick none =
    let parameter = are.parameter in
    let few : length l.vertices < 2 ^ 32 = omega (arith, are.vertex_count) in
    let as_few : length l.polygons < 2 ^ 32 = omega (arith, are.polygon_count) in
    let is_used = unless l.tick.0 0xFFFFFFFF at l.parameter (omega (arith, parameter)) (λ e. ap (λ (x : Swapped). x.parameter) (none e)) in
    let vertex_count =
    unless l.tick.0 most_vertices at (length l.vertices) are.vertex_count (λ e. ap (λ (x : Swapped). length x.vertices) (none e)) in
    let polygon_count =
    unless l.tick.0 most_polygons at (length l.polygons) are.polygon_count (λ e. ap (λ (x : Swapped). length x.polygons) (none e)) in
    let vertices = vertices_stand at l.vertices are.vertices in
    let polygons = polygons_stand at l.polygons are.polygons in
    (search rules, refl)

kind_again : (kind : Kind) → kind_of (run_kind_number kind) ≡ kind
kind_again Triangles = refl
kind_again Quads = refl
kind_again TriangleStrip = refl
kind_again QuadStrip = refl

few_kinds : (kind : Kind) → run_kind_number kind < 4
few_kinds Triangles = omega arith
few_kinds Quads = omega arith
few_kinds TriangleStrip = omega arith
few_kinds QuadStrip = omega arith

-- a place of the list, or none, is a half, and is what its number tells
place_small : (long : ℕ) (place : Option ℕ) → long ≤ most_vertices → is_place long place ≡ true → place_number place < 2 ^ 16
place_small long None few h = omega arith
place_small long (Some n) few h = grind (arith, few, h)

place_again : (long : ℕ) (place : Option ℕ) → long ≤ most_vertices → is_place long place ≡ true → place_of_number (place_number place) ≡ place
place_again long None few h = refl
place_again long (Some n) few h = grind (arith, few, h)

told_again : (run back long : ℕ) (place : Option ℕ) → long ≤ most_vertices → is_place long place ≡ true → is_told run back place ≡ true
    → is_told run back (place_of_number (place_number place)) ≡ true
told_again run back long place few is told = rw (place_again long place few is) told

abbrev recent_told : List (Option ℕ) → List (Option ℕ)
recent_told recent =
    place_of_number (place_number (slice_index_or recent 0 None)) ∷ place_of_number (place_number (slice_index_or recent 1 None))
    ∷ place_of_number (place_number (slice_index_or recent 2 None)) ∷ []

recent_again : (recent : List (Option ℕ)) (long : ℕ) → long ≤ most_vertices → ArePlaces long recent → recent_told recent ≡ recent
recent_again recent long few are =
    rw (place_again long _ few are.first, place_again long _ few are.second, place_again long _ few are.third) (three_again recent are.three)

holds_all : (recent : List (Option ℕ)) (at long : ℕ) → long ≤ most_vertices → ArePlaces long recent → holds_recent (recent_told recent) at long ≡ true
holds_all recent at long few are =
    let le : nat_le long most_vertices ≡ true = grind (arith, few) in
    rw (place_again long _ few are.first, place_again long _ few are.second, place_again long _ few are.third, le, are.first, are.second, are.third) refl

pub geometry_stands : (at : ℕ) (g : GeometryState) → at ≤ 2 ^ 56 → IsSavedGeometry at g → StandsFor geometry_format at g
unfolding geometry_format
geometry_stands at g early is =
    let stacks = stacks_stand at g.numbers.stacks is.bounds.stacks in
    let parameter = is.bounds.parameter in
    let n = is.bounds.current in
    let colour = n.colour in let x = n.x in let y = n.y in let z = n.z in let raw_s = n.raw_s in let raw_t = n.raw_t in
    let s = n.s in let t = n.t in let set = n.set in let attributes = n.attributes in let texture = n.texture in
    let palette = n.palette in let viewport = n.viewport in
    let lit = is.bounds.lighting in
    let diffuse = lit.diffuse in let ambient = lit.ambient in let specular = lit.specular in let emission = lit.emission in
    let bytes = lit.bytes in
    let light_0 = light_stands at _ (light_among g.numbers.lights lit.lights 0 (omega (arith, lit.four))) in
    let light_1 = light_stands at _ (light_among g.numbers.lights lit.lights 1 (omega (arith, lit.four))) in
    let light_2 = light_stands at _ (light_among g.numbers.lights lit.lights 2 (omega (arith, lit.four))) in
    let light_3 = light_stands at _ (light_among g.numbers.lights lit.lights 3 (omega (arith, lit.four))) in
    let kinds = few_kinds g.numbers.kind in
    let run = is.run in
    let few = is.bounds.vertex_count in
    let as_few = is.bounds.polygon_count in
    let first = place_small _ _ few is.bounds.places.first in
    let second = place_small _ _ few is.bounds.places.second in
    let third = place_small _ _ few is.bounds.places.third in
    let told_first = told_again _ 3 _ _ few is.bounds.places.first is.bounds.told.first in
    let told_second = told_again _ 2 _ _ few is.bounds.places.second is.bounds.told.second in
    let told_third = told_again _ 1 _ _ few is.bounds.places.third is.bounds.told.third in
    let results = is.bounds.results in
    let four = results.four in
    let position = signed_stand at g.outcome.position results.position in
    let a = results.a in let b = results.b in let c = results.c in
    let holds = holds_all g.outcome.recent 0 _ few is.bounds.places in
    let vertices = vertices_stand at g.outcome.vertices is.bounds.vertices in
    let polygons = polygons_stand at g.outcome.polygons is.bounds.polygons in
    let last = lists_stand at g.last early is.bounds.last is.swap is.none in
    let kind = kind_again g.numbers.kind in
    let again = recent_again g.outcome.recent _ few is.bounds.places in
    let lights_are = lights_again g.numbers.lights lit.four in
    let vector_is = halves_again g.outcome.vector results.three in
    (search rules, rw (kind, again, lights_are, vector_is) refl)

pub geometry_saved : GeometryIsSaved
geometry_saved = record {
  back = λ at g early is. round_trips geometry_format at g (geometry_stands at g early is);
  spelling = λ at. one_spelling geometry_format at (geometry_exact at);
}
