use Rattle.std.proofs.Common.{ℕ, ◌≡◌, ◌+◌, ◌*◌, List, [], ◌∷◌, ◌++◌, length, refl, arith}
use Rattle.std.specs.List.{concat}
use Rattle.std.proofs.lemmas.List.{length-append}
use Rattle.gx_geometry.specs.States.{Swapped}
use Rattle.gx_geometry.specs.declared.polygons.Vertex.{Vertex}
use Rattle.nds_records.specs.Numbers.{halves, longs, words}
use Rattle.nds_records.specs.Lists.{lists_head, lists_record, polygon_records, vertex_record, vertex_records}

-- How long the records are.

vertex_long : (v : Vertex) → length (concat (vertex_record v)) ≡ 22
unfolding words halves
vertex_long v = refl

pub vertices_long : (vertices : List Vertex) → length (vertex_records vertices) ≡ 22 * length vertices
vertices_long [] = refl
vertices_long (v ∷ vs) =
    let rest : length (vertex_records vs) ≡ 22 * length vs = vertices_long vs in
    let first = vertex_long v in
    let both = length-append (concat (vertex_record v)) (vertex_records vs) in
    omega (arith, rest, first, both)

head_long : (lists : Swapped) → length (concat (lists_head lists)) ≡ 21
unfolding words longs
head_long lists = refl

pub lists_long : (lists : Swapped) → length (polygon_records lists.polygons) ≡ 25 * length lists.polygons
    → length (lists_record lists) ≡ 21 + 22 * length lists.vertices + 25 * length lists.polygons
lists_long lists polygons =
    let vertices = vertices_long lists.vertices in
    let head = head_long lists in
    let all = length-append (concat (lists_head lists)) (vertex_records lists.vertices ++ polygon_records lists.polygons) in
    let both = length-append (vertex_records lists.vertices) (polygon_records lists.polygons) in
    omega (arith, polygons, vertices, head, all, both)
