use Rattle.gx_geometry.proofs.Words.{ArePlaces, AreTold, Bool, GeometryCommand, List, None, Numbers, Option, Polygon, Some, [], ap, arith, false}
use Rattle.gx_geometry.proofs.Words.{if◌then◌else◌, is_place, is_told, length, most_polygons, most_vertices, nat_lt, polygon_among, refl}
use Rattle.gx_geometry.proofs.Words.{slice_index_or, subst, sym, true, vertex_of, ℕ, ◌++◌, ◌+◌, ◌∙◌, ◌∷◌, ◌≡◌}
use Rattle.gx_matrix.specs.declared.commands.GeometryCommand.TheVariants.{Color, Normal, Texcoord, Vtx16, Vtx10, VtxXy, VtxXz, VtxYz, VtxDiff, PolygonAttr, TeximageParam, PlttBase, DifAmb, SpeEmi, LightVector, LightColor, Shininess, BeginVtxs, SwapBuffers, Viewport, BoxTest, PosTest, VecTest}
use Rattle.gx_geometry.specs.Changes.{numbers_drawn, numbers_lit, numbers_after, normal_given, coordinates_given, vertex_given, diffuse_given, specular_given, light_pointed, light_coloured, run_begun, gives_vertex}
use Rattle.gx_geometry.specs.States.{OutcomeState, GeometryState, four_recent, none_recent, then_recent, overflown, polygon_added, vertex_added, vertex_dropped, arrived, tested, outcome_after, geometry_after}

-- The places of a run's last three vertices, command by command.

place_more : (long : ℕ) (place : Option ℕ) → is_place long place ≡ true → is_place (long + 1) place ≡ true
place_more long None h = refl
place_more long (Some n) h = grind (arith, h)

new_place : (long : ℕ) → is_place (long + 1) (Some long) ≡ true
new_place long = grind arith

-- one vertex more in the list, and the run's last three with it
pub places_added : (long more : ℕ) (recent : List (Option ℕ)) → more ≡ long + 1 → ArePlaces long recent → ArePlaces more (then_recent (Some long) recent)
places_added long more recent e h = rw e (record {
  three = refl;
  first = place_more long (slice_index_or recent 1 None) h.second;
  second = place_more long (slice_index_or recent 2 None) h.third;
  third = new_place long;
})

-- one that was dropped
pub places_dropped : (long : ℕ) (recent : List (Option ℕ)) → ArePlaces long recent → ArePlaces long (then_recent None recent)
places_dropped long recent h = record { three = refl; first = h.second; second = h.third; third = refl }

pub no_places : (long : ℕ) → ArePlaces long none_recent
no_places long = record { three = refl; first = refl; second = refl; third = refl }

pub none_told : (run : ℕ) → AreTold run none_recent
none_told run = record { first = refl; second = refl; third = refl }

told_more : (run back : ℕ) (place : Option ℕ) → is_told run back place ≡ true → is_told (run + 1) (back + 1) place ≡ true
told_more run back None h = refl
told_more run back (Some n) h = grind (arith, h)

told_last : (run : ℕ) (place : Option ℕ) → is_told (run + 1) 1 place ≡ true
told_last run None = refl
told_last run (Some n) = grind arith

told_then : (run : ℕ) (place : Option ℕ) (recent : List (Option ℕ)) → AreTold run recent → AreTold (run + 1) (then_recent place recent)
told_then run place recent h = record {
  first = told_more run 2 (slice_index_or recent 1 None) h.second;
  second = told_more run 1 (slice_index_or recent 2 None) h.third;
  third = told_last run place;
}

-- how long the run is after a command
abbrev pub run_by : GeometryCommand → ℕ → ℕ
run_by BeginVtxs run = 0
run_by command run = if gives_vertex command then run + 1 else run

pub run_by_command : (command : GeometryCommand) (params : List ℕ) (s : Numbers) → (numbers_after command params s).run ≡ run_by command s.run
unfolding numbers_after numbers_lit numbers_drawn normal_given coordinates_given vertex_given diffuse_given specular_given light_pointed light_coloured run_begun
run_by_command Color params s = refl
run_by_command Texcoord params s = refl
run_by_command PolygonAttr params s = refl
run_by_command TeximageParam params s = refl
run_by_command PlttBase params s = refl
run_by_command Normal params s = refl
run_by_command DifAmb params s = refl
run_by_command SpeEmi params s = refl
run_by_command LightVector params s = refl
run_by_command LightColor params s = refl
run_by_command Shininess params s = refl
run_by_command BeginVtxs params s = refl
run_by_command SwapBuffers params s = refl
run_by_command Viewport params s = refl
run_by_command PosTest params s = refl
run_by_command Vtx16 params s = refl
run_by_command Vtx10 params s = refl
run_by_command VtxXy params s = refl
run_by_command VtxXz params s = refl
run_by_command VtxYz params s = refl
run_by_command VtxDiff params s = refl
run_by_command command params s = refl

-- a polygon leaves them
recent_if : (b : Bool) (p : Polygon) (o : OutcomeState) → (if b then record o { polygons = o.polygons ++ p ∷ [] } else overflown o).recent ≡ o.recent
recent_if true p o = refl
recent_if false p o = refl

pub recent_polygon : (p : Option Polygon) (o : OutcomeState) → (polygon_added p o).recent ≡ o.recent
recent_polygon None o = refl
recent_polygon (Some p) o = recent_if (nat_lt (length o.polygons) most_polygons) p o

arrived_told : (room : Bool) (p : Option Polygon) (a : Numbers) (run : ℕ) (o : OutcomeState) → AreTold run o.recent
    → AreTold (run + 1) (if room then polygon_added p (vertex_added (vertex_of a) o) else vertex_dropped o).recent
arrived_told true p a run o h = subst (AreTold (run + 1)) (sym (recent_polygon p (vertex_added (vertex_of a) o))) (told_then run (Some (length o.vertices)) o.recent h)
arrived_told false p a run o h = told_then run None o.recent h

vertex_told : (a : Numbers) (run : ℕ) (o : OutcomeState) → AreTold run o.recent → AreTold (run + 1) (arrived a o).recent
unfolding arrived
vertex_told a run o h = arrived_told (nat_lt (length o.vertices) most_vertices) (polygon_among (four_recent o) (o.vertices ++ vertex_of a ∷ []) a) a run o h

command_told : (command : GeometryCommand) (params : List ℕ) (s : Numbers) (o : OutcomeState) (a : Numbers) → AreTold s.run o.recent
    → AreTold (run_by command s.run) (if gives_vertex command then arrived a (tested command params s o) else tested command params s o).recent
unfolding tested
command_told BeginVtxs params s o a h = none_told 0
command_told Vtx16 params s o a h = vertex_told a s.run o h
command_told Vtx10 params s o a h = vertex_told a s.run o h
command_told VtxXy params s o a h = vertex_told a s.run o h
command_told VtxXz params s o a h = vertex_told a s.run o h
command_told VtxYz params s o a h = vertex_told a s.run o h
command_told VtxDiff params s o a h = vertex_told a s.run o h
command_told BoxTest params s o a h = h
command_told PosTest params s o a h = h
command_told VecTest params s o a h = h
command_told command params s o a h = h

-- after a command
pub told_after : (command : GeometryCommand) (params : List ℕ) (g : GeometryState) → AreTold g.numbers.run g.outcome.recent
    → AreTold (geometry_after command params g).numbers.run (geometry_after command params g).outcome.recent
unfolding geometry_after
told_after command params g h =
    let a = numbers_after command params g.numbers in
    subst (λ (run : ℕ). AreTold run (outcome_after command params g.numbers g.outcome).recent) (sym (run_by_command command params g.numbers))
    (command_told command params g.numbers g.outcome a h)

-- the same of what a command's parts leave: where it gives a vertex, and where it doesn't
pub told_given : (command : GeometryCommand) (params : List ℕ) (s t : Numbers) (o p q : OutcomeState) → gives_vertex command ≡ true
    → t ≡ numbers_after command params s → p ≡ tested command params s o → q ≡ arrived t p → AreTold s.run o.recent → AreTold t.run q.recent
told_given command params s t o p q gives numbers tests comes h =
    let a = t in
    let both : AreTold (run_by command s.run) (if gives_vertex command then arrived a (tested command params s o) else tested command params s o).recent =
    command_told command params s o a h in
    let chosen : (if gives_vertex command then arrived a (tested command params s o) else tested command params s o) ≡ q =
    ap (λ (b : Bool). if b then arrived a (tested command params s o) else tested command params s o) gives
    ∙ ap (λ (x : OutcomeState). arrived a x) (sym tests) ∙ sym comes in
    subst (λ (x : OutcomeState). AreTold t.run x.recent) chosen
    (subst (λ (run : ℕ). AreTold run (if gives_vertex command then arrived a (tested command params s o) else tested command params s o).recent)
    (sym (ap (λ (n : Numbers). n.run) numbers ∙ run_by_command command params s)) both)

pub told_kept : (command : GeometryCommand) (params : List ℕ) (s t : Numbers) (o p : OutcomeState) → gives_vertex command ≡ false
    → t ≡ numbers_after command params s → p ≡ tested command params s o → AreTold s.run o.recent → AreTold t.run p.recent
told_kept command params s t o p gives numbers tests h =
    let a = t in
    let both : AreTold (run_by command s.run) (if gives_vertex command then arrived a (tested command params s o) else tested command params s o).recent =
    command_told command params s o a h in
    let chosen : (if gives_vertex command then arrived a (tested command params s o) else tested command params s o) ≡ p =
    ap (λ (b : Bool). if b then arrived a (tested command params s o) else tested command params s o) gives ∙ sym tests in
    subst (λ (x : OutcomeState). AreTold t.run x.recent) chosen
    (subst (λ (run : ℕ). AreTold run (if gives_vertex command then arrived a (tested command params s o) else tested command params s o).recent)
    (sym (ap (λ (n : Numbers). n.run) numbers ∙ run_by_command command params s)) both)
