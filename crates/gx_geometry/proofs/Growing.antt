use Rattle.gx_geometry.proofs.Words.{Bool, GeometryCommand, Kind, List, None, Numbers, Option, Polygon, QuadStrip, Quads, Some, TriangleStrip}
use Rattle.gx_geometry.proofs.Words.{Triangles, Vertex, [], ap, append-nil, append_assoc, arith, completed, corners, false, has_corners}
use Rattle.gx_geometry.proofs.Words.{if◌then◌else◌, inl, inr, last_place, length, length-append, length-take-le, low_or_high, most_polygons}
use Rattle.gx_geometry.proofs.Words.{most_vertices, nat_le, option_to_list, place_since, polygon_among, polygon_at, polygon_by, polygon_of, refl}
use Rattle.gx_geometry.proofs.Words.{slice_index_or, subst, suc, sym, take, take-append-le, take_all, true, true≢false, vertex_of, zero, ℕ, ◌%◌, ◌&&◌}
use Rattle.gx_geometry.proofs.Words.{◌*◌, ◌++◌, ◌+◌, ◌-◌, ◌<◌, ◌==◌, ◌||◌, ◌∙◌, ◌∷◌, ◌≡◌, ◌≤◌}
use Rattle.gx_matrix.specs.declared.commands.GeometryCommand.TheVariants.{BeginVtxs, Vtx16, Vtx10, VtxXy, VtxXz, VtxYz, VtxDiff, BoxTest, PosTest, VecTest}
use Rattle.gx_geometry.specs.Changes.{numbers_after, gives_vertex}
use Rattle.gx_geometry.specs.ListLaws.{GeometryAct, Command, ClearError, ClearOverflow, arrivals, polygons_of, vertices_of}
use Rattle.gx_geometry.specs.States.{OutcomeState, GeometryState, IsFresh, AreListsSince, four_recent, none_recent, then_recent, vertex_dropped, polygon_added, vertex_added, arrived, tested, outcome_after, geometry_after, geometry_error_cleared, overflow_cleared, after_all}
use Rattle.gx_geometry.proofs.Backs.{Agrees, same_polygon}
use Rattle.gx_geometry.proofs.Recent.{recent_polygon, run_by, run_by_command}

-- The open lists, which grow command by command, are the lists of all commands since the swap.

-- a polygon is added where there is room
pub polygon_keeps : (p : Option Polygon) (o : OutcomeState) → (polygon_added p o).vertices ≡ o.vertices
polygon_keeps None o = refl
polygon_keeps (Some p) o = grind arith

pub room_for : (p : Polygon) (o : OutcomeState) → length o.polygons < most_polygons → (polygon_added (Some p) o).polygons ≡ o.polygons ++ p ∷ []
room_for p o h = grind arith

pub no_room : (p : Polygon) (o : OutcomeState) → most_polygons ≤ length o.polygons → (polygon_added (Some p) o).polygons ≡ o.polygons
no_room p o h = grind arith

polygon_step : (p : Option Polygon) (o : OutcomeState) (made : List Polygon) → o.polygons ≡ take most_polygons made →
    (polygon_added p o).polygons ≡ take most_polygons (made ++ option_to_list p)
polygon_step None o made e = e ∙ ap (λ (xs : List Polygon). take most_polygons xs) (sym (append-nil made))
polygon_step (Some p) o made e = elim (low_or_high (length made) most_polygons) [
  | inl h ↦
      let same : o.polygons ≡ made = e ∙ take_all most_polygons made (omega arith) in
      let room : length o.polygons < most_polygons = omega (arith, ap (λ (xs : List Polygon). length xs) same) in
      let fits : length (made ++ p ∷ []) ≤ most_polygons = omega (arith, length-append made (p ∷ [])) in
      room_for p o room ∙ ap (λ (xs : List Polygon). xs ++ p ∷ []) same ∙ sym (take_all most_polygons (made ++ p ∷ []) fits)
  | inr h ↦
      let full : most_polygons ≤ length o.polygons = omega (arith, ap (λ (xs : List Polygon). length xs) e, length-take-le most_polygons made h) in
      no_room p o full ∙ e ∙ sym (take-append-le most_polygons made (p ∷ []) h)
]

-- past the limit a vertex makes no polygon
nowhere : (came : List Vertex) (a : Numbers) (place : ℕ) → most_vertices < length came → place_since came a place ≡ None
nowhere came a place h = grind (arith, h)

none_stands : (stands : ℕ → Option ℕ) (p : ℕ) (ps : List ℕ) → stands p ≡ None → has_corners stands (p ∷ ps) ≡ false
unfolding has_corners
none_stands stands p ps h = rw h refl

none_at : (came : List Vertex) (a : Numbers) (p : ℕ) (ps : List ℕ) → most_vertices < length came
    → polygon_at (place_since came a) came a (p ∷ ps) ≡ None
none_at came a p ps h = rw (none_stands (place_since came a) p ps (nowhere came a p h)) refl

strip_at : (came : List Vertex) (a : Numbers) (k : ℕ) (b : Bool) → most_vertices < length came
    → polygon_at (place_since came a) came a (if b then k ∷ (k + 1) ∷ (k + 2) ∷ [] else (k + 1) ∷ k ∷ (k + 2) ∷ []) ≡ None
strip_at came a k true h = none_at came a k _ h
strip_at came a k false h = none_at came a (k + 1) _ h

kind_dropped : (kind : Kind) (k : ℕ) (came : List Vertex) (a : Numbers) → most_vertices < length came
    → polygon_at (place_since came a) came a (corners kind k) ≡ None
kind_dropped Triangles k came a h = none_at came a (3 * k) _ h
kind_dropped Quads k came a h = none_at came a (4 * k) _ h
kind_dropped TriangleStrip k came a h = strip_at came a k (k % 2 == 0) h
kind_dropped QuadStrip k came a h = none_at came a (2 * k) _ h

none_dropped : (k : Option ℕ) (came : List Vertex) (a : Numbers) → most_vertices < length came → polygon_by k (place_since came a) came a ≡ None
none_dropped None came a h = refl
none_dropped (Some k) came a h = kind_dropped a.kind k came a h

pub dropped : (came : List Vertex) (a : Numbers) → most_vertices < length came → polygon_of came a ≡ None
unfolding polygon_of
dropped came a h = none_dropped (completed a.kind (last_place a)) came a h

-- a vertex comes: both lists go on as those of all vertices and polygons, cut at the limits
pub arrived_room : (a : Numbers) (o : OutcomeState) → length o.vertices < most_vertices →
    arrived a o ≡ polygon_added (polygon_among (four_recent o) (o.vertices ++ vertex_of a ∷ []) a) (vertex_added (vertex_of a) o)
unfolding arrived
arrived_room a o h = grind arith

pub arrived_full : (a : Numbers) (o : OutcomeState) → most_vertices ≤ length o.vertices → arrived a o ≡ vertex_dropped o
unfolding arrived
arrived_full a o h = grind arith

pub record Holds (o : OutcomeState) (came : List Vertex) (made : List Polygon) : Type 0 where
  pub vertices_are : o.vertices ≡ take most_vertices came
  pub polygons_are : o.polygons ≡ take most_polygons made

unfoldable pub polygons_with : Numbers → List Vertex → List Polygon → List Polygon
polygons_with a came made = made ++ option_to_list (polygon_of (came ++ vertex_of a ∷ []) a)

-- the polygon that is made of the run's last vertices is that of all that came
unfoldable pub SamePolygon : Numbers → OutcomeState → List Vertex → Type 0
SamePolygon a o came =
    length came < most_vertices → polygon_among (four_recent o) (o.vertices ++ vertex_of a ∷ []) a ≡ polygon_of (came ++ vertex_of a ∷ []) a

arrived_holds : (a : Numbers) (o : OutcomeState) (came : List Vertex) (made : List Polygon) → SamePolygon a o came → Holds o came made →
    Holds (arrived a o) (came ++ vertex_of a ∷ []) (polygons_with a came made)
unfolding polygons_with SamePolygon
arrived_holds a o came made makes held = elim (low_or_high (length came) most_vertices) [
  | inl h ↦
      let same : o.vertices ≡ came = held.vertices_are ∙ take_all most_vertices came (omega arith) in
      let room : length o.vertices < most_vertices = omega (arith, ap (λ (xs : List Vertex). length xs) same) in
      let fits : length (came ++ vertex_of a ∷ []) ≤ most_vertices = omega (arith, length-append came (vertex_of a ∷ [])) in
      let p : Option Polygon = polygon_among (four_recent o) (o.vertices ++ vertex_of a ∷ []) a in
      record {
        vertices_are = ap (λ (x : OutcomeState). x.vertices) (arrived_room a o room) ∙ polygon_keeps p (vertex_added (vertex_of a) o)
            ∙ ap (λ (xs : List Vertex). xs ++ vertex_of a ∷ []) same ∙ sym (take_all most_vertices (came ++ vertex_of a ∷ []) fits);
        polygons_are = ap (λ (x : OutcomeState). x.polygons) (arrived_room a o room) ∙ polygon_step p (vertex_added (vertex_of a) o) made held.polygons_are
            ∙ ap (λ (q : Option Polygon). take most_polygons (made ++ option_to_list q)) (makes h);
      }
  | inr h ↦
      let full : most_vertices ≤ length o.vertices =
      omega (arith, ap (λ (xs : List Vertex). length xs) held.vertices_are, length-take-le most_vertices came h) in
      let past : most_vertices < length (came ++ vertex_of a ∷ []) = omega (arith, length-append came (vertex_of a ∷ [])) in
      record {
        vertices_are = ap (λ (x : OutcomeState). x.vertices) (arrived_full a o full) ∙ held.vertices_are
            ∙ sym (take-append-le most_vertices came (vertex_of a ∷ []) h);
        polygons_are = ap (λ (x : OutcomeState). x.polygons) (arrived_full a o full) ∙ held.polygons_are
            ∙ sym (ap (λ (p : Option Polygon). take most_polygons (made ++ option_to_list p)) (dropped (came ++ vertex_of a ∷ []) a past)
            ∙ ap (λ (xs : List Polygon). take most_polygons xs) (append-nil made));
      }
]

-- a command, which gives a vertex or doesn't
pub step_holds : (b : Bool) (a : Numbers) (o : OutcomeState) (came : List Vertex) (made : List Polygon) → (b ≡ true → SamePolygon a o came)
    → Holds o came made →
    Holds (if b then arrived a o else o) (if b then came ++ vertex_of a ∷ [] else came) (if b then polygons_with a came made else made)
step_holds true a o came made makes held = arrived_holds a o came made (makes refl) held
step_holds false a o came made makes held = held

pub step_vertices : (b : Bool) (a : Numbers) (came : List Vertex) (later : List Numbers) →
    (if b then came ++ vertex_of a ∷ [] else came) ++ vertices_of later ≡ came ++ vertices_of (if b then a ∷ later else later)
step_vertices true a came later = append_assoc came (vertex_of a ∷ []) (vertices_of later)
step_vertices false a came later = refl

pub step_polygons : (b : Bool) (a : Numbers) (came : List Vertex) (made : List Polygon) (later : List Numbers) →
    (if b then polygons_with a came made else made) ++ polygons_of (if b then came ++ vertex_of a ∷ [] else came) later
    ≡ made ++ polygons_of came (if b then a ∷ later else later)
unfolding polygons_of polygons_with
step_polygons true a came made later =
    append_assoc made (option_to_list (polygon_of (came ++ vertex_of a ∷ []) a)) (polygons_of (came ++ vertex_of a ∷ []) later)
step_polygons false a came made later = refl

-- where the last so many of a run's vertices stands among those that came
abbrev pub back_place : ℕ → ℕ → ℕ → Option ℕ
back_place came run back = if nat_le back run && nat_le back came then Some (came - back) else None

pub record AreBack (came run : ℕ) (recent : List (Option ℕ)) : Type 0 where
  pub first : slice_index_or recent 0 None ≡ back_place came run 3
  pub second : slice_index_or recent 1 None ≡ back_place came run 2
  pub third : slice_index_or recent 2 None ≡ back_place came run 1

-- the run's last three stand so, as long as none was dropped
unfoldable pub IsLinked : List Vertex → ℕ → List (Option ℕ) → Type 0
IsLinked came run recent = length came ≤ most_vertices → AreBack (length came) run recent

pub fresh_linked : (run : ℕ) (recent : List (Option ℕ)) → recent ≡ none_recent → IsLinked [] run recent
unfolding IsLinked
fresh_linked run recent e few = rw e (record { first = grind arith; second = grind arith; third = grind arith })

back_more : (came run back : ℕ) → back_place came run back ≡ back_place (came + 1) (run + 1) (back + 1)
back_more came run back = grind arith

back_last : (came run : ℕ) → Some came ≡ back_place (came + 1) (run + 1) 1
back_last came run = grind arith

then_back : (came run : ℕ) (recent : List (Option ℕ)) → AreBack came run recent → AreBack (came + 1) (run + 1) (then_recent (Some came) recent)
then_back came run recent h = record {
  first = h.second ∙ back_more came run 2;
  second = h.third ∙ back_more came run 1;
  third = back_last came run;
}

vertex_linked : (a : Numbers) (run : ℕ) (o : OutcomeState) (came : List Vertex) (made : List Polygon) → Holds o came made
    → IsLinked came run o.recent →
    IsLinked (came ++ vertex_of a ∷ []) (run + 1) (arrived a o).recent
unfolding IsLinked
vertex_linked a run o came made held linked few =
    let one : length (came ++ vertex_of a ∷ []) ≡ length came + 1 = length-append came (vertex_of a ∷ []) in
    let same : o.vertices ≡ came = held.vertices_are ∙ take_all most_vertices came (omega (arith, one, few)) in
    let long : length o.vertices ≡ length came = ap (λ (xs : List Vertex). length xs) same in
    let room : length o.vertices < most_vertices = omega (arith, long, one, few) in
    let p = polygon_among (four_recent o) (o.vertices ++ vertex_of a ∷ []) a in
    let recent : then_recent (Some (length came)) o.recent ≡ (arrived a o).recent =
    ap (λ (n : ℕ). then_recent (Some n) o.recent) (sym long) ∙ sym (recent_polygon p (vertex_added (vertex_of a) o)) ∙ sym (ap (λ (x : OutcomeState). x.recent) (arrived_room a o room)) in
    rw one (subst (AreBack (length came + 1) (run + 1)) recent (then_back (length came) run o.recent (linked (omega (arith, one, few)))))

begun_linked : (came : List Vertex) → IsLinked came 0 none_recent
unfolding IsLinked
begun_linked came few = record { first = refl; second = refl; third = refl }

-- a command
step_linked : (command : GeometryCommand) (params : List ℕ) (s : Numbers) (o : OutcomeState) (a : Numbers) (came : List Vertex) (made : List Polygon) → Holds o came made →
    IsLinked came s.run o.recent →
    IsLinked (if gives_vertex command then came ++ vertex_of a ∷ [] else came) (run_by command s.run)
    (if gives_vertex command then arrived a (tested command params s o) else tested command params s o).recent
unfolding tested
step_linked BeginVtxs params s o a came made held linked = begun_linked came
step_linked Vtx16 params s o a came made held linked = vertex_linked a s.run o came made held linked
step_linked Vtx10 params s o a came made held linked = vertex_linked a s.run o came made held linked
step_linked VtxXy params s o a came made held linked = vertex_linked a s.run o came made held linked
step_linked VtxXz params s o a came made held linked = vertex_linked a s.run o came made held linked
step_linked VtxYz params s o a came made held linked = vertex_linked a s.run o came made held linked
step_linked VtxDiff params s o a came made held linked = vertex_linked a s.run o came made held linked
step_linked BoxTest params s o a came made held linked = linked
step_linked PosTest params s o a came made held linked = linked
step_linked VecTest params s o a came made held linked = linked
step_linked command params s o a came made held linked = linked

pub command_linked : (command : GeometryCommand) (params : List ℕ) (g : GeometryState) (came : List Vertex) (made : List Polygon)
    → Holds g.outcome came made →
    IsLinked came g.numbers.run g.outcome.recent →
    IsLinked (if gives_vertex command then came ++ vertex_of (numbers_after command params g.numbers) ∷ [] else came)
    (geometry_after command params g).numbers.run (geometry_after command params g).outcome.recent
unfolding geometry_after
command_linked command params g came made held linked =
    let a = numbers_after command params g.numbers in
    subst (λ (run : ℕ). IsLinked (if gives_vertex command then came ++ vertex_of a ∷ [] else came) run (outcome_after command params g.numbers g.outcome).recent)
    (sym (run_by_command command params g.numbers)) (step_linked command params g.numbers g.outcome a came made held linked)

-- so the polygon is the one of all that came
run_given : (command : GeometryCommand) (run : ℕ) → gives_vertex command ≡ true → run_by command run ≡ run + 1
run_given BeginVtxs run h = absurd (true≢false (sym h))
run_given Vtx16 run h = refl
run_given Vtx10 run h = refl
run_given VtxXy run h = refl
run_given VtxXz run h = refl
run_given VtxYz run h = refl
run_given VtxDiff run h = refl
run_given command run h = absurd (true≢false (sym h))

back_is : (came run last p b : ℕ) (four : List (Option ℕ)) → slice_index_or four 3 None ≡ Some came → slice_index_or four 2 None ≡ back_place came run 1
    → slice_index_or four 1 None ≡ back_place came run 2 → slice_index_or four 0 None ≡ back_place came run 3 → b ≤ 3
    → slice_index_or four (3 - b) None ≡ (if nat_le b came && (nat_le b run || b == 0) then Some (came - b) else None)
back_is came run last p zero four d c b a few = grind (arith, d)
back_is came run last p (suc zero) four d c b a few = grind (arith, c)
back_is came run last p (suc (suc zero)) four d c b a few = grind (arith, b)
back_is came run last p (suc (suc (suc zero))) four d c b a few = grind (arith, a)
back_is came run last p (suc (suc (suc (suc n)))) four d c b a few = absurd (omega (arith, few))

since_is : (came : List Vertex) (a : Numbers) (n p b : ℕ) → length came ≡ n + 1 → n < most_vertices → last_place a ≡ p + b
    → place_since came a p ≡ (if nat_le b n && (nat_le b (last_place a) || b == 0) then Some (n - b) else None)
since_is came a n p b long few e = grind (arith, long, few, e)

agree : (a : Numbers) (o : OutcomeState) (came : List Vertex) → length came < most_vertices → length o.vertices ≡ length came
    → AreBack (length came) (last_place a) o.recent
    → Agrees (place_since (came ++ vertex_of a ∷ []) a) (four_recent o) (last_place a)
unfolding Agrees
agree a o came room long back p b e few =
    let one : length (came ++ vertex_of a ∷ []) ≡ length came + 1 = length-append came (vertex_of a ∷ []) in
    since_is (came ++ vertex_of a ∷ []) a (length came) p b one room e
    ∙ sym (back_is (length came) (last_place a) (last_place a) p b (four_recent o) (ap (λ (n : ℕ). Some n) long) back.third back.second back.first few)

same_made : (a : Numbers) (run : ℕ) (o : OutcomeState) (came : List Vertex) (made : List Polygon) → last_place a ≡ run → Holds o came made
    → IsLinked came run o.recent →
    SamePolygon a o came
unfolding SamePolygon IsLinked
same_made a run o came made place held linked room =
    let same : o.vertices ≡ came = held.vertices_are ∙ take_all most_vertices came (omega (arith, room)) in
    let long : length o.vertices ≡ length came = ap (λ (xs : List Vertex). length xs) same in
    let back : AreBack (length came) (last_place a) o.recent =
    subst (λ (n : ℕ). AreBack (length came) n o.recent) (sym place) (linked (omega (arith, room))) in
    ap (λ (xs : List Vertex). polygon_among (four_recent o) (xs ++ vertex_of a ∷ []) a) same
    ∙ same_polygon (four_recent o) (came ++ vertex_of a ∷ []) a (agree a o came room long back)

tested_recent : (command : GeometryCommand) (params : List ℕ) (s : Numbers) (o : OutcomeState) → gives_vertex command ≡ true
    → (tested command params s o).recent ≡ o.recent
unfolding tested
tested_recent BeginVtxs params s o h = absurd (true≢false (sym h))
tested_recent BoxTest params s o h = refl
tested_recent PosTest params s o h = refl
tested_recent VecTest params s o h = refl
tested_recent _ params s o h = refl

-- a test leaves the lists
pub tested_holds : (command : GeometryCommand) (params : List ℕ) (s : Numbers) (o : OutcomeState) (came : List Vertex) (made : List Polygon) → Holds o came made →
    Holds (tested command params s o) came made
unfolding tested
tested_holds BoxTest params s o came made held = record { vertices_are = held.vertices_are; polygons_are = held.polygons_are }
tested_holds PosTest params s o came made held = record { vertices_are = held.vertices_are; polygons_are = held.polygons_are }
tested_holds VecTest params s o came made held = record { vertices_are = held.vertices_are; polygons_are = held.polygons_are }
tested_holds BeginVtxs params s o came made held = record { vertices_are = held.vertices_are; polygons_are = held.polygons_are }
tested_holds _ params s o came made held = held

pub same_given : (command : GeometryCommand) (params : List ℕ) (s : Numbers) (o : OutcomeState) (came : List Vertex) (made : List Polygon)
    → Holds o came made →
    IsLinked came s.run o.recent → gives_vertex command ≡ true
    → SamePolygon (numbers_after command params s) (tested command params s o) came
same_given command params s o came made held linked gives =
    let a = numbers_after command params s in
    let place : last_place a ≡ s.run = let run = run_by_command command params s in let one = run_given command s.run gives in omega (arith, run, one) in
    same_made a s.run (tested command params s o) came made place (tested_holds command params s o came made held)
    (subst (IsLinked came s.run) (sym (tested_recent command params s o gives)) linked)

-- a list of acts
pub grown : (acts : List GeometryAct) (g : GeometryState) (came : List Vertex) (made : List Polygon)
    → IsLinked came g.numbers.run g.outcome.recent → Holds g.outcome came made →
    Holds (after_all acts g).outcome (came ++ vertices_of (arrivals g.numbers acts)) (made ++ polygons_of came (arrivals g.numbers acts))
    × IsLinked (came ++ vertices_of (arrivals g.numbers acts)) (after_all acts g).numbers.run (after_all acts g).outcome.recent
unfolding after_all arrivals geometry_after polygons_of
grown [] g came made linked held = (
  record {
    vertices_are = held.vertices_are ∙ ap (λ (xs : List Vertex). take most_vertices xs) (sym (append-nil came));
    polygons_are = held.polygons_are ∙ ap (λ (xs : List Polygon). take most_polygons xs) (sym (append-nil made));
  },
  subst (λ (xs : List Vertex). IsLinked xs g.numbers.run g.outcome.recent) (sym (append-nil came)) linked,
)
grown (Command command params ∷ acts) g came made linked held =
    let b : Bool = gives_vertex command in
    let a : Numbers = numbers_after command params g.numbers in
    let o : OutcomeState = tested command params g.numbers g.outcome in
    let kept : Holds o came made = tested_holds command params g.numbers g.outcome came made held in
    let came' : List Vertex = if b then came ++ vertex_of a ∷ [] else came in
    let made' : List Polygon = if b then polygons_with a came made else made in
    let makes : b ≡ true → SamePolygon a o came = same_given command params g.numbers g.outcome came made held linked in
    let next : GeometryState = geometry_after command params g in
    let rest = grown acts next came' made' (command_linked command params g came made held linked) (step_holds b a o came made makes kept) in
    let later : List Numbers = arrivals (numbers_after command params g.numbers) acts in (
      record {
        vertices_are = rest.0.vertices_are ∙ ap (λ (xs : List Vertex). take most_vertices xs) (step_vertices b a came later);
        polygons_are = rest.0.polygons_are ∙ ap (λ (xs : List Polygon). take most_polygons xs) (step_polygons b a came made later);
      },
      subst (λ (xs : List Vertex). IsLinked xs (after_all acts next).numbers.run (after_all acts next).outcome.recent) (step_vertices b a came later) rest.1,
    )
grown (ClearError ∷ acts) g came made linked held = grown acts (geometry_error_cleared g) came made linked held
grown (ClearOverflow ∷ acts) g came made linked held =
    grown acts (overflow_cleared g) came made linked (record { vertices_are = held.vertices_are; polygons_are = held.polygons_are })

-- the open lists are those of all that was done since a swap
pub fresh_holds : (g : GeometryState) → IsFresh g → Holds g.outcome [] []
fresh_holds g fresh = record { vertices_are = fresh.no_vertex; polygons_are = fresh.no_polygon }

pub open_lists : (g : GeometryState) → AreListsSince g g.outcome.vertices g.outcome.polygons
open_lists g start acts fresh e =
    let all : Holds (after_all acts start).outcome (vertices_of (arrivals start.numbers acts)) (polygons_of [] (arrivals start.numbers acts)) =
    (grown acts start [] [] (fresh_linked start.numbers.run start.outcome.recent fresh.no_recent) (fresh_holds start fresh)).0 in
    record {
      by_vertices = sym (ap (λ (x : GeometryState). x.outcome.vertices) e) ∙ all.vertices_are;
      by_polygons = sym (ap (λ (x : GeometryState). x.outcome.polygons) e) ∙ all.polygons_are;
    }
