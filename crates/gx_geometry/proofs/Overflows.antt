use Rattle.gx_geometry.proofs.Words.{Bool, GeometryCommand, List, None, Numbers, Option, Polygon, Some, Vertex, [], ap, append-nil, append_assoc}
use Rattle.gx_geometry.proofs.Words.{arith, false, if◌then◌else◌, inl, inr, length, length-append, length-take-le, low_or_high, most_polygons}
use Rattle.gx_geometry.proofs.Words.{most_vertices, nat_lt, option_to_list, polygon_among, polygon_of, refl, sym, take, take_all, true, vertex_of, ℕ}
use Rattle.gx_geometry.proofs.Words.{◌++◌, ◌+◌, ◌-◌, ◌<◌, ◌||◌, ◌∙◌, ◌∷◌, ◌≡◌, ◌≤◌}
use Rattle.gx_matrix.specs.declared.commands.GeometryCommand.TheVariants.{BeginVtxs, BoxTest, PosTest, VecTest}
use Rattle.gx_geometry.specs.Changes.{numbers_after, gives_vertex}
use Rattle.gx_geometry.specs.ListLaws.{GeometryAct, Command, ClearError, ClearOverflow, arrivals, polygons_of, vertices_of, AreNoClear}
use Rattle.gx_geometry.specs.Lists.{numbers_cleared}
use Rattle.gx_geometry.specs.States.{OutcomeState, GeometryState, IsOverflowSince, four_recent, polygon_added, vertex_added, arrived, tested, geometry_after, geometry_error_cleared, overflow_cleared, after_all}
use Rattle.gx_geometry.proofs.Growing.{arrived_room, arrived_full, dropped, command_linked, fresh_linked, Holds, IsLinked, polygons_with, same_given, SamePolygon, step_holds, step_vertices, step_polygons, tested_holds, grown, fresh_holds}

-- The overflow is set where something was dropped since it was cleared.

-- how many vertices and polygons were dropped, of all that came and were made
unfoldable pub excess : List Vertex → List Polygon → ℕ
excess came made = (length came - most_vertices) + (length made - most_polygons)

or_same : (o : Bool) (m n : ℕ) → n ≤ m → o ≡ (o || nat_lt m n)
or_same true m n h = refl
or_same false m n h = grind (arith, h)

or_more : (o : Bool) (m n : ℕ) → m < n → true ≡ (o || nat_lt m n)
or_more true m n h = refl
or_more false m n h = grind (arith, h)

or_join : (o : Bool) (x y z : ℕ) → x ≤ y → y ≤ z → ((o || nat_lt x y) || nat_lt y z) ≡ (o || nat_lt x z)
or_join true x y z h k = refl
or_join false x y z h k = grind (arith, h, k)

no_room : (p : Polygon) (o : OutcomeState) → most_polygons ≤ length o.polygons → (polygon_added (Some p) o).overflow ≡ true
no_room p o h = grind arith

with_room : (p : Polygon) (o : OutcomeState) → length o.polygons < most_polygons → (polygon_added (Some p) o).overflow ≡ o.overflow
with_room p o h = grind arith

-- a polygon more, where k vertices were dropped before
polygon_flag : (p : Option Polygon) (o : OutcomeState) (made : List Polygon) → o.polygons ≡ take most_polygons made →
    (polygon_added p o).overflow ≡ (o.overflow || nat_lt (length made - most_polygons) (length (made ++ option_to_list p) - most_polygons))
polygon_flag None o made e = or_same o.overflow (length made - most_polygons) (length (made ++ []) - most_polygons) (omega (arith, length-append made []))
polygon_flag (Some p) o made e =
    let one : length (made ++ p ∷ []) ≡ length made + 1 = length-append made (p ∷ []) in
    elim (low_or_high (length made) most_polygons) [
      | inl h ↦
          (let same : o.polygons ≡ made = e ∙ take_all most_polygons made (omega arith) in
          let room : length o.polygons < most_polygons = omega (arith, ap (λ (xs : List Polygon). length xs) same) in
          with_room p o room ∙ or_same o.overflow (length made - most_polygons) (length (made ++ p ∷ []) - most_polygons) (omega (arith, one)))
      | inr h ↦
          (let full : most_polygons ≤ length o.polygons = omega (arith, ap (λ (xs : List Polygon). length xs) e, length-take-le most_polygons made h) in
          no_room p o full ∙ or_more o.overflow (length made - most_polygons) (length (made ++ p ∷ []) - most_polygons) (omega (arith, one)))
    ]

same_excess : (m n i j : ℕ) → i ≡ 0 → j ≡ 0 → nat_lt m n ≡ nat_lt (i + m) (j + n)
same_excess m n i j h l = grind (arith, h, l)

-- a vertex more
arrived_flag : (a : Numbers) (o : OutcomeState) (came : List Vertex) (made : List Polygon) → SamePolygon a o came → Holds o came made →
    (arrived a o).overflow ≡ (o.overflow || nat_lt (excess came made) (excess (came ++ vertex_of a ∷ []) (polygons_with a came made)))
unfolding excess polygons_with SamePolygon
arrived_flag a o came made makes held =
    let one : length (came ++ vertex_of a ∷ []) ≡ length came + 1 = length-append came (vertex_of a ∷ []) in
    elim (low_or_high (length came) most_vertices) [
      | inl h ↦
          (let same : o.vertices ≡ came = held.vertices_are ∙ take_all most_vertices came (omega arith) in
          let room : length o.vertices < most_vertices = omega (arith, ap (λ (xs : List Vertex). length xs) same) in
          let p : Option Polygon = polygon_among (four_recent o) (o.vertices ++ vertex_of a ∷ []) a in
          let q : Option Polygon = polygon_of (came ++ vertex_of a ∷ []) a in
          let pq : p ≡ q = makes h in
          ap (λ (x : OutcomeState). x.overflow) (arrived_room a o room)
          ∙ polygon_flag p (vertex_added (vertex_of a) o) made held.polygons_are
          ∙ ap (λ (x : Option Polygon). o.overflow || nat_lt (length made - most_polygons) (length (made ++ option_to_list x) - most_polygons)) pq
          ∙ ap (λ (b : Bool). o.overflow || b)
          (same_excess (length made - most_polygons) (length (made ++ option_to_list q) - most_polygons) (length came - most_vertices) (length (came ++ vertex_of a ∷ []) - most_vertices)
          (omega arith) (omega (arith, one))))
      | inr h ↦
          (let full : most_vertices ≤ length o.vertices =
          omega (arith, ap (λ (xs : List Vertex). length xs) held.vertices_are, length-take-le most_vertices came h) in
          let past : most_vertices < length (came ++ vertex_of a ∷ []) = omega (arith, one) in
          let none : polygon_of (came ++ vertex_of a ∷ []) a ≡ None = dropped (came ++ vertex_of a ∷ []) a past in
          let made_same : length (made ++ option_to_list (polygon_of (came ++ vertex_of a ∷ []) a)) ≡ length made =
          ap (λ (x : Option Polygon). length (made ++ option_to_list x)) none ∙ ap (λ (xs : List Polygon). length xs) (append-nil made) in
          ap (λ (x : OutcomeState). x.overflow) (arrived_full a o full)
          ∙ or_more o.overflow ((length came - most_vertices) + (length made - most_polygons))
          ((length (came ++ vertex_of a ∷ []) - most_vertices) + (length (made ++ option_to_list (polygon_of (came ++ vertex_of a ∷ []) a)) - most_polygons))
          (omega (arith, one, made_same)))
    ]

excess_grows : (came more : List Vertex) (made others : List Polygon) → excess came made ≤ excess (came ++ more) (made ++ others)
unfolding excess
excess_grows came more made others = omega (arith, length-append came more, length-append made others)

-- a command, which gives a vertex or doesn't
step_flag : (b : Bool) (a : Numbers) (o : OutcomeState) (came : List Vertex) (made : List Polygon) → (b ≡ true → SamePolygon a o came)
    → Holds o came made →
    (if b then arrived a o else o).overflow
    ≡ (o.overflow || nat_lt (excess came made) (excess (if b then came ++ vertex_of a ∷ [] else came) (if b then polygons_with a came made else made)))
step_flag true a o came made makes held = arrived_flag a o came made (makes refl) held
step_flag false a o came made makes held = or_same o.overflow (excess came made) (excess came made) (omega arith)

step_grows : (b : Bool) (a : Numbers) (came : List Vertex) (made : List Polygon) →
    excess came made ≤ excess (if b then came ++ vertex_of a ∷ [] else came) (if b then polygons_with a came made else made)
unfolding polygons_with
step_grows true a came made = excess_grows came (vertex_of a ∷ []) made (option_to_list (polygon_of (came ++ vertex_of a ∷ []) a))
step_grows false a came made = omega arith

-- what a command tests leaves the overflow
tested_flag : (command : GeometryCommand) (params : List ℕ) (s : Numbers) (o : OutcomeState) → (tested command params s o).overflow ≡ o.overflow
unfolding tested
tested_flag BoxTest params s o = refl
tested_flag PosTest params s o = refl
tested_flag VecTest params s o = refl
tested_flag BeginVtxs params s o = refl
tested_flag _ params s o = refl

-- a list of acts of which none clears it
pub flag_after : (acts : List GeometryAct) (g : GeometryState) (came : List Vertex) (made : List Polygon) → AreNoClear acts
    → IsLinked came g.numbers.run g.outcome.recent
    → Holds g.outcome came made →
    (after_all acts g).outcome.overflow
    ≡ (g.outcome.overflow || nat_lt (excess came made) (excess (came ++ vertices_of (arrivals g.numbers acts)) (made ++ polygons_of came (arrivals g.numbers acts))))
unfolding after_all arrivals geometry_after polygons_of
flag_after [] g came made none linked held =
    let v : came ++ [] ≡ came = append-nil came in
    let p : made ++ [] ≡ made = append-nil made in
    rw (v, p) (or_same g.outcome.overflow (excess came made) (excess came made) (omega arith))
flag_after (Command command params ∷ acts) g came made none linked held =
    let b : Bool = gives_vertex command in
    let a : Numbers = numbers_after command params g.numbers in
    let o : OutcomeState = tested command params g.numbers g.outcome in
    let next : GeometryState = geometry_after command params g in
    let kept : Holds o came made = tested_holds command params g.numbers g.outcome came made held in
    let came' : List Vertex = if b then came ++ vertex_of a ∷ [] else came in
    let made' : List Polygon = if b then polygons_with a came made else made in
    let later : List Numbers = arrivals (numbers_after command params g.numbers) acts in
    let end : ℕ = excess (came' ++ vertices_of later) (made' ++ polygons_of came' later) in
    let makes : b ≡ true → SamePolygon a o came = same_given command params g.numbers g.outcome came made held linked in
    flag_after acts next came' made' none (command_linked command params g came made held linked) (step_holds b a o came made makes kept)
    ∙ ap (λ (f : Bool). f || nat_lt (excess came' made') end) (step_flag b a o came made makes kept)
    ∙ ap (λ (f : Bool). (f || nat_lt (excess came made) (excess came' made')) || nat_lt (excess came' made') end) (tested_flag command params g.numbers g.outcome)
    ∙ or_join g.outcome.overflow (excess came made) (excess came' made') end (step_grows b a came made) (excess_grows came' (vertices_of later) made' (polygons_of came' later))
    ∙ ap (λ (xs : List Vertex). g.outcome.overflow || nat_lt (excess came made) (excess xs (made' ++ polygons_of came' later))) (step_vertices b a came later)
    ∙ ap (λ (xs : List Polygon). g.outcome.overflow || nat_lt (excess came made) (excess (came ++ vertices_of (if b then a ∷ later else later)) xs)) (step_polygons b a came made later)
flag_after (ClearError ∷ acts) g came made none linked held = flag_after acts (geometry_error_cleared g) came made none linked held
flag_after (ClearOverflow ∷ acts) g came made none linked held = absurd none

-- ---- some acts, and then more

numbers_by : GeometryAct → Numbers → Numbers
numbers_by (Command command params) s = numbers_after command params s
numbers_by ClearError s = numbers_cleared s
numbers_by ClearOverflow s = s

numbers_all : List GeometryAct → Numbers → Numbers
numbers_all [] s = s
numbers_all (act ∷ acts) s = numbers_all acts (numbers_by act s)

after_numbers : (acts : List GeometryAct) (g : GeometryState) → (after_all acts g).numbers ≡ numbers_all acts g.numbers
unfolding after_all geometry_after numbers_all numbers_by
after_numbers [] g = refl
after_numbers (Command command params ∷ acts) g = after_numbers acts (geometry_after command params g)
after_numbers (ClearError ∷ acts) g = after_numbers acts (geometry_error_cleared g)
after_numbers (ClearOverflow ∷ acts) g = after_numbers acts (overflow_cleared g)

after_append : (xs ys : List GeometryAct) (g : GeometryState) → after_all (xs ++ ys) g ≡ after_all ys (after_all xs g)
unfolding after_all
after_append [] ys g = refl
after_append (Command command params ∷ xs) ys g = after_append xs ys (geometry_after command params g)
after_append (ClearError ∷ xs) ys g = after_append xs ys (geometry_error_cleared g)
after_append (ClearOverflow ∷ xs) ys g = after_append xs ys (overflow_cleared g)

front_if : (b : Bool) (a : Numbers) (xs ys zs : List Numbers) → xs ≡ ys ++ zs → (if b then a ∷ xs else xs) ≡ (if b then a ∷ ys else ys) ++ zs
front_if true a xs ys zs e = ap (λ (l : List Numbers). a ∷ l) e
front_if false a xs ys zs e = e

arrivals_append : (xs ys : List GeometryAct) (s : Numbers) → arrivals s (xs ++ ys) ≡ arrivals s xs ++ arrivals (numbers_all xs s) ys
unfolding arrivals numbers_all numbers_by
arrivals_append [] ys s = refl
arrivals_append (Command command params ∷ xs) ys s =
    let after : Numbers = numbers_after command params s in
    front_if (gives_vertex command) after (arrivals after (xs ++ ys)) (arrivals after xs) (arrivals (numbers_all xs after) ys) (arrivals_append xs ys after)
arrivals_append (ClearError ∷ xs) ys s = arrivals_append xs ys (numbers_cleared s)
arrivals_append (ClearOverflow ∷ xs) ys s = arrivals_append xs ys s

vertices_append : (xs ys : List Numbers) → vertices_of (xs ++ ys) ≡ vertices_of xs ++ vertices_of ys
vertices_append [] ys = refl
vertices_append (x ∷ xs) ys = ap (λ (l : List Vertex). vertex_of x ∷ l) (vertices_append xs ys)

polygons_append : (xs ys : List Numbers) (came : List Vertex) → polygons_of came (xs ++ ys) ≡ polygons_of came xs ++ polygons_of (came ++ vertices_of xs) ys
unfolding polygons_of
polygons_append [] ys came = ap (λ (l : List Vertex). polygons_of l ys) (sym (append-nil came))
polygons_append (x ∷ xs) ys came =
    let here : List Vertex = came ++ vertex_of x ∷ [] in
    let one : List Polygon = option_to_list (polygon_of here x) in
    ap (λ (l : List Polygon). one ++ l) (polygons_append xs ys here)
    ∙ ap (λ (l : List Vertex). one ++ (polygons_of here xs ++ polygons_of l ys)) (append_assoc came (vertex_of x ∷ []) (vertices_of xs))
    ∙ sym (append_assoc one (polygons_of here xs) (polygons_of (came ++ vertex_of x ∷ vertices_of xs) ys))

-- acts, a clearing of the overflow, and more acts
whole : (before after : List GeometryAct) (s : Numbers) → arrivals s (before ++ ClearOverflow ∷ after) ≡ arrivals s before ++ arrivals (numbers_all before s) after
unfolding arrivals
whole before after s = arrivals_append before (ClearOverflow ∷ after) s

whole_state : (before after : List GeometryAct) (g : GeometryState) → after_all (before ++ ClearOverflow ∷ after) g ≡ after_all after (overflow_cleared (after_all before g))
unfolding after_all
whole_state before after g = after_append before (ClearOverflow ∷ after) g

-- the overflow is that of all that was done since a swap
pub open_overflow : (g : GeometryState) → IsOverflowSince g g.outcome.overflow
unfolding excess
open_overflow g start acts fresh e = record {
  never_cleared = λ none. sym (ap (λ (x : GeometryState). x.outcome.overflow) e) ∙ flag_after acts start [] [] none (fresh_linked start.numbers.run start.outcome.recent fresh.no_recent) (fresh_holds start fresh);
  cleared = λ before after split none.
      (let first : List Numbers = arrivals start.numbers before in
      let mid : GeometryState = after_all before start in
      let both = grown before start [] [] (fresh_linked start.numbers.run start.outcome.recent fresh.no_recent) (fresh_holds start fresh) in
      let held : Holds mid.outcome (vertices_of first) (polygons_of [] first) = both.0 in
      let linked : IsLinked (vertices_of first) mid.numbers.run mid.outcome.recent = both.1 in
      let later : List Numbers = arrivals mid.numbers after in
      let numbers : mid.numbers ≡ numbers_all before start.numbers = after_numbers before start in
      let all : arrivals start.numbers acts ≡ first ++ later =
      ap (λ (l : List GeometryAct). arrivals start.numbers l) split ∙ whole before after start.numbers ∙ ap (λ (n : Numbers). first ++ arrivals n after) (sym numbers) in
      let ends : after_all acts start ≡ after_all after (overflow_cleared mid) =
      ap (λ (l : List GeometryAct). after_all l start) split ∙ whole_state before after start in
      sym (ap (λ (x : GeometryState). x.outcome.overflow) e)
      ∙ ap (λ (x : GeometryState). x.outcome.overflow) ends
      ∙ flag_after after (overflow_cleared mid) (vertices_of first) (polygons_of [] first) none linked (record { vertices_are = held.vertices_are; polygons_are = held.polygons_are })
      ∙ ap (λ (xs : List Vertex). nat_lt (excess (vertices_of first) (polygons_of [] first)) (excess xs (polygons_of [] first ++ polygons_of (vertices_of first) later))) (sym (vertices_append first later))
      ∙ ap (λ (ps : List Polygon). nat_lt (excess (vertices_of first) (polygons_of [] first)) (excess (vertices_of (first ++ later)) ps)) (sym (polygons_append first later []))
      ∙ ap (λ (l : List Numbers). nat_lt (excess (vertices_of first) (polygons_of [] first)) (excess (vertices_of l) (polygons_of [] l))) (sym all));
}
