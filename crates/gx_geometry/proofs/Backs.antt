use Rattle.gx_geometry.proofs.Words.{Kind, List, None, Numbers, Option, QuadStrip, Quads, Some, TriangleStrip, Triangles, Vertex, [], ap, arith}
use Rattle.gx_geometry.proofs.Words.{completed, corners, false, has_corners, inl, inr, is_equal, is_some, is_unequal, last_place, length, list_all}
use Rattle.gx_geometry.proofs.Words.{map, may_be_seen, nat_lt, place_among, place_since, polygon_among, polygon_at, polygon_by, polygon_of}
use Rattle.gx_geometry.proofs.Words.{polygon_with, refl, same_or_not, slice_index, slice_index_or, sym, true, ℕ, ◌%◌, ◌&&◌, ◌+◌, ◌-◌, ◌/◌, ◌==◌, ◌||◌}
use Rattle.gx_geometry.proofs.Words.{◌∙◌, ◌∷◌, ◌≡◌, ◌≢◌, ◌≤◌, ◌⊎◌}
use Rattle.std.specs.Option.{unwrap_or}
use Rattle.gx_geometry.specs.declared.polygons.Shape.{Shape}
use Rattle.gx_geometry.specs.declared.polygons.Shape.TheVariants.{Triangle, TurnedTriangle, Quad, StripQuad}
use Rattle.gx_geometry.specs.Backs.{shape_of, corners_back, index_back, reaches_back, seen_back, indices_back, polygon_back, polygon_by_shape}

-- A polygon's corners by their places in the run are those by how far back they came.

-- each place, with how far back from the last one it is
ArePairs : ℕ → List ℕ → List ℕ → Type 0
ArePairs last [] [] = Unit {0}
ArePairs last (p ∷ ps) (b ∷ bs) = ((last ≡ p + b) × (b ≤ 3)) × ArePairs last ps bs
ArePairs last [] (b ∷ bs) = ⊥
ArePairs last (p ∷ ps) [] = ⊥

-- where the run's vertices stand by their places, and the last four by how far back they came
unfoldable pub Agrees : (ℕ → Option ℕ) → List (Option ℕ) → ℕ → Type 0
Agrees stands four last = (p b : ℕ) → last ≡ p + b → b ≤ 3 → stands p ≡ index_back four b

module _ (stands : ℕ → Option ℕ) (four : List (Option ℕ)) (came : List Vertex) (a : Numbers) (agrees : Agrees stands four (last_place a)) where
  indices_same : (ps bs : List ℕ) → ArePairs (last_place a) ps bs → map (λ p. unwrap_or (stands p) 0) ps ≡ map (λ b. unwrap_or (index_back four b) 0) bs
  unfolding ArePairs Agrees
  indices_same [] [] h = refl
  indices_same (p ∷ ps) (b ∷ bs) h = rw (agrees p b h.0.0 h.0.1, indices_same ps bs h.1) refl
  indices_same [] (b ∷ bs) h = absurd h
  indices_same (p ∷ ps) [] h = absurd h

  all_same : (ps bs : List ℕ) → ArePairs (last_place a) ps bs →
      list_all (λ p. is_some (stands p)) ps ≡ list_all (λ b. is_some (index_back four b)) bs
  unfolding ArePairs Agrees
  all_same [] [] h = refl
  all_same (p ∷ ps) (b ∷ bs) h = rw (agrees p b h.0.0 h.0.1, all_same ps bs h.1) refl
  all_same [] (b ∷ bs) h = absurd h
  all_same (p ∷ ps) [] h = absurd h

  has_same : (ps : List ℕ) (shape : Shape) → ArePairs (last_place a) ps (corners_back shape) → has_corners stands ps ≡ reaches_back four shape
  unfolding has_corners reaches_back
  has_same ps shape h = all_same ps (corners_back shape) h

  seen_same : (ps : List ℕ) (shape : Shape) → ArePairs (last_place a) ps (corners_back shape)
      → may_be_seen stands came a ps ≡ seen_back four came a.attributes shape
  unfolding may_be_seen seen_back ArePairs Agrees
  seen_same (p ∷ q ∷ r ∷ ps) Triangle h = rw (agrees p 2 h.0.0 h.0.1, agrees q 1 h.1.0.0 h.1.0.1, agrees r 0 h.1.1.0.0 h.1.1.0.1) refl
  seen_same (p ∷ q ∷ r ∷ ps) TurnedTriangle h = rw (agrees p 1 h.0.0 h.0.1, agrees q 2 h.1.0.0 h.1.0.1, agrees r 0 h.1.1.0.0 h.1.1.0.1) refl
  seen_same (p ∷ q ∷ r ∷ ps) Quad h = rw (agrees p 3 h.0.0 h.0.1, agrees q 2 h.1.0.0 h.1.0.1, agrees r 1 h.1.1.0.0 h.1.1.0.1) refl
  seen_same (p ∷ q ∷ r ∷ ps) StripQuad h = rw (agrees p 3 h.0.0 h.0.1, agrees q 2 h.1.0.0 h.1.0.1, agrees r 0 h.1.1.0.0 h.1.1.0.1) refl
  seen_same [] Triangle h = absurd h
  seen_same (p ∷ []) Triangle h = absurd h.1
  seen_same (p ∷ q ∷ []) Triangle h = absurd h.1.1
  seen_same [] TurnedTriangle h = absurd h
  seen_same (p ∷ []) TurnedTriangle h = absurd h.1
  seen_same (p ∷ q ∷ []) TurnedTriangle h = absurd h.1.1
  seen_same [] Quad h = absurd h
  seen_same (p ∷ []) Quad h = absurd h.1
  seen_same (p ∷ q ∷ []) Quad h = absurd h.1.1
  seen_same [] StripQuad h = absurd h
  seen_same (p ∷ []) StripQuad h = absurd h.1
  seen_same (p ∷ q ∷ []) StripQuad h = absurd h.1.1

  lengths : (last : ℕ) (ps bs : List ℕ) → ArePairs last ps bs → length ps ≡ length bs
  unfolding ArePairs
  lengths last [] [] h = refl
  lengths last (p ∷ ps) (b ∷ bs) h = rw (lengths last ps bs h.1) refl
  lengths last [] (b ∷ bs) h = absurd h
  lengths last (p ∷ ps) [] h = absurd h

  with_same : (ps : List ℕ) (shape : Shape) → ArePairs (last_place a) ps (corners_back shape) → polygon_with stands a ps ≡ polygon_back four a shape
  unfolding polygon_with polygon_back indices_back
  with_same ps shape h = rw (indices_same ps (corners_back shape) h, lengths (last_place a) ps (corners_back shape) h) refl

  polygon_same : (ps : List ℕ) (shape : Shape) → ArePairs (last_place a) ps (corners_back shape) →
      polygon_at stands came a ps ≡ polygon_by_shape (Some shape) four came a
  polygon_same ps shape h = rw (has_same ps shape h, seen_same ps shape h, with_same ps shape h) refl

-- ---- kind by kind

below_or_not : (a b : ℕ) → (nat_lt a b ≡ true) ⊎ ((nat_lt a b ≡ false) × (b ≤ a))
below_or_not a b = grind arith

-- what a vertex of a place completes, and its shape
Found : Kind → ℕ → Type 0
Found kind place =
    ((completed kind place ≡ None) × (shape_of kind place ≡ None))
    ⊎ ((k : ℕ) × (shape : Shape) × (completed kind place ≡ Some k) × (shape_of kind place ≡ Some shape) × ArePairs place (corners kind k) (corners_back shape))

triangles : (place : ℕ) → Found Triangles place
unfolding completed shape_of Found ArePairs
triangles place = elim (same_or_not (place % 3) 2) [
  | inl h ↦
      inr (
        place / 3,
        Triangle,
        rw (is_equal (place % 3) 2 h) refl,
        rw (is_equal (place % 3) 2 h) refl,
        ((omega (arith, h), omega arith), ((omega (arith, h), omega arith), ((omega (arith, h), omega arith), tt))),
      )
  | inr h ↦ inl (rw (is_unequal (place % 3) 2 h) refl, rw (is_unequal (place % 3) 2 h) refl)
]

quads : (place : ℕ) → Found Quads place
unfolding completed shape_of Found ArePairs
quads place = elim (same_or_not (place % 4) 3) [
  | inl h ↦
      inr (
        place / 4,
        Quad,
        rw (is_equal (place % 4) 3 h) refl,
        rw (is_equal (place % 4) 3 h) refl,
        ((omega (arith, h), omega arith), ((omega (arith, h), omega arith), ((omega (arith, h), omega arith), ((omega (arith, h), omega arith), tt)))),
      )
  | inr h ↦ inl (rw (is_unequal (place % 4) 3 h) refl, rw (is_unequal (place % 4) 3 h) refl)
]

strip : (place : ℕ) → Found TriangleStrip place
unfolding completed shape_of Found ArePairs
strip place = elim (below_or_not place 2) [
  | inl low ↦ inl (rw low refl, rw low refl)
  | inr more ↦ elim (same_or_not (place % 2) 0) [
    | inl h ↦
        (let le : 2 ≤ place = more.1 in
        let k : (place - 2) % 2 ≡ 0 = omega (arith, h, le) in
        inr (
          place - 2,
          Triangle,
          rw more.0 refl,
          rw (more.0, is_equal (place % 2) 0 h) refl,
          rw (is_equal ((place - 2) % 2) 0 k) ((omega (arith, le), omega arith), ((omega (arith, le), omega arith), ((omega (arith, le), omega arith), tt))),
        ))
    | inr h ↦
        (let le : 2 ≤ place = more.1 in
        let k : (place - 2) % 2 ≢ 0 = omega (arith, h, le) in
        inr (
          place - 2,
          TurnedTriangle,
          rw more.0 refl,
          rw (more.0, is_unequal (place % 2) 0 h) refl,
          rw (is_unequal ((place - 2) % 2) 0 k) ((omega (arith, le), omega arith), ((omega (arith, le), omega arith), ((omega (arith, le), omega arith), tt))),
        ))
  ]
]

quad_strip : (place : ℕ) → Found QuadStrip place
unfolding completed shape_of Found ArePairs
quad_strip place = elim (below_or_not place 3) [
  | inl low ↦ inl (rw low refl, rw low refl)
  | inr more ↦ elim (same_or_not (place % 2) 0) [
    | inl h ↦ inl (rw (more.0, is_equal (place % 2) 0 h) refl, rw (more.0, is_equal (place % 2) 0 h) refl)
    | inr h ↦
        (let le : 3 ≤ place = more.1 in
        inr (
          (place - 3) / 2,
          StripQuad,
          rw (more.0, is_unequal (place % 2) 0 h) refl,
          rw (more.0, is_unequal (place % 2) 0 h) refl,
          ((omega (arith, le, h), omega arith), ((omega (arith, le, h), omega arith), ((omega (arith, le, h), omega arith), ((omega (arith, le, h), omega arith), tt)))),
        ))
  ]
]

found : (kind : Kind) (place : ℕ) → Found kind place
found Triangles place = triangles place
found Quads place = quads place
found TriangleStrip place = strip place
found QuadStrip place = quad_strip place

by_agreeing : (stands : ℕ → Option ℕ) (four : List (Option ℕ)) (came : List Vertex) (a : Numbers) → Agrees stands four (last_place a)
    → polygon_by (completed a.kind (last_place a)) stands came a ≡ polygon_by_shape (shape_of a.kind (last_place a)) four came a
unfolding Found
by_agreeing stands four came a agrees = elim (found a.kind (last_place a)) [
  | inl none ↦ rw (none.0, none.1) refl
  | inr some ↦ rw (some.2, some.3) (polygon_same stands four came a agrees (corners a.kind some.0) some.1 some.4)
]

among_agrees : (four : List (Option ℕ)) (a : Numbers) → Agrees (place_among four a) four (last_place a)
unfolding Agrees
among_agrees four a p b e few =
    let i : p + 3 - last_place a ≡ 3 - b = omega (arith, e) in ap (λ (n : ℕ). slice_index_or four n None) i

-- the polygon that the last vertex completes
pub by_shape : (four : List (Option ℕ)) (came : List Vertex) (a : Numbers) → polygon_among four came a ≡ polygon_by_shape (shape_of a.kind (last_place a)) four came a
unfolding polygon_among
by_shape four came a = by_agreeing (place_among four a) four came a (among_agrees four a)

-- the same by all vertices that came, where the last four stand by them
pub same_polygon : (four : List (Option ℕ)) (came : List Vertex) (a : Numbers) → Agrees (place_since came a) four (last_place a)
    → polygon_among four came a ≡ polygon_of came a
unfolding polygon_of
same_polygon four came a agrees = by_shape four came a ∙ sym (by_agreeing (place_since came a) four came a agrees)

-- three corners leave the fourth place unused
pub shaped_back : (four : List (Option ℕ)) (shape : Shape) (count : ℕ) (indices : List ℕ) → count ≡ length (corners_back shape)
    → indices ≡ indices_back four shape
    → ((count == 4) || (count == 3 && slice_index indices 3 == 0)) ≡ true
unfolding indices_back
shaped_back four Triangle count indices is are = rw (is, are) refl
shaped_back four TurnedTriangle count indices is are = rw (is, are) refl
shaped_back four Quad count indices is are = rw is refl
shaped_back four StripQuad count indices is are = rw is refl
