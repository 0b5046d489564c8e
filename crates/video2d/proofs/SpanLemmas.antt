use Rattle.video2d.proofs.Words.{FrontPixel, Laid, ObjectPixel, arith, cases_eq, get_or, inl, inr, lanes_pixel, objects_over, over_at, seen_objects}
use Rattle.video2d.proofs.Words.{ℕ, ◌<◌, ◌≡◌, ◌≢◌, ◌≤◌}
use Rattle.obj2d.specs.declared.layers.ObjectLanes.{ObjectLanes}
use Rattle.video2d.specs.rows.Fronts.{AreBetween}

-- Objects of a priority change nothing where none of them is seen.

clear_front : (p : ObjectPixel) (turn : ℕ) (l : Laid) (f : FrontPixel) → p.colour ≡ 0 → objects_over p.colour p.priority p.blended turn l f ≡ f
clear_front p turn l f h = grind (arith, h)

other_front : (p : ObjectPixel) (turn : ℕ) (l : Laid) (f : FrontPixel) → p.priority ≢ turn → objects_over p.colour p.priority p.blended turn l f ≡ f
other_front p turn l f h = grind (arith, h)

pub outside_front : (row : ObjectLanes) (turn first end : ℕ) (l : Laid) (f : FrontPixel) (x : ℕ) → AreBetween row turn first end → x < 256 →
    ((first ≤ x) → (x < end) → ⊥) →
    (let p = lanes_pixel row x in objects_over p.colour p.priority p.blended turn l f) ≡ f
outside_front row turn first end l f x between small out = elim (cases_eq (get_or row.colours x 0) 0) [
  | inl clear ↦ clear_front (lanes_pixel row x) turn l f clear
  | inr full ↦
      elim (cases_eq (get_or row.priorities x 0) turn) [
        | inl same ↦ (let w = between x small full same in absurd (out w.0 w.1))
        | inr other ↦ other_front (lanes_pixel row x) turn l f other
      ]
]

clear_over : (p : ObjectPixel) (turn behind : ℕ) → p.colour ≡ 0 → over_at turn (seen_objects p) behind ≡ behind
clear_over p turn behind h = grind (arith, h)

other_over : (p : ObjectPixel) (turn behind : ℕ) → p.priority ≢ turn → over_at turn (seen_objects p) behind ≡ behind
other_over p turn behind h = grind (arith, h)

pub outside_over : (row : ObjectLanes) (turn first end behind : ℕ) (x : ℕ) → AreBetween row turn first end → x < 256 →
    ((first ≤ x) → (x < end) → ⊥) → over_at turn (seen_objects (lanes_pixel row x)) behind ≡ behind
outside_over row turn first end behind x between small out = elim (cases_eq (get_or row.colours x 0) 0) [
  | inl clear ↦ clear_over (lanes_pixel row x) turn behind clear
  | inr full ↦
      elim (cases_eq (get_or row.priorities x 0) turn) [
        | inl same ↦ (let w = between x small full same in absurd (out w.0 w.1))
        | inr other ↦ other_over (lanes_pixel row x) turn behind other
      ]
]
