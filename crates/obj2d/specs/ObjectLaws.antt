use Rattle.std.specs.Prelude.{ℕ, false, ◌≡◌, ◌≢◌, ◌<◌, ◌≤◌, ◌^◌, ◌↔◌, ◌⊎◌, ◌==◌, List, slice_index, slice_index_or, IsTrue}
use Rattle.obj2d.specs.declared.layers.ObjectPixel.{ObjectPixel}
use Rattle.obj2d.specs.declared.layers.ObjectLanes.{ObjectLanes}
use Rattle.obj2d.specs.declared.layers.Spans.{Spans}
use Rattle.obj2d.specs.ObjectLayer.{SeenObject, blank_pixel}

-- A row of objects pixel by pixel, each told by the objects of the list: what each pixel of a row is.

abbrev pub pixel_at : List ObjectPixel → ℕ → ObjectPixel
pixel_at pixels x = slice_index_or pixels x blank_pixel

-- the pixel at a place of a row of lanes
abbrev pub lanes_pixel : ObjectLanes → ℕ → ObjectPixel
lanes_pixel row x = record {
  colour = slice_index row.colours x;
  priority = slice_index row.priorities x;
  blended = slice_index row.blended x == 1;
  window = slice_index row.windows x == 1;
}

-- a place is within the span of a priority
abbrev pub IsInSpan : Spans → ℕ → ℕ → Type 0
IsInSpan spans priority x = (slice_index spans.first priority ≤ x) × (x < slice_index spans.end priority)

-- where an object is seen, the place is within the span of its priority
abbrev pub AreInSpans : ObjectLanes → Spans → Type 0
AreInSpans row spans = (x : ℕ) → x < 256 → slice_index row.colours x ≢ 0 → IsInSpan spans (slice_index row.priorities x) x

-- ---- as a relation

-- object n goes before object m: its priority is a lower number; or it is the same, and n is no higher
abbrev pub IsBefore : (ℕ → SeenObject) → ℕ → ℕ → Type 0
IsBefore seen n m = ((seen n).priority < (seen m).priority) ⊎ (((seen n).priority ≡ (seen m).priority) × (n ≤ m))

-- of the objects of numbers below `count` that are opaque and not of mode 2, object n goes before all
pub record IsFrontObject (seen : ℕ → SeenObject) (count n : ℕ) : Type 0 where
  pub known : n < count
  pub opaque : (seen n).colour ≢ 0
  pub shown : (seen n).mode ≢ 2
  pub least : (m : ℕ) → m < count → (seen m).colour ≢ 0 → (seen m).mode ≢ 2 → IsBefore seen n m

-- the pixel shows an object, which is blended where its mode is 1
pub record IsOf (s : SeenObject) (p : ObjectPixel) : Type 0 where
  pub colour : p.colour ≡ s.colour
  pub priority : p.priority ≡ s.priority
  pub blended : p.blended ≡ (s.mode == 1)

-- the pixel shows none
pub record IsTransparent (p : ObjectPixel) : Type 0 where
  pub colour : p.colour ≡ 0
  pub priority : p.priority ≡ 0
  pub blended : p.blended ≡ false

-- no object of a number below `count` is opaque but those of mode 2
abbrev pub IsNone : (ℕ → SeenObject) → ℕ → Type 0
IsNone seen count = (n : ℕ) → n < count → (seen n).colour ≢ 0 → (seen n).mode ≡ 2

-- one of mode 2 is opaque
abbrev pub IsInWindow : (ℕ → SeenObject) → ℕ → Type 0
IsInWindow seen count = (n : ℕ) × (n < count) × ((seen n).colour ≢ 0) × ((seen n).mode ≡ 2)

-- the pixel shows the first object, if there is one, and lies in the object window exactly where an object of mode 2 is opaque
pub record IsLayerPixel (seen : ℕ → SeenObject) (count : ℕ) (p : ObjectPixel) : Type 0 where
  pub top : ((n : ℕ) × IsFrontObject seen count n × IsOf (seen n) p) ⊎ (IsNone seen count × IsTransparent p)
  pub window : IsTrue p.window ↔ IsInWindow seen count

-- an opaque pixel has bit 15 set; a transparent one has neither priority nor blending
pub record IsPixel (p : ObjectPixel) : Type 0 where
  pub opaque : p.colour ≢ 0 → 2 ^ 15 ≤ p.colour
  pub transparent : p.colour ≡ 0 → (p.priority ≡ 0) × (p.blended ≡ false)
  pub small : p.priority < 4
