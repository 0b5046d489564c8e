use Rattle.obj2d.proofs.Words.{AreInSpans, Bool, IsBefore, IsFrontObject, IsInSpan, IsInWindow, IsLayerPixel, IsNone, IsOf, IsTransparent}
use Rattle.obj2d.proofs.Words.{ObjectPixel, SeenObject, Spans, ap, arith, get_or, get_or-set_other, get_or-set_same, inl, inr, lanes_pixel, length}
use Rattle.obj2d.proofs.Words.{pixel_below, refl, slice_set, subst, suc, sym, true, with_object, zero, ℕ, ◌+◌, ◌<◌, ◌==◌, ◌∙◌, ◌≡◌, ◌≢◌, ◌≤◌}
use Rattle.std.proofs.Common.{◌⊎◌, set}
use Rattle.std.proofs.lemmas.Bool.{cases_eq, cases_lt, false≢true}
use Rattle.obj2d.specs.declared.layers.ObjectLanes.{ObjectLanes}

-- ---- what one more object leaves

pub unseen : (s : SeenObject) (p : ObjectPixel) → s.colour ≡ 0 → with_object s p ≡ p
unseen s p h = grind (arith, h)

marked : (s : SeenObject) (p : ObjectPixel) → s.colour ≢ 0 → s.mode ≡ 2 → with_object s p ≡ record p { window = true }
marked s p opaque h = grind (arith, opaque, h)

abbrev shown_over : SeenObject → ObjectPixel → ObjectPixel
shown_over s p = record p { colour = s.colour; priority = s.priority; blended = s.mode == 1 }

placed_first : (s : SeenObject) (p : ObjectPixel) → s.colour ≢ 0 → s.mode ≢ 2 → p.colour ≡ 0 → with_object s p ≡ shown_over s p
placed_first s p opaque shown h = grind (arith, opaque, shown, h)

placed_before : (s : SeenObject) (p : ObjectPixel) → s.colour ≢ 0 → s.mode ≢ 2 → s.priority < p.priority → with_object s p ≡ shown_over s p
placed_before s p opaque shown h = grind (arith, opaque, shown, h)

placed_behind : (s : SeenObject) (p : ObjectPixel) → s.colour ≢ 0 → s.mode ≢ 2 → p.colour ≢ 0 → p.priority ≤ s.priority → with_object s p ≡ p
placed_behind s p opaque shown full h = grind (arith, opaque, shown, full, h)

-- where a pixel is seen with one more object, its priority is that object's, which is seen there, or it was seen and has the priority that it had
seen_priority : (s : SeenObject) (p : ObjectPixel) → (with_object s p).colour ≢ 0 →
    (((with_object s p).priority ≡ s.priority) × (s.colour ≢ 0)) ⊎ ((p.colour ≢ 0) × ((with_object s p).priority ≡ p.priority))
seen_priority s p =
    let P : ObjectPixel → Type 0 = λ q. q.colour ≢ 0 → ((q.priority ≡ s.priority) × (s.colour ≢ 0)) ⊎ ((p.colour ≢ 0) × (q.priority ≡ p.priority)) in
    elim (cases_eq s.colour 0) [
      | inl clear ↦ subst P (sym (unseen s p clear)) (λ full. inr (full, refl))
      | inr opaque ↦
          elim (cases_eq s.mode 2) [
            | inl window ↦ subst P (sym (marked s p opaque window)) (λ full. inr (full, refl))
            | inr shown ↦
                elim (cases_eq p.colour 0) [
                  | inl empty ↦ subst P (sym (placed_first s p opaque shown empty)) (λ full. inl (refl, opaque))
                  | inr there ↦
                      elim (cases_lt s.priority p.priority) [
                        | inl lower ↦ subst P (sym (placed_before s p opaque shown lower)) (λ full. inl (refl, opaque))
                        | inr le ↦ subst P (sym (placed_behind s p opaque shown there le)) (λ full. inr (full, refl))
                      ]
                ]
          ]
    ]

-- so a row with one more object is within spans that are wider, and have that object's places
pub within_more : (seen : ℕ → SeenObject) (before after : ObjectLanes) (old new : Spans) (q start end : ℕ) → ((x : ℕ) → (seen x).priority ≡ q) →
    ((x : ℕ) → x < 256 → (seen x).colour ≢ 0 → (start ≤ x) × (x < end)) →
    ((x : ℕ) → x < 256 → lanes_pixel after x ≡ with_object (seen x) (lanes_pixel before x)) →
    ((x : ℕ) → start ≤ x → x < end → IsInSpan new q x) → ((p x : ℕ) → IsInSpan old p x → IsInSpan new p x) →
    AreInSpans before old → AreInSpans after new
within_more seen before after old new q start end rank places laid here kept are x small full =
    let s : SeenObject = seen x in
    let p : ObjectPixel = lanes_pixel before x in
    let e = laid x small in
    let colour : get_or after.colours x 0 ≡ (with_object s p).colour = ap (λ (o : ObjectPixel). o.colour) e in
    let priority : get_or after.priorities x 0 ≡ (with_object s p).priority = ap (λ (o : ObjectPixel). o.priority) e in
    let P : ℕ → Type 0 = λ n. IsInSpan new n x in
    elim (seen_priority s p (λ z. full (colour ∙ z))) [
      | inl fresh ↦
          (let there = places x small fresh.1 in
          subst P (sym (priority ∙ fresh.0 ∙ rank x)) (here x there.0 there.1))
      | inr was ↦ subst P (sym (priority ∙ was.1)) (kept (get_or before.priorities x 0) x (are x small was.0))
    ]

-- a span that is wider

-- the first place of each priority is no higher than it was, and the one behind the last no lower
pub wider : (old new : Spans) (q first end : ℕ) → q < length old.first → q < length old.end → new ≡ record { first = slice_set old.first q first; end = slice_set old.end q end }
    → first ≤ get_or old.first q 0 → get_or old.end q 0 ≤ end → (p x : ℕ) → IsInSpan old p x → IsInSpan new p x
wider old new q first end k l is low high p x h =
    let P : Spans → Type 0 = λ s. IsInSpan s p x in
    let from = h.0 in
    let to = h.1 in
    subst P (sym is) (elim (cases_eq p q) [
      | inl same ↦
          (let Q : ℕ → Type 0 = λ n. (get_or (set old.first q first) n 0 ≤ x) × (x < get_or (set old.end q end) n 0) in
          let R : ℕ → Type 0 = λ n. (get_or old.first n 0 ≤ x) × (x < get_or old.end n 0) in
          let was = subst R same h in
          let was_from = was.0 in
          let was_to = was.1 in
          let a = get_or-set_same old.first q first 0 k in
          let b = get_or-set_same old.end q end 0 l in
          subst Q (sym same) (omega (arith, a, low, was_from), omega (arith, b, high, was_to)))
      | inr other ↦
          (let a = get_or-set_other old.first q p first 0 other in
          let b = get_or-set_other old.end q p end 0 other in
          (omega (arith, a, from), omega (arith, b, to)))
    ])

-- ---- the first object of one more

below_suc : (m n : ℕ) → m < suc n → (m < n) ⊎ (m ≡ n)
below_suc m n h = elim (cases_eq m n) [
  | inl same ↦ inr same
  | inr other ↦ inl (omega arith)
]

stays_first : (seen : ℕ → SeenObject) (n m : ℕ) → IsFrontObject seen n m → ((seen n).colour ≢ 0 → (seen n).mode ≢ 2 → IsBefore seen m n) → IsFrontObject seen (suc n) m
stays_first seen n m h fresh = record {
  known = (let k = h.known in omega arith);
  opaque = h.opaque;
  shown = h.shown;
  least = λ k lt opaque shown. elim (below_suc k n lt) [
    | inl below ↦ h.least k below opaque shown
    | inr same ↦
        (let P : ℕ → Type 0 = λ j. (seen j).colour ≢ 0 → (seen j).mode ≢ 2 → IsBefore seen m j in
        let there : P k = subst P (sym same) fresh in
        there opaque shown)
  ];
}

becomes_first : (seen : ℕ → SeenObject) (n : ℕ) → (seen n).colour ≢ 0 → (seen n).mode ≢ 2 →
    ((k : ℕ) → k < n → (seen k).colour ≢ 0 → (seen k).mode ≢ 2 → IsBefore seen n k) → IsFrontObject seen (suc n) n
becomes_first seen n opaque_n shown_n before = record {
  known = omega arith;
  opaque = opaque_n;
  shown = shown_n;
  least = λ k lt opaque shown. elim (below_suc k n lt) [
    | inl below ↦ before k below opaque shown
    | inr same ↦
        (let P : ℕ → Type 0 = λ j. IsBefore seen n j in
        let here : IsBefore seen n n = inr (refl, omega arith) in
        subst P (sym same) here)
  ];
}

none_more : (seen : ℕ → SeenObject) (n : ℕ) → IsNone seen n → ((seen n).colour ≢ 0 → (seen n).mode ≡ 2) → IsNone seen (suc n)
none_more seen n h fresh k lt opaque = elim (below_suc k n lt) [
  | inl below ↦ h k below opaque
  | inr same ↦
      (let P : ℕ → Type 0 = λ j. (seen j).colour ≢ 0 → (seen j).mode ≡ 2 in
      let there : P k = subst P (sym same) fresh in
      there opaque)
]

same_window : (seen : ℕ → SeenObject) (n : ℕ) (w : Bool) → (w ≡ true → IsInWindow seen n) × (IsInWindow seen n → w ≡ true) →
    ((seen n).colour ≢ 0 → (seen n).mode ≢ 2) → (w ≡ true → IsInWindow seen (suc n)) × (IsInWindow seen (suc n) → w ≡ true)
same_window seen n w h fresh = (
  λ e. (let i = h.0 e in let k = i.1 in (i.0, omega arith, i.2, i.3)),
  λ i. elim (below_suc i.0 n i.1) [
    | inl below ↦ h.1 (i.0, below, i.2, i.3)
    | inr same ↦
        (let P : ℕ → Type 0 = λ j. (seen j).colour ≢ 0 → (seen j).mode ≢ 2 in
        let there : P i.0 = subst P (sym same) fresh in
        absurd (there i.2 i.3))
  ],
)

-- ---- the pixel with one more object

-- an object that isn't there, or goes behind, changes nothing
unchanged : (seen : ℕ → SeenObject) (n : ℕ) (p : ObjectPixel) → IsLayerPixel seen n p →
    ((m : ℕ) → IsFrontObject seen n m → IsOf (seen m) p → (seen n).colour ≢ 0 → (seen n).mode ≢ 2 → IsBefore seen m n) →
    (IsTransparent p → (seen n).colour ≢ 0 → (seen n).mode ≡ 2) → ((seen n).colour ≢ 0 → (seen n).mode ≢ 2) → IsLayerPixel seen (suc n) p
unchanged seen n p h before empty other = record {
  top = elim h.top [
    | inl t ↦ inl (t.0, stays_first seen n t.0 t.1 (before t.0 t.1 t.2), t.2)
    | inr e ↦ inr (none_more seen n e.0 (empty e.1), e.1)
  ];
  window = same_window seen n p.window h.window other;
}

-- an object of mode 2 changes the window alone
in_window : (seen : ℕ → SeenObject) (n : ℕ) (p : ObjectPixel) → IsLayerPixel seen n p → (seen n).colour ≢ 0 → (seen n).mode ≡ 2 →
    IsLayerPixel seen (suc n) (record p { window = true })
in_window seen n p h opaque_n window_n = record {
  top = elim h.top [
    | inl t ↦
        inl (t.0, stays_first seen n t.0 t.1 (λ opaque shown. absurd (shown window_n)), record { colour = t.2.colour; priority = t.2.priority; blended = t.2.blended })
    | inr e ↦
        inr (none_more seen n e.0 (λ opaque. window_n), record { colour = e.1.colour; priority = e.1.priority; blended = e.1.blended })
  ];
  window = (λ e. (n, omega arith, opaque_n, window_n), λ i. refl);
}

-- an object that goes before all others is shown
on_top : (seen : ℕ → SeenObject) (n : ℕ) (p : ObjectPixel) → IsLayerPixel seen n p → (seen n).colour ≢ 0 → (seen n).mode ≢ 2 →
    ((k : ℕ) → k < n → (seen k).colour ≢ 0 → (seen k).mode ≢ 2 → IsBefore seen n k) → IsLayerPixel seen (suc n) (shown_over (seen n) p)
on_top seen n p h opaque_n shown_n before = record {
  top = inl (n, becomes_first seen n opaque_n shown_n before, record { colour = refl; priority = refl; blended = refl });
  window = same_window seen n p.window h.window (λ opaque. shown_n);
}

-- where the pixel was transparent, no object was there
before_none : (seen : ℕ → SeenObject) (n : ℕ) (p : ObjectPixel) → IsLayerPixel seen n p → p.colour ≡ 0 →
    (k : ℕ) → k < n → (seen k).colour ≢ 0 → (seen k).mode ≢ 2 → IsBefore seen n k
before_none seen n p h empty k lt opaque shown = elim h.top [
  | inl t ↦ absurd (t.1.opaque (sym t.2.colour ∙ empty))
  | inr e ↦ absurd (shown (e.0 k lt opaque))
]

-- with a lower number of priority than the pixel's, an object goes before all others
before_lower : (seen : ℕ → SeenObject) (n : ℕ) (p : ObjectPixel) → IsLayerPixel seen n p → (seen n).priority < p.priority →
    (k : ℕ) → k < n → (seen k).colour ≢ 0 → (seen k).mode ≢ 2 → IsBefore seen n k
before_lower seen n p h lower k lt opaque shown = elim h.top [
  | inl t ↦
      (let same : p.priority ≡ (seen t.0).priority = t.2.priority in
      elim (t.1.least k lt opaque shown) [
        | inl less ↦ inl (omega (arith, same, less, lower))
        | inr equal ↦ (let e : (seen t.0).priority ≡ (seen k).priority = equal.0 in inl (omega (arith, same, e, lower)))
      ])
  | inr e ↦ absurd (shown (e.0 k lt opaque))
]

-- an object with no lower number of priority goes behind the one that is shown
behind : (seen : ℕ → SeenObject) (n m : ℕ) (p : ObjectPixel) → IsFrontObject seen n m → IsOf (seen m) p → p.priority ≤ (seen n).priority → IsBefore seen m n
behind seen n m p first of le =
    let same : p.priority ≡ (seen m).priority = of.priority in
    let known = first.known in
    elim (cases_lt (seen m).priority (seen n).priority) [
      | inl less ↦ inl less
      | inr more ↦ inr (omega (arith, same, le, more), omega arith)
    ]

one_more : (seen : ℕ → SeenObject) (n : ℕ) (p : ObjectPixel) → IsLayerPixel seen n p → IsLayerPixel seen (suc n) (with_object (seen n) p)
one_more seen n p h =
    let P : ObjectPixel → Type 0 = λ q. IsLayerPixel seen (suc n) q in
    elim (cases_eq (seen n).colour 0) [
      | inl clear ↦
          subst P (sym (unseen (seen n) p clear))
          (unchanged seen n p h (λ m first of opaque shown. absurd (opaque clear)) (λ empty opaque. absurd (opaque clear)) (λ opaque. absurd (opaque clear)))
      | inr opaque ↦
          elim (cases_eq (seen n).mode 2) [
            | inl window ↦ subst P (sym (marked (seen n) p opaque window)) (in_window seen n p h opaque window)
            | inr shown ↦
                elim (cases_eq p.colour 0) [
                  | inl empty ↦ subst P (sym (placed_first (seen n) p opaque shown empty)) (on_top seen n p h opaque shown (before_none seen n p h empty))
                  | inr full ↦
                      elim (cases_lt (seen n).priority p.priority) [
                        | inl lower ↦ subst P (sym (placed_before (seen n) p opaque shown lower)) (on_top seen n p h opaque shown (before_lower seen n p h lower))
                        | inr le ↦
                            subst P (sym (placed_behind (seen n) p opaque shown full le))
                            (unchanged seen n p h (λ m first of o s. behind seen n m p first of le) (λ empty o. absurd (full empty.colour)) (λ o. shown))
                      ]
                ]
          ]
    ]

-- the pixel by all objects below a number is theirs
pub pixel_below_is : (seen : ℕ → SeenObject) (count : ℕ) → IsLayerPixel seen count (pixel_below seen count)
unfolding pixel_below
pixel_below_is seen zero = record {
  top = inr (λ n lt opaque. absurd (omega arith), record { colour = refl; priority = refl; blended = refl });
  window = (λ e. absurd (false≢true e), λ i. absurd (let lt = i.1 in omega arith));
}
pixel_below_is seen (suc n) = one_more seen n (pixel_below seen n) (pixel_below_is seen n)

-- one more, as a loop has it
pub pixel_below_more : (seen : ℕ → SeenObject) (n : ℕ) → pixel_below seen (n + 1) ≡ with_object (seen n) (pixel_below seen n)
unfolding pixel_below
pixel_below_more seen n = (let e : n + 1 ≡ suc n = omega arith in rw e refl)

pub stands_at : (seen : ℕ → SeenObject) (n : ℕ) (p : ObjectPixel) → p ≡ pixel_below seen n → n ≡ 128 → IsLayerPixel seen 128 p
stands_at seen n p e all =
    let P : ℕ → Type 0 = λ (k : ℕ). p ≡ pixel_below seen k in
    let Q : ObjectPixel → Type 0 = λ (q : ObjectPixel). IsLayerPixel seen 128 q in
    let whole : p ≡ pixel_below seen 128 = subst P all e in
    subst Q (sym whole) (pixel_below_is seen 128)
