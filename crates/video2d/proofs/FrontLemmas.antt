use Rattle.video2d.proofs.Words.{Bool, EngineState, FrontPixel, Laid, LayerPixels, List, SeenLayer, [], ap, arith, at_priority, backdrop_of, bgcnt}
use Rattle.video2d.proofs.Words.{bit, bits, blended, blends, blue, brightness_changed, cases_eq, colour_of, composed_pixel, effect, effects_where}
use Rattle.video2d.proofs.Words.{eva, evb, false, finished_where, flag, from_priority, front_kind, front_over, front_to_back, green, held}
use Rattle.video2d.proofs.Words.{if◌then◌else◌, inl, inr, is_first_target, is_second_target, layers_of, min, nat_le, put_all, put_at, put_layer}
use Rattle.video2d.proofs.Words.{put_turn, red, refl, shown_by_windows, started, subst, suc, sym, top_alone, top_bit, true, with_effects, zero, ℕ}
use Rattle.video2d.proofs.Words.{◌%◌, ◌&&◌, ◌*◌, ◌++◌, ◌+◌, ◌/◌, ◌<◌, ◌==◌, ◌^◌, ◌||◌, ◌∙◌, ◌∷◌, ◌≡◌, ◌≢◌, ◌≤◌}
use Rattle.video2d.specs.rows.Fronts.{effect_mark, finished, laid_as, laid_of, mark_blended, no_front, shown_layers}

-- Layers that are laid over one another from back to front leave the first two of the list from front to back, and what acts on them.

-- ---- those of one priority

pub hidden : (p : ℕ) (s : SeenLayer) (ss : List SeenLayer) → s.pixel ≡ 0 → at_priority p (s ∷ ss) ≡ at_priority p ss
hidden p s ss h = grind (arith, h)

pub other : (p : ℕ) (s : SeenLayer) (ss : List SeenLayer) → s.priority ≢ p → at_priority p (s ∷ ss) ≡ at_priority p ss
other p s ss h = grind (arith, h)

pub taken : (p : ℕ) (s : SeenLayer) (ss : List SeenLayer) → s.pixel ≢ 0 → s.priority ≡ p → at_priority p (s ∷ ss) ≡ s ∷ at_priority p ss
taken p s ss h e = grind (arith, h, e)

pub still_hidden : (p more : ℕ) (s : SeenLayer) (ss : List SeenLayer) → s.pixel ≡ 0 → from_priority p more (s ∷ ss) ≡ from_priority p more ss
still_hidden p zero s ss h = refl
still_hidden p (suc more) s ss h =
    ap (λ (l : List SeenLayer). l ++ from_priority (suc p) more (s ∷ ss)) (hidden p s ss h)
    ∙ ap (λ (l : List SeenLayer). at_priority p ss ++ l) (still_hidden (suc p) more s ss h)

-- ---- layers laid over what is in front, the last of the list first

abbrev laid_all : EngineState → List SeenLayer → FrontPixel → FrontPixel
laid_all e [] f = f
laid_all e (s ∷ ss) f = put_layer e s (laid_all e ss f)

all_joined : (e : EngineState) (ts us : List SeenLayer) (f : FrontPixel) → laid_all e (ts ++ us) f ≡ laid_all e ts (laid_all e us f)
all_joined e [] us f = refl
all_joined e (t ∷ ts) us f = ap (put_layer e t) (all_joined e ts us f)

turn_clear : (e : EngineState) (p : ℕ) (s : SeenLayer) (ss : List SeenLayer) (f : FrontPixel) → s.pixel ≡ 0 → put_turn e p (s ∷ ss) f ≡ put_turn e p ss f
turn_clear e p s ss f h = grind (arith, h)

turn_other : (e : EngineState) (p : ℕ) (s : SeenLayer) (ss : List SeenLayer) (f : FrontPixel) → s.priority ≢ p → put_turn e p (s ∷ ss) f ≡ put_turn e p ss f
turn_other e p s ss f h = grind (arith, h)

turn_taken : (e : EngineState) (p : ℕ) (s : SeenLayer) (ss : List SeenLayer) (f : FrontPixel) → s.priority ≡ p → put_turn e p (s ∷ ss) f ≡ put_layer e s (put_turn e p ss f)
turn_taken e p s ss f h = grind (arith, h)

at_laid : (e : EngineState) (p : ℕ) (ss : List SeenLayer) (f : FrontPixel) → laid_all e (at_priority p ss) f ≡ put_turn e p ss f
at_laid e p [] f = refl
at_laid e p (s ∷ ss) f =
    let F : List SeenLayer → FrontPixel = λ (l : List SeenLayer). laid_all e l f in
    elim (cases_eq s.pixel 0) [
      | inl clear ↦ ap F (hidden p s ss clear) ∙ at_laid e p ss f ∙ sym (turn_clear e p s ss f clear)
      | inr opaque ↦
          elim (cases_eq s.priority p) [
            | inl same ↦ ap F (taken p s ss opaque same) ∙ ap (put_layer e s) (at_laid e p ss f) ∙ sym (turn_taken e p s ss f same)
            | inr else_ ↦ ap F (other p s ss else_) ∙ at_laid e p ss f ∙ sym (turn_other e p s ss f else_)
          ]
    ]

abbrev turns_from : EngineState → ℕ → ℕ → List SeenLayer → FrontPixel → FrontPixel
turns_from e p zero ss f = f
turns_from e p (suc more) ss f = put_turn e p ss (turns_from e (suc p) more ss f)

from_laid : (e : EngineState) (p more : ℕ) (ss : List SeenLayer) (f : FrontPixel) → laid_all e (from_priority p more ss) f ≡ turns_from e p more ss f
from_laid e p zero ss f = refl
from_laid e p (suc more) ss f =
    all_joined e (at_priority p ss) (from_priority (suc p) more ss) f
    ∙ at_laid e p ss (laid_all e (from_priority (suc p) more ss) f)
    ∙ ap (put_turn e p ss) (from_laid e (suc p) more ss f)

-- a last layer of another priority counts for nothing
turn_end : (e : EngineState) (p : ℕ) (ss : List SeenLayer) (s : SeenLayer) (f : FrontPixel) → s.priority ≢ p → put_turn e p (ss ++ (s ∷ [])) f ≡ put_turn e p ss f
turn_end e p [] s f h = turn_other e p s [] f h
turn_end e p (t ∷ ss) s f h = ap (put_at e p t) (turn_end e p ss s f h)

-- ---- the backdrop behind all

abbrev AllBelow : ℕ → List SeenLayer → Type 0
AllBelow p [] = Unit {0}
AllBelow p (s ∷ ss) = (s.priority < p) × AllBelow p ss

backdrop_opaque : (b : ℕ) → (backdrop_of b).pixel ≢ 0
backdrop_opaque b = omega arith

backdrop_laid : (e : EngineState) (b : ℕ) → put_layer e (backdrop_of b) no_front ≡ started b (laid_as e 5)
backdrop_laid e b =
    let opaque = backdrop_opaque b in
    let low : (backdrop_of b).pixel % 2 ^ 15 ≡ b % 2 ^ 15 = omega arith in
    over_clear (backdrop_of b).pixel (laid_as e 5) opaque
    ∙ ap (λ (n : ℕ). let f : FrontPixel = record { top = n + (laid_as e 5).second; next = 0; mark = (laid_as e 5).mark } in f) low where
      over_clear : (pixel : ℕ) (l : Laid) → pixel ≢ 0 → front_over pixel l no_front ≡ record { top = pixel % 2 ^ 15 + l.second; next = 0; mark = l.mark }
      over_clear pixel l h = grind (arith, h)

last_laid : (e : EngineState) (b : ℕ) (ss : List SeenLayer) → AllBelow 4 ss → put_turn e 4 (ss ++ (backdrop_of b ∷ [])) no_front ≡ started b (laid_as e 5)
last_laid e b [] h = turn_taken e 4 (backdrop_of b) [] no_front refl ∙ backdrop_laid e b
last_laid e b (s ∷ ss) h =
    turn_other e 4 s (ss ++ (backdrop_of b ∷ [])) no_front (λ (same : s.priority ≡ 4). let lt : s.priority < 4 = h.0 in omega (arith, same, lt)) ∙ last_laid e b ss h.1

-- so the turns of the code lay the list from front to back
turns_laid : (e : EngineState) (b : ℕ) (ss : List SeenLayer) → AllBelow 4 ss → laid_all e (front_to_back (ss ++ (backdrop_of b ∷ []))) no_front ≡ put_all e b ss
unfolding put_all
turns_laid e b ss h =
    let s : SeenLayer = backdrop_of b in
    let all : List SeenLayer = ss ++ (s ∷ []) in
    let f : FrontPixel = started b (laid_as e 5) in
    from_laid e 0 5 all no_front
    ∙ ap (λ (k : FrontPixel). put_turn e 0 all (put_turn e 1 all (put_turn e 2 all (put_turn e 3 all k)))) (last_laid e b ss h)
    ∙ turn_end e 0 ss s (put_turn e 1 all (put_turn e 2 all (put_turn e 3 all f))) (omega arith)
    ∙ ap (put_turn e 0 ss)
    (turn_end e 1 ss s (put_turn e 2 all (put_turn e 3 all f)) (omega arith)
    ∙ ap (put_turn e 1 ss)
    (turn_end e 2 ss s (put_turn e 3 all f) (omega arith)
    ∙ ap (put_turn e 2 ss) (turn_end e 3 ss s f (omega arith))))

-- ---- what acts on the first two

-- all of a list are opaque
abbrev AllOpaque : List SeenLayer → Type 0
AllOpaque [] = Unit {0}
AllOpaque (s ∷ ss) = (s.pixel ≢ 0) × AllOpaque ss

joined_opaque : (ts us : List SeenLayer) → AllOpaque ts → AllOpaque us → AllOpaque (ts ++ us)
joined_opaque [] us h k = k
joined_opaque (t ∷ ts) us h k = (h.0, joined_opaque ts us h.1 k)

at_opaque : (p : ℕ) (ss : List SeenLayer) → AllOpaque (at_priority p ss)
at_opaque p [] = tt
at_opaque p (s ∷ ss) =
    elim (cases_eq s.pixel 0) [
      | inl clear ↦ subst AllOpaque (sym (hidden p s ss clear)) (at_opaque p ss)
      | inr opaque ↦
          elim (cases_eq s.priority p) [
            | inl same ↦ subst AllOpaque (sym (taken p s ss opaque same)) (opaque, at_opaque p ss)
            | inr else_ ↦ subst AllOpaque (sym (other p s ss else_)) (at_opaque p ss)
          ]
    ]

from_opaque : (p more : ℕ) (ss : List SeenLayer) → AllOpaque (from_priority p more ss)
from_opaque p zero ss = tt
from_opaque p (suc more) ss = joined_opaque (at_priority p ss) (from_priority (suc p) more ss) (at_opaque p ss) (from_opaque (suc p) more ss)

over_opaque : (pixel : ℕ) (l : Laid) (f : FrontPixel) → pixel ≢ 0 → front_over pixel l f ≡ record { top = pixel % 2 ^ 15 + l.second; next = f.top; mark = l.mark }
over_opaque pixel l f h = grind (arith, h)

abbrev kept : EngineState → SeenLayer → ℕ
kept e s = s.pixel % 2 ^ 15 + flag 15 (is_second_target e s)

colour_kept : (c : ℕ) (b : Bool) → (c % 2 ^ 15 + flag 15 b) % 2 ^ 15 ≡ c % 2 ^ 15
colour_kept c true = omega arith
colour_kept c false = omega arith

second_kept : (c : ℕ) (b : Bool) → nat_le (2 ^ 15) (c % 2 ^ 15 + flag 15 b) ≡ b
second_kept c true = (let h : 2 ^ 15 ≤ c % 2 ^ 15 + 2 ^ 15 = omega arith in grind (arith, h))
second_kept c false = (let h : c % 2 ^ 15 + 0 < 2 ^ 15 = omega arith in grind (arith, h))

-- blending takes no notice of bit 15 of the second pixel
flagless : (a b p c : ℕ) (s : Bool) → blended a b p (c % 2 ^ 15 + flag 15 s) ≡ blended a b p (c % 2 ^ 15)
flagless a b p c true =
    let r : red (c % 2 ^ 15 + 2 ^ 15) ≡ red (c % 2 ^ 15) = omega arith in
    let g : green (c % 2 ^ 15 + 2 ^ 15) ≡ green (c % 2 ^ 15) = omega arith in
    let u : blue (c % 2 ^ 15 + 2 ^ 15) ≡ blue (c % 2 ^ 15) = omega arith in
    let f : ℕ → ℕ → ℕ = λ x y. min 31 ((x * held a + y * held b) / 16) in
    ap (λ (n : ℕ). f (red p) n + 32 * f (green p) (green (c % 2 ^ 15 + 2 ^ 15)) + 1024 * f (blue p) (blue (c % 2 ^ 15 + 2 ^ 15)) + 32768 * top_bit p) r
    ∙ ap (λ (n : ℕ). f (red p) (red (c % 2 ^ 15)) + 32 * f (green p) n + 1024 * f (blue p) (blue (c % 2 ^ 15 + 2 ^ 15)) + 32768 * top_bit p) g
    ∙ ap (λ (n : ℕ). f (red p) (red (c % 2 ^ 15)) + 32 * f (green p) (green (c % 2 ^ 15)) + 1024 * f (blue p) n + 32768 * top_bit p) u
flagless a b p c false = ap (blended a b p) (let z : c % 2 ^ 15 + 0 ≡ c % 2 ^ 15 = omega arith in z)

-- the mark of a layer tells whether it may blend, and whether its brightness may change
abbrev mark_of : Bool → Bool → ℕ → ℕ
mark_of semi first k = mark_blended semi (if first then effect_mark k else 0)

blends_by : (semi first : Bool) (k : ℕ) → nat_le 2 (mark_of semi first k) ≡ (semi || ((k == 1) && first))
blends_by true first k = grind arith
blends_by false true k = grind arith
blends_by false false k = grind arith

changes_by : (semi first : Bool) (k : ℕ) → mark_of semi first k % 2 ≡ (if first && nat_le 2 k then 1 else 0)
changes_by true true k = grind arith
changes_by true false k = grind arith
changes_by false true k = grind arith
changes_by false false k = grind arith

changed_alone : (e : EngineState) (top next mark : ℕ) (first : Bool) →
    finished e (if first && nat_le 2 (effect e) then 1 else 0) (record { top = top; next = next; mark = mark })
    ≡ (if first then brightness_changed e (top % 2 ^ 15) else top % 2 ^ 15)
changed_alone e top next mark false = refl
changed_alone e top next mark true = grind arith

by_kind : (e : EngineState) (both : Bool) (one : ℕ) (f : FrontPixel) →
    finished e (if both then 2 else one) f ≡ (if both then blended (eva e) (evb e) (f.top % 2 ^ 15) f.next else finished e one f)
by_kind e true one f = refl
by_kind e false one f = refl

-- the first layer over whatever is behind it
first_done : (e : EngineState) (t : SeenLayer) (next : ℕ) →
    (let mark : ℕ = (laid_of e t).mark in
    let f : FrontPixel = record { top = kept e t; next = next; mark = mark } in
    finished e (front_kind f) f)
    ≡ (if (t.blended || ((effect e == 1) && is_first_target e t)) && nat_le (2 ^ 15) next then blended (eva e) (evb e) (colour_of t) next else top_alone e t)
first_done e t next =
    let first : Bool = is_first_target e t in
    let mark : ℕ = (laid_of e t).mark in
    let f : FrontPixel = record { top = kept e t; next = next; mark = mark } in
    let both : Bool = (t.blended || ((effect e == 1) && first)) && nat_le (2 ^ 15) next in
    ap (λ (b : Bool). finished e (if b && nat_le (2 ^ 15) next then 2 else mark % 2) f) (blends_by t.blended first (effect e))
    ∙ ap (λ (n : ℕ). finished e (if both then 2 else n) f) (changes_by t.blended first (effect e))
    ∙ by_kind e both (if first && nat_le 2 (effect e) then 1 else 0) f
    ∙ ap (λ (n : ℕ). if both then blended (eva e) (evb e) (kept e t % 2 ^ 15) next else n) (changed_alone e (kept e t) next mark first)
    ∙ ap (λ (n : ℕ). if both then blended (eva e) (evb e) n next else (if first then brightness_changed e n else n)) (colour_kept t.pixel (is_second_target e t))

and_false : (b : Bool) → (b && false) ≡ false
and_false true = refl
and_false false = refl

and_turned : (a b : Bool) → (a && b) ≡ (b && a)
and_turned true true = refl
and_turned true false = refl
and_turned false true = refl
and_turned false false = refl

two_done : (e : EngineState) (t u : SeenLayer) (us : List SeenLayer) →
    (let f : FrontPixel = record { top = kept e t; next = kept e u; mark = (laid_of e t).mark } in finished e (front_kind f) f) ≡ with_effects e (t ∷ (u ∷ us))
two_done e t u us =
    let may : Bool = t.blended || ((effect e == 1) && is_first_target e t) in
    first_done e t (kept e u)
    ∙ ap (λ (b : Bool). if may && b then blended (eva e) (evb e) (colour_of t) (kept e u) else top_alone e t) (second_kept u.pixel (is_second_target e u))
    ∙ ap (λ (b : Bool). if b then blended (eva e) (evb e) (colour_of t) (kept e u) else top_alone e t) (and_turned may (is_second_target e u))
    ∙ ap (λ (n : ℕ). if blends e t u then n else top_alone e t) (flagless (eva e) (evb e) (colour_of t) u.pixel (is_second_target e u))

one_done : (e : EngineState) (t : SeenLayer) →
    (let f : FrontPixel = record { top = kept e t; next = 0; mark = (laid_of e t).mark } in finished e (front_kind f) f) ≡ with_effects e (t ∷ [])
one_done e t =
    let may : Bool = t.blended || ((effect e == 1) && is_first_target e t) in
    first_done e t 0
    ∙ ap (λ (b : Bool). if b then blended (eva e) (evb e) (colour_of t) 0 else top_alone e t) (and_false may)

-- of a list of opaque layers
abbrev front_of : EngineState → List SeenLayer → FrontPixel
front_of e [] = no_front
front_of e (t ∷ []) = record { top = kept e t; next = 0; mark = (laid_of e t).mark }
front_of e (t ∷ (u ∷ us)) = record { top = kept e t; next = kept e u; mark = (laid_of e t).mark }

front_top : (e : EngineState) (t : SeenLayer) (ts : List SeenLayer) → (front_of e (t ∷ ts)).top ≡ kept e t
front_top e t [] = refl
front_top e t (u ∷ us) = refl

laid_front : (e : EngineState) (ts : List SeenLayer) → AllOpaque ts → laid_all e ts no_front ≡ front_of e ts
laid_front e [] h = refl
laid_front e (t ∷ []) h = over_opaque t.pixel (laid_of e t) no_front h.0
laid_front e (t ∷ (u ∷ us)) h =
    ap (put_layer e t) (laid_front e (u ∷ us) h.1)
    ∙ over_opaque t.pixel (laid_of e t) (front_of e (u ∷ us)) h.0
    ∙ ap (λ (n : ℕ). let f : FrontPixel = record { top = kept e t; next = n; mark = (laid_of e t).mark } in f) (front_top e u us)

done : (e : EngineState) (shown : Bool) (ts : List SeenLayer) → finished_where shown e (front_of e ts) ≡ effects_where shown e ts
done e true [] = refl
done e false [] = refl
done e true (t ∷ []) = one_done e t
done e true (t ∷ (u ∷ us)) = two_done e t u us
done e false (t ∷ []) = colour_kept t.pixel (is_second_target e t)
done e false (t ∷ (u ∷ us)) = colour_kept t.pixel (is_second_target e t)

-- ---- the layers of a place

two_bits : (word : ℕ) → bits 0 2 word < 4
two_bits word = omega arith

-- so the rows make the composed pixel
pub composes : (e : EngineState) (line x b : ℕ) (p : LayerPixels) → p.objects.priority < 4 →
    (let shown : ℕ = shown_by_windows e p.objects.window line x in finished_where (bit 5 shown) e (put_all e b (shown_layers e shown p)))
    ≡ composed_pixel e line x b p
unfolding composed_pixel
composes e line x b p small =
    let shown : ℕ = shown_by_windows e p.objects.window line x in
    let layers : List SeenLayer = layers_of e shown b p in
    let below : AllBelow 4 (shown_layers e shown p) =
    (small, (two_bits (bgcnt e 0), (two_bits (bgcnt e 1), (two_bits (bgcnt e 2), (two_bits (bgcnt e 3), tt))))) in
    ap (finished_where (bit 5 shown) e)
    (sym (turns_laid e b (shown_layers e shown p) below) ∙ laid_front e (front_to_back layers) (from_opaque 0 5 layers))
    ∙ done e (bit 5 shown) (front_to_back layers)
