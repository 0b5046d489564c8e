use Rattle.video2d.proofs.Words.{Banks, Bool, Engine, EngineState, LayerPixels, List, ObjectPixel, SeenLayer, [], ap, arith, at_priority, backdrop_of}
use Rattle.video2d.proofs.Words.{background_pixel, background_seen, bgcnt, bit, bits, blank_pixel, bldcnt, blended, blends, brightness_changed}
use Rattle.video2d.proofs.Words.{cases_eq, colour_of, composed_pixel, dispcnt, display_of, effect, effects_where, eva, evb, false, from_priority}
use Rattle.video2d.proofs.Words.{front_colour, front_to_back, if◌then◌else◌, inl, inr, is_first_target, is_second_target, laid_over, layered_pixel}
use Rattle.video2d.proofs.Words.{layers_of, object_pixel, over_at, palette_colour, pixels_at, refl, seen_objects, shown_by_windows, subst, suc, sym}
use Rattle.video2d.proofs.Words.{top_alone, true, with_effects, zero, ℕ, ◌%◌, ◌&&◌, ◌++◌, ◌+◌, ◌<◌, ◌==◌, ◌^◌, ◌||◌, ◌∙◌, ◌∷◌, ◌≡◌, ◌≢◌}
use Rattle.obj2d.proofs.OffLemmas.{object_small, no_object}
use Rattle.video2d.specs.rows.Plain.{calm_over, backgrounds_seen, calm_pixel, has_no_backgrounds, is_calm, is_plain_engine, laid_at, plain_pixel}
use Rattle.video2d.specs.Layers.{seen_background}
use Rattle.video2d.proofs.FrontLemmas.{hidden, other, still_hidden, taken}

-- Where no window, no object and no effect can act, what is seen is the layer in front.

-- ---- the colour in front, of layers that are laid one after another

abbrev front_or : List SeenLayer → ℕ → ℕ
front_or [] behind = behind
front_or (s ∷ ss) behind = colour_of s

front_joined : (ts us : List SeenLayer) (b : ℕ) → front_or (ts ++ us) b ≡ front_or ts (front_or us b)
front_joined [] us b = refl
front_joined (t ∷ ts) us b = refl

laid_clear : (p : ℕ) (s : SeenLayer) (ss : List SeenLayer) (b : ℕ) → s.pixel ≡ 0 → laid_at p (s ∷ ss) b ≡ laid_at p ss b
laid_clear p s ss b h = grind (arith, h)

laid_other : (p : ℕ) (s : SeenLayer) (ss : List SeenLayer) (b : ℕ) → s.priority ≢ p → laid_at p (s ∷ ss) b ≡ laid_at p ss b
laid_other p s ss b h = grind (arith, h)

laid_taken : (p : ℕ) (s : SeenLayer) (ss : List SeenLayer) (b : ℕ) → s.pixel ≢ 0 → s.priority ≡ p → laid_at p (s ∷ ss) b ≡ colour_of s
laid_taken p s ss b h e = grind (arith, h, e)

front_laid : (p : ℕ) (ss : List SeenLayer) (b : ℕ) → front_or (at_priority p ss) b ≡ laid_at p ss b
front_laid p [] b = refl
front_laid p (s ∷ ss) b =
    let F : List SeenLayer → ℕ = λ (l : List SeenLayer). front_or l b in
    elim (cases_eq s.pixel 0) [
      | inl clear ↦ ap F (hidden p s ss clear) ∙ front_laid p ss b ∙ sym (laid_clear p s ss b clear)
      | inr opaque ↦
          elim (cases_eq s.priority p) [
            | inl same ↦ ap F (taken p s ss opaque same) ∙ sym (laid_taken p s ss b opaque same)
            | inr else_ ↦ ap F (other p s ss else_) ∙ front_laid p ss b ∙ sym (laid_other p s ss b else_)
          ]
    ]

abbrev laid_from : ℕ → ℕ → List SeenLayer → ℕ → ℕ
laid_from p zero ss b = b
laid_from p (suc more) ss b = laid_at p ss (laid_from (suc p) more ss b)

front_from : (p more : ℕ) (ss : List SeenLayer) (b : ℕ) → front_or (from_priority p more ss) b ≡ laid_from p more ss b
front_from p zero ss b = refl
front_from p (suc more) ss b =
    front_joined (at_priority p ss) (from_priority (suc p) more ss) b
    ∙ front_laid p ss (front_or (from_priority (suc p) more ss) b)
    ∙ ap (laid_at p ss) (front_from (suc p) more ss b)

front_is : (ts : List SeenLayer) → front_colour ts ≡ front_or ts 0
front_is [] = refl
front_is (t ∷ ts) = refl

-- a last layer of another priority counts for nothing
laid_end : (p : ℕ) (ss : List SeenLayer) (s : SeenLayer) (b : ℕ) → s.priority ≢ p → laid_at p (ss ++ (s ∷ [])) b ≡ laid_at p ss b
laid_end p [] s b h = laid_other p s [] b h
laid_end p (t ∷ ss) s b h = ap (over_at p t) (laid_end p ss s b h)

-- ---- no effect

same_both : (c : Bool) (x y : ℕ) → x ≡ y → (if c then x else y) ≡ y
same_both true x y h = h
same_both false x y h = refl

and_false : (b : Bool) → (b && false) ≡ false
and_false true = refl
and_false false = refl

unchanged : (e : EngineState) (colour : ℕ) → effect e ≡ 0 → brightness_changed e colour ≡ colour
unchanged e colour z = grind (arith, z)

alone : (e : EngineState) (t : SeenLayer) → effect e ≡ 0 → top_alone e t ≡ colour_of t
alone e t z = same_both (is_first_target e t) (brightness_changed e (colour_of t)) (colour_of t) (unchanged e (colour_of t) z)

not_blended : (e : EngineState) (t u : SeenLayer) → effect e ≡ 0 → t.blended ≡ false → blends e t u ≡ false
not_blended e t u z h =
    ap (λ (k : ℕ). is_second_target e u && (t.blended || ((k == 1) && is_first_target e t))) z
    ∙ ap (λ (f : Bool). is_second_target e u && (f || false)) h
    ∙ and_false (is_second_target e u)

-- a fact of all layers
abbrev AllOf : (SeenLayer → Type 0) → List SeenLayer → Type 0
AllOf F [] = Unit {0}
AllOf F (s ∷ ss) = F s × AllOf F ss

abbrev IsUnblended : SeenLayer → Type 0
IsUnblended s = s.blended ≡ false

calm : (e : EngineState) (ts : List SeenLayer) → effect e ≡ 0 → AllOf IsUnblended ts → with_effects e ts ≡ front_colour ts
calm e [] z h = refl
calm e (t ∷ []) z h = alone e t z
calm e (t ∷ (u ∷ us)) z h =
    ap (λ (b : Bool). if b then blended (eva e) (evb e) (colour_of t) (colour_of u) else top_alone e t) (not_blended e t u z h.0)
    ∙ alone e t z

joined_all : (F : SeenLayer → Type 0) (ts us : List SeenLayer) → AllOf F ts → AllOf F us → AllOf F (ts ++ us)
joined_all F [] us h k = k
joined_all F (t ∷ ts) us h k = (h.0, joined_all F ts us h.1 k)

at_all : (F : SeenLayer → Type 0) (p : ℕ) (ss : List SeenLayer) → AllOf F ss → AllOf F (at_priority p ss)
at_all F p [] h = tt
at_all F p (s ∷ ss) h =
    elim (cases_eq s.pixel 0) [
      | inl clear ↦ subst (AllOf F) (sym (hidden p s ss clear)) (at_all F p ss h.1)
      | inr opaque ↦
          elim (cases_eq s.priority p) [
            | inl same ↦ subst (AllOf F) (sym (taken p s ss opaque same)) (h.0, at_all F p ss h.1)
            | inr else_ ↦ subst (AllOf F) (sym (other p s ss else_)) (at_all F p ss h.1)
          ]
    ]

from_all : (F : SeenLayer → Type 0) (p more : ℕ) (ss : List SeenLayer) → AllOf F ss → AllOf F (from_priority p more ss)
from_all F p zero ss h = tt
from_all F p (suc more) ss h = joined_all F (at_priority p ss) (from_priority (suc p) more ss) (at_all F p ss h) (from_all F (suc p) more ss h)

-- nor can a layer be blended where none is a second target
abbrev IsNoSecond : EngineState → SeenLayer → Type 0
IsNoSecond e s = is_second_target e s ≡ false

still : (e : EngineState) (ts : List SeenLayer) → effect e ≡ 0 → AllOf (IsNoSecond e) ts → with_effects e ts ≡ front_colour ts
still e [] z h = refl
still e (t ∷ []) z h = alone e t z
still e (t ∷ (u ∷ us)) z h =
    ap (λ (b : Bool). if b && (t.blended || ((effect e == 1) && is_first_target e t)) then blended (eva e) (evb e) (colour_of t) (colour_of u) else top_alone e t) h.1.0
    ∙ alone e t z

-- ---- the layers of a place

all_shown : (e : EngineState) (in_objects : Bool) (line x : ℕ) → bits 13 3 (dispcnt e) ≡ 0 → shown_by_windows e in_objects line x ≡ 0x3F
all_shown e in_objects line x h = grind (arith, h)

not_fourth : (word : ℕ) → bits 0 2 word ≢ 4
not_fourth word = omega arith

backdrop_seen : (colour : ℕ) → laid_over (backdrop_of colour).pixel 0 ≡ colour % 2 ^ 15
backdrop_seen colour = grind arith

-- the backdrop, behind all
last_laid : (e : EngineState) (b : ℕ) (p0 p1 p2 p3 : ℕ) →
    laid_at 4 (seen_background e 0 p0 ∷ seen_background e 1 p1 ∷ seen_background e 2 p2 ∷ seen_background e 3 p3 ∷ backdrop_of b ∷ []) 0 ≡ b % 2 ^ 15
last_laid e b p0 p1 p2 p3 =
    let l : List SeenLayer = backdrop_of b ∷ [] in
    let l3 : List SeenLayer = seen_background e 3 p3 ∷ l in
    let l2 : List SeenLayer = seen_background e 2 p2 ∷ l3 in
    let l1 : List SeenLayer = seen_background e 1 p1 ∷ l2 in
    laid_other 4 (seen_background e 0 p0) l1 0 (not_fourth (bgcnt e 0))
    ∙ laid_other 4 (seen_background e 1 p1) l2 0 (not_fourth (bgcnt e 1))
    ∙ laid_other 4 (seen_background e 2 p2) l3 0 (not_fourth (bgcnt e 2))
    ∙ laid_other 4 (seen_background e 3 p3) l 0 (not_fourth (bgcnt e 3))
    ∙ backdrop_seen b

-- the backgrounds before the backdrop
abbrev laid_all : List SeenLayer → ℕ → ℕ
laid_all layers b = laid_at 0 layers (laid_at 1 layers (laid_at 2 layers (laid_at 3 layers b)))

all_laid : (e : EngineState) (b : ℕ) (layers : List SeenLayer) (k : ℕ) → laid_all (layers ++ (backdrop_of b ∷ [])) k ≡ laid_all layers k
all_laid e b layers k =
    let s : SeenLayer = backdrop_of b in
    let all : List SeenLayer = layers ++ (s ∷ []) in
    laid_end 0 layers s (laid_at 1 all (laid_at 2 all (laid_at 3 all k))) (omega arith)
    ∙ ap (laid_at 0 layers)
    (laid_end 1 layers s (laid_at 2 all (laid_at 3 all k)) (omega arith)
    ∙ ap (laid_at 1 layers)
    (laid_end 2 layers s (laid_at 3 all k) (omega arith)
    ∙ ap (laid_at 2 layers) (laid_end 3 layers s k (omega arith))))

-- ---- so a plain line has the front layer alone

windows_off : (word : ℕ) → bits 12 4 word ≡ 0 → bits 13 3 word ≡ 0
windows_off word h = omega (arith, h)

objects_off : (word : ℕ) → bits 12 4 word ≡ 0 → bit 12 word ≡ false
objects_off word h = grind (arith, h)

front_alone : (e : EngineState) (line x b : ℕ) (p : LayerPixels) → bits 12 4 (dispcnt e) ≡ 0 → effect e ≡ 0 → p.objects ≡ blank_pixel →
    composed_pixel e line x b p
    ≡ laid_all (seen_background e 0 p.bg0 ∷ seen_background e 1 p.bg1 ∷ seen_background e 2 p.bg2 ∷ seen_background e 3 p.bg3 ∷ []) (b % 2 ^ 15)
unfolding composed_pixel
front_alone e line x b p w z blank =
    let o : SeenLayer = seen_objects p.objects in
    let ss : List SeenLayer = seen_background e 0 p.bg0 ∷ seen_background e 1 p.bg1 ∷ seen_background e 2 p.bg2 ∷ seen_background e 3 p.bg3 ∷ backdrop_of b ∷ [] in
    let clear : o.pixel ≡ 0 = ap (λ (q : ObjectPixel). q.colour) blank in
    let shown : composed_pixel e line x b p ≡ with_effects e (front_to_back (o ∷ ss)) =
    ap (λ (s : ℕ). effects_where (bit 5 s) e (front_to_back (layers_of e s b p))) (all_shown e p.objects.window line x (windows_off (dispcnt e) w)) in
    shown
    ∙ ap (with_effects e) (still_hidden 0 5 o ss clear)
    ∙ calm e (front_to_back ss) z (from_all IsUnblended 0 5 ss (refl, (refl, (refl, (refl, (refl, tt))))))
    ∙ front_is (front_to_back ss)
    ∙ front_from 0 5 ss 0
    ∙ ap (laid_all ss) (last_laid e b p.bg0 p.bg1 p.bg2 p.bg3)
    ∙ all_laid e b (seen_background e 0 p.bg0 ∷ seen_background e 1 p.bg1 ∷ seen_background e 2 p.bg2 ∷ seen_background e 3 p.bg3 ∷ []) (b % 2 ^ 15)

plain_parts : (w z : ℕ) → ((w == 0) && (z == 0)) ≡ true → (w ≡ 0) × (z ≡ 0)
plain_parts w z h = grind (arith, h)

pub plain_layered : (v : Banks) (colours object_colours oam : List ℕ) (which : Engine) (e : EngineState) (line x : ℕ) → x < 256 → is_plain_engine e ≡ true →
    plain_pixel v colours which e line x ≡ layered_pixel v colours object_colours oam which e line x
plain_layered v colours object_colours oam which e line x small h =
    let parts = plain_parts (bits 12 4 (dispcnt e)) (effect e) h in
    let blank : object_pixel v object_colours oam (display_of which e) line x ≡ blank_pixel =
    no_object v object_colours oam (display_of which e) line x small (objects_off (dispcnt e) parts.0) in
    sym (front_alone e line x (palette_colour colours 0) (pixels_at v colours object_colours oam which e line x) parts.0 parts.1 blank)

-- a background that is off is transparent
pub off_clear : (v : Banks) (colours : List ℕ) (which : Engine) (e : EngineState) (line n x : ℕ) → bit (8 + n) (dispcnt e) ≡ false →
    background_pixel v colours which e line n x ≡ 0
unfolding background_pixel
off_clear v colours which e line n x h = rw h refl

-- and leaves what is behind it
pub over_clear : (p : ℕ) (s : SeenLayer) (behind : ℕ) → s.pixel ≡ 0 → over_at p s behind ≡ behind
over_clear p s behind h = grind (arith, h)

-- ---- where no background is on, the backdrop is left

all_off : (word : ℕ) → (bits 8 4 word == 0) ≡ true → (bit 8 word ≡ false) × (bit 9 word ≡ false) × (bit 10 word ≡ false) × (bit 11 word ≡ false)
all_off word h = (grind (arith, h), grind (arith, h), grind (arith, h), grind (arith, h))

four_clear : (p : ℕ) (s0 s1 s2 s3 : SeenLayer) (b : ℕ) → s0.pixel ≡ 0 → s1.pixel ≡ 0 → s2.pixel ≡ 0 → s3.pixel ≡ 0 →
    laid_at p (s0 ∷ s1 ∷ s2 ∷ s3 ∷ []) b ≡ b
four_clear p s0 s1 s2 s3 b h0 h1 h2 h3 =
    laid_clear p s0 (s1 ∷ s2 ∷ s3 ∷ []) b h0 ∙ laid_clear p s1 (s2 ∷ s3 ∷ []) b h1 ∙ laid_clear p s2 (s3 ∷ []) b h2 ∙ laid_clear p s3 [] b h3

pub backdrop_alone : (v : Banks) (colours : List ℕ) (which : Engine) (e : EngineState) (line x : ℕ) → has_no_backgrounds e ≡ true →
    palette_colour colours 0 % 2 ^ 15 ≡ plain_pixel v colours which e line x
backdrop_alone v colours which e line x h =
    let off = all_off (dispcnt e) h in
    let s0 : SeenLayer = background_seen v colours which e line 0 x in
    let s1 : SeenLayer = background_seen v colours which e line 1 x in
    let s2 : SeenLayer = background_seen v colours which e line 2 x in
    let s3 : SeenLayer = background_seen v colours which e line 3 x in
    let clear : (p b : ℕ) → laid_at p (s0 ∷ s1 ∷ s2 ∷ s3 ∷ []) b ≡ b =
    λ p b. four_clear p s0 s1 s2 s3 b
    (off_clear v colours which e line 0 x off.0) (off_clear v colours which e line 1 x off.1)
    (off_clear v colours which e line 2 x off.2) (off_clear v colours which e line 3 x off.3) in
    let b : ℕ = palette_colour colours 0 % 2 ^ 15 in
    let layers : List SeenLayer = s0 ∷ s1 ∷ s2 ∷ s3 ∷ [] in
    sym (clear 0 (laid_at 1 layers (laid_at 2 layers (laid_at 3 layers b)))
    ∙ clear 1 (laid_at 2 layers (laid_at 3 layers b))
    ∙ clear 2 (laid_at 3 layers b)
    ∙ clear 3 b)

-- ---- and one where only objects are added, and no layer is a second target

-- where no object is, the backgrounds are left
pub calm_blank : (v : Banks) (colours : List ℕ) (which : Engine) (e : EngineState) (line x : ℕ) →
    plain_pixel v colours which e line x ≡ calm_over v colours which e line x blank_pixel
unfolding calm_over
calm_blank v colours which e line x =
    let o : SeenLayer = seen_objects blank_pixel in
    let ss : List SeenLayer = backgrounds_seen v colours which e line x in
    let b : ℕ = palette_colour colours 0 % 2 ^ 15 in
    let all : List SeenLayer = o ∷ ss in
    sym (laid_clear 0 o ss (laid_at 1 all (laid_at 2 all (laid_at 3 all b))) refl
    ∙ ap (laid_at 0 ss)
    (laid_clear 1 o ss (laid_at 2 all (laid_at 3 all b)) refl
    ∙ ap (laid_at 1 ss)
    (laid_clear 2 o ss (laid_at 3 all b) refl
    ∙ ap (laid_at 2 ss) (laid_clear 3 o ss b refl))))

windows_none : (w z t : ℕ) → ((w == 0) && ((z == 0) && (t == 0))) ≡ true → (w ≡ 0) × (z ≡ 0) × (t ≡ 0)
windows_none w z t h = grind (arith, h)

no_second : (word : ℕ) → bits 8 6 word ≡ 0 →
    (bit 8 word ≡ false) × (bit 9 word ≡ false) × (bit 10 word ≡ false) × (bit 11 word ≡ false) × (bit 12 word ≡ false) × (bit 13 word ≡ false)
no_second word h = (grind (arith, h), grind (arith, h), grind (arith, h), grind (arith, h), grind (arith, h), grind (arith, h))

front_with_objects : (e : EngineState) (line x b : ℕ) (p : LayerPixels) → bits 13 3 (dispcnt e) ≡ 0 → effect e ≡ 0 → bits 8 6 (bldcnt e) ≡ 0 → p.objects.priority < 4 →
    composed_pixel e line x b p
    ≡ laid_all (seen_objects p.objects ∷ seen_background e 0 p.bg0 ∷ seen_background e 1 p.bg1 ∷ seen_background e 2 p.bg2 ∷ seen_background e 3 p.bg3 ∷ []) (b % 2 ^ 15)
unfolding composed_pixel
front_with_objects e line x b p w z t small =
    let o : SeenLayer = seen_objects p.objects in
    let rest : List SeenLayer = seen_background e 0 p.bg0 ∷ seen_background e 1 p.bg1 ∷ seen_background e 2 p.bg2 ∷ seen_background e 3 p.bg3 ∷ backdrop_of b ∷ [] in
    let ss : List SeenLayer = o ∷ rest in
    let k = no_second (bldcnt e) t in
    let shown : composed_pixel e line x b p ≡ with_effects e (front_to_back ss) =
    ap (λ (s : ℕ). effects_where (bit 5 s) e (front_to_back (layers_of e s b p))) (all_shown e p.objects.window line x w) in
    shown
    ∙ still e (front_to_back ss) z (from_all (IsNoSecond e) 0 5 ss (k.4, (k.0, (k.1, (k.2, (k.3, (k.5, tt)))))))
    ∙ front_is (front_to_back ss)
    ∙ front_from 0 5 ss 0
    ∙ ap (laid_all ss) (laid_other 4 o rest 0 (λ (h : o.priority ≡ 4). omega (arith, h, small)) ∙ last_laid e b p.bg0 p.bg1 p.bg2 p.bg3)
    ∙ all_laid e b (o ∷ seen_background e 0 p.bg0 ∷ seen_background e 1 p.bg1 ∷ seen_background e 2 p.bg2 ∷ seen_background e 3 p.bg3 ∷ []) (b % 2 ^ 15)

pub calm_layered : (v : Banks) (colours object_colours oam : List ℕ) (which : Engine) (e : EngineState) (line x : ℕ) → is_calm e ≡ true →
    calm_pixel v colours object_colours oam which e line x ≡ layered_pixel v colours object_colours oam which e line x
unfolding calm_over
calm_layered v colours object_colours oam which e line x h =
    let parts = windows_none (bits 13 3 (dispcnt e)) (effect e) (bits 8 6 (bldcnt e)) h in
    sym (front_with_objects e line x (palette_colour colours 0) (pixels_at v colours object_colours oam which e line x) parts.0 parts.1 parts.2
    (object_small v object_colours oam (display_of which e) line x))
