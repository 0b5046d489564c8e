use Rattle.video2d.proofs.Words.{AllByRecursion, Banks, Bool, Engine, EngineState, IsColour, IsFrame, LayerPixels, List, SeenLayer, [], arith}
use Rattle.video2d.proofs.Words.{blended, blends, blue, brightness_changed, colour_of, composed_pixel, drop, effect, effects_where, either}
use Rattle.video2d.proofs.Words.{engine_line, engine_pixel, eva, evb, evy, front_colour, green, held, is_first_target, length, length-append}
use Rattle.video2d.proofs.Words.{length-drop, length-map-range_with_len, length-take-le, line_laid, map, min, range_with_len, red, suc, take}
use Rattle.video2d.proofs.Words.{top_alone, top_bit, whole_line, with_effects, zero, ℕ, ◌%◌, ◌*◌, ◌++◌, ◌+◌, ◌-◌, ◌/◌, ◌<◌, ◌==◌, ◌^◌, ◌∷◌, ◌≡◌, ◌≤◌}
use Rattle.std.proofs.Math.Nat.{mul-le-mul_left}
use Rattle.line_lanes.specs.Pixels.{brightened, by_channels, darkened, mastered}
use Rattle.video2d.specs.Engines.{master_bright}
use Rattle.video2d.specs.Pictures.{is_engine_enabled, screen_kind_pixel, screen_shown}
use Rattle.video2d.specs.declared.lines.Screen.{Screen}
use Rattle.video2d.specs.declared.lines.Screen.TheVariants.{White, Layers, Bank, MainMemory}

-- What an engine shows is a colour at each place, and so frames are.

-- ---- a colour that is changed channel by channel

joined : (r g b t : ℕ) → r ≤ 31 → g ≤ 31 → b ≤ 31 → t ≡ 0 → r + 32 * g + 1024 * b + 32768 * t < 2 ^ 15
joined r g b t hr hg hb ht = omega (arith, hr, hg, hb, ht)

channels : (f : ℕ → ℕ → ℕ) → ((x y : ℕ) → x ≤ 31 → f x y ≤ 31) → (p q : ℕ) → p < 2 ^ 15 → by_channels f p q < 2 ^ 15
channels f h p q small =
    joined (f (red p) (red q)) (f (green p) (green q)) (f (blue p) (blue q)) (top_bit p)
    (h (red p) (red q) (omega arith)) (h (green p) (green q) (omega arith)) (h (blue p) (blue q) (omega arith)) (omega (arith, small))

blended_small : (a b p q : ℕ) → p < 2 ^ 15 → blended a b p q < 2 ^ 15
blended_small a b p q small = channels (λ x y. min 31 ((x * held a + y * held b) / 16)) (λ x y le. omega arith) p q small

up : (x h : ℕ) → x ≤ 31 → h ≤ 16 → x + (31 - x) * h / 16 ≤ 31
up x h le few = let most : (31 - x) * h ≤ (31 - x) * 16 = mul-le-mul_left (31 - x) few in omega (arith, le, most)

held_few : (factor : ℕ) → held factor ≤ 16
held_few factor = omega arith

brightened_small : (y p : ℕ) → p < 2 ^ 15 → brightened y p < 2 ^ 15
brightened_small y p small = channels (λ x _. x + (31 - x) * held y / 16) (λ x _ le. up x (held y) le (held_few y)) p p small

darkened_small : (y p : ℕ) → p < 2 ^ 15 → darkened y p < 2 ^ 15
darkened_small y p small = channels (λ x _. x - x * held y / 16) (λ x _ le. omega (arith, le)) p p small

mastered_small : (value p : ℕ) → p < 2 ^ 15 → mastered value p < 2 ^ 15
mastered_small value p small =
    either IsColour (value / 16384 % 4 == 1) _ _ (brightened_small (value % 32) p small)
    (either IsColour (value / 16384 % 4 == 2) _ _ (darkened_small (value % 32) p small) small)

-- ---- effects

colour_small : (s : SeenLayer) → colour_of s < 2 ^ 15
colour_small s = omega arith

changed_small : (e : EngineState) (p : ℕ) → p < 2 ^ 15 → brightness_changed e p < 2 ^ 15
changed_small e p small =
    either IsColour (effect e == 2) _ _ (brightened_small (evy e) p small) (either IsColour (effect e == 3) _ _ (darkened_small (evy e) p small) small)

alone_small : (e : EngineState) (top : SeenLayer) → top_alone e top < 2 ^ 15
alone_small e top = either IsColour (is_first_target e top) _ _ (changed_small e (colour_of top) (colour_small top)) (colour_small top)

effects_small : (e : EngineState) (layers : List SeenLayer) → with_effects e layers < 2 ^ 15
effects_small e [] = omega arith
effects_small e (top ∷ []) = alone_small e top
effects_small e (top ∷ (next ∷ more)) =
    either IsColour (blends e top next) _ _ (blended_small (eva e) (evb e) (colour_of top) (colour_of next) (colour_small top)) (alone_small e top)

front_small : (layers : List SeenLayer) → front_colour layers < 2 ^ 15
front_small [] = omega arith
front_small (top ∷ more) = colour_small top

where_small : (shown : Bool) (e : EngineState) (layers : List SeenLayer) → effects_where shown e layers < 2 ^ 15
where_small shown e layers = either IsColour shown _ _ (effects_small e layers) (front_small layers)

composed_small : (e : EngineState) (line x backdrop : ℕ) (p : LayerPixels) → composed_pixel e line x backdrop p < 2 ^ 15
unfolding composed_pixel
composed_small e line x backdrop p = where_small _ e _

-- ---- an engine's pixel, its line, and a frame with a line

kind_small : (screen : Screen) (m : Banks) (palette oam : List ℕ) (which : Engine) (e : EngineState) (line x : ℕ)
    → screen_kind_pixel screen m palette oam which e line x < 2 ^ 15
kind_small White m palette oam which e line x = omega arith
kind_small Layers m palette oam which e line x = composed_small e line x _ _
kind_small Bank m palette oam which e line x = omega arith
kind_small MainMemory m palette oam which e line x = omega arith

pixel_small : (m : Banks) (palette oam : List ℕ) (which : Engine) (power : ℕ) (e : EngineState) (line x : ℕ)
    → engine_pixel m palette oam which power e line x < 2 ^ 15
pixel_small m palette oam which power e line x =
    either IsColour (is_engine_enabled which power) _ _
    (mastered_small (master_bright e) _ (kind_small (screen_shown which e) m palette oam which e line x)) (omega arith)

all_map : (f : ℕ → ℕ) (P : ℕ → Type 0) → ((x : ℕ) → P (f x)) → (xs : List ℕ) → AllByRecursion P (map f xs)
all_map f P h [] = tt
all_map f P h (x ∷ xs) = (h x, all_map f P h xs)

all_joined : (P : ℕ → Type 0) (xs ys : List ℕ) → AllByRecursion P xs → AllByRecursion P ys → AllByRecursion P (xs ++ ys)
all_joined P [] ys h k = k
all_joined P (x ∷ xs) ys h k = (h.0, all_joined P xs ys h.1 k)

all_take : (P : ℕ → Type 0) (n : ℕ) (xs : List ℕ) → AllByRecursion P xs → AllByRecursion P (take n xs)
all_take P zero xs h = tt
all_take P (suc n) [] h = tt
all_take P (suc n) (x ∷ xs) h = (h.0, all_take P n xs h.1)

all_drop : (P : ℕ → Type 0) (n : ℕ) (xs : List ℕ) → AllByRecursion P xs → AllByRecursion P (drop n xs)
all_drop P zero xs h = h
all_drop P (suc n) [] h = tt
all_drop P (suc n) (x ∷ xs) h = all_drop P n xs h.1

pub line_colours : (m : Banks) (palette oam : List ℕ) (which : Engine) (power : ℕ) (e : EngineState) (line : ℕ)
    → AllByRecursion IsColour (engine_line m palette oam which power e line)
unfolding engine_line whole_line
line_colours m palette oam which power e line =
    all_map (engine_pixel m palette oam which power e line) IsColour (pixel_small m palette oam which power e line) (range_with_len 0 256)

pub line_long : (m : Banks) (palette oam : List ℕ) (which : Engine) (power : ℕ) (e : EngineState) (line : ℕ)
    → length (engine_line m palette oam which power e line) ≡ 256
unfolding engine_line whole_line
line_long m palette oam which power e line = length-map-range_with_len (engine_pixel m palette oam which power e line) 0 256

-- a frame with a line of colours in it
pub laid_frame : (place : ℕ) (line frame : List ℕ) → place + 256 ≤ 98304 → length line ≡ 256 → AllByRecursion IsColour line → IsFrame frame
    → IsFrame (line_laid place line frame)
unfolding line_laid
laid_frame place line frame within long colours is = record {
  long = (
      let front = length-take-le place frame (let l = is.long in omega (arith, within, l)) in
      let back = length-drop (place + 256) frame in
      let l = is.long in
      let both = length-append (take place frame ++ line) (drop (place + 256) frame) in
      let one = length-append (take place frame) line in
      omega (arith, within, front, back, l, both, one, long));
  colours =
      all_joined IsColour (take place frame ++ line) (drop (place + 256) frame)
      (all_joined IsColour (take place frame) line (all_take IsColour place frame is.colours) colours)
      (all_drop IsColour (place + 256) frame is.colours);
}
