use Rattle.video2d.proofs.Words.{Banks, Bool, Engine, EngineState, FrontPixel, LayerPixels, List, ObjectPixel, SeenLayer, ap, arith, bit, bits}
use Rattle.video2d.proofs.Words.{display_of, false, finished_where, if_false, if_true, if◌then◌else◌, layered_pixel, layers_through, object_pixel}
use Rattle.video2d.proofs.Words.{palette_colour, pixels_at, put_all, put_at, put_layer, refl, shown_by_windows, suc, sym, true, true≢false, zero, ℕ}
use Rattle.video2d.proofs.Words.{◌<◌, ◌==◌, ◌∙◌, ◌≡◌}
use Rattle.obj2d.proofs.OffLemmas.{object_small}
use Rattle.video2d.proofs.FrontLemmas.{composes}

-- Rows that are laid put layers at each place.

pub put_clear : (e : EngineState) (p : ℕ) (s : SeenLayer) (f : FrontPixel) → s.pixel ≡ 0 → put_at e p s f ≡ f
put_clear e p s f h = grind (arith, h)

pub put_other : (e : EngineState) (p : ℕ) (s : SeenLayer) (f : FrontPixel) → (s.priority == p) ≡ false → put_at e p s f ≡ f
put_other e p s f h = if_false (s.priority == p) (put_layer e s f) f h

pub hidden_clear : (b : Bool) (pixel : ℕ) → pixel ≡ 0 → (if b then pixel else 0) ≡ 0
hidden_clear true pixel h = h
hidden_clear false pixel h = refl

-- where no window is on, nothing is hidden
every_bit : (n : ℕ) → n < 6 → bit n 0x3F ≡ true
every_bit zero h = refl
every_bit (suc zero) h = refl
every_bit (suc (suc zero)) h = refl
every_bit (suc (suc (suc zero))) h = refl
every_bit (suc (suc (suc (suc zero)))) h = refl
every_bit (suc (suc (suc (suc (suc zero))))) h = refl
every_bit (suc (suc (suc (suc (suc (suc n)))))) h = absurd (omega (arith, h))

pub shown_whole : (all : Bool) (n bits pixel : ℕ) → all ≡ true → n < 6 → pixel ≡ (if bit n (if all then 0x3F else bits) then pixel else 0)
shown_whole true n bits pixel h lt = sym (if_true (bit n 0x3F) pixel 0 (every_bit n lt))
shown_whole false n bits pixel h lt = absurd (true≢false (sym h))

-- the whole line at a place
pub line_composed : (v : Banks) (colours object_colours oam : List ℕ) (which : Engine) (e : EngineState) (line x shown_here colour : ℕ) (drawn : ObjectPixel) →
    drawn ≡ object_pixel v object_colours oam (display_of which e) line x →
    shown_here ≡ shown_by_windows e drawn.window line x →
    colour ≡ (if bit 4 shown_here then drawn.colour else 0) →
    (let seen : ObjectPixel = record drawn { colour = colour } in
    finished_where (bit 5 shown_here) e (put_all e (palette_colour colours 0) (layers_through v colours which e line shown_here seen x)))
    ≡ layered_pixel v colours object_colours oam which e line x
line_composed v colours object_colours oam which e line x shown_here colour drawn is shown hidden =
    let b : ℕ = palette_colour colours 0 in
    let p : LayerPixels = pixels_at v colours object_colours oam which e line x in
    let by : ℕ → ObjectPixel → ℕ = λ s q. finished_where (bit 5 s) e (put_all e b (layers_through v colours which e line s q x)) in
    let through : ℕ → ObjectPixel → ObjectPixel = λ s q. (let r : ObjectPixel = record q { colour = if bit 4 s then q.colour else 0 } in r) in
    ap (λ (k : ℕ). let r : ObjectPixel = record drawn { colour = k } in by shown_here r) hidden
    ∙ ap (λ (s : ℕ). by s (through s drawn)) shown
    ∙ ap (λ (q : ObjectPixel). let s : ℕ = shown_by_windows e q.window line x in by s (through s q)) is
    ∙ composes e line x b p (object_small v object_colours oam (display_of which e) line x)
