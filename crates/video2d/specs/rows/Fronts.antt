use Rattle.std.specs.Prelude.{ℕ, ◌≡◌, ◌≢◌, ◌<◌, ◌≤◌, ◌+◌, ◌%◌, ◌^◌, ◌==◌, ◌&&◌, nat_le, Bool, if◌then◌else◌, List, [], ◌∷◌, slice_index}
use Rattle.ds_base.specs.Bits.{bit, flag}
use Rattle.line_lanes.specs.Pixels.{blended}
use Rattle.video2d.specs.Effects.{brightness_changed, effect, eva, evb}
use Rattle.video2d.specs.Engines.{EngineState, bldcnt}
use Rattle.video2d.specs.Layers.{LayerPixels, SeenLayer, seen_background, seen_objects, shown_through}
use Rattle.obj2d.specs.declared.layers.ObjectLanes.{ObjectLanes}
use Rattle.video2d.specs.declared.fronts.FrontPixel.{FrontPixel}
use Rattle.video2d.specs.declared.fronts.Fronts.{Fronts}
use Rattle.video2d.specs.declared.fronts.Laid.{Laid}

-- How the code composes a line: layers are laid over the backdrop from back to front, and of each place the first two are kept, with what effects may
-- do to the first. No public clause speaks of it.

-- ---- what is in front at a place

abbrev pub front_at : Fronts → ℕ → FrontPixel
front_at f x = record { top = slice_index f.tops x; next = slice_index f.nexts x; mark = slice_index f.marks x }

abbrev pub no_front : FrontPixel
no_front = record { top = 0; next = 0; mark = 0 }

abbrev pub front_over : ℕ → Laid → FrontPixel → FrontPixel
front_over pixel l f = if pixel == 0 then f else record { top = pixel % 2 ^ 15 + l.second; next = f.top; mark = l.mark }

abbrev pub started : ℕ → Laid → FrontPixel
started backdrop l = record { top = backdrop % 2 ^ 15 + l.second; next = 0; mark = l.mark }

-- a semi-transparent object blends over a second target whatever the effect
abbrev pub mark_blended : Bool → ℕ → ℕ
mark_blended semi mark = if semi then 2 + mark % 2 else mark

abbrev pub objects_over : ℕ → ℕ → Bool → ℕ → Laid → FrontPixel → FrontPixel
objects_over colour priority semi turn l f =
    front_over (if priority == turn then colour else 0) (record { second = l.second; mark = mark_blended semi l.mark }) f

-- objects of a priority are seen from one place on and before another alone
abbrev pub AreBetween : ObjectLanes → ℕ → ℕ → ℕ → Type 0
AreBetween row turn first end =
    (x : ℕ) → x < 256 → slice_index row.colours x ≢ 0 → slice_index row.priorities x ≡ turn → (first ≤ x) × (x < end)

-- ---- the layers

-- what the effect may do to a first target: 2 blend it over a second target, 1 change its brightness
abbrev pub effect_mark : ℕ → ℕ
effect_mark k = if k == 0 then 0 else (if k == 1 then 2 else 1)

abbrev pub laid_as : EngineState → ℕ → Laid
laid_as e target = record { second = flag 15 (bit (8 + target) (bldcnt e)); mark = if bit target (bldcnt e) then effect_mark (effect e) else 0 }

abbrev pub laid_of : EngineState → SeenLayer → Laid
laid_of e s = record { second = (laid_as e s.target).second; mark = mark_blended s.blended (laid_as e s.target).mark }

abbrev pub put_layer : EngineState → SeenLayer → FrontPixel → FrontPixel
put_layer e s f = front_over s.pixel (laid_of e s) f

-- where a layer has the priority whose turn it is
abbrev pub put_at : EngineState → ℕ → SeenLayer → FrontPixel → FrontPixel
put_at e p s f = if s.priority == p then put_layer e s f else f

-- layers of one priority, of which the first of the list are in front
abbrev pub put_turn : EngineState → ℕ → List SeenLayer → FrontPixel → FrontPixel
put_turn e p [] f = f
put_turn e p (s ∷ layers) f = put_at e p s (put_turn e p layers f)

-- all of them over the backdrop
unfoldable pub put_all : EngineState → ℕ → List SeenLayer → FrontPixel
put_all e backdrop layers =
    put_turn e 0 layers (put_turn e 1 layers (put_turn e 2 layers (put_turn e 3 layers (started backdrop (laid_as e 5)))))

abbrev pub shown_layers : EngineState → ℕ → LayerPixels → List SeenLayer
shown_layers e shown p =
    shown_through shown (seen_objects p.objects)
    ∷ shown_through shown (seen_background e 0 p.bg0)
    ∷ shown_through shown (seen_background e 1 p.bg1)
    ∷ shown_through shown (seen_background e 2 p.bg2)
    ∷ shown_through shown (seen_background e 3 p.bg3)
    ∷ []

-- ---- what acts, and what it makes

abbrev pub front_kind : FrontPixel → ℕ
front_kind f = if nat_le 2 f.mark && nat_le (2 ^ 15) f.next then 2 else f.mark % 2

abbrev pub finished : EngineState → ℕ → FrontPixel → ℕ
finished e kind f =
    if kind == 2 then blended (eva e) (evb e) (f.top % 2 ^ 15) f.next
    else (if kind == 1 then brightness_changed e (f.top % 2 ^ 15) else f.top % 2 ^ 15)

abbrev pub finished_where : Bool → EngineState → FrontPixel → ℕ
finished_where shown e f = finished e (if shown then front_kind f else 0) f
