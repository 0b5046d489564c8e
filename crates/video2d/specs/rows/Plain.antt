use Rattle.std.specs.Prelude.{ℕ, ◌%◌, ◌^◌, ◌==◌, ◌&&◌, Bool, if◌then◌else◌, List, [], ◌∷◌}
use Rattle.ds_base.specs.Bits.{bits}
use Rattle.obj2d.specs.ObjectLayer.{object_pixel}
use Rattle.obj2d.specs.declared.layers.ObjectPixel.{ObjectPixel}
use Rattle.vram_banks.specs.Colours.{palette_colour}
use Rattle.vram_banks.specs.Cells.{Banks}
use Rattle.video2d.specs.Backgrounds.{background_pixel}
use Rattle.video2d.specs.Effects.{effect}
use Rattle.video2d.specs.Engines.{EngineState, bldcnt, dispcnt}
use Rattle.video2d.specs.Layers.{SeenLayer, seen_background, seen_objects}
use Rattle.video2d.specs.Pictures.{display_of}
use Rattle.video2d.specs.declared.engines.Engine.{Engine}

-- How the code draws a line where the engine's registers leave the layers as they are: backgrounds are laid over the backdrop, from back to
-- front. No public clause speaks of it.

-- objects and windows are off (DISPCNT bits 12 to 15), and there is no effect
abbrev pub is_plain_engine : EngineState → Bool
is_plain_engine e = (bits 12 4 (dispcnt e) == 0) && (effect e == 0)

-- all backgrounds are off (DISPCNT bits 8 to 11)
abbrev pub has_no_backgrounds : EngineState → Bool
has_no_backgrounds e = bits 8 4 (dispcnt e) == 0

-- a pixel over what is behind it
abbrev pub laid_over : ℕ → ℕ → ℕ
laid_over pixel behind = if pixel == 0 then behind else pixel % 2 ^ 15

-- the same, where a layer has the priority whose turn it is
abbrev pub over_at : ℕ → SeenLayer → ℕ → ℕ
over_at p s behind = if s.priority == p then laid_over s.pixel behind else behind

-- layers of one priority over what is behind them
abbrev pub laid_at : ℕ → List SeenLayer → ℕ → ℕ
laid_at p [] behind = behind
laid_at p (s ∷ layers) behind = over_at p s (laid_at p layers behind)

-- the backgrounds at a place
abbrev pub background_seen : Banks → List ℕ → Engine → EngineState → ℕ → ℕ → ℕ → SeenLayer
background_seen v colours which e line n x = seen_background e n (background_pixel v colours which e line n x)

abbrev pub backgrounds_seen : Banks → List ℕ → Engine → EngineState → ℕ → ℕ → List SeenLayer
backgrounds_seen v colours which e line x =
    background_seen v colours which e line 0 x
    ∷ background_seen v colours which e line 1 x
    ∷ background_seen v colours which e line 2 x
    ∷ background_seen v colours which e line 3 x
    ∷ []

abbrev pub plain_pixel : Banks → List ℕ → Engine → EngineState → ℕ → ℕ → ℕ
plain_pixel v colours which e line x =
    let layers = backgrounds_seen v colours which e line x in
    laid_at 0 layers (laid_at 1 layers (laid_at 2 layers (laid_at 3 layers (palette_colour colours 0 % 2 ^ 15))))

-- windows are off, there is no effect, and no layer is a second target (BLDCNT bits 8 to 13), so that a semi-transparent object isn't blended
-- either: objects are laid in front of the backgrounds of their priority
abbrev pub is_calm : EngineState → Bool
is_calm e = (bits 13 3 (dispcnt e) == 0) && ((effect e == 0) && (bits 8 6 (bldcnt e) == 0))

abbrev pub calm_layers : Banks → List ℕ → Engine → EngineState → ℕ → ObjectPixel → ℕ → List SeenLayer
calm_layers v colours which e line objects x = seen_objects objects ∷ backgrounds_seen v colours which e line x

unfoldable pub calm_over : Banks → List ℕ → Engine → EngineState → ℕ → ℕ → ObjectPixel → ℕ
calm_over v colours which e line x objects =
    let layers = calm_layers v colours which e line objects x in
    laid_at 0 layers (laid_at 1 layers (laid_at 2 layers (laid_at 3 layers (palette_colour colours 0 % 2 ^ 15))))

abbrev pub calm_pixel : Banks → List ℕ → List ℕ → List ℕ → Engine → EngineState → ℕ → ℕ → ℕ
calm_pixel v colours object_colours oam which e line x =
    calm_over v colours which e line x (object_pixel v object_colours oam (display_of which e) line x)
