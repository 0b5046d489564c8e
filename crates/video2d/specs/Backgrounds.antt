use Rattle.std.specs.Prelude.{ℕ, ◌+◌, ◌==◌, ◌&&◌, Bool, false, if◌then◌else◌, not, List, [], ◌∷◌, slice_index_or}
use Rattle.ds_base.specs.Bits.{bit, bits}
use Rattle.vram_banks.specs.Cells.{Banks}
use Rattle.bg2d.specs.AffinePixels.{affine_pixel}
use Rattle.bg2d.specs.TextPixels.{text_pixel}
use Rattle.bg_ext.specs.ExtendedPixels.{ext_pixel}
use Rattle.video2d.specs.Engines.{EngineState, dispcnt, text_layer_of, affine_layer_of, ext_layer_of}
use Rattle.video2d.specs.declared.backgrounds.BackgroundKind.{BackgroundKind}
use Rattle.video2d.specs.declared.backgrounds.BackgroundKind.TheVariants.{Text, Affine, Extended, LeftOut}
use Rattle.video2d.specs.declared.engines.Engine.{Engine}
use Rattle.video2d.specs.declared.engines.Engine.TheVariants.{A, B}

-- What the backgrounds of an engine are, and the pixel of each (GBATEK, "DS Video BG Modes / Control").

-- DISPCNT's fields: the background mode, whether a background is on, whether background 0 is the 3D engine's (engine A's alone)
abbrev pub background_mode : EngineState → ℕ
background_mode e = bits 0 3 (dispcnt e)

abbrev pub is_background_on : EngineState → ℕ → Bool
is_background_on e n = bit (8 + n) (dispcnt e)

abbrev pub is_background_3d : Engine → EngineState → ℕ → Bool
is_background_3d A e n = (n == 0) && bit 3 (dispcnt e)
is_background_3d B e n = false

-- the kinds of backgrounds 0 to 3 in each of the eight modes, of which 6 and 7 are left out
abbrev pub kinds_by_mode : List (List BackgroundKind)
kinds_by_mode =
    (Text ∷ Text ∷ Text ∷ Text ∷ [])
    ∷ (Text ∷ Text ∷ Text ∷ Affine ∷ [])
    ∷ (Text ∷ Text ∷ Affine ∷ Affine ∷ [])
    ∷ (Text ∷ Text ∷ Text ∷ Extended ∷ [])
    ∷ (Text ∷ Text ∷ Affine ∷ Extended ∷ [])
    ∷ (Text ∷ Text ∷ Extended ∷ Extended ∷ [])
    ∷ (LeftOut ∷ LeftOut ∷ LeftOut ∷ LeftOut ∷ [])
    ∷ (LeftOut ∷ LeftOut ∷ LeftOut ∷ LeftOut ∷ [])
    ∷ []

abbrev pub background_kind : ℕ → ℕ → BackgroundKind
background_kind mode n = slice_index_or (slice_index_or kinds_by_mode mode []) n LeftOut

abbrev pub kind_pixel : BackgroundKind → Banks → List ℕ → Engine → EngineState → ℕ → ℕ → ℕ → ℕ
kind_pixel Text v palette which e line n x = text_pixel v palette (text_layer_of which e n) line x
kind_pixel Affine v palette which e line n x = affine_pixel v palette (affine_layer_of which e n) x
kind_pixel Extended v palette which e line n x = ext_pixel v palette (ext_layer_of which e n) x
-- no line shows one that is left out: the display stops before it is drawn
kind_pixel LeftOut v palette which e line n x = 0

-- the pixel of background n at place x of a line: 0 where it is transparent, and one that is off or shows 3D is so everywhere. `palette` has
-- the 512 bytes of the engine's background palette
unfoldable pub background_pixel : Banks → List ℕ → Engine → EngineState → ℕ → ℕ → ℕ → ℕ
background_pixel v palette which e line n x =
    if is_background_on e n && not (is_background_3d which e n)
    then kind_pixel (background_kind (background_mode e) n) v palette which e line n x else 0
