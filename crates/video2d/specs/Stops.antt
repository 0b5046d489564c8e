use Rattle.std.specs.Prelude.{ℕ, ◌+◌, ◌==◌, nat_le, ◌&&◌, not, Bool, if◌then◌else◌, List, [], ◌∷◌, map, Option, Some, None}
use Rattle.std.specs.Option.{option_or}
use Rattle.std.specs.List.{range_with_len}
use Rattle.ds_base.specs.Bits.{bit}
use Rattle.ds_base.specs.declared.left_out.LeftKind.{LeftKind}
use Rattle.ds_base.specs.declared.left_out.LeftKind.TheVariants.{DisplayMode, BgMode, BitmapObject, Capture, Mosaic}
use Rattle.ds_base.specs.declared.left_out.Stop.{Stop}
use Rattle.obj2d.specs.Attributes.{mode, object_at, object_has_mosaic}
use Rattle.obj2d.specs.Places.{covers}
use Rattle.video2d.specs.Backgrounds.{background_mode, is_background_on}
use Rattle.video2d.specs.Engines.{EngineState, dispcnt, bgcnt, dispcapcnt, background_mosaic, object_mosaic}
use Rattle.video2d.specs.Pictures.{display_mode, is_engine_enabled, is_forced_blank, object_memory, shows_layers}
use Rattle.video2d.specs.declared.engines.Engine.{Engine}
use Rattle.video2d.specs.declared.engines.Engine.TheVariants.{A, B}

-- What a line can't be drawn with, and in which order it counts (our choice). A disabled engine needs nothing, nor does one with forced blank.

abbrev pub needed_if : Bool → LeftKind → ℕ → Option Stop
needed_if needs kind value = if needs then Some (record { kind = kind; value = value }) else None

-- the first that there is
abbrev pub first_need : List (Option Stop) → Option Stop
first_need [] = None
first_need (need ∷ needs) = option_or need (first_need needs)

-- engine B's values have 256 more
abbrev pub value_of_engine : Engine → ℕ → ℕ
value_of_engine A value = value
value_of_engine B value = 256 + value

-- display mode 3, which shows main memory (GBATEK, "DS Video BG Modes / Control")
abbrev pub needs_display_mode : Engine → EngineState → Option Stop
needs_display_mode which e = needed_if (display_mode which e == 3) DisplayMode (value_of_engine which (display_mode which e))

-- background modes 6 and 7
abbrev pub needs_mode : Engine → EngineState → Option Stop
needs_mode which e = needed_if (shows_layers which e && nat_le 6 (background_mode e)) BgMode (value_of_engine which (background_mode e))

-- display capture (GBATEK, "DS Video Capture and Main Memory Display Mode", DISPCAPCNT bit 31), engine A's alone, in every display mode
abbrev pub needs_capture : Engine → EngineState → Option Stop
needs_capture A e = needed_if (bit 31 (dispcapcnt e)) Capture (dispcapcnt e)
needs_capture B e = None

-- a background with mosaic (GBATEK, "LCD I/O Mosaic Function", BGxCNT bit 6), of whatever kind, while its sizes aren't 0; background 0 as 3D
-- counts too
abbrev pub needs_of_background : Engine → EngineState → ℕ → Option Stop
needs_of_background which e n =
    if shows_layers which e && is_background_on e n
    then needed_if (bit 6 (bgcnt e n) && not (background_mosaic e == 0)) Mosaic (value_of_engine which n)
    else None

-- an object that covers the line and is a bitmap (mode 3), or has mosaic (attribute 0 bit 12) while objects' sizes aren't 0. The value of the
-- latter has 128 more
abbrev pub needs_of_object : Engine → EngineState → List ℕ → ℕ → ℕ → Option Stop
needs_of_object which e oam line n =
    if covers (dispcnt e) (object_at oam n) line
    then first_need (
    needed_if (mode (object_at oam n) == 3) BitmapObject (value_of_engine which n)
    ∷ needed_if (object_has_mosaic (object_at oam n) && not (object_mosaic e == 0)) Mosaic (value_of_engine which (128 + n))
    ∷ [])
    else None

-- of the 128 objects; `oam` has the engine's 1,024 bytes of them
unfoldable pub needs_of_objects : Engine → EngineState → List ℕ → ℕ → Option Stop
needs_of_objects which e oam line = first_need (map (needs_of_object which e oam line) (range_with_len 0 128))

abbrev pub needs_of_objects_shown : Engine → EngineState → List ℕ → ℕ → Option Stop
needs_of_objects_shown which e oam line = if shows_layers which e then needs_of_objects which e oam line else None

abbrev pub needs_of_engine : Engine → ℕ → EngineState → List ℕ → ℕ → Option Stop
needs_of_engine which power e oam line =
    if is_engine_enabled which power && not (is_forced_blank e)
    then first_need (
    needs_display_mode which e ∷ needs_mode which e ∷ needs_capture which e
    ∷ needs_of_background which e 0 ∷ needs_of_background which e 1 ∷ needs_of_background which e 2 ∷ needs_of_background which e 3
    ∷ needs_of_objects_shown which e (object_memory which oam) line ∷ [])
    else None

-- of both engines, A before B; `oam` has the bytes of both
abbrev pub needs_of_line : ℕ → EngineState → EngineState → List ℕ → ℕ → Option Stop
needs_of_line power a b oam line = first_need (needs_of_engine A power a oam line ∷ needs_of_engine B power b oam line ∷ [])
