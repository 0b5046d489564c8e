use Rattle.std.specs.Prelude.{ℕ, ◌+◌, ◌*◌, ◌==◌, ◌&&◌, not, Bool, if◌then◌else◌, List, [], ◌∷◌, take, drop, ◌++◌, map, slice_range, slice_index_or, ◌%◌, ◌^◌}
use Rattle.std.specs.List.{range_with_len}
use Rattle.ds_base.specs.Bits.{bit, bits}
use Rattle.line_lanes.specs.Pixels.{mastered}
use Rattle.obj2d.specs.ObjectLayer.{object_pixel}
use Rattle.obj2d.specs.declared.objects.Display.{Display}
use Rattle.vram_banks.specs.Cells.{Banks}
use Rattle.bg_ext.specs.BankPixels.{vram_pixel}
use Rattle.vram_banks.specs.Colours.{palette_colour}
use Rattle.video2d.specs.Backgrounds.{background_pixel}
use Rattle.video2d.specs.Effects.{effects_where}
use Rattle.video2d.specs.Engines.{EngineState, dispcnt, engine_number, master_bright}
use Rattle.video2d.specs.Layers.{LayerPixels, front_to_back, layers_of}
use Rattle.video2d.specs.Windows.{shown_by_windows}
use Rattle.video2d.specs.declared.engines.Engine.{Engine}
use Rattle.video2d.specs.declared.engines.Engine.TheVariants.{A, B}
use Rattle.video2d.specs.declared.lines.Screen.{Screen}
use Rattle.video2d.specs.declared.lines.Screen.TheVariants.{White, Layers, Bank, MainMemory}

-- What an engine shows: its pixel at a place of a line, from the state at that line's H-blank event. A line is 256 pixels, and a frame is its
-- lines. Nothing here knows a row buffer or an order of drawing.

-- ---- the pixel of an engine

-- its palettes, and its memory of objects (GBATEK, "DS Memory Map": palettes of A and B, 1K each, backgrounds first; OAM of A and B, 1K each)
abbrev pub background_palette : Engine → List ℕ → List ℕ
background_palette A palette = slice_range palette 0 512
background_palette B palette = slice_range palette 1024 1536

abbrev pub object_palette : Engine → List ℕ → List ℕ
object_palette A palette = slice_range palette 512 1024
object_palette B palette = slice_range palette 1536 2048

abbrev pub object_memory : Engine → List ℕ → List ℕ
object_memory A oam = slice_range oam 0 1024
object_memory B oam = slice_range oam 1024 2048

abbrev pub display_of : Engine → EngineState → Display
display_of which e = record { engine = engine_number which; control = dispcnt e }

-- what the layers have at a place, by the palettes for backgrounds and objects and the memory of objects
abbrev pub pixels_at : Banks → List ℕ → List ℕ → List ℕ → Engine → EngineState → ℕ → ℕ → LayerPixels
pixels_at v colours object_colours oam which e line x = record {
  bg0 = background_pixel v colours which e line 0 x;
  bg1 = background_pixel v colours which e line 1 x;
  bg2 = background_pixel v colours which e line 2 x;
  bg3 = background_pixel v colours which e line 3 x;
  objects = object_pixel v object_colours oam (display_of which e) line x;
}

-- the colour that they make: windows show some of the layers, which lie from front to back, and effects act on the front ones
unfoldable pub composed_pixel : EngineState → ℕ → ℕ → ℕ → LayerPixels → ℕ
composed_pixel e line x backdrop p =
    let shown = shown_by_windows e p.objects.window line x in effects_where (bit 5 shown) e (front_to_back (layers_of e shown backdrop p))

-- the backdrop is colour 0 of the palette for backgrounds
abbrev pub layered_pixel : Banks → List ℕ → List ℕ → List ℕ → Engine → EngineState → ℕ → ℕ → ℕ
layered_pixel v colours object_colours oam which e line x =
    composed_pixel e line x (palette_colour colours 0) (pixels_at v colours object_colours oam which e line x)

-- POWCNT1 (GBATEK, "DS Power Control"): bit 1 enables engine A and bit 9 engine B; bit 15 sends A to the upper screen, 0, and B to the lower, 1
abbrev pub is_engine_enabled : Engine → ℕ → Bool
is_engine_enabled A power = bit 1 power
is_engine_enabled B power = bit 9 power

abbrev pub screen_of : Engine → ℕ → ℕ
screen_of A power = if bit 15 power then 0 else 1
screen_of B power = if bit 15 power then 1 else 0

-- the display mode: two bits, of which engine B has the low one alone (GBATEK, "DS Video BG Modes / Control", DISPCNT bits 16 and 17)
abbrev pub display_mode : Engine → EngineState → ℕ
display_mode A e = bits 16 2 (dispcnt e)
display_mode B e = bits 16 1 (dispcnt e)

abbrev pub is_forced_blank : EngineState → Bool
is_forced_blank e = bit 7 (dispcnt e)

-- what each display mode shows (GBATEK, the same): white, the layers, a bank of video memory, and main memory, which is left out. Forced blank is
-- white
abbrev pub screen_shown : Engine → EngineState → Screen
screen_shown which e = if is_forced_blank e then White else slice_index_or (White ∷ Layers ∷ Bank ∷ MainMemory ∷ []) (display_mode which e) MainMemory

-- it shows its layers: display mode 1, and no forced blank
abbrev pub shows_layers : Engine → EngineState → Bool
shows_layers which e = not (is_forced_blank e) && (display_mode which e == 1)

-- the colour at a place: of a bank it is that of its pixel, as it lies there
abbrev pub screen_kind_pixel : Screen → Banks → List ℕ → List ℕ → Engine → EngineState → ℕ → ℕ → ℕ
screen_kind_pixel White v palette oam which e line x = 0x7FFF
screen_kind_pixel Layers v palette oam which e line x =
    layered_pixel v (background_palette which palette) (object_palette which palette) (object_memory which oam) which e line x
screen_kind_pixel Bank v palette oam which e line x = vram_pixel v (dispcnt e) line x % 2 ^ 15
-- no line shows main memory: the display stops before it is drawn
screen_kind_pixel MainMemory v palette oam which e line x = 0

abbrev pub screen_pixel : Banks → List ℕ → List ℕ → Engine → EngineState → ℕ → ℕ → ℕ
screen_pixel v palette oam which e line x = screen_kind_pixel (screen_shown which e) v palette oam which e line x

-- a disabled engine's pixels are 0 (our choice); on those of the other master brightness acts last, whatever they show
abbrev pub engine_pixel : Banks → List ℕ → List ℕ → Engine → ℕ → EngineState → ℕ → ℕ → ℕ
engine_pixel v palette oam which power e line x =
    if is_engine_enabled which power then mastered (master_bright e) (screen_pixel v palette oam which e line x) else 0

-- ---- lines and frames

-- the 256 pixels of a line; a list of so many doesn't unfold by itself
unfoldable pub whole_line : (ℕ → ℕ) → List ℕ
whole_line pixel = map pixel (range_with_len 0 256)

-- an engine's line
unfoldable pub engine_line : Banks → List ℕ → List ℕ → Engine → ℕ → EngineState → ℕ → List ℕ
engine_line v palette oam which power e line = whole_line (engine_pixel v palette oam which power e line)

-- a frame has 192 lines of the upper screen, and then those of the lower
abbrev pub line_place : ℕ → ℕ → ℕ
line_place screen line = 256 * (192 * screen + line)

-- a frame with a line in place of what stood there
unfoldable pub line_laid : ℕ → List ℕ → List ℕ → List ℕ
line_laid place line frame = take place frame ++ line ++ drop (place + 256) frame
