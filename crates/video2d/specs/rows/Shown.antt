use Rattle.std.specs.Prelude.{ℕ, ◌==◌, ◌&&◌, Bool, if◌then◌else◌, List, [], ◌∷◌, slice_index}
use Rattle.ds_base.specs.Bits.{bits}
use Rattle.obj2d.specs.declared.layers.ObjectPixel.{ObjectPixel}
use Rattle.vram_banks.specs.Cells.{Banks}
use Rattle.video2d.specs.Engines.{EngineState, dispcnt}
use Rattle.video2d.specs.Windows.{is_between, is_window_on, reaches_line, window_left, window_right, shown_in_window, shown_outside, shown_in_objects}
use Rattle.video2d.specs.Layers.{SeenLayer, seen_objects, shown_through}
use Rattle.video2d.specs.rows.Plain.{background_seen}
use Rattle.video2d.specs.declared.engines.Engine.{Engine}
use Rattle.video2d.specs.declared.windows.ShownLine.{ShownLine}
use Rattle.video2d.specs.declared.windows.WindowLine.{WindowLine}

-- How the code has windows along a line. No public clause speaks of it.

abbrev pub window_line : EngineState → ℕ → WindowLine
window_line e line = record {
  none = bits 13 3 (dispcnt e) == 0;
  zero = reaches_line e 0 line;
  one = reaches_line e 1 line;
  objects = is_window_on e 2;
  zero_left = window_left e 0;
  zero_right = window_right e 0;
  one_left = window_left e 1;
  one_right = window_right e 1;
  in_zero = shown_in_window e 0;
  in_one = shown_in_window e 1;
  in_objects = shown_in_objects e;
  outside = shown_outside e;
}

-- what is shown at a place of a line, where some window is on
abbrev pub shown_inside : WindowLine → Bool → ℕ → ℕ
shown_inside w in_objects x =
    if w.zero && is_between w.zero_left w.zero_right x then w.in_zero
    else (if w.one && is_between w.one_left w.one_right x then w.in_one
    else (if w.objects && in_objects then w.in_objects else w.outside))

abbrev pub shown_bits_at : ShownLine → ℕ → ℕ
shown_bits_at s x = if s.all then 0x3F else slice_index s.bits x

-- the layers at a place as a window shows the backgrounds; the objects are seen through it already
abbrev pub layers_through : Banks → List ℕ → Engine → EngineState → ℕ → ℕ → ObjectPixel → ℕ → List SeenLayer
layers_through v colours which e line shown objects x =
    seen_objects objects
    ∷ shown_through shown (background_seen v colours which e line 0 x)
    ∷ shown_through shown (background_seen v colours which e line 1 x)
    ∷ shown_through shown (background_seen v colours which e line 2 x)
    ∷ shown_through shown (background_seen v colours which e line 3 x)
    ∷ []
