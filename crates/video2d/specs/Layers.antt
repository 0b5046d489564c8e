use Rattle.std.specs.Prelude.{ℕ, zero, suc, ◌==◌, ◌&&◌, not, Bool, false, if◌then◌else◌, List, [], ◌∷◌, ◌++◌}
use Rattle.ds_base.specs.Bits.{bit, bits}
use Rattle.obj2d.specs.declared.layers.ObjectPixel.{ObjectPixel}
use Rattle.vram_banks.specs.Colours.{opaque_pixel}
use Rattle.video2d.specs.Engines.{EngineState, bgcnt}

-- The layers at a place of a line, from front to back (GBATEK, "LCD I/O Display Control", "LCD I/O BG Control" and "LCD OBJ - OAM Attributes":
-- priority 0 is the highest; of equal priorities objects are in front of backgrounds, and a background of a lower number in front of one of a
-- higher).

-- what a layer has at a place: its pixel, which is 0 where it is transparent; its priority; its number among the targets of effects, which is
-- its bit in BLDCNT (GBATEK, "LCD I/O Color Special Effects"), that of backgrounds being their own; and whether it is a semi-transparent object
pub record SeenLayer : Type 0 where
  pub pixel : ℕ
  pub priority : ℕ
  pub target : ℕ
  pub blended : Bool

-- what all layers have at a place: the pixels of backgrounds 0 to 3, each 0 where it is transparent, and of the objects
pub record LayerPixels : Type 0 where
  pub bg0 : ℕ
  pub bg1 : ℕ
  pub bg2 : ℕ
  pub bg3 : ℕ
  pub objects : ObjectPixel

abbrev pub seen_background : EngineState → ℕ → ℕ → SeenLayer
seen_background e n pixel = record { pixel = pixel; priority = bits 0 2 (bgcnt e n); target = n; blended = false }

-- all objects are one layer, whose priority is that of the object which is seen
abbrev pub seen_objects : ObjectPixel → SeenLayer
seen_objects p = record { pixel = p.colour; priority = p.priority; target = 4; blended = p.blended }

-- the backdrop lies behind them all, and is opaque
abbrev pub backdrop_of : ℕ → SeenLayer
backdrop_of colour = record { pixel = opaque_pixel colour; priority = 4; target = 5; blended = false }

-- a layer as a window shows it: by the layer's bit (GBATEK, "LCD I/O Window Feature", WININ and WINOUT)
abbrev pub shown_through : ℕ → SeenLayer → SeenLayer
shown_through shown s = record s { pixel = if bit s.target shown then s.pixel else 0 }

-- the layers of a place, in the order in which they count at equal priority. The backdrop is in no window
abbrev pub layers_of : EngineState → ℕ → ℕ → LayerPixels → List SeenLayer
layers_of e shown backdrop p =
    shown_through shown (seen_objects p.objects)
    ∷ shown_through shown (seen_background e 0 p.bg0)
    ∷ shown_through shown (seen_background e 1 p.bg1)
    ∷ shown_through shown (seen_background e 2 p.bg2)
    ∷ shown_through shown (seen_background e 3 p.bg3)
    ∷ backdrop_of backdrop
    ∷ []

-- those that are opaque and have a priority
abbrev pub at_priority : ℕ → List SeenLayer → List SeenLayer
at_priority p [] = []
at_priority p (s ∷ layers) = if not (s.pixel == 0) && (s.priority == p) then s ∷ at_priority p layers else at_priority p layers

-- those of so many priorities from one on, one priority after another
abbrev pub from_priority : ℕ → ℕ → List SeenLayer → List SeenLayer
from_priority p zero layers = []
from_priority p (suc more) layers = at_priority p layers ++ from_priority (suc p) more layers

-- all that are opaque, from front to back
abbrev pub front_to_back : List SeenLayer → List SeenLayer
front_to_back layers = from_priority 0 5 layers
