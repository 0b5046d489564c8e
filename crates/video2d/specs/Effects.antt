use Rattle.std.specs.Prelude.{ℕ, ◌+◌, ◌%◌, ◌^◌, ◌==◌, ◌&&◌, ◌||◌, Bool, if◌then◌else◌, List, [], ◌∷◌}
use Rattle.ds_base.specs.Bits.{bit, bits}
use Rattle.line_lanes.specs.Pixels.{blended, brightened, darkened}
use Rattle.video2d.specs.Engines.{EngineState, bldcnt, bldalpha, bldy}
use Rattle.video2d.specs.Layers.{SeenLayer}

-- What the layers of a place make, and effects (GBATEK, "LCD I/O Color Special Effects").

-- BLDCNT: first targets by bits 0 to 5, the effect in bits 6 and 7 (1 alpha blending, 2 brighter, 3 darker), second targets by bits 8 to 13
abbrev pub is_first_target : EngineState → SeenLayer → Bool
is_first_target e s = bit s.target (bldcnt e)

abbrev pub is_second_target : EngineState → SeenLayer → Bool
is_second_target e s = bit (8 + s.target) (bldcnt e)

abbrev pub effect : EngineState → ℕ
effect e = bits 6 2 (bldcnt e)

-- the factors: EVA and EVB of BLDALPHA, EVY of BLDY
abbrev pub eva : EngineState → ℕ
eva e = bits 0 5 (bldalpha e)

abbrev pub evb : EngineState → ℕ
evb e = bits 8 5 (bldalpha e)

abbrev pub evy : EngineState → ℕ
evy e = bits 0 5 (bldy e)

-- a layer's colour, without the bit that tells of opaque pixels
abbrev pub colour_of : SeenLayer → ℕ
colour_of s = s.pixel % 2 ^ 15

-- the top layer is blended with the next one where that is a second target: a semi-transparent object always, any other first target where the
-- effect is alpha blending
abbrev pub blends : EngineState → SeenLayer → SeenLayer → Bool
blends e top next = is_second_target e next && (top.blended || ((effect e == 1) && is_first_target e top))

abbrev pub brightness_changed : EngineState → ℕ → ℕ
brightness_changed e colour = if effect e == 2 then brightened (evy e) colour else (if effect e == 3 then darkened (evy e) colour else colour)

-- the top layer alone
abbrev pub top_alone : EngineState → SeenLayer → ℕ
top_alone e top = if is_first_target e top then brightness_changed e (colour_of top) else colour_of top

-- the colour of layers from front to back, with effects; some layer is always there
abbrev pub with_effects : EngineState → List SeenLayer → ℕ
with_effects e [] = 0
with_effects e (top ∷ []) = top_alone e top
with_effects e (top ∷ (next ∷ _)) = if blends e top next then blended (eva e) (evb e) (colour_of top) (colour_of next) else top_alone e top

-- and without
abbrev pub front_colour : List SeenLayer → ℕ
front_colour [] = 0
front_colour (top ∷ _) = colour_of top

abbrev pub effects_where : Bool → EngineState → List SeenLayer → ℕ
effects_where shown e layers = if shown then with_effects e layers else front_colour layers
