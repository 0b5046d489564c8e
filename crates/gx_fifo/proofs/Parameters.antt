use Rattle.gx_fifo.proofs.Words.{GeometryCommand, List, Tick, asks_for_swap, false, refl, true≢false, ℕ, ◌∙◌, ◌≡◌}
use Rattle.gx_matrix.specs.declared.commands.GeometryCommand.TheVariants.{Color, Normal, Texcoord, Vtx16, Vtx10, VtxXy, VtxXz, VtxYz, VtxDiff, PolygonAttr, TeximageParam, PlttBase, DifAmb, SpeEmi, LightVector, LightColor, Shininess, BeginVtxs, SwapBuffers, Viewport, PosTest}
use Rattle.gx_geometry.specs.declared.numbers.Numbers.{Numbers}
use Rattle.gx_geometry.specs.Numbers.{numbers_at_boot}
use Rattle.gx_geometry.specs.Changes.{numbers_drawn, numbers_lit, numbers_after, normal_given, coordinates_given, vertex_given, diffuse_given, specular_given, light_pointed, light_coloured, run_begun}
use Rattle.gx_geometry.specs.States.{GeometryState, geometry_after, geometry_at_boot, swapped}

-- A swap's parameter is there from the command that asks for it to the swap.

kept : (command : GeometryCommand) (params : List ℕ) (s : Numbers) → asks_for_swap command ≡ false
    → (numbers_after command params s).parameter ≡ s.parameter
unfolding asks_for_swap numbers_after numbers_lit numbers_drawn normal_given coordinates_given vertex_given diffuse_given specular_given light_pointed light_coloured run_begun
kept Color params s other = refl
kept Texcoord params s other = refl
kept PolygonAttr params s other = refl
kept TeximageParam params s other = refl
kept PlttBase params s other = refl
kept Normal params s other = refl
kept DifAmb params s other = refl
kept SpeEmi params s other = refl
kept LightVector params s other = refl
kept LightColor params s other = refl
kept Shininess params s other = refl
kept BeginVtxs params s other = refl
kept SwapBuffers params s other = absurd (true≢false other)
kept Viewport params s other = refl
kept PosTest params s other = refl
kept Vtx16 params s other = refl
kept Vtx10 params s other = refl
kept VtxXy params s other = refl
kept VtxXz params s other = refl
kept VtxYz params s other = refl
kept VtxDiff params s other = refl
kept command params s other = refl

pub parameter_kept : (command : GeometryCommand) (params : List ℕ) (g : GeometryState) → asks_for_swap command ≡ false → g.numbers.parameter ≡ 0
    → (geometry_after command params g).numbers.parameter ≡ 0
unfolding geometry_after
parameter_kept command params g other none = kept command params g.numbers other ∙ none

pub none_swapped : (now : Tick) (g : GeometryState) → (swapped now g).numbers.parameter ≡ 0
unfolding swapped
none_swapped now g = refl

pub none_at_boot : geometry_at_boot.numbers.parameter ≡ 0
unfolding numbers_at_boot
none_at_boot = refl
