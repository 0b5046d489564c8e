use Rattle.std.specs.Prelude.{ℕ, ◌+◌, ◌==◌, if◌then◌else◌, Bool, true, false, ℤ, List, flat_map, slice_index, slice_set}
use Rattle.byteorder.specs.Endian.{little_bytes}
use Rattle.ds_base.specs.Bits.{bits, bit}
use Rattle.line_lanes.specs.Matrices.{at}
use Rattle.gx_matrix.specs.Commands.{commanded}
use Rattle.gx_matrix.specs.declared.commands.GeometryCommand.{GeometryCommand}
use Rattle.gx_matrix.specs.declared.commands.GeometryCommand.TheVariants.{Color, Normal, Texcoord, Vtx16, Vtx10, VtxXy, VtxXz, VtxYz, VtxDiff, PolygonAttr, TeximageParam, PlttBase, DifAmb, SpeEmi, LightVector, LightColor, Shininess, BeginVtxs, SwapBuffers, Viewport, PosTest}
use Rattle.gx_geometry.specs.declared.numbers.Coordinates.{Coordinates}
use Rattle.gx_geometry.specs.declared.numbers.Numbers.{Numbers}
use Rattle.gx_geometry.specs.Numbers.{low_half, high_half, kind_of, point_by_halves, point_after}
use Rattle.gx_geometry.specs.Lights.{turned, lit_colour, light_at}
use Rattle.gx_geometry.specs.Coordinates.{transform_mode, by_coordinates, by_normal, by_vertex}

-- What each command leaves of the numbers (GBATEK, "DS 3D Geometry Commands" and the chapters that it leads to)

-- a normal: the colour by the lights, and the texture coordinates in mode 2 (GBATEK, NORMAL)
unfoldable pub normal_given : ℕ → Numbers → Numbers
normal_given word s = record s {
  colour = lit_colour s (turned word s.stacks.pose.vector);
  coordinates = (if transform_mode s.texture == 2 then by_normal word s.raw s.stacks.texture.current else s.coordinates);
}

-- texture coordinates, s in the lower half and t in the upper; mode 1 transforms them (GBATEK, TEXCOORD)
abbrev pub coordinates_of : ℕ → Coordinates
coordinates_of word = record { s = low_half word; t = high_half word }

unfoldable pub coordinates_given : ℕ → Numbers → Numbers
coordinates_given word s = record s {
  raw = coordinates_of word;
  coordinates = (if transform_mode s.texture == 1 then by_coordinates (coordinates_of word) s.stacks.texture.current else coordinates_of word);
}

-- a vertex: it becomes the current one and the run's next; mode 3 moves the texture coordinates (GBATEK, VTX_16 and those after it)
unfoldable pub vertex_given : GeometryCommand → List ℕ → Numbers → Numbers
vertex_given command params s =
    let p = point_after command params s.point in
    record s {
      point = p;
      coordinates = (if transform_mode s.texture == 3 then by_vertex p s.raw s.stacks.texture.current else s.coordinates);
      run = s.run + 1;
    }

-- reflections: diffuse in bits 0 to 14, which is the colour too where bit 15 is 1, and ambient in 16 to 30 (GBATEK, DIF_AMB); specular in bits 0 to
-- 14, the table's use in 15, and emission in 16 to 30 (GBATEK, SPE_EMI)
unfoldable pub diffuse_given : ℕ → Numbers → Numbers
diffuse_given word s = record s {
  material = record s.material { diffuse = bits 0 15 word; ambient = bits 16 15 word };
  colour = (if bit 15 word then bits 0 15 word else s.colour);
}

unfoldable pub specular_given : ℕ → Numbers → Numbers
specular_given word s =
    record s { material = record s.material { specular = bits 0 15 word; emission = bits 16 15 word; by_table = bit 15 word } }

-- a light's vector, turned by the vector matrix, and its colour; bits 30 and 31 name the light (GBATEK, LIGHT_VECTOR and LIGHT_COLOR)
unfoldable pub light_pointed : ℕ → Numbers → Numbers
light_pointed word s =
    let v = turned word s.stacks.pose.vector in
    record s { lights = slice_set s.lights (bits 30 2 word) (record (light_at s (bits 30 2 word)) { x = at v 0; y = at v 1; z = at v 2 }) }

unfoldable pub light_coloured : ℕ → Numbers → Numbers
light_coloured word s =
    record s { lights = slice_set s.lights (bits 30 2 word) (record (light_at s (bits 30 2 word)) { colour = bits 0 15 word }) }

-- a run begins: its kind, and the attributes that were set come into force (GBATEK, BEGIN_VTXS and POLYGON_ATTR)
unfoldable pub run_begun : ℕ → Numbers → Numbers
run_begun word s = record s { kind = kind_of (bits 0 2 word); run = 0; attributes = s.set }

-- whether a command gives a vertex
abbrev pub gives_vertex : GeometryCommand → Bool
gives_vertex Vtx16 = true
gives_vertex Vtx10 = true
gives_vertex VtxXy = true
gives_vertex VtxXz = true
gives_vertex VtxYz = true
gives_vertex VtxDiff = true
gives_vertex _ = false

-- The numbers after a command: what the vertices that come will have; lighting; the vertices, swaps and tests; and last the matrices. What none of
-- these names (END_VTXS, BOX_TEST, VEC_TEST) changes no number, as it changes no matrix.
unfoldable pub numbers_drawn : GeometryCommand → List ℕ → Numbers → Numbers
numbers_drawn BeginVtxs params s = run_begun (slice_index params 0) s
numbers_drawn SwapBuffers params s = record s { parameter = slice_index params 0 }
numbers_drawn Viewport params s = record s { viewport = slice_index params 0 }
numbers_drawn PosTest params s = record s { point = point_by_halves params }
numbers_drawn command params s =
    if gives_vertex command then vertex_given command params s else record s { stacks = commanded command params s.stacks }

unfoldable pub numbers_lit : GeometryCommand → List ℕ → Numbers → Numbers
numbers_lit Normal params s = normal_given (slice_index params 0) s
numbers_lit DifAmb params s = diffuse_given (slice_index params 0) s
numbers_lit SpeEmi params s = specular_given (slice_index params 0) s
numbers_lit LightVector params s = light_pointed (slice_index params 0) s
numbers_lit LightColor params s = light_coloured (slice_index params 0) s
numbers_lit Shininess params s = record s { table = flat_map (little_bytes 4) params }
numbers_lit command params s = numbers_drawn command params s

unfoldable pub numbers_after : GeometryCommand → List ℕ → Numbers → Numbers
numbers_after Color params s = record s { colour = bits 0 15 (slice_index params 0) }
numbers_after Texcoord params s = coordinates_given (slice_index params 0) s
numbers_after PolygonAttr params s = record s { set = slice_index params 0 }
numbers_after TeximageParam params s = record s { texture = slice_index params 0 }
numbers_after PlttBase params s = record s { palette = bits 0 13 (slice_index params 0) }
numbers_after command params s = numbers_lit command params s
