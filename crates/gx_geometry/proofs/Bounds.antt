use Rattle.gx_geometry.proofs.Words.{AreLimited, AreSmall, Bool, GeometryCommand, HaveColours, HavePalettes, HaveShapes, Light, List, None, Numbers}
use Rattle.gx_geometry.proofs.Words.{Option, Polygon, Some, Vertex, [], arith, bit, bits, false, if◌then◌else◌, is_shaped, no_light, refl}
use Rattle.gx_geometry.proofs.Words.{slice_index, slice_index_or, slice_set, subst, suc, sym, true, zero, ℕ, ℤ, ◌++◌, ◌+◌, ◌<◌, ◌^◌, ◌∷◌, ◌≡◌, ◌≤◌}
use Rattle.gx_matrix.specs.Commands.{commanded}
use Rattle.gx_matrix.specs.CommandTable.{command_taken}
use Rattle.gx_matrix.specs.declared.commands.GeometryCommand.TheVariants.{Color, Normal, Texcoord, PolygonAttr, TeximageParam, PlttBase, DifAmb, SpeEmi, LightVector, LightColor, Shininess, BeginVtxs, SwapBuffers, Viewport, PosTest}
use Rattle.gx_geometry.specs.Numbers.{numbers_at_boot}
use Rattle.gx_geometry.specs.Lights.{lit_channel, lit_colour, turned}
use Rattle.gx_geometry.specs.Changes.{numbers_drawn, numbers_lit, numbers_after, normal_given, coordinates_given, vertex_given, diffuse_given, specular_given, light_pointed, light_coloured, run_begun, gives_vertex}
use Rattle.gx_geometry.specs.States.{GeometryState, geometry_after}

-- Commands keep colours to fifteen bits and palettes to thirteen, and add at most one vertex to a run.

pub record Goes (s t : Numbers) : Type 0 where
  pub run : t.run ≤ s.run + 1
  pub small : AreSmall s → AreSmall t

goes_if : (b : Bool) (s t u : Numbers) → Goes s t → Goes s u → Goes s (if b then t else u)
goes_if true s t u p q = p
goes_if false s t u p q = q

-- a light's colour after one light was changed
changed_light : (lights : List Light) (n : ℕ) (light : Light) → light.colour < 2 ^ 15 → ((i : ℕ) → (slice_index_or lights i no_light).colour < 2 ^ 15) →
    (i : ℕ) → (slice_index_or (slice_set lights n light) i no_light).colour < 2 ^ 15
changed_light [] n light small old i = old i
changed_light (l ∷ ls) zero light small old zero = small
changed_light (l ∷ ls) zero light small old (suc i) = old (suc i)
changed_light (l ∷ ls) (suc n) light small old zero = old zero
changed_light (l ∷ ls) (suc n) light small old (suc i) = changed_light ls n light small (λ j. old (suc j)) i

channel_small : (s : Numbers) (n : List ℤ) (k : ℕ) → lit_channel s n k ≤ 31
unfolding lit_channel
channel_small s n k = omega arith

lit_small : (s : Numbers) (n : List ℤ) → lit_colour s n < 2 ^ 15
unfolding lit_colour
lit_small s n = omega (arith, channel_small s n 0, channel_small s n 1, channel_small s n 2)

colour_if : (b : Bool) (m n : ℕ) → m < 2 ^ 15 → n < 2 ^ 15 → (if b then m else n) < 2 ^ 15
colour_if true m n p q = p
colour_if false m n p q = q

normal_goes : (word : ℕ) (s : Numbers) → Goes s (normal_given word s)
unfolding normal_given
normal_goes word s = record {
  run = omega arith;
  small = λ h. record { colour = lit_small s (turned word s.stacks.pose.vector); diffuse = h.diffuse; ambient = h.ambient; specular = h.specular; emission = h.emission; lights = h.lights; palette = h.palette };
}

coordinates_go : (word : ℕ) (s : Numbers) → Goes s (coordinates_given word s)
unfolding coordinates_given
coordinates_go word s = record {
  run = omega arith;
  small = λ h. record { colour = h.colour; diffuse = h.diffuse; ambient = h.ambient; specular = h.specular; emission = h.emission; lights = h.lights; palette = h.palette };
}

vertex_goes : (command : GeometryCommand) (params : List ℕ) (s : Numbers) → Goes s (vertex_given command params s)
unfolding vertex_given
vertex_goes command params s = record {
  run = omega arith;
  small = λ h. record { colour = h.colour; diffuse = h.diffuse; ambient = h.ambient; specular = h.specular; emission = h.emission; lights = h.lights; palette = h.palette };
}

diffuse_goes : (word : ℕ) (s : Numbers) → Goes s (diffuse_given word s)
unfolding diffuse_given
diffuse_goes word s = record {
  run = omega arith;
  small = λ h. record { colour = colour_if (bit 15 word) (bits 0 15 word) s.colour (omega arith) h.colour; diffuse = omega arith; ambient = omega arith; specular = h.specular; emission = h.emission; lights = h.lights; palette = h.palette };
}

specular_goes : (word : ℕ) (s : Numbers) → Goes s (specular_given word s)
unfolding specular_given
specular_goes word s = record {
  run = omega arith;
  small = λ h. record { colour = h.colour; diffuse = h.diffuse; ambient = h.ambient; specular = omega arith; emission = omega arith; lights = h.lights; palette = h.palette };
}

pointed_goes : (word : ℕ) (s : Numbers) → Goes s (light_pointed word s)
unfolding light_pointed
pointed_goes word s = record {
  run = omega arith;
  small = λ h. record {
    colour = h.colour;
    diffuse = h.diffuse;
    ambient = h.ambient;
    specular = h.specular;
    emission = h.emission;
    lights = changed_light s.lights (bits 30 2 word) _ (h.lights (bits 30 2 word)) h.lights;
    palette = h.palette;
  };
}

coloured_goes : (word : ℕ) (s : Numbers) → Goes s (light_coloured word s)
unfolding light_coloured
coloured_goes word s = record {
  run = omega arith;
  small = λ h. record {
    colour = h.colour;
    diffuse = h.diffuse;
    ambient = h.ambient;
    specular = h.specular;
    emission = h.emission;
    lights = changed_light s.lights (bits 30 2 word) _ (omega arith) h.lights;
    palette = h.palette;
  };
}

begun_goes : (word : ℕ) (s : Numbers) → Goes s (run_begun word s)
unfolding run_begun
begun_goes word s = record {
  run = omega arith;
  small = λ h. record { colour = h.colour; diffuse = h.diffuse; ambient = h.ambient; specular = h.specular; emission = h.emission; lights = h.lights; palette = h.palette };
}

-- a command that leaves the run and what has a bound
rewritten : (s t : Numbers) → t.colour ≡ s.colour → t.material ≡ s.material → t.lights ≡ s.lights → t.palette ≡ s.palette → AreSmall s → AreSmall t
rewritten s t colour material lights palette h = record {
  colour = omega (arith, colour, h.colour);
  diffuse = rw material h.diffuse;
  ambient = rw material h.ambient;
  specular = rw material h.specular;
  emission = rw material h.emission;
  lights = rw lights h.lights;
  palette = omega (arith, palette, h.palette);
}

same_goes : (s t : Numbers) → t.run ≡ s.run → t.colour ≡ s.colour → t.material ≡ s.material → t.lights ≡ s.lights → t.palette ≡ s.palette → Goes s t
same_goes s t run colour material lights palette = record {
  run = omega (arith, run);
  small = λ h. rewritten s t colour material lights palette h;
}

drawn_goes : (command : GeometryCommand) (params : List ℕ) (s : Numbers) → Goes s (numbers_drawn command params s)
unfolding numbers_drawn
drawn_goes BeginVtxs params s = begun_goes (slice_index params 0) s
drawn_goes SwapBuffers params s = same_goes s _ refl refl refl refl refl
drawn_goes Viewport params s = same_goes s _ refl refl refl refl refl
drawn_goes PosTest params s = same_goes s _ refl refl refl refl refl
drawn_goes command params s =
    let moved : Numbers = record s { stacks = commanded command params s.stacks } in
    goes_if (gives_vertex command) s (vertex_given command params s) moved (vertex_goes command params s) (same_goes s moved refl refl refl refl refl)

lit_goes : (command : GeometryCommand) (params : List ℕ) (s : Numbers) → Goes s (numbers_lit command params s)
unfolding numbers_lit
lit_goes Normal params s = normal_goes (slice_index params 0) s
lit_goes DifAmb params s = diffuse_goes (slice_index params 0) s
lit_goes SpeEmi params s = specular_goes (slice_index params 0) s
lit_goes LightVector params s = pointed_goes (slice_index params 0) s
lit_goes LightColor params s = coloured_goes (slice_index params 0) s
lit_goes Shininess params s = same_goes s _ refl refl refl refl refl
lit_goes command params s = drawn_goes command params s

pub command_goes : (command : GeometryCommand) (params : List ℕ) (s : Numbers) → Goes s (numbers_after command params s)
unfolding numbers_after
command_goes Color params s = record {
  run = omega arith;
  small = λ h. record { colour = omega arith; diffuse = h.diffuse; ambient = h.ambient; specular = h.specular; emission = h.emission; lights = h.lights; palette = h.palette };
}
command_goes Texcoord params s = coordinates_go (slice_index params 0) s
command_goes PolygonAttr params s = same_goes s _ refl refl refl refl refl
command_goes TeximageParam params s = same_goes s _ refl refl refl refl refl
command_goes PlttBase params s = record {
  run = omega arith;
  small = λ h. record { colour = h.colour; diffuse = h.diffuse; ambient = h.ambient; specular = h.specular; emission = h.emission; lights = h.lights; palette = omega arith };
}
command_goes command params s = lit_goes command params s

pub small_after : (command : GeometryCommand) (params : List ℕ) (s t : Numbers) → t ≡ numbers_after command params s → AreSmall s → AreSmall t
small_after command params s t e h = subst AreSmall (sym e) ((command_goes command params s).small h)

-- a vertex or a polygon more
pub colour_added : (xs : List Vertex) (v : Vertex) → v.colour < 2 ^ 15 → HaveColours xs → HaveColours (xs ++ v ∷ [])
colour_added [] v small h zero = small
colour_added [] v small h (suc i) = h 0
colour_added (x ∷ xs) v small h zero = h 0
colour_added (x ∷ xs) v small h (suc i) = colour_added xs v small (λ j. h (suc j)) i

pub palette_added : (xs : List Polygon) (p : Polygon) → p.palette < 2 ^ 13 → HavePalettes xs → HavePalettes (xs ++ p ∷ [])
palette_added [] p small h zero = small
palette_added [] p small h (suc i) = h 0
palette_added (x ∷ xs) p small h zero = h 0
palette_added (x ∷ xs) p small h (suc i) = palette_added xs p small (λ j. h (suc j)) i

pub shape_added : (xs : List Polygon) (p : Polygon) → is_shaped p ≡ true → HaveShapes xs → HaveShapes (xs ++ p ∷ [])
shape_added [] p shaped h = (shaped, tt)
shape_added (x ∷ xs) p shaped h = (h.0, shape_added xs p shaped h.1)

-- a command adds at most one vertex to the run
named_after : (command : GeometryCommand) (params : List ℕ) (g : GeometryState) → (geometry_after command params g).numbers.run ≤ g.numbers.run + 1
unfolding geometry_after
named_after command params g = (command_goes command params g.numbers).run

pub run_after : (command : Option GeometryCommand) (params : List ℕ) (g : GeometryState) → (command_taken geometry_after command params g).numbers.run ≤ g.numbers.run + 1
run_after None params g = omega arith
run_after (Some command) params g = named_after command params g

-- at boot
dark : (i : ℕ) → (slice_index_or (no_light ∷ no_light ∷ no_light ∷ no_light ∷ []) i no_light).colour < 2 ^ 15
dark zero = omega arith
dark (suc zero) = omega arith
dark (suc (suc zero)) = omega arith
dark (suc (suc (suc zero))) = omega arith
dark (suc (suc (suc (suc i)))) = omega arith

pub boot_small : AreSmall numbers_at_boot
unfolding numbers_at_boot
boot_small = record { colour = omega arith; diffuse = omega arith; ambient = omega arith; specular = omega arith; emission = omega arith; lights = dark; palette = omega arith }

pub no_colours : HaveColours []
no_colours i = omega arith

pub no_palettes : HavePalettes []
no_palettes i = omega arith

pub none_limited : AreLimited [] []
none_limited = record { vertices_within = omega arith; polygons_within = omega arith; colours = no_colours; palettes = no_palettes; shapes = tt }
