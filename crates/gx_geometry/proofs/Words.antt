-- The words of lower crates and of this one that its proofs speak in, from one place.
pub use Rattle.std.proofs.Common.{Bool, FitsSigned, List, None, Option, Some, [], ap, append-nil, append_assoc, arith, drop, false, inl, inr}
pub use Rattle.std.proofs.Common.{length, length-append, map, min, nat_le, negsuc, pos, refl, rules, slice_index, slice_index_or, subst, suc, sym}
pub use Rattle.std.proofs.Common.{take, true, true≢false, zero, ℕ, ℤ, ◌%◌, ◌*ℤ◌, ◌*◌, ◌++◌, ◌+ℤ◌, ◌+◌, ◌-◌, ◌/◌, ◌<ℤ◌, ◌<◌, ◌^◌, ◌∙◌, ◌∷◌, ◌≡◌, ◌≢◌}
pub use Rattle.std.proofs.Common.{◌≤ℤ◌, ◌≤◌, ◌⊎◌}
pub use Rattle.std.proofs.lemmas.Int.{fits_signed_mul, ints, of_z-to_z, to_z-of_z, unsigned_abs-mul}
pub use Rattle.std.proofs.lemmas.List.{length-take-le, take-append-le, take_all}
pub use Rattle.std.specs.Int.{w128, w32}
pub use Rattle.std.specs.List.{AllByRecursion, list_all}
pub use Rattle.std.specs.Prelude.{if◌then◌else◌, is_some, nat_lt, option_to_list, slice_set, unsigned_abs, ◌&&◌, ◌==◌, ◌||◌}
pub use Rattle.ds_base.proofs.Choices.{is_equal, is_unequal, low_or_high, same_or_not}
pub use Rattle.ds_base.specs.Bits.{bit, bits}
pub use Rattle.ds_state.specs.Formats.{Format, bytes_written, signed_format, written_each}
pub use Rattle.ds_state.specs.Loops.{with_front}
pub use Rattle.ds_state.specs.Reading.{Left, read_format, read_list}
pub use Rattle.gx_matrix.specs.declared.commands.GeometryCommand.{GeometryCommand}
pub use Rattle.gx_geometry.specs.BoundLaws.{AreLimited, ArePlaces, AreSmall, AreTold, HaveColours, HavePalettes, HaveShapes, is_shaped, no_polygon}
pub use Rattle.gx_geometry.specs.Bounds.{is_place, is_told}
pub use Rattle.gx_geometry.specs.Numbers.{kind_of, no_light}
pub use Rattle.gx_geometry.specs.Polygons.{corners, last_place, most_polygons, most_vertices, no_vertex, place_among, place_since, polygon_at}
pub use Rattle.gx_geometry.specs.Polygons.{polygon_by, vertex_of}
unfoldable pub use Rattle.gx_geometry.specs.Polygons.{completed, has_corners, is_kept, may_be_seen, polygon_among, polygon_of, polygon_with}
unfoldable pub use Rattle.gx_geometry.specs.Saved.{geometry_format, polygon_format, vertex_format}
pub use Rattle.gx_geometry.specs.SavedKept.{FitsLight, FitsPolygon, FitsVertex, dark_light}
unfoldable pub use Rattle.gx_geometry.specs.SavedKept.{current_format, geometry_parts, lighting_format, results_format}
pub use Rattle.gx_geometry.specs.declared.numbers.Kind.{Kind}
pub use Rattle.gx_geometry.specs.declared.numbers.Kind.TheVariants.{QuadStrip, Quads, TriangleStrip, Triangles}
pub use Rattle.gx_geometry.specs.declared.numbers.Light.{Light}
pub use Rattle.gx_geometry.specs.declared.numbers.Numbers.{Numbers}
pub use Rattle.gx_geometry.specs.declared.polygons.Polygon.{Polygon}
pub use Rattle.gx_geometry.specs.declared.polygons.Vertex.{Vertex}
