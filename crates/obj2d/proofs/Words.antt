-- The words of lower crates and of this one that its proofs speak in, from one place.
pub use Rattle.std.proofs.Common.{Bool, FitsSigned, List, ap, arith, false, get_or, inl, inr, length, not, of_z, refl, rules, subst, suc, sym, to_z}
pub use Rattle.std.proofs.Common.{true, zero, ℕ, ◌%◌, ◌&&◌, ◌*◌, ◌+◌, ◌-◌, ◌/◌, ◌<◌, ◌==◌, ◌^◌, ◌∙◌, ◌≡◌, ◌≢◌, ◌≤◌}
pub use Rattle.std.proofs.lemmas.List.{get_or-replicate, get_or-set_other, get_or-set_same}
pub use Rattle.std.specs.Prelude.{None, Option, Some, if◌then◌else◌, nat_lt, slice_set}
pub use Rattle.vram_banks.specs.Cells.{Banks, vram_byte}
pub use Rattle.vram_banks.specs.Tiles.{flipped, nibble_at}
pub use Rattle.obj2d.specs.Attributes.{box_height, box_width, flips_across, flips_down, group, group_number, height, is_affine, is_off, left_edge}
pub use Rattle.obj2d.specs.Attributes.{mode, object_at, object_has_256, object_size, palette_number, priority, shape, turn_at, width, widths}
pub use Rattle.obj2d.specs.ObjectLaws.{AreInSpans, IsBefore, IsFrontObject, IsInSpan, IsInWindow, IsLayerPixel, IsNone, IsOf, IsPixel, IsTransparent}
pub use Rattle.obj2d.specs.ObjectLaws.{lanes_pixel, pixel_at}
pub use Rattle.obj2d.specs.ObjectLayer.{SeenObject, blank_pixel, object_pixel, with_object}
unfoldable pub use Rattle.obj2d.specs.ObjectLayer.{pixel_below, seen_at}
pub use Rattle.obj2d.specs.Places.{across, affine_across, affine_down, down, is_drawn, mirrored}
pub use Rattle.obj2d.specs.declared.layers.ObjectPixel.{ObjectPixel}
pub use Rattle.obj2d.specs.declared.layers.Spans.{Spans}
pub use Rattle.obj2d.specs.declared.objects.Display.{Display}
pub use Rattle.obj2d.specs.declared.objects.Object.{Object}
pub use Rattle.obj2d.specs.rows.Strips.{AreNotDrawn, IsLaid}
