-- The words of lower crates and of this one that its proofs speak in, from one place.
pub use Rattle.std.proofs.Common.{List, ap, arith, false, get_or, length, refl, subst, sym, true, ℕ, ◌%◌, ◌*◌, ◌+◌, ◌-◌, ◌<◌, ◌∙◌, ◌≡◌}
pub use Rattle.std.specs.Prelude.{None, Option, Some}
pub use Rattle.ds_base.specs.Bits.{bit}
pub use Rattle.ds_base.specs.declared.memories.Space.{Space}
pub use Rattle.ds_base.specs.declared.memories.Width.TheVariants.{Half}
pub use Rattle.vram_banks.specs.Cells.{Banks, vram_byte, vram_value}
pub use Rattle.vram_banks.specs.Colours.{HasForm, indexed_pixel, opaque_pixel, palette_colour}
pub use Rattle.bg_ext.specs.ExtendedPixels.{direct_pixel, ext_across, ext_place_pixel, has_halves, is_bitmap}
unfoldable pub use Rattle.bg_ext.specs.ExtendedPixels.{byte_pixel, ext_pixel, ext_point_pixel, half_pixel}
pub use Rattle.bg_ext.specs.declared.layers.ExtLayer.{ExtLayer}
