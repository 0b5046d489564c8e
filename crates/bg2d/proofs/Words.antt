-- The words of lower crates and of this one that its proofs speak in, from one place.
pub use Rattle.std.proofs.Common.{Bool, List, ap, arith, get_or, refl, subst, sym, true, ℕ, ◌%◌, ◌*◌, ◌+◌, ◌/◌, ◌<◌, ◌^◌, ◌∙◌, ◌≡◌}
pub use Rattle.std.specs.Prelude.{None, Option, Some, if◌then◌else◌, ◌&&◌}
pub use Rattle.ds_base.specs.Bits.{bit, bits}
pub use Rattle.vram_banks.specs.Bases.{background_palette_space, background_space, map_base}
pub use Rattle.vram_banks.specs.Cells.{Banks, vram_byte}
pub use Rattle.vram_banks.specs.Colours.{HasForm, indexed_pixel, palette_colour}
pub use Rattle.vram_banks.specs.Tiles.{flipped, nibble_at}
pub use Rattle.bg2d.specs.AffinePixels.{affine_place_pixel, affine_size}
unfoldable pub use Rattle.bg2d.specs.AffinePixels.{affine_pixel, affine_point_pixel}
pub use Rattle.bg2d.specs.declared.layers.AffineLayer.{AffineLayer}
pub use Rattle.bg2d.specs.declared.layers.TextLayer.{TextLayer}
pub use Rattle.bg2d.specs.rows.Tiling.{AreEntries, ArePainted, IsKept, text_base, tile_offset, tiled_pixel}
