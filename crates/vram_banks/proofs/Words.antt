-- The words of lower crates and of this one that its proofs speak in, from one place.
pub use Rattle.std.proofs.Common.{Bool, List, None, Option, Some, [], add-one, add-zero, ap, arith, bit_and, bit_or, drop, false, get_or, inl, inr}
pub use Rattle.std.proofs.Common.{length, length-set, map, max, nat_le, nat_lt, not, refl, rules, set, slice_index, slice_set, subst, suc, sym, take}
pub use Rattle.std.proofs.Common.{true, zero, ℕ, ◌%◌, ◌&&◌, ◌*◌, ◌+◌, ◌-◌, ◌/◌, ◌<◌, ◌==◌, ◌^◌, ◌||◌, ◌∙◌, ◌∷◌, ◌≡◌, ◌≢◌, ◌≤◌, ◌⊎◌}
pub use Rattle.std.proofs.lemmas.Bool.{cases_lt}
pub use Rattle.std.proofs.lemmas.List.{get_or-drop, get_or-replicate, get_or-set_other, get_or-set_same, get_or-take, get_or_default, get_or_past}
pub use Rattle.std.proofs.lemmas.Nat.{and_mask, div-add-mod', mod-mul-add, mod_below, mul-mod, or_lt}
pub use Rattle.std.proofs.lemmas.Option.{none-some, same_Some}
pub use Rattle.std.specs.Prelude.{if◌then◌else◌}
pub use Rattle.ds_base.proofs.Choices.{low_or_high, same_or_not}
pub use Rattle.ds_base.specs.Memories.{space_size}
pub use Rattle.ds_base.specs.Numbers.{aligned_down, number_at, put_by, value_by, width_bytes, with_number}
pub use Rattle.ds_base.specs.declared.memories.Space.{Space}
pub use Rattle.ds_base.specs.declared.memories.Space.TheVariants.{ABg, ABgPalette, AObj, AObjPalette, Arm7, BBg, BBgPalette, BObj, BObjPalette, Lcdc}
pub use Rattle.ds_base.specs.declared.memories.Width.{Width}
pub use Rattle.ds_base.specs.declared.memories.Width.TheVariants.{Byte, Half, Word}
pub use Rattle.vram_banks.specs.Cells.{AreBanks, Banks, IsCellAt, IsControl, IsOr, IsRead, IsWritten, allotted_bit, byte_or_0, cell_by, is_allotted}
pub use Rattle.vram_banks.specs.Cells.{is_allotted_there, put_there, vram_value, vram_written}
unfoldable pub use Rattle.vram_banks.specs.Cells.{cell_there, meets_allotted, or_below, put_below, vram_byte, with_vram_byte}
pub use Rattle.vram_banks.specs.Colours.{HasForm, extended_colour, indexed_pixel, opaque_pixel, palette_colour, table_pixel}
unfoldable pub use Rattle.vram_banks.specs.MixLaws.{mixed}
pub use Rattle.vram_banks.specs.Tiles.{flipped, nibble_at}
pub use Rattle.vram_banks.specs.declared.maps.Page.TheVariants.{Empty, One, Several}
pub use Rattle.vram_banks.specs.declared.windows.Window.{Window}
pub use Rattle.vram_banks.specs.paging.Flat.{origin_of}
unfoldable pub use Rattle.vram_banks.specs.paging.Flat.{cell_of, or_at, put_in_cells}
pub use Rattle.vram_banks.specs.paging.Pages.{ArePages, IsCellRun, IsFound, IsPageBelow, cell_among}
