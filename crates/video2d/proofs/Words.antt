-- The words of lower crates and of this one that its proofs speak in, from one place.
pub use Rattle.std.proofs.Common.{Bool, List, None, Ok, Option, Some, [], ap, arith, bit_and, drop, false, get_or, if◌then◌else◌, inl, inr, length}
pub use Rattle.std.proofs.Common.{map, min, nat_le, nat_lt, refl, replicate, rules, slice_index, slice_set, subst, suc, sym, take, true, true≢false}
pub use Rattle.std.proofs.Common.{zero, ℕ, ◌%◌, ◌&&◌, ◌*◌, ◌++◌, ◌+◌, ◌-◌, ◌/◌, ◌<◌, ◌==◌, ◌^◌, ◌||◌, ◌∙◌, ◌∷◌, ◌≡◌, ◌≢◌, ◌≤◌, ◌⊎◌}
pub use Rattle.std.proofs.lemmas.Bool.{cases_eq, cases_lt}
pub use Rattle.std.proofs.lemmas.List.{at_drop_all, at_drop_more, get_or-replicate, get_or-set_other, get_or-set_same, length-append, length-drop}
pub use Rattle.std.proofs.lemmas.List.{length-replicate, length-set, length-take-le, places, with_items_is}
pub use Rattle.std.proofs.lemmas.List.FromFn.{fill_by_all, get_or-map-range_with_len, length-map-range_with_len}
pub use Rattle.std.proofs.lemmas.Result.{err_from_is_err_and}
pub use Rattle.std.specs.Int.Bits.{and_block, and_le_l, and_le_r, and_mask, bit_or}
pub use Rattle.std.specs.List.{AllByRecursion, range_with_len}
pub use Rattle.ds_base.proofs.Choices.{both, either, either_by, equal, if_false, if_true, is_equal, true_or_false}
pub use Rattle.ds_base.specs.Bits.{bit, bits, flag}
pub use Rattle.ds_base.specs.Numbers.{aligned_down, is_within, number_at, put_by, width_bytes, with_number}
unfoldable pub use Rattle.ds_base.specs.Numbers.{zeroes}
pub use Rattle.ds_base.specs.declared.left_out.Stop.{Stop}
pub use Rattle.ds_base.specs.declared.memories.Width.{Width}
pub use Rattle.ds_base.specs.declared.memories.Width.TheVariants.{Byte, Half, Word}
pub use Rattle.ds_state.proofs.Kept.{kept_twice}
pub use Rattle.ds_state.proofs.Standing.{IsExact, Keeps, Says, StandsFor, made}
pub use Rattle.ds_state.specs.Formats.{Format, bytes_written, code_bytes, keeps_mask, number_code, written_each}
pub use Rattle.ds_state.specs.Reading.{Fails, Left, ReadAnswer, read_code, read_format, read_list, ruled, ◌>>=◌}
pub use Rattle.line_lanes.specs.Pixels.{blended, blue, green, held, red, top_bit}
pub use Rattle.obj2d.specs.ObjectLaws.{IsInSpan, lanes_pixel}
pub use Rattle.obj2d.specs.ObjectLayer.{blank_pixel, object_pixel}
pub use Rattle.obj2d.specs.declared.layers.ObjectPixel.{ObjectPixel}
pub use Rattle.vram_banks.specs.Cells.{Banks}
pub use Rattle.vram_banks.specs.Colours.{palette_colour}
pub use Rattle.video2d.specs.Backgrounds.{is_background_on}
unfoldable pub use Rattle.video2d.specs.Backgrounds.{background_pixel}
pub use Rattle.video2d.specs.DisplayRegisters.{display_row, engine_bytes, engine_row_at, kept_at}
pub use Rattle.video2d.specs.Effects.{blends, brightness_changed, colour_of, effect, effects_where, eva, evb, evy, front_colour, is_first_target}
pub use Rattle.video2d.specs.Effects.{is_second_target, top_alone, with_effects}
pub use Rattle.video2d.specs.Engines.{EngineState, PointState, bgcnt, bldcnt, dispcnt, engine_number}
pub use Rattle.video2d.specs.Layers.{LayerPixels, SeenLayer, at_priority, backdrop_of, from_priority, front_to_back, layers_of, seen_objects}
pub use Rattle.video2d.specs.Pictures.{display_of, engine_pixel, layered_pixel, pixels_at}
unfoldable pub use Rattle.video2d.specs.Pictures.{composed_pixel, engine_line, line_laid, whole_line}
pub use Rattle.video2d.specs.Saved.{IsSavedVideo, ScansFollow, VideoIsSaved, pixel_format, row_width, status_bits, status_of_bits}
unfoldable pub use Rattle.video2d.specs.Saved.{frame_format, frame_pixels, point_format, ports_format, video_format}
pub use Rattle.video2d.specs.Scans.{ScanState, framed_by, scan_after, scan_before, scan_due, scan_due_tick, starts_vblank}
pub use Rattle.video2d.specs.VideoLaws.{IsColour, IsDispstat, IsEngine, IsFrame, IsPoint, kept_bits_at, kept_by}
pub use Rattle.video2d.specs.Windows.{shown_by_windows}
pub use Rattle.video2d.specs.declared.display_registers.DisplayRegister.TheVariants.{Dispstat}
pub use Rattle.video2d.specs.declared.display_registers.DisplayRow.{DisplayRow}
pub use Rattle.video2d.specs.declared.engines.Engine.{Engine}
pub use Rattle.video2d.specs.declared.engines.Engine.TheVariants.{A, B}
pub use Rattle.video2d.specs.declared.fronts.FrontPixel.{FrontPixel}
pub use Rattle.video2d.specs.declared.fronts.Laid.{Laid}
pub use Rattle.video2d.specs.rows.Frames.{FramesState, frame_pixel}
unfoldable pub use Rattle.video2d.specs.rows.Frames.{frame_of}
pub use Rattle.video2d.specs.rows.Fronts.{finished_where, front_at, front_kind, front_over, objects_over, put_at, put_layer, put_turn, started}
unfoldable pub use Rattle.video2d.specs.rows.Fronts.{put_all}
pub use Rattle.video2d.specs.rows.Plain.{background_seen, laid_over, over_at}
pub use Rattle.video2d.specs.rows.Shown.{layers_through, shown_bits_at}
