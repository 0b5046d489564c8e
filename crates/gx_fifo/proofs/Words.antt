-- The words of lower crates and of this one that its proofs speak in, from one place.
pub use Rattle.std.proofs.Common.{Bool, List, None, Option, Some, [], ap, arith, bit_and, cond, drop, false, if◌then◌else◌, inl, inr, is_some, length}
pub use Rattle.std.proofs.Common.{map, nat_le, nat_lt, option_map, refl, rules, slice_get, slice_index_or, subst, suc, sym, take, true, true≢false}
pub use Rattle.std.proofs.Common.{zero, ℕ, ◌%◌, ◌*◌, ◌++◌, ◌+◌, ◌-◌, ◌/◌, ◌<◌, ◌^◌, ◌∙◌, ◌∷◌, ◌≡◌, ◌≤◌, ◌⊎◌}
pub use Rattle.std.proofs.lemmas.List.{append-nil, append_assoc, length-append, length-drop, length-map, length-take, map-id}
pub use Rattle.std.proofs.lemmas.Option.{none-some, same_Some}
pub use Rattle.std.specs.List.{AllByRecursion, cons_option, list_any, prefix_len}
pub use Rattle.std.specs.Option.{option_or}
pub use Rattle.std.specs.Prelude.{not, option_to_list, take_while, unwrap_or, ◌&&◌, ◌==◌, ◌||◌}
pub use Rattle.ds_base.specs.Bits.{bit, bits}
pub use Rattle.ds_base.specs.declared.ticks.Tick.{Tick}
pub use Rattle.ds_state.specs.Formats.{bytes_written, written_each}
pub use Rattle.ds_state.specs.Reading.{GivesIn, read_format, read_list}
pub use Rattle.gx_matrix.specs.CommandTable.{command_among, command_row, geometry_commands}
unfoldable pub use Rattle.gx_matrix.specs.CommandTable.{command_of}
pub use Rattle.gx_matrix.specs.declared.commands.GeometryCommand.{GeometryCommand}
pub use Rattle.gx_matrix.specs.declared.commands.GeometryCommand.TheVariants.{MtxMode}
pub use Rattle.gx_fifo.specs.Entries.{begun, complete_command, done_after, entries_taken, most_entries, words_taken}
unfoldable pub use Rattle.gx_fifo.specs.Entries.{asks_for_swap}
pub use Rattle.gx_fifo.specs.PackedWords.{FifoState, added_by, entry_added, first_command, first_parameters, is_given, left_among, packed_commands}
pub use Rattle.gx_fifo.specs.PackedWords.{parameter_taken, parameters_of, takes_none, with_word, without_word, word_taken}
unfoldable pub use Rattle.gx_fifo.specs.PackedWords.{bytes_left, unpacked}
unfoldable pub use Rattle.gx_fifo.specs.Saved.{entry_format}
pub use Rattle.gx_fifo.specs.Unpacking.{stops_at}
pub use Rattle.gx_fifo.specs.declared.entries.GxEntry.{GxEntry}
