-- The words of lower crates and of this one that its proofs speak in, from one place.
pub use Rattle.std.proofs.Common.{Bool, Err, List, None, Ok, Option, Result, Some, [], ap, append-nil, append_assoc, arith, drop, false, flat_map}
pub use Rattle.std.proofs.Common.{if◌then◌else◌, inl, inr, is_err, length, length-append, map, max, nat_eq, nat_lt, refl, subst, suc, sym, take}
pub use Rattle.std.proofs.Common.{take-append-drop, true, true≢false, zero, ℕ, ◌*◌, ◌++◌, ◌+◌, ◌-◌, ◌<◌, ◌^◌, ◌∙◌, ◌∷◌, ◌≡◌, ◌≤◌}
pub use Rattle.std.proofs.lemmas.List.Concat.{flat_map-append}
pub use Rattle.std.proofs.lemmas.Result.{err_from_is_err_and}
pub use Rattle.std.specs.List.{concat, last_or, range_with_len}
pub use Rattle.std.specs.Prelude.{option_to_list}
pub use Rattle.byteorder.specs.Endian.{little_bytes}
pub use Rattle.ds_base.specs.declared.left_out.LeftOut.{LeftOut}
pub use Rattle.ds_base.specs.declared.processors.Proc.{Proc}
pub use Rattle.ds_base.specs.declared.processors.Proc.TheVariants.{Nine, Seven}
pub use Rattle.ds_base.specs.declared.ticks.Tick.{Tick}
pub use Rattle.ds_header.specs.Rules.{IsAccepted}
pub use Rattle.ds_io.proofs.Putting.{puts_then, rose_within}
pub use Rattle.ds_io.proofs.SinkLemmas.{append_none, append_twice, front_after, front_of_more}
pub use Rattle.ds_io.specs.Puts.{Puts}
pub use Rattle.ds_io.specs.Sinks.{Appended, AppendedFront}
pub use Rattle.ds_machine.specs.Frames.{WholeFrame, frame_shown, framed_of, frames_shown, last_frame, last_lists, lists_shown}
pub use Rattle.ds_machine.specs.Inspections.{memory_of, seen_of}
pub use Rattle.ds_machine.specs.Reference.{Shown, dues_of, next_shown, reference}
pub use Rattle.ds_machine.specs.Sound.{HasSoundParts, IsSound}
pub use Rattle.ds_machine.specs.States.{MachineState}
pub use Rattle.ds_runs.proofs.Lists.{least_unique}
pub use Rattle.ds_runs.proofs.RunLaws.{not_both, over_here, same_makes}
pub use Rattle.ds_runs.specs.Runs.{At, Ending, IsLeast, IsOver, Makes, Runs, Stopped, Stops, TickMachine, due_at, more, over, stops}
pub use Rattle.gx_geometry.specs.States.{Swapped}
pub use Rattle.nds_records.specs.Lists.{lists_records}
unfoldable pub use Rattle.nds_records.specs.Numbers.{halves, longs, words}
pub use Rattle.nds_words.specs.declared.commands.Keep.{Keep}
pub use Rattle.nds_words.specs.declared.commands.Keep.TheVariants.{All, Last, Nothing}
pub use Rattle.run_ahead.specs.Consoles.{ConsoleState}
pub use Rattle.run_ahead.specs.TurnLaws.{GoesOn, HasRuns, RanOn, TurnsUpTo}
pub use Rattle.run_ahead.specs.Turns.{HasTurned, TakesQuiet, no_turn, one_more_turn, one_turn, run_to}
unfoldable pub use Rattle.nds_plays.specs.Demos.{body, drawn}
pub use Rattle.nds_plays.specs.Inside.{RunsTo, ending, most_after, most_shown, shown_after, shown_now, swapped_lists}
pub use Rattle.nds_plays.specs.Records.{frame_records, last_records, latest_of}
pub use Rattle.nds_plays.specs.Watches.{LinesAreOne, Traces, bytes_at, run_lines, seen_line, step_lines, told_of, trace_of}
