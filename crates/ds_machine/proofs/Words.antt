-- The words of lower crates and of this one that its proofs speak in, from one place.
pub use Rattle.std.proofs.Common.{All, Bool, Contains, Err, IsSome, List, None, Ok, Option, Result, Some, [], ap, arith, bit_and, bit_or, drop, false}
pub use Rattle.std.proofs.Common.{if◌then◌else◌, inl, inr, length, map, max, min, nat_le, nat_lt, option_map, refl, rules, slice_index, subst, suc}
pub use Rattle.std.proofs.Common.{sym, take, true, true≢false, zero, ℕ, ◌%◌, ◌*◌, ◌++◌, ◌+◌, ◌-◌, ◌/◌, ◌<◌, ◌==◌, ◌^◌, ◌↔◌, ◌∙◌, ◌∷◌, ◌≡◌, ◌≢◌, ◌≤◌}
pub use Rattle.std.proofs.Common.{◌⊎◌}
pub use Rattle.std.proofs.Math.Nat.{le-max_left, le-max_right, mul-le-mul_left}
pub use Rattle.std.proofs.lemmas.Bool.{and_from, and_parts, and_right, not-true, or_cases, or_from, or_parts}
pub use Rattle.std.proofs.lemmas.List.{append-nil, length-append, length-map, length-take-le}
pub use Rattle.std.proofs.lemmas.Nat.Bits.{bit_at-zero, bit_at_and, bit_at_or, same_from_bits}
pub use Rattle.std.proofs.lemmas.Option.{none-some, same_Some}
pub use Rattle.std.specs.Int.{bit_at, bit_not, w32}
pub use Rattle.std.specs.List.{AllByRecursion, last_or, list_all}
pub use Rattle.std.specs.Prelude.{IfSome, IsErrAnd, count_ones, is_some, not, slice_index_or, unwrap_or, ◌&&◌, ◌||◌}
pub use Rattle.arm7_exec.specs.Arm7.{arm7, step7_of}
pub use Rattle.arm9_exec.specs.Arm9.{arm9, executed_or_moved, step9_of}
pub use Rattle.arm9_exec.specs.Coprocessors.{MoveOutcome, carried_over, move_clocks, move_of, moved_if, read_by, register_moved, written_by}
pub use Rattle.arm9_exec.specs.Statuses.{HasNineStatuses}
pub use Rattle.arm9_exec.specs.declared.coprocessors.Moved.{Moved}
pub use Rattle.arm_core.proofs.Footprints.{count_listed}
pub use Rattle.arm_core.specs.Addressing.{addressed, list_bytes, listed_registers, lowest, moved_base, offset_value, short_offset_value}
pub use Rattle.arm_core.specs.Conditions.{holds}
pub use Rattle.arm_core.specs.Effects.{Meaning, Outcome, carried_out, concluded, cost_of}
pub use Rattle.arm_core.specs.Enhanced.{enhanced_meaning, link_meaning}
pub use Rattle.arm_core.specs.Exceptions.{interrupt_meaning, undefined_meaning}
pub use Rattle.arm_core.specs.Footprints.{access_bytes, span}
pub use Rattle.arm_core.specs.Meanings.{act, act_branch, act_multiply, act_processing, condition, meaning, skipped}
pub use Rattle.arm_core.specs.Registers.{RegisterState, is_thumb, register}
unfoldable pub use Rattle.arm_core.specs.Saved.{registers_format}
pub use Rattle.arm_core.specs.StatusLaws.{HasStatuses, IsStatus}
pub use Rattle.arm_core.specs.Steps.{FetchOutcome, Setting, enters, executed, executed_unless, executed_word, fetched, fetched_half, fetched_word}
pub use Rattle.arm_core.specs.Steps.{is_served, stop_of, swi_stop}
pub use Rattle.arm_core.specs.Thumb.{equivalent}
pub use Rattle.arm_core.specs.Undefined.{has_coprocessor, is_undefined}
pub use Rattle.arm_core.specs.declared.addresses.Addressed.{Addressed}
pub use Rattle.arm_core.specs.declared.outcomes.Stepped.TheVariants.{Cost, Halted, Left}
pub use Rattle.arm_core.specs.declared.touches.Reach.{Reach}
pub use Rattle.arm_exec.proofs.Costs.{some_cost}
pub use Rattle.arm_exec.specs.Costs.{CostsSome}
pub use Rattle.arm_ops.proofs.Laws.{made_accesses, operation_means, operation_needs_none, run_is_decoded}
pub use Rattle.arm_ops.proofs.Words.{listed_within}
pub use Rattle.arm_ops.specs.Meanings.{AreNear, IsNearAccess, RefusesNoneInRam, access_made, access_meaning, access_of, accesses_by, computed, is_ram}
pub use Rattle.arm_ops.specs.Meanings.{meaning_by, op_meaning, operation_meaning, single_transfer_meaning}
pub use Rattle.arm_ops.specs.Operations.{HasOp, is_decoded, is_other, loads, operation_of}
pub use Rattle.arm_ops.specs.declared.operations.DataAccess.{DataAccess}
pub use Rattle.arm_ops.specs.declared.operations.Op.{Op}
pub use Rattle.arm_ops.specs.declared.operations.Operation.{Operation}
pub use Rattle.arm_ops.specs.declared.operations.TransferOp.{TransferOp}
pub use Rattle.arm_ops.specs.declared.operations.TransferOp.TheVariants.{HalfOrSigned, WordOrByte}
pub use Rattle.arm_words.specs.ArmTable.{decoded_arm}
pub use Rattle.arm_words.specs.Parts.{condition_of}
pub use Rattle.arm_words.specs.ThumbTable.{decoded_thumb}
pub use Rattle.arm_words.specs.declared.instructions.Instr.{Instr}
pub use Rattle.arm_words.specs.declared.instructions.Instr.TheVariants.{Clz, Compare, Coprocessor, Data, DoubleTransfer, HalfTransfer, LongMultiply}
pub use Rattle.arm_words.specs.declared.instructions.Instr.TheVariants.{Mla, Move, Mrs, Msr, MsrImmediate, Mul, Never, Saturating, Smla, Smlal, Smlaw}
pub use Rattle.arm_words.specs.declared.instructions.Instr.TheVariants.{Smul, Smulw, Swap, Swi, ThumbAddress, ThumbBlPrefix, ThumbBlSuffix}
pub use Rattle.arm_words.specs.declared.instructions.Instr.TheVariants.{ThumbBranch, ThumbBranchIf, ThumbLoadLiteral, ThumbSwi}
pub use Rattle.arm_words.specs.declared.operations.HalfOp.{HalfOp}
pub use Rattle.arm_words.specs.declared.operations.HalfOp.TheVariants.{Ldrh, Ldrsb, Ldrsh, Strh}
pub use Rattle.cp15_tcm.specs.Registers.{Cp15State, control_mask, control_ones, vectors_of}
unfoldable pub use Rattle.cp15_tcm.specs.Saved.{cp15_format}
pub use Rattle.cp15_tcm.specs.TightlyCoupled.{IsMainPast, answers, covered, dtcm_base, in_dtcm, in_itcm, tcm_of}
pub use Rattle.cp15_tcm.specs.declared.answers.Tcm.{Tcm}
pub use Rattle.cp15_tcm.specs.declared.answers.Tcm.TheVariants.{Dtcm, Itcm, Past}
pub use Rattle.ds_base.proofs.Choices.{and_false, both, both_true, either, either_by, equal, if_false, if_true, is_equal, le_of, low_or_high}
pub use Rattle.ds_base.proofs.Choices.{lt_cases, lt_or_same, not_false, not_lt, not_true, same_or_not, true_or_false}
pub use Rattle.ds_base.specs.Accesses.{Access, Fetch, MemoryMachine, Performed, Read, Write, perform, refused_or, with_value}
pub use Rattle.ds_base.specs.Bits.{bit, bits, flag}
pub use Rattle.ds_base.specs.KeyLines.{AreKeyLines, line_at}
pub use Rattle.ds_base.specs.Memories.{memory_size, space_size}
pub use Rattle.ds_base.specs.Numbers.{aligned_down, value_by, width_bytes, with_number}
pub use Rattle.ds_base.specs.Processors.{architecture_of, ticks_per_clock}
pub use Rattle.ds_base.specs.Schedules.{IsEarly, IsLater, Reschedules, due_number}
pub use Rattle.ds_base.specs.declared.keys.KeyLine.{KeyLine}
pub use Rattle.ds_base.specs.declared.left_out.LeftOut.{LeftOut}
pub use Rattle.ds_base.specs.declared.left_out.Stop.{Stop}
pub use Rattle.ds_base.specs.declared.memories.Memory.TheVariants.{Oam, Own7, Palette, Shared, Vram}
pub use Rattle.ds_base.specs.declared.memories.Width.{Width}
pub use Rattle.ds_base.specs.declared.memories.Width.TheVariants.{Byte, Half, Word}
pub use Rattle.ds_base.specs.declared.processors.Arch.{Arch}
pub use Rattle.ds_base.specs.declared.processors.Arch.TheVariants.{V4, V5}
pub use Rattle.ds_base.specs.declared.processors.Proc.{Proc}
pub use Rattle.ds_base.specs.declared.processors.Proc.TheVariants.{Nine, Seven}
pub use Rattle.ds_base.specs.declared.ticks.Due.{Due}
pub use Rattle.ds_base.specs.declared.ticks.Tick.{Tick}
pub use Rattle.ds_card.proofs.SavedLaws.{card_exact, card_stands}
pub use Rattle.ds_card.specs.CardPorts.{block_words, data_port_at}
pub use Rattle.ds_card.specs.Cards.{CardState, card_after_event, card_byte, card_due, card_due_for, card_starter, start_refusal}
pub use Rattle.ds_card.specs.Saved.{HasItsWord, IsCardAt}
unfoldable pub use Rattle.ds_card.specs.Saved.{card_format}
pub use Rattle.ds_card.specs.TransferLaws.{CardHappens, CardPasses, and_taken}
pub use Rattle.ds_card.specs.TransferLaws.CardHappens.{came, was_read, wrote}
pub use Rattle.ds_card.specs.TransferLaws.CardPasses.{passed_none, passed_one}
pub use Rattle.ds_dma.proofs.SavedLaws.{dma_exact, dma_stands, none_earlier}
pub use Rattle.ds_dma.proofs.Turns.{all_later, least_below}
pub use Rattle.ds_dma.proofs.Wholes.{awaits_none}
pub use Rattle.ds_dma.specs.Channels.{IsChannel, after_both, channel_at_boot, is_running, ready}
pub use Rattle.ds_dma.specs.Saved.{asked_last, comes_by, dma_format, late_runs_by}
unfoldable pub use Rattle.ds_dma.specs.Saved.{channel_format_by, dma_format_by}
pub use Rattle.ds_dma.specs.States.{AreReadyLater, DmaState, IsDma, any_runs, awaits_geometry, channel_at, channel_due, dma_at_boot, dma_due}
pub use Rattle.ds_dma.specs.States.{due_with, last_tick, least_running}
pub use Rattle.ds_dma.specs.declared.channels.Channel.{Channel}
pub use Rattle.ds_dma.specs.declared.channels.LastUnit.{LastUnit}
pub use Rattle.ds_dma.specs.declared.channels.Unit.{Unit as DmaUnit}
pub use Rattle.ds_dma.specs.declared.controls.Cause.TheVariants.{HBlank, VBlank}
pub use Rattle.ds_dma.specs.declared.dma.DmaDue.{DmaDue}
pub use Rattle.ds_header.specs.Fields.{image_entry, image_of, image_place}
pub use Rattle.ds_header.specs.Rules.{ImageLies, IsAccepted}
pub use Rattle.ds_ipc.specs.Ipcs.{other_proc}
pub use Rattle.ds_map.proofs.Guards.{nine_refusal, nine_written, read_leaves, room_meets_none, taken_leaves}
pub use Rattle.ds_map.proofs.Later.{map_read_goes, map_read_leaves, map_write_goes}
pub use Rattle.ds_map.proofs.Reached.{unreached_by}
pub use Rattle.ds_map.proofs.Waiting.{nine_most, performed_so, performed_waited, seven_most, unit_waits_most, waited_so, waits_most}
pub use Rattle.ds_map.specs.Accesses.{after_read_at, fetched_at, is_byte_of_nine, refusal_at, takes_no_bytes, value_at, written_at}
unfoldable pub use Rattle.ds_map.specs.Accesses.{map_fetched, map_read, map_refusal, map_value, map_written}
pub use Rattle.ds_map.specs.Guards.{guarded_memory, is_guarded, meets_guard, tcm_guarded_refusal}
pub use Rattle.ds_map.specs.MapLaws.{map_seen, unreached}
pub use Rattle.ds_map.specs.Maps.{MapState, MemoriesState}
pub use Rattle.ds_map.specs.Moves.{map_after_unit, next_unit, unit_moved, unit_read, unit_refusal, unit_taken, unit_waits}
pub use Rattle.ds_map.specs.ShareLaws.{IsSharedSo, SharedPart, is_beyond_seven, is_shown_to_nine, map_put, shared_put, shares_put}
pub use Rattle.ds_map.specs.Shares.{is_private_place}
pub use Rattle.ds_map.specs.Views.{NineReach, SevenReach, nine_memory, seven_memory, tcm_number, tcm_read, tcm_refusal, tcm_written}
pub use Rattle.ds_map.specs.Waits.{Waited, nine_wait, seven_wait, unless_refused, waiting, waits_of}
unfoldable pub use Rattle.ds_map.specs.Waits.{wait_at}
pub use Rattle.ds_places.proofs.Rows.{from_same, in_row, past_row, port_place, upto_same}
pub use Rattle.ds_places.specs.AddressTables.{place_of, regions_of_nine, shared_for_nine}
pub use Rattle.ds_places.specs.declared.kinds.Place.{Place}
pub use Rattle.ds_places.specs.declared.kinds.Place.TheVariants.{Banks, Cell, Nothing, Port, Rom}
pub use Rattle.ds_ports.proofs.Covered.{are_all, covers_all, refusal_is_so, write_leaves}
pub use Rattle.ds_ports.proofs.Events.{Happens, MovedGoes, done_video, event_goes, happened_scan, happened_whole, happens_on, keys_happen, moved_goes}
pub use Rattle.ds_ports.proofs.Events.{show_goes, some_due}
pub use Rattle.ds_ports.proofs.Later.{ReadLeaves, all_io_dues, goes_io, of_both, processor_io_is, still_later, unchanged_same}
pub use Rattle.ds_ports.proofs.Settles.{happens_held, no_stall_begins, settled_happens, settled_stays, settles}
pub use Rattle.ds_ports.specs.Acting.{acting_io_due, acting_io_dues, any_armed, is_quiet}
pub use Rattle.ds_ports.specs.Dues.{held_due, io_due}
pub use Rattle.ds_ports.specs.HappeningLaws.{Goes, HasOnlyLaterEvents, IsIo, IsProcessorIo, IsTold, IsUnchanged, ReschedulesEach, ipc_bits}
pub use Rattle.ds_ports.specs.Io.{both_raised, card_done_at, channel_comes_before, channel_moved, channels_triggered, geometry_done, io_at_boot}
pub use Rattle.ds_ports.specs.Io.{io_event, io_of, is_held, is_settled, keys_pressed, level_told, release_by, release_kept, release_of, settled}
pub use Rattle.ds_ports.specs.Io.{shown_to_others, stall_ends, starter_told, tick_after, video_done, with_gx, with_halted, with_io_of}
pub use Rattle.ds_ports.specs.ProcessorIo.{ProcessorIoState, blocks_processor, processor_io_at_boot, processor_io_triggered}
pub use Rattle.ds_ports.proofs.RegisterMaps.{some_slot}
pub use Rattle.ds_ports.specs.RegisterMap.{IsSlot, PortRow, row_bytes, slot_of}
pub use Rattle.ds_ports.specs.Registers.{after_write, gx_set, meaning_of}
pub use Rattle.ds_ports.specs.WithinLaws.{IsBy, IsPastBy, IsSoonBy}
pub use Rattle.ds_ports.specs.declared.registers.Register.{Register}
pub use Rattle.ds_ports.specs.declared.registers.Register.TheVariants.{Auxspicnt, CardData, CardWord, Dmacnt, Haltcnt, Ipcfiforecv}
pub use Rattle.ds_ports.specs.declared.registers.Slot.{Slot}
pub use Rattle.ds_ports.specs.declared.units.IoParts.{IoParts as IoState}
pub use Rattle.ds_runs.proofs.ActorTable.{due_of_actor}
pub use Rattle.ds_runs.proofs.Ahead.{ahead_agrees, ahead_from_own}
pub use Rattle.ds_runs.proofs.AllActors.{actors_differ, all_of_actors, is_numbered, moves_of_actors}
pub use Rattle.ds_runs.proofs.Firsts.{first_is_least, first_of_append}
pub use Rattle.ds_runs.proofs.Lags.{one_step}
pub use Rattle.ds_runs.proofs.Lists.{at_rank, is_later, least_unique, within}
pub use Rattle.ds_runs.proofs.RunExists.{least_is, place_rises, run_ends, run_exists}
pub use Rattle.ds_runs.proofs.RunLaws.{not_both, runs_are_one, runs_join, same_makes, same_stops}
pub use Rattle.ds_runs.specs.Actors.{IsNumbered, actor_of, actors}
pub use Rattle.ds_runs.specs.Ahead.{HasOwnPart, MayRunAhead, MovesOn}
pub use Rattle.ds_runs.specs.Lags.{MayLag, MayStepFirst, StepsBefore}
pub use Rattle.ds_runs.specs.OrderLaws.{due_with_rank, earlier, first_from}
pub use Rattle.ds_runs.specs.Owed.{AllReschedule, Schedules}
pub use Rattle.ds_runs.specs.Runs.{At, Ending, IsLeast, IsOver, MachineStep, Makes, Runs, Stopped, Stops, due_at, more, over, stops}
pub use Rattle.ds_runs.specs.declared.actors.Actor.TheVariants.{Card, Divider, Dma, Geometry, KeyScript, Processor, SquareRoot, Timer, Video}
pub use Rattle.ds_state.proofs.Exact.{one_spelling, reads_exactly}
pub use Rattle.ds_state.proofs.Kept.{kept_twice}
pub use Rattle.ds_state.proofs.Standing.{IsExact, StandsFor}
pub use Rattle.ds_state.specs.Formats.{Format, bytes_written, done, list, soon, then_field, then_part, word_format}
pub use Rattle.ds_timers.specs.Irqs.{IrqState, IsIrq, events, irq_levelled, level, line_is_up, shares_bit}
pub use Rattle.ds_timers.specs.Saved.{irq_format, sleeps_by}
unfoldable pub use Rattle.ds_timers.specs.Saved.{irq_format_by, timers_format}
pub use Rattle.ds_timers.specs.Timing.{timer_at, timer_due, timers_at_boot}
pub use Rattle.ds_timers.specs.declared.timers.Timer.{Timer as TimerState}
pub use Rattle.gx_fifo.proofs.Laws.{finished_later, finished_run, finished_waiting, swapped_run, written_waiting}
pub use Rattle.gx_fifo.specs.Entries.{begun, complete_command, most_entries}
pub use Rattle.gx_fifo.specs.GxStates.{AreWaiting, GxState, done_by, gx_finished, gx_level, gx_swapped, is_half_empty, is_stalled, waiting_entries}
pub use Rattle.gx_fifo.specs.Saved.{holds_by}
unfoldable pub use Rattle.gx_fifo.specs.Saved.{gx_format_by}
pub use Rattle.gx_fifo.specs.declared.gx.saved.Asked.{Asked}
pub use Rattle.ds_state.proofs.Opened.{comes_back, open_by, open_reads, spelled_once}
unfoldable pub use Rattle.gx_geometry.specs.Numbers.{numbers_at_boot}
pub use Rattle.gx_geometry.specs.States.{Swapped}
unfoldable pub use Rattle.gx_geometry.specs.States.{geometry_after, swapped}
pub use Rattle.gx_matrix.specs.declared.commands.GeometryCommand.{GeometryCommand}
pub use Rattle.video2d.proofs.SavedScans.{scans_follow}
unfoldable pub use Rattle.video2d.specs.Saved.{video_format}
pub use Rattle.video2d.specs.Scans.{ScanState, framed_by, scan_before, scan_due, scan_due_tick, scan_line_start, starts_vblank}
pub use Rattle.video2d.specs.Videos.{VideoState, answer_unless, unless_stop, video_after_event, video_answer, video_shown, video_stop}
pub use Rattle.vram_banks.proofs.Mixes.{mixed_length, mixed_same, mixed_twice}
pub use Rattle.vram_banks.specs.Cells.{vram_written}
pub use Rattle.vram_banks.specs.MixLaws.{mixed}
pub use Rattle.ds_machine.proofs.DueTicks.{due_of_least, due_of_may, due_of_rank, due_then, entries_are, first_found, least_by_parts, low_rank}
pub use Rattle.ds_machine.proofs.DueTicks.{may_due, may_early, own_tick, rank_there, somebody_is, sort_rank, steps_as, tick_is}
pub use Rattle.ds_machine.specs.Acting.{acting_due, is_behind, is_due_before}
unfoldable pub use Rattle.ds_machine.specs.Acting.{acting_dues}
pub use Rattle.ds_machine.specs.Apart.{IsOutside, NineOwn, nine_own_of, with_nine_own, with_seven_part}
pub use Rattle.ds_machine.specs.Booted.{header_bytes, header_place, machine_blank, machine_booted, stacks_of, with_header, with_image}
pub use Rattle.ds_machine.specs.Boots.{copied, stored}
pub use Rattle.ds_machine.specs.Channels.{channel_step, delayed_past, moved_by, one_event, past_tick}
pub use Rattle.ds_machine.specs.CountingLaws.{HasShortRun, IsRunning, last_limit, run_of}
pub use Rattle.ds_machine.specs.DecodedSteps.{RunsAs, operation_outcome}
pub use Rattle.ds_machine.specs.Frames.{WholeFrame, framed_of, frames_shown, last_frame, last_lists, lists_shown}
pub use Rattle.ds_machine.specs.GuardedSteps.{IsFree, IsFreeFor}
pub use Rattle.ds_machine.specs.Hearing.{Fences, geometry_rank}
pub use Rattle.ds_machine.specs.Inspections.{fetch_of, seen_by, seen_of}
pub use Rattle.ds_machine.specs.Lagging.{ActsUnobserving, CatchesUp, CatchesUpFor, CatchesUpIf, CatchingUpRuns, ComesBeforeAll, LagRuns, LagStops}
pub use Rattle.ds_machine.specs.Lagging.{StepsBeforeGeometry, TakesGeometry, access_observes, any_observes, channel_observes, is_observed_past}
pub use Rattle.ds_machine.specs.Lagging.{is_observed_place, more_geometry, nine_observes, no_geometry, observes_by}
pub use Rattle.ds_machine.specs.NextEvents.{GoesFast, TookStep, WentOn, acting_events_of}
pub use Rattle.ds_machine.specs.Observing.{data_unobserved, is_unobserved_at, made_observed}
pub use Rattle.ds_machine.specs.Private.{AllReachPrivate, IsAhead, IsBelowFence, IsPrivate, ProcessorStaysPrivate, ReachesPrivate, StaysPrivate}
pub use Rattle.ds_machine.specs.Private.{hears_nobody, is_deaf, may_go_ahead, rank_of, stays_behind}
pub use Rattle.ds_machine.specs.PrivateLaws.{IsFence, IsHarmless, RunsAhead}
pub use Rattle.ds_machine.specs.PrivateSides.{SideOf, is_private_tcm, is_private_to_seven, nine_side, seven_side, side_taken, side_waits}
pub use Rattle.ds_machine.specs.Reference.{Shown, after_event, after_geometry, after_line, after_video, awake, display_done, due_by, due_unless}
pub use Rattle.ds_machine.specs.Reference.{keys_due, next_shown, processor_due, reference, reference_step, shown_at, step_by, swapped_if, video_step}
unfoldable pub use Rattle.ds_machine.specs.Reference.{dues_of}
pub use Rattle.ds_machine.specs.Rooms.{FindsRoom, HasRoom, InstructionsAreShort, accesses_of, step_accesses}
pub use Rattle.ds_machine.specs.Saved.{MachinesAreSaved, released_again, script_from, starts_before}
unfoldable pub use Rattle.ds_machine.specs.Saved.{machine_format}
pub use Rattle.ds_machine.specs.SavedParts.{Around, SavedChannels, SavedMemories, SavedProcessor, SavedProcessors, SavedUnits, around_of, asked_of}
pub use Rattle.ds_machine.specs.SavedParts.{is_late, saved_channels, saved_memories, saved_processor, saved_processors, saved_units}
unfoldable pub use Rattle.ds_machine.specs.SavedParts.{channels_format, machine_parts, memories_format, processor_format, processors_format}
unfoldable pub use Rattle.ds_machine.specs.SavedParts.{units_format}
pub use Rattle.ds_machine.specs.Sides.{data_accesses, data_waits, next_fetch, nine_executed}
unfoldable pub use Rattle.ds_machine.specs.Sides.{taken, waits_of_step}
pub use Rattle.ds_machine.specs.Sound.{AreAsleep, HasSoundParts, IsSound}
pub use Rattle.ds_machine.specs.States.{MachineState, NineState, ProcessorState, SevenState, counts_of, with_file}
pub use Rattle.ds_machine.specs.Statuses.{HasBothStatuses, left_by}
pub use Rattle.ds_machine.specs.SteadyPorts.{is_steady_port}
pub use Rattle.ds_machine.specs.StepAnswers.{IsDue, done_of, stepped_of}
pub use Rattle.ds_machine.specs.Steps.{due_past_unit, goes_on, gone_by, in_ticks, is_blocked, is_halted, line_of, machine_concluded, machine_settled}
pub use Rattle.ds_machine.specs.Steps.{map_of, nine_reach, outcome_of, past_unit, processor_of, processor_step, seven_reach, stopped_at, tick_of}
pub use Rattle.ds_machine.specs.Steps.{wakes, went_on, with_halt, with_io, with_map, with_nine, with_processor, with_seven, woken, woken_one}
unfoldable pub use Rattle.ds_machine.specs.Steps.{ended}
pub use Rattle.ds_machine.specs.Touched.{CartFile, Cp15, DueNine, DueSeven, OwnRam, PartSet, RegistersNine, RegistersSeven, StepsKeepFile, StepsNine}
pub use Rattle.ds_machine.specs.Touched.{StepsSeven, machine_graft, step_with, unchanged_by, untouched_by}
pub use Rattle.ds_machine.specs.Touching.{DataIsNear, DataStays, DataStaysNear, FetchStaysPrivate, GoesByWords, InstrReaches, InstrStaysPrivate}
pub use Rattle.ds_machine.specs.Touching.{IsFootprint, access_stays, data_private, instr_at, is_private_to}
pub use Rattle.ds_machine.specs.TurnLaws.{HasEnds, HasLimit, MayAct, MayStep, TurnStepsFall, own_remaining, ticks_left}
pub use Rattle.ds_machine.specs.TurnSteps.{BelongsToTurn, TakesSteps, more_steps, no_steps}
pub use Rattle.ds_machine.specs.WithinLaws.{HasItsTransfer, HasWordsLeft, IsWithinTick, RunsKeepScript}
pub use Rattle.ds_machine.specs.contracts.parts.Parts.{the_view}
pub use Rattle.ds_machine.specs.declared.next_events.Ends.{Ends}
pub use Rattle.ds_machine.specs.declared.next_events.NextEvent.{NextEvent}
