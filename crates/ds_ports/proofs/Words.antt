-- The words of lower crates and of this one that its proofs speak in, from one place.
pub use Rattle.std.proofs.Common.{Bool, List, None, Option, Some, [], ap, arith, bit_and, bit_or, drop, false, get_or-set_other, if◌then◌else◌, inl}
pub use Rattle.std.proofs.Common.{inr, is_some, length, length-set, map, max, nat_le, nat_lt, option_map, refl, rules, slice_set, subst, suc, sym}
pub use Rattle.std.proofs.Common.{true, true≢false, zero, ℕ, ◌%◌, ◌*◌, ◌++◌, ◌+◌, ◌-◌, ◌/◌, ◌<◌, ◌==◌, ◌^◌, ◌∙◌, ◌∷◌, ◌≡◌, ◌≢◌, ◌≤◌, ◌⊎◌}
pub use Rattle.std.proofs.lemmas.List.{length-append, length-drop, length-map}
pub use Rattle.std.proofs.lemmas.Nat.Bits.{bit_at-pow_other, bit_at_and, bit_at_not, bit_at_or, same_from_bits}
pub use Rattle.std.proofs.lemmas.Option.{none-some, same_Some}
pub use Rattle.std.specs.Int.{bit_at, bit_not, w32}
pub use Rattle.std.specs.Option.{option_or}
pub use Rattle.std.specs.Prelude.{IfSome, IsSome, not, ◌&&◌, ◌||◌}
pub use Rattle.ds_base.proofs.Choices.{and_false, both, both_true, either, either_by, equal, is_equal, le_of, lt_of, never, not_false, not_true}
pub use Rattle.ds_base.proofs.Choices.{one_of, same_or_not}
pub use Rattle.ds_base.specs.Bits.{bit, bits, flag}
pub use Rattle.ds_base.specs.Interrupts.{interrupt_bit}
pub use Rattle.ds_base.specs.Numbers.{width_bytes}
pub use Rattle.ds_base.specs.Schedules.{IsLater, Reschedules}
pub use Rattle.ds_base.specs.declared.interrupts.Interrupt.TheVariants.{IpcSync, Keys, ReceiveFifoNotEmpty, SendFifoEmpty}
pub use Rattle.ds_base.specs.declared.left_out.Stop.{Stop}
pub use Rattle.ds_base.specs.declared.memories.Width.{Width}
pub use Rattle.ds_base.specs.declared.memories.Width.TheVariants.{Byte, Half, Word}
pub use Rattle.ds_base.specs.declared.processors.Proc.{Proc}
pub use Rattle.ds_base.specs.declared.processors.Proc.TheVariants.{Nine, Seven}
pub use Rattle.ds_base.specs.declared.processors.Raised.{Raised}
pub use Rattle.ds_base.specs.declared.ticks.Due.{Due}
pub use Rattle.ds_base.specs.declared.ticks.Tick.{Tick}
pub use Rattle.ds_card.proofs.Schedules.{event_ends, read_leaves_other, read_makes, read_schedules, write_leaves_other, write_makes, write_schedules}
pub use Rattle.ds_card.specs.CardPorts.{data_port_at}
pub use Rattle.ds_card.specs.Cards.{CardState, card_after_event, card_after_read, card_due, card_due_for, card_starter, card_written, event_raised}
pub use Rattle.ds_card.specs.Cards.{event_readies, is_whole_word, read_raised, same_proc}
pub use Rattle.ds_dma.proofs.Turns.{event_schedules, least_below}
pub use Rattle.ds_dma.proofs.Wholes.{channel_written_is, channel_written_later, dma_finished_is, dma_triggered_is, event_runs}
pub use Rattle.ds_dma.specs.Channels.{ready}
pub use Rattle.ds_dma.specs.States.{AreReadyLater, DmaState, IsDma, any_runs, awaits_geometry, channel_at, channel_due, channel_written, dma_due}
pub use Rattle.ds_dma.specs.States.{dma_finished, dma_triggered, due_channel, due_with, least_running, most_waits}
pub use Rattle.ds_dma.specs.declared.channels.Channel.{Channel}
pub use Rattle.ds_dma.specs.declared.controls.Cause.{Cause}
pub use Rattle.ds_dma.specs.declared.controls.Cause.TheVariants.{HBlank, VBlank}
pub use Rattle.ds_dma.specs.declared.controls.DmaPort.{DmaPort}
pub use Rattle.ds_dma.specs.declared.controls.DmaPort.TheVariants.{Control, Source, Target}
pub use Rattle.ds_dma.specs.declared.dma.DmaDue.{DmaDue}
pub use Rattle.ds_ipc.specs.Ipcs.{IpcState, ipc_control_raised, ipc_control_word, ipc_control_written, ipc_receive_raised, ipc_received}
pub use Rattle.ds_ipc.specs.Ipcs.{ipc_received_word, ipc_send_raised, ipc_sent, ipc_sync_raised, ipc_sync_word, ipc_sync_written, other_proc, side_of}
pub use Rattle.ds_math.specs.Dividers.{DividerState, division_finished, division_ticks}
pub use Rattle.ds_math.specs.Roots.{RootState, root_finished}
pub use Rattle.ds_runs.specs.Actors.{IsNumbered}
pub use Rattle.ds_runs.specs.declared.actors.Actor.TheVariants.{Dma, Geometry, Timer, Video}
pub use Rattle.ds_timers.proofs.Four.{one_reschedules, set_same}
pub use Rattle.ds_timers.proofs.Overflowed.{overflow_keeps, overflow_schedules}
pub use Rattle.ds_timers.specs.Irqs.{IrqState, events, interrupts_of, irq_levelled, irq_raised, level}
pub use Rattle.ds_timers.specs.Timing.{AreTimers, control_set, kept_control, overflow_of, reload_set, timer_at, timer_due}
pub use Rattle.ds_timers.specs.declared.timers.Timer.{Timer as TimerState}
pub use Rattle.gx_fifo.specs.Entries.{asks_for_swap, begun, complete_command, done_after, entries_taken, most_entries, words_taken}
unfoldable pub use Rattle.gx_fifo.specs.GxPorts.{gx_port}
pub use Rattle.gx_fifo.specs.GxStates.{AreWaiting, GxState, IsGx, done_by, gx_kept, gx_level, gx_written, is_half_empty, is_stalled, waiting_entries}
unfoldable pub use Rattle.gx_fifo.specs.GxStates.{kept_port, write_port}
pub use Rattle.gx_fifo.specs.declared.entries.GxEntry.{GxEntry}
pub use Rattle.gx_fifo.specs.declared.ports.GxPort.{GxPort}
pub use Rattle.gx_matrix.specs.declared.commands.GeometryCommand.{GeometryCommand}
pub use Rattle.video2d.proofs.VideoLaws.{stays_video}
pub use Rattle.video2d.specs.DisplayRegisters.{display_row, engine_registers, has_byte, row_among}
pub use Rattle.video2d.specs.Scans.{ScanState, blanks_drawn_line, line_after, scan_after, scan_before, scan_due, scan_due_tick, starts_vblank}
pub use Rattle.video2d.specs.VideoLaws.{IsVideo}
pub use Rattle.video2d.specs.Videos.{VideoState, status_of, unless_stop, video_happened, video_shown, video_stop, video_written}
pub use Rattle.video2d.specs.declared.engines.Engine.TheVariants.{A, B}
pub use Rattle.video2d.specs.declared.videos.Shown.{Shown}
pub use Rattle.vram_banks.specs.Cells.{Banks}
pub use Rattle.ds_ports.specs.Acting.{acting_io_due, any_armed, is_armed, is_silent}
unfoldable pub use Rattle.ds_ports.specs.Acting.{first_acting_io_due}
pub use Rattle.ds_ports.specs.Dues.{dma_due_in, held_due, io_due, released_at}
pub use Rattle.ds_ports.specs.HappeningLaws.{IsIo, IsProcessorIo, IsUnchanged, ReschedulesEach}
pub use Rattle.ds_ports.specs.Inside.{is_of_geometry, is_own, moves_dues, moving_parts, own_written}
unfoldable pub use Rattle.ds_ports.specs.Inside.{first_with}
pub use Rattle.ds_ports.specs.Io.{IoState, both_raised, card_done, card_done_at, channel_comes_before, channel_moved, channels_shown}
pub use Rattle.ds_ports.specs.Io.{channels_triggered, geometry_done, geometry_swapped, geometry_triggered, io_at_boot, io_event, io_of, is_held}
pub use Rattle.ds_ports.specs.Io.{is_settled, keys_pressed, level_told, raised_to, release_by, release_kept, release_of, settled, shown_to_others}
pub use Rattle.ds_ports.specs.Io.{stall_ends, starter_told, tick_after, timer_overflows, told_of_card, video_done, with_gx, with_halted, with_io_of}
pub use Rattle.ds_ports.specs.Parts.{Part, looked_up, parts_of, slot_from, whole}
unfoldable pub use Rattle.ds_ports.specs.Parts.{slot_among}
pub use Rattle.ds_ports.specs.PortLaws.{GoesByHalves, byte_refusal, byte_written, half_refusal, half_written, halved_refusal, halved_value}
pub use Rattle.ds_ports.specs.PortLaws.{halved_written, port_byte, port_half, port_word, word_refusal, word_written}
pub use Rattle.ds_ports.specs.Ports.{ascending, begun_refusal, begun_value, begun_written, first_refusal, ignores, part, read_or, refusal_or}
pub use Rattle.ds_ports.specs.Ports.{slot_joined, slot_read, slot_refusal, slot_value, slot_written, unless_stopped, values_from, whole_if}
pub use Rattle.ds_ports.specs.Ports.{whole_in, width_of, with_bytes_from, written_or}
unfoldable pub use Rattle.ds_ports.specs.Ports.{port_read, port_refusal, port_value, port_written}
pub use Rattle.ds_ports.specs.ProcessorIo.{ProcessorIoState, blocks_processor, dma_written, haltcnt_written, if_written, kept_keycnt, keycnt_written}
pub use Rattle.ds_ports.specs.ProcessorIo.{keyinput_word, keys_hold, keys_told, processor_io_moved, processor_io_raised, processor_io_triggered}
pub use Rattle.ds_ports.specs.RegisterMap.{IsSlot, IsWidth, PortRow, StandsWhole, numbers_of, register_map, row_bytes, slot_by, slot_in}
unfoldable pub use Rattle.ds_ports.specs.RegisterMap.{slot_of}
pub use Rattle.ds_ports.specs.Registers.{after_write, card_set, card_word_taken, gx_set, meaning_of, word_received, word_sent}
pub use Rattle.ds_ports.specs.Touches.{DmaNine, IrqNine, Released, UnitPart, among, beyond, changes_some, io_graft, is_part, touch_of, touches_none}
pub use Rattle.ds_ports.specs.declared.registers.Register.{Register}
pub use Rattle.ds_ports.specs.declared.registers.Register.TheVariants.{Auxspicnt, CardData, CardWord, DisplayHalf, DisplayWord, DivDenom, DivNumer}
pub use Rattle.ds_ports.specs.declared.registers.Register.TheVariants.{Divcnt, Dmacnt, Dmadad, Dmasad, GxCommand, GxWord, Haltcnt, Ie, If, Ime}
pub use Rattle.ds_ports.specs.declared.registers.Register.TheVariants.{Ipcfifocnt, Ipcfiforecv, Ipcfifosend, Ipcsync, Keycnt, SqrtParam, Sqrtcnt}
pub use Rattle.ds_ports.specs.declared.registers.Register.TheVariants.{TmcntH, TmcntL}
pub use Rattle.ds_ports.specs.declared.registers.Slot.{Slot}
