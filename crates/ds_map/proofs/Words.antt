-- The words of lower crates and of this one that its proofs speak in, from one place.
pub use Rattle.std.proofs.Common.{Bool, IsSome, List, None, Option, Some, [], ap, arith, false, if◌then◌else◌, inl, inr, length, nat_le, nat_lt, not, refl}
pub use Rattle.std.proofs.Common.{subst, sym, true, true≢false, ℕ, ◌%◌, ◌&&◌, ◌*◌, ◌++◌, ◌+◌, ◌-◌, ◌/◌, ◌<◌, ◌==◌, ◌^◌, ◌∙◌, ◌∷◌, ◌≡◌, ◌≤◌, ◌⊎◌}
pub use Rattle.std.specs.Prelude.{IfSome}
pub use Rattle.cp15_tcm.specs.TightlyCoupled.{tcm_of}
pub use Rattle.cp15_tcm.specs.declared.answers.Tcm.{Tcm}
pub use Rattle.ds_base.proofs.Choices.{and_false, both, either, equal, if_false, neither, not_true}
pub use Rattle.ds_base.specs.Memories.{memory_size}
pub use Rattle.ds_base.specs.Numbers.{aligned_down, is_within, number_at, width_bytes, with_number}
pub use Rattle.ds_base.specs.declared.left_out.Stop.{Stop}
pub use Rattle.ds_base.specs.declared.memories.Memory.{Memory}
pub use Rattle.ds_base.specs.declared.memories.Memory.TheVariants.{Main, Oam, Own7, Palette, Shared, Vram}
pub use Rattle.ds_base.specs.declared.memories.Space.{Space}
pub use Rattle.ds_base.specs.declared.memories.Space.TheVariants.{ABg, AObj, Arm7, BBg, BObj, Lcdc}
pub use Rattle.ds_base.specs.declared.memories.Width.{Width}
pub use Rattle.ds_base.specs.declared.memories.Width.TheVariants.{Byte, Half, Word}
pub use Rattle.ds_base.specs.declared.processors.Proc.{Proc}
pub use Rattle.ds_base.specs.declared.processors.Proc.TheVariants.{Nine, Seven}
pub use Rattle.ds_base.specs.declared.ticks.Tick.{Tick}
pub use Rattle.ds_dma.specs.States.{DmaState, dma_due}
pub use Rattle.ds_dma.specs.declared.channels.Unit.{Unit as DmaUnit}
pub use Rattle.ds_places.specs.AddressTables.{BootRom, Cells, Content, Empty, Ports, Region, Video, place_at, place_by, place_of, region, regions_of}
pub use Rattle.ds_places.specs.AddressTables.{regions_of_nine, regions_of_seven, shared_for_nine, shared_for_seven}
pub use Rattle.ds_places.specs.declared.kinds.Place.{Place}
pub use Rattle.ds_places.specs.declared.kinds.Place.TheVariants.{Banks, Cell, Nothing, Port, Rom}
pub use Rattle.ds_ports.proofs.Passed.{keeps_part, passes, read_left, reads, write_left}
unfoldable pub use Rattle.ds_ports.specs.RegisterMap.{slot_of}
pub use Rattle.ds_ports.specs.declared.registers.Slot.{Slot}
pub use Rattle.ds_ports.specs.Io.{channel_moved, channel_put_back, io_of, with_gx, with_shares}
pub use Rattle.ds_ports.specs.Ports.{port_read, port_refusal, port_value, port_written, unless_stopped}
pub use Rattle.ds_ports.specs.ProcessorIo.{BeforeMove, before_move}
pub use Rattle.ds_ports.specs.declared.units.IoParts.{IoParts as IoState}
pub use Rattle.gx_fifo.specs.Entries.{most_entries}
pub use Rattle.gx_fifo.specs.GxStates.{GxState, waiting_entries}
pub use Rattle.vram_banks.specs.Cells.{vram_value, vram_written}
pub use Rattle.ds_map.specs.Accesses.{after_read_at, cell_put, fetched_at, is_byte_of_nine, refusal_at, takes_no_bytes, value_at, written_at}
unfoldable pub use Rattle.ds_map.specs.Accesses.{map_fetched, map_read, map_refusal, map_value, map_written}
pub use Rattle.ds_map.specs.Maps.{MapState, MemoriesState, cells_of, with_cells}
pub use Rattle.ds_map.specs.Moves.{map_after_unit, unit_moved, unit_read, unit_refusal, unit_taken, unit_waits}
pub use Rattle.ds_map.specs.ObservedPorts.{is_observed_port, is_observed_register, is_observed_slot}
pub use Rattle.ds_map.specs.Views.{NineReach, SevenReach, nine_memory, tcm_refusal, tcm_written}
