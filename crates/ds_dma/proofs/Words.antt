-- The words of lower crates and of this one that its proofs speak in, from one place.
pub use Rattle.std.specs.Prelude.{IsSome, if◌then◌else◌, is_some, not, ◌&&◌, ◌||◌}
pub use Rattle.ds_base.proofs.Choices.{and_false, both, both_true, either_by, equal, if_false, if_true, is_equal, is_le, is_unequal, le_of, neither}
pub use Rattle.ds_base.proofs.Choices.{never, not_false, not_true, same_or_not, unequal}
pub use Rattle.ds_base.specs.Schedules.{IsEarly, IsLater, Reschedules, due_number, numbered_due}
pub use Rattle.ds_base.specs.declared.processors.Proc.{Proc}
pub use Rattle.ds_base.specs.declared.ticks.Tick.{Tick}
pub use Rattle.ds_dma.specs.Channels.{IsChannel, after_both, after_unit, channel_controlled, channel_refusal, channel_set, is_last_of_burst}
pub use Rattle.ds_dma.specs.Channels.{is_last_unit, is_running, is_triggered, ready, triggered, unit_of}
pub use Rattle.ds_dma.specs.Controls.{channel_control_mask, disabled, greatest_count, is_armed_again, is_enabled, kept_channel_control, most_burst}
pub use Rattle.ds_dma.specs.Controls.{starts_immediately, waits_for}
pub use Rattle.ds_dma.specs.States.{AreReadyLater, DmaState, HasEarlyTicks, IsDma, WaitsBriefly, any_runs, channel_at, channel_due, dma_due}
pub use Rattle.ds_dma.specs.States.{dma_finished, dma_triggered, due_channel, due_with, last_tick, least_running, most_waits}
pub use Rattle.ds_dma.specs.declared.channels.Channel.{Channel}
pub use Rattle.ds_dma.specs.declared.channels.LastUnit.{LastUnit}
pub use Rattle.ds_dma.specs.declared.controls.Cause.{Cause}
pub use Rattle.ds_dma.specs.declared.controls.Cause.TheVariants.{Card, Geometry, HBlank, VBlank}
pub use Rattle.ds_dma.specs.declared.controls.DmaPort.{DmaPort}
pub use Rattle.ds_dma.specs.declared.controls.DmaPort.TheVariants.{Control, Source, Target}
