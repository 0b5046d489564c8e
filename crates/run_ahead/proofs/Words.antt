-- The words of lower crates and of this one that its proofs speak in, from one place.
pub use Rattle.std.proofs.Common.{Bool, Err, Fits, List, None, Ok, Option, Result, Some, [], ap, append-nil, append_assoc, arith, bytes_eq, false}
pub use Rattle.std.proofs.Common.{if◌then◌else◌, inl, inr, is_some, length, length-drop, map, max, nat_le, nat_lt, not, refl, rules, subst, suc, sym}
pub use Rattle.std.proofs.Common.{true, true≢false, w64, zero, ℕ, ◌&&◌, ◌*◌, ◌++◌, ◌+◌, ◌-◌, ◌<◌, ◌==◌, ◌^◌, ◌||◌, ◌∙◌, ◌∷◌, ◌≡◌, ◌≤◌, ◌⊎◌}
pub use Rattle.std.proofs.lemmas.Bool.{and_parts, eqb-true, ltb-false, or_parts}
pub use Rattle.std.proofs.lemmas.Option.{none-some, same_Some}
pub use Rattle.std.specs.List.{list_all}
pub use Rattle.std.specs.Prelude.{IsErrAnd, IsSome, slice_index}
pub use Rattle.ds_base.proofs.Choices.{low_or_high, not_true, same_or_not, true_or_false}
pub use Rattle.ds_base.specs.declared.keys.KeyLine.{KeyLine}
pub use Rattle.ds_base.specs.declared.left_out.LeftOut.{LeftOut}
pub use Rattle.ds_base.specs.declared.processors.Proc.{Proc}
pub use Rattle.ds_base.specs.declared.processors.Proc.TheVariants.{Nine, Seven}
pub use Rattle.ds_base.specs.declared.ticks.Due.{Due}
pub use Rattle.ds_base.specs.declared.ticks.Tick.{Tick}
pub use Rattle.ds_machine.proofs.ActingDues.{acting_low, acting_processor, acts_then, due_where_acts, loud_same}
pub use Rattle.ds_machine.proofs.ActingSteps.{Acted, ActedKeeps, ActedLeaves, ActedStops, acted_keeps, acted_stops, acting_may_step, acting_stops}
pub use Rattle.ds_machine.proofs.ActingSteps.{caught_steps, caught_up}
pub use Rattle.ds_machine.proofs.CatchingUp.{behind_is, caught_for, caught_more, caught_so, fewer_left}
pub use Rattle.ds_machine.proofs.DueTicks.{due_of_rank, own_tick, sort_rank}
pub use Rattle.ds_machine.proofs.OwnRemaining.{still_due, turn_silent, turn_steps_fall}
pub use Rattle.ds_machine.proofs.Running.{counts_add_up, few_where_stops, limits_rise, running_acted, running_taken}
pub use Rattle.ds_machine.proofs.TurnSteps.{running_along, takes_along}
pub use Rattle.ds_machine.specs.Acting.{acting_dues, is_behind, is_due_before}
pub use Rattle.ds_machine.specs.Back.{HasMachineBounds, MachinesComeBack}
pub use Rattle.ds_machine.specs.CountingLaws.{IsRunning, last_limit}
pub use Rattle.ds_machine.specs.FrameLaws.{FollowFrames, FollowLists}
pub use Rattle.ds_machine.specs.Frames.{last_frame, last_lists}
pub use Rattle.ds_machine.specs.Lagging.{CatchesUp, CatchesUpFor, CatchesUpIf, ComesBeforeAll, TakesGeometry, observes_by}
pub use Rattle.ds_machine.specs.Hearing.{geometry_rank}
pub use Rattle.ds_machine.specs.Private.{rank_of}
pub use Rattle.ds_machine.specs.Reference.{Shown, dues_of, next_shown, reference, reference_step}
pub use Rattle.ds_machine.specs.Sound.{IsSound}
pub use Rattle.ds_machine.specs.States.{MachineState, counts_of, with_file}
pub use Rattle.ds_machine.specs.StepAnswers.{Steps, done_of}
pub use Rattle.ds_machine.specs.Steps.{is_blocked, processor_of, tick_of}
pub use Rattle.ds_machine.specs.TurnLaws.{HasEnds, HasLimit, IsLeastBelow, MayAct, due_or_never, own_remaining, ticks_left}
pub use Rattle.ds_machine.specs.TurnSteps.{BelongsToTurn, TakesSteps, more_steps, no_steps}
pub use Rattle.ds_machine.specs.WithinLaws.{IsWithinTick}
pub use Rattle.ds_machine.specs.declared.next_events.Ends.{Ends}
pub use Rattle.ds_runs.specs.Actors.{actor_of}
pub use Rattle.ds_runs.specs.Runs.{At, Ending, IsLeast, IsOver, MachineStep, Makes, Runs, Stops, due_at}
pub use Rattle.ds_runs.specs.ScheduleLaws.{places_remaining}
pub use Rattle.ds_state.specs.Reading.{Left, ReadAnswer, read_format, ◌>>=◌}
pub use Rattle.ds_state.specs.declared.unpacker.Unpacked.{Unpacked}
pub use Rattle.gx_fifo.specs.Entries.{most_entries}
pub use Rattle.run_ahead.specs.Consoles.{AreWithin, ConsoleState, open_of}
unfoldable pub use Rattle.run_ahead.specs.Heads.{head_format}
pub use Rattle.run_ahead.specs.Inside.{AreAtOnce, TookStretch, TookTurn}
pub use Rattle.run_ahead.specs.TickTurns.{IsTickBefore, StopsActing, TakesActing, TurnsOfOneTick}
pub use Rattle.run_ahead.specs.ToEnd.{TurnsToEnd, at_end, counts, meets_stop}
pub use Rattle.run_ahead.specs.TurnLaws.{EachRan, GoesOn, RanOn, RunsOn, TurnsUpTo, shown_in, turns_in, turns_remaining}
pub use Rattle.run_ahead.specs.Turns.{HasTurned, MeetsStop, StretchStops, TakesEvent, TakesQuiet, TakesStretch, Turns, counted_of, no_turn}
pub use Rattle.run_ahead.specs.Turns.{one_more_turn, one_turn, run_to}
