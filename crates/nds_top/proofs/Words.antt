-- The words of lower crates and of this one that its proofs speak in, from one place.
pub use Rattle.std.proofs.Common.{Bool, Err, List, None, Ok, Option, Result, Some, [], ap, arith, false, if◌then◌else◌, inl, inr, length, max, nat_lt}
pub use Rattle.std.proofs.Common.{option_map, refl, subst, sym, take, true, ℕ, ◌+◌, ◌<◌, ◌∙◌, ◌∷◌, ◌≡◌, ◌≢◌, ◌≤◌, ◌⊎◌}
pub use Rattle.std.proofs.lemmas.Option.{none-some, same_Some}
pub use Rattle.std.specs.Prelude.{IsSomeAnd}
pub use Rattle.asm_files.specs.Listings.{IsFirstBad, IsListing}
pub use Rattle.ds_base.specs.declared.keys.KeyLine.{KeyLine}
pub use Rattle.ds_base.specs.declared.processors.Proc.{Proc}
pub use Rattle.ds_io.specs.Shelves.{Named, Told, file_of}
pub use Rattle.ds_machine.specs.Booted.{machine_booted}
pub use Rattle.ds_machine.specs.Reference.{Shown, reference, reference_step}
pub use Rattle.ds_machine.specs.States.{MachineState}
pub use Rattle.ds_runs.specs.Runs.{At, Ending, MachineStep, Runs, Stopped, more, over, stops}
pub use Rattle.nds_answers.specs.Loads.{AreKeys, IsCart, IsFileRead, Refuses, RefusesCart, RefusesFiles, RefusesRun, RefusesScript, cartridge}
pub use Rattle.nds_answers.specs.Loads.{most_bytes, most_script, most_state, most_text, run_files, script, state_file}
pub use Rattle.nds_answers.specs.Statuses.{status_number}
pub use Rattle.nds_answers.specs.declared.statuses.Status.{Status}
pub use Rattle.nds_answers.specs.declared.statuses.Status.TheVariants.{BadState, Done, NoMemory, Usage}
pub use Rattle.nds_plays.proofs.Seating.{seated_is}
pub use Rattle.nds_plays.specs.Calls.{Call, FromBoot, GivesBy, Seated, Written, around, switched_on}
pub use Rattle.nds_plays.specs.Records.{latest_of, output_of}
pub use Rattle.nds_plays.specs.States.{ComesBack, IsBadState, IsReady, IsResumed, IsState, saved_after, saved_state}
pub use Rattle.nds_plays.specs.Watches.{WritesAfter, demo_of, peeked}
pub use Rattle.nds_words.specs.declared.commands.Keep.{Keep}
pub use Rattle.run_ahead.specs.Consoles.{ConsoleState}
pub use Rattle.run_ahead.specs.Saved.{StatesAreShort, read_state}
pub use Rattle.run_ahead.specs.ToEnd.{TurnsToEnd}
pub use Rattle.sha2.specs.Sha256.{sha256}
pub use Rattle.nds_top.specs.Answers.{CommandGives, Gives, command, nothing}
pub use Rattle.nds_top.specs.Inside.{RunsSo, played_status}
pub use Rattle.nds_top.specs.Laws.{CanBeDone, ComesTo, HadNoFault}
pub use Rattle.nds_top.specs.RunAnswers.{RanFrom}
pub use Rattle.nds_top.specs.StateAnswers.{ResumeGives, SavedBy}
pub use Rattle.nds_top.specs.ViewAnswers.{DemoGives, TracedBy, WroteAfter, demo_booted}
