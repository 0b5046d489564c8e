-- The words of lower crates and of this one that its proofs speak in, from one place.
pub use Rattle.std.proofs.Common.{All, Contains, List, ap, arith, subst, sym, take, ℕ, ◌∙◌, ◌≡◌}
pub use Rattle.std.specs.Prelude.{IfSome, remove}
pub use Rattle.ds_machine.specs.Booted.{machine_booted}
pub use Rattle.ds_machine.specs.Reference.{Shown, dues_of, reference, reference_step}
pub use Rattle.ds_machine.specs.States.{MachineState}
pub use Rattle.run_ahead.specs.Consoles.{ConsoleState}
pub use Rattle.gdb_session.specs.Tapes.{ComesFrom, ComesFromBoot, IsOfOneRun, IsSaveOf, TapeState, boot_of}
pub use Rattle.gdb_session.specs.contracts.tapes.Tape.{the_view as tape_view}
pub use Rattle.gdb_session.specs.declared.saves.Saves.{Saves}
