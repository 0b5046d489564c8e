-- The words of lower crates and of this one that its proofs speak in, from one place.
pub use Rattle.arm_core.specs.Conditions.{holds}
pub use Rattle.arm_core.specs.Effects.{carried_out}
pub use Rattle.arm_core.specs.Exceptions.{interrupt_meaning}
pub use Rattle.arm_core.specs.Registers.{RegisterState, next, put, register}
pub use Rattle.arm_core.specs.Steps.{FetchOutcome, enters, executed_word, fetched}
pub use Rattle.cp15_tcm.specs.declared.answers.Mcr.{Mcr}
pub use Rattle.ds_base.specs.Accesses.{MemoryMachine}
pub use Rattle.ds_base.specs.declared.processors.Arch.TheVariants.{V5}
pub use Rattle.arm9_exec.specs.Arm9.{Outcome9, arm9, beside, executed_or_moved, step9_of, step_waits}
pub use Rattle.arm9_exec.specs.declared.coprocessors.Moved.{Moved}
