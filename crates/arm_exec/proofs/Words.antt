-- The words of lower crates and of this one that its proofs speak in, from one place.
pub use Rattle.std.proofs.Common.{Bool, List, None, Option, Some, [], ap, arith, bit_and, false, if◌then◌else◌, refl, slice_index, subst, sym, true}
pub use Rattle.std.proofs.Common.{ℕ, ◌%◌, ◌&&◌, ◌*◌, ◌+◌, ◌-◌, ◌/◌, ◌<◌, ◌==◌, ◌^◌, ◌∙◌, ◌∷◌, ◌≡◌}
pub use Rattle.std.specs.Int.{w32}
pub use Rattle.std.specs.Prelude.{map}
pub use Rattle.arm_core.specs.Addressing.{listed_registers, with_base}
pub use Rattle.arm_core.specs.Branches.{distance, with_thumb}
pub use Rattle.arm_core.specs.Conditions.{holds}
pub use Rattle.arm_core.specs.Effects.{Meaning, Outcome, carried_out, concluded}
pub use Rattle.arm_core.specs.Enhanced.{enhanced_meaning}
pub use Rattle.arm_core.specs.Exceptions.{entered, interrupt_meaning, undefined_meaning}
pub use Rattle.arm_core.specs.Links.{linked}
pub use Rattle.arm_core.specs.Meanings.{act, act_multiply, condition, meaning, skipped}
pub use Rattle.arm_core.specs.Multiples.{last_of, loaded, loaded_r15, reads, stored_value, writes}
pub use Rattle.arm_core.specs.Multiplies.{with_sign}
pub use Rattle.arm_core.specs.Registers.{RegisterState, bank, is_thumb, next, put, register, saved_place}
pub use Rattle.arm_core.specs.Saturating.{with_lost}
pub use Rattle.arm_core.specs.StatusLaws.{HasStatuses, IsStatus}
pub use Rattle.arm_core.specs.StatusRegisters.{kept_status_bits}
pub use Rattle.arm_core.specs.Steps.{Setting, enters, executed_unless, executed_word, fetched, step_of, stop_of, swi_stop}
pub use Rattle.arm_core.specs.Thumb.{equivalent}
pub use Rattle.arm_core.specs.Undefined.{has_coprocessor}
pub use Rattle.arm_core.specs.declared.banks.Bank.{Bank}
pub use Rattle.arm_core.specs.declared.exceptions.Exception.TheVariants.{Breakpoint, Interrupt, SoftwareInterrupt, UndefinedInstruction}
pub use Rattle.arm_core.specs.declared.results.Computed.{Computed}
pub use Rattle.arm_words.specs.Parts.{condition_of}
pub use Rattle.arm_words.specs.declared.instructions.Instr.{Instr}
pub use Rattle.arm_words.specs.declared.instructions.Instr.TheVariants.{Coprocessor, Saturating, Smla, Smlaw, ThumbAddress}
pub use Rattle.arm_words.specs.declared.parts.FieldMask.{FieldMask}
pub use Rattle.ds_base.specs.Accesses.{Access, MemoryMachine, Performed, perform}
pub use Rattle.ds_base.specs.Bits.{bit, flag}
pub use Rattle.ds_base.specs.declared.left_out.Stop.{Stop}
pub use Rattle.ds_base.specs.declared.memories.Width.TheVariants.{Half, Word}
pub use Rattle.ds_base.specs.declared.processors.Arch.{Arch}
pub use Rattle.ds_base.specs.declared.processors.Arch.TheVariants.{V4, V5}
