use Rattle.std.specs.Prelude.{ℕ, ◌≡◌, Option}
use Rattle.ds_base.specs.Accesses.{MemoryMachine}
use Rattle.arm_words.specs.declared.instructions.Instr.{Instr}
use Rattle.arm_core.specs.Effects.{Outcome, carried_out}
use Rattle.arm_core.specs.Registers.{RegisterState}
use Rattle.arm_ops.specs.Meanings.{operation_meaning}
use Rattle.arm_ops.specs.Operations.{operation_of}
use Rattle.arm_ops.specs.declared.operations.Operation.{Operation}
use Rattle.ds_machine.specs.PrivateSides.{SideOf}

-- A step by a decoded operation. No public clause speaks of it.

-- one is carried out
abbrev pub operation_outcome : {S : Type 0} → MemoryMachine S → SideOf S → RegisterState → S → Operation → Outcome S
operation_outcome memory side s state operation = carried_out memory side.step.arch s state (operation_meaning side.step.arch s operation)

-- it is what any instruction comes to that it was decoded from
abbrev pub RunsAs : {S : Type 0} → MemoryMachine S → SideOf S → RegisterState → S → Operation → Type 0
RunsAs memory side s state operation =
    (number : ℕ) (instr : Option Instr) → operation ≡ operation_of instr → side.step.executed s state number instr
    ≡ operation_outcome memory side s state operation
