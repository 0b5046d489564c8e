use Rattle.std.specs.Prelude.{Option, Some, None}
use Rattle.arm_core.specs.declared.outcomes.Stepped as arm
use Rattle.arm_core.specs.declared.outcomes.Stepped.TheVariants.{Cost, Halted, Left}
use Rattle.ds_base.specs.declared.left_out.Stop.{Stop}
use Rattle.ds_machine.specs.SavedParts.{SavedProcessor}
use Rattle.ds_machine.specs.States.{ProcessorState}
use Rattle.ds_machine.specs.declared.processors.Processor.{Processor}
use Rattle.ds_machine.specs.declared.saved.processors.TakenProcessor.{TakenProcessor}

-- The code's processor, and what it needs of a step. No public clause speaks of it.

abbrev pub state_of : Processor → ProcessorState
state_of p = record { registers = p.core.registers; due = p.due; steps = p.steps }

-- and one that was taken from bytes
abbrev pub processor_taken : TakenProcessor → SavedProcessor
processor_taken p = record { registers = p.core.registers; halted = p.halted; due = p.due }

-- the stop that it came to, if it came to one
abbrev pub stop_in : arm.Stepped → Option Stop
stop_in (Cost clocks) = None
stop_in (Halted clocks) = None
stop_in (Left stop) = Some stop
