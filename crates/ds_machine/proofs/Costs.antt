use Rattle.ds_machine.proofs.Words.{Bool, Cost, CostsSome, Halted, Instr, Left, MachineState, MemoryMachine, Moved, Nine, NineReach, None, Option}
use Rattle.ds_machine.proofs.Words.{Proc, RegisterState, Setting, Seven, SideOf, Some, Tick, arm7, arm9, carried_out, enters, false, fetched, holds}
use Rattle.ds_machine.proofs.Words.{if◌then◌else◌, in_ticks, interrupt_meaning, line_of, move_of, nine_executed, nine_memory, nine_reach, nine_side}
use Rattle.ds_machine.proofs.Words.{outcome_of, refl, seven_memory, seven_reach, seven_side, side_taken, side_waits, taken, true, ℕ}
use Rattle.arm_exec.proofs.Costs.{carried_out_costs, word_costs}
use Rattle.arm9_exec.proofs.Costs.{moved_costs}
use Rattle.arm_core.specs.declared.outcomes.Stepped as arm
use Rattle.ds_machine.proofs.Ticks.{some_ticks}

-- Every step of a processor costs a clock at least, since what it executes does.

taken_costs : {S : Type 0} (memory : MemoryMachine S) (side : SideOf S)
    → ((s : RegisterState) (state : S) (number : ℕ) (instr : Option Instr) → CostsSome (side.step.executed s state number instr).stepped)
    → (line : Bool) (s : RegisterState) (state : S) → CostsSome (side_taken memory side line s state).stepped
unfolding taken
taken_costs {S} memory side executed line s state = by_entry (enters line s) where
  by_entry : (b : Bool) → CostsSome (if b then carried_out memory side.step.arch s state (interrupt_meaning (side.step.base state) s)
      else let f = fetched memory side.step.arch s state in side.step.executed s state f.number f.instr).stepped
  by_entry true =
      let setting : Setting = record { arch = side.step.arch; base = side.step.base state; in_rom = false } in carried_out_costs memory setting s state (interrupt_meaning (side.step.base state) s)
  by_entry false = let f = fetched memory side.step.arch s state in executed s state f.number f.instr

nine_costs : (s : RegisterState) (r : NineReach) (number : ℕ) (instr : Option Instr) (move : Option Moved) → CostsSome (nine_executed s r number instr move).stepped
nine_costs s r number instr None = word_costs nine_memory (arm9 r.cp15) s r number instr
nine_costs s r number instr (Some move) = moved_costs s r.cp15 move (holds move.cond s.cpsr) refl

-- a clock is a tick at least
ticks_cost : (proc : Proc) (waits : ℕ) (came : arm.Stepped) → CostsSome came → CostsSome (in_ticks proc waits came)
ticks_cost proc waits (Cost clocks) some = some_ticks proc clocks waits some
ticks_cost proc waits (Halted clocks) some = tt
ticks_cost proc waits (Left stop) some = tt

pub step_costs : (proc : Proc) (now : Tick) (s : MachineState) → CostsSome (outcome_of proc now s).stepped
step_costs Nine now s =
    let line = line_of s Nine in
    let old = s.nine.processor.registers in
    let r = nine_reach now s in
    ticks_cost Nine (side_waits nine_memory nine_side line old r) (side_taken nine_memory nine_side line old r).stepped
    (taken_costs nine_memory nine_side (λ old r number instr. nine_costs old r number instr (move_of instr)) line old r)
step_costs Seven now s =
    let line = line_of s Seven in
    let old = s.seven.processor.registers in
    let r = seven_reach now s in
    ticks_cost Seven (side_waits seven_memory seven_side line old r) (side_taken seven_memory seven_side line old r).stepped
    (taken_costs seven_memory seven_side (λ old r number instr. word_costs seven_memory arm7 old r number instr) line old r)
