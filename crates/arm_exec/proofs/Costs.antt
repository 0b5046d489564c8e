use Rattle.arm_exec.proofs.Words.{ℕ, ◌<◌, Bool, true, false, if◌then◌else◌, Option, Some, None, arith, MemoryMachine, Performed, perform, Stop, Arch}
use Rattle.arm_exec.proofs.Words.{V4, V5, condition_of, Instr, holds, Meaning, Outcome, concluded, carried_out, interrupt_meaning, undefined_meaning}
use Rattle.arm_exec.proofs.Words.{meaning, skipped, RegisterState, Setting, enters, executed_unless, executed_word, fetched, step_of, stop_of}
use Rattle.arm_core.specs.Costs.{clocks}
use Rattle.arm_core.specs.Effects.{cost_of}
use Rattle.arm_core.specs.declared.classes.Class.{Class}
use Rattle.arm_core.specs.declared.classes.Class.TheVariants as classes
use Rattle.arm_exec.specs.Costs.{CostsSome}

-- Every step costs a clock at least.

some_clocks : (class : Class) (arch : Arch) → 0 < clocks class arch
some_clocks classes.Processing V4 = omega arith
some_clocks classes.Processing V5 = omega arith
some_clocks classes.ShiftByRegister V4 = omega arith
some_clocks classes.ShiftByRegister V5 = omega arith
some_clocks classes.Multiply V4 = omega arith
some_clocks classes.Multiply V5 = omega arith
some_clocks classes.LongMultiply V4 = omega arith
some_clocks classes.LongMultiply V5 = omega arith
some_clocks classes.Load V4 = omega arith
some_clocks classes.Load V5 = omega arith
some_clocks classes.Store V4 = omega arith
some_clocks classes.Store V5 = omega arith
some_clocks (classes.LoadMultiple n) V4 = omega arith
some_clocks (classes.LoadMultiple n) V5 = omega arith
some_clocks (classes.StoreMultiple n) V4 = omega arith
some_clocks (classes.StoreMultiple n) V5 = omega arith
some_clocks classes.Branch V4 = omega arith
some_clocks classes.Branch V5 = omega arith
some_clocks classes.Swap V4 = omega arith
some_clocks classes.Swap V5 = omega arith
some_clocks classes.Coprocessor V4 = omega arith
some_clocks classes.Coprocessor V5 = omega arith
some_clocks classes.Entry V4 = omega arith
some_clocks classes.Entry V5 = omega arith
some_clocks classes.Nothing V4 = omega arith
some_clocks classes.Nothing V5 = omega arith

pub some_cost : (arch : Arch) (m : Meaning) → 0 < cost_of arch m
some_cost arch m = let k = some_clocks m.class arch in omega (arith, k)

module _ {S : Type 0} (memory : MemoryMachine S) (setting : Setting) (s : RegisterState) where
  one_of : (b : Bool) (x y : Outcome S) → CostsSome x.stepped → CostsSome y.stepped → CostsSome (if b then x else y).stepped
  one_of true x y p q = p
  one_of false x y p q = q

  concluded_costs : (m : Meaning) (done : Performed S) (stop : Option Stop) → CostsSome (concluded setting.arch s m done stop).stepped
  concluded_costs m done None = some_cost setting.arch m
  concluded_costs m done (Some stop) = tt

  pub carried_out_costs : (state : S) (m : Meaning) → CostsSome (carried_out memory setting.arch s state m).stepped
  carried_out_costs state m = let done = perform memory state m.accesses in concluded_costs m done done.stop

  executed_costs : (state : S) (instr : Instr) (stop : Option Stop) → CostsSome (executed_unless memory setting s state instr stop).stepped
  executed_costs state instr None = carried_out_costs state (meaning setting.arch setting.base s instr)
  executed_costs state instr (Some stop) = tt

  pub word_costs : (state : S) (number : ℕ) (instr : Option Instr) → CostsSome (executed_word memory setting s state number instr).stepped
  word_costs state number None = carried_out_costs state (if holds (condition_of number) s.cpsr then undefined_meaning setting.base s else skipped s)
  word_costs state number (Some instr) = executed_costs state instr (stop_of setting s instr)

  pub step_costs : (line : Bool) (state : S) → CostsSome (step_of memory setting line s state).stepped
  step_costs line state =
      let f = fetched memory setting.arch s state in
      one_of (enters line s) (carried_out memory setting.arch s state (interrupt_meaning setting.base s))
      (executed_word memory setting s f.state f.number f.instr)
      (carried_out_costs state (interrupt_meaning setting.base s)) (word_costs f.state f.number f.instr)
