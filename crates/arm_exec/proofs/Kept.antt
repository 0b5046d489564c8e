use Rattle.arm_exec.proofs.Words.{ℕ, Bool, true, false, if◌then◌else◌, Option, Some, None, refl, MemoryMachine, Performed, perform, Stop}
use Rattle.arm_exec.proofs.Words.{condition_of, Instr, holds, Meaning, Outcome, concluded, carried_out, interrupt_meaning, undefined_meaning, meaning}
use Rattle.arm_exec.proofs.Words.{skipped, RegisterState, Setting, enters, executed_unless, executed_word, fetched, step_of, stop_of}
use Rattle.arm_exec.specs.Stopped.{KeepsWhereStopped}

module _ {S : Type 0} (memory : MemoryMachine S) (setting : Setting) (s : RegisterState) where
  -- what a step comes to keeps the registers where it needs what is left out
  abbrev pub Keeps : Outcome S → Type 0
  Keeps o = KeepsWhereStopped s o.stepped o.registers

  one_of : (b : Bool) (x y : Outcome S) → Keeps x → Keeps y → Keeps (if b then x else y)
  one_of true x y p q = p
  one_of false x y p q = q

  concluded_keeps : (m : Meaning) (done : Performed S) (stop : Option Stop) → Keeps (concluded setting.arch s m done stop)
  concluded_keeps m done None = tt
  concluded_keeps m done (Some stop) = refl

  pub carried_keeps : (state : S) (m : Meaning) → Keeps (carried_out memory setting.arch s state m)
  carried_keeps state m = let done = perform memory state m.accesses in concluded_keeps m done done.stop

  executed_keeps : (state : S) (instr : Instr) (stop : Option Stop) → Keeps (executed_unless memory setting s state instr stop)
  executed_keeps state instr None = carried_keeps state (meaning setting.arch setting.base s instr)
  executed_keeps state instr (Some stop) = refl

  pub word_keeps : (state : S) (number : ℕ) (instr : Option Instr) → Keeps (executed_word memory setting s state number instr)
  word_keeps state number None = carried_keeps state (if holds (condition_of number) s.cpsr then undefined_meaning setting.base s else skipped s)
  word_keeps state number (Some instr) = executed_keeps state instr (stop_of setting s instr)

  pub step_keeps : (line : Bool) (state : S) → Keeps (step_of memory setting line s state)
  step_keeps line state =
      let f = fetched memory setting.arch s state in
      one_of (enters line s) (carried_out memory setting.arch s state (interrupt_meaning setting.base s))
      (executed_word memory setting s f.state f.number f.instr)
      (carried_keeps state (interrupt_meaning setting.base s)) (word_keeps f.state f.number f.instr)
