use Rattle.std.specs.Prelude.{ℕ, ◌+◌, Bool, false, if◌then◌else◌, List, [], Option, Some, None}
use Rattle.ds_base.specs.declared.processors.Arch.{Arch}
use Rattle.ds_base.specs.declared.left_out.Stop.{Stop}
use Rattle.ds_base.specs.Accesses.{MemoryMachine, Access, Performed, perform}
use Rattle.arm_core.specs.Registers.{RegisterState}
use Rattle.arm_core.specs.Costs.{clocks, jump_clocks}
use Rattle.arm_core.specs.declared.classes.Class.{Class}
use Rattle.arm_core.specs.declared.outcomes.Stepped.{Stepped}
use Rattle.arm_core.specs.declared.outcomes.Stepped.TheVariants.{Cost, Left}

-- What an instruction does, and how it is carried out.

-- the meaning of an instruction in a state of the registers (our choice of form; the ARM manual gives each by its pseudo-code)
pub record Meaning : Type 0 where
  -- the accesses of data that it makes, one after another
  pub accesses : List Access
  -- the registers after it, from the values that were read, in order
  pub after : List ℕ → RegisterState
  -- what it costs
  pub class : Class
  -- it writes r15, and isn't a branch or an exception
  pub jumps : Bool

-- an instruction that makes no access and doesn't jump
abbrev pub without_access : RegisterState → Class → Meaning
without_access after class = record { accesses = []; after = λ values. after; class = class; jumps = false }

abbrev pub cost_of : Arch → Meaning → ℕ
cost_of arch m = clocks m.class arch + (if m.jumps then jump_clocks else 0)

-- what carrying out an instruction comes to: the registers and the memory machine's state after it, and its cost or its stop
pub record Outcome (S : Type 0) : Type 0 where
  pub registers : RegisterState
  pub state : S
  pub stepped : Stepped

-- a refused write leaves the registers as they were; the accesses before it stand
abbrev pub concluded : {S : Type 0} → Arch → RegisterState → Meaning → Performed S → Option Stop → Outcome S
concluded arch old m done None = record { registers = m.after done.values; state = done.state; stepped = Cost (cost_of arch m) }
concluded arch old m done (Some stop) = record { registers = old; state = done.state; stepped = Left stop }

-- an instruction is carried out on a memory machine
abbrev pub carried_out : {S : Type 0} → MemoryMachine S → Arch → RegisterState → S → Meaning → Outcome S
carried_out memory arch old state m = let done = perform memory state m.accesses in concluded arch old m done done.stop
