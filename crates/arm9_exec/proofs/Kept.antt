use Rattle.arm9_exec.proofs.Words.{FetchOutcome, Mcr, MemoryMachine, Moved, RegisterState, V5, arm9, carried_out, enters, executed_or_moved}
use Rattle.arm9_exec.proofs.Words.{executed_word, fetched, holds, interrupt_meaning, register, step9_of, step_waits}
use Rattle.std.proofs.Common.{ℕ, ◌≡◌, ◌&&◌, not, Bool, true, false, if◌then◌else◌, Option, Some, None, refl}
use Rattle.ds_base.specs.Bits.{bit}
use Rattle.ds_base.specs.declared.left_out.LeftKind.TheVariants.{BigEndian}
use Rattle.arm_core.specs.declared.outcomes.Stepped as stepped
use Rattle.arm_core.specs.declared.outcomes.Stepped.TheVariants.{Cost, Halted, Left}
use Rattle.arm_exec.specs.Stopped.{KeepsWhereStopped}
use Rattle.arm_exec.proofs.Kept.{carried_keeps, word_keeps}
use Rattle.cp15_tcm.specs.Registers.{Cp15State, Cp15Register, vectors_of, write_answer}
use Rattle.cp15_tcm.specs.Registers.Cp15Register.{Constant, Control, DtcmRegion, ItcmRegion, WaitForInterrupt, Other}
use Rattle.cp15_tcm.specs.declared.answers.Mcr.TheVariants as mcr
use Rattle.arm9_exec.specs.Coprocessors.{carried_over, is_wait, move_of, moved_if, register_moved, waits, written, written_by}
use Rattle.arm9_exec.specs.Stopped.{KeepsBothWhereStopped, ends_halted}

-- Where a step needs what is left out, and where it halts.

-- the registers of both stay where they must, and the step halts where it waits
abbrev Ends : RegisterState → Cp15State → stepped.Stepped → RegisterState → Cp15State → Bool → Type 0
Ends s cp came new_s new_cp wait = KeepsBothWhereStopped s cp came new_s new_cp × (ends_halted came ≡ wait)

-- what makes no move keeps CP15, and never halts
beside_ends : (s : RegisterState) (cp : Cp15State) (came : stepped.Stepped) (new : RegisterState) → KeepsWhereStopped s came new → Ends s cp came new cp false
beside_ends s cp (Cost clocks) new keeps = (tt, refl)
beside_ends s cp (Halted clocks) new keeps = absurd keeps
beside_ends s cp (Left stop) new keeps = ((keeps, refl), refl)

module _ (s : RegisterState) (cp : Cp15State) where
  written_keeps : (r : Cp15Register) (value : ℕ) (answer : Mcr)
      → let o = written_by s cp r value answer in KeepsBothWhereStopped s cp o.stepped o.registers o.cp
  written_keeps r value mcr.Kept = tt
  written_keeps r value mcr.Halt = tt
  written_keeps r value (mcr.Left stop) = (refl, refl)

  written_halts : (r : Cp15Register) (value : ℕ) → ends_halted (written s cp r value).stepped ≡ is_wait r
  written_halts (Constant n) value = refl
  written_halts Control value = by_bit (bit 7 value) where
    by_bit : (big : Bool) → ends_halted (written_by s cp Control value (if big then mcr.Left (record { kind = BigEndian; value = value }) else mcr.Kept)).stepped ≡ false
    by_bit true = refl
    by_bit false = refl
  written_halts DtcmRegion value = refl
  written_halts ItcmRegion value = refl
  written_halts WaitForInterrupt value = refl
  written_halts Other value = refl

  carried_ends : (m : Moved) (load : Bool) → m.load ≡ load
      → let o = carried_over s cp m in Ends s cp o.stepped o.registers o.cp (not m.load && is_wait (register_moved m))
  carried_ends m true h = rw h (tt, refl)
  carried_ends m false h =
      let r = register_moved m in let value = register s m.rd in
      rw h (written_keeps r value (write_answer r value), written_halts r value)

  moved_ends : (m : Moved) (effect : Bool) → holds m.cond s.cpsr ≡ effect
      → let o = moved_if s cp m in Ends s cp o.stepped o.registers o.cp (holds m.cond s.cpsr && not m.load && is_wait (register_moved m))
  moved_ends m true h = rw h (carried_ends m m.load refl)
  moved_ends m false h = rw h (tt, refl)

module _ {S : Type 0} (memory : MemoryMachine S) (s : RegisterState) (cp : Cp15State) where
  executed_ends : (f : FetchOutcome S) (m : Option Moved)
      → let o = executed_or_moved memory s cp f m in Ends s cp o.stepped o.registers o.cp (waits s m)
  executed_ends f None =
      let o = executed_word memory (arm9 cp) s f.state f.number f.instr in
      beside_ends s cp o.stepped o.registers (word_keeps memory (arm9 cp) s f.state f.number f.instr)
  executed_ends f (Some m) = moved_ends s cp m (holds m.cond s.cpsr) refl

  pub step_ends : (line : Bool) (state : S)
      → let o = step9_of memory line s cp state in Ends s cp o.stepped o.registers o.cp (step_waits memory line s state)
  step_ends line state = by_entry (enters line s) refl where
    by_entry : (entry : Bool) → enters line s ≡ entry
        → let o = step9_of memory line s cp state in Ends s cp o.stepped o.registers o.cp (step_waits memory line s state)
    by_entry true h =
        let o = carried_out memory V5 s state (interrupt_meaning (vectors_of cp) s) in
        rw h (beside_ends s cp o.stepped o.registers (carried_keeps memory (arm9 cp) s state (interrupt_meaning (vectors_of cp) s)))
    by_entry false h = let f = fetched memory V5 s state in rw h (executed_ends f (move_of f.instr))
