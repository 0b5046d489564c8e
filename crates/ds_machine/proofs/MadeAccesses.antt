use Rattle.ds_machine.proofs.Words.{Access, Arch, Bool, Coprocessor, Instr, IsSome, List, Meaning, MemoryMachine, None, Option, Performed}
use Rattle.ds_machine.proofs.Words.{RegisterState, Setting, SevenReach, Some, Stop, Swi, ThumbSwi, V4, [], accesses_of, act, ap, arm7, carried_out}
use Rattle.ds_machine.proofs.Words.{concluded, condition, condition_of, enters, equivalent, executed_unless, executed_word, false, fetched, holds}
use Rattle.ds_machine.proofs.Words.{if◌then◌else◌, interrupt_meaning, meaning, move_of, perform, refl, seven_memory, seven_side, side_taken, skipped}
use Rattle.ds_machine.proofs.Words.{step_accesses, stop_of, sym, true, true≢false, undefined_meaning, ℕ, ◌&&◌, ◌∙◌, ◌≡◌}
use Rattle.ds_machine.proofs.Taken.{taken_entered, taken_executed}

-- What a word or half that was fetched leaves of a memory machine is what its instruction's accesses leave: an undefined one makes none, nor does a
-- SWI that needs what is left out.

silent : (b : Bool) (m k : Meaning) → m.accesses ≡ [] → k.accesses ≡ [] → (if b then m else k).accesses ≡ []
silent true m k p q = p
silent false m k p q = q

meant_silent : (arch : Arch) (base : ℕ) (s : RegisterState) (instr : Instr) → (act arch base s (equivalent instr)).accesses ≡ []
    → (meaning arch base s instr).accesses ≡ []
meant_silent arch base s instr h = silent (holds (condition instr) s.cpsr) (act arch base s (equivalent instr)) (skipped s) h refl

no_stop : (b : Bool) → IsSome (let none : Option Stop = None in if b then none else none) → ⊥
no_stop true h = true≢false (sym h)
no_stop false h = true≢false (sym h)

stop_silent : (setting : Setting) (s : RegisterState) (instr : Instr) → IsSome (stop_of setting s instr)
    → (meaning setting.arch setting.base s instr).accesses ≡ []
stop_silent setting s (Swi cond immed) h = meant_silent setting.arch setting.base s (Swi cond immed) refl
stop_silent setting s (ThumbSwi immed) h = meant_silent setting.arch setting.base s (ThumbSwi immed) refl
stop_silent setting s instr h = absurd (no_stop (setting.in_rom && holds (condition instr) s.cpsr) h)

module _ {S : Type 0} (memory : MemoryMachine S) where
  concluded_state : (arch : Arch) (old : RegisterState) (m : Meaning) (done : Performed S) (stop : Option Stop)
      → (concluded arch old m done stop).state ≡ done.state
  concluded_state arch old m done None = refl
  concluded_state arch old m done (Some stop) = refl

  pub carried_state : (arch : Arch) (old : RegisterState) (state : S) (m : Meaning)
      → (carried_out memory arch old state m).state ≡ (perform memory state m.accesses).state
  carried_state arch old state m = let done : Performed S = perform memory state m.accesses in concluded_state arch old m done done.stop

  module _ (setting : Setting) (s : RegisterState) (state : S) where
    abbrev state_after : List Access → S
    state_after accesses = (perform memory state accesses).state

    unless_made : (instr : Instr) (stop : Option Stop) → (IsSome stop → (meaning setting.arch setting.base s instr).accesses ≡ [])
        → (executed_unless memory setting s state instr stop).state ≡ state_after (meaning setting.arch setting.base s instr).accesses
    unless_made instr None h = carried_state setting.arch s state (meaning setting.arch setting.base s instr)
    unless_made instr (Some stop) h = sym (ap state_after (h refl))

    pub word_made : (number : ℕ) (instr : Option Instr)
        → (executed_word memory setting s state number instr).state ≡ state_after (accesses_of setting.arch setting.base s instr)
    word_made number None =
        let b = holds (condition_of number) s.cpsr in
        carried_state setting.arch s state (if b then undefined_meaning setting.base s else skipped s)
        ∙ ap state_after (silent b (undefined_meaning setting.base s) (skipped s) refl refl)
    word_made number (Some instr) = unless_made instr (stop_of setting s instr) (stop_silent setting s instr)

-- ---- ARM7's step

pub seven_made : (line : Bool) (s : RegisterState) (r : SevenReach)
    → (side_taken seven_memory seven_side line s r).state ≡ (perform seven_memory r (step_accesses seven_memory seven_side line s r)).state
seven_made line s r = by_entry (enters line s) refl where
  by_entry : (b : Bool) → enters line s ≡ b
      → (side_taken seven_memory seven_side line s r).state
      ≡ (perform seven_memory r (if b then [] else accesses_of V4 0 s (fetched seven_memory V4 s r).instr)).state
  by_entry true e = rw (taken_entered seven_memory seven_side line s r e) (carried_state seven_memory V4 s r (interrupt_meaning 0 s))
  by_entry false e =
      let f = fetched seven_memory V4 s r in
      rw (taken_executed seven_memory seven_side line s r f.number f.instr e refl refl) (word_made seven_memory arm7 s r f.number f.instr)

-- ---- a move to or from a coprocessor, which makes no access

pub move_silent : (arch : Arch) (base : ℕ) (s : RegisterState) (instr : Option Instr) → IsSome (move_of instr) → accesses_of arch base s instr ≡ []
move_silent arch base s None h = refl
move_silent arch base s (Some (Coprocessor cond load op1 crn rd cp op2 crm)) h =
    meant_silent arch base s (Coprocessor cond load op1 crn rd cp op2 crm) refl
move_silent arch base s (Some _) h = absurd (true≢false (sym h))
