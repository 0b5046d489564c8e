use Rattle.arm9_exec.proofs.Words.{FetchOutcome, Mcr, MemoryMachine, Moved, Outcome9, RegisterState, V5, arm9, beside, carried_out, enters}
use Rattle.arm9_exec.proofs.Words.{executed_or_moved, executed_word, fetched, holds, interrupt_meaning, next, put, register, step9_of}
use Rattle.std.proofs.Common.{ℕ, ◌≡◌, ◌+◌, ◌*◌, ◌/◌, ◌%◌, ◌^◌, ◌<◌, ◌==◌, ◌&&◌, bit_and, Bool, true, false, if◌then◌else◌, List, [], ◌∷◌, Option, Some, None, refl, arith}
use Rattle.std.proofs.lemmas.Nat.{and_le_r, or_of_32}
use Rattle.arm_core.specs.StatusLaws.{HasStatuses}
use Rattle.arm_exec.proofs.StatusBits.{flags_status}
use Rattle.arm_exec.proofs.StatusKinds.{AllowsSome}
use Rattle.arm_exec.proofs.StatusMoves.{next_has, one_of, put_has}
use Rattle.arm_exec.proofs.StatusSteps.{entry_has, fetched_allows, word_has}
use Rattle.cp15_tcm.specs.Registers.{Cp15State, Cp15Register, CodeRow, control_mask, control_ones, dtcm_mask, itcm_mask, register_by, register_of, register_read, register_written, registers, vectors_of, write_answer}
use Rattle.cp15_tcm.specs.Registers.Cp15Register.{Constant, Control, DtcmRegion, ItcmRegion, WaitForInterrupt, Other}
use Rattle.cp15_tcm.specs.declared.answers.Mcr.TheVariants as mcr
use Rattle.arm9_exec.specs.Coprocessors.{MoveOutcome, carried_over, move_of, moved_if, read_into, register_moved, written_by}
use Rattle.arm9_exec.specs.Statuses.{HasNineStatuses}

-- Every step of ARM9 leaves numbers that status registers can have, and words in CP15.

-- ---- what CP15 reads

abbrev IsWordRegister : Cp15Register → Type 0
IsWordRegister (Constant value) = value < 2 ^ 32
IsWordRegister _ = Unit {0}

abbrev AreWordRows : List CodeRow → Type 0
AreWordRows [] = Unit {0}
AreWordRows (r ∷ rs) = IsWordRegister r.register × AreWordRows rs

one_register : (b : Bool) (x y : Cp15Register) → IsWordRegister x → IsWordRegister y → IsWordRegister (if b then x else y)
one_register true x y p q = p
one_register false x y p q = q

by_rows : (rs : List CodeRow) → AreWordRows rs → (crn crm op2 : ℕ) → IsWordRegister (register_by rs crn crm op2)
by_rows [] h crn crm op2 = tt
by_rows (r ∷ rs) h crn crm op2 =
    one_register (r.crn == crn && r.crm == crm && r.op2 == op2) r.register (register_by rs crn crm op2) h.0 (by_rows rs h.1 crn crm op2)

table_words : AreWordRows registers
table_words = (omega arith, (omega arith, (omega arith, (tt, (tt, (tt, (tt, tt)))))))

is_word : (op1 crn crm op2 : ℕ) → IsWordRegister (register_of op1 crn crm op2)
is_word op1 crn crm op2 = one_register (op1 == 0) (register_by registers crn crm op2) Other (by_rows registers table_words crn crm op2) tt

module _ (s : RegisterState) (cp : Cp15State) (h : HasNineStatuses s cp) where
  reads_word : (r : Cp15Register) → IsWordRegister r → register_read cp r < 2 ^ 32
  reads_word (Constant value) w = w
  reads_word Control w = h.control
  reads_word DtcmRegion w = h.dtcm
  reads_word ItcmRegion w = h.itcm
  reads_word WaitForInterrupt w = omega arith
  reads_word Other w = omega arith

  -- other registers of the processor's beside those of CP15
  with_processor : (new : RegisterState) → HasStatuses V5 new → HasNineStatuses new cp
  with_processor new p = record { processor = p; control = h.control; dtcm = h.dtcm; itcm = h.itcm }

  -- ---- moves

  into_has : (rd value : ℕ) → value < 2 ^ 32 → (old : RegisterState) → HasStatuses V5 old → HasStatuses V5 (read_into rd value old)
  into_has rd value low old p =
      one_of V5 (rd == 15) (record old { cpsr = old.cpsr % 2 ^ 28 + value / 2 ^ 28 * 2 ^ 28 }) (put rd value old)
      (record { cpsr = flags_status V5 old.cpsr (value / 2 ^ 28) (omega (arith, low)) p.cpsr; saved = p.saved }) (put_has V5 rd value old p)

  written_has : (r : Cp15Register) (value : ℕ) → HasNineStatuses (next s) (register_written cp r value)
  written_has (Constant number) value = with_processor (next s) (next_has V5 s h.processor)
  written_has Control value =
      let low = and_le_r value control_mask in
      record {
        processor = next_has V5 s h.processor;
        control = or_of_32 (bit_and value control_mask) control_ones (omega (arith, low)) (omega arith);
        dtcm = h.dtcm;
        itcm = h.itcm;
      }
  written_has DtcmRegion value =
      let low = and_le_r value dtcm_mask in
      record { processor = next_has V5 s h.processor; control = h.control; dtcm = omega (arith, low); itcm = h.itcm }
  written_has ItcmRegion value =
      let low = and_le_r value itcm_mask in
      record { processor = next_has V5 s h.processor; control = h.control; dtcm = h.dtcm; itcm = omega (arith, low) }
  written_has WaitForInterrupt value = with_processor (next s) (next_has V5 s h.processor)
  written_has Other value = with_processor (next s) (next_has V5 s h.processor)

  abbrev Has : MoveOutcome → Type 0
  Has o = HasNineStatuses o.registers o.cp

  by_answer : (r : Cp15Register) (value : ℕ) (answer : Mcr) → Has (written_by s cp r value answer)
  by_answer r value mcr.Kept = written_has r value
  by_answer r value mcr.Halt = written_has r value
  by_answer r value (mcr.Left stop) = h

  over_has : (m : Moved) (load : Bool) → m.load ≡ load → Has (carried_over s cp m)
  over_has m true e =
      let r = register_moved m in
      rw e (with_processor (read_into m.rd (register_read cp r) (next s))
      (into_has m.rd (register_read cp r) (reads_word r (is_word m.op1 m.crn m.crm m.op2)) (next s) (next_has V5 s h.processor)))
  over_has m false e =
      let r = register_moved m in let value = register s m.rd in
      rw e (by_answer r value (write_answer r value))

  moved_has : (m : Moved) (does : Bool) → holds m.cond s.cpsr ≡ does → Has (moved_if s cp m)
  moved_has m true e = rw e (over_has m m.load refl)
  moved_has m false e = rw e (with_processor (next s) (next_has V5 s h.processor))

  -- ---- steps

  module _ {S : Type 0} (memory : MemoryMachine S) where
    abbrev Has9 : Outcome9 S → Type 0
    Has9 o = HasNineStatuses o.registers o.cp

    one_outcome : (b : Bool) (x y : Outcome9 S) → Has9 x → Has9 y → Has9 (if b then x else y)
    one_outcome true x y p q = p
    one_outcome false x y p q = q

    pub either_has : (f : FetchOutcome S) (o : Option Moved) → AllowsSome V5 f.instr → Has9 (executed_or_moved memory s cp f o)
    either_has f None a =
        with_processor (executed_word memory (arm9 cp) s f.state f.number f.instr).registers
        (word_has memory (arm9 cp) s h.processor f.state f.number f.instr a)
    either_has f (Some m) a = moved_has m (holds m.cond s.cpsr) refl

    pub step9_has : (line : Bool) (state : S) → Has9 (step9_of memory line s cp state)
    step9_has line state =
        let f = fetched memory V5 s state in
        let entry = carried_out memory V5 s state (interrupt_meaning (vectors_of cp) s) in
        one_outcome (enters line s) (beside cp entry) (executed_or_moved memory s cp f (move_of f.instr))
        (with_processor entry.registers (entry_has memory (arm9 cp) s h.processor state))
        (either_has f (move_of f.instr) (fetched_allows memory (arm9 cp) s h.processor state))
