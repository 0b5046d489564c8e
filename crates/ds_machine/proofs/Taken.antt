use Rattle.ds_machine.proofs.Words.{Bool, Instr, Meaning, MemoryMachine, None, Operation, Option, RegisterState, RunsAs, SideOf, Some, ap}
use Rattle.ds_machine.proofs.Words.{carried_out, data_accesses, data_waits, enters, false, fetched, interrupt_meaning, is_decoded, next_fetch}
use Rattle.ds_machine.proofs.Words.{operation_meaning, operation_means, operation_of, operation_outcome, refl, side_taken, side_waits, subst, sym}
use Rattle.ds_machine.proofs.Words.{taken, true, true≢false, waits_of, waits_of_step, ℕ, ◌+◌, ◌∙◌, ◌≡◌}

-- A step by what is entered and fetched.

pub taken_entered : {S : Type 0} (memory : MemoryMachine S) (side : SideOf S) (line : Bool) (s : RegisterState) (state : S) → enters line s ≡ true
    → side_taken memory side line s state ≡ carried_out memory side.step.arch s state (interrupt_meaning (side.step.base state) s)
unfolding taken
taken_entered memory side line s state enter = rw enter refl

pub taken_executed : {S : Type 0} (memory : MemoryMachine S) (side : SideOf S) (line : Bool) (s : RegisterState) (state : S) (number : ℕ) (instr : Option Instr)
    → enters line s ≡ false → number ≡ (fetched memory side.step.arch s state).number → instr ≡ (fetched memory side.step.arch s state).instr
    → side_taken memory side line s state ≡ side.step.executed s state number instr
unfolding taken
taken_executed memory side line s state number instr none n i = rw (none, n, i) refl

pub taken_operation : {S : Type 0} (memory : MemoryMachine S) (side : SideOf S) (line : Bool) (s : RegisterState) (state : S) (operation : Operation) → RunsAs memory side s state operation
    → enters line s ≡ false → operation ≡ operation_of (fetched memory side.step.arch s state).instr → side_taken memory side line s state ≡ operation_outcome memory side s state operation
taken_operation memory side line s state operation executes none is =
    let f = fetched memory side.step.arch s state in taken_executed memory side line s state f.number f.instr none refl refl ∙ executes f.number f.instr is

-- ---- and how long it waits

pub waits_entered : {S : Type 0} (memory : MemoryMachine S) (side : SideOf S) (line : Bool) (s : RegisterState) (state : S) → enters line s ≡ true
    → side_waits memory side line s state ≡ 0
unfolding waits_of_step
waits_entered memory side line s state enter = rw enter refl

pub waits_fetched : {S : Type 0} (memory : MemoryMachine S) (side : SideOf S) (line : Bool) (s : RegisterState) (state : S) → enters line s ≡ false
    → side_waits memory side line s state ≡ side.step.wait state (next_fetch s) + data_waits memory side.step s state
unfolding waits_of_step
waits_fetched memory side line s state none = rw none refl

-- what is decoded makes the accesses of its instruction
pub decoded_waits : {S : Type 0} (memory : MemoryMachine S) (side : SideOf S) (s : RegisterState) (state : S) (operation : Operation) → is_decoded operation.op ≡ true
    → operation ≡ operation_of (fetched memory side.step.arch s state).instr
    → waits_of memory side.step.wait state (operation_meaning side.step.arch s operation).accesses ≡ data_waits memory side.step s state
decoded_waits {S} memory side s state operation known is =
    ap (λ (o : Operation). waits_of memory side.step.wait state (operation_meaning side.step.arch s o).accesses) is
    ∙ by_instr (fetched memory side.step.arch s state).instr (subst (λ (o : Operation). is_decoded o.op ≡ true) is known) where
      by_instr : (instr : Option Instr) → is_decoded (operation_of instr).op ≡ true
          → waits_of memory side.step.wait state (operation_meaning side.step.arch s (operation_of instr)).accesses
          ≡ waits_of memory side.step.wait state (data_accesses side.step.arch (side.step.base state) s instr)
      by_instr None h = absurd (true≢false (sym h))
      by_instr (Some instr) h = ap (λ (m : Meaning). waits_of memory side.step.wait state m.accesses) (sym (operation_means side.step.arch (side.step.base state) s instr h))
