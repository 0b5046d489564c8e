use Rattle.ds_machine.proofs.Words.{Bool, Coprocessor, Instr, MemoryMachine, NineReach, None, Operation, Option, RegisterState, Setting, SevenReach}
use Rattle.ds_machine.proofs.Words.{Some, ap, arm7, arm9, carried_out, condition, executed, executed_unless, false, holds, if◌then◌else◌, is_decoded}
use Rattle.ds_machine.proofs.Words.{meaning, move_of, nine_memory, nine_side, operation_meaning, operation_means, operation_needs_none, operation_of}
use Rattle.ds_machine.proofs.Words.{operation_outcome, refl, seven_memory, seven_side, subst, swi_stop, sym, true, true≢false, ℕ, ◌&&◌, ◌∙◌, ◌≡◌}

-- An instruction that is decoded is executed as what it was decoded as.

-- a move to or from CP15 isn't decoded
no_move : (instr : Instr) → is_decoded (operation_of (Some instr)).op ≡ true → move_of (Some instr) ≡ None
no_move (Coprocessor cond load op1 crn rd cp op2 crm) known = absurd (true≢false (sym known))
no_move _ known = refl

operation_executed : {S : Type 0} (memory : MemoryMachine S) (setting : Setting) (s : RegisterState) (state : S) (instr : Instr) → is_decoded (operation_of (Some instr)).op ≡ true
    → executed memory setting s state instr ≡ carried_out memory setting.arch s state (operation_meaning setting.arch s (operation_of (Some instr)))
operation_executed {S} memory setting s state instr known =
    by_stop (setting.in_rom && holds (condition instr) s.cpsr) ∙ ap (carried_out memory setting.arch s state) (operation_means setting.arch setting.base s instr known) where
      by_stop : (b : Bool) → executed_unless memory setting s state instr (if b then swi_stop instr else None)
          ≡ carried_out memory setting.arch s state (meaning setting.arch setting.base s instr)
      by_stop true = rw (operation_needs_none instr known) refl
      by_stop false = refl

pub nine_executes : (s : RegisterState) (r : NineReach) (operation : Operation) (number : ℕ) (instr : Option Instr) → is_decoded operation.op ≡ true → operation ≡ operation_of instr
    → nine_side.step.executed s r number instr ≡ operation_outcome nine_memory nine_side s r operation
nine_executes s r operation number None known is = absurd (true≢false (sym (subst (λ (x : Operation). is_decoded x.op ≡ true) is known)))
nine_executes s r operation number (Some instr) known is =
    let there : is_decoded (operation_of (Some instr)).op ≡ true = subst (λ (x : Operation). is_decoded x.op ≡ true) is known in
    rw (no_move instr there, is) (operation_executed nine_memory (arm9 r.cp15) s r instr there)

pub seven_executes : (s : RegisterState) (r : SevenReach) (operation : Operation) (number : ℕ) (instr : Option Instr) → is_decoded operation.op ≡ true → operation ≡ operation_of instr
    → seven_side.step.executed s r number instr ≡ operation_outcome seven_memory seven_side s r operation
seven_executes s r operation number None known is = absurd (true≢false (sym (subst (λ (x : Operation). is_decoded x.op ≡ true) is known)))
seven_executes s r operation number (Some instr) known is =
    let there : is_decoded (operation_of (Some instr)).op ≡ true = subst (λ (x : Operation). is_decoded x.op ≡ true) is known in
    rw is (operation_executed seven_memory arm7 s r instr there)
