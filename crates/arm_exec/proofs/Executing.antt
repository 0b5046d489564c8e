use Rattle.arm_exec.proofs.Words.{◌≡◌, ◌&&◌, Bool, true, false, if◌then◌else◌, Option, None, refl, ap, ◌∙◌, MemoryMachine, Instr, holds, Meaning}
use Rattle.arm_exec.proofs.Words.{carried_out, act, condition, skipped, RegisterState, Setting, executed_unless, swi_stop, equivalent}
use Rattle.ds_base.proofs.Choices.{if_true}
use Rattle.arm_core.specs.Steps.{executed}

unless : {A : Type 0} (in_rom effect : Bool) (stop : Option A) → effect ≡ true → (if in_rom then stop else None) ≡ None
    → (if in_rom && effect then stop else None) ≡ None
unless true effect stop h n = rw h n
unless false effect stop h n = refl

-- an instruction whose condition holds, and that needs nothing that is left out, is carried out
pub executed_acts : {S : Type 0} (memory : MemoryMachine S) (setting : Setting) (s : RegisterState) (state : S) (instr : Instr)
    → holds (condition instr) s.cpsr ≡ true → (if setting.in_rom then swi_stop instr else None) ≡ None
    → executed memory setting s state instr ≡ carried_out memory setting.arch s state (act setting.arch setting.base s (equivalent instr))
executed_acts memory setting s state instr h n =
    let effect = holds (condition instr) s.cpsr in
    let m = act setting.arch setting.base s (equivalent instr) in
    ap (λ o. executed_unless memory setting s state instr o) (unless setting.in_rom effect (swi_stop instr) h n)
    ∙ ap (λ (m : Meaning). carried_out memory setting.arch s state m) (if_true effect m (skipped s) h)
