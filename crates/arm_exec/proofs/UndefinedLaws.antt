use Rattle.arm_exec.proofs.Words.{◌≡◌, true, false, refl, Coprocessor, has_coprocessor}
use Rattle.ds_base.proofs.Choices.{not_true}
use Rattle.arm_exec.specs.Undefined.{EntersUndefined}

not_there : {A : Type 0} → false ≡ true → A
not_there e = absurd (let k : ⊥ = cc in k)

pub enters_undefined : EntersUndefined
enters_undefined arch base s (Coprocessor cond load op1 crn rd cp op2 crm) h =
    let e : has_coprocessor arch cp ≡ false = not_true (has_coprocessor arch cp) h in rw e refl
enters_undefined arch base s _ h = not_there h
