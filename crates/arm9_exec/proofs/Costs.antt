use Rattle.arm9_exec.proofs.Words.{Mcr, Moved, Outcome9, RegisterState, V5, holds, register}
use Rattle.std.proofs.Common.{ℕ, ◌≡◌, Bool, true, false, if◌then◌else◌, refl, arith}
use Rattle.arm_core.specs.Meanings.{skipped}
use Rattle.arm_exec.specs.Costs.{CostsSome}
use Rattle.arm_exec.proofs.Costs.{some_cost}
use Rattle.cp15_tcm.specs.Registers.{Cp15State, Cp15Register, write_answer}
use Rattle.cp15_tcm.specs.declared.answers.Mcr.TheVariants as mcr
use Rattle.arm9_exec.specs.Coprocessors.{carried_over, moved_if, register_moved, written_by}

-- Every step of ARM9 costs a clock at least.

module _ (s : RegisterState) (cp : Cp15State) where
  written_costs : (r : Cp15Register) (value : ℕ) (answer : Mcr) → CostsSome (written_by s cp r value answer).stepped
  written_costs r value mcr.Kept = omega arith
  written_costs r value mcr.Halt = tt
  written_costs r value (mcr.Left stop) = tt

  over_costs : (m : Moved) (load : Bool) → m.load ≡ load → CostsSome (carried_over s cp m).stepped
  over_costs m true h = rw h (omega arith)
  over_costs m false h =
      let r = register_moved m in let value = register s m.rd in
      rw h (written_costs r value (write_answer r value))

  pub moved_costs : (m : Moved) (does : Bool) → holds m.cond s.cpsr ≡ does → CostsSome (moved_if s cp m).stepped
  moved_costs m true h = rw h (over_costs m m.load refl)
  moved_costs m false h = rw h (some_cost V5 (skipped s))

  one_of : {S : Type 0} (b : Bool) (x y : Outcome9 S) → CostsSome x.stepped → CostsSome y.stepped → CostsSome (if b then x else y).stepped
  one_of true x y p q = p
  one_of false x y p q = q
