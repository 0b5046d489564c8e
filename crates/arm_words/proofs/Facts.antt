use Rattle.std.proofs.Common.{ℕ, suc, ◌≡◌, ◌⊎◌, ◌<◌, arith, Some}
use Rattle.arm_words.specs.declared.instructions.Instr.{Instr}

pub some_is : (i j : Instr) → Some i ≡ Some j → i ≡ j
some_is i j e = cc

pub last_or_less : (n k : ℕ) → n < suc k → (n ≡ k) ⊎ (n < k)
last_or_less n k h = grind arith
