use Rattle.ds_machine.proofs.Words.{AllByRecursion, IoState, IsIrq, List, MachineState, Nine, Proc, Seven, [], io_of, processor_of, slice_index, suc}
use Rattle.ds_machine.proofs.Words.{ℕ, ◌<◌, ◌^◌, ◌∷◌}
use Rattle.arm_core.specs.Saved.{AreRegisters}

-- What holds of both, and of each.

pub all_words : (xs : List ℕ) → ((i : ℕ) → slice_index xs i < 2 ^ 32) → AllByRecursion (λ word. word < 2 ^ 32) xs
all_words [] h = tt
all_words (x ∷ xs) h = (h 0, all_words xs (λ i. h (suc i)))

pub both_irqs : (u : IoState) → IsIrq u.nine.irq → IsIrq u.seven.irq → (proc : Proc) → IsIrq (io_of u proc).irq
both_irqs u nine seven Nine = nine
both_irqs u nine seven Seven = seven

pub both_registers : (s : MachineState) → AreRegisters s.nine.processor.registers → AreRegisters s.seven.processor.registers → (proc : Proc)
    → AreRegisters (processor_of s proc).registers
both_registers s nine seven Nine = nine
both_registers s nine seven Seven = seven
