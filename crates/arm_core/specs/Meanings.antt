use Rattle.std.specs.Prelude.{ℕ, false, if◌then◌else◌}
use Rattle.ds_base.specs.declared.processors.Arch.{Arch}
use Rattle.arm_words.specs.declared.parts.Condition.{Condition}
use Rattle.arm_words.specs.declared.parts.Condition.TheVariants.{Al}
use Rattle.arm_words.specs.declared.instructions.Instr.{Instr}
use Rattle.arm_words.specs.declared.instructions.Instr.TheVariants.{Bx, BlxRegister, Clz, Saturating, Smla, Smlaw, Smulw, Smlal, Smul, Mul, Mla, LongMultiply, Swap, HalfTransfer, Mrs, Msr, MsrImmediate, Compare, Move, Data, DoubleTransfer, Transfer, Multiple, Branch, Coprocessor, Swi, Never, ThumbAddress, ThumbLoadLiteral, ThumbBranchIf, ThumbBranch, ThumbBlPrefix, ThumbBlSuffix}
use Rattle.arm_core.specs.Registers.{RegisterState, register, next}
use Rattle.arm_core.specs.Conditions.{holds}
use Rattle.arm_core.specs.Shifter.{rotated_immediate}
use Rattle.arm_core.specs.Effects.{Meaning, without_access}
use Rattle.arm_core.specs.DataProcessing.{data_meaning, compare_meaning, move_meaning}
use Rattle.arm_core.specs.Multiplies.{multiply_meaning, long_multiply_meaning}
use Rattle.arm_core.specs.StatusRegisters.{mrs_meaning, msr_meaning}
use Rattle.arm_core.specs.Transfers.{transfer_meaning, half_transfer_meaning, literal_meaning}
use Rattle.arm_core.specs.Multiples.{multiple_meaning}
use Rattle.arm_core.specs.Doubles.{double_meaning}
use Rattle.arm_core.specs.Swaps.{swap_meaning}
use Rattle.arm_core.specs.Branches.{exchange_meaning, branch_meaning, distance, prefix_meaning, suffix_meaning, address_meaning}
use Rattle.arm_core.specs.Exceptions.{software_meaning}
use Rattle.arm_core.specs.Thumb.{equivalent}
use Rattle.arm_core.specs.Enhanced.{enhanced_meaning}
use Rattle.arm_core.specs.declared.classes.Class.TheVariants.{Nothing}

-- The meaning of every instruction.

-- when it takes effect (ARM manual, A3.2 "The condition field"); Thumb's have no condition, but for B
abbrev pub condition : Instr → Condition
condition (Bx cond rm) = cond
condition (BlxRegister cond rm) = cond
condition (Clz cond rd rm) = cond
condition (Saturating cond double subtract rd rm rn) = cond
condition (Smla cond x y rd rm rs rn) = cond
condition (Smlaw cond y rd rm rs rn) = cond
condition (Smulw cond y rd rm rs) = cond
condition (Smlal cond x y rd_lo rd_hi rm rs) = cond
condition (Smul cond x y rd rm rs) = cond
condition (Mul cond set_flags rd rm rs) = cond
condition (Mla cond set_flags rd rm rs rn) = cond
condition (LongMultiply cond signed accumulate set_flags rd_lo rd_hi rm rs) = cond
condition (Swap cond byte rd rm rn) = cond
condition (HalfTransfer cond op pre up write_back rn rd offset) = cond
condition (Mrs cond spsr rd) = cond
condition (Msr cond spsr fields rm) = cond
condition (MsrImmediate cond spsr fields rotate immed) = cond
condition (Compare cond op rn operand) = cond
condition (Move cond op set_flags rd operand) = cond
condition (Data cond op set_flags rn rd operand) = cond
condition (DoubleTransfer cond store pre up write_back rn rd offset) = cond
condition (Transfer cond pre up byte write_back load rn rd offset) = cond
condition (Multiple cond pre up user write_back load rn list) = cond
condition (Branch cond link offset) = cond
condition (Coprocessor cond load op1 crn rd cp op2 crm) = cond
condition (Swi cond immed) = cond
condition (ThumbBranchIf cond offset) = cond
condition _ = Al

-- an instruction that has no effect
abbrev pub skipped : RegisterState → Meaning
skipped s = without_access (next s) Nothing

-- what a branch or an exception does, and an instruction without effect; what ARMv5 adds stands apart
abbrev pub act_branch : Arch → ℕ → RegisterState → Instr → Meaning
act_branch arch base s (Bx cond rm) = exchange_meaning s rm
act_branch arch base s (Branch cond link offset) = branch_meaning s link (distance 24 4 offset)
act_branch arch base s (Swi cond immed) = software_meaning base s
act_branch arch base s (Never immed) = skipped s
act_branch arch base s (ThumbBranchIf cond offset) = branch_meaning s false (distance 8 2 offset)
act_branch arch base s (ThumbBranch offset) = branch_meaning s false (distance 11 2 offset)
act_branch arch base s (ThumbBlPrefix offset) = prefix_meaning s offset
act_branch arch base s (ThumbBlSuffix offset) = suffix_meaning s offset
act_branch arch base s instr = enhanced_meaning arch base s instr

-- what a multiply does too, or an access of a status register
abbrev pub act_multiply : Arch → ℕ → RegisterState → Instr → Meaning
act_multiply arch base s (Mul cond set_flags rd rm rs) = multiply_meaning s set_flags rd rm rs 0
act_multiply arch base s (Mla cond set_flags rd rm rs rn) = multiply_meaning s set_flags rd rm rs (register s rn)
act_multiply arch base s (LongMultiply cond signed accumulate set_flags rd_lo rd_hi rm rs) =
    long_multiply_meaning s signed accumulate set_flags rd_lo rd_hi rm rs
act_multiply arch base s (Mrs cond spsr rd) = mrs_meaning s spsr rd
act_multiply arch base s (Msr cond spsr fields rm) = msr_meaning arch s spsr fields (register s rm)
act_multiply arch base s (MsrImmediate cond spsr fields rotation immed) =
    msr_meaning arch s spsr fields (rotated_immediate rotation immed false).value
act_multiply arch base s instr = act_branch arch base s instr

-- what data processing does too
abbrev pub act_processing : Arch → ℕ → RegisterState → Instr → Meaning
act_processing arch base s (Data cond op set_flags rn rd operand) = data_meaning s op set_flags rn rd operand
act_processing arch base s (Compare cond op rn operand) = compare_meaning s op rn operand
act_processing arch base s (Move cond op set_flags rd operand) = move_meaning s op set_flags rd operand
act_processing arch base s (ThumbAddress stack rd immed) = address_meaning s rd immed
act_processing arch base s instr = act_multiply arch base s instr

-- what any instruction does where its condition holds, by its kind: a load, a store, a swap, or another
abbrev pub act : Arch → ℕ → RegisterState → Instr → Meaning
act arch base s (Transfer cond pre up byte write_back load rn rd offset) = transfer_meaning arch s pre up byte write_back load rn rd offset
act arch base s (HalfTransfer cond op pre up write_back rn rd offset) = half_transfer_meaning arch s op pre up write_back rn rd offset
act arch base s (DoubleTransfer cond store pre up write_back rn rd offset) = double_meaning s store pre up write_back rn rd offset
act arch base s (Multiple cond pre up user write_back load rn list) = multiple_meaning arch s pre up user write_back load rn list
act arch base s (Swap cond byte rd rm rn) = swap_meaning s byte rd rm rn
act arch base s (ThumbLoadLiteral rd immed) = literal_meaning arch s rd immed
act arch base s instr = act_processing arch base s instr

-- the meaning of an instruction on an architecture, with the base of the vectors, in a state of the registers
abbrev pub meaning : Arch → ℕ → RegisterState → Instr → Meaning
meaning arch base s instr = if holds (condition instr) s.cpsr then act arch base s (equivalent instr) else skipped s
