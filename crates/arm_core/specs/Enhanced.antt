use Rattle.std.specs.Prelude.{ℕ, ◌==◌, Bool, if◌then◌else◌, []}
use Rattle.std.specs.Int.{leading_zeros, w32}
use Rattle.ds_base.specs.declared.processors.Arch.{Arch}
use Rattle.arm_words.specs.declared.instructions.Instr.{Instr}
use Rattle.arm_words.specs.declared.instructions.Instr.TheVariants.{BlxRegister, Bkpt, Clz, Saturating, Smla, Smlaw, Smulw, Smlal, Smul, BlxTarget, Pld, Coprocessor, ThumbBlxSuffix}
use Rattle.arm_core.specs.Registers.{RegisterState, register, next, put}
use Rattle.arm_core.specs.Effects.{Meaning, without_access}
use Rattle.arm_core.specs.Exceptions.{breakpoint_meaning, entered, undefined_meaning}
use Rattle.arm_core.specs.HalfMultiplies.{accumulated_meaning, half_long_meaning, half_product, product_meaning, wide_product}
use Rattle.arm_core.specs.Links.{link_exchange_meaning, link_suffix_meaning, link_target_meaning}
use Rattle.arm_core.specs.Saturating.{saturating_meaning}
use Rattle.arm_core.specs.Undefined.{has_coprocessor}
use Rattle.arm_core.specs.declared.classes.Class.TheVariants as classes
use Rattle.arm_core.specs.declared.classes.Class.TheVariants.{Entry, Processing}
use Rattle.arm_core.specs.declared.exceptions.Exception.TheVariants.{UndefinedInstruction}

-- What ARMv5 has beside ARMv4, but for LDRD and STRD. ARMv4 has no word of these.

-- CLZ: the zeros above the highest bit of rm that is 1 (ARM manual, A4.1 "CLZ")
abbrev pub clz_meaning : RegisterState → ℕ → ℕ → Meaning
clz_meaning s rd rm =
    record { accesses = []; after = λ values. put rd (leading_zeros w32 (register s rm)) (next s); class = Processing; jumps = rd == 15 }

-- what the core does of a move to or from a coprocessor: it goes on, and what is moved is the coprocessor's; where the processor hasn't that
-- coprocessor, the word is undefined
abbrev pub coprocessor_meaning : Bool → ℕ → RegisterState → Meaning
coprocessor_meaning there base s =
    without_access (if there then next s else entered base UndefinedInstruction (next s).pc s) (if there then classes.Coprocessor else Entry)

-- what a branch, BKPT or PLD does, which makes no access (our choice), and a move to or from a coprocessor. Nothing else comes here
abbrev pub link_meaning : Arch → ℕ → RegisterState → Instr → Meaning
link_meaning arch base s (BlxRegister cond rm) = link_exchange_meaning s rm
link_meaning arch base s (BlxTarget half offset) = link_target_meaning s half offset
link_meaning arch base s (ThumbBlxSuffix offset) = link_suffix_meaning s offset
link_meaning arch base s (Bkpt immed) = breakpoint_meaning base s
link_meaning arch base s (Pld up rn offset) = without_access (next s) Processing
link_meaning arch base s (Coprocessor cond load op1 crn rd cp op2 crm) = coprocessor_meaning (has_coprocessor arch cp) base s
link_meaning arch base s instr = undefined_meaning base s

-- what arithmetic does too
abbrev pub enhanced_meaning : Arch → ℕ → RegisterState → Instr → Meaning
enhanced_meaning arch base s (Clz cond rd rm) = clz_meaning s rd rm
enhanced_meaning arch base s (Saturating cond double subtract rd rm rn) = saturating_meaning s double subtract rd rm rn
enhanced_meaning arch base s (Smul cond x y rd rm rs) = product_meaning s rd (half_product x y (register s rm) (register s rs))
enhanced_meaning arch base s (Smulw cond y rd rm rs) = product_meaning s rd (wide_product y (register s rm) (register s rs))
enhanced_meaning arch base s (Smla cond x y rd rm rs rn) = accumulated_meaning s rd (half_product x y (register s rm) (register s rs)) (register s rn)
enhanced_meaning arch base s (Smlaw cond y rd rm rs rn) = accumulated_meaning s rd (wide_product y (register s rm) (register s rs)) (register s rn)
enhanced_meaning arch base s (Smlal cond x y rd_lo rd_hi rm rs) = half_long_meaning s x y rd_lo rd_hi rm rs
enhanced_meaning arch base s instr = link_meaning arch base s instr
