use Rattle.arm_exec.proofs.Words.{ℕ, ◌%◌, ◌^◌, Bool, true, false, if◌then◌else◌, Option, Some, None, MemoryMachine, Performed, perform, Stop, Half}
use Rattle.arm_exec.proofs.Words.{Word, Arch, condition_of, Instr, Saturating, Smla, Smlaw, Coprocessor, ThumbAddress, distance, holds, Meaning}
use Rattle.arm_exec.proofs.Words.{Outcome, concluded, carried_out, enhanced_meaning, interrupt_meaning, undefined_meaning, act, act_multiply}
use Rattle.arm_exec.proofs.Words.{condition, meaning, skipped, RegisterState, is_thumb, register, Setting, enters, executed_unless, executed_word}
use Rattle.arm_exec.proofs.Words.{fetched, step_of, stop_of, equivalent, has_coprocessor, HasStatuses}
use Rattle.arm_words.specs.declared.instructions.Instr.TheVariants.{Bx, BlxRegister, Bkpt, Clz, Smulw, Smlal, Smul, Mul, Mla, LongMultiply, Swap, HalfTransfer, Mrs, Msr, MsrImmediate, Compare, Move, Data, DoubleTransfer, Transfer, Multiple, Branch, Swi, BlxTarget, Pld, Never, ThumbBlxSuffix, ThumbLoadLiteral, ThumbBranchIf, ThumbBranch, ThumbBlPrefix, ThumbBlSuffix}
use Rattle.arm_core.specs.Enhanced.{link_meaning}
use Rattle.arm_core.specs.HalfMultiplies.{half_product, wide_product}
use Rattle.arm_core.specs.Meanings.{act_branch, act_processing}
use Rattle.arm_core.specs.Shifter.{rotated_immediate}
use Rattle.arm_core.specs.Steps.{FetchOutcome, fetched_half, fetched_word}
use Rattle.arm_exec.proofs.StatusKinds.{Allows, AllowsSome, arm_allows, equivalent_allows, thumb_allows}
use Rattle.arm_exec.proofs.StatusMeanings.{Keeps, accumulated_keeps, address_keeps, branch_keeps, breakpoint_keeps, clz_keeps, compare_keeps, coprocessor_keeps, data_keeps, double_keeps, either, exchange_keeps, half_long_keeps, half_transfer_keeps, interrupt_keeps, link_exchange_keeps, link_suffix_keeps, link_target_keeps, literal_keeps, long_multiply_keeps, move_keeps, mrs_keeps, msr_keeps, multiple_keeps, multiply_keeps, prefix_keeps, product_keeps, saturating_keeps, skipped_keeps, software_keeps, suffix_keeps, swap_keeps, transfer_keeps, undefined_keeps}

-- Every step leaves numbers that status registers can have.

module _ (arch : Arch) (base : ℕ) (s : RegisterState) (h : HasStatuses arch s) where
  abbrev Does : Meaning → Type 0
  Does m = Keeps arch s h m

  link_does : (i : Instr) → Does (link_meaning arch base s i)
  link_does (BlxRegister cond rm) = link_exchange_keeps arch s h rm
  link_does (BlxTarget half offset) = link_target_keeps arch s h half offset
  link_does (ThumbBlxSuffix offset) = link_suffix_keeps arch s h offset
  link_does (Bkpt immed) = breakpoint_keeps arch s h base
  link_does (Pld up rn offset) = skipped_keeps arch s h
  link_does (Coprocessor cond load op1 crn rd cp op2 crm) = coprocessor_keeps arch s h (has_coprocessor arch cp) base
  link_does _ = undefined_keeps arch s h base

  enhanced_does : (i : Instr) → Allows arch i → Does (enhanced_meaning arch base s i)
  enhanced_does (Clz cond rd rm) a = clz_keeps arch s h rd rm
  enhanced_does (Saturating cond double subtract rd rm rn) a = saturating_keeps arch s h a double subtract rd rm rn
  enhanced_does (Smul cond x y rd rm rs) a = product_keeps arch s h rd (half_product x y (register s rm) (register s rs))
  enhanced_does (Smulw cond y rd rm rs) a = product_keeps arch s h rd (wide_product y (register s rm) (register s rs))
  enhanced_does (Smla cond x y rd rm rs rn) a =
      accumulated_keeps arch s h a rd (half_product x y (register s rm) (register s rs)) (register s rn)
  enhanced_does (Smlaw cond y rd rm rs rn) a = accumulated_keeps arch s h a rd (wide_product y (register s rm) (register s rs)) (register s rn)
  enhanced_does (Smlal cond x y rd_lo rd_hi rm rs) a = half_long_keeps arch s h x y rd_lo rd_hi rm rs
  enhanced_does i a = link_does i

  branch_does : (i : Instr) → Allows arch i → Does (act_branch arch base s i)
  branch_does (Bx cond rm) a = exchange_keeps arch s h rm
  branch_does (Branch cond link offset) a = branch_keeps arch s h link (distance 24 4 offset)
  branch_does (Swi cond immed) a = software_keeps arch s h base
  branch_does (Never immed) a = skipped_keeps arch s h
  branch_does (ThumbBranchIf cond offset) a = branch_keeps arch s h false (distance 8 2 offset)
  branch_does (ThumbBranch offset) a = branch_keeps arch s h false (distance 11 2 offset)
  branch_does (ThumbBlPrefix offset) a = prefix_keeps arch s h offset
  branch_does (ThumbBlSuffix offset) a = suffix_keeps arch s h offset
  branch_does i a = enhanced_does i a

  multiply_does : (i : Instr) → Allows arch i → Does (act_multiply arch base s i)
  multiply_does (Mul cond set_flags rd rm rs) a = multiply_keeps arch s h set_flags rd rm rs 0
  multiply_does (Mla cond set_flags rd rm rs rn) a = multiply_keeps arch s h set_flags rd rm rs (register s rn)
  multiply_does (LongMultiply cond signed accumulate set_flags rd_lo rd_hi rm rs) a =
      long_multiply_keeps arch s h signed accumulate set_flags rd_lo rd_hi rm rs
  multiply_does (Mrs cond spsr rd) a = mrs_keeps arch s h spsr rd
  multiply_does (Msr cond spsr fields rm) a = msr_keeps arch s h spsr fields (register s rm)
  multiply_does (MsrImmediate cond spsr fields rotation immed) a = msr_keeps arch s h spsr fields (rotated_immediate rotation immed false).value
  multiply_does i a = branch_does i a

  processing_does : (i : Instr) → Allows arch i → Does (act_processing arch base s i)
  processing_does (Data cond op set_flags rn rd operand) a = data_keeps arch s h op set_flags rn rd operand
  processing_does (Compare cond op rn operand) a = compare_keeps arch s h op rn operand
  processing_does (Move cond op set_flags rd operand) a = move_keeps arch s h op set_flags rd operand
  processing_does (ThumbAddress stack rd immed) a = address_keeps arch s h rd immed
  processing_does i a = multiply_does i a

  act_does : (i : Instr) → Allows arch i → Does (act arch base s i)
  act_does (Transfer cond pre up byte write_back load rn rd offset) a = transfer_keeps arch s h arch pre up byte write_back load rn rd offset
  act_does (HalfTransfer cond op pre up write_back rn rd offset) a = half_transfer_keeps arch s h arch op pre up write_back rn rd offset
  act_does (DoubleTransfer cond store pre up write_back rn rd offset) a = double_keeps arch s h store pre up write_back rn rd offset
  act_does (Multiple cond pre up user write_back load rn list) a = multiple_keeps arch s h arch pre up user write_back load rn list
  act_does (Swap cond byte rd rm rn) a = swap_keeps arch s h byte rd rm rn
  act_does (ThumbLoadLiteral rd immed) a = literal_keeps arch s h arch rd immed
  act_does i a = processing_does i a

  pub meaning_does : (i : Instr) → Allows arch i → Does (meaning arch base s i)
  meaning_does i a =
      either arch s h (holds (condition i) s.cpsr) (act arch base s (equivalent i)) (skipped s)
      (act_does (equivalent i) (equivalent_allows arch i a)) (skipped_keeps arch s h)

-- what is decoded of what is fetched
of_either : {S : Type 0} (arch : Arch) (b : Bool) (x y : FetchOutcome S) → AllowsSome arch x.instr → AllowsSome arch y.instr
    → AllowsSome arch (if b then x else y).instr
of_either arch true x y p q = p
of_either arch false x y p q = q

module _ {S : Type 0} (memory : MemoryMachine S) (setting : Setting) (s : RegisterState) (h : HasStatuses setting.arch s) where
  abbrev Has : Outcome S → Type 0
  Has o = HasStatuses setting.arch o.registers

  one_of : (b : Bool) (x y : Outcome S) → Has x → Has y → Has (if b then x else y)
  one_of true x y p q = p
  one_of false x y p q = q

  concluded_has : (m : Meaning) → Keeps setting.arch s h m → (done : Performed S) (stop : Option Stop) → Has (concluded setting.arch s m done stop)
  concluded_has m k done None = k done.values
  concluded_has m k done (Some stop) = h

  carried_has : (state : S) (m : Meaning) → Keeps setting.arch s h m → Has (carried_out memory setting.arch s state m)
  carried_has state m k = let done = perform memory state m.accesses in concluded_has m k done done.stop

  executed_has : (state : S) (i : Instr) → Allows setting.arch i → (stop : Option Stop) → Has (executed_unless memory setting s state i stop)
  executed_has state i a None = carried_has state (meaning setting.arch setting.base s i) (meaning_does setting.arch setting.base s h i a)
  executed_has state i a (Some stop) = h

  pub word_has : (state : S) (number : ℕ) (o : Option Instr) → AllowsSome setting.arch o → Has (executed_word memory setting s state number o)
  word_has state number None a =
      let m : Meaning = if holds (condition_of number) s.cpsr then undefined_meaning setting.base s else skipped s in
      carried_has state m
      (either setting.arch s h (holds (condition_of number) s.cpsr) (undefined_meaning setting.base s) (skipped s)
      (undefined_keeps setting.arch s h setting.base) (skipped_keeps setting.arch s h))
  word_has state number (Some i) a = executed_has state i a (stop_of setting s i)

  pub entry_has : (state : S) → Has (carried_out memory setting.arch s state (interrupt_meaning setting.base s))
  entry_has state = carried_has state (interrupt_meaning setting.base s) (interrupt_keeps setting.arch s h setting.base)

  pub fetched_allows : (state : S) → AllowsSome setting.arch (fetched memory setting.arch s state).instr
  fetched_allows state =
      of_either setting.arch (is_thumb s) (fetched_half memory setting.arch s state) (fetched_word memory setting.arch s state)
      (thumb_allows setting.arch (memory.fetch_value state s.pc Half % 2 ^ 16)) (arm_allows setting.arch (memory.fetch_value state s.pc Word))

  pub step_has : (line : Bool) (state : S) → Has (step_of memory setting line s state)
  step_has line state =
      let f = fetched memory setting.arch s state in
      one_of (enters line s) (carried_out memory setting.arch s state (interrupt_meaning setting.base s))
      (executed_word memory setting s f.state f.number f.instr)
      (entry_has state) (word_has f.state f.number f.instr (fetched_allows state))
