use Rattle.ds_machine.proofs.Words.{Access, Addressed, Arch, Bool, Byte, Clz, Compare, Coprocessor, Cost, Cp15State, Data, DoubleTransfer}
use Rattle.ds_machine.proofs.Words.{FetchOutcome, Half, HalfOp, HalfTransfer, Halted, Instr, Ldrh, Ldrsb, Ldrsh, Left, List, LongMultiply}
use Rattle.ds_machine.proofs.Words.{MachineState, Meaning, MemoryMachine, Mla, Move, Moved, Mrs, Msr, MsrImmediate, Mul, Never, Nine, NineReach, None}
use Rattle.ds_machine.proofs.Words.{Option, Outcome, Performed, Proc, RegisterState, Saturating, Setting, Seven, SideOf, Smla, Smlal, Smlaw, Smul}
use Rattle.ds_machine.proofs.Words.{Smulw, Some, Stop, Strh, Swap, Swi, ThumbAddress, ThumbBlPrefix, ThumbBlSuffix, ThumbBranch, ThumbBranchIf}
use Rattle.ds_machine.proofs.Words.{ThumbLoadLiteral, Tick, V4, V5, Word, [], act, act_branch, act_multiply, act_processing, addressed, arith, arm7}
use Rattle.ds_machine.proofs.Words.{arm9, carried_out, carried_over, concluded, condition, condition_of, cost_of, count_listed, count_ones}
use Rattle.ds_machine.proofs.Words.{decoded_arm, decoded_thumb, either, enhanced_meaning, enters, equivalent, executed_unless, executed_word, false}
use Rattle.ds_machine.proofs.Words.{fetched, fetched_half, fetched_word, flag, has_coprocessor, holds, if◌then◌else◌, in_ticks, interrupt_meaning}
use Rattle.ds_machine.proofs.Words.{is_thumb, line_of, link_meaning, listed_within, meaning, move_of, moved_if, next_fetch, nine_executed}
use Rattle.ds_machine.proofs.Words.{nine_memory, nine_most, nine_reach, nine_side, offset_value, outcome_of, perform, refl, register, register_moved}
use Rattle.ds_machine.proofs.Words.{seven_memory, seven_most, seven_reach, seven_side, short_offset_value, side_taken, side_waits, skipped, stop_of}
use Rattle.ds_machine.proofs.Words.{taken, true, undefined_meaning, waits_of_step, written_by, ℕ, ◌%◌, ◌/◌, ◌<◌, ◌==◌, ◌^◌, ◌∷◌, ◌≡◌, ◌≤◌}
use Rattle.arm_words.specs.declared.instructions.Instr.TheVariants.{Bx, BlxRegister, Transfer, Multiple, Branch, ThumbImmediate, ThumbData, ThumbHigh}
use Rattle.arm_words.specs.declared.instructions.Instr.TheVariants.{ThumbRegisterOffset, ThumbPushPop, ThumbMultiple}
use Rattle.arm_core.specs.Transfers.{half_or_signed_meaning, load_meaning, signed_byte, signed_half, signed_half_meaning, word_or_byte_meaning}
use Rattle.cp15_tcm.specs.Registers.{Cp15Register, write_answer}
use Rattle.arm_words.specs.ArmTable.{branch_rows, conditional_arm, coprocessor_rows, data_rows, double_rows, half_multiply_rows, half_product_rows, half_transfer_rows, immediate_status_rows, multiple_rows, multiply_rows, status_register_rows, top4, transfer_rows, unconditional_rows}
use Rattle.arm_words.specs.Rows.{InstructionRow, agrees, first, or_else}
use Rattle.arm_words.specs.ThumbTable.{thumb_branch_rows, thumb_literal_rows, thumb_multiple_rows, thumb_offset_rows, thumb_register_rows, thumb_stack_rows, thumb_sum_rows}
use Rattle.arm_words.specs.declared.operations.HighOp.{HighOp}
use Rattle.arm_words.specs.declared.operations.HighOp.TheVariants as high_ops
use Rattle.arm_words.specs.declared.operations.ThumbDataOp.{ThumbDataOp}
use Rattle.arm_words.specs.declared.operations.ThumbDataOp.TheVariants as data_ops
use Rattle.arm_words.specs.declared.operations.ThumbImmediateOp.{ThumbImmediateOp}
use Rattle.arm_words.specs.declared.operations.ThumbImmediateOp.TheVariants as immediate_ops
use Rattle.arm_words.specs.declared.operations.ThumbTransferOp.{ThumbTransferOp}
use Rattle.arm_words.specs.declared.operations.ThumbTransferOp.TheVariants as transfer_ops
use Rattle.arm_words.specs.declared.parts.Operand.{Operand}
use Rattle.arm_words.specs.declared.parts.Operand.TheVariants.{ShiftedByRegister}
use Rattle.arm_core.specs.Costs.{HasClocks, clocks, jump_clocks}
use Rattle.arm_core.specs.DataProcessing.{operand_class}
use Rattle.arm_core.specs.Thumb.{address_instr, high_instr, immediate_instr, offset_instr, register_instr, stack_instr}
use Rattle.arm_core.specs.declared.classes.Class.{Class}
use Rattle.arm_core.specs.declared.classes.Class.TheVariants as classes
use Rattle.arm_core.specs.declared.outcomes.Stepped as arm
use Rattle.cp15_tcm.specs.declared.answers.Mcr.{Mcr}
use Rattle.cp15_tcm.specs.declared.answers.Mcr.TheVariants as mcr
use Rattle.ds_machine.proofs.WaitedSteps.{word_brief}

-- A step of a processor costs few ticks.

-- ---- an instruction that is fetched lists sixteen registers at most

abbrev IsListed : Instr → Type 0
IsListed (Multiple cond pre up user write_back load rn list) = list < 2 ^ 16
IsListed (ThumbPushPop load extra list) = list < 2 ^ 8
IsListed (ThumbMultiple load rn list) = list < 2 ^ 8
IsListed _ = Unit {0}

abbrev AreListed : Option Instr → Type 0
AreListed None = Unit {0}
AreListed (Some instr) = IsListed instr

abbrev EachListed : List InstructionRow → ℕ → Type 0
EachListed [] word = Unit {0}
EachListed (r ∷ rs) word = IsListed (r.instr word) × EachListed rs word

first_listed : (rows : List InstructionRow) (arch : Arch) (word : ℕ) → EachListed rows word → AreListed (first rows arch word)
first_listed [] arch word h = tt
first_listed (r ∷ rs) arch word h = either AreListed (agrees r arch word) (Some (r.instr word)) (first rs arch word) h.0 (first_listed rs arch word h.1)

or_listed : (one other : Option Instr) → AreListed one → AreListed other → AreListed (or_else one other)
or_listed None other h k = k
or_listed (Some instr) other h k = h

word_listed : (arch : Arch) (w : ℕ) → AreListed (decoded_arm arch w)
word_listed arch w =
    let small : w / 2 ^ 0 % 2 ^ 16 < 2 ^ 16 = omega arith in
    either AreListed (top4 w == 15) (first unconditional_rows arch w) (conditional_arm arch w)
    (first_listed unconditional_rows arch w (tt, (tt, (tt, tt))))
    (or_listed (first branch_rows arch w) _ (first_listed branch_rows arch w (tt, (tt, (tt, (tt, (tt, tt))))))
    (or_listed (first half_multiply_rows arch w) _ (first_listed half_multiply_rows arch w (tt, (tt, (tt, tt))))
    (or_listed (first half_product_rows arch w) _ (first_listed half_product_rows arch w (tt, (tt, tt)))
    (or_listed (first multiply_rows arch w) _ (first_listed multiply_rows arch w (tt, (tt, (tt, tt))))
    (or_listed (first half_transfer_rows arch w) _ (first_listed half_transfer_rows arch w (tt, (tt, tt)))
    (or_listed (first status_register_rows arch w) _ (first_listed status_register_rows arch w (tt, (tt, tt)))
    (or_listed (first immediate_status_rows arch w) _ (first_listed immediate_status_rows arch w (tt, tt))
    (or_listed (first data_rows arch w) _ (first_listed data_rows arch w (tt, (tt, (tt, tt))))
    (or_listed (first double_rows arch w) _ (first_listed double_rows arch w (tt, tt))
    (or_listed (first transfer_rows arch w) _ (first_listed transfer_rows arch w (tt, tt))
    (or_listed (first multiple_rows arch w) _ (first_listed multiple_rows arch w (small, (tt, tt)))
    (first_listed coprocessor_rows arch w (tt, (tt, tt))))))))))))))

half_listed : (arch : Arch) (h : ℕ) → AreListed (decoded_thumb arch h)
half_listed arch h =
    let small : h / 2 ^ 0 % 2 ^ 8 < 2 ^ 8 = omega arith in
    or_listed (first thumb_sum_rows arch h) _ (first_listed thumb_sum_rows arch h (tt, (tt, (tt, tt))))
    (or_listed (first thumb_register_rows arch h) _ (first_listed thumb_register_rows arch h (tt, (tt, (tt, (tt, tt)))))
    (or_listed (first thumb_literal_rows arch h) _ (first_listed thumb_literal_rows arch h (tt, (tt, tt)))
    (or_listed (first thumb_offset_rows arch h) _ (first_listed thumb_offset_rows arch h (tt, (tt, (tt, tt))))
    (or_listed (first thumb_stack_rows arch h) _ (first_listed thumb_stack_rows arch h (tt, (tt, (small, (tt, tt)))))
    (or_listed (first thumb_multiple_rows arch h) _ (first_listed thumb_multiple_rows arch h (small, (tt, (tt, tt))))
    (first_listed thumb_branch_rows arch h (tt, (tt, (tt, (tt, tt))))))))))

fetched_listed : {S : Type 0} (memory : MemoryMachine S) (arch : Arch) (s : RegisterState) (state : S) → AreListed (fetched memory arch s state).instr
fetched_listed {S} memory arch s state =
    either (λ (f : FetchOutcome S). AreListed f.instr) (is_thumb s) (fetched_half memory arch s state) (fetched_word memory arch s state)
    (half_listed arch (memory.fetch_value state s.pc Half % 2 ^ 16)) (word_listed arch (memory.fetch_value state s.pc Word))

-- ---- and so does the ARM instruction of a Thumb one

immediate_listed : (op : ThumbImmediateOp) (rd immed : ℕ) → IsListed (immediate_instr op rd immed)
immediate_listed immediate_ops.Mov rd immed = tt
immediate_listed _ rd immed = tt

register_listed : (op : ThumbDataOp) (rm rd : ℕ) → IsListed (register_instr op rm rd)
register_listed data_ops.And rm rd = tt
register_listed _ rm rd = tt

high_listed : (op : HighOp) (rm rd : ℕ) → IsListed (high_instr op rm rd)
high_listed high_ops.Add rm rd = tt
high_listed _ rm rd = tt

offset_listed : (op : ThumbTransferOp) (rm rn rd : ℕ) → IsListed (offset_instr op rm rn rd)
offset_listed transfer_ops.Str rm rn rd = tt
offset_listed _ rm rn rd = tt

address_listed : (stack : Bool) (rd immed : ℕ) → IsListed (address_instr stack rd immed)
address_listed true rd immed = tt
address_listed false rd immed = tt

flag_small : (place : ℕ) (b : Bool) → flag place b ≤ 2 ^ place
flag_small place true = omega arith
flag_small place false = omega arith

stack_listed : (load extra : Bool) (list : ℕ) → list < 2 ^ 8 → IsListed (stack_instr load extra list)
stack_listed false extra list h = let k = flag_small 14 extra in omega (arith, h, k)
stack_listed true extra list h = let k = flag_small 15 extra in omega (arith, h, k)

equivalent_listed : (i : Instr) → IsListed i → IsListed (equivalent i)
equivalent_listed (ThumbImmediate op rd immed) h = immediate_listed op rd immed
equivalent_listed (ThumbData op rm rd) h = register_listed op rm rd
equivalent_listed (ThumbHigh op rm rd) h = high_listed op rm rd
equivalent_listed (ThumbAddress stack rd immed) h = address_listed stack rd immed
equivalent_listed (ThumbRegisterOffset op rm rn rd) h = offset_listed op rm rn rd
equivalent_listed (ThumbPushPop load extra list) h = stack_listed load extra list h
equivalent_listed (ThumbMultiple load rn list) h = omega (arith, h)
equivalent_listed i h = h

-- ---- its class has few clocks

abbrev IsClassed : Meaning → Type 0
IsClassed m = HasClocks m.class

few_ones : (list : ℕ) → list < 2 ^ 16 → count_ones list ≤ 16
few_ones list h = let all = count_listed list h in let most = listed_within 16 0 list in omega (arith, all, most)

operand_classed : (operand : Operand) → HasClocks (operand_class operand)
operand_classed (ShiftedByRegister rm shift rs) = tt
operand_classed _ = tt

one_classed : (b : Bool) (x y : Class) → HasClocks x → HasClocks y → HasClocks (if b then x else y)
one_classed true x y h k = h
one_classed false x y h k = k

module _ (arch : Arch) (s : RegisterState) where
  word_or_byte_classed : (load byte : Bool) (rn rd : ℕ) (to : Addressed) → IsClassed (word_or_byte_meaning arch s load byte rn rd to)
  word_or_byte_classed true true rn rd to = tt
  word_or_byte_classed true false rn rd to = tt
  word_or_byte_classed false true rn rd to = tt
  word_or_byte_classed false false rn rd to = tt

signed_half_classed : (arch : Arch) (s : RegisterState) (rn rd : ℕ) (to : Addressed) → IsClassed (signed_half_meaning arch s rn rd to)
signed_half_classed V5 s rn rd to = tt
signed_half_classed V4 s rn rd to =
    either IsClassed (to.address % 2 == 0) (load_meaning s rn rd to Half signed_half) (load_meaning s rn rd to Byte signed_byte) tt tt

half_or_signed_classed : (arch : Arch) (s : RegisterState) (op : HalfOp) (rn rd : ℕ) (to : Addressed) → IsClassed (half_or_signed_meaning arch s op rn rd to)
half_or_signed_classed arch s Strh rn rd to = tt
half_or_signed_classed arch s Ldrh rn rd to = tt
half_or_signed_classed arch s Ldrsb rn rd to = tt
half_or_signed_classed arch s Ldrsh rn rd to = signed_half_classed arch s rn rd to

module _ (arch : Arch) (base : ℕ) (s : RegisterState) where
  link_classed : (i : Instr) → IsClassed (link_meaning arch base s i)
  link_classed (Coprocessor cond load op1 crn rd cp op2 crm) = one_classed (has_coprocessor arch cp) classes.Coprocessor classes.Entry tt tt
  link_classed (BlxRegister cond rm) = tt
  link_classed _ = tt

  enhanced_classed : (i : Instr) → IsClassed (enhanced_meaning arch base s i)
  enhanced_classed (Clz cond rd rm) = tt
  enhanced_classed (Saturating cond double subtract rd rm rn) = tt
  enhanced_classed (Smul cond x y rd rm rs) = tt
  enhanced_classed (Smulw cond y rd rm rs) = tt
  enhanced_classed (Smla cond x y rd rm rs rn) = tt
  enhanced_classed (Smlaw cond y rd rm rs rn) = tt
  enhanced_classed (Smlal cond x y rd_lo rd_hi rm rs) = tt
  enhanced_classed i = link_classed i

  branch_classed : (i : Instr) → IsClassed (act_branch arch base s i)
  branch_classed (Bx cond rm) = tt
  branch_classed (Branch cond link offset) = tt
  branch_classed (Swi cond immed) = tt
  branch_classed (Never immed) = tt
  branch_classed (ThumbBranchIf cond offset) = tt
  branch_classed (ThumbBranch offset) = tt
  branch_classed (ThumbBlPrefix offset) = tt
  branch_classed (ThumbBlSuffix offset) = tt
  branch_classed i = enhanced_classed i

  multiply_classed : (i : Instr) → IsClassed (act_multiply arch base s i)
  multiply_classed (Mul cond set_flags rd rm rs) = tt
  multiply_classed (Mla cond set_flags rd rm rs rn) = tt
  multiply_classed (LongMultiply cond signed accumulate set_flags rd_lo rd_hi rm rs) = tt
  multiply_classed (Mrs cond spsr rd) = tt
  multiply_classed (Msr cond spsr fields rm) = tt
  multiply_classed (MsrImmediate cond spsr fields rotation immed) = tt
  multiply_classed i = branch_classed i

  processing_classed : (i : Instr) → IsClassed (act_processing arch base s i)
  processing_classed (Data cond op set_flags rn rd operand) = operand_classed operand
  processing_classed (Compare cond op rn operand) = operand_classed operand
  processing_classed (Move cond op set_flags rd operand) = operand_classed operand
  processing_classed (ThumbAddress stack rd immed) = tt
  processing_classed i = multiply_classed i

  act_classed : (i : Instr) → IsListed i → IsClassed (act arch base s i)
  act_classed (Transfer cond pre up byte write_back load rn rd offset) h =
      word_or_byte_classed arch s load byte rn rd (addressed s pre up write_back rn (offset_value s offset))
  act_classed (HalfTransfer cond op pre up write_back rn rd offset) h =
      half_or_signed_classed arch s op rn rd (addressed s pre up write_back rn (short_offset_value s offset))
  act_classed (DoubleTransfer cond true pre up write_back rn rd offset) h = omega arith
  act_classed (DoubleTransfer cond false pre up write_back rn rd offset) h = omega arith
  act_classed (Multiple cond pre up user write_back true rn list) h = few_ones list h
  act_classed (Multiple cond pre up user write_back false rn list) h = few_ones list h
  act_classed (Swap cond true rd rm rn) h = tt
  act_classed (Swap cond false rd rm rn) h = tt
  act_classed (ThumbLoadLiteral rd immed) h = tt
  act_classed i h = processing_classed i

  meaning_classed : (i : Instr) → IsListed i → IsClassed (meaning arch base s i)
  meaning_classed i h =
      either IsClassed (holds (condition i) s.cpsr) (act arch base s (equivalent i)) (skipped s) (act_classed (equivalent i) (equivalent_listed i h)) tt

few_clocks : (class : Class) (arch : Arch) → HasClocks class → clocks class arch ≤ 20
few_clocks (classes.LoadMultiple n) V4 h = omega (arith, h)
few_clocks (classes.LoadMultiple n) V5 h = omega (arith, h)
few_clocks (classes.StoreMultiple n) V4 h = omega (arith, h)
few_clocks (classes.StoreMultiple n) V5 h = omega (arith, h)
few_clocks classes.Processing V4 h = omega arith
few_clocks classes.Processing V5 h = omega arith
few_clocks classes.ShiftByRegister V4 h = omega arith
few_clocks classes.ShiftByRegister V5 h = omega arith
few_clocks classes.Multiply V4 h = omega arith
few_clocks classes.Multiply V5 h = omega arith
few_clocks classes.LongMultiply V4 h = omega arith
few_clocks classes.LongMultiply V5 h = omega arith
few_clocks classes.Load V4 h = omega arith
few_clocks classes.Load V5 h = omega arith
few_clocks classes.Store V4 h = omega arith
few_clocks classes.Store V5 h = omega arith
few_clocks classes.Branch V4 h = omega arith
few_clocks classes.Branch V5 h = omega arith
few_clocks classes.Swap V4 h = omega arith
few_clocks classes.Swap V5 h = omega arith
few_clocks classes.Coprocessor V4 h = omega arith
few_clocks classes.Coprocessor V5 h = omega arith
few_clocks classes.Entry V4 h = omega arith
few_clocks classes.Entry V5 h = omega arith
few_clocks classes.Nothing V4 h = omega arith
few_clocks classes.Nothing V5 h = omega arith

jumps_few : (jumps : Bool) → (if jumps then jump_clocks else 0) ≤ 2
jumps_few true = omega arith
jumps_few false = omega arith

few_cost : (arch : Arch) (m : Meaning) → IsClassed m → cost_of arch m ≤ 22
few_cost arch m h = let k = few_clocks m.class arch h in let j = jumps_few m.jumps in omega (arith, k, j)

-- ---- a step

abbrev pub CostsAtMost : ℕ → arm.Stepped → Type 0
CostsAtMost most (Cost clocks) = clocks ≤ most
CostsAtMost most (Halted clocks) = clocks ≤ most
CostsAtMost most (Left stop) = Unit {0}

module _ {S : Type 0} (memory : MemoryMachine S) (setting : Setting) (s : RegisterState) where
  concluded_few : (m : Meaning) (done : Performed S) (stop : Option Stop) → IsClassed m → CostsAtMost 22 (concluded setting.arch s m done stop).stepped
  concluded_few m done None h = few_cost setting.arch m h
  concluded_few m done (Some stop) h = tt

  carried_few : (state : S) (m : Meaning) → IsClassed m → CostsAtMost 22 (carried_out memory setting.arch s state m).stepped
  carried_few state m h = let done = perform memory state m.accesses in concluded_few m done done.stop h

  unless_few : (state : S) (instr : Instr) (stop : Option Stop) → IsListed instr → CostsAtMost 22 (executed_unless memory setting s state instr stop).stepped
  unless_few state instr None h = carried_few state (meaning setting.arch setting.base s instr) (meaning_classed setting.arch setting.base s instr h)
  unless_few state instr (Some stop) h = tt

  word_few : (state : S) (number : ℕ) (instr : Option Instr) → AreListed instr → CostsAtMost 22 (executed_word memory setting s state number instr).stepped
  word_few state number None h =
      carried_few state (if holds (condition_of number) s.cpsr then undefined_meaning setting.base s else skipped s)
      (either IsClassed (holds (condition_of number) s.cpsr) (undefined_meaning setting.base s) (skipped s) tt tt)
  word_few state number (Some instr) h = unless_few state instr (stop_of setting s instr) h

module _ (s : RegisterState) (cp : Cp15State) where
  written_few : (r : Cp15Register) (value : ℕ) (answer : Mcr) → CostsAtMost 22 (written_by s cp r value answer).stepped
  written_few r value mcr.Kept = omega arith
  written_few r value mcr.Halt = omega arith
  written_few r value (mcr.Left stop) = tt

  over_few : (m : Moved) (load : Bool) → m.load ≡ load → CostsAtMost 22 (carried_over s cp m).stepped
  over_few m true h = rw h (omega arith)
  over_few m false h = let r = register_moved m in let value = register s m.rd in rw h (written_few r value (write_answer r value))

  moved_few : (m : Moved) (does : Bool) → holds m.cond s.cpsr ≡ does → CostsAtMost 22 (moved_if s cp m).stepped
  moved_few m true h = rw h (over_few m m.load refl)
  moved_few m false h = rw h (few_cost V5 (skipped s) tt)

nine_few : (s : RegisterState) (r : NineReach) (number : ℕ) (instr : Option Instr) (move : Option Moved) → AreListed instr
    → CostsAtMost 22 (nine_executed s r number instr move).stepped
nine_few s r number instr None h = word_few nine_memory (arm9 r.cp15) s r number instr h
nine_few s r number instr (Some move) h = moved_few s r.cp15 move (holds move.cond s.cpsr) refl

module _ {S : Type 0} (memory : MemoryMachine S) (side : SideOf S) where
  taken_few : ((s : RegisterState) (state : S) (number : ℕ) (instr : Option Instr) → AreListed instr → CostsAtMost 22 (side.step.executed s state number instr).stepped)
      → (line : Bool) (s : RegisterState) (state : S) → CostsAtMost 22 (side_taken memory side line s state).stepped
  unfolding taken
  taken_few executed line s state =
      let setting : Setting = record { arch = side.step.arch; base = side.step.base state; in_rom = false } in
      let f = fetched memory side.step.arch s state in
      either (λ (o : Outcome S). CostsAtMost 22 o.stepped) (enters line s) (carried_out memory side.step.arch s state (interrupt_meaning (side.step.base state) s))
      (side.step.executed s state f.number f.instr) (carried_few memory setting s state (interrupt_meaning (side.step.base state) s) tt)
      (executed s state f.number f.instr (fetched_listed memory side.step.arch s state))

  waits_few : ((state : S) (access : Access) → side.step.wait state access ≤ 8) → (line : Bool) (s : RegisterState) (state : S) → side_waits memory side line s state ≤ 136
  unfolding waits_of_step
  waits_few most line s state =
      let fetch = most state (next_fetch s) in
      let few = word_brief memory side.step.wait most side.step.arch (side.step.base state) s state (fetched memory side.step.arch s state).instr in
      either (λ (n : ℕ). n ≤ 136) (enters line s) 0 _ (omega arith) (omega (arith, fetch, few))

-- a clock is two ticks at most
ticks_few : (proc : Proc) (waits : ℕ) (came : arm.Stepped) → waits ≤ 136 → CostsAtMost 22 came → CostsAtMost 180 (in_ticks proc waits came)
ticks_few Nine waits (Cost clocks) w h = omega (arith, w, h)
ticks_few Seven waits (Cost clocks) w h = omega (arith, w, h)
ticks_few Nine waits (Halted clocks) w h = omega (arith, w, h)
ticks_few Seven waits (Halted clocks) w h = omega (arith, w, h)
ticks_few proc waits (Left stop) w h = tt

pub step_costs_few : (proc : Proc) (now : Tick) (s : MachineState) → CostsAtMost 180 (outcome_of proc now s).stepped
step_costs_few Nine now s =
    let line = line_of s Nine in
    let old = s.nine.processor.registers in
    let r = nine_reach now s in
    ticks_few Nine (side_waits nine_memory nine_side line old r) (side_taken nine_memory nine_side line old r).stepped
    (waits_few nine_memory nine_side nine_most line old r)
    (taken_few nine_memory nine_side (λ old r number instr h. nine_few old r number instr (move_of instr) h) line old r)
step_costs_few Seven now s =
    let line = line_of s Seven in
    let old = s.seven.processor.registers in
    let r = seven_reach now s in
    ticks_few Seven (side_waits seven_memory seven_side line old r) (side_taken seven_memory seven_side line old r).stepped
    (waits_few seven_memory seven_side seven_most line old r)
    (taken_few seven_memory seven_side (λ old r number instr h. word_few seven_memory arm7 old r number instr h) line old r)
