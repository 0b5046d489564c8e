use Rattle.ds_machine.proofs.Words.{Addressed, Arch, Bool, Byte, Clz, Compare, Coprocessor, Data, DataAccess, DoubleTransfer, Half, HalfOp}
use Rattle.ds_machine.proofs.Words.{HalfOrSigned, HalfTransfer, Instr, InstructionsAreShort, Ldrh, Ldrsb, Ldrsh, List, LongMultiply, Meaning, Mla}
use Rattle.ds_machine.proofs.Words.{Move, Mrs, Msr, MsrImmediate, Mul, Never, None, Op, Operation, Option, RegisterState, Saturating, Smla, Smlal}
use Rattle.ds_machine.proofs.Words.{Smlaw, Smul, Smulw, Some, Strh, Swap, Swi, ThumbAddress, ThumbBlPrefix, ThumbBlSuffix, ThumbBranch, ThumbBranchIf}
use Rattle.ds_machine.proofs.Words.{ThumbLoadLiteral, TransferOp, V4, V5, WordOrByte, [], access_of, act, act_branch, act_multiply, act_processing}
use Rattle.ds_machine.proofs.Words.{addressed, ap, arith, computed, condition, enhanced_meaning, equivalent, false, holds, if◌then◌else◌, length}
use Rattle.ds_machine.proofs.Words.{length-map, link_meaning, list_bytes, listed_registers, listed_within, lowest, map, meaning_by, moved_base, not}
use Rattle.ds_machine.proofs.Words.{offset_value, op_meaning, operation_meaning, refl, register, short_offset_value, single_transfer_meaning, skipped}
use Rattle.ds_machine.proofs.Words.{suc, true, ℕ, ◌%◌, ◌&&◌, ◌+◌, ◌==◌, ◌^◌, ◌∷◌, ◌≡◌, ◌≤◌}
use Rattle.arm_words.specs.declared.instructions.Instr.TheVariants.{Bx, BlxRegister, Bkpt, Transfer, Multiple, Branch, BlxTarget, Pld, ThumbBlxSuffix}
use Rattle.arm_core.specs.Multiples.{multiple_meaning, reached_bank, reads, stored_value, stores_new_base, transferred, writes}
use Rattle.arm_core.specs.Transfers.{half_or_signed_meaning, load_meaning, signed_byte, signed_half, signed_half_meaning, word_or_byte_meaning}
use Rattle.arm_core.specs.Doubles.{double_at}
use Rattle.arm_core.specs.Swaps.{swap_meaning}
use Rattle.arm_ops.specs.declared.operations.Op.TheVariants as ops

-- An instruction makes sixteen accesses at most: a list names sixteen registers, and all others make two at most. So it is of operations.

abbrev IsShort : Meaning → Type 0
IsShort m = length m.accesses ≤ 16

none : 0 ≤ 16
none = omega arith

one : 1 ≤ 16
one = omega arith

two : 2 ≤ 16
two = omega arith

either : (b : Bool) (m k : Meaning) → IsShort m → IsShort k → IsShort (if b then m else k)
either true m k p q = p
either false m k p q = q

-- ---- lists of registers

as_many_reads : (at : ℕ) (rs : List ℕ) → length (reads at rs) ≡ length rs
as_many_reads at [] = refl
as_many_reads at (r ∷ rs) = ap (λ (n : ℕ). suc n) (as_many_reads ((at + 4) % 2 ^ 32) rs)

as_many_writes : (at : ℕ) (values : List ℕ) → length (writes at values) ≡ length values
as_many_writes at [] = refl
as_many_writes at (value ∷ values) = ap (λ (n : ℕ). suc n) (as_many_writes ((at + 4) % 2 ^ 32) values)

module _ (arch : Arch) (s : RegisterState) where
  multiple_short : (pre up user write_back load : Bool) (rn list : ℕ) → IsShort (multiple_meaning arch s pre up user write_back load rn list)
  multiple_short pre up user write_back true rn list =
      let rs = listed_registers (transferred arch list) in
      omega (arith, as_many_reads (lowest pre up (register s rn) (list_bytes list)) rs, listed_within 16 0 (transferred arch list))
  multiple_short pre up user write_back false rn list =
      let rs = listed_registers (transferred arch list) in
      let value = stored_value s (reached_bank s user) rn (write_back && not (rn == 15) && stores_new_base arch rn list) (moved_base up (register s rn) (list_bytes list)) in
      omega (
        arith,
        as_many_writes (lowest pre up (register s rn) (list_bytes list)) (map value rs),
        length-map rs value,
        listed_within 16 0 (transferred arch list),
      )

  -- ---- one access, or two

  word_or_byte_short : (load byte : Bool) (rn rd : ℕ) (to : Addressed) → IsShort (word_or_byte_meaning arch s load byte rn rd to)
  word_or_byte_short true true rn rd to = one
  word_or_byte_short true false rn rd to = one
  word_or_byte_short false true rn rd to = one
  word_or_byte_short false false rn rd to = one

  double_short : (store : Bool) (rn rd : ℕ) (to : Addressed) → IsShort (double_at s store rn rd to)
  double_short true rn rd to = two
  double_short false rn rd to = two

  swap_short : (byte : Bool) (rd rm rn : ℕ) → IsShort (swap_meaning s byte rd rm rn)
  swap_short true rd rm rn = two
  swap_short false rd rm rn = two

signed_half_short : (arch : Arch) (s : RegisterState) (rn rd : ℕ) (to : Addressed) → IsShort (signed_half_meaning arch s rn rd to)
signed_half_short V5 s rn rd to = one
signed_half_short V4 s rn rd to = either (to.address % 2 == 0) (load_meaning s rn rd to Half signed_half) (load_meaning s rn rd to Byte signed_byte) one one

half_or_signed_short : (arch : Arch) (s : RegisterState) (op : HalfOp) (rn rd : ℕ) (to : Addressed) → IsShort (half_or_signed_meaning arch s op rn rd to)
half_or_signed_short arch s Strh rn rd to = one
half_or_signed_short arch s Ldrh rn rd to = one
half_or_signed_short arch s Ldrsb rn rd to = one
half_or_signed_short arch s Ldrsh rn rd to = signed_half_short arch s rn rd to

-- ---- every instruction

module _ (arch : Arch) (base : ℕ) (s : RegisterState) where
  link_short : (i : Instr) → IsShort (link_meaning arch base s i)
  link_short (BlxRegister cond rm) = none
  link_short (BlxTarget half offset) = none
  link_short (ThumbBlxSuffix offset) = none
  link_short (Bkpt immed) = none
  link_short (Pld up rn offset) = none
  link_short (Coprocessor cond load op1 crn rd cp op2 crm) = none
  link_short _ = none

  enhanced_short : (i : Instr) → IsShort (enhanced_meaning arch base s i)
  enhanced_short (Clz cond rd rm) = none
  enhanced_short (Saturating cond double subtract rd rm rn) = none
  enhanced_short (Smul cond x y rd rm rs) = none
  enhanced_short (Smulw cond y rd rm rs) = none
  enhanced_short (Smla cond x y rd rm rs rn) = none
  enhanced_short (Smlaw cond y rd rm rs rn) = none
  enhanced_short (Smlal cond x y rd_lo rd_hi rm rs) = none
  enhanced_short i = link_short i

  branch_short : (i : Instr) → IsShort (act_branch arch base s i)
  branch_short (Bx cond rm) = none
  branch_short (Branch cond link offset) = none
  branch_short (Swi cond immed) = none
  branch_short (Never immed) = none
  branch_short (ThumbBranchIf cond offset) = none
  branch_short (ThumbBranch offset) = none
  branch_short (ThumbBlPrefix offset) = none
  branch_short (ThumbBlSuffix offset) = none
  branch_short i = enhanced_short i

  multiply_short : (i : Instr) → IsShort (act_multiply arch base s i)
  multiply_short (Mul cond set_flags rd rm rs) = none
  multiply_short (Mla cond set_flags rd rm rs rn) = none
  multiply_short (LongMultiply cond signed accumulate set_flags rd_lo rd_hi rm rs) = none
  multiply_short (Mrs cond spsr rd) = none
  multiply_short (Msr cond spsr fields rm) = none
  multiply_short (MsrImmediate cond spsr fields rotation immed) = none
  multiply_short i = branch_short i

  processing_short : (i : Instr) → IsShort (act_processing arch base s i)
  processing_short (Data cond op set_flags rn rd operand) = none
  processing_short (Compare cond op rn operand) = none
  processing_short (Move cond op set_flags rd operand) = none
  processing_short (ThumbAddress stack rd immed) = none
  processing_short i = multiply_short i

  act_short : (i : Instr) → IsShort (act arch base s i)
  act_short (Transfer cond pre up byte write_back load rn rd offset) =
      word_or_byte_short arch s load byte rn rd (addressed s pre up write_back rn (offset_value s offset))
  act_short (HalfTransfer cond op pre up write_back rn rd offset) =
      half_or_signed_short arch s op rn rd (addressed s pre up write_back rn (short_offset_value s offset))
  act_short (DoubleTransfer cond store pre up write_back rn rd offset) =
      double_short arch s store rn rd (addressed s pre up write_back rn (short_offset_value s offset))
  act_short (Multiple cond pre up user write_back load rn list) = multiple_short arch s pre up user write_back load rn list
  act_short (Swap cond byte rd rm rn) = swap_short arch s byte rd rm rn
  act_short (ThumbLoadLiteral rd immed) = one
  act_short i = processing_short i

pub instructions_are_short : InstructionsAreShort
instructions_are_short arch base s instr =
    either (holds (condition instr) s.cpsr) (act arch base s (equivalent instr)) (skipped s) (act_short arch base s (equivalent instr)) none

-- ---- every operation

module _ (arch : Arch) (s : RegisterState) where
  computed_short : (op : Op) → IsShort (computed arch s op)
  computed_short (ops.Plain instr) = processing_short arch 0 s instr
  computed_short (ops.Multiple it) = multiple_short arch s it.pre it.up false it.write_back it.load it.rn it.list
  computed_short _ = none

  transfer_short : (op : TransferOp) (rn rd : ℕ) (to : Addressed) → IsShort (single_transfer_meaning arch s op rn rd to)
  transfer_short (WordOrByte load byte) rn rd to = word_or_byte_short arch s load byte rn rd to
  transfer_short (HalfOrSigned op) rn rd to = half_or_signed_short arch s op rn rd to

  op_short : (op : Op) (access : Option DataAccess) → IsShort (meaning_by arch s op access)
  op_short op None = computed_short op
  op_short op (Some it) = transfer_short it.op it.rn it.rd it.to

  pub operations_are_short : (operation : Operation) → length (operation_meaning arch s operation).accesses ≤ 16
  operations_are_short operation =
      either (holds operation.cond s.cpsr) (op_meaning arch s operation.op) (skipped s) (op_short operation.op (access_of s operation.op)) none
