-- What is read of the statement of a word is its instruction.
use Rattle.asm_text.proofs.Words.{ℕ, ◌≡◌, ◌<◌, ◌^◌, true, canonical_form, HasFields, spelled, Instr, Bx, BlxRegister, Bkpt, Clz, Saturating, Smla}
use Rattle.asm_text.proofs.Words.{Smlaw, Smulw, Smlal, Smul, Mul, Mla, LongMultiply, Swap, HalfTransfer, Mrs, Msr, MsrImmediate, Compare, Move, Data}
use Rattle.asm_text.proofs.Words.{DoubleTransfer, Transfer, Multiple, Branch, Coprocessor, Swi, BlxTarget, Pld, Word}
use Rattle.asm_text.proofs.ArmRows.{IsRead, bx_read, blx_register_read, bkpt_read, clz_read, saturating_read, smla_read, smlaw_read, smulw_read, smlal_read, smul_read, mul_read, mla_read, long_multiply_read, branch_read, swi_read, blx_target_read}
use Rattle.asm_text.proofs.ArmRowsData.{mrs_read, msr_read, msr_immediate_read, compare_read, move_read, data_read, coprocessor_read}
use Rattle.asm_text.proofs.ArmRowsTransfers.{swap_read, half_transfer_read, double_transfer_read, transfer_read, multiple_read, pld_read}

pub arm_read : (at w : ℕ) (i : Instr) → at < 2 ^ 32 → HasFields i → canonical_form i ≡ true → spelled i ≡ Word w → IsRead at i
arm_read at w (Bx cond rm) a h c s = bx_read at cond rm h
arm_read at w (BlxRegister cond rm) a h c s = blx_register_read at cond rm h
arm_read at w (Bkpt immed) a h c s = bkpt_read at immed h
arm_read at w (Clz cond rd rm) a h c s = clz_read at cond rd rm h
arm_read at w (Saturating cond double subtract rd rm rn) a h c s = saturating_read at cond double subtract rd rm rn h
arm_read at w (Smla cond x y rd rm rs rn) a h c s = smla_read at cond x y rd rm rs rn h
arm_read at w (Smlaw cond y rd rm rs rn) a h c s = smlaw_read at cond y rd rm rs rn h
arm_read at w (Smulw cond y rd rm rs) a h c s = smulw_read at cond y rd rm rs h
arm_read at w (Smlal cond x y rd_lo rd_hi rm rs) a h c s = smlal_read at cond x y rd_lo rd_hi rm rs h
arm_read at w (Smul cond x y rd rm rs) a h c s = smul_read at cond x y rd rm rs h
arm_read at w (Mul cond set_flags rd rm rs) a h c s = mul_read at cond set_flags rd rm rs h
arm_read at w (Mla cond set_flags rd rm rs rn) a h c s = mla_read at cond set_flags rd rm rs rn h
arm_read at w (LongMultiply cond signed accumulate set_flags rd_lo rd_hi rm rs) a h c s = long_multiply_read at cond signed accumulate set_flags rd_lo rd_hi rm rs h
arm_read at w (Swap cond byte rd rm rn) a h c s = swap_read at cond byte rd rm rn h
arm_read at w (HalfTransfer cond op pre up write_back rn rd by) a h c s = half_transfer_read at cond op pre up write_back rn rd by h c
arm_read at w (Mrs cond spsr rd) a h c s = mrs_read at cond spsr rd h
arm_read at w (Msr cond spsr fields rm) a h c s = msr_read at cond spsr fields rm h
arm_read at w (MsrImmediate cond spsr fields rotate immed) a h c s = msr_immediate_read at cond spsr fields rotate immed h c
arm_read at w (Compare cond op rn second) a h c s = compare_read at cond op rn second h c
arm_read at w (Move cond op set_flags rd second) a h c s = move_read at cond op set_flags rd second h c
arm_read at w (Data cond op set_flags rn rd second) a h c s = data_read at cond op set_flags rn rd second h c
arm_read at w (DoubleTransfer cond store pre up write_back rn rd by) a h c s = double_transfer_read at cond store pre up write_back rn rd by h c
arm_read at w (Transfer cond pre up byte write_back load rn rd by) a h c s = transfer_read at cond pre up byte write_back load rn rd by h
arm_read at w (Multiple cond pre up user write_back load rn list) a h c s = multiple_read at cond pre up user write_back load rn list h
arm_read at w (Branch cond link by) a h c s = branch_read at cond link by a h
arm_read at w (Coprocessor cond load op1 crn rd cp op2 crm) a h c s = coprocessor_read at cond load op1 crn rd cp op2 crm h
arm_read at w (Swi cond immed) a h c s = swi_read at cond immed h
arm_read at w (BlxTarget half by) a h c s = blx_target_read at half by a h
arm_read at w (Pld up rn by) a h c s = pld_read at up rn by h
arm_read at w _ a h c s = absurd cc
