use Rattle.std.specs.Prelude.{◌≡◌, ℕ, ◌+◌, ◌*◌, ◌/◌, ◌%◌, ◌^◌, ◌<◌, Bool, Option, Some}
use Rattle.ds_base.specs.declared.processors.Arch.{Arch}
use Rattle.ds_base.specs.Bits.{flag}
use Rattle.arm_words.specs.Parts.{condition_number, shift_number, operand_bits, offset_bits, short_offset_bits, field_mask_bits, thumb_operand_bits}
use Rattle.arm_words.specs.Operations.{data_op_number, compare_op_number, move_op_number, half_op_bits}
use Rattle.arm_words.specs.ThumbOperations.{thumb_data_op_number, thumb_transfer_op_number}
use Rattle.arm_words.specs.ThumbImmediates.{thumb_immediate_op_number}
use Rattle.arm_words.specs.HighOperations.{high_op_number}
use Rattle.arm_words.specs.ArmTable.{decoded_arm}
use Rattle.arm_words.specs.ThumbTable.{decoded_thumb}
use Rattle.arm_words.specs.declared.parts.Condition.{Condition}
use Rattle.arm_words.specs.declared.instructions.Instr.{Instr}
use Rattle.arm_words.specs.declared.instructions.Instr.TheVariants.{Bx, BlxRegister, Bkpt, Clz, Saturating, Smla, Smlaw, Smulw, Smlal, Smul, Mul, Mla, LongMultiply, Swap, HalfTransfer, Mrs, Msr, MsrImmediate, Compare, Move, Data, DoubleTransfer, Transfer, Multiple, Branch, Coprocessor, Swi, BlxTarget, Pld, Never, ThumbAddSub, ThumbShift, ThumbImmediate, ThumbData, ThumbBx, ThumbBlxRegister, ThumbHigh, ThumbLoadLiteral, ThumbRegisterOffset, ThumbImmediateOffset, ThumbHalfOffset, ThumbStackOffset, ThumbAddress, ThumbAdjustStack, ThumbPushPop, ThumbBkpt, ThumbMultiple, ThumbBranchIf, ThumbSwi, ThumbBranch, ThumbBlxSuffix, ThumbBlPrefix, ThumbBlSuffix}
use Rattle.arm_words.specs.declared.spellings.Spelling.{Spelling}
use Rattle.arm_words.specs.declared.spellings.Spelling.TheVariants.{Word, Half}

-- a word with a condition in bits 31 to 28
abbrev pub word : Condition → ℕ → Spelling
word cond rest = Word (condition_number cond * 2 ^ 28 + rest)

-- numbers in bits 19 to 16, 15 to 12, 11 to 8 and 3 to 0, where most registers stand
abbrev pub regs : ℕ → ℕ → ℕ → ℕ → ℕ
regs r16 r12 r8 r0 = r16 * 2 ^ 16 + r12 * 2 ^ 12 + r8 * 2 ^ 8 + r0

-- P, U and W of a transfer
abbrev pub index : Bool → Bool → Bool → ℕ
index pre up write_back = flag 24 pre + flag 23 up + flag 21 write_back

-- numbers in bits 5 to 3 and 2 to 0 of a half
abbrev pub lows : ℕ → ℕ → ℕ
lows r3 r0 = r3 * 2 ^ 3 + r0

-- a number in bits 10 to 8 of a half, and a byte
abbrev pub low_byte : ℕ → ℕ → ℕ
low_byte r8 immed = r8 * 2 ^ 8 + immed

-- the spelling of an instruction: its fixed bits, its fields, and of the bits that decoding doesn't look at those as 1 that the ARM
-- manual says should be one (SBO), the others as 0
abbrev pub spelled : Instr → Spelling
spelled (Bx cond rm) = word cond (0x012FFF10 + rm)
spelled (BlxRegister cond rm) = word cond (0x012FFF30 + rm)
spelled (Bkpt immed) = Word (0xE1200070 + regs 0 0 (immed / 2 ^ 4) (immed % 2 ^ 4))
spelled (Clz cond rd rm) = word cond (0x016F0F10 + regs 0 rd 0 rm)
spelled (Saturating cond double subtract rd rm rn) = word cond (0x01000050 + flag 22 double + flag 21 subtract + regs rn rd 0 rm)
spelled (Smla cond x y rd rm rs rn) = word cond (0x01000080 + flag 5 x + flag 6 y + regs rd rn rs rm)
spelled (Smlaw cond y rd rm rs rn) = word cond (0x01200080 + flag 6 y + regs rd rn rs rm)
spelled (Smulw cond y rd rm rs) = word cond (0x012000A0 + flag 6 y + regs rd 0 rs rm)
spelled (Smlal cond x y rd_lo rd_hi rm rs) = word cond (0x01400080 + flag 5 x + flag 6 y + regs rd_hi rd_lo rs rm)
spelled (Smul cond x y rd rm rs) = word cond (0x01600080 + flag 5 x + flag 6 y + regs rd 0 rs rm)
spelled (Mul cond set_flags rd rm rs) = word cond (0x00000090 + flag 20 set_flags + regs rd 0 rs rm)
spelled (Mla cond set_flags rd rm rs rn) = word cond (0x00200090 + flag 20 set_flags + regs rd rn rs rm)
spelled (LongMultiply cond signed accumulate set_flags rd_lo rd_hi rm rs) =
    word cond (0x00800090 + flag 22 signed + flag 21 accumulate + flag 20 set_flags + regs rd_hi rd_lo rs rm)
spelled (Swap cond byte rd rm rn) = word cond (0x01000090 + flag 22 byte + regs rn rd 0 rm)
spelled (HalfTransfer cond op pre up write_back rn rd offset) =
    word cond (0x00000090 + half_op_bits op + index pre up write_back + regs rn rd 0 0 + short_offset_bits offset)
spelled (Mrs cond spsr rd) = word cond (0x010F0000 + flag 22 spsr + regs 0 rd 0 0)
spelled (Msr cond spsr fields rm) = word cond (0x0120F000 + flag 22 spsr + field_mask_bits fields + rm)
spelled (MsrImmediate cond spsr fields rotate immed) = word cond (0x0320F000 + flag 22 spsr + field_mask_bits fields + regs 0 0 rotate immed)
spelled (Compare cond op rn operand) = word cond (0x01100000 + compare_op_number op * 2 ^ 21 + regs rn 0 0 0 + operand_bits operand)
spelled (Move cond op set_flags rd operand) =
    word cond (0x01A00000 + move_op_number op * 2 ^ 22 + flag 20 set_flags + regs 0 rd 0 0 + operand_bits operand)
spelled (Data cond op set_flags rn rd operand) =
    word cond (data_op_number op * 2 ^ 21 + flag 20 set_flags + regs rn rd 0 0 + operand_bits operand)
spelled (DoubleTransfer cond store pre up write_back rn rd offset) =
    word cond (0x000000D0 + flag 5 store + index pre up write_back + regs rn rd 0 0 + short_offset_bits offset)
spelled (Transfer cond pre up byte write_back load rn rd offset) =
    word cond (0x04000000 + flag 22 byte + flag 20 load + index pre up write_back + regs rn rd 0 0 + offset_bits offset)
spelled (Multiple cond pre up user write_back load rn list) =
    word cond (0x08000000 + flag 22 user + flag 20 load + index pre up write_back + regs rn 0 0 0 + list)
spelled (Branch cond link offset) = word cond (0x0A000000 + flag 24 link + offset)
spelled (Coprocessor cond load op1 crn rd cp op2 crm) =
    word cond (0x0E000010 + flag 20 load + op1 * 2 ^ 21 + op2 * 2 ^ 5 + regs crn rd cp crm)
spelled (Swi cond immed) = word cond (0x0F000000 + immed)
spelled (BlxTarget half offset) = Word (0xFA000000 + flag 24 half + offset)
spelled (Pld up rn offset) = Word (0xF550F000 + flag 23 up + regs rn 0 0 0 + offset_bits offset)
spelled (Never immed) = Word (0xF0000000 + immed)
spelled (ThumbAddSub subtract operand rn rd) = Half (0x1800 + flag 9 subtract + thumb_operand_bits operand + lows rn rd)
spelled (ThumbShift shift amount rm rd) = Half (shift_number shift * 2 ^ 11 + amount * 2 ^ 6 + lows rm rd)
spelled (ThumbImmediate op rd immed) = Half (0x2000 + thumb_immediate_op_number op * 2 ^ 11 + low_byte rd immed)
spelled (ThumbData op rm rd) = Half (0x4000 + thumb_data_op_number op * 2 ^ 6 + lows rm rd)
spelled (ThumbBx rm) = Half (0x4700 + lows rm 0)
spelled (ThumbBlxRegister rm) = Half (0x4780 + lows rm 0)
spelled (ThumbHigh op rm rd) = Half (0x4400 + high_op_number op * 2 ^ 8 + rd / 2 ^ 3 * 2 ^ 7 + lows rm (rd % 2 ^ 3))
spelled (ThumbLoadLiteral rd immed) = Half (0x4800 + low_byte rd immed)
spelled (ThumbRegisterOffset op rm rn rd) = Half (0x5000 + thumb_transfer_op_number op * 2 ^ 9 + rm * 2 ^ 6 + lows rn rd)
spelled (ThumbImmediateOffset byte load immed rn rd) = Half (0x6000 + flag 12 byte + flag 11 load + immed * 2 ^ 6 + lows rn rd)
spelled (ThumbHalfOffset load immed rn rd) = Half (0x8000 + flag 11 load + immed * 2 ^ 6 + lows rn rd)
spelled (ThumbStackOffset load rd immed) = Half (0x9000 + flag 11 load + low_byte rd immed)
spelled (ThumbAddress stack rd immed) = Half (0xA000 + flag 11 stack + low_byte rd immed)
spelled (ThumbAdjustStack subtract immed) = Half (0xB000 + flag 7 subtract + immed)
spelled (ThumbPushPop load extra list) = Half (0xB400 + flag 11 load + flag 8 extra + list)
spelled (ThumbBkpt immed) = Half (0xBE00 + immed)
spelled (ThumbMultiple load rn list) = Half (0xC000 + flag 11 load + low_byte rn list)
spelled (ThumbBranchIf cond offset) = Half (0xD000 + low_byte (condition_number cond) offset)
spelled (ThumbSwi immed) = Half (0xDF00 + immed)
spelled (ThumbBranch offset) = Half (0xE000 + offset)
spelled (ThumbBlxSuffix offset) = Half (0xE800 + offset)
spelled (ThumbBlPrefix offset) = Half (0xF000 + offset)
spelled (ThumbBlSuffix offset) = Half (0xF800 + offset)

-- what a spelling stands for
abbrev pub decoded : Arch → Spelling → Option Instr
decoded arch (Word w) = decoded_arm arch w
decoded arch (Half h) = decoded_thumb arch h

-- a word has 32 bits, a half 16
abbrev pub IsInRange : Spelling → Type 0
IsInRange (Word w) = w < 2 ^ 32
IsInRange (Half h) = h < 2 ^ 16

-- the architecture has the instruction: some word or half decodes to it
abbrev pub Has : Arch → Instr → Type 0
Has arch i = (s : Spelling) × IsInRange s × (decoded arch s ≡ Some i)

-- one of the two architectures has it
abbrev pub IsInstruction : Instr → Type 0
IsInstruction i = (arch : Arch) × Has arch i
