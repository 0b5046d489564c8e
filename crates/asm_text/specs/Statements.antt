use Rattle.std.specs.Prelude.{ℕ, ◌+◌, ◌*◌, ◌^◌, List, [], ◌∷◌, ◌++◌, codes, Bool, true, false, not, ◌&&◌, if◌then◌else◌}
use Rattle.asm_text.specs.Text.{joined, where_set, decimal, hex, number, register_name, register_list}
use Rattle.asm_text.specs.Names.{suffix, shift_name, data_name, compare_name, move_name, half_name, saturating_name, long_name, half_letter, load_name, block_mode, status_name, field_letters, immediate_name, thumb_data_name, high_name, transfer_name}
use Rattle.asm_text.specs.Operands.{operand, small_operand, offset, short_offset, at_offset, address, amount_shown}
use Rattle.asm_text.specs.Addresses.{arm_target, half_target, thumb_target}
use Rattle.arm_words.specs.Canonical.{immediate}
use Rattle.arm_words.specs.declared.parts.Condition.{Condition}
use Rattle.arm_words.specs.declared.parts.Shift.{Shift}
use Rattle.arm_words.specs.declared.parts.Shift.TheVariants.{Lsl, Lsr, Asr, Ror}
use Rattle.arm_words.specs.declared.instructions.Instr.{Instr}
use Rattle.arm_words.specs.declared.spellings.Spelling.{Spelling}
use Rattle.arm_words.specs.declared.spellings.Spelling.TheVariants.{Word, Half}
use Rattle.arm_words.specs.declared.instructions.Instr.TheVariants.{Bx, BlxRegister, Bkpt, Clz, Saturating, Smla, Smlaw, Smulw, Smlal, Smul, Mul, Mla, LongMultiply, Swap, HalfTransfer, Mrs, Msr, MsrImmediate, Compare, Move, Data, DoubleTransfer, Transfer, Multiple, Branch, Coprocessor, Swi, BlxTarget, Pld, Never, ThumbAddSub, ThumbShift, ThumbImmediate, ThumbData, ThumbBx, ThumbBlxRegister, ThumbHigh, ThumbLoadLiteral, ThumbRegisterOffset, ThumbImmediateOffset, ThumbHalfOffset, ThumbStackOffset, ThumbAddress, ThumbAdjustStack, ThumbPushPop, ThumbBkpt, ThumbMultiple, ThumbBranchIf, ThumbSwi, ThumbBranch, ThumbBlxSuffix, ThumbBlPrefix, ThumbBlSuffix}

-- whether a spelling is a half
abbrev pub is_half_spelling : Spelling → Bool
is_half_spelling (Word word) = false
is_half_spelling (Half half) = true

-- a name and its operands, with a comma and a space between them
abbrev pub with_operands : List ℕ → List (List ℕ) → List ℕ
with_operands name operands = name ++ (codes " " ++ joined (codes ", ") operands)

-- the same with the condition's suffix
abbrev pub on : List ℕ → Condition → List (List ℕ) → List ℕ
on name cond operands = name ++ (suffix cond ++ (codes " " ++ joined (codes ", ") operands))

-- the amount of Thumb's shifts: 0 stands for 32 but at Lsl
abbrev pub thumb_amount : Shift → ℕ → ℕ
thumb_amount Lsl amount = amount
thumb_amount Lsr amount = amount_shown amount
thumb_amount Asr amount = amount_shown amount
thumb_amount Ror amount = amount_shown amount

-- the statement of an instruction at an address: the ARM manual's mnemonics and operands in lower case, numbers in hexadecimal. The
-- names `addh`, `cmph`, `movh`, `blh`, `bll` and `blxl` are our choice. `Never` is no canonical word's and has none.
abbrev pub statement : ℕ → Instr → List ℕ
statement at (Bx cond rm) = on (codes "bx") cond (register_name rm ∷ [])
statement at (BlxRegister cond rm) = on (codes "blx") cond (register_name rm ∷ [])
statement at (Bkpt immed) = with_operands (codes "bkpt") (hex immed ∷ [])
statement at (Clz cond rd rm) = on (codes "clz") cond (register_name rd ∷ register_name rm ∷ [])
statement at (Saturating cond double subtract rd rm rn) =
    on (saturating_name double subtract) cond (register_name rd ∷ register_name rm ∷ register_name rn ∷ [])
statement at (Smla cond x y rd rm rs rn) =
    on (codes "smla" ++ (half_letter x ++ half_letter y)) cond (register_name rd ∷ register_name rm ∷ register_name rs ∷ register_name rn ∷ [])
statement at (Smlaw cond y rd rm rs rn) =
    on (codes "smlaw" ++ half_letter y) cond (register_name rd ∷ register_name rm ∷ register_name rs ∷ register_name rn ∷ [])
statement at (Smulw cond y rd rm rs) = on (codes "smulw" ++ half_letter y) cond (register_name rd ∷ register_name rm ∷ register_name rs ∷ [])
statement at (Smlal cond x y rd_lo rd_hi rm rs) =
    on (codes "smlal" ++ (half_letter x ++ half_letter y)) cond (register_name rd_lo ∷ register_name rd_hi ∷ register_name rm ∷ register_name rs ∷ [])
statement at (Smul cond x y rd rm rs) =
    on (codes "smul" ++ (half_letter x ++ half_letter y)) cond (register_name rd ∷ register_name rm ∷ register_name rs ∷ [])
statement at (Mul cond set_flags rd rm rs) =
    on (codes "mul" ++ where_set set_flags (codes "s")) cond (register_name rd ∷ register_name rm ∷ register_name rs ∷ [])
statement at (Mla cond set_flags rd rm rs rn) =
    on (codes "mla" ++ where_set set_flags (codes "s")) cond (register_name rd ∷ register_name rm ∷ register_name rs ∷ register_name rn ∷ [])
statement at (LongMultiply cond signed accumulate set_flags rd_lo rd_hi rm rs) =
    on (long_name signed accumulate ++ where_set set_flags (codes "s")) cond (register_name rd_lo ∷ register_name rd_hi ∷ register_name rm
    ∷ register_name rs ∷ [])
statement at (Swap cond byte rd rm rn) =
    on (codes "swp" ++ where_set byte (codes "b")) cond (register_name rd ∷ register_name rm ∷ (codes "[" ++ (register_name rn ++ codes "]")) ∷ [])
statement at (HalfTransfer cond op pre up write_back rn rd by) =
    on (half_name op) cond (register_name rd ∷ address pre write_back rn (short_offset up by) ∷ [])
statement at (Mrs cond spsr rd) = on (codes "mrs") cond (register_name rd ∷ status_name spsr ∷ [])
statement at (Msr cond spsr fields rm) =
    on (codes "msr") cond ((status_name spsr ++ (codes "_" ++ field_letters fields)) ∷ register_name rm ∷ [])
statement at (MsrImmediate cond spsr fields rotate immed) =
    on (codes "msr") cond ((status_name spsr ++ (codes "_" ++ field_letters fields)) ∷ number (immediate rotate immed) ∷ [])
statement at (Compare cond op rn second) = on (compare_name op) cond (register_name rn ∷ operand second ∷ [])
statement at (Move cond op set_flags rd second) =
    on (move_name op ++ where_set set_flags (codes "s")) cond (register_name rd ∷ operand second ∷ [])
statement at (Data cond op set_flags rn rd second) =
    on (data_name op ++ where_set set_flags (codes "s")) cond (register_name rd ∷ register_name rn ∷ operand second ∷ [])
statement at (DoubleTransfer cond store pre up write_back rn rd by) =
    on (if store then codes "strd" else codes "ldrd") cond (register_name rd ∷ address pre write_back rn (short_offset up by) ∷ [])
statement at (Transfer cond pre up byte write_back load rn rd by) =
    on (load_name load ++ (where_set byte (codes "b") ++ where_set (not pre && write_back) (codes "t"))) cond (register_name rd
    ∷ address pre write_back rn (offset up by) ∷ [])
statement at (Multiple cond pre up user write_back load rn list) =
    on ((if load then codes "ldm" else codes "stm") ++ block_mode pre up) cond ((register_name rn ++ where_set write_back (codes "!"))
    ∷ (register_list list ++ where_set user (codes "^")) ∷ [])
statement at (Branch cond link by) = on (codes "b" ++ where_set link (codes "l")) cond (hex (arm_target at by) ∷ [])
statement at (Coprocessor cond load op1 crn rd cp op2 crm) =
    on (if load then codes "mrc" else codes "mcr") cond ((codes "p" ++ decimal cp) ∷ decimal op1 ∷ register_name rd ∷ (codes "c" ++ decimal crn)
    ∷ (codes "c" ++ decimal crm) ∷ decimal op2 ∷ [])
statement at (Swi cond immed) = on (codes "swi") cond (hex immed ∷ [])
statement at (BlxTarget half by) = with_operands (codes "blx") (hex (if half then half_target at by else arm_target at by) ∷ [])
statement at (Pld up rn by) = with_operands (codes "pld") (at_offset rn (offset up by) ∷ [])
statement at (Never immed) = []
statement at (ThumbAddSub subtract second rn rd) =
    with_operands (if subtract then codes "sub" else codes "add") (register_name rd ∷ register_name rn ∷ small_operand second ∷ [])
statement at (ThumbShift shift amount rm rd) =
    with_operands (shift_name shift) (register_name rd ∷ register_name rm ∷ number (thumb_amount shift amount) ∷ [])
statement at (ThumbImmediate op rd immed) = with_operands (immediate_name op) (register_name rd ∷ number immed ∷ [])
statement at (ThumbData op rm rd) = with_operands (thumb_data_name op) (register_name rd ∷ register_name rm ∷ [])
statement at (ThumbBx rm) = with_operands (codes "bx") (register_name rm ∷ [])
statement at (ThumbBlxRegister rm) = with_operands (codes "blx") (register_name rm ∷ [])
statement at (ThumbHigh op rm rd) = with_operands (high_name op) (register_name rd ∷ register_name rm ∷ [])
statement at (ThumbLoadLiteral rd immed) = with_operands (codes "ldr") (register_name rd ∷ at_offset 15 (number (4 * immed)) ∷ [])
statement at (ThumbRegisterOffset op rm rn rd) = with_operands (transfer_name op) (register_name rd ∷ at_offset rn (register_name rm) ∷ [])
statement at (ThumbImmediateOffset byte load immed rn rd) =
    with_operands (load_name load ++ where_set byte (codes "b")) (register_name rd ∷ at_offset rn (number (if byte then immed else 4 * immed)) ∷ [])
statement at (ThumbHalfOffset load immed rn rd) =
    with_operands (load_name load ++ codes "h") (register_name rd ∷ at_offset rn (number (2 * immed)) ∷ [])
statement at (ThumbStackOffset load rd immed) = with_operands (load_name load) (register_name rd ∷ at_offset 13 (number (4 * immed)) ∷ [])
statement at (ThumbAddress stack rd immed) =
    with_operands (codes "add") (register_name rd ∷ register_name (if stack then 13 else 15) ∷ number (4 * immed) ∷ [])
statement at (ThumbAdjustStack subtract immed) =
    with_operands (if subtract then codes "sub" else codes "add") (register_name 13 ∷ number (4 * immed) ∷ [])
statement at (ThumbPushPop load extra list) =
    with_operands (if load then codes "pop" else codes "push") (register_list (list + (if extra then (if load then 2 ^ 15 else 2 ^ 14) else 0)) ∷ [])
statement at (ThumbBkpt immed) = with_operands (codes "bkpt") (hex immed ∷ [])
statement at (ThumbMultiple load rn list) =
    with_operands (if load then codes "ldmia" else codes "stmia") ((register_name rn ++ codes "!") ∷ register_list list ∷ [])
statement at (ThumbBranchIf cond by) = on (codes "b") cond (hex (thumb_target at (2 ^ 7) by) ∷ [])
statement at (ThumbSwi immed) = with_operands (codes "swi") (hex immed ∷ [])
statement at (ThumbBranch by) = with_operands (codes "b") (hex (thumb_target at (2 ^ 10) by) ∷ [])
statement at (ThumbBlxSuffix by) = with_operands (codes "blxl") (number by ∷ [])
statement at (ThumbBlPrefix by) = with_operands (codes "blh") (number by ∷ [])
statement at (ThumbBlSuffix by) = with_operands (codes "bll") (number by ∷ [])
