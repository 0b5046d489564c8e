-- Each of ARM's names is read as the row that it was written for: by computing.
use Rattle.asm_text.proofs.Words.{ℕ, List, Bool, true, false, ◌++◌, refl, codes, if◌then◌else◌, where_set, block_mode, compare_name, data_name}
use Rattle.asm_text.proofs.Words.{half_letter, half_name, load_name, long_name, move_name, saturating_name, named_stem, IsStem, Raw, Row, ARM_STEMS}
use Rattle.asm_text.proofs.Words.{Al, Immediate, Number, ShortNumber, DataOp, CompareOp, MoveOp, HalfOp, Instr, Bx, BlxRegister, Bkpt, Clz}
use Rattle.asm_text.proofs.Words.{Saturating, Smla, Smlaw, Smulw, Smlal, Smul, Mul, Mla, LongMultiply, Swap, HalfTransfer, Mrs, Msr, Compare, Move}
use Rattle.asm_text.proofs.Words.{Data, DoubleTransfer, Transfer, Multiple, Branch, Coprocessor, Swi, Pld}
use Rattle.arm_words.specs.declared.operations.DataOp.TheVariants as data_ops
use Rattle.arm_words.specs.declared.operations.CompareOp.TheVariants as compare_ops
use Rattle.arm_words.specs.declared.operations.MoveOp.TheVariants as move_ops
use Rattle.arm_words.specs.declared.operations.HalfOp.TheVariants as half_ops

-- a name stands for a row, and is no other name with a condition's suffix
abbrev pub IsNamed : List ℕ → Instr → Type 0
IsNamed nm row = IsStem ARM_STEMS nm (Row row)

pub bx_stem : IsNamed (codes "bx") (Bx Al 0)
unfolding named_stem
bx_stem = refl

pub blx_stem : IsNamed (codes "blx") (BlxRegister Al 0)
unfolding named_stem
blx_stem = refl

pub bkpt_stem : IsNamed (codes "bkpt") (Bkpt 0)
unfolding named_stem
bkpt_stem = refl

pub clz_stem : IsNamed (codes "clz") (Clz Al 0 0)
unfolding named_stem
clz_stem = refl

pub saturating_stem : (double subtract : Bool) → IsNamed (saturating_name double subtract) (Saturating Al double subtract 0 0 0)
unfolding named_stem
saturating_stem false false = refl
saturating_stem false true = refl
saturating_stem true false = refl
saturating_stem true true = refl

pub smla_stem : (x y : Bool) → IsNamed (codes "smla" ++ (half_letter x ++ half_letter y)) (Smla Al x y 0 0 0 0)
unfolding named_stem
smla_stem false false = refl
smla_stem false true = refl
smla_stem true false = refl
smla_stem true true = refl

pub smlaw_stem : (y : Bool) → IsNamed (codes "smlaw" ++ half_letter y) (Smlaw Al y 0 0 0 0)
unfolding named_stem
smlaw_stem false = refl
smlaw_stem true = refl

pub smulw_stem : (y : Bool) → IsNamed (codes "smulw" ++ half_letter y) (Smulw Al y 0 0 0)
unfolding named_stem
smulw_stem false = refl
smulw_stem true = refl

pub smlal_stem : (x y : Bool) → IsNamed (codes "smlal" ++ (half_letter x ++ half_letter y)) (Smlal Al x y 0 0 0 0)
unfolding named_stem
smlal_stem false false = refl
smlal_stem false true = refl
smlal_stem true false = refl
smlal_stem true true = refl

pub smul_stem : (x y : Bool) → IsNamed (codes "smul" ++ (half_letter x ++ half_letter y)) (Smul Al x y 0 0 0)
unfolding named_stem
smul_stem false false = refl
smul_stem false true = refl
smul_stem true false = refl
smul_stem true true = refl

pub mul_stem : (set_flags : Bool) → IsNamed (codes "mul" ++ where_set set_flags (codes "s")) (Mul Al set_flags 0 0 0)
unfolding named_stem
mul_stem false = refl
mul_stem true = refl

pub mla_stem : (set_flags : Bool) → IsNamed (codes "mla" ++ where_set set_flags (codes "s")) (Mla Al set_flags 0 0 0 0)
unfolding named_stem
mla_stem false = refl
mla_stem true = refl

pub long_multiply_stem : (signed accumulate set_flags : Bool) → IsNamed (long_name signed accumulate ++ where_set set_flags (codes "s")) (LongMultiply Al signed accumulate set_flags 0 0 0 0)
unfolding named_stem
long_multiply_stem false false false = refl
long_multiply_stem false false true = refl
long_multiply_stem false true false = refl
long_multiply_stem false true true = refl
long_multiply_stem true false false = refl
long_multiply_stem true false true = refl
long_multiply_stem true true false = refl
long_multiply_stem true true true = refl

pub swap_stem : (byte : Bool) → IsNamed (codes "swp" ++ where_set byte (codes "b")) (Swap Al byte 0 0 0)
unfolding named_stem
swap_stem false = refl
swap_stem true = refl

pub half_transfer_stem : (op : HalfOp) → IsNamed (half_name op) (HalfTransfer Al op false false false 0 0 (ShortNumber 0))
unfolding named_stem
half_transfer_stem half_ops.Strh = refl
half_transfer_stem half_ops.Ldrh = refl
half_transfer_stem half_ops.Ldrsb = refl
half_transfer_stem half_ops.Ldrsh = refl

pub mrs_stem : IsNamed (codes "mrs") (Mrs Al false 0)
unfolding named_stem
mrs_stem = refl

pub msr_stem : IsNamed (codes "msr") (Msr Al false (record { f = false; s = false; x = false; c = false }) 0)
unfolding named_stem
msr_stem = refl

pub compare_stem : (op : CompareOp) → IsNamed (compare_name op) (Compare Al op 0 (Immediate 0 0))
unfolding named_stem
compare_stem compare_ops.Tst = refl
compare_stem compare_ops.Teq = refl
compare_stem compare_ops.Cmp = refl
compare_stem compare_ops.Cmn = refl

pub move_stem : (op : MoveOp) (set_flags : Bool) → IsNamed (move_name op ++ where_set set_flags (codes "s")) (Move Al op set_flags 0 (Immediate 0 0))
unfolding named_stem
move_stem move_ops.Mov false = refl
move_stem move_ops.Mov true = refl
move_stem move_ops.Mvn false = refl
move_stem move_ops.Mvn true = refl

pub data_stem : (op : DataOp) (set_flags : Bool) → IsNamed (data_name op ++ where_set set_flags (codes "s")) (Data Al op set_flags 0 0 (Immediate 0 0))
unfolding named_stem
data_stem data_ops.And false = refl
data_stem data_ops.And true = refl
data_stem data_ops.Eor false = refl
data_stem data_ops.Eor true = refl
data_stem data_ops.Sub false = refl
data_stem data_ops.Sub true = refl
data_stem data_ops.Rsb false = refl
data_stem data_ops.Rsb true = refl
data_stem data_ops.Add false = refl
data_stem data_ops.Add true = refl
data_stem data_ops.Adc false = refl
data_stem data_ops.Adc true = refl
data_stem data_ops.Sbc false = refl
data_stem data_ops.Sbc true = refl
data_stem data_ops.Rsc false = refl
data_stem data_ops.Rsc true = refl
data_stem data_ops.Orr false = refl
data_stem data_ops.Orr true = refl
data_stem data_ops.Bic false = refl
data_stem data_ops.Bic true = refl

pub double_transfer_stem : (store : Bool) → IsNamed (if store then codes "strd" else codes "ldrd") (DoubleTransfer Al store false false false 0 0 (ShortNumber 0))
unfolding named_stem
double_transfer_stem false = refl
double_transfer_stem true = refl

pub transfer_stem : (load byte t : Bool) → IsNamed (load_name load ++ (where_set byte (codes "b") ++ where_set t (codes "t"))) (Transfer Al false false byte t load 0 0 (Number 0))
unfolding named_stem
transfer_stem false false false = refl
transfer_stem false false true = refl
transfer_stem false true false = refl
transfer_stem false true true = refl
transfer_stem true false false = refl
transfer_stem true false true = refl
transfer_stem true true false = refl
transfer_stem true true true = refl

pub multiple_stem : (load pre up : Bool) → IsNamed ((if load then codes "ldm" else codes "stm") ++ block_mode pre up) (Multiple Al pre up false false load 0 0)
unfolding named_stem
multiple_stem false false false = refl
multiple_stem false false true = refl
multiple_stem false true false = refl
multiple_stem false true true = refl
multiple_stem true false false = refl
multiple_stem true false true = refl
multiple_stem true true false = refl
multiple_stem true true true = refl

pub branch_stem : (link : Bool) → IsNamed (codes "b" ++ where_set link (codes "l")) (Branch Al link 0)
unfolding named_stem
branch_stem false = refl
branch_stem true = refl

pub coprocessor_stem : (load : Bool) → IsNamed (if load then codes "mrc" else codes "mcr") (Coprocessor Al load 0 0 0 0 0 0)
unfolding named_stem
coprocessor_stem false = refl
coprocessor_stem true = refl

pub swi_stem : IsNamed (codes "swi") (Swi Al 0)
unfolding named_stem
swi_stem = refl

pub pld_stem : IsNamed (codes "pld") (Pld false 0 (Number 0))
unfolding named_stem
pld_stem = refl

pub word_stem : IsStem ARM_STEMS (codes ".word") (Raw 0)
unfolding named_stem
word_stem = refl
