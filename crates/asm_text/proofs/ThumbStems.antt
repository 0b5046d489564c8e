-- Each name of a Thumb statement is in the table, and is read as the row that it stands for.
use Rattle.asm_text.proofs.Words.{Bool, true, false, refl, codes, if◌then◌else◌, thumb_data_name, high_name, transfer_name, named_stem, IsStem, Row}
use Rattle.asm_text.proofs.Words.{Raw, THUMB_STEMS, Small, ThumbDataOp, HighOp, ThumbTransferOp, ThumbAddSub, ThumbImmediate, ThumbData, ThumbBx}
use Rattle.asm_text.proofs.Words.{ThumbBlxRegister, ThumbHigh, ThumbRegisterOffset, ThumbPushPop, ThumbBkpt, ThumbMultiple, ThumbSwi, ThumbBranch}
use Rattle.asm_text.proofs.Words.{ThumbBlxSuffix, ThumbBlPrefix, ThumbBlSuffix}
use Rattle.arm_words.specs.declared.operations.ThumbImmediateOp.TheVariants as immediate_ops
use Rattle.arm_words.specs.declared.operations.ThumbDataOp.TheVariants as thumb_ops
use Rattle.arm_words.specs.declared.operations.HighOp.TheVariants as high_ops
use Rattle.arm_words.specs.declared.operations.ThumbTransferOp.TheVariants as transfer_ops

pub add_sub_stem : (subtract : Bool) → IsStem THUMB_STEMS (if subtract then codes "sub" else codes "add") (Row (ThumbAddSub subtract (Small 0) 0 0))
unfolding named_stem
add_sub_stem false = refl
add_sub_stem true = refl

pub move_stem : IsStem THUMB_STEMS (codes "mov") (Row (ThumbImmediate immediate_ops.Mov 0 0))
unfolding named_stem
move_stem = refl

pub data_stem : (op : ThumbDataOp) → IsStem THUMB_STEMS (thumb_data_name op) (Row (ThumbData op 0 0))
unfolding named_stem
data_stem thumb_ops.And = refl
data_stem thumb_ops.Eor = refl
data_stem thumb_ops.Lsl = refl
data_stem thumb_ops.Lsr = refl
data_stem thumb_ops.Asr = refl
data_stem thumb_ops.Adc = refl
data_stem thumb_ops.Sbc = refl
data_stem thumb_ops.Ror = refl
data_stem thumb_ops.Tst = refl
data_stem thumb_ops.Neg = refl
data_stem thumb_ops.Cmp = refl
data_stem thumb_ops.Cmn = refl
data_stem thumb_ops.Orr = refl
data_stem thumb_ops.Mul = refl
data_stem thumb_ops.Bic = refl
data_stem thumb_ops.Mvn = refl

pub bx_stem : IsStem THUMB_STEMS (codes "bx") (Row (ThumbBx 0))
unfolding named_stem
bx_stem = refl

pub blx_stem : IsStem THUMB_STEMS (codes "blx") (Row (ThumbBlxRegister 0))
unfolding named_stem
blx_stem = refl

pub high_stem : (op : HighOp) → IsStem THUMB_STEMS (high_name op) (Row (ThumbHigh op 0 0))
unfolding named_stem
high_stem high_ops.Add = refl
high_stem high_ops.Cmp = refl
high_stem high_ops.Mov = refl

pub transfer_stem : (op : ThumbTransferOp) → IsStem THUMB_STEMS (transfer_name op) (Row (ThumbRegisterOffset op 0 0 0))
unfolding named_stem
transfer_stem transfer_ops.Str = refl
transfer_stem transfer_ops.Strh = refl
transfer_stem transfer_ops.Strb = refl
transfer_stem transfer_ops.Ldrsb = refl
transfer_stem transfer_ops.Ldr = refl
transfer_stem transfer_ops.Ldrh = refl
transfer_stem transfer_ops.Ldrb = refl
transfer_stem transfer_ops.Ldrsh = refl

pub push_pop_stem : (load : Bool) → IsStem THUMB_STEMS (if load then codes "pop" else codes "push") (Row (ThumbPushPop load false 0))
unfolding named_stem
push_pop_stem false = refl
push_pop_stem true = refl

pub bkpt_stem : IsStem THUMB_STEMS (codes "bkpt") (Row (ThumbBkpt 0))
unfolding named_stem
bkpt_stem = refl

pub multiple_stem : (load : Bool) → IsStem THUMB_STEMS (if load then codes "ldmia" else codes "stmia") (Row (ThumbMultiple load 0 0))
unfolding named_stem
multiple_stem false = refl
multiple_stem true = refl

pub swi_stem : IsStem THUMB_STEMS (codes "swi") (Row (ThumbSwi 0))
unfolding named_stem
swi_stem = refl

pub branch_stem : IsStem THUMB_STEMS (codes "b") (Row (ThumbBranch 0))
unfolding named_stem
branch_stem = refl

pub blx_suffix_stem : IsStem THUMB_STEMS (codes "blxl") (Row (ThumbBlxSuffix 0))
unfolding named_stem
blx_suffix_stem = refl

pub bl_prefix_stem : IsStem THUMB_STEMS (codes "blh") (Row (ThumbBlPrefix 0))
unfolding named_stem
bl_prefix_stem = refl

pub bl_suffix_stem : IsStem THUMB_STEMS (codes "bll") (Row (ThumbBlSuffix 0))
unfolding named_stem
bl_suffix_stem = refl

-- a half itself
pub half_stem : IsStem THUMB_STEMS (codes ".half") (Raw 0)
unfolding named_stem
half_stem = refl
