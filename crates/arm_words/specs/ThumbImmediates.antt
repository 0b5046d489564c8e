use Rattle.std.specs.Prelude.{ℕ, [], ◌∷◌, slice_index_or}
use Rattle.arm_words.specs.declared.operations.ThumbImmediateOp.{ThumbImmediateOp}
use Rattle.arm_words.specs.declared.operations.ThumbImmediateOp.TheVariants.{Mov, Cmp, Add, Sub}

-- Thumb's operations on a register and a byte, by bits 12 and 11 (ARM manual, "Thumb instruction set encoding")
abbrev pub thumb_immediate_op_of : ℕ → ThumbImmediateOp
thumb_immediate_op_of n = slice_index_or (Mov ∷ Cmp ∷ Add ∷ []) n Sub

abbrev pub thumb_immediate_op_number : ThumbImmediateOp → ℕ
thumb_immediate_op_number Mov = 0
thumb_immediate_op_number Cmp = 1
thumb_immediate_op_number Add = 2
thumb_immediate_op_number Sub = 3
