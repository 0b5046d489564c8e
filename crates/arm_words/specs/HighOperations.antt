use Rattle.std.specs.Prelude.{ℕ, [], ◌∷◌, slice_index_or}
use Rattle.arm_words.specs.declared.operations.HighOp.{HighOp}
use Rattle.arm_words.specs.declared.operations.HighOp.TheVariants.{Add, Cmp, Mov}

-- Thumb's operations that reach the high registers, by bits 9 and 8; 11 is BX's (ARM manual, "Thumb instruction set encoding")
abbrev pub high_op_of : ℕ → HighOp
high_op_of n = slice_index_or (Add ∷ Cmp ∷ []) n Mov

abbrev pub high_op_number : HighOp → ℕ
high_op_number Add = 0
high_op_number Cmp = 1
high_op_number Mov = 2
