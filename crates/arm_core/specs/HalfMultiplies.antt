use Rattle.std.specs.Prelude.{ℕ, ◌+◌, ◌*◌, ◌/◌, ◌%◌, ◌^◌, ◌==◌, Bool, true, ◌||◌, if◌then◌else◌, []}
use Rattle.arm_core.specs.Registers.{RegisterState, register, next, put}
use Rattle.arm_core.specs.DataProcessing.{sum_of}
use Rattle.arm_core.specs.Transfers.{signed_half}
use Rattle.arm_core.specs.Multiplies.{long_product, with_long}
use Rattle.arm_core.specs.Saturating.{with_lost}
use Rattle.arm_core.specs.Effects.{Meaning}
use Rattle.arm_core.specs.declared.classes.Class.TheVariants.{Multiply, LongMultiply}

-- Multiplies of halves (ARM manual, A4.1 "SMLA<x><y>", "SMLAL<x><y>", "SMLAW<y>", "SMUL<x><y>", "SMULW<y>"). N, Z, C and V stay.

-- SignExtend(Rm[31:16]) or SignExtend(Rm[15:0]): the top or the bottom half, as a signed word
abbrev pub chosen_half : Bool → ℕ → ℕ
chosen_half top word = signed_half (if top then word / 2 ^ 16 else word)

-- the product of two halves
abbrev pub half_product : Bool → Bool → ℕ → ℕ → ℕ
half_product x y rm rs = chosen_half x rm * chosen_half y rs % 2 ^ 32

-- (Rm * SignExtend(half of Rs))[47:16]
abbrev pub wide_product : Bool → ℕ → ℕ → ℕ
wide_product y rm rs = long_product true rm (chosen_half y rs) 0 / 2 ^ 16 % 2 ^ 32

-- SMULxy and SMULWy: the product
abbrev pub product_meaning : RegisterState → ℕ → ℕ → Meaning
product_meaning s rd product = record { accesses = []; after = λ values. put rd product (next s); class = Multiply; jumps = rd == 15 }

-- SMLAxy and SMLAWy: the product and rn; Q is set where their sum overflows
abbrev pub accumulated_meaning : RegisterState → ℕ → ℕ → ℕ → Meaning
accumulated_meaning s rd product added =
    let sum = sum_of product added 0 in
    record { accesses = []; after = λ values. put rd sum.value (with_lost sum.overflow (next s)); class = Multiply; jumps = rd == 15 }

-- SMLALxy: the product of two halves is added to 64 bits, of which rd_lo has the low word
abbrev pub half_long_meaning : RegisterState → Bool → Bool → ℕ → ℕ → ℕ → ℕ → Meaning
half_long_meaning s x y rd_lo rd_hi rm rs =
    let added = register s rd_lo + 2 ^ 32 * register s rd_hi in
    let product = long_product true (chosen_half x (register s rm)) (chosen_half y (register s rs)) added in
    record { accesses = []; after = λ values. with_long rd_lo rd_hi product (next s); class = LongMultiply; jumps = rd_lo == 15 || rd_hi == 15 }
