-- What is read of a statement is its instruction: the rows of ARM's with registers, numbers and targets.
use Rattle.asm_text.proofs.Words.{ℕ, ◌≡◌, ◌<◌, ◌/◌, ◌%◌, ◌^◌, Bool, true, false, List, [], ◌∷◌, ◌++◌, refl, ap, ◌∙◌, arith, Some, codes, ◌==◌}
use Rattle.asm_text.proofs.Words.{HasFields, Condition, Al, Instr, Bx, BlxRegister, Bkpt, Clz, Saturating, Smla, Smlaw, Smulw, Smlal, Smul, Mul, Mla}
use Rattle.asm_text.proofs.Words.{LongMultiply, Branch, Swi, BlxTarget, arm_target, half_target, arm_row, half_letter, long_name, saturating_name}
use Rattle.asm_text.proofs.Words.{read, hex_at, on, statement, hex, joined, register_name, where_set, Row, ARM_STEMS}
use Rattle.asm_text.specs.Reader.ArmRows.{blx_at, branch_at, distance_read}
use Rattle.asm_text.proofs.Again.{hex_again, one_again, two_again, three_again, four_again}
use Rattle.asm_text.proofs.ArmStems
use Rattle.asm_text.proofs.ArmStems.{IsNamed}
use Rattle.asm_text.proofs.NameLaws.{read_on}

-- what is read of the instruction's statement at an address is the instruction
abbrev pub IsRead : ℕ → Instr → Type 0
IsRead at i = read ARM_STEMS arm_row at (statement at i) ≡ Some (Row i)

-- a statement is read where its operands give its row's fields
pub row_read : (at : ℕ) (nm : List ℕ) (row : Instr) (cond : Condition) (operands : List (List ℕ)) (i : Instr) → IsNamed nm row →
    arm_row at row cond (joined (codes ", ") operands) ≡ i → read ARM_STEMS arm_row at (on nm cond operands) ≡ Some (Row i)
row_read at nm row cond operands i named e = read_on ARM_STEMS arm_row at nm (Row row) cond operands named ∙ ap (λ (x : Instr). Some (Row x)) e

pub bx_read : (at : ℕ) (cond : Condition) (rm : ℕ) → HasFields (Bx cond rm) → IsRead at (Bx cond rm)
unfolding arm_row
bx_read at cond rm h = row_read at (codes "bx") (Bx Al 0) cond (register_name rm ∷ []) (Bx cond rm) ArmStems.bx_stem (ap (Bx cond) (one_again rm h))

pub clz_read : (at : ℕ) (cond : Condition) (rd rm : ℕ) → HasFields (Clz cond rd rm) → IsRead at (Clz cond rd rm)
unfolding arm_row
clz_read at cond rd rm h =
    row_read at (codes "clz") (Clz Al 0 0) cond (register_name rd ∷ register_name rm ∷ []) (Clz cond rd rm) ArmStems.clz_stem
    (ap (λ (r : ℕ × ℕ). Clz cond r.0 r.1) (two_again rd rm h.0 h.1))

pub saturating_read : (at : ℕ) (cond : Condition) (double subtract : Bool) (rd rm rn : ℕ) → HasFields (Saturating cond double subtract rd rm rn) → IsRead at (Saturating cond double subtract rd rm rn)
unfolding arm_row
saturating_read at cond double subtract rd rm rn h =
    row_read at (saturating_name double subtract) (Saturating Al double subtract 0 0 0) cond (register_name rd ∷ register_name rm ∷ register_name rn ∷ []) (Saturating cond double subtract rd rm rn) (ArmStems.saturating_stem double subtract)
    (ap (λ (r : ℕ × ℕ × ℕ). Saturating cond double subtract r.0 r.1 r.2) (three_again rd rm rn h.0 h.1 h.2))

pub smla_read : (at : ℕ) (cond : Condition) (x y : Bool) (rd rm rs rn : ℕ) → HasFields (Smla cond x y rd rm rs rn) → IsRead at (Smla cond x y rd rm rs rn)
unfolding arm_row
smla_read at cond x y rd rm rs rn h =
    row_read at (codes "smla" ++ (half_letter x ++ half_letter y)) (Smla Al x y 0 0 0 0) cond (register_name rd ∷ register_name rm ∷ register_name rs ∷ register_name rn ∷ []) (Smla cond x y rd rm rs rn) (ArmStems.smla_stem x y)
    (ap (λ (r : ℕ × ℕ × ℕ × ℕ). Smla cond x y r.0 r.1 r.2 r.3) (four_again rd rm rs rn h.0 h.1 h.2 h.3))

pub smlaw_read : (at : ℕ) (cond : Condition) (y : Bool) (rd rm rs rn : ℕ) → HasFields (Smlaw cond y rd rm rs rn) → IsRead at (Smlaw cond y rd rm rs rn)
unfolding arm_row
smlaw_read at cond y rd rm rs rn h =
    row_read at (codes "smlaw" ++ half_letter y) (Smlaw Al y 0 0 0 0) cond (register_name rd ∷ register_name rm ∷ register_name rs ∷ register_name rn ∷ []) (Smlaw cond y rd rm rs rn) (ArmStems.smlaw_stem y)
    (ap (λ (r : ℕ × ℕ × ℕ × ℕ). Smlaw cond y r.0 r.1 r.2 r.3) (four_again rd rm rs rn h.0 h.1 h.2 h.3))

pub smulw_read : (at : ℕ) (cond : Condition) (y : Bool) (rd rm rs : ℕ) → HasFields (Smulw cond y rd rm rs) → IsRead at (Smulw cond y rd rm rs)
unfolding arm_row
smulw_read at cond y rd rm rs h =
    row_read at (codes "smulw" ++ half_letter y) (Smulw Al y 0 0 0) cond (register_name rd ∷ register_name rm ∷ register_name rs ∷ []) (Smulw cond y rd rm rs) (ArmStems.smulw_stem y)
    (ap (λ (r : ℕ × ℕ × ℕ). Smulw cond y r.0 r.1 r.2) (three_again rd rm rs h.0 h.1 h.2))

pub smlal_read : (at : ℕ) (cond : Condition) (x y : Bool) (rd_lo rd_hi rm rs : ℕ) → HasFields (Smlal cond x y rd_lo rd_hi rm rs) → IsRead at (Smlal cond x y rd_lo rd_hi rm rs)
unfolding arm_row
smlal_read at cond x y rd_lo rd_hi rm rs h =
    row_read at (codes "smlal" ++ (half_letter x ++ half_letter y)) (Smlal Al x y 0 0 0 0) cond (register_name rd_lo ∷ register_name rd_hi ∷ register_name rm ∷ register_name rs ∷ []) (Smlal cond x y rd_lo rd_hi rm rs) (ArmStems.smlal_stem x y)
    (ap (λ (r : ℕ × ℕ × ℕ × ℕ). Smlal cond x y r.0 r.1 r.2 r.3) (four_again rd_lo rd_hi rm rs h.0 h.1 h.2 h.3))

pub smul_read : (at : ℕ) (cond : Condition) (x y : Bool) (rd rm rs : ℕ) → HasFields (Smul cond x y rd rm rs) → IsRead at (Smul cond x y rd rm rs)
unfolding arm_row
smul_read at cond x y rd rm rs h =
    row_read at (codes "smul" ++ (half_letter x ++ half_letter y)) (Smul Al x y 0 0 0) cond (register_name rd ∷ register_name rm ∷ register_name rs ∷ []) (Smul cond x y rd rm rs) (ArmStems.smul_stem x y)
    (ap (λ (r : ℕ × ℕ × ℕ). Smul cond x y r.0 r.1 r.2) (three_again rd rm rs h.0 h.1 h.2))

pub mul_read : (at : ℕ) (cond : Condition) (set_flags : Bool) (rd rm rs : ℕ) → HasFields (Mul cond set_flags rd rm rs) → IsRead at (Mul cond set_flags rd rm rs)
unfolding arm_row
mul_read at cond set_flags rd rm rs h =
    row_read at (codes "mul" ++ where_set set_flags (codes "s")) (Mul Al set_flags 0 0 0) cond (register_name rd ∷ register_name rm ∷ register_name rs ∷ []) (Mul cond set_flags rd rm rs) (ArmStems.mul_stem set_flags)
    (ap (λ (r : ℕ × ℕ × ℕ). Mul cond set_flags r.0 r.1 r.2) (three_again rd rm rs h.0 h.1 h.2))

pub mla_read : (at : ℕ) (cond : Condition) (set_flags : Bool) (rd rm rs rn : ℕ) → HasFields (Mla cond set_flags rd rm rs rn) → IsRead at (Mla cond set_flags rd rm rs rn)
unfolding arm_row
mla_read at cond set_flags rd rm rs rn h =
    row_read at (codes "mla" ++ where_set set_flags (codes "s")) (Mla Al set_flags 0 0 0 0) cond (register_name rd ∷ register_name rm ∷ register_name rs ∷ register_name rn ∷ []) (Mla cond set_flags rd rm rs rn) (ArmStems.mla_stem set_flags)
    (ap (λ (r : ℕ × ℕ × ℕ × ℕ). Mla cond set_flags r.0 r.1 r.2 r.3) (four_again rd rm rs rn h.0 h.1 h.2 h.3))

pub long_multiply_read : (at : ℕ) (cond : Condition) (signed accumulate set_flags : Bool) (rd_lo rd_hi rm rs : ℕ) → HasFields (LongMultiply cond signed accumulate set_flags rd_lo rd_hi rm rs) → IsRead at (LongMultiply cond signed accumulate set_flags rd_lo rd_hi rm rs)
unfolding arm_row
long_multiply_read at cond signed accumulate set_flags rd_lo rd_hi rm rs h =
    row_read at (long_name signed accumulate ++ where_set set_flags (codes "s")) (LongMultiply Al signed accumulate set_flags 0 0 0 0) cond (register_name rd_lo ∷ register_name rd_hi ∷ register_name rm ∷ register_name rs ∷ []) (LongMultiply cond signed accumulate set_flags rd_lo rd_hi rm rs) (ArmStems.long_multiply_stem signed accumulate set_flags)
    (ap (λ (r : ℕ × ℕ × ℕ × ℕ). LongMultiply cond signed accumulate set_flags r.0 r.1 r.2 r.3) (four_again rd_lo rd_hi rm rs h.0 h.1 h.2 h.3))

-- a number below the bound that its field has
within : (n bound : ℕ) → n < bound → n % bound ≡ n
within n bound h = grind arith

number_read : (n : ℕ) → n < 2 ^ 32 → (hex_at (hex n ++ [])).0 ≡ n
number_read n h = ap (λ (p : ℕ × List ℕ). p.0) (hex_again n [] h refl)

pub bkpt_read : (at immed : ℕ) → HasFields (Bkpt immed) → IsRead at (Bkpt immed)
unfolding arm_row
bkpt_read at immed h =
    let e : (hex_at (hex immed ++ [])).0 ≡ immed = number_read immed (omega (arith, h)) in
    row_read at (codes "bkpt") (Bkpt 0) Al (hex immed ∷ []) (Bkpt immed) ArmStems.bkpt_stem
    (ap (λ (n : ℕ). Bkpt (n % 2 ^ 16)) e ∙ ap Bkpt (within immed (2 ^ 16) h))

pub swi_read : (at : ℕ) (cond : Condition) (immed : ℕ) → HasFields (Swi cond immed) → IsRead at (Swi cond immed)
unfolding arm_row
swi_read at cond immed h =
    let e : (hex_at (hex immed ++ [])).0 ≡ immed = number_read immed (omega (arith, h)) in
    row_read at (codes "swi") (Swi Al 0) cond (hex immed ∷ []) (Swi cond immed) ArmStems.swi_stem
    (ap (λ (n : ℕ). Swi cond (n % 2 ^ 24)) e ∙ ap (Swi cond) (within immed (2 ^ 24) h))

-- a target's distance tells the offset and bit H
away : (at by : ℕ) → at < 2 ^ 32 → by < 2 ^ 24 → distance_read at (arm_target at by) / 4 % 2 ^ 24 ≡ by
away at by ha h = grind arith

half_away : (at by : ℕ) → at < 2 ^ 32 → by < 2 ^ 24 → distance_read at (half_target at by) / 4 % 2 ^ 24 ≡ by
half_away at by ha h = grind arith

even : (at by : ℕ) → at < 2 ^ 32 → by < 2 ^ 24 → distance_read at (arm_target at by) / 2 % 2 ≡ 0
even at by ha h = grind arith

odd : (at by : ℕ) → at < 2 ^ 32 → by < 2 ^ 24 → distance_read at (half_target at by) / 2 % 2 ≡ 1
odd at by ha h = grind arith

arm_below : (at by : ℕ) → arm_target at by < 2 ^ 32
arm_below at by = omega arith

half_below : (at by : ℕ) → half_target at by < 2 ^ 32
half_below at by = omega arith

pub branch_read : (at : ℕ) (cond : Condition) (link : Bool) (by : ℕ) → at < 2 ^ 32 → HasFields (Branch cond link by) → IsRead at (Branch cond link by)
unfolding arm_row branch_at
branch_read at cond link by ha h =
    row_read at (codes "b" ++ where_set link (codes "l")) (Branch Al link 0) cond (hex (arm_target at by) ∷ []) (Branch cond link by) (ArmStems.branch_stem link)
    (ap (λ (n : ℕ). Branch cond link (distance_read at n / 4 % 2 ^ 24)) (number_read (arm_target at by) (arm_below at by)) ∙ ap (Branch cond link) (away at by ha h))

pub blx_register_read : (at : ℕ) (cond : Condition) (rm : ℕ) → HasFields (BlxRegister cond rm) → IsRead at (BlxRegister cond rm)
unfolding arm_row blx_at
blx_register_read at cond rm h =
    row_read at (codes "blx") (BlxRegister Al 0) cond (register_name rm ∷ []) (BlxRegister cond rm) ArmStems.blx_stem (ap (BlxRegister cond) (one_again rm h))

-- what blx with a target gives
target_given : (at target by : ℕ) (half : Bool) → target < 2 ^ 32 → distance_read at target / 4 % 2 ^ 24 ≡ by → (distance_read at target / 2 % 2 == 1) ≡ half →
    blx_at at Al (hex target ++ []) ≡ BlxTarget half by
unfolding blx_at
target_given at target by half ht hn hb =
    ap (λ (n : ℕ). BlxTarget (distance_read at n / 2 % 2 == 1) (distance_read at n / 4 % 2 ^ 24)) (number_read target ht)
    ∙ ap (λ (b : Bool). BlxTarget b (distance_read at target / 4 % 2 ^ 24)) hb ∙ ap (BlxTarget half) hn

pub blx_target_read : (at : ℕ) (half : Bool) (by : ℕ) → at < 2 ^ 32 → HasFields (BlxTarget half by) → IsRead at (BlxTarget half by)
unfolding arm_row
blx_target_read at true by ha h =
    let odd_one : (distance_read at (half_target at by) / 2 % 2 == 1) ≡ true = rw (odd at by ha h) refl in
    row_read at (codes "blx") (BlxRegister Al 0) Al (hex (half_target at by) ∷ []) (BlxTarget true by) ArmStems.blx_stem
    (target_given at (half_target at by) by true (half_below at by) (half_away at by ha h) odd_one)
blx_target_read at false by ha h =
    let even_one : (distance_read at (arm_target at by) / 2 % 2 == 1) ≡ false = rw (even at by ha h) refl in
    row_read at (codes "blx") (BlxRegister Al 0) Al (hex (arm_target at by) ∷ []) (BlxTarget false by) ArmStems.blx_stem
    (target_given at (arm_target at by) by false (arm_below at by) (away at by ha h) even_one)
