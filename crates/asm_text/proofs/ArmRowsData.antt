-- The same: ARM's data processing, status registers and coprocessors.
use Rattle.asm_text.proofs.Words.{ℕ, ◌≡◌, ◌<◌, ◌%◌, Bool, true, false, List, [], ◌∷◌, ◌++◌, refl, ap, ◌∙◌, arith, slice_index, drop, codes, ◌==◌}
use Rattle.asm_text.proofs.Words.{if◌then◌else◌, canonical_form, immediate, HasFields, Condition, Al, FieldMask, Operand, Immediate, DataOp}
use Rattle.asm_text.proofs.Words.{CompareOp, MoveOp, Instr, Compare, Coprocessor, Data, Move, Mrs, Msr, MsrImmediate, arm_row, compare_name}
use Rattle.asm_text.proofs.Words.{data_name, field_letters, move_name, status_name, operand, marked_at, operand_at, register_at, rotation_of, decimal}
use Rattle.asm_text.proofs.Words.{number, register_name, where_set}
use Rattle.asm_text.specs.Reader.ArmRows.{compare_at, coprocessor_at, data_at, move_at, mrs_at, msr_at}
use Rattle.asm_text.specs.Reader.Parts.{is_spsr}
use Rattle.asm_text.proofs.AddressLaws.{fields_again}
use Rattle.asm_text.proofs.Again.{decimal_again, immediate_again, operand_again, register_again}
use Rattle.asm_text.proofs.ArmRows.{IsRead, row_read}
use Rattle.asm_text.proofs.ArmStems

pub compare_read : (at : ℕ) (cond : Condition) (op : CompareOp) (rn : ℕ) (second : Operand) →
    HasFields (Compare cond op rn second) → canonical_form (Compare cond op rn second) ≡ true → IsRead at (Compare cond op rn second)
unfolding arm_row compare_at
compare_read at cond op rn second h c =
    let last : List ℕ = operand second ++ [] in
    row_read at (compare_name op) (Compare Al op 0 (Immediate 0 0)) cond (register_name rn ∷ operand second ∷ []) (Compare cond op rn second) (ArmStems.compare_stem op)
    (ap (λ (p : ℕ × List ℕ). Compare cond op p.0 (operand_at (drop 2 p.1))) (register_again rn (44 ∷ 32 ∷ last) h.0 refl)
    ∙ ap (Compare cond op rn) (operand_again second h.1 c))

pub move_read : (at : ℕ) (cond : Condition) (op : MoveOp) (set_flags : Bool) (rd : ℕ) (second : Operand) →
    HasFields (Move cond op set_flags rd second) → canonical_form (Move cond op set_flags rd second) ≡ true → IsRead at (Move cond op set_flags rd second)
unfolding arm_row move_at
move_read at cond op set_flags rd second h c =
    let last : List ℕ = operand second ++ [] in
    row_read at (move_name op ++ where_set set_flags (codes "s")) (Move Al op set_flags 0 (Immediate 0 0)) cond (register_name rd ∷ operand second ∷ []) (Move cond op set_flags rd second)
    (ArmStems.move_stem op set_flags)
    (ap (λ (p : ℕ × List ℕ). Move cond op set_flags p.0 (operand_at (drop 2 p.1))) (register_again rd (44 ∷ 32 ∷ last) h.0 refl)
    ∙ ap (Move cond op set_flags rd) (operand_again second h.1 c))

pub data_read : (at : ℕ) (cond : Condition) (op : DataOp) (set_flags : Bool) (rn rd : ℕ) (second : Operand) →
    HasFields (Data cond op set_flags rn rd second) → canonical_form (Data cond op set_flags rn rd second) ≡ true → IsRead at (Data cond op set_flags rn rd second)
unfolding arm_row data_at
data_read at cond op set_flags rn rd second h c =
    let last : List ℕ = operand second ++ [] in
    let more : List ℕ = register_name rn ++ 44 ∷ 32 ∷ last in
    row_read at (data_name op ++ where_set set_flags (codes "s")) (Data Al op set_flags 0 0 (Immediate 0 0)) cond (register_name rd ∷ register_name rn ∷ operand second ∷ []) (Data cond op set_flags rn rd second)
    (ArmStems.data_stem op set_flags)
    (ap (λ (p : ℕ × List ℕ). (let q = register_at (drop 2 p.1) in Data cond op set_flags q.0 p.0 (operand_at (drop 2 q.1)))) (register_again rd (44 ∷ 32 ∷ more) h.1 refl)
    ∙ ap (λ (q : ℕ × List ℕ). Data cond op set_flags q.0 rd (operand_at (drop 2 q.1))) (register_again rn (44 ∷ 32 ∷ last) h.0 refl)
    ∙ ap (Data cond op set_flags rn rd) (operand_again second h.2 c))

pub mrs_read : (at : ℕ) (cond : Condition) (spsr : Bool) (rd : ℕ) → HasFields (Mrs cond spsr rd) → IsRead at (Mrs cond spsr rd)
unfolding arm_row mrs_at
mrs_read at cond true rd h =
    row_read at (codes "mrs") (Mrs Al false 0) cond (register_name rd ∷ codes "spsr" ∷ []) (Mrs cond true rd) ArmStems.mrs_stem
    (ap (λ (p : ℕ × List ℕ). Mrs cond (is_spsr (drop 2 p.1)) p.0) (register_again rd (codes ", spsr") h refl))
mrs_read at cond false rd h =
    row_read at (codes "mrs") (Mrs Al false 0) cond (register_name rd ∷ codes "cpsr" ∷ []) (Mrs cond false rd) ArmStems.mrs_stem
    (ap (λ (p : ℕ × List ℕ). Mrs cond (is_spsr (drop 2 p.1)) p.0) (register_again rd (codes ", cpsr") h refl))

-- what msr gives after the fields' letters
abbrev msr_with : Condition → Bool → FieldMask × List ℕ → Instr
msr_with cond spsr fields =
    let last = drop 2 fields.1 in
    let turned = rotation_of (marked_at last).0 in
    if slice_index last 0 == 35 then MsrImmediate cond spsr fields.0 turned.0 turned.1 else Msr cond spsr fields.0 (register_at last).0

status_read : (cond : Condition) (spsr : Bool) (fields : FieldMask) (last : List ℕ) →
    msr_at cond ((status_name spsr ++ (codes "_" ++ field_letters fields)) ++ 44 ∷ 32 ∷ last) ≡ msr_with cond spsr (fields, 44 ∷ 32 ∷ last)
unfolding msr_at
status_read cond true fields last = ap (msr_with cond true) (fields_again fields (32 ∷ last))
status_read cond false fields last = ap (msr_with cond false) (fields_again fields (32 ∷ last))

pub msr_read : (at : ℕ) (cond : Condition) (spsr : Bool) (fields : FieldMask) (rm : ℕ) → HasFields (Msr cond spsr fields rm) → IsRead at (Msr cond spsr fields rm)
unfolding arm_row
msr_read at cond spsr fields rm h =
    row_read at (codes "msr") (Msr Al false (record { f = false; s = false; x = false; c = false }) 0) cond ((status_name spsr ++ (codes "_" ++ field_letters fields)) ∷ register_name rm ∷ [])
    (Msr cond spsr fields rm) ArmStems.msr_stem
    (status_read cond spsr fields (register_name rm ++ []) ∙ ap (λ (p : ℕ × List ℕ). Msr cond spsr fields p.0) (register_again rm [] h refl))

pub msr_immediate_read : (at : ℕ) (cond : Condition) (spsr : Bool) (fields : FieldMask) (rotate immed : ℕ) →
    HasFields (MsrImmediate cond spsr fields rotate immed) → canonical_form (MsrImmediate cond spsr fields rotate immed) ≡ true → IsRead at (MsrImmediate cond spsr fields rotate immed)
unfolding arm_row
msr_immediate_read at cond spsr fields rotate immed h c =
    row_read at (codes "msr") (Msr Al false (record { f = false; s = false; x = false; c = false }) 0) cond
    ((status_name spsr ++ (codes "_" ++ field_letters fields)) ∷ number (immediate rotate immed) ∷ []) (MsrImmediate cond spsr fields rotate immed) ArmStems.msr_stem
    (status_read cond spsr fields (number (immediate rotate immed) ++ [])
    ∙ ap (λ (p : ℕ × ℕ). MsrImmediate cond spsr fields p.0 p.1) (immediate_again rotate immed h.0 h.1 c))

below_eight : (n : ℕ) → n < 8 → n % 8 ≡ n
below_eight n h = grind arith

pub coprocessor_read : (at : ℕ) (cond : Condition) (load : Bool) (op1 crn rd cp op2 crm : ℕ) → HasFields (Coprocessor cond load op1 crn rd cp op2 crm) →
    IsRead at (Coprocessor cond load op1 crn rd cp op2 crm)
unfolding arm_row coprocessor_at
coprocessor_read at cond load op1 crn rd cp op2 crm h =
    let t5 : List ℕ = 44 ∷ 32 ∷ (decimal op2 ++ []) in
    let t4 : List ℕ = 44 ∷ 32 ∷ 99 ∷ (decimal crm ++ t5) in
    let t3 : List ℕ = 44 ∷ 32 ∷ 99 ∷ (decimal crn ++ t4) in
    let t2 : List ℕ = 44 ∷ 32 ∷ (register_name rd ++ t3) in
    let t1 : List ℕ = 44 ∷ 32 ∷ (decimal op1 ++ t2) in
    row_read at (if load then codes "mrc" else codes "mcr") (Coprocessor Al load 0 0 0 0 0 0) cond
    ((codes "p" ++ decimal cp) ∷ decimal op1 ∷ register_name rd ∷ (codes "c" ++ decimal crn) ∷ (codes "c" ++ decimal crm) ∷ decimal op2 ∷ [])
    (Coprocessor cond load op1 crn rd cp op2 crm) (ArmStems.coprocessor_stem load)
    (rw (
      decimal_again cp t1 h.3 refl,
      decimal_again op1 t2 (omega (arith, h)) refl,
      register_again rd t3 h.2 refl,
      decimal_again crn t4 h.1 refl,
      decimal_again crm t5 h.5 refl,
      decimal_again op2 [] (omega (arith, h)) refl,
      below_eight op1 h.0,
      below_eight op2 h.4,
    ) refl)
