-- The same: ARM's transfers.
use Rattle.asm_text.proofs.Words.{ℕ, ◌≡◌, ◌<◌, ◌*◌, ◌/◌, ◌%◌, ◌^◌, Bool, true, false, List, [], ◌∷◌, ◌++◌, refl, ap, ◌∙◌, arith, append_assoc}
use Rattle.asm_text.proofs.Words.{append-nil, drop, codes, if◌then◌else◌, canonical_form, HasFields, HasShortOffset, Condition, Al, Offset, Number}
use Rattle.asm_text.proofs.Words.{ShortOffset, ShortNumber, ShortRegister, HalfOp, DoubleTransfer, HalfTransfer, Multiple, Pld, Swap, Transfer}
use Rattle.asm_text.proofs.Words.{arm_row, block_mode, half_name, load_name, address, at_offset, offset, short_offset, address_at, register_at}
use Rattle.asm_text.proofs.Words.{members, register_name, register_list, where_set, Address}
use Rattle.std.proofs.Common.{not, ◌&&◌, ◌||◌}
use Rattle.asm_text.specs.Reader.ArmRows.{double_transfer_at, half_transfer_at, multiple_at, pld_at, short_of, swap_at, transfer_at}
use Rattle.asm_text.proofs.AddressLaws.{address_again, at_offset_again, lengthened, registers_again, short_address_again}
use Rattle.asm_text.proofs.Again.{register_again}
use Rattle.asm_text.proofs.ArmRows.{IsRead, row_read}
use Rattle.asm_text.proofs.ArmStems

pub swap_read : (at : ℕ) (cond : Condition) (byte : Bool) (rd rm rn : ℕ) → HasFields (Swap cond byte rd rm rn) → IsRead at (Swap cond byte rd rm rn)
unfolding arm_row swap_at
swap_read at cond byte rd rm rn h =
    let t2 : List ℕ = 44 ∷ 32 ∷ 91 ∷ ((register_name rn ++ 93 ∷ []) ++ []) in
    let t1 : List ℕ = 44 ∷ 32 ∷ (register_name rm ++ t2) in
    row_read at (codes "swp" ++ where_set byte (codes "b")) (Swap Al byte 0 0 0) cond (register_name rd ∷ register_name rm ∷ (codes "[" ++ (register_name rn ++ codes "]")) ∷ []) (Swap cond byte rd rm rn)
    (ArmStems.swap_stem byte)
    (ap (λ (p : ℕ × List ℕ). (let q = register_at (drop 2 p.1) in Swap cond byte p.0 q.0 (register_at (drop 3 q.1)).0)) (register_again rd t1 h.0 refl)
    ∙ ap (λ (q : ℕ × List ℕ). Swap cond byte rd q.0 (register_at (drop 3 q.1)).0) (register_again rm t2 h.1 refl)
    ∙ ap (λ (x : List ℕ). Swap cond byte rd rm (register_at x).0) (append-nil (register_name rn ++ 93 ∷ []))
    ∙ ap (λ (p : ℕ × List ℕ). Swap cond byte rd rm p.0) (register_again rn (93 ∷ []) h.2 refl))

-- a short offset is read as a long one
short_again : (off : ShortOffset) → HasShortOffset off → short_of (lengthened off) ≡ off
short_again (ShortNumber n) h = ap ShortNumber (omega arith)
short_again (ShortRegister rm) h = refl

-- the mark tells the write-back of a canonical instruction
marked_back : (pre write_back : Bool) → (pre || not write_back) ≡ true → (pre && write_back) ≡ write_back
marked_back true write_back c = refl
marked_back false true c = absurd cc
marked_back false false c = refl

-- so do the mark and a name's t together
told_back : (pre write_back : Bool) → ((not pre && write_back) || (pre && write_back)) ≡ write_back
told_back true write_back = refl
told_back false true = refl
told_back false false = refl

pub half_transfer_read : (at : ℕ) (cond : Condition) (op : HalfOp) (pre up write_back : Bool) (rn rd : ℕ) (by : ShortOffset) → HasFields (HalfTransfer cond op pre up write_back rn rd by) →
    canonical_form (HalfTransfer cond op pre up write_back rn rd by) ≡ true → IsRead at (HalfTransfer cond op pre up write_back rn rd by)
unfolding arm_row half_transfer_at
half_transfer_read at cond op pre up write_back rn rd by h c =
    let last : List ℕ = address pre write_back rn (short_offset up by) ++ [] in
    row_read at (half_name op) (HalfTransfer Al op false false false 0 0 (ShortNumber 0)) cond (register_name rd ∷ address pre write_back rn (short_offset up by) ∷ [])
    (HalfTransfer cond op pre up write_back rn rd by) (ArmStems.half_transfer_stem op)
    (ap (λ (p : ℕ × List ℕ). (let a = address_at (drop 2 p.1) in HalfTransfer cond op a.pre a.up a.write_back a.rn p.0 (short_of a.offset))) (register_again rd (44 ∷ 32 ∷ last) h.1 refl)
    ∙ ap (λ (a : Address). HalfTransfer cond op a.pre a.up a.write_back a.rn rd (short_of a.offset)) (short_address_again pre up write_back rn by h.0 h.2)
    ∙ ap (λ (b : Bool). HalfTransfer cond op pre up b rn rd (short_of (lengthened by))) (marked_back pre write_back c)
    ∙ ap (HalfTransfer cond op pre up write_back rn rd) (short_again by h.2))

even_again : (rd : ℕ) → rd % 2 ≡ 0 → rd / 2 * 2 ≡ rd
even_again rd h = grind arith

pub double_transfer_read : (at : ℕ) (cond : Condition) (store pre up write_back : Bool) (rn rd : ℕ) (by : ShortOffset) → HasFields (DoubleTransfer cond store pre up write_back rn rd by) →
    canonical_form (DoubleTransfer cond store pre up write_back rn rd by) ≡ true → IsRead at (DoubleTransfer cond store pre up write_back rn rd by)
unfolding arm_row double_transfer_at
double_transfer_read at cond store pre up write_back rn rd by h c =
    let last : List ℕ = address pre write_back rn (short_offset up by) ++ [] in
    row_read at (if store then codes "strd" else codes "ldrd") (DoubleTransfer Al store false false false 0 0 (ShortNumber 0)) cond (register_name rd ∷ address pre write_back rn (short_offset up by) ∷ [])
    (DoubleTransfer cond store pre up write_back rn rd by) (ArmStems.double_transfer_stem store)
    (ap (λ (p : ℕ × List ℕ). (let a = address_at (drop 2 p.1) in DoubleTransfer cond store a.pre a.up a.write_back a.rn (p.0 / 2 * 2) (short_of a.offset))) (register_again rd (44 ∷ 32 ∷ last) h.1 refl)
    ∙ ap (λ (a : Address). DoubleTransfer cond store a.pre a.up a.write_back a.rn (rd / 2 * 2) (short_of a.offset)) (short_address_again pre up write_back rn by h.0 h.3)
    ∙ ap (λ (b : Bool). DoubleTransfer cond store pre up b rn (rd / 2 * 2) (short_of (lengthened by))) (marked_back pre write_back c)
    ∙ ap (λ (n : ℕ). DoubleTransfer cond store pre up write_back rn n (short_of (lengthened by))) (even_again rd h.2)
    ∙ ap (DoubleTransfer cond store pre up write_back rn rd) (short_again by h.3))

pub transfer_read : (at : ℕ) (cond : Condition) (pre up byte write_back load : Bool) (rn rd : ℕ) (by : Offset) → HasFields (Transfer cond pre up byte write_back load rn rd by) →
    IsRead at (Transfer cond pre up byte write_back load rn rd by)
unfolding arm_row transfer_at
transfer_read at cond pre up byte write_back load rn rd by h =
    let t : Bool = not pre && write_back in
    let last : List ℕ = address pre write_back rn (offset up by) ++ [] in
    row_read at (load_name load ++ (where_set byte (codes "b") ++ where_set t (codes "t"))) (Transfer Al false false byte t load 0 0 (Number 0)) cond
    (register_name rd ∷ address pre write_back rn (offset up by) ∷ []) (Transfer cond pre up byte write_back load rn rd by) (ArmStems.transfer_stem load byte t)
    (ap (λ (p : ℕ × List ℕ). (let a = address_at (drop 2 p.1) in Transfer cond a.pre a.up byte (t || a.write_back) load a.rn p.0 a.offset)) (register_again rd (44 ∷ 32 ∷ last) h.1 refl)
    ∙ ap (λ (a : Address). Transfer cond a.pre a.up byte (t || a.write_back) load a.rn rd a.offset) (address_again pre up write_back rn by h.0 h.2)
    ∙ ap (λ (b : Bool). Transfer cond pre up byte b load rn rd by) (told_back pre write_back))

pub pld_read : (at : ℕ) (up : Bool) (rn : ℕ) (by : Offset) → HasFields (Pld up rn by) → IsRead at (Pld up rn by)
unfolding arm_row pld_at
pld_read at up rn by h =
    row_read at (codes "pld") (Pld false 0 (Number 0)) Al (at_offset rn (offset up by) ∷ []) (Pld up rn by) ArmStems.pld_stem
    (ap (λ (a : Address). Pld a.up a.rn a.offset) (at_offset_again up rn by h.0 h.1))

-- a list's text, grouped to the right
list_text : (m w : List ℕ) → ((m ++ 125 ∷ []) ++ w) ++ [] ≡ m ++ 125 ∷ (w ++ [])
list_text m w = simp (append_assoc, append-nil)

-- what a transfer of several registers gives
multiple_given : (cond : Condition) (pre up user write_back load : Bool) (rn list : ℕ) → rn < 16 → list < 2 ^ 16 →
    multiple_at pre up load cond (register_name rn ++ (where_set write_back (codes "!") ++ 44 ∷ 32 ∷ 123 ∷ (members list ++ 125 ∷ (where_set user (codes "^") ++ []))))
    ≡ Multiple cond pre up user write_back load rn list
unfolding multiple_at
multiple_given cond pre up true true load rn list hn hl = rw (register_again rn (33 ∷ 44 ∷ 32 ∷ 123 ∷ (members list ++ 125 ∷ 94 ∷ [])) hn refl, registers_again list (94 ∷ []) hl) refl
multiple_given cond pre up true false load rn list hn hl = rw (register_again rn (44 ∷ 32 ∷ 123 ∷ (members list ++ 125 ∷ 94 ∷ [])) hn refl, registers_again list (94 ∷ []) hl) refl
multiple_given cond pre up false true load rn list hn hl = rw (register_again rn (33 ∷ 44 ∷ 32 ∷ 123 ∷ (members list ++ 125 ∷ [])) hn refl, registers_again list [] hl) refl
multiple_given cond pre up false false load rn list hn hl = rw (register_again rn (44 ∷ 32 ∷ 123 ∷ (members list ++ 125 ∷ [])) hn refl, registers_again list [] hl) refl

pub multiple_read : (at : ℕ) (cond : Condition) (pre up user write_back load : Bool) (rn list : ℕ) → HasFields (Multiple cond pre up user write_back load rn list) →
    IsRead at (Multiple cond pre up user write_back load rn list)
unfolding arm_row
multiple_read at cond pre up user write_back load rn list h =
    let base : List ℕ = where_set write_back (codes "!") in
    let marks : List ℕ = where_set user (codes "^") in
    row_read at ((if load then codes "ldm" else codes "stm") ++ block_mode pre up) (Multiple Al pre up false false load 0 0) cond
    ((register_name rn ++ base) ∷ (register_list list ++ marks) ∷ []) (Multiple cond pre up user write_back load rn list) (ArmStems.multiple_stem load pre up)
    (ap (λ (x : List ℕ). multiple_at pre up load cond ((register_name rn ++ base) ++ 44 ∷ 32 ∷ 123 ∷ x)) (list_text (members list) marks)
    ∙ ap (multiple_at pre up load cond) (append_assoc (register_name rn) base (44 ∷ 32 ∷ 123 ∷ (members list ++ 125 ∷ (marks ++ []))))
    ∙ multiple_given cond pre up user write_back load rn list h.0 h.1)
