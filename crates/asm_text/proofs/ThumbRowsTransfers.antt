-- The operands of Thumb's transfers and branches are read as what they were written for.
use Rattle.asm_text.proofs.Words.{ℕ, ◌≡◌, ◌<◌, ◌+◌, ◌*◌, ◌/◌, ◌%◌, ◌^◌, Bool, true, false, List, [], ◌∷◌, ◌++◌, refl, ap, ◌∙◌, arith, append_assoc}
use Rattle.asm_text.proofs.Words.{append-nil, codes, drop, if◌then◌else◌, nat_le, thumb_target, at_offset, hex_at, marked_at, one_at, register_at}
use Rattle.asm_text.proofs.Words.{registers_at, joined, number, hex, register_name, members, register_list, Condition, ThumbTransferOp}
use Rattle.asm_text.proofs.Words.{ThumbLoadLiteral, ThumbRegisterOffset, ThumbImmediateOffset, ThumbHalfOffset, ThumbStackOffset, ThumbPushPop}
use Rattle.asm_text.proofs.Words.{ThumbMultiple, ThumbBranchIf, ThumbBranch}
use Rattle.asm_text.specs.Reader.ThumbRows.{transfer_row, number_offset, word_offset, byte_offset, half_offset, push_pop_row, multiple_row, halves_to, branch_by}
use Rattle.asm_text.proofs.Again.{register_again, marked_again, hex_again}
use Rattle.asm_text.proofs.AddressLaws.{registers_again}
use Rattle.asm_text.proofs.ThumbRows.{before_comma, other}
use Rattle.arm_words.specs.Parts.{condition_number}
use Rattle.arm_words.specs.declared.parts.Condition.TheVariants as conditions
use Rattle.arm_words.specs.declared.operations.ThumbTransferOp.TheVariants as transfer_ops

-- a register, and a base and an offset in brackets
operands : (rd rn : ℕ) (by : List ℕ) →
    joined (codes ", ") (register_name rd ∷ at_offset rn by ∷ []) ≡ register_name rd ++ 44 ∷ 32 ∷ 91 ∷ (register_name rn ++ 44 ∷ 32 ∷ (by ++ 93 ∷ []))
operands rd rn by = ap (λ (x : List ℕ). register_name rd ++ 44 ∷ 32 ∷ 91 ∷ x) (append-nil (register_name rn ++ 44 ∷ 32 ∷ (by ++ 93 ∷ [])))

pub register_offset : (op : ThumbTransferOp) (rm rn rd : ℕ) → rm < 8 → rn < 8 → rd < 8 →
    transfer_row op (joined (codes ", ") (register_name rd ∷ at_offset rn (register_name rm) ∷ [])) ≡ ThumbRegisterOffset op rm rn rd
unfolding transfer_row
register_offset op rm rn rd hm hn hd =
    let by : List ℕ = register_name rm ++ 93 ∷ [] in
    let r1 = before_comma rd (91 ∷ (register_name rn ++ 44 ∷ 32 ∷ by)) (omega arith) in
    let r2 = before_comma rn by (omega arith) in
    let r3 : one_at by ≡ rm = ap (λ (p : ℕ × List ℕ). p.0) (register_again rm (93 ∷ []) (omega arith) refl) in
    let em : rm % 8 ≡ rm = omega arith in
    let en : rn % 8 ≡ rn = omega arith in
    let ed : rd % 8 ≡ rd = omega arith in
    ap (transfer_row op) (operands rd rn (register_name rm)) ∙ rw (r1, r2, r3, em, en, ed) refl

-- a number as offset
at_number : (op : ThumbTransferOp) (rn rd n : ℕ) → rn < 16 → rd < 8 → n < 2 ^ 32 →
    transfer_row op (joined (codes ", ") (register_name rd ∷ at_offset rn (number n) ∷ [])) ≡ number_offset op rn rd n
unfolding transfer_row
at_number op rn rd n hn hd h =
    let by : List ℕ = number n ++ 93 ∷ [] in
    let r1 = before_comma rd (91 ∷ (register_name rn ++ 44 ∷ 32 ∷ by)) (omega arith) in
    let r2 = before_comma rn by hn in
    let r3 : marked_at by ≡ (n, 93 ∷ []) = marked_again n (93 ∷ []) h refl in
    let ed : rd % 8 ≡ rd = omega arith in
    ap (transfer_row op) (operands rd rn (number n)) ∙ rw (r1, r2, r3, ed) refl

abbrev pub word_op : Bool → ThumbTransferOp
word_op load = if load then transfer_ops.Ldr else transfer_ops.Str

abbrev pub byte_op : Bool → ThumbTransferOp
byte_op load = if load then transfer_ops.Ldrb else transfer_ops.Strb

abbrev pub half_op : Bool → ThumbTransferOp
half_op load = if load then transfer_ops.Ldrh else transfer_ops.Strh

of_word : (load : Bool) (rn rd n : ℕ) → number_offset (word_op load) rn rd n ≡ word_offset load rn rd n
unfolding number_offset
of_word true rn rd n = refl
of_word false rn rd n = refl

of_byte : (load : Bool) (rn rd n : ℕ) → number_offset (byte_op load) rn rd n ≡ byte_offset load rn rd n
unfolding number_offset
of_byte true rn rd n = refl
of_byte false rn rd n = refl

of_half : (load : Bool) (rn rd n : ℕ) → number_offset (half_op load) rn rd n ≡ half_offset load rn rd n
unfolding number_offset
of_half true rn rd n = refl
of_half false rn rd n = refl

pub load_literal : (rd n : ℕ) → rd < 8 → n < 256 →
    transfer_row transfer_ops.Ldr (joined (codes ", ") (register_name rd ∷ at_offset 15 (number (4 * n)) ∷ [])) ≡ ThumbLoadLiteral rd n
load_literal rd n hd h =
    let e : 4 * n / 4 % 256 ≡ n = omega arith in
    at_number transfer_ops.Ldr 15 rd (4 * n) (omega arith) hd (omega arith) ∙ of_word true 15 rd (4 * n) ∙ ap (ThumbLoadLiteral rd) e

pub stack_offset : (load : Bool) (rd n : ℕ) → rd < 8 → n < 256 →
    transfer_row (word_op load) (joined (codes ", ") (register_name rd ∷ at_offset 13 (number (4 * n)) ∷ [])) ≡ ThumbStackOffset load rd n
stack_offset load rd n hd h =
    let e : 4 * n / 4 % 256 ≡ n = omega arith in
    at_number (word_op load) 13 rd (4 * n) (omega arith) hd (omega arith) ∙ of_word load 13 rd (4 * n) ∙ ap (ThumbStackOffset load rd) e

pub word_number : (load : Bool) (n rn rd : ℕ) → n < 32 → rn < 8 → rd < 8 →
    transfer_row (word_op load) (joined (codes ", ") (register_name rd ∷ at_offset rn (number (4 * n)) ∷ [])) ≡ ThumbImmediateOffset false load n rn rd
word_number load n rn rd h hn hd =
    let e : 4 * n / 4 % 32 ≡ n = omega arith in
    let en : rn % 8 ≡ rn = omega arith in
    let low : word_offset load rn rd (4 * n) ≡ ThumbImmediateOffset false load n rn rd = rw (other rn 13 (omega arith), other rn 15 (omega arith), e, en) refl in
    at_number (word_op load) rn rd (4 * n) (omega arith) hd (omega arith) ∙ of_word load rn rd (4 * n) ∙ low

pub byte_number : (load : Bool) (n rn rd : ℕ) → n < 32 → rn < 8 → rd < 8 →
    transfer_row (byte_op load) (joined (codes ", ") (register_name rd ∷ at_offset rn (number n) ∷ [])) ≡ ThumbImmediateOffset true load n rn rd
byte_number load n rn rd h hn hd =
    let e : n % 32 ≡ n = omega arith in
    let en : rn % 8 ≡ rn = omega arith in
    at_number (byte_op load) rn rd n (omega arith) hd (omega arith) ∙ of_byte load rn rd n ∙ rw (e, en) refl

pub half_number : (load : Bool) (n rn rd : ℕ) → n < 32 → rn < 8 → rd < 8 →
    transfer_row (half_op load) (joined (codes ", ") (register_name rd ∷ at_offset rn (number (2 * n)) ∷ [])) ≡ ThumbHalfOffset load n rn rd
half_number load n rn rd h hn hd =
    let e : 2 * n / 2 % 32 ≡ n = omega arith in
    let en : rn % 8 ≡ rn = omega arith in
    at_number (half_op load) rn rd (2 * n) (omega arith) hd (omega arith) ∙ of_half load rn rd (2 * n) ∙ rw (e, en) refl

-- lists
list_again : (list : ℕ) → list < 2 ^ 16 → registers_at (drop 1 (register_list list ++ [])) ≡ (list, 125 ∷ [])
list_again list h = ap registers_at (append-nil (members list ++ 125 ∷ [])) ∙ registers_again list [] h

-- the register beside the low ones
abbrev pub extra_bit : Bool → Bool → ℕ
extra_bit load extra = if extra then (if load then 2 ^ 15 else 2 ^ 14) else 0

extra_again : (load extra : Bool) (list : ℕ) → list < 256 →
    (nat_le 256 (list + extra_bit load extra) ≡ extra) × ((list + extra_bit load extra) % 256 ≡ list) × (list + extra_bit load extra < 2 ^ 16)
extra_again load false list h = (grind arith, omega arith, omega arith)
extra_again true true list h = (grind arith, omega arith, omega arith)
extra_again false true list h = (grind arith, omega arith, omega arith)

pub push_pop : (load extra : Bool) (list : ℕ) → list < 256 →
    push_pop_row load (joined (codes ", ") (register_list (list + extra_bit load extra) ∷ [])) ≡ ThumbPushPop load extra list
unfolding push_pop_row
push_pop load extra list h =
    let e = extra_again load extra list h in
    rw (list_again (list + extra_bit load extra) e.2, e.0, e.1) refl

pub multiple : (load : Bool) (rn list : ℕ) → rn < 8 → list < 256 →
    multiple_row load (joined (codes ", ") ((register_name rn ++ codes "!") ∷ register_list list ∷ [])) ≡ ThumbMultiple load rn list
unfolding multiple_row
multiple load rn list hn h =
    let rest : List ℕ = 44 ∷ 32 ∷ 123 ∷ ((members list ++ 125 ∷ []) ++ []) in
    let r1 : register_at (register_name rn ++ 33 ∷ rest) ≡ (rn, 33 ∷ rest) = register_again rn (33 ∷ rest) (omega arith) refl in
    let r2 : registers_at ((members list ++ 125 ∷ []) ++ []) ≡ (list, 125 ∷ []) = list_again list (omega arith) in
    let en : rn % 8 ≡ rn = omega arith in
    let el : list % 256 ≡ list = omega arith in
    ap (multiple_row load) (append_assoc (register_name rn) (codes "!") rest) ∙ rw (r1, r2, en, el) refl

-- the distance of a target
away_short : (at n : ℕ) → at < 2 ^ 32 → n < 2 ^ 8 → halves_to at (thumb_target at (2 ^ 7) n) % 2 ^ 8 ≡ n
away_short at n ha hn = grind arith

away_long : (at n : ℕ) → at < 2 ^ 32 → n < 2 ^ 11 → halves_to at (thumb_target at (2 ^ 10) n) % 2 ^ 11 ≡ n
away_long at n ha hn = grind arith

target_below : (at half n : ℕ) → thumb_target at half n < 2 ^ 32
target_below at half n = omega arith

hex_last : (at half n : ℕ) → hex_at (joined (codes ", ") (hex (thumb_target at half n) ∷ [])) ≡ (thumb_target at half n, [])
hex_last at half n = hex_again (thumb_target at half n) [] (target_below at half n) refl

pub branch : (at n : ℕ) → at < 2 ^ 32 → n < 2 ^ 11 →
    branch_by conditions.Al (halves_to at (hex_at (joined (codes ", ") (hex (thumb_target at (2 ^ 10) n) ∷ []))).0) ≡ ThumbBranch n
branch at n ha h = rw (hex_last at (2 ^ 10) n) (ap ThumbBranch (away_long at n ha h))

-- with a condition
conditional : (cond : Condition) (by : ℕ) → condition_number cond < 14 → branch_by cond by ≡ ThumbBranchIf cond (by % 2 ^ 8)
conditional conditions.Eq by h = refl
conditional conditions.Ne by h = refl
conditional conditions.Cs by h = refl
conditional conditions.Cc by h = refl
conditional conditions.Mi by h = refl
conditional conditions.Pl by h = refl
conditional conditions.Vs by h = refl
conditional conditions.Vc by h = refl
conditional conditions.Hi by h = refl
conditional conditions.Ls by h = refl
conditional conditions.Ge by h = refl
conditional conditions.Lt by h = refl
conditional conditions.Gt by h = refl
conditional conditions.Le by h = refl
conditional conditions.Al by h = absurd (omega arith)

pub branch_if : (at : ℕ) (cond : Condition) (n : ℕ) → at < 2 ^ 32 → condition_number cond < 14 → n < 2 ^ 8 →
    branch_by cond (halves_to at (hex_at (joined (codes ", ") (hex (thumb_target at (2 ^ 7) n) ∷ []))).0) ≡ ThumbBranchIf cond n
branch_if at cond n ha hc h =
    rw (hex_last at (2 ^ 7) n) (conditional cond _ hc ∙ ap (ThumbBranchIf cond) (away_short at n ha h))
