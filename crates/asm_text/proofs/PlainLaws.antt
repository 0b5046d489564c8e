-- Each statement is one line, and with its line feed no shorter than its word.
use Rattle.asm_text.proofs.Words.{ℕ, zero, suc, ◌≡◌, ◌≢◌, ◌≤◌, ◌+◌, ◌*◌, ◌^◌, Bool, true, false, List, [], ◌∷◌, ◌++◌, length, refl, arith, Option}
use Rattle.asm_text.proofs.Words.{Some, None, HasNoFeed, nat_lt, codes, if◌then◌else◌, ◌==◌, ◌&&◌, not, Arch, canonical_form, immediate, decoded}
use Rattle.asm_text.proofs.Words.{Condition, Shift, FieldMask, DataOp, CompareOp, MoveOp, HalfOp, ThumbImmediateOp, ThumbDataOp, HighOp}
use Rattle.asm_text.proofs.Words.{ThumbTransferOp, Operand, Immediate, Shifted, ShiftedByRegister, Offset, Number, Register, ShortOffset, ShortNumber}
use Rattle.asm_text.proofs.Words.{ShortRegister, ThumbOperand, LowRegister, Small, Instr, Bx, BlxRegister, Bkpt, Clz, Saturating, Smla, Smlaw, Smulw}
use Rattle.asm_text.proofs.Words.{Smlal, Smul, Mul, Mla, LongMultiply, Swap, HalfTransfer, Mrs, Msr, MsrImmediate, Compare, Move, Data}
use Rattle.asm_text.proofs.Words.{DoubleTransfer, Transfer, Multiple, Branch, Coprocessor, Swi, BlxTarget, Pld, Never, ThumbAddSub, ThumbShift}
use Rattle.asm_text.proofs.Words.{ThumbImmediate, ThumbData, ThumbBx, ThumbBlxRegister, ThumbHigh, ThumbLoadLiteral, ThumbRegisterOffset}
use Rattle.asm_text.proofs.Words.{ThumbImmediateOffset, ThumbHalfOffset, ThumbStackOffset, ThumbAddress, ThumbAdjustStack, ThumbPushPop, ThumbBkpt}
use Rattle.asm_text.proofs.Words.{ThumbMultiple, ThumbBranchIf, ThumbSwi, ThumbBranch, ThumbBlxSuffix, ThumbBlPrefix, ThumbBlSuffix, Spelling}
use Rattle.asm_text.proofs.Words.{hex_digits, preceded, joined, where_set, hex, number, decimal, register_name, register_names, members}
use Rattle.asm_text.proofs.Words.{register_list, suffix, shift_name, data_name, compare_name, move_name, half_name, saturating_name, long_name}
use Rattle.asm_text.proofs.Words.{half_letter, load_name, block_mode, status_name, field_letters, thumb_data_name, high_name, transfer_name}
use Rattle.asm_text.proofs.Words.{amount_shown, shifted, operand, offset, short_offset, at_offset, address, arm_target, half_target, thumb_target, on}
use Rattle.asm_text.proofs.Words.{thumb_amount, statement, Set, unread_of, listed, spelling, raw, stated}
use Rattle.std.proofs.Common.{length-append}
use Rattle.std.specs.Prelude.{bit_and}
use Rattle.ds_base.specs.Bits.{bit}
use Rattle.arm_words.specs.declared.parts.Condition.TheVariants as conditions
use Rattle.arm_words.specs.declared.parts.Shift.TheVariants as shifts
use Rattle.arm_words.specs.declared.operations.DataOp.TheVariants as data_ops
use Rattle.arm_words.specs.declared.operations.CompareOp.TheVariants as compare_ops
use Rattle.arm_words.specs.declared.operations.MoveOp.TheVariants as move_ops
use Rattle.arm_words.specs.declared.operations.HalfOp.TheVariants as half_ops
use Rattle.arm_words.specs.declared.operations.ThumbImmediateOp.TheVariants as immediate_ops
use Rattle.arm_words.specs.declared.operations.ThumbDataOp.TheVariants as thumb_ops
use Rattle.arm_words.specs.declared.operations.HighOp.TheVariants as high_ops
use Rattle.arm_words.specs.declared.operations.ThumbTransferOp.TheVariants as transfer_ops
use Rattle.arm_words.specs.declared.spellings.Spelling.TheVariants as spellings
use Rattle.asm_text.specs.Names.{immediate_name}
use Rattle.asm_text.specs.Operands.{shift_shown, small_operand}
use Rattle.asm_text.specs.Statements.{with_operands}
use Rattle.asm_text.proofs.StartLaws.{no_feed, either_plain, plain_of, plain_append, digits_plain, hex_plain}

-- a text without line feeds that isn't empty
pub record IsPart (text : List ℕ) : Type 0 where
  pub plain : HasNoFeed text
  pub some : 1 ≤ length text

-- the same with room for a word
pub record IsLine (text : List ℕ) : Type 0 where
  pub plain : HasNoFeed text
  pub long : 3 ≤ length text

-- operands
pub data AllParts : List (List ℕ) → Type 0 where
  done : AllParts []
  more : {x : List ℕ} {xs : List (List ℕ)} → IsPart x → AllParts xs → AllParts (x ∷ xs)

part : (text : List ℕ) → no_feed text ≡ true → 1 ≤ length text → IsPart text
part text e h = record { plain = plain_of text e; some = h }

part_then : (a b : List ℕ) → IsPart a → HasNoFeed b → IsPart (a ++ b)
part_then a b x y = record { plain = plain_append a b x.plain y; some = (let h : 1 ≤ length a = x.some in omega (arith, length-append a b)) }

then_part : (a b : List ℕ) → HasNoFeed a → IsPart b → IsPart (a ++ b)
then_part a b x y = record { plain = plain_append a b x y.plain; some = (let h : 1 ≤ length b = y.some in omega (arith, length-append a b)) }

where_plain : (b : Bool) (text : List ℕ) → HasNoFeed text → HasNoFeed (where_set b text)
where_plain true text h = h
where_plain false text h = tt

either_part : (b : Bool) (x y : List ℕ) → IsPart x → IsPart y → IsPart (if b then x else y)
either_part true x y hx hy = hx
either_part false x y hx hy = hy

-- joined texts
preceded_plain : (mark : List ℕ) (xs : List (List ℕ)) → HasNoFeed mark → AllParts xs → HasNoFeed (preceded mark xs)
preceded_plain mark _ m done = tt
preceded_plain mark _ m (more {x = x} {xs = xs} h hs) = plain_append mark (x ++ preceded mark xs) m (plain_append x (preceded mark xs) h.plain (preceded_plain mark xs m hs))

joined_plain : (mark : List ℕ) (xs : List (List ℕ)) → HasNoFeed mark → AllParts xs → HasNoFeed (joined mark xs)
joined_plain mark _ m done = tt
joined_plain mark _ m (more {x = x} {xs = xs} h hs) = plain_append x (preceded mark xs) h.plain (preceded_plain mark xs m hs)

joined_part : (x : List ℕ) (xs : List (List ℕ)) → IsPart x → AllParts xs → IsPart (joined (codes ", ") (x ∷ xs))
joined_part x xs h hs = part_then x (preceded (codes ", ") xs) h (preceded_plain (codes ", ") xs (plain_of (codes ", ") refl) hs)

suffix_plain : (cond : Condition) → HasNoFeed (suffix cond)
suffix_plain conditions.Al = tt
suffix_plain conditions.Eq = plain_of (codes "eq") refl
suffix_plain conditions.Ne = plain_of (codes "ne") refl
suffix_plain conditions.Cs = plain_of (codes "cs") refl
suffix_plain conditions.Cc = plain_of (codes "cc") refl
suffix_plain conditions.Mi = plain_of (codes "mi") refl
suffix_plain conditions.Pl = plain_of (codes "pl") refl
suffix_plain conditions.Vs = plain_of (codes "vs") refl
suffix_plain conditions.Vc = plain_of (codes "vc") refl
suffix_plain conditions.Hi = plain_of (codes "hi") refl
suffix_plain conditions.Ls = plain_of (codes "ls") refl
suffix_plain conditions.Ge = plain_of (codes "ge") refl
suffix_plain conditions.Lt = plain_of (codes "lt") refl
suffix_plain conditions.Gt = plain_of (codes "gt") refl
suffix_plain conditions.Le = plain_of (codes "le") refl

-- a name, a space and operands
space_line : (name rest : List ℕ) → IsPart name → IsPart rest → IsLine (name ++ (codes " " ++ rest))
space_line name rest n r = record {
  plain = plain_append name (codes " " ++ rest) n.plain (plain_append (codes " ") rest (plain_of (codes " ") refl) r.plain);
  long = (let a : 1 ≤ length name = n.some in let b : 1 ≤ length rest = r.some in omega (arith, length-append name (codes " " ++ rest)));
}

written_line : (name x : List ℕ) (xs : List (List ℕ)) → IsPart name → IsPart x → AllParts xs → IsLine (with_operands name (x ∷ xs))
written_line name x xs n h hs = space_line name (joined (codes ", ") (x ∷ xs)) n (joined_part x xs h hs)

on_line : (name : List ℕ) (cond : Condition) (x : List ℕ) (xs : List (List ℕ)) → IsPart name → IsPart x → AllParts xs → IsLine (on name cond (x ∷ xs))
on_line name cond x xs n h hs =
    let rest : List ℕ = joined (codes ", ") (x ∷ xs) in
    let r : IsPart rest = joined_part x xs h hs in
    record {
      plain = plain_append name (suffix cond ++ (codes " " ++ rest)) n.plain (plain_append (suffix cond) (codes " " ++ rest) (suffix_plain cond) (plain_append (codes " ") rest (plain_of (codes " ") refl) r.plain));
      long = (let a : 1 ≤ length name = n.some in let b : 1 ≤ length rest = r.some in omega (arith, length-append name (suffix cond ++ (codes " " ++ rest)), length-append (suffix cond) (codes " " ++ rest)));
    }

-- numbers and registers
hex_part : (n : ℕ) → IsPart (hex n)
hex_part n = record { plain = hex_plain n; some = omega arith }

number_part : (n : ℕ) → IsPart (number n)
number_part n = then_part (codes "#") (hex n) (plain_of (codes "#") refl) (hex_part n)

decimal_part : (n : ℕ) → IsPart (decimal n)
decimal_part n = choose (nat_lt n 10) where
  high : (k n : ℕ) → 11 ≤ k → k + n ≢ 10
  high k n h e = absurd (omega arith)

  choose : (low : Bool) → IsPart (if low then (48 + n) ∷ [] else 49 ∷ (38 + n) ∷ [])
  choose true = record { plain = (high 48 n (omega arith), tt); some = omega arith }
  choose false = record { plain = (high 49 0 (omega arith), (high 38 n (omega arith), tt)); some = omega arith }

register_part : (n : ℕ) → IsPart (register_name n)
register_part n = then_part (codes "r") (decimal n) (plain_of (codes "r") refl) (decimal_part n)

one_more : (set : Bool) (x : List ℕ) (xs : List (List ℕ)) → IsPart x → AllParts xs → AllParts (if set then x ∷ xs else xs)
one_more true x xs h hs = more h hs
one_more false x xs h hs = hs

registers_parts : (left r list : ℕ) → AllParts (register_names left r list)
registers_parts zero r list = done
registers_parts (suc left) r list = one_more (bit r list) (register_name r) (register_names left (r + 1) list) (register_part r) (registers_parts left (r + 1) list)

members_plain : (list : ℕ) → HasNoFeed (members list)
unfolding members
members_plain list = joined_plain (codes ",") (register_names 16 0 list) (plain_of (codes ",") refl) (registers_parts 16 0 list)

list_part : (list : ℕ) → IsPart (register_list list)
list_part list = part_then (codes "{") (members list ++ codes "}") (part (codes "{") refl (omega arith)) (plain_append (members list) (codes "}") (members_plain list) (plain_of (codes "}") refl))

-- operands
shift_part : (shift : Shift) → IsPart (shift_name shift)
shift_part shifts.Lsl = part (codes "lsl") refl (omega arith)
shift_part shifts.Lsr = part (codes "lsr") refl (omega arith)
shift_part shifts.Asr = part (codes "asr") refl (omega arith)
shift_part shifts.Ror = part (codes "ror") refl (omega arith)

by_plain : (mark : List ℕ) (n : ℕ) → HasNoFeed mark → HasNoFeed (mark ++ number n)
by_plain mark n h = plain_append mark (number n) h (number_part n).plain

shown_plain : (shift : Shift) (amount : ℕ) → HasNoFeed (shift_shown shift amount)
shown_plain shifts.Lsl amount = either_plain (amount == 0) [] (codes ", lsl " ++ number amount) tt (by_plain (codes ", lsl ") amount (plain_of (codes ", lsl ") refl))
shown_plain shifts.Lsr amount = by_plain (codes ", lsr ") (amount_shown amount) (plain_of (codes ", lsr ") refl)
shown_plain shifts.Asr amount = by_plain (codes ", asr ") (amount_shown amount) (plain_of (codes ", asr ") refl)
shown_plain shifts.Ror amount = either_plain (amount == 0) (codes ", rrx") (codes ", ror " ++ number amount) (plain_of (codes ", rrx") refl) (by_plain (codes ", ror ") amount (plain_of (codes ", ror ") refl))

shifted_part : (rm : ℕ) (shift : Shift) (amount : ℕ) → IsPart (shifted rm shift amount)
shifted_part rm shift amount = part_then (register_name rm) (shift_shown shift amount) (register_part rm) (shown_plain shift amount)

operand_part : (o : Operand) → IsPart (operand o)
operand_part (Immediate rotate immed) = number_part (immediate rotate immed)
operand_part (Shifted rm shift amount) = shifted_part rm shift amount
operand_part (ShiftedByRegister rm shift rs) =
    part_then (register_name rm) (codes ", " ++ (shift_name shift ++ (codes " " ++ register_name rs))) (register_part rm)
    (plain_append (codes ", ") (shift_name shift ++ (codes " " ++ register_name rs)) (plain_of (codes ", ") refl)
    (plain_append (shift_name shift) (codes " " ++ register_name rs) (shift_part shift).plain
    (plain_append (codes " ") (register_name rs) (plain_of (codes " ") refl) (register_part rs).plain)))

small_part : (o : ThumbOperand) → IsPart (small_operand o)
small_part (LowRegister rm) = register_part rm
small_part (Small immed) = number_part immed

minus_plain : (up : Bool) → HasNoFeed (where_set (not up) (codes "-"))
minus_plain up = where_plain (not up) (codes "-") (plain_of (codes "-") refl)

signed_part : (up : Bool) (text : List ℕ) → IsPart text → IsPart (where_set (not up) (codes "-") ++ text)
signed_part up text h = then_part (where_set (not up) (codes "-")) text (minus_plain up) h

offset_part : (up : Bool) (o : Offset) → IsPart (offset up o)
offset_part up (Number n) = then_part (codes "#") (where_set (not up) (codes "-") ++ hex n) (plain_of (codes "#") refl) (signed_part up (hex n) (hex_part n))
offset_part up (Register rm shift amount) = signed_part up (shifted rm shift amount) (shifted_part rm shift amount)

short_part : (up : Bool) (o : ShortOffset) → IsPart (short_offset up o)
short_part up (ShortNumber n) = then_part (codes "#") (where_set (not up) (codes "-") ++ hex n) (plain_of (codes "#") refl) (signed_part up (hex n) (hex_part n))
short_part up (ShortRegister rm) = signed_part up (register_name rm) (register_part rm)

bracketed : (rn : ℕ) (rest : List ℕ) → HasNoFeed rest → IsPart (codes "[" ++ (register_name rn ++ rest))
bracketed rn rest h = part_then (codes "[") (register_name rn ++ rest) (part (codes "[") refl (omega arith)) (plain_append (register_name rn) rest (register_part rn).plain h)

at_part : (rn : ℕ) (by : List ℕ) → IsPart by → IsPart (at_offset rn by)
at_part rn by h = bracketed rn (codes ", " ++ (by ++ codes "]")) (plain_append (codes ", ") (by ++ codes "]") (plain_of (codes ", ") refl) (plain_append by (codes "]") h.plain (plain_of (codes "]") refl)))

address_part : (pre write_back : Bool) (rn : ℕ) (by : List ℕ) → IsPart by → IsPart (address pre write_back rn by)
address_part true write_back rn by h = part_then (at_offset rn by) (where_set write_back (codes "!")) (at_part rn by h) (where_plain write_back (codes "!") (plain_of (codes "!") refl))
address_part false write_back rn by h = bracketed rn (codes "], " ++ by) (plain_append (codes "], ") by (plain_of (codes "], ") refl) h.plain)

-- names
data_part : (op : DataOp) → IsPart (data_name op)
data_part data_ops.And = part (codes "and") refl (omega arith)
data_part data_ops.Eor = part (codes "eor") refl (omega arith)
data_part data_ops.Sub = part (codes "sub") refl (omega arith)
data_part data_ops.Rsb = part (codes "rsb") refl (omega arith)
data_part data_ops.Add = part (codes "add") refl (omega arith)
data_part data_ops.Adc = part (codes "adc") refl (omega arith)
data_part data_ops.Sbc = part (codes "sbc") refl (omega arith)
data_part data_ops.Rsc = part (codes "rsc") refl (omega arith)
data_part data_ops.Orr = part (codes "orr") refl (omega arith)
data_part data_ops.Bic = part (codes "bic") refl (omega arith)

compare_part : (op : CompareOp) → IsPart (compare_name op)
compare_part compare_ops.Tst = part (codes "tst") refl (omega arith)
compare_part compare_ops.Teq = part (codes "teq") refl (omega arith)
compare_part compare_ops.Cmp = part (codes "cmp") refl (omega arith)
compare_part compare_ops.Cmn = part (codes "cmn") refl (omega arith)

move_part : (op : MoveOp) → IsPart (move_name op)
move_part move_ops.Mov = part (codes "mov") refl (omega arith)
move_part move_ops.Mvn = part (codes "mvn") refl (omega arith)

half_part : (op : HalfOp) → IsPart (half_name op)
half_part half_ops.Strh = part (codes "strh") refl (omega arith)
half_part half_ops.Ldrh = part (codes "ldrh") refl (omega arith)
half_part half_ops.Ldrsb = part (codes "ldrsb") refl (omega arith)
half_part half_ops.Ldrsh = part (codes "ldrsh") refl (omega arith)

immediate_part : (op : ThumbImmediateOp) → IsPart (immediate_name op)
immediate_part immediate_ops.Mov = part (codes "mov") refl (omega arith)
immediate_part immediate_ops.Cmp = part (codes "cmp") refl (omega arith)
immediate_part immediate_ops.Add = part (codes "add") refl (omega arith)
immediate_part immediate_ops.Sub = part (codes "sub") refl (omega arith)

thumb_data_part : (op : ThumbDataOp) → IsPart (thumb_data_name op)
thumb_data_part thumb_ops.And = part (codes "and") refl (omega arith)
thumb_data_part thumb_ops.Eor = part (codes "eor") refl (omega arith)
thumb_data_part thumb_ops.Lsl = part (codes "lsl") refl (omega arith)
thumb_data_part thumb_ops.Lsr = part (codes "lsr") refl (omega arith)
thumb_data_part thumb_ops.Asr = part (codes "asr") refl (omega arith)
thumb_data_part thumb_ops.Adc = part (codes "adc") refl (omega arith)
thumb_data_part thumb_ops.Sbc = part (codes "sbc") refl (omega arith)
thumb_data_part thumb_ops.Ror = part (codes "ror") refl (omega arith)
thumb_data_part thumb_ops.Tst = part (codes "tst") refl (omega arith)
thumb_data_part thumb_ops.Neg = part (codes "neg") refl (omega arith)
thumb_data_part thumb_ops.Cmp = part (codes "cmp") refl (omega arith)
thumb_data_part thumb_ops.Cmn = part (codes "cmn") refl (omega arith)
thumb_data_part thumb_ops.Orr = part (codes "orr") refl (omega arith)
thumb_data_part thumb_ops.Mul = part (codes "mul") refl (omega arith)
thumb_data_part thumb_ops.Bic = part (codes "bic") refl (omega arith)
thumb_data_part thumb_ops.Mvn = part (codes "mvn") refl (omega arith)

high_part : (op : HighOp) → IsPart (high_name op)
high_part high_ops.Add = part (codes "addh") refl (omega arith)
high_part high_ops.Cmp = part (codes "cmph") refl (omega arith)
high_part high_ops.Mov = part (codes "movh") refl (omega arith)

transfer_part : (op : ThumbTransferOp) → IsPart (transfer_name op)
transfer_part transfer_ops.Str = part (codes "str") refl (omega arith)
transfer_part transfer_ops.Strh = part (codes "strh") refl (omega arith)
transfer_part transfer_ops.Strb = part (codes "strb") refl (omega arith)
transfer_part transfer_ops.Ldrsb = part (codes "ldrsb") refl (omega arith)
transfer_part transfer_ops.Ldr = part (codes "ldr") refl (omega arith)
transfer_part transfer_ops.Ldrh = part (codes "ldrh") refl (omega arith)
transfer_part transfer_ops.Ldrb = part (codes "ldrb") refl (omega arith)
transfer_part transfer_ops.Ldrsh = part (codes "ldrsh") refl (omega arith)

letter_plain : (top : Bool) → HasNoFeed (half_letter top)
letter_plain true = plain_of (codes "t") refl
letter_plain false = plain_of (codes "b") refl

letters : (x y : Bool) → HasNoFeed (half_letter x ++ half_letter y)
letters x y = plain_append (half_letter x) (half_letter y) (letter_plain x) (letter_plain y)

saturating_part : (double subtract : Bool) → IsPart (saturating_name double subtract)
saturating_part double subtract =
    part_then (codes "q") (where_set double (codes "d") ++ (if subtract then codes "sub" else codes "add")) (part (codes "q") refl (omega arith))
    (plain_append (where_set double (codes "d")) (if subtract then codes "sub" else codes "add") (where_plain double (codes "d") (plain_of (codes "d") refl)) (either_plain subtract (codes "sub") (codes "add") (plain_of (codes "sub") refl) (plain_of (codes "add") refl)))

long_part : (signed accumulate : Bool) → IsPart (long_name signed accumulate)
long_part true true = part (codes "smlal") refl (omega arith)
long_part true false = part (codes "smull") refl (omega arith)
long_part false true = part (codes "umlal") refl (omega arith)
long_part false false = part (codes "umull") refl (omega arith)

load_part : (load : Bool) → IsPart (load_name load)
load_part true = part (codes "ldr") refl (omega arith)
load_part false = part (codes "str") refl (omega arith)

mode_plain : (pre up : Bool) → HasNoFeed (block_mode pre up)
mode_plain true true = plain_of (codes "ib") refl
mode_plain true false = plain_of (codes "db") refl
mode_plain false true = plain_of (codes "ia") refl
mode_plain false false = plain_of (codes "da") refl

status_part : (spsr : Bool) → IsPart (status_name spsr)
status_part true = part (codes "spsr") refl (omega arith)
status_part false = part (codes "cpsr") refl (omega arith)

field_plain : (m : FieldMask) → HasNoFeed (field_letters m)
field_plain m =
    plain_append (where_set m.f (codes "f")) (where_set m.s (codes "s") ++ (where_set m.x (codes "x") ++ where_set m.c (codes "c"))) (where_plain m.f (codes "f") (plain_of (codes "f") refl))
    (plain_append (where_set m.s (codes "s")) (where_set m.x (codes "x") ++ where_set m.c (codes "c")) (where_plain m.s (codes "s") (plain_of (codes "s") refl))
    (plain_append (where_set m.x (codes "x")) (where_set m.c (codes "c")) (where_plain m.x (codes "x") (plain_of (codes "x") refl)) (where_plain m.c (codes "c") (plain_of (codes "c") refl))))

fields_part : (spsr : Bool) (m : FieldMask) → IsPart (status_name spsr ++ (codes "_" ++ field_letters m))
fields_part spsr m = part_then (status_name spsr) (codes "_" ++ field_letters m) (status_part spsr) (plain_append (codes "_") (field_letters m) (plain_of (codes "_") refl) (field_plain m))

marked : (text : List ℕ) (b : Bool) (mark : List ℕ) → IsPart text → HasNoFeed mark → IsPart (text ++ where_set b mark)
marked text b mark h m = part_then text (where_set b mark) h (where_plain b mark m)

after_letter : (mark : List ℕ) (n : ℕ) → HasNoFeed mark → IsPart (mark ++ decimal n)
after_letter mark n h = then_part mark (decimal n) h (decimal_part n)

-- each row's statement
statement_line : (at : ℕ) (i : Instr) → canonical_form i ≡ true → IsLine (statement at i)
statement_line at (Bx cond rm) e = on_line _ cond _ _ (part (codes "bx") refl (omega arith)) (register_part rm) done
statement_line at (BlxRegister cond rm) e = on_line _ cond _ _ (part (codes "blx") refl (omega arith)) (register_part rm) done
statement_line at (Bkpt immed) e = written_line _ _ _ (part (codes "bkpt") refl (omega arith)) (hex_part immed) done
statement_line at (Clz cond rd rm) e = on_line _ cond _ _ (part (codes "clz") refl (omega arith)) (register_part rd) (more (register_part rm) done)
statement_line at (Saturating cond double subtract rd rm rn) e = on_line _ cond _ _ (saturating_part double subtract) (register_part rd) (more (register_part rm) (more (register_part rn) done))
statement_line at (Smla cond x y rd rm rs rn) e = on_line _ cond _ _ (part_then (codes "smla") (half_letter x ++ half_letter y) (part (codes "smla") refl (omega arith)) (letters x y)) (register_part rd) (more (register_part rm) (more (register_part rs) (more (register_part rn) done)))
statement_line at (Smlaw cond y rd rm rs rn) e = on_line _ cond _ _ (part_then (codes "smlaw") (half_letter y) (part (codes "smlaw") refl (omega arith)) (letter_plain y)) (register_part rd) (more (register_part rm) (more (register_part rs) (more (register_part rn) done)))
statement_line at (Smulw cond y rd rm rs) e = on_line _ cond _ _ (part_then (codes "smulw") (half_letter y) (part (codes "smulw") refl (omega arith)) (letter_plain y)) (register_part rd) (more (register_part rm) (more (register_part rs) done))
statement_line at (Smlal cond x y rd_lo rd_hi rm rs) e = on_line _ cond _ _ (part_then (codes "smlal") (half_letter x ++ half_letter y) (part (codes "smlal") refl (omega arith)) (letters x y)) (register_part rd_lo) (more (register_part rd_hi) (more (register_part rm) (more (register_part rs) done)))
statement_line at (Smul cond x y rd rm rs) e = on_line _ cond _ _ (part_then (codes "smul") (half_letter x ++ half_letter y) (part (codes "smul") refl (omega arith)) (letters x y)) (register_part rd) (more (register_part rm) (more (register_part rs) done))
statement_line at (Mul cond set_flags rd rm rs) e = on_line _ cond _ _ (marked (codes "mul") set_flags (codes "s") (part (codes "mul") refl (omega arith)) (plain_of (codes "s") refl)) (register_part rd) (more (register_part rm) (more (register_part rs) done))
statement_line at (Mla cond set_flags rd rm rs rn) e = on_line _ cond _ _ (marked (codes "mla") set_flags (codes "s") (part (codes "mla") refl (omega arith)) (plain_of (codes "s") refl)) (register_part rd) (more (register_part rm) (more (register_part rs) (more (register_part rn) done)))
statement_line at (LongMultiply cond signed accumulate set_flags rd_lo rd_hi rm rs) e = on_line _ cond _ _ (marked (long_name signed accumulate) set_flags (codes "s") (long_part signed accumulate) (plain_of (codes "s") refl)) (register_part rd_lo) (more (register_part rd_hi) (more (register_part rm) (more (register_part rs) done)))
statement_line at (Swap cond byte rd rm rn) e = on_line _ cond _ _ (marked (codes "swp") byte (codes "b") (part (codes "swp") refl (omega arith)) (plain_of (codes "b") refl)) (register_part rd) (more (register_part rm) (more (bracketed rn (codes "]") (plain_of (codes "]") refl)) done))
statement_line at (HalfTransfer cond op pre up write_back rn rd by) e = on_line _ cond _ _ (half_part op) (register_part rd) (more (address_part pre write_back rn (short_offset up by) (short_part up by)) done)
statement_line at (Mrs cond spsr rd) e = on_line _ cond _ _ (part (codes "mrs") refl (omega arith)) (register_part rd) (more (status_part spsr) done)
statement_line at (Msr cond spsr fields rm) e = on_line _ cond _ _ (part (codes "msr") refl (omega arith)) (fields_part spsr fields) (more (register_part rm) done)
statement_line at (MsrImmediate cond spsr fields rotate immed) e = on_line _ cond _ _ (part (codes "msr") refl (omega arith)) (fields_part spsr fields) (more (number_part (immediate rotate immed)) done)
statement_line at (Compare cond op rn second) e = on_line _ cond _ _ (compare_part op) (register_part rn) (more (operand_part second) done)
statement_line at (Move cond op set_flags rd second) e = on_line _ cond _ _ (marked (move_name op) set_flags (codes "s") (move_part op) (plain_of (codes "s") refl)) (register_part rd) (more (operand_part second) done)
statement_line at (Data cond op set_flags rn rd second) e = on_line _ cond _ _ (marked (data_name op) set_flags (codes "s") (data_part op) (plain_of (codes "s") refl)) (register_part rd) (more (register_part rn) (more (operand_part second) done))
statement_line at (DoubleTransfer cond store pre up write_back rn rd by) e = on_line _ cond _ _ (either_part store (codes "strd") (codes "ldrd") (part (codes "strd") refl (omega arith)) (part (codes "ldrd") refl (omega arith))) (register_part rd) (more (address_part pre write_back rn (short_offset up by) (short_part up by)) done)
statement_line at (Transfer cond pre up byte write_back load rn rd by) e = on_line _ cond _ _ (part_then (load_name load) (where_set byte (codes "b") ++ where_set (not pre && write_back) (codes "t")) (load_part load) (plain_append (where_set byte (codes "b")) (where_set (not pre && write_back) (codes "t")) (where_plain byte (codes "b") (plain_of (codes "b") refl)) (where_plain (not pre && write_back) (codes "t") (plain_of (codes "t") refl)))) (register_part rd) (more (address_part pre write_back rn (offset up by) (offset_part up by)) done)
statement_line at (Multiple cond pre up user write_back load rn list) e = on_line _ cond _ _ (part_then (if load then codes "ldm" else codes "stm") (block_mode pre up) (either_part load (codes "ldm") (codes "stm") (part (codes "ldm") refl (omega arith)) (part (codes "stm") refl (omega arith))) (mode_plain pre up)) (marked (register_name rn) write_back (codes "!") (register_part rn) (plain_of (codes "!") refl)) (more (marked (register_list list) user (codes "^") (list_part list) (plain_of (codes "^") refl)) done)
statement_line at (Branch cond link by) e = on_line _ cond _ _ (marked (codes "b") link (codes "l") (part (codes "b") refl (omega arith)) (plain_of (codes "l") refl)) (hex_part (arm_target at by)) done
statement_line at (Coprocessor cond load op1 crn rd cp op2 crm) e = on_line _ cond _ _ (either_part load (codes "mrc") (codes "mcr") (part (codes "mrc") refl (omega arith)) (part (codes "mcr") refl (omega arith))) (after_letter (codes "p") cp (plain_of (codes "p") refl)) (more (decimal_part op1) (more (register_part rd) (more (after_letter (codes "c") crn (plain_of (codes "c") refl)) (more (after_letter (codes "c") crm (plain_of (codes "c") refl)) (more (decimal_part op2) done)))))
statement_line at (Swi cond immed) e = on_line _ cond _ _ (part (codes "swi") refl (omega arith)) (hex_part immed) done
statement_line at (BlxTarget half by) e = written_line _ _ _ (part (codes "blx") refl (omega arith)) (hex_part (if half then half_target at by else arm_target at by)) done
statement_line at (Pld up rn by) e = written_line _ _ _ (part (codes "pld") refl (omega arith)) (at_part rn (offset up by) (offset_part up by)) done
statement_line at (Never immed) e = absurd cc
statement_line at (ThumbAddSub subtract second rn rd) e = written_line _ _ _ (either_part subtract (codes "sub") (codes "add") (part (codes "sub") refl (omega arith)) (part (codes "add") refl (omega arith))) (register_part rd) (more (register_part rn) (more (small_part second) done))
statement_line at (ThumbShift shift amount rm rd) e = written_line _ _ _ (shift_part shift) (register_part rd) (more (register_part rm) (more (number_part (thumb_amount shift amount)) done))
statement_line at (ThumbImmediate op rd immed) e = written_line _ _ _ (immediate_part op) (register_part rd) (more (number_part immed) done)
statement_line at (ThumbData op rm rd) e = written_line _ _ _ (thumb_data_part op) (register_part rd) (more (register_part rm) done)
statement_line at (ThumbBx rm) e = written_line _ _ _ (part (codes "bx") refl (omega arith)) (register_part rm) done
statement_line at (ThumbBlxRegister rm) e = written_line _ _ _ (part (codes "blx") refl (omega arith)) (register_part rm) done
statement_line at (ThumbHigh op rm rd) e = written_line _ _ _ (high_part op) (register_part rd) (more (register_part rm) done)
statement_line at (ThumbLoadLiteral rd immed) e = written_line _ _ _ (part (codes "ldr") refl (omega arith)) (register_part rd) (more (at_part 15 (number (4 * immed)) (number_part (4 * immed))) done)
statement_line at (ThumbRegisterOffset op rm rn rd) e = written_line _ _ _ (transfer_part op) (register_part rd) (more (at_part rn (register_name rm) (register_part rm)) done)
statement_line at (ThumbImmediateOffset byte load immed rn rd) e = written_line _ _ _ (marked (load_name load) byte (codes "b") (load_part load) (plain_of (codes "b") refl)) (register_part rd) (more (at_part rn (number (if byte then immed else 4 * immed)) (number_part (if byte then immed else 4 * immed))) done)
statement_line at (ThumbHalfOffset load immed rn rd) e = written_line _ _ _ (part_then (load_name load) (codes "h") (load_part load) (plain_of (codes "h") refl)) (register_part rd) (more (at_part rn (number (2 * immed)) (number_part (2 * immed))) done)
statement_line at (ThumbStackOffset load rd immed) e = written_line _ _ _ (load_part load) (register_part rd) (more (at_part 13 (number (4 * immed)) (number_part (4 * immed))) done)
statement_line at (ThumbAddress stack rd immed) e = written_line _ _ _ (part (codes "add") refl (omega arith)) (register_part rd) (more (register_part (if stack then 13 else 15)) (more (number_part (4 * immed)) done))
statement_line at (ThumbAdjustStack subtract immed) e = written_line _ _ _ (either_part subtract (codes "sub") (codes "add") (part (codes "sub") refl (omega arith)) (part (codes "add") refl (omega arith))) (register_part 13) (more (number_part (4 * immed)) done)
statement_line at (ThumbPushPop load extra list) e = written_line _ _ _ (either_part load (codes "pop") (codes "push") (part (codes "pop") refl (omega arith)) (part (codes "push") refl (omega arith))) (list_part (list + (if extra then (if load then 2 ^ 15 else 2 ^ 14) else 0))) done
statement_line at (ThumbBkpt immed) e = written_line _ _ _ (part (codes "bkpt") refl (omega arith)) (hex_part immed) done
statement_line at (ThumbMultiple load rn list) e = written_line _ _ _ (either_part load (codes "ldmia") (codes "stmia") (part (codes "ldmia") refl (omega arith)) (part (codes "stmia") refl (omega arith))) (part_then (register_name rn) (codes "!") (register_part rn) (plain_of (codes "!") refl)) (more (list_part list) done)
statement_line at (ThumbBranchIf cond by) e = on_line _ cond _ _ (part (codes "b") refl (omega arith)) (hex_part (thumb_target at (2 ^ 7) by)) done
statement_line at (ThumbSwi immed) e = written_line _ _ _ (part (codes "swi") refl (omega arith)) (hex_part immed) done
statement_line at (ThumbBranch by) e = written_line _ _ _ (part (codes "b") refl (omega arith)) (hex_part (thumb_target at (2 ^ 10) by)) done
statement_line at (ThumbBlxSuffix by) e = written_line _ _ _ (part (codes "blxl") refl (omega arith)) (number_part by) done
statement_line at (ThumbBlPrefix by) e = written_line _ _ _ (part (codes "blh") refl (omega arith)) (number_part by) done
statement_line at (ThumbBlSuffix by) e = written_line _ _ _ (part (codes "bll") refl (omega arith)) (number_part by) done

raw_line : (s : Spelling) → IsLine (raw s)
raw_line (spellings.Word w) = record { plain = plain_append (codes ".word 0x") (hex_digits 8 w) (plain_of (codes ".word 0x") refl) (digits_plain 8 w); long = omega arith }
raw_line (spellings.Half h) = record { plain = plain_append (codes ".half 0x") (hex_digits 4 h) (plain_of (codes ".half 0x") refl) (digits_plain 4 h); long = omega arith }

stated_line : (at number : ℕ) (s : Spelling) (o : Option Instr) → IsLine (stated at number s o)
stated_line at number s None = raw_line s
stated_line at number s (Some i) = choose (canonical_form i) (bit_and number (unread_of i).bits == (unread_of i).ones) refl where
  choose : (b c : Bool) → canonical_form i ≡ b → IsLine (if b && c then statement at i else raw s)
  choose true true e = statement_line at i e
  choose true false e = raw_line s
  choose false c e = raw_line s

pub listed_line : (arch : Arch) (set : Set) (at w : ℕ) → IsLine (listed arch set at w)
listed_line arch set at w = stated_line at w (spelling set w) (decoded arch (spelling set w))
