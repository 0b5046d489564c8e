use Rattle.std.specs.Prelude.{ℕ, zero, suc, ◌+◌, ◌*◌, ◌%◌, ◌^◌, ◌==◌, nat_lt, nat_le, Bool, true, false, not, ◌&&◌, ◌||◌, List, [], ◌∷◌, drop, slice_index, if◌then◌else◌}
use Rattle.arm_words.specs.Canonical.{turned_back}
use Rattle.arm_words.specs.declared.parts.Shift.{Shift}
use Rattle.arm_words.specs.declared.parts.Shift.TheVariants.{Lsl, Lsr, Asr, Ror}
use Rattle.arm_words.specs.declared.parts.FieldMask.{FieldMask}
use Rattle.arm_words.specs.declared.parts.Operand.{Operand}
use Rattle.arm_words.specs.declared.parts.Operand.TheVariants.{Immediate, Shifted, ShiftedByRegister}
use Rattle.arm_words.specs.declared.parts.Offset.{Offset}
use Rattle.arm_words.specs.declared.parts.Offset.TheVariants.{Number, Register}
use Rattle.asm_text.specs.declared.reading.parts.Address.{Address}

-- What the reader takes from a text, part by part. It refuses nothing: what it takes is listed again and compared with the text, so
-- that no rule of what may be written stands here. No public clause speaks of it.

abbrev pub digit_value : ℕ → ℕ
digit_value b = if nat_lt b 64 then b % 16 else b % 16 + 9

abbrev pub is_decimal : ℕ → Bool
is_decimal b = nat_le 48 b && nat_le b 57

abbrev pub is_digit : ℕ → Bool
is_digit b = is_decimal b || (nat_le 97 b && nat_le b 102)

-- a number that goes on with a text's digits, and what follows them
abbrev pub numeral : ℕ → List ℕ → ℕ × List ℕ
numeral n [] = (n, [])
numeral n (b ∷ bs) = if is_digit b then numeral ((n * 16 + digit_value b) % 2 ^ 32) bs else (n, b ∷ bs)

-- 0x and a number
unfoldable pub hex_at : List ℕ → ℕ × List ℕ
hex_at text = numeral 0 (drop 2 text)

-- #0x and a number
unfoldable pub marked_at : List ℕ → ℕ × List ℕ
marked_at text = numeral 0 (drop 3 text)

-- a decimal number below 16
unfoldable pub decimal_at : List ℕ → ℕ × List ℕ
decimal_at text =
    let a = slice_index text 0 in
    let b = slice_index text 1 in
    if is_decimal b then ((10 + b % 16) % 16, drop 2 text) else (a % 16, drop 1 text)

abbrev pub register_at : List ℕ → ℕ × List ℕ
register_at text = decimal_at (drop 1 text)

-- registers with a comma and a blank between them
abbrev pub one_at : List ℕ → ℕ
one_at text = (register_at text).0

abbrev pub next_at : List ℕ → ℕ × List ℕ
next_at text = register_at (drop 2 text)

abbrev pub two_at : List ℕ → ℕ × ℕ
two_at text =
    let a = register_at text in
    (a.0, (next_at a.1).0)

abbrev pub three_at : List ℕ → ℕ × ℕ × ℕ
three_at text =
    let a = register_at text in
    let b = next_at a.1 in
    (a.0, b.0, (next_at b.1).0)

abbrev pub four_at : List ℕ → ℕ × ℕ × ℕ × ℕ
four_at text =
    let a = register_at text in
    let b = next_at a.1 in
    let c = next_at b.1 in
    (a.0, b.0, c.0, (next_at c.1).0)

-- a shift by the first and third letter of its name; rrx is a ror
unfoldable pub shift_at : List ℕ → Shift
shift_at text =
    if slice_index text 0 == 108 then (if slice_index text 2 == 108 then Lsl else Lsr)
    else (if slice_index text 0 == 97 then Asr else Ror)

-- what a register is shifted by: a number after a blank and a mark, a register after a blank, or nothing
unfoldable pub by_shift : ℕ → Shift → List ℕ → Operand × List ℕ
by_shift rm shift text =
    let n = marked_at (drop 1 text) in
    let r = register_at (drop 1 text) in
    if slice_index text 0 == 32 then (if slice_index text 1 == 35 then (Shifted rm shift (n.0 % 32), n.1) else (ShiftedByRegister rm shift r.0, r.1))
    else (Shifted rm shift 0, text)

unfoldable pub shifted_at : List ℕ → Operand × List ℕ
shifted_at text =
    let r = register_at text in
    if slice_index r.1 0 == 44 then by_shift r.0 (shift_at (drop 2 r.1)) (drop 5 r.1) else (Shifted r.0 Lsl 0, r.1)

-- the least rotation, from one on, with the byte that gives a number by it
abbrev pub rotation_from : ℕ → ℕ → ℕ → ℕ × ℕ
rotation_from n rotate zero = (0, 0)
rotation_from n rotate (suc left) =
    if nat_lt (turned_back rotate n) 256 then (rotate, turned_back rotate n) else rotation_from n (rotate + 1) left

unfoldable pub rotation_of : ℕ → ℕ × ℕ
rotation_of n = rotation_from n 0 16

unfoldable pub operand_at : List ℕ → Operand
operand_at text =
    let r = rotation_of (marked_at text).0 in
    if slice_index text 0 == 35 then Immediate r.0 r.1 else (shifted_at text).0

-- a shifted register as an offset
abbrev pub as_offset : Operand → Offset
as_offset (Immediate rotate immed) = Number 0
as_offset (Shifted rm shift amount) = Register rm shift amount
as_offset (ShiftedByRegister rm shift rs) = Register rm shift 0

-- an offset without its mark and sign
unfoldable pub unsigned_at : Bool → List ℕ → Offset × List ℕ
unsigned_at marked text =
    let n = hex_at text in
    let s = shifted_at text in
    if marked then (Number (n.0 % 4096), n.1) else (as_offset s.0, s.1)

-- whether an offset is added, the offset, and what follows it
unfoldable pub offset_at : List ℕ → Bool × Offset × List ℕ
offset_at text =
    let marked = slice_index text 0 == 35 in
    let rest = if marked then drop 1 text else text in
    let minus = slice_index rest 0 == 45 in
    let o = unsigned_at marked (if minus then drop 1 rest else rest) in
    (not minus, o.0, o.1)

-- an address in brackets
unfoldable pub address_at : List ℕ → Address
address_at text =
    let rn = register_at (drop 1 text) in
    let pre = not (slice_index rn.1 0 == 93) in
    let o = offset_at (drop (if pre then 2 else 3) rn.1) in
    record { pre = pre; up = o.0; write_back = pre && slice_index o.2 1 == 33; rn = rn.0; offset = o.1 }

-- a register of a list, after a comma or not, as its bit; nothing where none comes
unfoldable pub member_at : List ℕ → ℕ × List ℕ
member_at text =
    let rest = if slice_index text 0 == 44 then drop 1 text else text in
    let r = register_at rest in
    if slice_index rest 0 == 114 then (2 ^ r.0, r.1) else (0, text)

abbrev pub members_from : ℕ → ℕ → List ℕ → ℕ × List ℕ
members_from zero sum text = (sum, text)
members_from (suc left) sum text = members_from left ((sum + (member_at text).0) % 2 ^ 16) (member_at text).1

unfoldable pub registers_at : List ℕ → ℕ × List ℕ
registers_at text = members_from 16 0 text

-- a letter, if it comes
abbrev pub letter_at : ℕ → List ℕ → Bool × List ℕ
letter_at letter text = if slice_index text 0 == letter then (true, drop 1 text) else (false, text)

-- the letters of status fields
unfoldable pub fields_at : List ℕ → FieldMask × List ℕ
fields_at text =
    let f = letter_at 102 text in
    let s = letter_at 115 f.1 in
    let x = letter_at 120 s.1 in
    let c = letter_at 99 x.1 in
    (record { f = f.0; s = s.0; x = x.0; c = c.0 }, c.1)

-- cpsr or spsr, by its first letter
abbrev pub is_spsr : List ℕ → Bool
is_spsr text = slice_index text 0 == 115
