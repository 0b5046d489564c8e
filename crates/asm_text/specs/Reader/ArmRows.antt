use Rattle.std.specs.Prelude.{ℕ, ◌+◌, ◌-◌, ◌*◌, ◌/◌, ◌%◌, ◌^◌, ◌==◌, List, drop, slice_index, Bool, ◌||◌, if◌then◌else◌}
use Rattle.asm_text.specs.Reader.Parts.{hex_at, marked_at, decimal_at, register_at, one_at, two_at, three_at, four_at, operand_at, rotation_of, address_at, registers_at, fields_at, is_spsr}
use Rattle.arm_words.specs.declared.parts.Condition.{Condition}
use Rattle.arm_words.specs.declared.parts.Offset.{Offset}
use Rattle.arm_words.specs.declared.parts.Offset.TheVariants.{Number, Register}
use Rattle.arm_words.specs.declared.parts.ShortOffset.{ShortOffset}
use Rattle.arm_words.specs.declared.parts.ShortOffset.TheVariants.{ShortNumber, ShortRegister}
use Rattle.arm_words.specs.declared.operations.DataOp.{DataOp}
use Rattle.arm_words.specs.declared.operations.CompareOp.{CompareOp}
use Rattle.arm_words.specs.declared.operations.MoveOp.{MoveOp}
use Rattle.arm_words.specs.declared.operations.HalfOp.{HalfOp}
use Rattle.arm_words.specs.declared.instructions.Instr.{Instr}
use Rattle.arm_words.specs.declared.instructions.Instr.TheVariants.{Bx, BlxRegister, Bkpt, Clz, Saturating, Smla, Smlaw, Smulw, Smlal, Smul, Mul, Mla, LongMultiply, Swap, HalfTransfer, Mrs, Msr, MsrImmediate, Compare, Move, Data, DoubleTransfer, Transfer, Multiple, Branch, Coprocessor, Swi, BlxTarget, Pld, Never}

-- The instruction that a row of ARM's and the text of its operands give. Nothing is refused: what is no statement's text gives some
-- instruction too. No public clause speaks of it.

-- the distance of a target from what r15 reads as
abbrev pub distance_read : ℕ → ℕ → ℕ
distance_read at target = ((target + 2 ^ 32 - at) % 2 ^ 32 + 2 ^ 32 - 8) % 2 ^ 32

unfoldable pub branch_at : ℕ → Bool → Condition → List ℕ → Instr
branch_at at link cond text = Branch cond link (distance_read at (hex_at text).0 / 4 % 2 ^ 24)

-- blx has a register or a target
unfoldable pub blx_at : ℕ → Condition → List ℕ → Instr
blx_at at cond text =
    let d = distance_read at (hex_at text).0 in
    if slice_index text 0 == 114 then BlxRegister cond (one_at text)
    else BlxTarget (d / 2 % 2 == 1) (d / 4 % 2 ^ 24)

-- the last register stands in brackets
unfoldable pub swap_at : Bool → Condition → List ℕ → Instr
swap_at byte cond text =
    let rd = register_at text in
    let rm = register_at (drop 2 rd.1) in
    Swap cond byte rd.0 rm.0 (register_at (drop 3 rm.1)).0

abbrev pub short_of : Offset → ShortOffset
short_of (Number n) = ShortNumber (n % 256)
short_of (Register rm shift amount) = ShortRegister rm

unfoldable pub half_transfer_at : HalfOp → Condition → List ℕ → Instr
half_transfer_at op cond text =
    let rd = register_at text in
    let a = address_at (drop 2 rd.1) in
    HalfTransfer cond op a.pre a.up a.write_back a.rn rd.0 (short_of a.offset)

unfoldable pub double_transfer_at : Bool → Condition → List ℕ → Instr
double_transfer_at store cond text =
    let rd = register_at text in
    let a = address_at (drop 2 rd.1) in
    DoubleTransfer cond store a.pre a.up a.write_back a.rn (rd.0 / 2 * 2) (short_of a.offset)

-- a name with a t tells bit 21, which the address doesn't
unfoldable pub transfer_at : Bool → Bool → Bool → Condition → List ℕ → Instr
transfer_at byte t load cond text =
    let rd = register_at text in
    let a = address_at (drop 2 rd.1) in
    Transfer cond a.pre a.up byte (t || a.write_back) load a.rn rd.0 a.offset

unfoldable pub multiple_at : Bool → Bool → Bool → Condition → List ℕ → Instr
multiple_at pre up load cond text =
    let rn = register_at text in
    let back = slice_index rn.1 0 == 33 in
    let list = registers_at (drop (if back then 4 else 3) rn.1) in
    Multiple cond pre up (slice_index list.1 1 == 94) back load rn.0 list.0

unfoldable pub mrs_at : Condition → List ℕ → Instr
mrs_at cond text =
    let rd = register_at text in
    Mrs cond (is_spsr (drop 2 rd.1)) rd.0

unfoldable pub msr_at : Condition → List ℕ → Instr
msr_at cond text =
    let spsr = is_spsr text in
    let fields = fields_at (drop 5 text) in
    let last = drop 2 fields.1 in
    let turned = rotation_of (marked_at last).0 in
    if slice_index last 0 == 35 then MsrImmediate cond spsr fields.0 turned.0 turned.1
    else Msr cond spsr fields.0 (register_at last).0

unfoldable pub compare_at : CompareOp → Condition → List ℕ → Instr
compare_at op cond text =
    let rn = register_at text in
    Compare cond op rn.0 (operand_at (drop 2 rn.1))

unfoldable pub move_at : MoveOp → Bool → Condition → List ℕ → Instr
move_at op set_flags cond text =
    let rd = register_at text in
    Move cond op set_flags rd.0 (operand_at (drop 2 rd.1))

unfoldable pub data_at : DataOp → Bool → Condition → List ℕ → Instr
data_at op set_flags cond text =
    let rd = register_at text in
    let rn = register_at (drop 2 rd.1) in
    Data cond op set_flags rn.0 rd.0 (operand_at (drop 2 rn.1))

-- each number or register after its mark and a comma and a blank
unfoldable pub coprocessor_at : Bool → Condition → List ℕ → Instr
coprocessor_at load cond text =
    let cp = decimal_at (drop 1 text) in
    let op1 = decimal_at (drop 2 cp.1) in
    let rd = register_at (drop 2 op1.1) in
    let crn = decimal_at (drop 3 rd.1) in
    let crm = decimal_at (drop 3 crn.1) in
    let op2 = decimal_at (drop 2 crm.1) in
    Coprocessor cond load (op1.0 % 8) crn.0 rd.0 cp.0 (op2.0 % 8) crm.0

unfoldable pub pld_at : List ℕ → Instr
pld_at text =
    let a = address_at text in
    Pld a.up a.rn a.offset

-- a row that no name stands for gives an instruction without a statement
unfoldable pub arm_row : ℕ → Instr → Condition → List ℕ → Instr
arm_row at (Bx _ _) cond text = Bx cond (one_at text)
arm_row at (BlxRegister _ _) cond text = blx_at at cond text
arm_row at (Bkpt _) cond text = Bkpt ((hex_at text).0 % 2 ^ 16)
arm_row at (Clz _ _ _) cond text = (let r = two_at text in Clz cond r.0 r.1)
arm_row at (Saturating _ double subtract _ _ _) cond text = (let r = three_at text in Saturating cond double subtract r.0 r.1 r.2)
arm_row at (Smla _ x y _ _ _ _) cond text = (let r = four_at text in Smla cond x y r.0 r.1 r.2 r.3)
arm_row at (Smlaw _ y _ _ _ _) cond text = (let r = four_at text in Smlaw cond y r.0 r.1 r.2 r.3)
arm_row at (Smulw _ y _ _ _) cond text = (let r = three_at text in Smulw cond y r.0 r.1 r.2)
arm_row at (Smlal _ x y _ _ _ _) cond text = (let r = four_at text in Smlal cond x y r.0 r.1 r.2 r.3)
arm_row at (Smul _ x y _ _ _) cond text = (let r = three_at text in Smul cond x y r.0 r.1 r.2)
arm_row at (Mul _ set_flags _ _ _) cond text = (let r = three_at text in Mul cond set_flags r.0 r.1 r.2)
arm_row at (Mla _ set_flags _ _ _ _) cond text = (let r = four_at text in Mla cond set_flags r.0 r.1 r.2 r.3)
arm_row at (LongMultiply _ signed accumulate set_flags _ _ _ _) cond text =
    (let r = four_at text in LongMultiply cond signed accumulate set_flags r.0 r.1 r.2 r.3)
arm_row at (Swap _ byte _ _ _) cond text = swap_at byte cond text
arm_row at (HalfTransfer _ op _ _ _ _ _ _) cond text = half_transfer_at op cond text
arm_row at (Mrs _ _ _) cond text = mrs_at cond text
arm_row at (Msr _ _ _ _) cond text = msr_at cond text
arm_row at (Compare _ op _ _) cond text = compare_at op cond text
arm_row at (Move _ op set_flags _ _) cond text = move_at op set_flags cond text
arm_row at (Data _ op set_flags _ _ _) cond text = data_at op set_flags cond text
arm_row at (DoubleTransfer _ store _ _ _ _ _ _) cond text = double_transfer_at store cond text
arm_row at (Transfer _ _ _ byte t load _ _ _) cond text = transfer_at byte t load cond text
arm_row at (Multiple _ pre up _ _ load _ _) cond text = multiple_at pre up load cond text
arm_row at (Branch _ link _) cond text = branch_at at link cond text
arm_row at (Coprocessor _ load _ _ _ _ _ _) cond text = coprocessor_at load cond text
arm_row at (Swi _ _) cond text = Swi cond ((hex_at text).0 % 2 ^ 24)
arm_row at (Pld _ _ _) cond text = pld_at text
arm_row at _ cond text = Never 0
