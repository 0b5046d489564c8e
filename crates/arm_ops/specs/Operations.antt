use Rattle.std.specs.Prelude.{ℕ, ◌≡◌, ◌<◌, ◌^◌, ◌==◌, ◌||◌, ◌&&◌, not, Bool, true, false, if◌then◌else◌, Option, Some, None}
use Rattle.std.specs.Int.{bit_not, w32}
use Rattle.arm_words.specs.Fields.{HasFields}
use Rattle.arm_words.specs.declared.instructions.Instr.{Instr}
use Rattle.arm_words.specs.declared.instructions.Instr.TheVariants as instrs
use Rattle.arm_words.specs.declared.operations.CompareOp.{CompareOp}
use Rattle.arm_words.specs.declared.operations.CompareOp.TheVariants.{Tst, Teq, Cmp, Cmn}
use Rattle.arm_words.specs.declared.operations.DataOp.{DataOp}
use Rattle.arm_words.specs.declared.operations.DataOp.TheVariants.{And, Eor, Sub, Rsb, Add, Orr, Bic}
use Rattle.arm_words.specs.declared.operations.HalfOp.TheVariants.{Strh, Ldrh}
use Rattle.arm_words.specs.declared.operations.MoveOp.{MoveOp}
use Rattle.arm_words.specs.declared.operations.MoveOp.TheVariants.{Mov, Mvn}
use Rattle.arm_words.specs.declared.parts.Condition.TheVariants.{Al}
use Rattle.arm_words.specs.declared.parts.Offset.{Offset}
use Rattle.arm_words.specs.declared.parts.Offset.TheVariants as offsets
use Rattle.arm_words.specs.declared.parts.Operand.{Operand}
use Rattle.arm_words.specs.declared.parts.Operand.TheVariants.{Immediate, Shifted, ShiftedByRegister}
use Rattle.arm_words.specs.declared.parts.Shift.{Shift}
use Rattle.arm_words.specs.declared.parts.Shift.TheVariants.{Lsl, Lsr, Asr, Ror}
use Rattle.arm_words.specs.declared.parts.ShortOffset.{ShortOffset}
use Rattle.arm_words.specs.declared.parts.ShortOffset.TheVariants.{ShortNumber, ShortRegister}
use Rattle.arm_core.specs.Branches.{distance}
use Rattle.arm_core.specs.Meanings.{condition}
use Rattle.arm_core.specs.Shifter.{rotated_immediate}
use Rattle.arm_core.specs.Thumb.{equivalent}
use Rattle.arm_ops.specs.declared.operations.DataAccess.{DataAccess}
use Rattle.arm_ops.specs.declared.operations.Number.{Number}
use Rattle.arm_ops.specs.declared.operations.Op.{Op}
use Rattle.arm_ops.specs.declared.operations.Op.TheVariants.{Other, AndNumber, EorNumber, SubNumber, RsbNumber, AddNumber, OrrNumber, BicNumber, AndRegister, EorRegister, SubRegister, RsbRegister, AddRegister, OrrRegister, BicRegister, SubsNumber, AddsNumber, AndsRegister, EorsRegister, SubsRegister, AddsRegister, OrrsRegister, BicsRegister, DataShifted, DataShiftedBy, TstNumber, CmpNumber, CmnNumber, TstRegister, CmpRegister, MovNumber, MovsNumber, MovLsl, MovLsr, MovAsr, MovRor, MovsLsl, MovsLsr, MovsAsr, Mul, Mla, Branch, Exchange, LinkPrefix, LinkSuffix, LdrNumber, LdrbNumber, LdrhNumber, StrNumber, StrbNumber, StrhNumber, LdrRegister, LdrbRegister, LdrhRegister, StrRegister, StrbRegister, StrhRegister, AccessNumber, AccessRegister, TransferNumber, TransferRegister, TransferShifted, Literal, Multiple, Plain}
use Rattle.arm_ops.specs.declared.operations.Operation.{Operation}
use Rattle.arm_ops.specs.declared.operations.RegisterList.{RegisterList}
use Rattle.arm_ops.specs.declared.operations.ShiftedRegister.{ShiftedRegister}
use Rattle.arm_ops.specs.declared.operations.Transfer.{Transfer}
use Rattle.arm_ops.specs.declared.operations.TransferOp.{TransferOp}
use Rattle.arm_ops.specs.declared.operations.TransferOp.TheVariants.{WordOrByte, HalfOrSigned}

-- The operation that each instruction is decoded as (our choice of forms).

-- LSL by 0 leaves a register as it is
abbrev pub is_plain : Shift → ℕ → Bool
is_plain Lsl amount = amount == 0
is_plain Lsr amount = false
is_plain Asr amount = false
is_plain Ror amount = false

abbrev pub rotated_number : ℕ → ℕ → Number
rotated_number rotate immed = record { keeps_carry = rotate == 0; value = (rotated_immediate rotate immed false).value }

abbrev pub shifted_register : ℕ → Shift → ℕ → ShiftedRegister
shifted_register rm shift amount = record { rm = rm; shift = shift; amount = amount }

-- data processing of registers below r15, by its operation and whether it sets the flags, with a number
abbrev pub data_number : Instr → DataOp → Bool → ℕ → ℕ → ℕ → Op
data_number instr And false rd rn value = AndNumber rd rn value
data_number instr Eor false rd rn value = EorNumber rd rn value
data_number instr Sub false rd rn value = SubNumber rd rn value
data_number instr Rsb false rd rn value = RsbNumber rd rn value
data_number instr Add false rd rn value = AddNumber rd rn value
data_number instr Orr false rd rn value = OrrNumber rd rn value
data_number instr Bic false rd rn value = BicNumber rd rn value
data_number instr Sub true rd rn value = SubsNumber rd rn value
data_number instr Add true rd rn value = AddsNumber rd rn value
data_number instr _ _ rd rn value = Plain instr

-- with a register
abbrev pub data_register : Instr → DataOp → Bool → ℕ → ℕ → ℕ → Op
data_register instr And false rd rn rm = AndRegister rd rn rm
data_register instr Eor false rd rn rm = EorRegister rd rn rm
data_register instr Sub false rd rn rm = SubRegister rd rn rm
data_register instr Rsb false rd rn rm = RsbRegister rd rn rm
data_register instr Add false rd rn rm = AddRegister rd rn rm
data_register instr Orr false rd rn rm = OrrRegister rd rn rm
data_register instr Bic false rd rn rm = BicRegister rd rn rm
data_register instr And true rd rn rm = AndsRegister rd rn rm
data_register instr Eor true rd rn rm = EorsRegister rd rn rm
data_register instr Sub true rd rn rm = SubsRegister rd rn rm
data_register instr Add true rd rn rm = AddsRegister rd rn rm
data_register instr Orr true rd rn rm = OrrsRegister rd rn rm
data_register instr Bic true rd rn rm = BicsRegister rd rn rm
data_register instr _ _ rd rn rm = Plain instr

-- with a register that an amount shifts
abbrev pub data_shifted : Instr → DataOp → Bool → ℕ → ℕ → ShiftedRegister → Op
data_shifted instr op false rd rn by = DataShifted op rd rn by
data_shifted instr op true rd rn by = Plain instr

abbrev pub data_plain_or_shifted : Instr → DataOp → Bool → ℕ → ℕ → ℕ → Shift → ℕ → Op
data_plain_or_shifted instr op set_flags rd rn rm shift amount =
    if is_plain shift amount then data_register instr op set_flags rd rn rm
    else data_shifted instr op set_flags rd rn (shifted_register rm shift amount)

-- with a register that another shifts
abbrev pub data_by_shift : Instr → DataOp → Bool → ℕ → ℕ → ℕ → Shift → ℕ → Op
data_by_shift instr op false rd rn rm shift rs = DataShiftedBy op rd rn rm shift rs
data_by_shift instr op true rd rn rm shift rs = Plain instr

-- by the second operand; what has r15 is done by the instruction itself
abbrev pub data_op : Instr → DataOp → Bool → ℕ → ℕ → Operand → Op
data_op instr op set_flags rd rn (Immediate rotate immed) =
    if rd == 15 || rn == 15 then Plain instr else data_number instr op set_flags rd rn (rotated_number rotate immed).value
data_op instr op set_flags rd rn (Shifted rm shift amount) =
    if (rd == 15 || rn == 15) || rm == 15 then Plain instr else data_plain_or_shifted instr op set_flags rd rn rm shift amount
data_op instr op set_flags rd rn (ShiftedByRegister rm shift rs) =
    if ((rd == 15 || rn == 15) || rm == 15) || rs == 15 then Plain instr else data_by_shift instr op set_flags rd rn rm shift rs

-- comparisons of registers below r15
abbrev pub compare_number : Instr → CompareOp → ℕ → Number → Op
compare_number instr Tst rn number = TstNumber rn number
compare_number instr Cmp rn number = CmpNumber rn number.value
compare_number instr Cmn rn number = CmnNumber rn number.value
compare_number instr Teq rn number = Plain instr

abbrev pub compare_register : Instr → CompareOp → ℕ → ℕ → Op
compare_register instr Tst rn rm = TstRegister rn rm
compare_register instr Cmp rn rm = CmpRegister rn rm
compare_register instr _ rn rm = Plain instr

abbrev pub compare_op : Instr → CompareOp → ℕ → Operand → Op
compare_op instr op rn (Immediate rotate immed) = if rn == 15 then Plain instr else compare_number instr op rn (rotated_number rotate immed)
compare_op instr op rn (Shifted rm shift amount) =
    if rn == 15 || rm == 15 then Plain instr else (if is_plain shift amount then compare_register instr op rn rm else Plain instr)
compare_op instr op rn (ShiftedByRegister rm shift rs) = Plain instr

-- moves to registers below r15. MVNS takes C from the number, and not from its complement
abbrev pub move_number : Instr → MoveOp → Bool → ℕ → Number → Op
move_number instr Mov false rd number = MovNumber rd number.value
move_number instr Mvn false rd number = MovNumber rd (bit_not w32 number.value)
move_number instr Mov true rd number = MovsNumber rd number
move_number instr Mvn true rd number = Plain instr

abbrev pub move_shifted : Instr → MoveOp → Bool → ℕ → ℕ → Shift → ℕ → Op
move_shifted instr Mov false rd rm Lsl amount = MovLsl rd rm amount
move_shifted instr Mov false rd rm Lsr amount = MovLsr rd rm amount
move_shifted instr Mov false rd rm Asr amount = MovAsr rd rm amount
move_shifted instr Mov false rd rm Ror amount = MovRor rd rm amount
move_shifted instr Mov true rd rm Lsl amount = MovsLsl rd rm amount
move_shifted instr Mov true rd rm Lsr amount = MovsLsr rd rm amount
move_shifted instr Mov true rd rm Asr amount = MovsAsr rd rm amount
move_shifted instr _ _ rd rm shift amount = Plain instr

abbrev pub move_op : Instr → MoveOp → Bool → ℕ → Operand → Op
move_op instr op set_flags rd (Immediate rotate immed) =
    if rd == 15 then Plain instr else move_number instr op set_flags rd (rotated_number rotate immed)
move_op instr op set_flags rd (Shifted rm shift amount) =
    if rd == 15 || rm == 15 then Plain instr else move_shifted instr op set_flags rd rm shift amount
move_op instr op set_flags rd (ShiftedByRegister rm shift rs) = Plain instr

-- products
abbrev pub mul_op : Instr → Bool → ℕ → ℕ → ℕ → Op
mul_op instr false rd rm rs = Mul rd rm rs
mul_op instr true rd rm rs = Plain instr

abbrev pub mla_op : Instr → Bool → ℕ → ℕ → ℕ → ℕ → Op
mla_op instr false rd rm rs rn = Mla rd rm rs rn
mla_op instr true rd rm rs rn = Plain instr

-- a load or store goes to the sum of its base, which stays, and its offset, and has no r15 but as its offset
abbrev pub is_simple : Transfer → Bool
is_simple it = ((it.pre && it.up) && not it.write_back) && (not (it.rn == 15) && not (it.rd == 15))

-- by what its access is
abbrev pub number_access : TransferOp → ℕ → ℕ → ℕ → Op
number_access (WordOrByte true false) rd rn offset = LdrNumber rd rn offset
number_access (WordOrByte true true) rd rn offset = LdrbNumber rd rn offset
number_access (WordOrByte false false) rd rn offset = StrNumber rd rn offset
number_access (WordOrByte false true) rd rn offset = StrbNumber rd rn offset
number_access (HalfOrSigned Ldrh) rd rn offset = LdrhNumber rd rn offset
number_access (HalfOrSigned Strh) rd rn offset = StrhNumber rd rn offset
number_access (HalfOrSigned op) rd rn offset = AccessNumber (HalfOrSigned op) rd rn offset

abbrev pub register_access : TransferOp → ℕ → ℕ → ℕ → Op
register_access (WordOrByte true false) rd rn rm = LdrRegister rd rn rm
register_access (WordOrByte true true) rd rn rm = LdrbRegister rd rn rm
register_access (WordOrByte false false) rd rn rm = StrRegister rd rn rm
register_access (WordOrByte false true) rd rn rm = StrbRegister rd rn rm
register_access (HalfOrSigned Ldrh) rd rn rm = LdrhRegister rd rn rm
register_access (HalfOrSigned Strh) rd rn rm = StrhRegister rd rn rm
register_access (HalfOrSigned op) rd rn rm = AccessRegister (HalfOrSigned op) rd rn rm

abbrev pub number_transfer : Transfer → ℕ → Op
number_transfer it offset = if is_simple it then number_access it.op it.rd it.rn offset else TransferNumber it offset

abbrev pub register_transfer : Transfer → ℕ → Op
register_transfer it rm = if is_simple it && not (rm == 15) then register_access it.op it.rd it.rn rm else TransferRegister it rm

-- by the offset
abbrev pub transfer_op : Transfer → Offset → Op
transfer_op it (offsets.Number offset) = number_transfer it offset
transfer_op it (offsets.Register rm shift amount) =
    if is_plain shift amount then register_transfer it rm else TransferShifted it (shifted_register rm shift amount)

abbrev pub short_transfer_op : Transfer → ShortOffset → Op
short_transfer_op it (ShortNumber offset) = number_transfer it offset
short_transfer_op it (ShortRegister rm) = register_transfer it rm

-- a transfer of registers: of the mode's own, by a base that isn't r15, and of one at least
abbrev pub multiple_op : Bool → RegisterList → Op
multiple_op true it = Other
multiple_op false it = if it.rn == 15 || it.list == 0 then Other else Multiple it

-- of an instruction in its form of ARM code
abbrev pub op_of : Instr → Op
op_of (instrs.Data cond op set_flags rn rd operand) = data_op (instrs.Data cond op set_flags rn rd operand) op set_flags rd rn operand
op_of (instrs.Compare cond op rn operand) = compare_op (instrs.Compare cond op rn operand) op rn operand
op_of (instrs.Move cond op set_flags rd operand) = move_op (instrs.Move cond op set_flags rd operand) op set_flags rd operand
op_of (instrs.Branch cond link offset) = Branch link (distance 24 4 offset)
op_of (instrs.ThumbBranchIf cond offset) = Branch false (distance 8 2 offset)
op_of (instrs.ThumbBranch offset) = Branch false (distance 11 2 offset)
op_of (instrs.Transfer cond pre up byte write_back load rn rd offset) =
    transfer_op (record { op = WordOrByte load byte; pre = pre; up = up; write_back = write_back; rn = rn; rd = rd }) offset
op_of (instrs.HalfTransfer cond op pre up write_back rn rd offset) =
    short_transfer_op (record { op = HalfOrSigned op; pre = pre; up = up; write_back = write_back; rn = rn; rd = rd }) offset
op_of (instrs.ThumbLoadLiteral rd immed) = Literal rd immed
op_of (instrs.Mul cond set_flags rd rm rs) = mul_op (instrs.Mul cond set_flags rd rm rs) set_flags rd rm rs
op_of (instrs.Mla cond set_flags rd rm rs rn) = mla_op (instrs.Mla cond set_flags rd rm rs rn) set_flags rd rm rs rn
op_of (instrs.LongMultiply cond signed accumulate set_flags rd_lo rd_hi rm rs) =
    Plain (instrs.LongMultiply cond signed accumulate set_flags rd_lo rd_hi rm rs)
op_of (instrs.Multiple cond pre up user write_back load rn list) =
    multiple_op user (record { pre = pre; up = up; write_back = write_back; load = load; rn = rn; list = list })
op_of (instrs.Bx cond rm) = Exchange rm
op_of (instrs.ThumbAddress stack rd immed) = Plain (instrs.ThumbAddress stack rd immed)
op_of (instrs.ThumbBlPrefix offset) = LinkPrefix offset
op_of (instrs.ThumbBlSuffix offset) = LinkSuffix offset
op_of _ = Other

-- it is another instruction, or none
abbrev pub is_decoded : Op → Bool
is_decoded Other = false
is_decoded _ = true

-- it makes more accesses than one, or is another instruction
abbrev pub is_other : Op → Bool
is_other Other = true
is_other (Multiple it) = true
is_other _ = false

-- an instruction, or none, as an operation; another one has the condition that always holds, so that its own needn't be asked for
abbrev pub operation_of : Option Instr → Operation
operation_of None = record { cond = Al; op = Other }
operation_of (Some instr) = let op = op_of (equivalent instr) in record { cond = if is_decoded op then condition instr else Al; op = op }

-- an access loads
abbrev pub loads : TransferOp → Bool
loads (WordOrByte load byte) = load
loads (HalfOrSigned Strh) = false
loads (HalfOrSigned _) = true

-- an operation's fields are in their ranges
abbrev pub AreLow : ℕ → ℕ → Type 0
AreLow r other = (r < 15) × (other < 15)

abbrev pub AreAllLow : ℕ → ℕ → ℕ → Type 0
AreAllLow rd rn rm = AreLow rd rn × (rm < 15)

abbrev pub IsMove : ℕ → ℕ → ℕ → Type 0
IsMove rd rm amount = AreLow rd rm × (amount < 32)

abbrev pub HasTransfer : Transfer → Type 0
HasTransfer it = (it.rn < 16) × (it.rd < 16)

abbrev pub HasAccess : DataAccess → Type 0
HasAccess it = (it.rn < 16) × (it.rd < 16)

abbrev pub HasShifted : ShiftedRegister → Type 0
HasShifted it = (it.rm < 16) × (it.amount < 32)

abbrev pub HasOp : Op → Type 0
HasOp Other = Unit {0}
HasOp (AndNumber rd rn value) = AreLow rd rn
HasOp (EorNumber rd rn value) = AreLow rd rn
HasOp (SubNumber rd rn value) = AreLow rd rn
HasOp (RsbNumber rd rn value) = AreLow rd rn
HasOp (AddNumber rd rn value) = AreLow rd rn
HasOp (OrrNumber rd rn value) = AreLow rd rn
HasOp (BicNumber rd rn value) = AreLow rd rn
HasOp (AndRegister rd rn rm) = AreAllLow rd rn rm
HasOp (EorRegister rd rn rm) = AreAllLow rd rn rm
HasOp (SubRegister rd rn rm) = AreAllLow rd rn rm
HasOp (RsbRegister rd rn rm) = AreAllLow rd rn rm
HasOp (AddRegister rd rn rm) = AreAllLow rd rn rm
HasOp (OrrRegister rd rn rm) = AreAllLow rd rn rm
HasOp (BicRegister rd rn rm) = AreAllLow rd rn rm
HasOp (SubsNumber rd rn value) = AreLow rd rn
HasOp (AddsNumber rd rn value) = AreLow rd rn
HasOp (AndsRegister rd rn rm) = AreAllLow rd rn rm
HasOp (EorsRegister rd rn rm) = AreAllLow rd rn rm
HasOp (SubsRegister rd rn rm) = AreAllLow rd rn rm
HasOp (AddsRegister rd rn rm) = AreAllLow rd rn rm
HasOp (OrrsRegister rd rn rm) = AreAllLow rd rn rm
HasOp (BicsRegister rd rn rm) = AreAllLow rd rn rm
HasOp (DataShifted op rd rn by) = AreAllLow rd rn by.rm × (by.amount < 32)
HasOp (DataShiftedBy op rd rn rm shift rs) = AreAllLow rd rn rm × (rs < 15)
HasOp (TstNumber rn number) = rn < 15
HasOp (CmpNumber rn value) = rn < 15
HasOp (CmnNumber rn value) = rn < 15
HasOp (TstRegister rn rm) = AreLow rn rm
HasOp (CmpRegister rn rm) = AreLow rn rm
HasOp (MovNumber rd value) = rd < 15
HasOp (MovsNumber rd number) = rd < 15
HasOp (MovLsl rd rm amount) = IsMove rd rm amount
HasOp (MovLsr rd rm amount) = IsMove rd rm amount
HasOp (MovAsr rd rm amount) = IsMove rd rm amount
HasOp (MovRor rd rm amount) = IsMove rd rm amount
HasOp (MovsLsl rd rm amount) = IsMove rd rm amount
HasOp (MovsLsr rd rm amount) = IsMove rd rm amount
HasOp (MovsAsr rd rm amount) = IsMove rd rm amount
HasOp (Mul rd rm rs) = (rd < 16) × (rm < 16) × (rs < 16)
HasOp (Mla rd rm rs rn) = (rd < 16) × (rm < 16) × (rs < 16) × (rn < 16)
HasOp (Branch link far) = Unit {0}
HasOp (Exchange rm) = rm < 16
HasOp (LinkPrefix offset) = offset < 2 ^ 11
HasOp (LinkSuffix offset) = offset < 2 ^ 11
HasOp (LdrNumber rd rn offset) = AreLow rd rn
HasOp (LdrbNumber rd rn offset) = AreLow rd rn
HasOp (LdrhNumber rd rn offset) = AreLow rd rn
HasOp (StrNumber rd rn offset) = AreLow rd rn
HasOp (StrbNumber rd rn offset) = AreLow rd rn
HasOp (StrhNumber rd rn offset) = AreLow rd rn
HasOp (LdrRegister rd rn rm) = AreAllLow rd rn rm
HasOp (LdrbRegister rd rn rm) = AreAllLow rd rn rm
HasOp (LdrhRegister rd rn rm) = AreAllLow rd rn rm
HasOp (StrRegister rd rn rm) = AreAllLow rd rn rm
HasOp (StrbRegister rd rn rm) = AreAllLow rd rn rm
HasOp (StrhRegister rd rn rm) = AreAllLow rd rn rm
HasOp (AccessNumber op rd rn offset) = AreLow rd rn
HasOp (AccessRegister op rd rn rm) = AreAllLow rd rn rm
HasOp (TransferNumber it offset) = HasTransfer it
HasOp (TransferRegister it rm) = HasTransfer it × (rm < 16)
HasOp (TransferShifted it by) = HasTransfer it × HasShifted by
HasOp (Literal rd immed) = rd < 16
HasOp (Multiple it) = (it.rn < 15) × ((it.list == 0) ≡ false)
HasOp (Plain instr) = HasFields instr

-- and what is decoded keeps to them
abbrev pub HasOperation : Operation → Type 0
HasOperation operation = HasOp operation.op × (is_decoded operation.op ≡ false → operation.cond ≡ Al)
