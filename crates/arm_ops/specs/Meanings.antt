use Rattle.std.specs.Prelude.{ℕ, ◌≡◌, ◌/◌, ◌^◌, ◌==◌, ◌||◌, Bool, true, false, if◌then◌else◌, List, [], ◌∷◌, Option, Some, None}
use Rattle.ds_base.specs.Accesses.{Access, Fetch, MemoryMachine, Read, Write}
use Rattle.ds_base.specs.Bits.{bit}
use Rattle.ds_base.specs.declared.memories.Width.{Width}
use Rattle.ds_base.specs.declared.processors.Arch.{Arch}
use Rattle.arm_words.specs.declared.operations.CompareOp.{CompareOp}
use Rattle.arm_words.specs.declared.operations.CompareOp.TheVariants.{Tst, Cmp, Cmn}
use Rattle.arm_words.specs.declared.operations.DataOp.{DataOp}
use Rattle.arm_words.specs.declared.operations.DataOp.TheVariants.{And, Eor, Sub, Rsb, Add, Orr, Bic}
use Rattle.arm_words.specs.declared.operations.HalfOp.TheVariants.{Ldrh, Strh}
use Rattle.arm_words.specs.declared.operations.MoveOp.TheVariants.{Mov}
use Rattle.arm_words.specs.declared.parts.Operand.TheVariants.{ShiftedByRegister}
use Rattle.arm_words.specs.declared.parts.Shift.{Shift}
use Rattle.arm_words.specs.declared.parts.Shift.TheVariants.{Lsl, Lsr, Asr, Ror}
use Rattle.arm_core.specs.Addressing.{addressed, addressed_literal}
use Rattle.arm_core.specs.Branches.{branch_meaning, exchange_meaning, prefix_meaning, suffix_meaning}
use Rattle.arm_core.specs.Conditions.{c_flag, holds, v_flag}
use Rattle.arm_core.specs.Multiples.{multiple_meaning}
use Rattle.arm_core.specs.Multiplies.{multiply_meaning}
use Rattle.arm_core.specs.DataProcessing.{compare_result, data_meaning, data_result, result_put, move_result, with_flags}
use Rattle.arm_core.specs.Effects.{Meaning}
use Rattle.arm_core.specs.Meanings.{act_processing, skipped}
use Rattle.arm_core.specs.Registers.{RegisterState, next, register}
use Rattle.arm_core.specs.Shifter.{shift_by_number, shifted32}
use Rattle.arm_core.specs.Transfers.{half_or_signed_meaning, word_or_byte_meaning}
use Rattle.arm_core.specs.declared.addresses.Addressed.{Addressed}
use Rattle.arm_core.specs.declared.classes.Class.TheVariants.{Processing}
use Rattle.arm_core.specs.declared.shifter.Shifted32.{Shifted32}
use Rattle.arm_ops.specs.Operations.{shifted_register}
use Rattle.arm_ops.specs.declared.operations.DataAccess.{DataAccess}
use Rattle.arm_ops.specs.declared.operations.Number.{Number}
use Rattle.arm_ops.specs.declared.operations.Op.{Op}
use Rattle.arm_ops.specs.declared.operations.Op.TheVariants.{AndNumber, EorNumber, SubNumber, RsbNumber, AddNumber, OrrNumber, BicNumber, AndRegister, EorRegister, SubRegister, RsbRegister, AddRegister, OrrRegister, BicRegister, SubsNumber, AddsNumber, AndsRegister, EorsRegister, SubsRegister, AddsRegister, OrrsRegister, BicsRegister, DataShifted, DataShiftedBy, TstNumber, CmpNumber, CmnNumber, TstRegister, CmpRegister, MovNumber, MovsNumber, MovLsl, MovLsr, MovAsr, MovRor, MovsLsl, MovsLsr, MovsAsr, Mul, Mla, Branch, Exchange, LinkPrefix, LinkSuffix, LdrNumber, LdrbNumber, LdrhNumber, StrNumber, StrbNumber, StrhNumber, LdrRegister, LdrbRegister, LdrhRegister, StrRegister, StrbRegister, StrhRegister, AccessNumber, AccessRegister, TransferNumber, TransferRegister, TransferShifted, Literal, Multiple, Plain}
use Rattle.arm_ops.specs.declared.operations.Operation.{Operation}
use Rattle.arm_ops.specs.declared.operations.ShiftedRegister.{ShiftedRegister}
use Rattle.arm_ops.specs.declared.operations.Transfer.{Transfer}
use Rattle.arm_ops.specs.declared.operations.TransferOp.{TransferOp}
use Rattle.arm_ops.specs.declared.operations.TransferOp.TheVariants.{WordOrByte, HalfOrSigned}

-- What operations mean. Nothing is defined anew: each is a meaning of the instructions', of operands that are decoded.

-- the second operand, and its carry
abbrev pub number_operand : RegisterState → Number → Shifted32
number_operand s it = shifted32 it.value (if it.keeps_carry then c_flag s.cpsr else bit 31 it.value)

abbrev pub register_operand : RegisterState → ℕ → Shifted32
register_operand s rm = shifted32 (register s rm) (c_flag s.cpsr)

abbrev pub shifted_operand : RegisterState → ShiftedRegister → Shifted32
shifted_operand s it = shift_by_number it.shift (register s it.rm) it.amount (c_flag s.cpsr)

-- a number that leaves C
abbrev pub kept : RegisterState → ℕ → Shifted32
kept s value = number_operand s (record { keeps_carry = true; value = value })

-- data processing by it
abbrev pub data_by : RegisterState → DataOp → Bool → ℕ → ℕ → Shifted32 → Meaning
data_by s op set_flags rd rn operand =
    let result = data_result op (register s rn) operand (c_flag s.cpsr) (v_flag s.cpsr) in
    record { accesses = []; after = λ values. result_put set_flags rd result (next s); class = Processing; jumps = rd == 15 }

abbrev pub compare_by : RegisterState → CompareOp → ℕ → Shifted32 → Meaning
compare_by s op rn operand =
    let result = compare_result op (register s rn) operand (v_flag s.cpsr) in
    record { accesses = []; after = λ values. with_flags result (next s); class = Processing; jumps = false }

abbrev pub move_by : RegisterState → Bool → ℕ → Shifted32 → Meaning
move_by s set_flags rd operand =
    let result = move_result Mov operand (v_flag s.cpsr) in
    record { accesses = []; after = λ values. result_put set_flags rd result (next s); class = Processing; jumps = rd == 15 }

-- of a register that an amount shifts
abbrev pub shifted_by : RegisterState → ℕ → Shift → ℕ → Shifted32
shifted_by s rm shift amount = shifted_operand s (shifted_register rm shift amount)

-- the access of data that an operation makes, if it makes one: of a load or store with an offset, or of Thumb's load of a literal
abbrev pub access_by : RegisterState → Transfer → ℕ → DataAccess
access_by s it offset = record { op = it.op; rn = it.rn; rd = it.rd; to = addressed s it.pre it.up it.write_back it.rn offset }

abbrev pub access_at : RegisterState → TransferOp → ℕ → ℕ → ℕ → DataAccess
access_at s op rd rn offset = access_by s (record { op = op; pre = true; up = true; write_back = false; rn = rn; rd = rd }) offset

abbrev pub literal_access : RegisterState → ℕ → ℕ → DataAccess
literal_access s rd immed = record { op = WordOrByte true false; rn = 15; rd = rd; to = addressed_literal s immed }

abbrev pub access_of : RegisterState → Op → Option DataAccess
access_of s (LdrNumber rd rn offset) = Some (access_at s (WordOrByte true false) rd rn offset)
access_of s (LdrbNumber rd rn offset) = Some (access_at s (WordOrByte true true) rd rn offset)
access_of s (LdrhNumber rd rn offset) = Some (access_at s (HalfOrSigned Ldrh) rd rn offset)
access_of s (StrNumber rd rn offset) = Some (access_at s (WordOrByte false false) rd rn offset)
access_of s (StrbNumber rd rn offset) = Some (access_at s (WordOrByte false true) rd rn offset)
access_of s (StrhNumber rd rn offset) = Some (access_at s (HalfOrSigned Strh) rd rn offset)
access_of s (LdrRegister rd rn rm) = Some (access_at s (WordOrByte true false) rd rn (register s rm))
access_of s (LdrbRegister rd rn rm) = Some (access_at s (WordOrByte true true) rd rn (register s rm))
access_of s (LdrhRegister rd rn rm) = Some (access_at s (HalfOrSigned Ldrh) rd rn (register s rm))
access_of s (StrRegister rd rn rm) = Some (access_at s (WordOrByte false false) rd rn (register s rm))
access_of s (StrbRegister rd rn rm) = Some (access_at s (WordOrByte false true) rd rn (register s rm))
access_of s (StrhRegister rd rn rm) = Some (access_at s (HalfOrSigned Strh) rd rn (register s rm))
access_of s (AccessNumber op rd rn offset) = Some (access_at s op rd rn offset)
access_of s (AccessRegister op rd rn rm) = Some (access_at s op rd rn (register s rm))
access_of s (TransferNumber it offset) = Some (access_by s it offset)
access_of s (TransferRegister it rm) = Some (access_by s it (register s rm))
access_of s (TransferShifted it by) = Some (access_by s it (shifted_operand s by).value)
access_of s (Literal rd immed) = Some (literal_access s rd immed)
access_of s _ = None

-- what such an access means
abbrev pub single_transfer_meaning : Arch → RegisterState → TransferOp → ℕ → ℕ → Addressed → Meaning
single_transfer_meaning arch s (WordOrByte load byte) rn rd to = word_or_byte_meaning arch s load byte rn rd to
single_transfer_meaning arch s (HalfOrSigned op) rn rd to = half_or_signed_meaning arch s op rn rd to

abbrev pub access_meaning : Arch → RegisterState → DataAccess → Meaning
access_meaning arch s it = single_transfer_meaning arch s it.op it.rn it.rd it.to

-- what an operation means that makes none, or more than one; an instruction as it is enters no exception, so it means the same with every base of
-- the vectors
abbrev pub computed : Arch → RegisterState → Op → Meaning
computed arch s (AndNumber rd rn value) = data_by s And false rd rn (kept s value)
computed arch s (EorNumber rd rn value) = data_by s Eor false rd rn (kept s value)
computed arch s (SubNumber rd rn value) = data_by s Sub false rd rn (kept s value)
computed arch s (RsbNumber rd rn value) = data_by s Rsb false rd rn (kept s value)
computed arch s (AddNumber rd rn value) = data_by s Add false rd rn (kept s value)
computed arch s (OrrNumber rd rn value) = data_by s Orr false rd rn (kept s value)
computed arch s (BicNumber rd rn value) = data_by s Bic false rd rn (kept s value)
computed arch s (AndRegister rd rn rm) = data_by s And false rd rn (register_operand s rm)
computed arch s (EorRegister rd rn rm) = data_by s Eor false rd rn (register_operand s rm)
computed arch s (SubRegister rd rn rm) = data_by s Sub false rd rn (register_operand s rm)
computed arch s (RsbRegister rd rn rm) = data_by s Rsb false rd rn (register_operand s rm)
computed arch s (AddRegister rd rn rm) = data_by s Add false rd rn (register_operand s rm)
computed arch s (OrrRegister rd rn rm) = data_by s Orr false rd rn (register_operand s rm)
computed arch s (BicRegister rd rn rm) = data_by s Bic false rd rn (register_operand s rm)
computed arch s (SubsNumber rd rn value) = data_by s Sub true rd rn (kept s value)
computed arch s (AddsNumber rd rn value) = data_by s Add true rd rn (kept s value)
computed arch s (AndsRegister rd rn rm) = data_by s And true rd rn (register_operand s rm)
computed arch s (EorsRegister rd rn rm) = data_by s Eor true rd rn (register_operand s rm)
computed arch s (SubsRegister rd rn rm) = data_by s Sub true rd rn (register_operand s rm)
computed arch s (AddsRegister rd rn rm) = data_by s Add true rd rn (register_operand s rm)
computed arch s (OrrsRegister rd rn rm) = data_by s Orr true rd rn (register_operand s rm)
computed arch s (BicsRegister rd rn rm) = data_by s Bic true rd rn (register_operand s rm)
computed arch s (DataShifted op rd rn by) = data_by s op false rd rn (shifted_operand s by)
computed arch s (DataShiftedBy op rd rn rm shift rs) = data_meaning s op false rn rd (ShiftedByRegister rm shift rs)
computed arch s (TstNumber rn number) = compare_by s Tst rn (number_operand s number)
computed arch s (CmpNumber rn value) = compare_by s Cmp rn (kept s value)
computed arch s (CmnNumber rn value) = compare_by s Cmn rn (kept s value)
computed arch s (TstRegister rn rm) = compare_by s Tst rn (register_operand s rm)
computed arch s (CmpRegister rn rm) = compare_by s Cmp rn (register_operand s rm)
computed arch s (MovNumber rd value) = move_by s false rd (kept s value)
computed arch s (MovsNumber rd number) = move_by s true rd (number_operand s number)
computed arch s (MovLsl rd rm amount) = move_by s false rd (shifted_by s rm Lsl amount)
computed arch s (MovLsr rd rm amount) = move_by s false rd (shifted_by s rm Lsr amount)
computed arch s (MovAsr rd rm amount) = move_by s false rd (shifted_by s rm Asr amount)
computed arch s (MovRor rd rm amount) = move_by s false rd (shifted_by s rm Ror amount)
computed arch s (MovsLsl rd rm amount) = move_by s true rd (shifted_by s rm Lsl amount)
computed arch s (MovsLsr rd rm amount) = move_by s true rd (shifted_by s rm Lsr amount)
computed arch s (MovsAsr rd rm amount) = move_by s true rd (shifted_by s rm Asr amount)
computed arch s (Mul rd rm rs) = multiply_meaning s false rd rm rs 0
computed arch s (Mla rd rm rs rn) = multiply_meaning s false rd rm rs (register s rn)
computed arch s (Branch link far) = branch_meaning s link far
computed arch s (Exchange rm) = exchange_meaning s rm
computed arch s (LinkPrefix offset) = prefix_meaning s offset
computed arch s (LinkSuffix offset) = suffix_meaning s offset
computed arch s (Multiple it) = multiple_meaning arch s it.pre it.up false it.write_back it.load it.rn it.list
computed arch s (Plain instr) = act_processing arch 0 s instr
computed arch s _ = skipped s

-- an operation on an architecture, in a state of the registers
abbrev pub meaning_by : Arch → RegisterState → Op → Option DataAccess → Meaning
meaning_by arch s op (Some access) = access_meaning arch s access
meaning_by arch s op None = computed arch s op

abbrev pub op_meaning : Arch → RegisterState → Op → Meaning
op_meaning arch s op = meaning_by arch s op (access_of s op)

-- where its condition holds
abbrev pub operation_meaning : Arch → RegisterState → Operation → Meaning
operation_meaning arch s operation = if holds operation.cond s.cpsr then op_meaning arch s operation.op else skipped s

-- its access of data, if it makes one, and what accesses that makes
abbrev pub access_made : RegisterState → Operation → Option DataAccess
access_made s operation = if holds operation.cond s.cpsr then access_of s operation.op else None

abbrev pub accesses_by : Arch → RegisterState → Option DataAccess → List Access
accesses_by arch s None = []
accesses_by arch s (Some access) = (access_meaning arch s access).accesses

-- RAM: 2000000h to 3FFFFFFh, which hold main memory, the shared and ARM7's own work RAM, and no port (GBATEK, "DS Memory Map")
abbrev pub is_ram : ℕ → Bool
is_ram at = at / 2 ^ 25 == 1

-- an access of it, or a load where whoever runs operations says that loads are near too
abbrev pub IsNearAccess : (ℕ → Bool) → Access → Type 0
IsNearAccess near (Fetch at width) = is_ram at ≡ true
IsNearAccess near (Read at width) = (is_ram at || near at) ≡ true
IsNearAccess near (Write at width value) = is_ram at ≡ true

-- all accesses are near
abbrev pub AreNear : (ℕ → Bool) → List Access → Type 0
AreNear near [] = Unit {0}
AreNear near (access ∷ rest) = IsNearAccess near access × AreNear near rest

-- a memory machine refuses no write of RAM
abbrev pub RefusesNoneInRam : {S : Type 0} → MemoryMachine S → Type 0
RefusesNoneInRam {S} memory = (state : S) (at : ℕ) (width : Width) (value : ℕ) → is_ram at ≡ true → memory.refusal state at width value ≡ None
