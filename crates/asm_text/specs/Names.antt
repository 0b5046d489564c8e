use Rattle.std.specs.Prelude.{ℕ, List, [], ◌++◌, codes, Bool, if◌then◌else◌}
use Rattle.asm_text.specs.Text.{where_set}
use Rattle.arm_words.specs.declared.parts.Condition.{Condition}
use Rattle.arm_words.specs.declared.parts.Condition.TheVariants as conditions
use Rattle.arm_words.specs.declared.parts.Shift.{Shift}
use Rattle.arm_words.specs.declared.parts.Shift.TheVariants as shifts
use Rattle.arm_words.specs.declared.parts.FieldMask.{FieldMask}
use Rattle.arm_words.specs.declared.operations.DataOp.{DataOp}
use Rattle.arm_words.specs.declared.operations.DataOp.TheVariants as data_ops
use Rattle.arm_words.specs.declared.operations.CompareOp.{CompareOp}
use Rattle.arm_words.specs.declared.operations.CompareOp.TheVariants as compare_ops
use Rattle.arm_words.specs.declared.operations.MoveOp.{MoveOp}
use Rattle.arm_words.specs.declared.operations.MoveOp.TheVariants as move_ops
use Rattle.arm_words.specs.declared.operations.HalfOp.{HalfOp}
use Rattle.arm_words.specs.declared.operations.HalfOp.TheVariants as half_ops
use Rattle.arm_words.specs.declared.operations.ThumbImmediateOp.{ThumbImmediateOp}
use Rattle.arm_words.specs.declared.operations.ThumbImmediateOp.TheVariants as immediate_ops
use Rattle.arm_words.specs.declared.operations.ThumbDataOp.{ThumbDataOp}
use Rattle.arm_words.specs.declared.operations.ThumbDataOp.TheVariants as thumb_ops
use Rattle.arm_words.specs.declared.operations.HighOp.{HighOp}
use Rattle.arm_words.specs.declared.operations.HighOp.TheVariants as high_ops
use Rattle.arm_words.specs.declared.operations.ThumbTransferOp.{ThumbTransferOp}
use Rattle.arm_words.specs.declared.operations.ThumbTransferOp.TheVariants as transfer_ops

-- mnemonics are the ARM manual's in lower case

-- the suffix of a condition (ARM manual, "The condition field"); `al` isn't written
abbrev pub suffix : Condition → List ℕ
suffix conditions.Eq = codes "eq"
suffix conditions.Ne = codes "ne"
suffix conditions.Cs = codes "cs"
suffix conditions.Cc = codes "cc"
suffix conditions.Mi = codes "mi"
suffix conditions.Pl = codes "pl"
suffix conditions.Vs = codes "vs"
suffix conditions.Vc = codes "vc"
suffix conditions.Hi = codes "hi"
suffix conditions.Ls = codes "ls"
suffix conditions.Ge = codes "ge"
suffix conditions.Lt = codes "lt"
suffix conditions.Gt = codes "gt"
suffix conditions.Le = codes "le"
suffix conditions.Al = []

abbrev pub shift_name : Shift → List ℕ
shift_name shifts.Lsl = codes "lsl"
shift_name shifts.Lsr = codes "lsr"
shift_name shifts.Asr = codes "asr"
shift_name shifts.Ror = codes "ror"

abbrev pub data_name : DataOp → List ℕ
data_name data_ops.And = codes "and"
data_name data_ops.Eor = codes "eor"
data_name data_ops.Sub = codes "sub"
data_name data_ops.Rsb = codes "rsb"
data_name data_ops.Add = codes "add"
data_name data_ops.Adc = codes "adc"
data_name data_ops.Sbc = codes "sbc"
data_name data_ops.Rsc = codes "rsc"
data_name data_ops.Orr = codes "orr"
data_name data_ops.Bic = codes "bic"

abbrev pub compare_name : CompareOp → List ℕ
compare_name compare_ops.Tst = codes "tst"
compare_name compare_ops.Teq = codes "teq"
compare_name compare_ops.Cmp = codes "cmp"
compare_name compare_ops.Cmn = codes "cmn"

abbrev pub move_name : MoveOp → List ℕ
move_name move_ops.Mov = codes "mov"
move_name move_ops.Mvn = codes "mvn"

abbrev pub half_name : HalfOp → List ℕ
half_name half_ops.Strh = codes "strh"
half_name half_ops.Ldrh = codes "ldrh"
half_name half_ops.Ldrsb = codes "ldrsb"
half_name half_ops.Ldrsh = codes "ldrsh"

abbrev pub saturating_name : Bool → Bool → List ℕ
saturating_name double subtract = codes "q" ++ (where_set double (codes "d") ++ (if subtract then codes "sub" else codes "add"))

abbrev pub long_name : Bool → Bool → List ℕ
long_name signed accumulate = (if signed then codes "s" else codes "u") ++ (if accumulate then codes "mlal" else codes "mull")

-- which half of a register a multiply takes
abbrev pub half_letter : Bool → List ℕ
half_letter top = if top then codes "t" else codes "b"

-- transfers of a word or byte
abbrev pub load_name : Bool → List ℕ
load_name load = if load then codes "ldr" else codes "str"

-- how a transfer of several registers moves its base: increment or decrement, after or before
abbrev pub block_mode : Bool → Bool → List ℕ
block_mode pre up = (if up then codes "i" else codes "d") ++ (if pre then codes "b" else codes "a")

abbrev pub status_name : Bool → List ℕ
status_name spsr = if spsr then codes "spsr" else codes "cpsr"

-- the letters of the fields that MSR writes (ARM manual, "MSR")
abbrev pub field_letters : FieldMask → List ℕ
field_letters m = where_set m.f (codes "f") ++ (where_set m.s (codes "s") ++ (where_set m.x (codes "x") ++ where_set m.c (codes "c")))

abbrev pub immediate_name : ThumbImmediateOp → List ℕ
immediate_name immediate_ops.Mov = codes "mov"
immediate_name immediate_ops.Cmp = codes "cmp"
immediate_name immediate_ops.Add = codes "add"
immediate_name immediate_ops.Sub = codes "sub"

abbrev pub thumb_data_name : ThumbDataOp → List ℕ
thumb_data_name thumb_ops.And = codes "and"
thumb_data_name thumb_ops.Eor = codes "eor"
thumb_data_name thumb_ops.Lsl = codes "lsl"
thumb_data_name thumb_ops.Lsr = codes "lsr"
thumb_data_name thumb_ops.Asr = codes "asr"
thumb_data_name thumb_ops.Adc = codes "adc"
thumb_data_name thumb_ops.Sbc = codes "sbc"
thumb_data_name thumb_ops.Ror = codes "ror"
thumb_data_name thumb_ops.Tst = codes "tst"
thumb_data_name thumb_ops.Neg = codes "neg"
thumb_data_name thumb_ops.Cmp = codes "cmp"
thumb_data_name thumb_ops.Cmn = codes "cmn"
thumb_data_name thumb_ops.Orr = codes "orr"
thumb_data_name thumb_ops.Mul = codes "mul"
thumb_data_name thumb_ops.Bic = codes "bic"
thumb_data_name thumb_ops.Mvn = codes "mvn"

-- with an h, so that no other statement is written so (our choice)
abbrev pub high_name : HighOp → List ℕ
high_name high_ops.Add = codes "addh"
high_name high_ops.Cmp = codes "cmph"
high_name high_ops.Mov = codes "movh"

abbrev pub transfer_name : ThumbTransferOp → List ℕ
transfer_name transfer_ops.Str = codes "str"
transfer_name transfer_ops.Strh = codes "strh"
transfer_name transfer_ops.Strb = codes "strb"
transfer_name transfer_ops.Ldrsb = codes "ldrsb"
transfer_name transfer_ops.Ldr = codes "ldr"
transfer_name transfer_ops.Ldrh = codes "ldrh"
transfer_name transfer_ops.Ldrb = codes "ldrb"
transfer_name transfer_ops.Ldrsh = codes "ldrsh"
