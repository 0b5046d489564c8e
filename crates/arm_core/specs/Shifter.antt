use Rattle.std.specs.Prelude.{ℕ, ◌+◌, ◌-◌, ◌*◌, ◌/◌, ◌%◌, ◌^◌, ◌==◌, nat_lt, Bool, false, if◌then◌else◌}
use Rattle.std.specs.Int.{rotate_right, w32}
use Rattle.ds_base.specs.Bits.{bit, bits, flag}
use Rattle.arm_words.specs.declared.parts.Shift.{Shift}
use Rattle.arm_words.specs.declared.parts.Shift.TheVariants.{Lsl, Lsr, Asr, Ror}
use Rattle.arm_words.specs.declared.parts.Operand.{Operand}
use Rattle.arm_words.specs.declared.parts.Operand.TheVariants.{Immediate, Shifted, ShiftedByRegister}
use Rattle.arm_core.specs.Registers.{RegisterState, register, late_register}
use Rattle.arm_core.specs.Conditions.{c_flag}
use Rattle.arm_core.specs.declared.shifter.Shifted32.{Shifted32}

-- The operand of data processing and its carry (ARM manual, A5.1 "Addressing Mode 1 - Data-processing operands").

-- shifter_operand and shifter_carry_out
abbrev pub shifted32 : ℕ → Bool → Shifted32
shifted32 value carry = record { value = value; carry = carry }

-- A5.1.6 "Logical shift left by register"
abbrev pub shift_left : ℕ → ℕ → Bool → Shifted32
shift_left rm amount c =
    if amount == 0 then shifted32 rm c
    else if nat_lt amount 32 then shifted32 (rm * 2 ^ amount % 2 ^ 32) (bit (32 - amount) rm)
    else if amount == 32 then shifted32 0 (bit 0 rm)
    else shifted32 0 false

-- A5.1.8 "Logical shift right by register"
abbrev pub shift_right : ℕ → ℕ → Bool → Shifted32
shift_right rm amount c =
    if amount == 0 then shifted32 rm c
    else if nat_lt amount 32 then shifted32 (rm / 2 ^ amount) (bit (amount - 1) rm)
    else if amount == 32 then shifted32 0 (bit 31 rm)
    else shifted32 0 false

-- a word shifted right below 32, with its sign
abbrev pub arithmetic_shift : ℕ → ℕ → ℕ
arithmetic_shift rm amount = if bit 31 rm then 2 ^ 32 - 1 - (2 ^ 32 - 1 - rm) / 2 ^ amount else rm / 2 ^ amount

-- A5.1.10 "Arithmetic shift right by register"
abbrev pub shift_right_signed : ℕ → ℕ → Bool → Shifted32
shift_right_signed rm amount c =
    if amount == 0 then shifted32 rm c
    else if nat_lt amount 32 then shifted32 (arithmetic_shift rm amount) (bit (amount - 1) rm)
    else shifted32 (if bit 31 rm then 2 ^ 32 - 1 else 0) (bit 31 rm)

-- A5.1.12 "Rotate right by register"
abbrev pub rotate : ℕ → ℕ → Bool → Shifted32
rotate rm amount c =
    if amount == 0 then shifted32 rm c
    else if amount % 32 == 0 then shifted32 rm (bit 31 rm)
    else shifted32 (rotate_right w32 rm (amount % 32)) (bit (amount % 32 - 1) rm)

-- a word shifted by an amount below 256, as a register gives it
abbrev pub shift_by : Shift → ℕ → ℕ → Bool → Shifted32
shift_by Lsl rm amount c = shift_left rm amount c
shift_by Lsr rm amount c = shift_right rm amount c
shift_by Asr rm amount c = shift_right_signed rm amount c
shift_by Ror rm amount c = rotate rm amount c

-- A5.1.13 "Rotate right with extend"
abbrev pub rotate_through : ℕ → Bool → Shifted32
rotate_through rm c = shifted32 (flag 31 c + rm / 2) (bit 0 rm)

-- an amount of an instruction's own: 0 stands for 32 at LSR and ASR, and for the rotation through C at ROR (A5.1.5, A5.1.7, A5.1.9,
-- A5.1.11)
abbrev pub shift_by_number : Shift → ℕ → ℕ → Bool → Shifted32
shift_by_number Lsl rm amount c = shift_left rm amount c
shift_by_number Lsr rm amount c = shift_right rm (if amount == 0 then 32 else amount) c
shift_by_number Asr rm amount c = shift_right_signed rm (if amount == 0 then 32 else amount) c
shift_by_number Ror rm amount c = if amount == 0 then rotate_through rm c else rotate rm amount c

-- A5.1.3 "Immediate": a byte rotated right by twice a number below 16; a rotation by 0 keeps C
abbrev pub rotated_immediate : ℕ → ℕ → Bool → Shifted32
rotated_immediate rotation immed c =
    let value = rotate_right w32 immed (2 * rotation) in
    shifted32 value (if rotation == 0 then c else bit 31 value)

-- the operand and its carry. Where a register shifts, its least byte is the amount, and r15 reads as the address + 12
abbrev pub shifter_operand : RegisterState → Operand → Shifted32
shifter_operand s (Immediate rotation immed) = rotated_immediate rotation immed (c_flag s.cpsr)
shifter_operand s (Shifted rm shift amount) = shift_by_number shift (register s rm) amount (c_flag s.cpsr)
shifter_operand s (ShiftedByRegister rm shift rs) = shift_by shift (late_register s rm) (bits 0 8 (late_register s rs)) (c_flag s.cpsr)

-- the first operand beside it
abbrev pub first_operand : RegisterState → Operand → ℕ → ℕ
first_operand s (ShiftedByRegister rm shift rs) rn = late_register s rn
first_operand s _ rn = register s rn
