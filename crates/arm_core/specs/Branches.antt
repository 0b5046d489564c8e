use Rattle.std.specs.Prelude.{ℕ, ◌+◌, ◌-◌, ◌*◌, ◌%◌, ◌^◌, nat_lt, bit_and, bit_or, Bool, if◌then◌else◌}
use Rattle.ds_base.specs.Bits.{bit, flag}
use Rattle.arm_core.specs.Registers.{RegisterState, register, next, put, jumped}
use Rattle.arm_core.specs.Effects.{Meaning, without_access}
use Rattle.arm_core.specs.declared.classes.Class.TheVariants.{Processing, Branch}

-- Branches (ARM manual, A3.3 "Branch instructions"; Thumb's A6.3).

-- the state of T
abbrev pub with_thumb : Bool → RegisterState → RegisterState
with_thumb thumb s = record s { cpsr = bit_or (bit_and s.cpsr 0xFFFFFFDF) (flag 5 thumb) }

-- BX: bit 0 of the target is T, and the target is aligned for the state (10 in bits 1 and 0 is ARM state, our choice)
abbrev pub exchanged : ℕ → RegisterState → RegisterState
exchanged target s = jumped target (with_thumb (bit 0 target) s)

abbrev pub exchange_meaning : RegisterState → ℕ → Meaning
exchange_meaning s rm = without_access (exchanged (register s rm) (next s)) Branch

-- a field of so many bits as a signed number, times a number of bytes, modulo 2^32
abbrev pub distance : ℕ → ℕ → ℕ → ℕ
distance size bytes field = if nat_lt field (2 ^ (size - 1)) then bytes * field else 2 ^ 32 + bytes * field - bytes * 2 ^ size

-- B and BL, and Thumb's B: r15 goes to what it reads as with the distance; BL leaves the next instruction's address in r14
abbrev pub branch_meaning : RegisterState → Bool → ℕ → Meaning
branch_meaning s link far =
    without_access (jumped ((register s 15 + far) % 2 ^ 32) (if link then put 14 (next s).pc (next s) else next s)) Branch

-- Thumb's BL in two halves (A7.1 "BL, BLX (1)"): the first leaves the high part of the target in r14
abbrev pub prefix_meaning : RegisterState → ℕ → Meaning
prefix_meaning s offset = without_access (put 14 ((register s 15 + distance 11 4096 offset) % 2 ^ 32) (next s)) Processing

-- the second goes to r14 with the low part, and leaves the next instruction's address with bit 0 set
abbrev pub suffix_meaning : RegisterState → ℕ → Meaning
suffix_meaning s offset =
    without_access (jumped ((register s 14 + 2 * offset) % 2 ^ 32) (put 14 (((next s).pc + 1) % 2 ^ 32) (next s))) Branch

-- Thumb's ADD of r15, whose bits 1 and 0 are cleared (A7.1, "ADD (5)")
abbrev pub address_meaning : RegisterState → ℕ → ℕ → Meaning
address_meaning s rd immed = let base = register s 15 in without_access (put rd ((base - base % 4 + 4 * immed) % 2 ^ 32) (next s)) Processing
