use Rattle.std.specs.Prelude.{ℕ, ◌+◌, ◌*◌, ◌%◌, ◌^◌, Bool, true, false}
use Rattle.ds_base.specs.Bits.{flag}
use Rattle.arm_core.specs.Registers.{RegisterState, is_thumb, register, next, put, jumped}
use Rattle.arm_core.specs.Branches.{distance, exchanged, with_thumb}
use Rattle.arm_core.specs.Effects.{Meaning, without_access}
use Rattle.arm_core.specs.declared.classes.Class.TheVariants.{Branch}

-- Branches with link that can change the state (ARM manual, A4.1 "BLX (1)", "BLX (2)"; Thumb's A7.1 "BL, BLX (1)", "BLX (2)").

-- r14 has the next instruction's address, in Thumb state with bit 0 set
abbrev pub linked : RegisterState → RegisterState
linked s = put 14 (((next s).pc + flag 0 (is_thumb s)) % 2 ^ 32) (next s)

-- "BLX (2)": rm is read before r14 is written
abbrev pub link_exchange_meaning : RegisterState → ℕ → Meaning
link_exchange_meaning s rm = without_access (exchanged (register s rm) (linked s)) Branch

-- "BLX (1)": the target is Thumb code, and H adds 2 to it
abbrev pub link_target_meaning : RegisterState → Bool → ℕ → Meaning
link_target_meaning s half offset =
    without_access (jumped ((register s 15 + distance 24 4 offset + flag 1 half) % 2 ^ 32) (with_thumb true (linked s))) Branch

-- the second half of Thumb's "BL, BLX (1)": it goes to ARM code at r14 with the low part
abbrev pub link_suffix_meaning : RegisterState → ℕ → Meaning
link_suffix_meaning s offset = without_access (jumped ((register s 14 + 2 * offset) % 2 ^ 32) (with_thumb false (linked s))) Branch
