use Rattle.std.specs.Prelude.{ℕ, zero, suc, ◌+◌, ◌-◌, ◌*◌, ◌%◌, ◌^◌, ◌==◌, count_ones, Bool, true, false, ◌&&◌, ◌||◌, not, if◌then◌else◌, List, [], ◌∷◌}
use Rattle.ds_base.specs.Bits.{bit}
use Rattle.arm_words.specs.declared.parts.Offset.{Offset}
use Rattle.arm_words.specs.declared.parts.Offset.TheVariants.{Number, Register}
use Rattle.arm_words.specs.declared.parts.ShortOffset.{ShortOffset}
use Rattle.arm_words.specs.declared.parts.ShortOffset.TheVariants.{ShortNumber, ShortRegister}
use Rattle.arm_core.specs.declared.addresses.Addressed.{Addressed}
use Rattle.arm_core.specs.Registers.{RegisterState, register, put}
use Rattle.arm_core.specs.Conditions.{c_flag}
use Rattle.arm_core.specs.Shifter.{shift_by_number}

-- The addresses of transfers (ARM manual, A5.2 "Addressing Mode 2", A5.3 "Addressing Mode 3", A5.4 "Addressing Mode 4").

-- mode 2: a number, or a register that an amount shifts
abbrev pub offset_value : RegisterState → Offset → ℕ
offset_value s (Number offset) = offset
offset_value s (Register rm shift amount) = (shift_by_number shift (register s rm) amount (c_flag s.cpsr)).value

-- mode 3: a number or a register
abbrev pub short_offset_value : RegisterState → ShortOffset → ℕ
short_offset_value s (ShortNumber offset) = offset
short_offset_value s (ShortRegister rm) = register s rm

-- a base with an offset added (U) or taken away
abbrev pub moved_base : Bool → ℕ → ℕ → ℕ
moved_base true base offset = (base + offset) % 2 ^ 32
moved_base false base offset = (base + 2 ^ 32 - offset) % 2 ^ 32

-- modes 2 and 3: with P the offset is added before the access, and the base is written back with W; otherwise after it, and the base is
-- written back. r15 isn't written back (our choice)
abbrev pub addressed : RegisterState → Bool → Bool → Bool → ℕ → ℕ → Addressed
addressed s pre up write_back rn offset = let moved = moved_base up (register s rn) offset in record {
  address = (if pre then moved else register s rn);
  base = moved;
  written = (write_back || not pre) && not (rn == 15);
}

-- Thumb's LDR of a literal: behind r15, whose bits 1 and 0 are cleared; nothing is written back (A7.1, "LDR (3)")
abbrev pub addressed_literal : RegisterState → ℕ → Addressed
addressed_literal s immed = let base = register s 15 in record { address = (base - base % 4 + 4 * immed) % 2 ^ 32; base = base; written = false }

-- the base is written back
abbrev pub with_base : Bool → ℕ → ℕ → RegisterState → RegisterState
with_base false rn base s = s
with_base true rn base s = put rn base s

-- mode 4: the registers of a list from r on, the lowest first; it doesn't unfold by itself, since it has a case for each register
unfoldable pub listed_from : ℕ → ℕ → ℕ → List ℕ
listed_from zero r list = []
listed_from (suc count) r list = if bit r list then r ∷ listed_from count (r + 1) list else listed_from count (r + 1) list

abbrev pub listed_registers : ℕ → List ℕ
listed_registers list = listed_from 16 0 list

-- by how much a list moves its base; an empty one moves it as sixteen registers would (our choice)
abbrev pub list_bytes : ℕ → ℕ
list_bytes list = if list == 0 then 0x40 else 4 * count_ones list

-- mode 4: the lowest address, from where the registers go up: IA, IB, DA, DB by P and U
abbrev pub lowest : Bool → Bool → ℕ → ℕ → ℕ
lowest false true base bytes = base
lowest true true base bytes = (base + 4) % 2 ^ 32
lowest false false base bytes = (base + 2 ^ 32 + 4 - bytes) % 2 ^ 32
lowest true false base bytes = (base + 2 ^ 32 - bytes) % 2 ^ 32
