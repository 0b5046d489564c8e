use Rattle.std.specs.Prelude.{ℕ, ◌+◌, ◌-◌, ◌*◌, ◌%◌, ◌^◌, nat_lt, if◌then◌else◌}

-- a field of which the upper half of the values, from `half` on, stands for negative numbers; modulo 2^32
abbrev pub signed : ℕ → ℕ → ℕ
signed half n = if nat_lt n half then n else n + (2 ^ 32 - 2 * half)

-- where a branch goes: `offset` words or halves of `size` bytes from what r15 reads as (ARM manual, "B, BL")
abbrev pub target : ℕ → ℕ → ℕ → ℕ → ℕ
target r15 size half offset = (r15 + size * signed half offset) % 2 ^ 32

-- r15 reads as the instruction's address + 8 in ARM state and + 4 in Thumb state (ARM manual, "Register 15 and the program
-- counter")
abbrev pub arm_target : ℕ → ℕ → ℕ
arm_target at offset = target (at + 8) 4 (2 ^ 23) offset

-- BLX's bit H adds 2 (ARM manual, "BLX (1)")
abbrev pub half_target : ℕ → ℕ → ℕ
half_target at offset = target (at + 10) 4 (2 ^ 23) offset

abbrev pub thumb_target : ℕ → ℕ → ℕ → ℕ
thumb_target at half offset = target (at + 4) 2 half offset
