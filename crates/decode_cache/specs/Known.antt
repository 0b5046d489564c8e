use Rattle.std.specs.Prelude.{ℕ, ◌%◌, ◌^◌, ◌==◌, if◌then◌else◌, Option}
use Rattle.ds_base.specs.declared.processors.Arch.{Arch}
use Rattle.ds_base.specs.declared.processors.Arch.TheVariants.{V4, V5}
use Rattle.arm_words.specs.ArmTable.{decoded_arm}
use Rattle.arm_words.specs.ThumbTable.{decoded_thumb}
use Rattle.arm_words.specs.declared.instructions.Instr.{Instr}

-- the architecture of a version, 5 or 4 (our choice of numbers)
abbrev pub arch_of : ℕ → Arch
arch_of version = if version == 5 then V5 else V4

-- what a number stands for on the architecture of a version: a half of Thumb code where it has 16 bits, and otherwise a word of ARM code
unfoldable pub known : ℕ → ℕ → ℕ → Option Instr
known version bits number = if bits == 16 then decoded_thumb (arch_of version) (number % 2 ^ 16) else decoded_arm (arch_of version) number
