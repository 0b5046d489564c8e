use Rattle.std.specs.Prelude.{ℕ, ◌==◌, bit_and, Bool, true, false, ◌&&◌, Option, Some, None, if◌then◌else◌, List, [], ◌∷◌}
use Rattle.ds_base.specs.declared.processors.Arch.{Arch}
use Rattle.ds_base.specs.declared.processors.Arch.TheVariants.{V4, V5}
use Rattle.arm_words.specs.declared.instructions.Instr.{Instr}

-- a row of a table: the words whose bits under `mask` are `value`, on the architectures that have it, where `only` holds of the
-- word; and the instruction with its fields
pub record InstructionRow : Type 0 where
  pub mask : ℕ
  pub value : ℕ
  pub on : Arch → Bool
  pub only : ℕ → Bool
  pub instr : ℕ → Instr

abbrev pub row : ℕ → ℕ → (Arch → Bool) → (ℕ → Bool) → (ℕ → Instr) → InstructionRow
row m v a p f = record { mask = m; value = v; on = a; only = p; instr = f }

-- on which architectures
abbrev pub both : Arch → Bool
both a = true

abbrev pub v5 : Arch → Bool
v5 V4 = false
v5 V5 = true

abbrev pub v4 : Arch → Bool
v4 V4 = true
v4 V5 = false

-- no side condition
abbrev pub always : ℕ → Bool
always word = true

abbrev pub agrees : InstructionRow → Arch → ℕ → Bool
agrees r arch word = r.on arch && (r.only word && (bit_and word r.mask == r.value))

-- the first row that agrees
abbrev pub first : List InstructionRow → Arch → ℕ → Option Instr
first [] arch word = None
first (r ∷ rs) arch word = if agrees r arch word then Some (r.instr word) else first rs arch word

-- the first answer
abbrev pub or_else : Option Instr → Option Instr → Option Instr
or_else (Some i) o = Some i
or_else None o = o
