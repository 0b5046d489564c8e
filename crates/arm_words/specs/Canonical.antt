use Rattle.std.specs.Prelude.{◌≡◌, ℕ, zero, suc, ◌+◌, ◌-◌, ◌*◌, ◌/◌, ◌%◌, ◌^◌, ◌<◌, ◌≤◌, ◌==◌, nat_le, Bool, true, false, ◌&&◌, ◌||◌, not, IsTrue, Option, Some, None, if◌then◌else◌}
use Rattle.ds_base.specs.declared.processors.Arch.{Arch}
use Rattle.arm_words.specs.Spellings.{spelled, decoded}
use Rattle.arm_words.specs.declared.parts.Operand.{Operand}
use Rattle.arm_words.specs.declared.parts.Operand.TheVariants.{Immediate, Shifted, ShiftedByRegister}
use Rattle.arm_words.specs.declared.instructions.Instr.{Instr}
use Rattle.arm_words.specs.declared.instructions.Instr.TheVariants.{HalfTransfer, DoubleTransfer, MsrImmediate, Compare, Move, Data, Never}
use Rattle.arm_words.specs.declared.spellings.Spelling.{Spelling}
use Rattle.arm_words.specs.declared.spellings.Spelling.TheVariants.{Word, Half}

-- the number of an immediate operand: a byte rotated right by twice `rotate`, in 32 bits (ARM manual, "Data-processing operands -
-- Immediate")
abbrev pub immediate : ℕ → ℕ → ℕ
immediate rotate immed = immed / 2 ^ (2 * rotate) + immed % 2 ^ (2 * rotate) * 2 ^ (32 - 2 * rotate)

-- of all rotations that give the number this is the least (ARM manual, the same: what assemblers choose)
abbrev pub IsLeastRotation : ℕ → ℕ → Type 0
IsLeastRotation rotate immed = (r b : ℕ) → b < 256 → immediate r b ≡ immediate rotate immed → rotate ≤ r

abbrev pub IsLeastOperand : Operand → Type 0
IsLeastOperand (Immediate rotate immed) = IsLeastRotation rotate immed
IsLeastOperand (Shifted rm shift amount) = Unit {0}
IsLeastOperand (ShiftedByRegister rm shift rs) = Unit {0}

-- the instruction has a canonical spelling: immediates have the least rotation; the transfers of a half, a signed byte or two
-- words aren't post-indexed with bit 21 set (ARM manual, "Addressing mode 3": unpredictable); and it isn't ARMv4's that does
-- nothing (our choice)
abbrev pub IsCanonicalForm : Instr → Type 0
IsCanonicalForm (HalfTransfer cond op pre up write_back rn rd offset) = IsTrue (pre || not write_back)
IsCanonicalForm (DoubleTransfer cond store pre up write_back rn rd offset) = IsTrue (pre || not write_back)
IsCanonicalForm (MsrImmediate cond spsr fields rotate immed) = IsLeastRotation rotate immed
IsCanonicalForm (Compare cond op rn operand) = IsLeastOperand operand
IsCanonicalForm (Move cond op set_flags rd operand) = IsLeastOperand operand
IsCanonicalForm (Data cond op set_flags rn rd operand) = IsLeastOperand operand
IsCanonicalForm (Never immed) = ⊥
IsCanonicalForm _ = Unit {0}

-- a word or half is canonical: it is the spelling of what it decodes to, which has a canonical one
abbrev pub IsCanonical : Arch → Spelling → Type 0
IsCanonical arch s = (i : Instr) × (decoded arch s ≡ Some i) × (spelled i ≡ s) × IsCanonicalForm i

-- the same as a test, for definitions that choose by it
-- the byte of which a number is made by a rotation, if it is one
abbrev pub turned_back : ℕ → ℕ → ℕ
turned_back rotate number = number * 2 ^ (2 * rotate) % 2 ^ 32 + number / 2 ^ (32 - 2 * rotate)

-- no rotation below `rotate` makes the number of a byte
abbrev pub none_below : ℕ → ℕ → Bool
none_below zero number = true
none_below (suc rotate) number = nat_le 256 (turned_back rotate number) && none_below rotate number

abbrev pub least_rotation : ℕ → ℕ → Bool
least_rotation rotate immed = none_below rotate (immediate rotate immed)

abbrev pub least_operand : Operand → Bool
least_operand (Immediate rotate immed) = least_rotation rotate immed
least_operand (Shifted rm shift amount) = true
least_operand (ShiftedByRegister rm shift rs) = true

abbrev pub canonical_form : Instr → Bool
canonical_form (HalfTransfer cond op pre up write_back rn rd offset) = pre || not write_back
canonical_form (DoubleTransfer cond store pre up write_back rn rd offset) = pre || not write_back
canonical_form (MsrImmediate cond spsr fields rotate immed) = least_rotation rotate immed
canonical_form (Compare cond op rn operand) = least_operand operand
canonical_form (Move cond op set_flags rd operand) = least_operand operand
canonical_form (Data cond op set_flags rn rd operand) = least_operand operand
canonical_form (Never immed) = false
canonical_form _ = true

abbrev pub same_spelling : Spelling → Spelling → Bool
same_spelling (Word w) (Word v) = w == v
same_spelling (Half h) (Half g) = h == g
same_spelling _ _ = false

abbrev pub if_canonical : Spelling → Option Instr → Option Instr
if_canonical s None = None
if_canonical s (Some i) = if canonical_form i && same_spelling (spelled i) s then Some i else None

-- what a canonical word or half stands for
abbrev pub canonical : Arch → Spelling → Option Instr
canonical arch s = if_canonical s (decoded arch s)
