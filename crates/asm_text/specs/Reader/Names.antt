use Rattle.std.specs.Prelude.{ℕ, ◌+◌, ◌*◌, ◌/◌, ◌%◌, ◌^◌, ◌==◌, nat_lt, Bool, true, not, ◌&&◌, ◌≡◌, List, [], ◌∷◌, Option, Some, None, if◌then◌else◌}
use Rattle.arm_words.specs.declared.parts.Condition.{Condition}
use Rattle.arm_words.specs.declared.parts.Condition.TheVariants.{Al}
use Rattle.arm_words.specs.declared.instructions.Instr.{Instr}
use Rattle.asm_text.specs.Reader.Parts.{hex_at}
use Rattle.asm_text.specs.declared.reading.names.Stem.{Stem}
use Rattle.asm_text.specs.declared.reading.names.Stem.TheVariants.{Row, Raw}
use Rattle.asm_text.specs.declared.reading.names.TheConstants.{CONDITIONS}

-- How the reader takes a statement's name, and what it makes of the statement. No public clause speaks of it.

-- letters go on a key
abbrev pub letters : ℕ → List ℕ → ℕ
letters k [] = k
letters k (b ∷ bs) = letters ((k * 32 + b % 32) % 2 ^ 64) bs

-- the same up to a blank, and what follows the blank
abbrev pub name : ℕ → List ℕ → ℕ × List ℕ
name k [] = (k, [])
name k (b ∷ bs) = if b == 32 then (k, bs) else name ((k * 32 + b % 32) % 2 ^ 64) bs

-- what a table has for a key
abbrev pub lookup : {T : Type 0} → ℕ → List (ℕ × T) → Option T
lookup key [] = None
lookup key (row ∷ rows) = if row.0 == key then Some row.1 else lookup key rows

abbrev pub with_suffix : Option Condition → Option Stem → Option Stem → Option Stem × Condition
with_suffix (Some cond) (Some stem) whole = (Some stem, cond)
with_suffix (Some cond) None whole = (whole, Al)
with_suffix None front whole = (whole, Al)

-- what a name's key stands for, and its condition
unfoldable pub named_stem : List (ℕ × Stem) → ℕ → Option Stem × Condition
named_stem table key = with_suffix (lookup (key % 1024) CONDITIONS) (lookup (key / 1024) table) (lookup key table)

-- what fills the fields of an instruction in, at an address: its template, its condition, and the text of its operands
abbrev pub Filler : Type 0
Filler = ℕ → Instr → Condition → List ℕ → Instr

abbrev pub filled : Filler → ℕ → Stem → Condition → List ℕ → Stem
filled fill at (Row instr) cond text = Row (fill at instr cond text)
filled fill at (Raw n) cond text = Raw (hex_at text).0

abbrev pub if_filled : Filler → ℕ → Option Stem → Condition → List ℕ → Option Stem
if_filled fill at None cond text = None
if_filled fill at (Some stem) cond text = Some (filled fill at stem cond text)

-- what a text may be the statement of
unfoldable pub read : List (ℕ × Stem) → Filler → ℕ → List ℕ → Option Stem
read table fill at text =
    let n = name 0 text in
    let s = named_stem table n.0 in
    if_filled fill at s.0 s.1 n.1

abbrev pub no_blank : List ℕ → Bool
no_blank [] = true
no_blank (b ∷ bs) = not (b == 32) && no_blank bs

-- what is seen of a name: what the table has for it, what it stands for alone, that its key has room for a suffix, and that it has
-- no blank
abbrev pub seen : List (ℕ × Stem) → List ℕ → Option Stem × (Option Stem × Condition) × Bool × Bool
seen table nm = (lookup (letters 0 nm) table, named_stem table (letters 0 nm), nat_lt (letters 0 nm) (2 ^ 50), no_blank nm)

-- a table has a name for this
abbrev pub IsStem : List (ℕ × Stem) → List ℕ → Stem → Type 0
IsStem table nm stem = seen table nm ≡ (Some stem, (Some stem, Al), true, true)
