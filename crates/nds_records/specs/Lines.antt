use Rattle.std.specs.Prelude.{ℕ, zero, suc, ◌+◌, ◌*◌, ◌/◌, ◌%◌, ◌^◌, List, [], ◌∷◌, length, take, drop, flat_map, codes}
use Rattle.std.specs.List.{concat, range_with_len}
use Rattle.ds_base.specs.Digits.{hex_digits}
use Rattle.ds_base.specs.declared.processors.Arch.{Arch}
use Rattle.asm_text.specs.Listed.{listed}
use Rattle.asm_text.specs.declared.sets.Set.{Set}
use Rattle.asm_text.specs.declared.sets.Set.TheVariants.{Arm, Thumb}

-- The lines of traces and of peeks (our choice).

-- the last `count` decimal digits of a number, the highest first
abbrev pub decimal_digits : ℕ → ℕ → List ℕ
decimal_digits zero n = []
decimal_digits (suc count) n = (48 + n / 10 ^ count % 10) ∷ decimal_digits count n

-- all digits of a word, and of a half
abbrev pub all_digits : Set → ℕ → List ℕ
all_digits Arm word = hex_digits 8 word
all_digits Thumb half = hex_digits 4 half

-- `TICK ADDRESS WORD STATEMENT`: an instruction that is executed at a tick
abbrev pub step_line : Arch → Set → ℕ → ℕ → ℕ → List ℕ
step_line arch set tick at word =
    concat (decimal_digits 12 tick ∷ codes " " ∷ hex_digits 8 at ∷ codes " " ∷ all_digits set word ∷ codes " " ∷ listed arch set at word ∷ (10 ∷ [])
    ∷ [])

-- `TICK ADDRESS irq`: an interrupt's entry at a tick, from this address
abbrev pub entry_line : ℕ → ℕ → List ℕ
entry_line tick at = concat (decimal_digits 12 tick ∷ codes " " ∷ hex_digits 8 at ∷ codes " irq\n" ∷ [])

-- `PLACE: BYTE BYTE ..`: bytes of a memory from a place on
abbrev pub peek_line : ℕ → List ℕ → List ℕ
peek_line place bytes = concat (hex_digits 8 place ∷ codes ":" ∷ flat_map (λ byte. 32 ∷ hex_digits 2 byte) bytes ∷ (10 ∷ []) ∷ [])

-- bytes from a place on, 16 a line, and fewer on the last
abbrev pub peek_lines : ℕ → List ℕ → List ℕ
peek_lines place bytes =
    flat_map (λ line. peek_line (place + 16 * line) (take 16 (drop (16 * line) bytes))) (range_with_len 0 ((length bytes + 15) / 16))

-- `sha256 DIGITS`: a digest
abbrev pub digest_line : List ℕ → List ℕ
digest_line digest = concat (codes "sha256 " ∷ flat_map (hex_digits 2) digest ∷ (10 ∷ []) ∷ [])
