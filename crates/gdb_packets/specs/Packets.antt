use Rattle.std.specs.Prelude.{ℕ, ◌%◌, ◌==◌, ◌||◌, if◌then◌else◌, Bool, List, [], ◌∷◌, ◌++◌, bit_xor, flat_map, sum}
use Rattle.std.specs.Int.{w32, to_le_bytes}
use Rattle.ds_base.specs.Digits.{hex_digits}

-- What goes out to gdb (its manual, appendix "GDB Remote Serial Protocol", "Overview").

-- bytes as two hexadecimal digits each, the higher first
abbrev pub digits_of : List ℕ → List ℕ
digits_of bytes = flat_map (hex_digits 2) bytes

-- a word's digits, its bytes in the order of memory
abbrev pub word_digits : ℕ → List ℕ
word_digits word = digits_of (to_le_bytes w32 word)

-- `#`, `$`, `*` and `}` don't stand for themselves in a packet
abbrev pub stands_for_else : ℕ → Bool
stands_for_else byte = byte == 35 || byte == 36 || byte == 42 || byte == 125

-- such a byte goes out as `}` and, with bit 5 turned, itself
abbrev pub escaped_byte : ℕ → List ℕ
escaped_byte byte = if stands_for_else byte then 125 ∷ bit_xor byte 32 ∷ [] else byte ∷ []

abbrev pub escaped : List ℕ → List ℕ
escaped body = flat_map escaped_byte body

-- `$`, the body with its escapes, `#`, and two digits of the sum of what stands between, modulo 256
abbrev pub packet_of : List ℕ → List ℕ
packet_of body = 36 ∷ (escaped body ++ 35 ∷ hex_digits 2 (sum (escaped body) % 256))
