use Rattle.std.proofs.Common.{◌≡◌, ◌+◌, ◌*◌, ◌∷◌, ◌++◌, length, take, flat_map, codes}
use Rattle.ds_base.specs.Digits.{hex_digits}
use Rattle.nds_records.proofs.peeks.peek_line.Given as goal

-- the place and the bytes so far stand on the line
abbrev pub invariant-loop-byte : goal.invariant-loop-byte
invariant-loop-byte l = record {
  text : l.line ≡ (hex_digits 8 l.place ++ codes ":") ++ flat_map (λ byte. 32 ∷ hex_digits 2 byte) (take l.byte-index l.bytes);
  room : length l.line ≡ 9 + 3 * l.byte-index;
}
