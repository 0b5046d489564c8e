use Rattle.std.proofs.Common.{◌≡◌, ◌+◌, ◌*◌, ◌++◌, length, take, flat_map, codes}
use Rattle.ds_base.specs.Digits.{hex_digits}
use Rattle.nds_records.proofs.digests.digest_line.Given as goal

-- the name and the bytes so far stand on the line
abbrev pub invariant-loop-byte : goal.invariant-loop-byte
invariant-loop-byte l = record {
  text : l.line ≡ codes "sha256 " ++ flat_map (hex_digits 2) (take l.byte-index l.byte-items);
  room : length l.line ≡ 7 + 2 * l.byte-index;
}
