use Rattle.nds_plays.proofs.Words.{drawn, flat_map, little_bytes, map, range_with_len, ◌++◌, ◌≡◌}
use Rattle.nds_plays.proofs.Bodies.{word_at}
use Rattle.nds_plays.proofs.carts.put_body.Given as goal

-- the words so far were put, and as many draws taken
abbrev pub invariant-loop-place : goal.invariant-loop-place
invariant-loop-place l = record {
  file : l.file.items ≡ l.initial.file.items ++ flat_map (little_bytes 4) (map (word_at l.fn.number) (range_with_len 0 l.place));
  drawn : l.s ≡ drawn l.fn.number l.place;
}
