use Rattle.nds_plays.proofs.Words.{flat_map, little_bytes, take, ◌++◌, ◌≡◌}
use Rattle.nds_plays.proofs.carts.put_words.Given as goal

-- the words so far were put
abbrev pub invariant-loop-word : goal.invariant-loop-word
invariant-loop-word l = l.file.items ≡ l.initial.file.items ++ flat_map (little_bytes 4) (take l.word-index l.words)
