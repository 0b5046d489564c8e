use Rattle.gx_fifo.proofs.Words.{GxEntry, drop, map, take, ◌++◌, ◌+◌, ◌≡◌, ◌≤◌}
use Rattle.arrayvec.specs.ArrayVec.{array_vec_len}
use Rattle.gx_fifo.proofs.entries.Entries.take_words.Given as goal

-- what is still wanted of the entries that are there gives what all gives at the start
abbrev pub invariant-loop-wanted : goal.invariant-loop-wanted
invariant-loop-wanted l = record {
  words : l.words.items ++ map (λ (e : GxEntry). e.word) (take l.wanted l.self) ≡ map (λ (e : GxEntry). e.word) (take l.count l.initial.self);
  rest : drop l.wanted l.self ≡ drop l.count l.initial.self;
  room : array_vec_len l.words + l.wanted ≤ 32;
}

abbrev pub decreases-loop-wanted : goal.decreases-loop-wanted
decreases-loop-wanted l = l.wanted
