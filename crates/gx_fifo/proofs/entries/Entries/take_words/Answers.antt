use Rattle.gx_fifo.proofs.Words.{arith, suc, sym, ◌-◌, ◌∙◌, ◌≡◌}
use Rattle.gx_fifo.proofs.Heads.{next_goes, none_goes, rest_goes}
use Rattle.gx_fifo.proofs.entries.Entries.take_words.Goals as goal
use Rattle.gx_fifo.proofs.entries.Entries.take_words.Goals.{in-Some, in-None}

pub loop-wanted-preserved : goal.loop-wanted-preserved
loop-wanted-preserved c =
    let m = c.loop-wanted.wanted - 1 in
    let n : c.loop-wanted.wanted ≡ suc (c.loop-wanted.wanted - 1) = omega (arith, c.loop-wanted-test.true) in
    let words = rw n at c.loop-wanted.invariant.words in
    let rest = sym (rest_goes m c.loop-wanted.self) ∙ rw n at c.loop-wanted.invariant.rest in
    elim c.match-next.branch [
      | in-Some w ↦ record {
        words = rw (w.words-is, w.push.ensures.items, c.next.ensures.rest)
            (next_goes _ _ w.in-Some.word m c.loop-wanted.self words (sym w.in-Some.is ∙ c.next.ensures.word));
        rest = rw c.next.ensures.rest rest;
        room = rw (w.words-is, w.push.ensures.len) (omega (arith, c.loop-wanted.invariant.room, n));
      }
      | in-None w ↦ record {
        words = rw (w.words-is, c.next.ensures.rest)
            (none_goes _ _ m c.loop-wanted.self words (sym w.in-None.is ∙ c.next.ensures.word));
        rest = rw c.next.ensures.rest rest;
        room = rw w.words-is (omega (arith, c.loop-wanted.invariant.room, n));
      }
    ]
