use Rattle.gx_fifo.proofs.Words.{ap, sym, word_taken}
use Rattle.gx_fifo.specs.GxStates.{GxState}
use Rattle.gx_fifo.proofs.Growing.{word_grows, grows_by}
use Rattle.gx_fifo.proofs.Dues.{due_kept}
use Rattle.gx_fifo.proofs.gx.Gx.write_word.Goals as goal

pub invariant_of-self : goal.invariant_of-self
invariant_of-self c =
    let old = c.self.inside in
    let grows = word_grows c.args.word c.self.inside.fifo c.take_word.ensures.packed in
    let dues = due_kept 4 old.fifo (word_taken c.args.word old.fifo) old.due c.args.now old.swap_waits grows c.self.invariant.0 in (
      rw (c.due_after-self-inside.ensures.value, c.entries.ensures.value, c.take_word.ensures.state) dues,
      c.self.invariant.1,
      c.self.invariant.2,
      c.self.invariant.3,
      c.self.invariant.4,
    )

pub returns-clause-grows : goal.returns-clause-grows
returns-clause-grows c =
    let grows = word_grows c.args.word c.self.inside.fifo c.take_word.ensures.packed in
    let view = ap (λ (s : GxState). s.fifo) c.self.view_is in
    rw (c.take_word.ensures.state, sym view) (grows_by 4 _ _ grows)
