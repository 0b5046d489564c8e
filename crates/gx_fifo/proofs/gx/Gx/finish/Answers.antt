use Rattle.gx_fifo.proofs.Words.{asks_for_swap, complete_command, false, is_some, sym, ◌∙◌, ◌≡◌}
use Rattle.gx_fifo.proofs.Dues.{begun_is}
use Rattle.gx_fifo.proofs.Parameters.{parameter_kept}
use Rattle.gx_fifo.proofs.SavedLaws.{none_waits}
use Rattle.gx_fifo.proofs.gx.Gx.finish.Goals as goal

pub invariant_of-self : goal.invariant_of-self
invariant_of-self c =
    let old = c.self.inside in
    let command = c.in-Some-Some.command in
    let none : c.self.inside.swap_waits ≡ false =
    none_waits old.due c.in-Some-Some.now old.swap_waits (is_some (complete_command old.fifo.entries)) c.in-Some-Some.is-0 c.self.invariant.0 in (
      rw (c.begun-self-inside.ensures.value, c.entries-2.ensures.value, c.asks_for_swap-self-inside.ensures)
          (begun_is c.in-Some-Some.now (asks_for_swap command) c.take-words.new.self.entries),
      λ other. rw c.take_command.ensures
          (parameter_kept command c.as_slice.result.now old.engine (sym c.asks_for_swap-self-inside.ensures ∙ other) (c.self.invariant.1 none)),
      c.self.invariant.2,
      c.self.invariant.3,
      c.self.invariant.4,
    )
