use Rattle.gx_fifo.proofs.Words.{Bool, ap, arith, complete_command, is_some, not, sym, ◌&&◌, ◌∙◌, ◌≡◌}
use Rattle.gx_fifo.proofs.SavedLaws.{due_there, may_be_due, may_be_none}
use Rattle.gx_fifo.proofs.gx.Gx.unpack_by.Goals as goal

pub invariant_of-result : goal.invariant_of-result
invariant_of-result c =
    let may = c.in_ok-swap_waits.ensures.may in
    let waits = c.in_ok-swap_waits.swap_waits in
    let due = may_be_due c.swap_parameter.result c.is_some.result c.is_some-head.result 0 waits may in
    let head : c.is_some-head.result ≡ is_some (complete_command c.in_ok-entries.entries) =
    c.is_some-head.ensures ∙ ap is_some c.complete.ensures in (
      rw (c.numbered.ensures, c.of.ensures)
          (due_there c.in_ok-due.due ∙ sym c.is_some.ensures ∙ due ∙ ap (λ (h : Bool). not c.in_ok-swap_waits.swap_waits && h) head),
      λ none. sym c.swap_parameter.ensures ∙ may_be_none c.swap_parameter.result c.is_some.result c.is_some-head.result 0 waits may none,
      c.in_ok-display.ensures.small,
      c.in_ok-display.ensures.apart,
      omega (arith, c.in_ok-selector.ensures.most),
    )
