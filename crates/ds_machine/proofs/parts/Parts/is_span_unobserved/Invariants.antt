use Rattle.ds_machine.proofs.Words.{is_unobserved_at, list_all, span, ◌+◌, ◌-◌, ◌≡◌}
use Rattle.ds_machine.proofs.parts.Parts.is_span_unobserved.Given as goal

-- what is left, from here on, has no observed port exactly where all has none from the start
abbrev pub invariant-loop-i : goal.invariant-loop-i
invariant-loop-i l =
    let test = is_unobserved_at l.self l.writing in list_all test (span (l.first + l.i) (l.length - l.i)) ≡ list_all test (span l.first l.length)
