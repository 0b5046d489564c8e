use Rattle.ds_machine.proofs.Words.{is_private_to, list_all, span, ◌+◌, ◌-◌, ◌≡◌}
use Rattle.ds_machine.proofs.parts.Parts.is_span_private.Given as goal

-- what is left, from here on, is private exactly where all is from the start
abbrev pub invariant-loop-i : goal.invariant-loop-i
invariant-loop-i l =
    let test = is_private_to l.self l.proc l.writing l.fetching in list_all test (span (l.first + l.i) (l.length - l.i)) ≡ list_all test (span l.first l.length)
