use Rattle.run_ahead.proofs.Words.{IsRunning, List, MachineState, arith, counts_add_up, counts_of, refl, subst, sym, with_file, ℕ, ◌≤◌}
use Rattle.run_ahead.proofs.consoles.Console.resume.Goals as goal

pub invariant_of-result : goal.invariant_of-result
invariant_of-result c =
    let taken = c.in_ok-taken.taken in
    let goes = c.in_ok-taken.ensures.goes in
    let below = goes.0 in
    let early = c.requires.early in
    let runs = subst (λ (file : List ℕ). IsRunning taken.head.at (with_file file taken.machine)) c.bytes.ensures.bytes goes.1 in
    let running = subst (IsRunning taken.head.at) (sym c.insert.ensures) runs in
    let turns = subst (λ (m : MachineState). taken.head.turns ≤ counts_of m) (sym c.insert.ensures) goes.2 in
    (counts_add_up taken.head.at c.insert.new.self running, omega (arith, below, early), refl, λ none. running, turns)
