use Rattle.run_ahead.proofs.Words.{IsRunning, List, MachineState, ap, arith, counts_add_up, counts_of, refl, subst, sym, with_file, ℕ, ◌∙◌, ◌≡◌, ◌≤◌}
use Rattle.run_ahead.proofs.consoles.Console.go_back.Goals as goal

pub invariant_of-self : goal.invariant_of-self
invariant_of-self c =
    let taken = c.in_ok-taken.taken in
    let goes = c.in_ok-taken.ensures.goes in
    let below = goes.0 in
    let early = c.requires.early in
    let is : with_file c.file.result.now taken.machine ≡ c.take_over.new.self =
    ap (λ (file : List ℕ). with_file file taken.machine) c.file.ensures ∙ sym c.take_over.ensures in
    let running = subst (λ (m : MachineState). IsRunning taken.head.at m) is goes.1 in
    let turns = subst (λ (m : MachineState). taken.head.turns ≤ counts_of m) is goes.2 in
    (counts_add_up taken.head.at c.take_over.new.self running, omega (arith, below, early), refl, λ none. running, turns)
