use Rattle.run_ahead.proofs.Words.{AreWithin, ConsoleState, IsSound, ap, arith, length, most_entries, subst, ◌∙◌, ◌≡◌, ◌≤◌}
use Rattle.run_ahead.proofs.consoles.Console.laws.Goals as goal

pub returns-clause-sound : goal.returns-clause-sound
returns-clause-sound c = λ none.
    subst (λ (x : ConsoleState). IsSound x.machine) c.self.view_is (c.self.invariant.3 (ap (λ (x : ConsoleState). x.stopped) c.self.view_is ∙ none)).sound

pub returns-clause-entries : goal.returns-clause-entries
returns-clause-entries c = subst (λ (x : ConsoleState). length x.machine.io.gx.fifo.entries ≤ most_entries) c.self.view_is c.laws.ensures.geometry.waiting.entries

pub returns-clause-open : goal.returns-clause-open
returns-clause-open c =
    let is = c.laws.ensures.geometry.geometry.now in
    subst (λ (x : ConsoleState). AreWithin x.machine.io.gx.geometry.outcome.vertices x.machine.io.gx.geometry.outcome.polygons) c.self.view_is (is.vertices_within, is.polygons_within)

pub returns-clause-last : goal.returns-clause-last
returns-clause-last c =
    let is = c.laws.ensures.geometry.geometry.last in
    subst (λ (x : ConsoleState). AreWithin x.machine.io.gx.geometry.last.vertices x.machine.io.gx.geometry.last.polygons) c.self.view_is (is.vertices_within, is.polygons_within)

pub returns-clause-turns : goal.returns-clause-turns
returns-clause-turns c =
    let all = c.self.invariant.0 in
    let few = c.self.invariant.4 in
    let limit : c.self.inside.limit ≡ c.args.self.now.limit = ap (λ (x : ConsoleState). x.limit) c.self.view_is in
    let turns : c.self.inside.turns ≡ c.args.self.now.turns = ap (λ (x : ConsoleState). x.turns) c.self.view_is in
    omega (arith, all, few, limit, turns)
