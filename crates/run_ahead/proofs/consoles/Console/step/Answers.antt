use Rattle.run_ahead.proofs.Words.{ConsoleState, IsOver, IsSome, MeetsStop, None, Some, TakesEvent, TakesQuiet, TakesStretch, [], ap, arith}
use Rattle.run_ahead.proofs.Words.{counts_add_up, dues_of, is_some, last_limit, limits_rise, next_shown, none-some, one_more_turn, open_of, refl}
use Rattle.run_ahead.proofs.Words.{run_to, subst, sym, true≢false, ℕ, ◌+◌, ◌∙◌, ◌∷◌, ◌≡◌, ◌⊎◌}
use Rattle.run_ahead.proofs.StepTurns.{frame_taken, made_taken, one_fits, over_all, over_from, stopped_counts, stopped_few}
use Rattle.run_ahead.proofs.consoles.Console.step.Goals as goal
use Rattle.run_ahead.proofs.consoles.Console.step.Goals.{else-until-acting-via-then-until-acting+else-not-is_behind, else-until-acting-via-else-until-acting}

pub take_turn-requires-clause-going : goal.take_turn-requires-clause-going
take_turn-requires-clause-going c =
    let most = c.self.invariant.1 in
    limits_rise c.self.inside.limit last_limit c.self.inside.machine (omega (arith, most)) (c.self.invariant.3 c.in_default.is)

pub overflow_add-self : goal.overflow_add-self
overflow_add-self c = one_fits c.self.inside.turns c.self.inside.limit c.self.inside.machine c.self.invariant.0 c.self.invariant.1 c.self.invariant.4

pub overflow_add-self-in-Frame : goal.overflow_add-self-in-Frame
overflow_add-self-in-Frame c = one_fits c.self.inside.turns c.self.inside.limit c.self.inside.machine c.self.invariant.0 c.self.invariant.1 c.self.invariant.4

pub invariant_of-self : goal.invariant_of-self
invariant_of-self c =
    let limit = c.max-self-inside.ensures in
    let early = c.requires in
    let most = c.self.invariant.1 in
    let all = c.self.invariant.0 in (
      omega (arith, all, limit),
      omega (arith, limit, early, most),
      sym (ap (open_of c.max-self-inside.result) c.in_default.is),
      λ none. limits_rise c.self.inside.limit c.max-self-inside.result c.self.inside.machine (omega (arith, limit)) (c.self.invariant.3 c.in_default.is),
      c.self.invariant.4,
    )

pub invariant_of-self-in-Made : goal.invariant_of-self-in-Made
invariant_of-self-in-Made c =
    let limit = c.max-self-inside.ensures in
    let early = c.requires in
    let most = c.self.invariant.1 in
    let few = c.self.invariant.4 in
    let running = limits_rise c.self.inside.limit c.max-self-inside.result c.self.inside.machine (omega (arith, limit)) (c.self.invariant.3 c.in_default.is) in
    let taken = made_taken c.args.until.0 c.max-self-inside.result c.self.inside.machine c.take_turn.new.machine (omega (arith, limit)) running c.in-Made.ensures in
    let more = taken.more in (
      counts_add_up c.max-self-inside.result c.take_turn.new.machine taken.running,
      omega (arith, limit, early, most),
      sym (ap (open_of c.max-self-inside.result) c.in_default.is),
      λ none. taken.running,
      omega (arith, few, more),
    )

pub invariant_of-self-in-Frame : goal.invariant_of-self-in-Frame
invariant_of-self-in-Frame c =
    let limit = c.max-self-inside.ensures in
    let early = c.requires in
    let most = c.self.invariant.1 in
    let few = c.self.invariant.4 in
    let running = limits_rise c.self.inside.limit c.max-self-inside.result c.self.inside.machine (omega (arith, limit)) (c.self.invariant.3 c.in_default.is) in
    let taken = frame_taken c.args.until.0 c.max-self-inside.result c.self.inside.machine c.take_turn.new.machine c.in-Frame.swapped (omega (arith, limit)) running c.in-Frame.ensures in
    let more = taken.more in (
      counts_add_up c.max-self-inside.result c.take_turn.new.machine taken.running,
      omega (arith, limit, early, most),
      sym (ap (open_of c.max-self-inside.result) c.in_default.is),
      λ none. taken.running,
      omega (arith, few, more),
    )

pub invariant_of-self-in-Stopped : goal.invariant_of-self-in-Stopped
invariant_of-self-in-Stopped c =
    let limit = c.max-self-inside.ensures in
    let early = c.requires in
    let most = c.self.invariant.1 in
    let few = c.self.invariant.4 in
    let running = limits_rise c.self.inside.limit c.max-self-inside.result c.self.inside.machine (omega (arith, limit)) (c.self.invariant.3 c.in_default.is) in
    let kept = stopped_counts c.args.until.0 c.self.inside.machine c.take_turn.new.machine c.in-Stopped.left running.sound c.in-Stopped.ensures in (
      stopped_few c.args.until.0 c.max-self-inside.result c.self.inside.machine c.take_turn.new.machine c.in-Stopped.left (omega (arith, limit)) running c.in-Stopped.ensures,
      omega (arith, limit, early, most),
      refl,
      λ none. absurd (none-some _ (sym none)),
      omega (arith, few, kept),
    )

pub take_turn-requires-clause-some : goal.take_turn-requires-clause-some
take_turn-requires-clause-some c = λ le.
    (elim c.else-until-acting.branch [
      | else-until-acting-via-then-until-acting+else-not-is_behind w ↦ sym w.is_behind.ensures ∙ w.if-not-is_behind.false
      | else-until-acting-via-else-until-acting w ↦ absurd (omega (arith, le, w.if-until-acting.false))
    ])

pub returns-then-is_over : goal.returns-then-is_over
returns-then-is_over c =
    let m = c.self.inside.machine in
    let until = c.args.until.0 in
    let over = c.is_over.ensures c.if-is_over.true in
    subst (λ (x : ConsoleState). (x.stopped ≡ None) × IsOver (dues_of x.machine) until
    × ((let new : ConsoleState = record { machine = m; limit = c.max-self-inside.result; stopped = c.self.inside.stopped; turns = c.self.inside.turns } in new) ≡ run_to x until x.machine)) c.self.view_is
    (c.in_default.is, over, ap (λ (l : ℕ). (let new : ConsoleState = record { machine = m; limit = l; stopped = c.self.inside.stopped; turns = c.self.inside.turns } in new)) c.max-self-inside.ensures)

pub returns-then-not-is_behind : goal.returns-then-not-is_behind
returns-then-not-is_behind c =
    let m = c.self.inside.machine in
    let until = c.args.until.0 in
    let none = over_from until m c.acting-acting.result.tick c.acting-acting.result.rank c.acting-acting.ensures c.if-until-acting.true in
    let over = over_all until m none (sym c.is_behind.ensures ∙ c.if-not-is_behind.true) in
    subst (λ (x : ConsoleState). (x.stopped ≡ None) × IsOver (dues_of x.machine) until
    × ((let new : ConsoleState = record { machine = m; limit = c.max-self-inside.result; stopped = c.self.inside.stopped; turns = c.self.inside.turns } in new) ≡ run_to x until x.machine)) c.self.view_is
    (c.in_default.is, over, ap (λ (l : ℕ). (let new : ConsoleState = record { machine = m; limit = l; stopped = c.self.inside.stopped; turns = c.self.inside.turns } in new)) c.max-self-inside.ensures)

pub returns-in-Made : goal.returns-in-Made
returns-in-Made c =
    let until = c.args.until.0 in
    let next = c.take_turn.new.machine in
    subst (λ (x : ConsoleState). (x.stopped ≡ None) × (TakesEvent until x.machine [] next ⊎ (TakesStretch until x.machine next ⊎ TakesQuiet until x.machine next))
    × ((let new : ConsoleState = record {
      machine = next;
      limit = c.max-self-inside.result;
      stopped = c.self.inside.stopped;
      turns = c.self.inside.turns + 1;
    } in new) ≡ one_more_turn (run_to x until next))) c.self.view_is
    (c.in_default.is, c.in-Made.ensures, rw c.max-self-inside.ensures refl)

pub returns-in-Frame : goal.returns-in-Frame
returns-in-Frame c =
    let until = c.args.until.0 in
    let next = c.take_turn.new.machine in
    subst (λ (x : ConsoleState). (x.stopped ≡ None) × TakesEvent until x.machine (next_shown x.machine next c.in-Frame.swapped ∷ []) next
    × ((let new : ConsoleState = record {
      machine = next;
      limit = c.max-self-inside.result;
      stopped = c.self.inside.stopped;
      turns = c.self.inside.turns + 1;
    } in new) ≡ one_more_turn (run_to x until next))) c.self.view_is
    (c.in_default.is, c.in-Frame.ensures, rw c.max-self-inside.ensures refl)

pub returns-in-Stopped : goal.returns-in-Stopped
returns-in-Stopped c =
    let until = c.args.until.0 in
    let next = c.take_turn.new.machine in
    let left = c.in-Stopped.left in
    let came : ConsoleState = record { machine = next; limit = c.max-self-inside.result; stopped = Some left; turns = c.self.inside.turns } in
    subst (λ (x : ConsoleState). (x.stopped ≡ None → MeetsStop until x.machine left next × (came ≡ record (run_to x until next) { stopped = Some left }))
    × (IsSome x.stopped → (x.stopped ≡ Some left) × (came ≡ x))) c.self.view_is
    (λ none. (c.in-Stopped.ensures, rw c.max-self-inside.ensures refl), λ some. absurd (true≢false (sym some ∙ ap is_some c.in_default.is)))
