use Rattle.run_ahead.proofs.Words.{ConsoleState, HasEnds, HasLimit, IsLeastBelow, LeftOut, None, Option, TakesEvent, TakesQuiet, TakesStretch}
use Rattle.run_ahead.proofs.Words.{TookStretch, [], ap, arith, counts_add_up, last_limit, limits_rise, max, none-some, one_more_turn, open_of, refl}
use Rattle.run_ahead.proofs.Words.{run_to, subst, sym, ◌+◌, ◌∙◌, ◌≡◌, ◌⊎◌}
use Rattle.run_ahead.proofs.StepTurns.{is_stop, is_stretch, made_taken, one_fits, StopsNow, ran_is, stopped_counts, stopped_few, stops_now}
use Rattle.run_ahead.proofs.consoles.Console.take_at_once.Goals as goal

pub take_stretch_of-requires-clause-going : goal.take_stretch_of-requires-clause-going
take_stretch_of-requires-clause-going c =
    let most = c.self.invariant.1 in
    limits_rise c.self.inside.limit last_limit c.self.inside.machine (omega (arith, most))
    (c.self.invariant.3 (ap (λ (x : ConsoleState). x.stopped) c.self.view_is ∙ c.requires.first.still_open))

pub take_stretch_of-requires-clause-running : goal.take_stretch_of-requires-clause-running
take_stretch_of-requires-clause-running c = ap (λ (x : ConsoleState). x.stopped) c.self.view_is ∙ c.requires.first.still_open

pub take_stretch_of-requires-clause-limit : goal.take_stretch_of-requires-clause-limit
take_stretch_of-requires-clause-limit c =
    subst (λ (x : ConsoleState). HasLimit c.args.until.0 x.machine c.args.first.proc c.args.first.limit) (sym c.self.view_is) c.requires.first.known.limit

pub take_stretch_of-requires-clause-ends : goal.take_stretch_of-requires-clause-ends
take_stretch_of-requires-clause-ends c = subst (λ (x : ConsoleState). HasEnds c.args.until.0 x.machine c.args.ends.now) (sym c.self.view_is) c.requires.ends

pub returns-clause-ends : goal.returns-clause-ends
returns-clause-ends c = λ ran. record {
  known = c.take_stretch_of.ensures.ends c.if-take_stretch_of.false;
  same = λ some. subst (λ (x : ConsoleState). max x.limit c.args.until.0 ≡ x.limit) (sym c.self.view_is) c.requires.first.same;
  still_open = λ some. c.take_stretch_of.ensures.goes c.if-take_stretch_of.false;
}

pub overflow_add-self : goal.overflow_add-self
overflow_add-self c = one_fits c.self.inside.turns c.self.inside.limit c.self.inside.machine c.self.invariant.0 c.self.invariant.1 c.self.invariant.4

pub invariant_of-self : goal.invariant_of-self
invariant_of-self c =
    let m = c.self.inside.machine in
    let next = c.take_stretch_of.new.machine in
    let until = c.args.until.0 in
    let proc = c.args.first.proc in
    let still = ap (λ (x : ConsoleState). x.stopped) c.self.view_is ∙ c.requires.first.still_open in
    let running = c.self.invariant.3 still in
    let first = subst (λ (x : ConsoleState). IsLeastBelow until x.machine proc) (sym c.self.view_is) c.requires.first.known.least in
    let same : max c.self.inside.limit until ≡ c.self.inside.limit = subst (λ (x : ConsoleState). max x.limit until ≡ x.limit) (sym c.self.view_is) c.requires.first.same in
    let stop = c.take_stretch_of.ensures.stops c.if-take_stretch_of.true in
    let took = subst (λ (o : Option LeftOut). TookStretch until proc m o next) stop.1 c.take_stretch_of.ensures.took in
    let turn = is_stop until proc m next stop.0 first took in
    let few = c.self.invariant.4 in
    let most = c.self.invariant.1 in
    let kept = stopped_counts until m next stop.0 running.sound turn in
    let all = stopped_few until c.self.inside.limit m next stop.0 (omega (arith, same)) running turn in (
      omega (arith, all),
      most,
      rw stop.1 refl,
      λ none. absurd (none-some stop.0 (sym none ∙ stop.1)),
      omega (arith, few, kept),
    )

pub invariant_of-self-2 : goal.invariant_of-self-2
invariant_of-self-2 c =
    let m = c.self.inside.machine in
    let next = c.take_stretch_of.new.machine in
    let until = c.args.until.0 in
    let proc = c.args.first.proc in
    let still = ap (λ (x : ConsoleState). x.stopped) c.self.view_is ∙ c.requires.first.still_open in
    let running = c.self.invariant.3 still in
    let first = subst (λ (x : ConsoleState). IsLeastBelow until x.machine proc) (sym c.self.view_is) c.requires.first.known.least in
    let same : max c.self.inside.limit until ≡ c.self.inside.limit = subst (λ (x : ConsoleState). max x.limit until ≡ x.limit) (sym c.self.view_is) c.requires.first.same in
    let none = c.take_stretch_of.ensures.goes c.if-take_stretch_of.false in
    let took = subst (λ (o : Option LeftOut). TookStretch until proc m o next) none c.take_stretch_of.ensures.took in
    let turn = is_stretch until proc m next first took in
    let few = c.self.invariant.4 in
    let taken = made_taken until c.self.inside.limit m next (omega (arith, same)) running turn in
    let more = taken.more in (
      counts_add_up c.self.inside.limit next taken.running,
      c.self.invariant.1,
      c.self.invariant.2 ∙ ap (open_of c.self.inside.limit) (still ∙ sym none),
      λ none. taken.running,
      omega (arith, few, more),
    )

pub returns-then-take_stretch_of-clause-stopped : goal.returns-then-take_stretch_of-clause-stopped
returns-then-take_stretch_of-clause-stopped c = λ is.
    (let m = c.self.inside.machine in
    let next = c.take_stretch_of.new.machine in
    let until = c.args.until.0 in
    let proc = c.args.first.proc in
    let still = ap (λ (x : ConsoleState). x.stopped) c.self.view_is ∙ c.requires.first.still_open in
    let first = subst (λ (x : ConsoleState). IsLeastBelow until x.machine proc) (sym c.self.view_is) c.requires.first.known.least in
    let same : max c.self.inside.limit until ≡ c.self.inside.limit = subst (λ (x : ConsoleState). max x.limit until ≡ x.limit) (sym c.self.view_is) c.requires.first.same in
    let stop = c.take_stretch_of.ensures.stops c.if-take_stretch_of.true in
    let took = subst (λ (o : Option LeftOut). TookStretch until proc m o next) stop.1 c.take_stretch_of.ensures.took in
    let turn = is_stop until proc m next stop.0 first took in (
      stop.0,
      stop.1,
      subst (λ (x : ConsoleState). StopsNow until stop.0 x (record {
        machine = next;
        limit = c.self.inside.limit;
        stopped = c.take_stretch_of.new.stop;
        turns = c.self.inside.turns;
      })) c.self.view_is
          (stops_now until c.self.inside.limit c.self.inside.turns m next c.self.inside.stopped c.take_stretch_of.new.stop stop.0 same still stop.1 turn),
    ))

pub returns-clause-ran : goal.returns-clause-ran
returns-clause-ran c = λ ran.
    (let m = c.self.inside.machine in
    let next = c.take_stretch_of.new.machine in
    let until = c.args.until.0 in
    let proc = c.args.first.proc in
    let still = ap (λ (x : ConsoleState). x.stopped) c.self.view_is ∙ c.requires.first.still_open in
    let first = subst (λ (x : ConsoleState). IsLeastBelow until x.machine proc) (sym c.self.view_is) c.requires.first.known.least in
    let same : max c.self.inside.limit until ≡ c.self.inside.limit = subst (λ (x : ConsoleState). max x.limit until ≡ x.limit) (sym c.self.view_is) c.requires.first.same in
    let none = c.take_stretch_of.ensures.goes c.if-take_stretch_of.false in
    let took = subst (λ (o : Option LeftOut). TookStretch until proc m o next) none c.take_stretch_of.ensures.took in
    let turn = is_stretch until proc m next first took in
    subst (λ (x : ConsoleState). (x.stopped ≡ None) × (TakesEvent until x.machine [] next ⊎ (TakesStretch until x.machine next ⊎ TakesQuiet until x.machine next))
    × ((let new : ConsoleState = record {
      machine = next;
      limit = c.self.inside.limit;
      stopped = c.take_stretch_of.new.stop;
      turns = c.self.inside.turns + 1;
    } in new) ≡ one_more_turn (run_to x until next))) c.self.view_is
    (still, turn, ran_is until c.self.inside.limit c.self.inside.turns m next c.self.inside.stopped c.take_stretch_of.new.stop same still none))
