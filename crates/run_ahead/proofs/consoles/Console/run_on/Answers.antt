use Rattle.run_ahead.proofs.Words.{ConsoleState, IsSome, Option, TurnsUpTo, ap, arith, refl, subst, sym, turns_remaining, ◌∙◌}
use Rattle.ds_machine.specs.declared.next_events.First.{First}
use Rattle.run_ahead.specs.declared.turns.Turned as turned
use Rattle.run_ahead.specs.declared.turns.Turned.TheVariants as answers
use Rattle.run_ahead.proofs.RunningOn.{raised_leaves, ran_first, ran_more, up_to_counts, up_to_raised}
use Rattle.run_ahead.proofs.TurnLaws.{runs_on, turn_falls, turn_frames, turn_lists}
use Rattle.run_ahead.proofs.consoles.Console.run_on.Goals as goal

pub run-init : goal.run-init
run-init c = record { ran = ran_first c.args.until.0 c.raise.new.self; left = omega arith; ends = c.ends-ends.ensures }

pub take_at_once-requires-clause-first : goal.take_at_once-requires-clause-first
take_at_once-requires-clause-first c =
    let some = c.first.ensures.some (subst (λ (o : Option First). IsSome o) (sym c.in-Some.is) refl) in
    record {
      known = c.in-Some.ensures.known c.args.until.0 c.run.self.machine c.requires c.run.invariant.ends.known;
      same = c.run.invariant.ends.same some;
      still_open = c.run.invariant.ends.still_open some;
    }

pub take_at_once-requires-clause-ends : goal.take_at_once-requires-clause-ends
take_at_once-requires-clause-ends c = c.run.invariant.ends.known

pub run-preserved-in-Some : goal.run-preserved-in-Some
run-preserved-in-Some c =
    let until = c.args.until.0 in
    let left = c.run.invariant.left in
    let sound = c.laws.ensures.sound in
    let new = c.take_at_once.new.self in
    let t = c.take_at_once.ensures.ran c.if-take_at_once.false in
    let falls = turn_falls until c.run.self answers.Ran new sound t refl in
    record {
      ran = ran_more until c.raise.new.self c.run.self new c.run.invariant.ran t (runs_on until c.run.self answers.Ran new sound t t.0)
          (turn_frames until c.run.self answers.Ran new sound t) (turn_lists until c.run.self answers.Ran new sound t);
      left = omega (arith, left, falls);
      ends = c.take_at_once.ensures.ends c.if-take_at_once.false;
    }

pub run-smaller-in-Some : goal.run-smaller-in-Some
run-smaller-in-Some c =
    turn_falls c.args.until.0 c.run.self answers.Ran c.take_at_once.new.self c.laws.ensures.sound (c.take_at_once.ensures.ran c.if-take_at_once.false) refl

pub run-preserved : goal.run-preserved
run-preserved c =
    let left = c.run.invariant.left in
    let falls = c.in-Ran.ensures.falls refl in
    let t = c.in-Ran.ensures.turn in
    record {
      ran = ran_more c.args.until.0 c.raise.new.self c.run.self c.turn.new.self c.run.invariant.ran t (c.in-Ran.ensures.runs t.0) c.in-Ran.ensures.frames c.in-Ran.ensures.lists;
      left = omega (arith, left, falls);
      ends = c.ends-ends-in-Ran.ensures;
    }

pub returns-in_default-turn : goal.returns-in_default-turn
returns-in_default-turn c =
    let until = c.args.until.0 in
    let start = c.args.self.now in
    let left = c.run.invariant.left in
    let answer = c.turn.result in
    let new = c.turn.new.self in
    let same = ap (λ (x : ConsoleState). turns_remaining until x.machine) c.raise.ensures ∙ ap (turns_remaining until) (raised_leaves until start) in
    record {
      turns = up_to_raised until start answer new (subst (λ (x : ConsoleState). TurnsUpTo until x answer new) c.raise.ensures (record {
        before = c.run.self;
        ran = c.run.invariant.ran;
        last = c.turn.ensures.turn;
        runs = c.turn.ensures.runs;
        frames = c.turn.ensures.frames;
        lists = c.turn.ensures.lists;
        counted = up_to_counts until c.raise.new.self c.run.self new answer c.run.invariant.ran c.turn.ensures.turn;
      }));
      other = c.in_default-turn.not-Ran;
      falls = λ counts. (let falls = c.turn.ensures.falls counts in omega (arith, left, falls, same));
    }

pub returns-then-take_at_once-clause-turns : goal.returns-then-take_at_once-clause-turns
returns-then-take_at_once-clause-turns c =
    let until = c.args.until.0 in
    let sound = c.laws.ensures.sound in
    let stop = c.take_at_once.ensures.stopped c.if-take_at_once.true in
    let answer = answers.Stopped stop.0 in
    let new = c.take_at_once.new.self in
    let start = c.args.self.now in
    subst (λ (a : turned.Turned). TurnsUpTo until c.args.self.now a new) (sym (c.stop_answer.ensures stop.0 stop.1)) (up_to_raised until start answer new
    (subst (λ (x : ConsoleState). TurnsUpTo until x answer new) c.raise.ensures (record {
      before = c.run.self;
      ran = c.run.invariant.ran;
      last = stop.2;
      runs = λ none. runs_on until c.run.self answer new sound stop.2 none;
      frames = turn_frames until c.run.self answer new sound stop.2;
      lists = turn_lists until c.run.self answer new sound stop.2;
      counted = up_to_counts until c.raise.new.self c.run.self new answer c.run.invariant.ran stop.2;
    })))
