use Rattle.nds_plays.proofs.Words.{ConsoleState, ap, append_none, arith, dues_of, over_here, refl, ℕ, ◌+◌, ◌<◌, ◌∙◌, ◌≤◌}
use Rattle.run_ahead.specs.TickTurns.{IsTickBefore}
use Rattle.nds_plays.proofs.Leads.{turn_leads, turn_stops}
use Rattle.nds_plays.proofs.Tracing.{counts_down, tracing_first, tracing_on, tracing_full, tracing_over, tracing_stopped, tracing_failed}
use Rattle.nds_plays.proofs.steps.trace.Goals as goal

pub turns-init : goal.turns-init
turns-init g c = record {
  still_open = c.requires.open;
  tracing = tracing_first g.O.Sink.tells g.O.Sink.taken g.O.Sink.faults c.args.until.0 c.args.proc c.args.count c.args.console.now.machine c.args.out.now (append_none g.O.Sink.tells g.O.Sink.taken c.args.out.now);
}

pub returns-then-left-eq0 : goal.returns-then-left-eq0
returns-then-left-eq0 g c =
    tracing_full g.O.Sink.tells g.O.Sink.taken g.O.Sink.faults c.args.until.0 c.args.proc c.args.count c.args.console.now.machine c.args.out.now c.turns.console.machine c.turns.out c.turns.left
    c.turns.invariant.tracing c.if-left-eq0.true c.has_runs.ensures

pub returns-then-until-due : goal.returns-then-until-due
returns-then-until-due g c =
    tracing_over g.O.Sink.tells g.O.Sink.taken g.O.Sink.faults c.args.until.0 c.args.proc c.args.count c.args.console.now.machine c.args.out.now c.turns.console.machine c.turns.out c.turns.left
    c.turns.invariant.tracing (over_here (dues_of c.turns.console.machine) c.args.until.0 c.due-due.result.tick c.due-due.result.rank c.due-due.ensures c.if-until-due.true)

pub returns-in-Stop : goal.returns-in-Stop
returns-in-Stop g c =
    let now = c.turns.console.machine in
    let limit : ℕ = c.due-due.result.tick.0 + 1 in
    let some : 0 < c.turns.left = omega (arith, c.if-left-eq0.false) in
    let before : IsTickBefore limit now = record { tick = c.due-due.result.tick; rank = c.due-due.result.rank; least = c.due-due.ensures; last = refl } in
    let sound = c.laws.ensures.sound c.turns.invariant.still_open in
    tracing_stopped g.O.Sink.tells g.O.Sink.taken g.O.Sink.faults c.args.until.0 c.args.proc c.args.count c.args.console.now.machine c.args.out.now now c.turns.out c.turns.left
    c.turns.invariant.tracing c.in-Stop.stop
    (turn_stops c.args.until.0 c.args.proc limit now (omega (arith, c.if-until-due.false)) sound before c.take.new.console.machine c.in-Stop.stop c.in-Stop.ensures) some

pub returns-in-Err : goal.returns-in-Err
returns-in-Err g c =
    let now = c.turns.console.machine in
    let limit : ℕ = c.due-due.result.tick.0 + 1 in
    let some : 0 < c.turns.left = omega (arith, c.if-left-eq0.false) in
    let before : IsTickBefore limit now = record { tick = c.due-due.result.tick; rank = c.due-due.result.rank; least = c.due-due.ensures; last = refl } in
    let sound = c.laws.ensures.sound c.turns.invariant.still_open in
    let put = c.in-Err.ensures in
    let line = c.line_due-line.result in
    tracing_failed g.O.Sink.tells g.O.Sink.taken g.O.Sink.faults c.args.until.0 c.args.proc c.args.count c.args.console.now.machine c.args.out.now now c.turns.out c.turns.left
    c.turns.invariant.tracing c.take.new.console.machine line
    (turn_leads c.args.until.0 c.args.proc limit now (omega (arith, c.if-until-due.false)) sound before line c.take.new.console.machine c.line_due-line.ensures c.in-Step.ensures.0)
    c.put_line.new.out put.0 put.1 some c.has_runs-in-Err.ensures

pub turns-preserved : goal.turns-preserved
turns-preserved g c =
    let now = c.turns.console.machine in
    let limit : ℕ = c.due-due.result.tick.0 + 1 in
    let before : IsTickBefore limit now = record { tick = c.due-due.result.tick; rank = c.due-due.result.rank; least = c.due-due.ensures; last = refl } in
    let sound = c.laws.ensures.sound c.turns.invariant.still_open in
    let put = c.in-Ok.ensures in
    let line = c.line_due-line.result in
    record {
      still_open = ap (λ (x : ConsoleState). x.stopped) c.in-Step.ensures.1 ∙ c.turns.invariant.still_open;
      tracing = tracing_on g.O.Sink.tells g.O.Sink.taken g.O.Sink.faults c.args.until.0 c.args.proc c.args.count c.args.console.now.machine c.args.out.now now c.turns.out c.turns.left
          c.turns.invariant.tracing c.take.new.console.machine line
          (turn_leads c.args.until.0 c.args.proc limit now (omega (arith, c.if-until-due.false)) sound before line c.take.new.console.machine c.line_due-line.ensures c.in-Step.ensures.0)
          c.put_line.new.out c.fewer-left.result put.0 put.1 c.fewer-left.ensures;
    }

pub turns-smaller : goal.turns-smaller
turns-smaller g c =
    let limit : ℕ = c.due-due.result.tick.0 + 1 in
    let le : limit ≤ c.args.until.0 = omega (arith, c.if-until-due.false) in
    counts_down c.args.until.0 limit c.turns.console c.take.new.console le c.laws.ensures.turns c.in-Step.ensures.1
