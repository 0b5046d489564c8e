use Rattle.ds_machine.proofs.Words.{HasLimit, IsRunning, MachineState, TakesSteps, ap, last_limit, other_proc, subst, sym, ◌<◌, ◌∙◌}
use Rattle.ds_machine.specs.TurnLaws.{IsTurnEnd, due_or_never}
use Rattle.ds_machine.proofs.EndTicks.{other_never}
use Rattle.ds_machine.proofs.FastSteps.{kept_stays}
use Rattle.ds_machine.proofs.FastTurns.{leaves_others}
use Rattle.ds_machine.proofs.GoingSteps.{line_is, statuses_taken}
use Rattle.ds_machine.proofs.machines.Machine.go_fast.Goals as goal

pub go_fast-requires-clause-goes : goal.go_fast-requires-clause-goes
go_fast-requires-clause-goes c = record {
  line = sym (line_is c.self.inside.next_event c.self.inside.parts c.self.invariant.0 c.args.proc) ∙ sym c.line-up.ensures;
  events = subst (λ (m : MachineState). 0 < c.args.end → IsTurnEnd c.args.until.0 m c.args.end) (sym c.self.view_is) c.requires.end;
  least = subst (λ (m : MachineState). HasLimit c.args.until.0 m c.args.proc c.args.limit) (sym c.self.view_is) c.requires.limit;
  running = subst (IsRunning last_limit) (sym c.self.view_is) c.requires.running;
}

pub invariant_of-self : goal.invariant_of-self
invariant_of-self c =
    let went = c.go_fast.ensures.went in (
      kept_stays c.self.inside.next_event c.self.inside.parts c.go_fast.new.self c.self.invariant.0 (record { io = went.io; keys = went.keys }),
      statuses_taken c.args.until.0 c.args.proc c.self.inside.parts c.go_fast.new.self went.steps c.self.invariant.1,
    )

pub returns : goal.returns
returns c =
    let until = c.args.until.0 in
    let now = c.go_fast.new.self in
    let went = c.go_fast.ensures.went in
    record {
      steps = subst (λ (m : MachineState). TakesSteps until c.args.proc m now) c.self.view_is went.steps;
      over = c.go_fast.ensures.over;
      io = went.io ∙ ap (λ (m : MachineState). m.io) c.self.view_is;
      limit = went.goes.least;
      end = went.goes.events;
      other = other_never c.self.inside.parts now c.args.proc (leaves_others until c.args.proc c.args.end c.args.limit c.line-up.result c.self.inside.parts now went)
          ∙ ap (λ (m : MachineState). due_or_never m (other_proc c.args.proc)) c.self.view_is;
    }
