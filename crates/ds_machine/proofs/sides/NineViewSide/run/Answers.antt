use Rattle.ds_machine.proofs.Words.{Nine, NineReach, Outcome, V5, Waited, ap, carried_out, guarded_memory, map_seen, nine_memory, nine_most}
use Rattle.ds_machine.proofs.Words.{nine_wait, operation_meaning, run_is_decoded, subst, sym, waited_so, waiting, ℕ, ◌∙◌, ◌≤◌}
use Rattle.ds_machine.proofs.DecodedOperations.{nine_executes}
use Rattle.ds_machine.proofs.WaitedSteps.{nine_operation, operation_brief}
use Rattle.ds_machine.proofs.sides.NineViewSide.run.Goals as goal

pub returns-clause-executes : goal.returns-clause-executes
returns-clause-executes c = λ number instr is.
    (let r : NineReach = record { map = map_seen Nine c.args.self.now.map.now c.args.self.now.io.now; cp15 = c.args.self.now.cp.now; itcm = c.args.self.now.itcm.now; dtcm = c.args.self.now.dtcm.now; now = c.args.self.now.now } in
    nine_executes c.args.s.now r c.args.operation.now number instr (run_is_decoded c.args.operation.now.op c.requires.known) is)

pub returns-clause-brief : goal.returns-clause-brief
returns-clause-brief c =
    let r : NineReach = record { map = map_seen Nine c.args.self.now.map.now c.args.self.now.io.now; cp15 = c.args.self.now.cp.now; itcm = c.args.self.now.itcm.now; dtcm = c.args.self.now.dtcm.now; now = c.args.self.now.now } in
    let is =
    ap (λ (n : ℕ). carried_out (waiting guarded_memory nine_wait) V5 c.args.s.now (waited_so r n) (operation_meaning V5 c.args.s.now c.args.operation.now)) c.requires.begins
    ∙ nine_operation c.args.s.now r c.requires.room c.args.operation.now in
    let waits = ap (λ (x : Waited NineReach). x.waits) (c.run_made.ensures.state ∙ ap (λ (o : Outcome (Waited NineReach)). o.state) is) in
    subst (λ (n : ℕ). n ≤ 128) (sym waits) (operation_brief nine_memory nine_wait nine_most V5 c.args.s.now r c.args.operation.now)
