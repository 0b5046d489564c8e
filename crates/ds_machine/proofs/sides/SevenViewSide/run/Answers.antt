use Rattle.ds_machine.proofs.Words.{Outcome, Seven, SevenReach, V4, Waited, ap, carried_out, map_seen, operation_meaning, run_is_decoded}
use Rattle.ds_machine.proofs.Words.{seven_memory, seven_most, seven_wait, subst, sym, waited_so, waiting, ℕ, ◌∙◌, ◌≤◌}
use Rattle.ds_machine.proofs.DecodedOperations.{seven_executes}
use Rattle.ds_machine.proofs.WaitedSteps.{operation_brief, seven_operation}
use Rattle.ds_machine.proofs.sides.SevenViewSide.run.Goals as goal

pub returns-clause-executes : goal.returns-clause-executes
returns-clause-executes c = λ number instr is.
    (let r : SevenReach = record { map = map_seen Seven c.args.self.now.map.now c.args.self.now.io.now; now = c.args.self.now.now } in
    seven_executes c.args.s.now r c.args.operation.now number instr (run_is_decoded c.args.operation.now.op c.requires.known) is)

pub returns-clause-registers : goal.returns-clause-registers
returns-clause-registers c =
    let r : SevenReach = record { map = map_seen Seven c.args.self.now.map.now c.args.self.now.io.now; now = c.args.self.now.now } in
    let is =
    ap (λ (n : ℕ). carried_out (waiting seven_memory seven_wait) V4 c.args.s.now (waited_so r n) (operation_meaning V4 c.args.s.now c.args.operation.now)) c.requires.begins
    ∙ seven_operation c.args.s.now r c.args.operation.now in
    c.run_made.ensures.registers ∙ ap (λ (o : Outcome (Waited SevenReach)). o.registers) is

pub returns-clause-state : goal.returns-clause-state
returns-clause-state c =
    let r : SevenReach = record { map = map_seen Seven c.args.self.now.map.now c.args.self.now.io.now; now = c.args.self.now.now } in
    let is =
    ap (λ (n : ℕ). carried_out (waiting seven_memory seven_wait) V4 c.args.s.now (waited_so r n) (operation_meaning V4 c.args.s.now c.args.operation.now)) c.requires.begins
    ∙ seven_operation c.args.s.now r c.args.operation.now in
    ap (λ (x : Waited SevenReach). x.reached) (c.run_made.ensures.state ∙ ap (λ (o : Outcome (Waited SevenReach)). o.state) is)

pub returns-clause-stepped : goal.returns-clause-stepped
returns-clause-stepped c =
    let r : SevenReach = record { map = map_seen Seven c.args.self.now.map.now c.args.self.now.io.now; now = c.args.self.now.now } in
    let is =
    ap (λ (n : ℕ). carried_out (waiting seven_memory seven_wait) V4 c.args.s.now (waited_so r n) (operation_meaning V4 c.args.s.now c.args.operation.now)) c.requires.begins
    ∙ seven_operation c.args.s.now r c.args.operation.now in
    c.run_made.ensures.stepped ∙ ap (λ (o : Outcome (Waited SevenReach)). o.stepped) is

pub returns-clause-waits : goal.returns-clause-waits
returns-clause-waits c =
    let r : SevenReach = record { map = map_seen Seven c.args.self.now.map.now c.args.self.now.io.now; now = c.args.self.now.now } in
    let is =
    ap (λ (n : ℕ). carried_out (waiting seven_memory seven_wait) V4 c.args.s.now (waited_so r n) (operation_meaning V4 c.args.s.now c.args.operation.now)) c.requires.begins
    ∙ seven_operation c.args.s.now r c.args.operation.now in
    ap (λ (x : Waited SevenReach). x.waits) (c.run_made.ensures.state ∙ ap (λ (o : Outcome (Waited SevenReach)). o.state) is)

pub returns-clause-brief : goal.returns-clause-brief
returns-clause-brief c =
    let r : SevenReach = record { map = map_seen Seven c.args.self.now.map.now c.args.self.now.io.now; now = c.args.self.now.now } in
    let is =
    ap (λ (n : ℕ). carried_out (waiting seven_memory seven_wait) V4 c.args.s.now (waited_so r n) (operation_meaning V4 c.args.s.now c.args.operation.now)) c.requires.begins
    ∙ seven_operation c.args.s.now r c.args.operation.now in
    let waits = ap (λ (x : Waited SevenReach). x.waits) (c.run_made.ensures.state ∙ ap (λ (o : Outcome (Waited SevenReach)). o.state) is) in
    subst (λ (n : ℕ). n ≤ 128) (sym waits) (operation_brief seven_memory seven_wait seven_most V4 c.args.s.now r c.args.operation.now)
