use Rattle.ds_machine.proofs.Words.{Outcome, Seven, SevenReach, V4, Waited, ap, carried_out, map_seen, operation_meaning, seven_memory, seven_most}
use Rattle.ds_machine.proofs.Words.{seven_wait, sym, waited_so, waiting, waits_of, ℕ, ◌∙◌}
use Rattle.ds_machine.proofs.DecodedOperations.{seven_executes}
use Rattle.ds_machine.proofs.WaitedSteps.{brief_by, operation_brief, seven_operation}
use Rattle.ds_machine.proofs.NearAccesses.{seven_stays}
use Rattle.ds_machine.proofs.sides.SevenViewSide.run_fast.Goals as goal

pub returns-clause-executes : goal.returns-clause-executes
returns-clause-executes g c = λ some number instr is.
    (let r : SevenReach = record { map = map_seen Seven c.args.self.now.map.now c.args.self.now.io.now; now = c.args.self.now.now } in
    seven_executes c.args.s.now r c.args.operation.now number instr (c.run.ensures.known some) is)

pub returns-clause-registers : goal.returns-clause-registers
returns-clause-registers g c = λ some. (
    let r : SevenReach = record { map = map_seen Seven c.args.self.now.map.now c.args.self.now.io.now; now = c.args.self.now.now } in
    let is =
    ap (λ (n : ℕ). carried_out (waiting seven_memory seven_wait) V4 c.args.s.now (waited_so r n) (operation_meaning V4 c.args.s.now c.args.operation.now)) c.requires.begins
    ∙ seven_operation c.args.s.now r c.args.operation.now in
    c.run.ensures.registers some ∙ ap (λ (o : Outcome (Waited SevenReach)). o.registers) is)

pub returns-clause-state : goal.returns-clause-state
returns-clause-state g c = λ some. (
    let r : SevenReach = record { map = map_seen Seven c.args.self.now.map.now c.args.self.now.io.now; now = c.args.self.now.now } in
    let is =
    ap (λ (n : ℕ). carried_out (waiting seven_memory seven_wait) V4 c.args.s.now (waited_so r n) (operation_meaning V4 c.args.s.now c.args.operation.now)) c.requires.begins
    ∙ seven_operation c.args.s.now r c.args.operation.now in
    ap (λ (x : Waited SevenReach). x.reached) (c.run.ensures.state some ∙ ap (λ (o : Outcome (Waited SevenReach)). o.state) is))

pub returns-clause-stepped : goal.returns-clause-stepped
returns-clause-stepped g c = λ some. (
    let r : SevenReach = record { map = map_seen Seven c.args.self.now.map.now c.args.self.now.io.now; now = c.args.self.now.now } in
    let is =
    ap (λ (n : ℕ). carried_out (waiting seven_memory seven_wait) V4 c.args.s.now (waited_so r n) (operation_meaning V4 c.args.s.now c.args.operation.now)) c.requires.begins
    ∙ seven_operation c.args.s.now r c.args.operation.now in
    sym (ap (λ (o : Outcome (Waited SevenReach)). o.stepped) is) ∙ c.run.ensures.stepped some)

pub returns-clause-waits : goal.returns-clause-waits
returns-clause-waits g c = λ some. (
    let r : SevenReach = record { map = map_seen Seven c.args.self.now.map.now c.args.self.now.io.now; now = c.args.self.now.now } in
    let is =
    ap (λ (n : ℕ). carried_out (waiting seven_memory seven_wait) V4 c.args.s.now (waited_so r n) (operation_meaning V4 c.args.s.now c.args.operation.now)) c.requires.begins
    ∙ seven_operation c.args.s.now r c.args.operation.now in
    ap (λ (x : Waited SevenReach). x.waits) (c.run.ensures.state some ∙ ap (λ (o : Outcome (Waited SevenReach)). o.state) is))

pub returns-clause-io : goal.returns-clause-io
returns-clause-io g c =
    let r : SevenReach = record { map = map_seen Seven c.args.self.now.map.now c.args.self.now.io.now; now = c.args.self.now.now } in
    let after : SevenReach = record { map = map_seen Seven c.run.new.bus.map.now c.run.new.bus.io.now; now = c.run.new.bus.now } in
    let is =
    ap (λ (n : ℕ). carried_out (waiting seven_memory seven_wait) V4 c.args.s.now (waited_so r n) (operation_meaning V4 c.args.s.now c.args.operation.now)) c.requires.begins
    ∙ seven_operation c.args.s.now r c.args.operation.now in
    seven_stays c.run.result c.args.s.now r after (operation_meaning V4 c.args.s.now c.args.operation.now)
    (λ e. ap (λ (x : Waited SevenReach). x.reached) (c.run.ensures.none e).1)
    (λ some. ap (λ (x : Waited SevenReach). x.reached) (c.run.ensures.state some ∙ ap (λ (o : Outcome (Waited SevenReach)). o.state) is))
    c.run.ensures.near

pub returns-clause-brief : goal.returns-clause-brief
returns-clause-brief g c =
    let r : SevenReach = record { map = map_seen Seven c.args.self.now.map.now c.args.self.now.io.now; now = c.args.self.now.now } in
    let is =
    ap (λ (n : ℕ). carried_out (waiting seven_memory seven_wait) V4 c.args.s.now (waited_so r n) (operation_meaning V4 c.args.s.now c.args.operation.now)) c.requires.begins
    ∙ seven_operation c.args.s.now r c.args.operation.now in
    brief_by c.run.result c.run.new.bus.waits (waits_of seven_memory seven_wait r (operation_meaning V4 c.args.s.now c.args.operation.now).accesses)
    (λ e. ap (λ (x : Waited SevenReach). x.waits) (c.run.ensures.none e).1 ∙ c.requires.begins)
    (λ some. ap (λ (x : Waited SevenReach). x.waits) (c.run.ensures.state some ∙ ap (λ (o : Outcome (Waited SevenReach)). o.state) is))
    (operation_brief seven_memory seven_wait seven_most V4 c.args.s.now r c.args.operation.now)
