use Rattle.ds_machine.proofs.Words.{Nine, NineReach, Outcome, V5, Waited, ap, carried_out, guarded_memory, map_seen, nine_memory, nine_most}
use Rattle.ds_machine.proofs.Words.{nine_wait, operation_meaning, waited_so, waiting, waits_of, ℕ, ◌∙◌}
use Rattle.ds_machine.proofs.DecodedOperations.{nine_executes}
use Rattle.ds_machine.proofs.WaitedSteps.{brief_by, nine_operation, operation_brief}
use Rattle.ds_machine.proofs.NearAccesses.{nine_stays}
use Rattle.ds_machine.proofs.sides.NineViewSide.run_fast.Goals as goal

pub returns-clause-executes : goal.returns-clause-executes
returns-clause-executes g c = λ some number instr is.
    (let r : NineReach = record { map = map_seen Nine c.args.self.now.map.now c.args.self.now.io.now; cp15 = c.args.self.now.cp.now; itcm = c.args.self.now.itcm.now; dtcm = c.args.self.now.dtcm.now; now = c.args.self.now.now } in
    nine_executes c.args.s.now r c.args.operation.now number instr (c.run.ensures.known some) is)

pub returns-clause-io : goal.returns-clause-io
returns-clause-io g c =
    let r : NineReach = record { map = map_seen Nine c.args.self.now.map.now c.args.self.now.io.now; cp15 = c.args.self.now.cp.now; itcm = c.args.self.now.itcm.now; dtcm = c.args.self.now.dtcm.now; now = c.args.self.now.now } in
    let after : NineReach = record { map = map_seen Nine c.run.new.bus.map.now c.run.new.bus.io.now; cp15 = c.run.new.bus.cp.now; itcm = c.run.new.bus.itcm.now; dtcm = c.run.new.bus.dtcm.now; now = c.run.new.bus.now } in
    let is =
    ap (λ (n : ℕ). carried_out (waiting guarded_memory nine_wait) V5 c.args.s.now (waited_so r n) (operation_meaning V5 c.args.s.now c.args.operation.now)) c.requires.begins
    ∙ nine_operation c.args.s.now r c.requires.room c.args.operation.now in
    nine_stays c.run.result c.args.s.now r after (operation_meaning V5 c.args.s.now c.args.operation.now)
    (λ e. ap (λ (x : Waited NineReach). x.reached) (c.run.ensures.none e).1)
    (λ some. ap (λ (x : Waited NineReach). x.reached) (c.run.ensures.state some ∙ ap (λ (o : Outcome (Waited NineReach)). o.state) is))
    c.run.ensures.near

pub returns-clause-brief : goal.returns-clause-brief
returns-clause-brief g c =
    let r : NineReach = record { map = map_seen Nine c.args.self.now.map.now c.args.self.now.io.now; cp15 = c.args.self.now.cp.now; itcm = c.args.self.now.itcm.now; dtcm = c.args.self.now.dtcm.now; now = c.args.self.now.now } in
    let is =
    ap (λ (n : ℕ). carried_out (waiting guarded_memory nine_wait) V5 c.args.s.now (waited_so r n) (operation_meaning V5 c.args.s.now c.args.operation.now)) c.requires.begins
    ∙ nine_operation c.args.s.now r c.requires.room c.args.operation.now in
    brief_by c.run.result c.run.new.bus.waits (waits_of nine_memory nine_wait r (operation_meaning V5 c.args.s.now c.args.operation.now).accesses)
    (λ e. ap (λ (x : Waited NineReach). x.waits) (c.run.ensures.none e).1 ∙ c.requires.begins)
    (λ some. ap (λ (x : Waited NineReach). x.waits) (c.run.ensures.state some ∙ ap (λ (o : Outcome (Waited NineReach)). o.state) is))
    (operation_brief nine_memory nine_wait nine_most V5 c.args.s.now r c.args.operation.now)
