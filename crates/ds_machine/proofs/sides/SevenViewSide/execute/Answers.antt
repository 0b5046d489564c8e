use Rattle.ds_machine.proofs.Words.{Outcome, Seven, SevenReach, V4, Waited, ap, arm7, executed_word, map_seen, seven_memory, seven_most, seven_wait}
use Rattle.ds_machine.proofs.Words.{subst, sym, waited_so, waiting, ℕ, ◌∙◌, ◌≤◌}
use Rattle.ds_machine.proofs.WaitedSteps.{seven_word, word_brief}
use Rattle.ds_machine.proofs.sides.SevenViewSide.execute.Goals as goal

pub returns-clause-registers : goal.returns-clause-registers
returns-clause-registers c =
    let r : SevenReach = record { map = map_seen Seven c.args.self.now.map.now c.args.self.now.io.now; now = c.args.self.now.now } in
    let is =
    ap (λ (n : ℕ). executed_word (waiting seven_memory seven_wait) arm7 c.args.s.now (waited_so r n) c.args.next.number c.args.next.instr) c.requires.begins
    ∙ seven_word c.args.s.now r c.args.next.number c.args.next.instr in
    c.execute7.ensures.registers ∙ ap (λ (o : Outcome (Waited SevenReach)). o.registers) is

pub returns-clause-state : goal.returns-clause-state
returns-clause-state c =
    let r : SevenReach = record { map = map_seen Seven c.args.self.now.map.now c.args.self.now.io.now; now = c.args.self.now.now } in
    let is =
    ap (λ (n : ℕ). executed_word (waiting seven_memory seven_wait) arm7 c.args.s.now (waited_so r n) c.args.next.number c.args.next.instr) c.requires.begins
    ∙ seven_word c.args.s.now r c.args.next.number c.args.next.instr in
    ap (λ (x : Waited SevenReach). x.reached) (c.execute7.ensures.state ∙ ap (λ (o : Outcome (Waited SevenReach)). o.state) is)

pub returns-clause-stepped : goal.returns-clause-stepped
returns-clause-stepped c =
    let r : SevenReach = record { map = map_seen Seven c.args.self.now.map.now c.args.self.now.io.now; now = c.args.self.now.now } in
    let is =
    ap (λ (n : ℕ). executed_word (waiting seven_memory seven_wait) arm7 c.args.s.now (waited_so r n) c.args.next.number c.args.next.instr) c.requires.begins
    ∙ seven_word c.args.s.now r c.args.next.number c.args.next.instr in
    c.execute7.ensures.stepped ∙ ap (λ (o : Outcome (Waited SevenReach)). o.stepped) is

pub returns-clause-waits : goal.returns-clause-waits
returns-clause-waits c =
    let r : SevenReach = record { map = map_seen Seven c.args.self.now.map.now c.args.self.now.io.now; now = c.args.self.now.now } in
    let is =
    ap (λ (n : ℕ). executed_word (waiting seven_memory seven_wait) arm7 c.args.s.now (waited_so r n) c.args.next.number c.args.next.instr) c.requires.begins
    ∙ seven_word c.args.s.now r c.args.next.number c.args.next.instr in
    ap (λ (x : Waited SevenReach). x.waits) (c.execute7.ensures.state ∙ ap (λ (o : Outcome (Waited SevenReach)). o.state) is)

pub returns-clause-brief : goal.returns-clause-brief
returns-clause-brief c =
    let r : SevenReach = record { map = map_seen Seven c.args.self.now.map.now c.args.self.now.io.now; now = c.args.self.now.now } in
    let is =
    ap (λ (n : ℕ). executed_word (waiting seven_memory seven_wait) arm7 c.args.s.now (waited_so r n) c.args.next.number c.args.next.instr) c.requires.begins
    ∙ seven_word c.args.s.now r c.args.next.number c.args.next.instr in
    let waits = ap (λ (x : Waited SevenReach). x.waits) (c.execute7.ensures.state ∙ ap (λ (o : Outcome (Waited SevenReach)). o.state) is) in
    subst (λ (n : ℕ). n ≤ 128) (sym waits) (word_brief seven_memory seven_wait seven_most V4 0 c.args.s.now r c.args.next.instr)
