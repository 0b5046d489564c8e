use Rattle.ds_machine.proofs.Words.{Nine, NineReach, Outcome, Setting, V5, Waited, ap, executed_word, guarded_memory, map_seen, nine_memory}
use Rattle.ds_machine.proofs.Words.{nine_most, nine_wait, subst, sym, vectors_of, waited_so, waiting, ℕ, ◌∙◌, ◌≤◌}
use Rattle.ds_machine.proofs.WaitedSteps.{nine_move, nine_word, word_brief}
use Rattle.ds_machine.proofs.sides.NineViewSide.execute.Goals as goal

pub returns-clause-registers : goal.returns-clause-registers
returns-clause-registers c =
    let r : NineReach = record { map = map_seen Nine c.args.self.now.map.now c.args.self.now.io.now; cp15 = c.args.self.now.cp.now; itcm = c.args.self.now.itcm.now; dtcm = c.args.self.now.dtcm.now; now = c.args.self.now.now } in
    let setting : Setting = record { arch = V5; base = c.vectors-base.result; in_rom = c.in_rom-rom.result } in
    let is =
    ap (λ (n : ℕ). executed_word (waiting guarded_memory nine_wait) setting c.args.s.now (waited_so r n) c.args.next.number c.args.next.instr) c.requires.begins
    ∙ nine_word c.args.s.now r c.requires.room c.args.next.number c.args.next.instr c.vectors-base.result c.in_rom-rom.result (sym c.in_default.ensures.moved)
    c.vectors-base.ensures c.in_rom-rom.ensures in
    c.execute_word.ensures.registers ∙ ap (λ (o : Outcome (Waited NineReach)). o.registers) is

pub returns-clause-state : goal.returns-clause-state
returns-clause-state c =
    let r : NineReach = record { map = map_seen Nine c.args.self.now.map.now c.args.self.now.io.now; cp15 = c.args.self.now.cp.now; itcm = c.args.self.now.itcm.now; dtcm = c.args.self.now.dtcm.now; now = c.args.self.now.now } in
    let setting : Setting = record { arch = V5; base = c.vectors-base.result; in_rom = c.in_rom-rom.result } in
    let is =
    ap (λ (n : ℕ). executed_word (waiting guarded_memory nine_wait) setting c.args.s.now (waited_so r n) c.args.next.number c.args.next.instr) c.requires.begins
    ∙ nine_word c.args.s.now r c.requires.room c.args.next.number c.args.next.instr c.vectors-base.result c.in_rom-rom.result (sym c.in_default.ensures.moved)
    c.vectors-base.ensures c.in_rom-rom.ensures in
    ap (λ (x : Waited NineReach). x.reached) (c.execute_word.ensures.state ∙ ap (λ (o : Outcome (Waited NineReach)). o.state) is)

pub returns-clause-stepped : goal.returns-clause-stepped
returns-clause-stepped c =
    let r : NineReach = record { map = map_seen Nine c.args.self.now.map.now c.args.self.now.io.now; cp15 = c.args.self.now.cp.now; itcm = c.args.self.now.itcm.now; dtcm = c.args.self.now.dtcm.now; now = c.args.self.now.now } in
    let setting : Setting = record { arch = V5; base = c.vectors-base.result; in_rom = c.in_rom-rom.result } in
    let is =
    ap (λ (n : ℕ). executed_word (waiting guarded_memory nine_wait) setting c.args.s.now (waited_so r n) c.args.next.number c.args.next.instr) c.requires.begins
    ∙ nine_word c.args.s.now r c.requires.room c.args.next.number c.args.next.instr c.vectors-base.result c.in_rom-rom.result (sym c.in_default.ensures.moved)
    c.vectors-base.ensures c.in_rom-rom.ensures in
    c.execute_word.ensures.stepped ∙ ap (λ (o : Outcome (Waited NineReach)). o.stepped) is

pub returns-clause-waits : goal.returns-clause-waits
returns-clause-waits c =
    let r : NineReach = record { map = map_seen Nine c.args.self.now.map.now c.args.self.now.io.now; cp15 = c.args.self.now.cp.now; itcm = c.args.self.now.itcm.now; dtcm = c.args.self.now.dtcm.now; now = c.args.self.now.now } in
    let setting : Setting = record { arch = V5; base = c.vectors-base.result; in_rom = c.in_rom-rom.result } in
    let is =
    ap (λ (n : ℕ). executed_word (waiting guarded_memory nine_wait) setting c.args.s.now (waited_so r n) c.args.next.number c.args.next.instr) c.requires.begins
    ∙ nine_word c.args.s.now r c.requires.room c.args.next.number c.args.next.instr c.vectors-base.result c.in_rom-rom.result (sym c.in_default.ensures.moved)
    c.vectors-base.ensures c.in_rom-rom.ensures in
    ap (λ (x : Waited NineReach). x.waits) (c.execute_word.ensures.state ∙ ap (λ (o : Outcome (Waited NineReach)). o.state) is)

pub returns-clause-brief : goal.returns-clause-brief
returns-clause-brief c =
    let r : NineReach = record { map = map_seen Nine c.args.self.now.map.now c.args.self.now.io.now; cp15 = c.args.self.now.cp.now; itcm = c.args.self.now.itcm.now; dtcm = c.args.self.now.dtcm.now; now = c.args.self.now.now } in
    let setting : Setting = record { arch = V5; base = c.vectors-base.result; in_rom = c.in_rom-rom.result } in
    let is =
    ap (λ (n : ℕ). executed_word (waiting guarded_memory nine_wait) setting c.args.s.now (waited_so r n) c.args.next.number c.args.next.instr) c.requires.begins
    ∙ nine_word c.args.s.now r c.requires.room c.args.next.number c.args.next.instr c.vectors-base.result c.in_rom-rom.result (sym c.in_default.ensures.moved)
    c.vectors-base.ensures c.in_rom-rom.ensures in
    let waits = ap (λ (x : Waited NineReach). x.waits) (c.execute_word.ensures.state ∙ ap (λ (o : Outcome (Waited NineReach)). o.state) is) in
    subst (λ (n : ℕ). n ≤ 128) (sym waits) (word_brief nine_memory nine_wait nine_most V5 (vectors_of r.cp15) c.args.s.now r c.args.next.instr)

pub returns-in-Some-clause-waits : goal.returns-in-Some-clause-waits
returns-in-Some-clause-waits c =
    let r : NineReach = record { map = map_seen Nine c.args.self.now.map.now c.args.self.now.io.now; cp15 = c.args.self.now.cp.now; itcm = c.args.self.now.itcm.now; dtcm = c.args.self.now.dtcm.now; now = c.args.self.now.now } in
    c.requires.begins ∙ nine_move c.args.s.now r c.requires.room c.args.next.instr c.in-Some.move_ (sym c.in-Some.ensures.moved)
