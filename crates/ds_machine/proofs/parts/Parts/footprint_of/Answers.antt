use Rattle.ds_machine.proofs.Words.{MachineState, Proc, ap, architecture_of, processor_of, sym, ◌∙◌}
use Rattle.ds_machine.proofs.PrivateTests.{footprint_as}
use Rattle.ds_machine.proofs.parts.Parts.footprint_of.Goals as goal

pub returns-in-Nine : goal.returns-in-Nine
returns-in-Nine c =
    let s = c.args.self.now in
    footprint_as s c.args.proc c.args.instr.now c.reach_of.result c.self.inside.nine.processor.core.arch c.self.inside.nine.processor.core.registers
    (c.self.invariant.0 ∙ ap architecture_of (sym c.in-Nine.is))
    (ap (λ (m : MachineState). m.nine.processor.registers) c.self.view_is ∙ ap (λ (proc : Proc). (processor_of s proc).registers) (sym c.in-Nine.is)) c.reach_of.ensures.covers c.reach_of.ensures.told c.reach_of.ensures.words

pub returns-in-Seven : goal.returns-in-Seven
returns-in-Seven c =
    let s = c.args.self.now in
    footprint_as s c.args.proc c.args.instr.now c.reach_of-in-Seven.result c.self.inside.seven.processor.core.arch c.self.inside.seven.processor.core.registers
    (c.self.invariant.1 ∙ ap architecture_of (sym c.in-Seven.is))
    (ap (λ (m : MachineState). m.seven.processor.registers) c.self.view_is ∙ ap (λ (proc : Proc). (processor_of s proc).registers) (sym c.in-Seven.is)) c.reach_of-in-Seven.ensures.covers c.reach_of-in-Seven.ensures.told c.reach_of-in-Seven.ensures.words
