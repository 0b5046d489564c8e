use Rattle.ds_machine.proofs.Words.{ap, not, ◌∙◌}
use Rattle.ds_machine.proofs.ObservedTests.{instr_observes_by}
use Rattle.ds_machine.proofs.parts.Parts.instr_observes.Goals as goal

pub returns : goal.returns
returns c = ap not c.is_data_unobserved.ensures ∙ instr_observes_by c.args.self.now c.args.instr.now c.footprint_of.result c.footprint_of.ensures
