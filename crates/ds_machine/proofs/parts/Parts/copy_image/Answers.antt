use Rattle.ds_machine.proofs.Words.{List, MachineState, ap, length, subst, sym, ℕ, ◌+◌, ◌∙◌, ◌≤◌}
use Rattle.ds_machine.proofs.Booting.{copied_io, image_lies}
use Rattle.ds_machine.proofs.parts.Parts.copy_image.Goals as goal

pub copy-requires-clause-low : goal.copy-requires-clause-low
copy-requires-clause-low c = (image_lies c.args.proc c.place.result _ c.place.ensures.lies).0

pub copy-requires-clause-high : goal.copy-requires-clause-high
copy-requires-clause-high c =
    subst (λ (bytes : List ℕ). c.place.result + length bytes ≤ 0x04000000) (sym c.image.ensures.image)
    (image_lies c.args.proc c.place.result _ c.place.ensures.lies).1

pub returns-clause-units : goal.returns-clause-units
returns-clause-units c =
    let lies = image_lies c.args.proc c.place.result _ c.place.ensures.lies in
    ap (λ (s : MachineState). s.io) c.copy.ensures
    ∙ copied_io c.args.proc c.args.self.now c.place.result c.image.result.now lies.0
    (subst (λ (bytes : List ℕ). c.place.result + length bytes ≤ 0x04000000) (sym c.image.ensures.image) lies.1)
