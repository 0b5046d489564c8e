use Rattle.ds_machine.proofs.Words.{MachineState, Seven, ap, with_file, with_header, with_image, ◌∙◌}
use Rattle.ds_machine.proofs.Booting.{booted_put}
use Rattle.ds_machine.proofs.parts.Parts.new.Goals as goal

pub returns-clause-booted : goal.returns-clause-booted
returns-clause-booted c =
    let file = c.args.cart.now in
    ap (with_file file) (c.copy_header.ensures.copied
    ∙ ap (λ (s : MachineState). with_header s file) (c.copy_image-2.ensures.copied
    ∙ ap (λ (s : MachineState). with_image Seven s file) c.copy_image.ensures.copied))
    ∙ booted_put file c.args.keys c.in_ok-parts.parts c.in_ok-parts.ensures

pub returns-clause-units : goal.returns-clause-units
returns-clause-units c =
    c.copy_header.ensures.units ∙ c.copy_image-2.ensures.units ∙ c.copy_image.ensures.units ∙ ap (λ (s : MachineState). s.io) c.in_ok-parts.ensures
