use Rattle.bg2d.proofs.Words.{HasForm, subst, sym}
use Rattle.bg2d.proofs.FormLemmas.{affine_form}
use Rattle.bg2d.proofs.affines.affine_row.Goals as goal

pub returns-then-shown-eq1-clause-form : goal.returns-then-shown-eq1-clause-form
returns-then-shown-eq1-clause-form c = λ x lt.
    subst HasForm (sym (c.wrapped_row.ensures x lt)) (affine_form c.args.vram.now c.args.palette.now c.args.layer.now x)

pub returns-else-shown-eq1-clause-form : goal.returns-else-shown-eq1-clause-form
returns-else-shown-eq1-clause-form c = λ x lt.
    subst HasForm (sym (c.bounded_row.ensures x lt)) (affine_form c.args.vram.now c.args.palette.now c.args.layer.now x)
