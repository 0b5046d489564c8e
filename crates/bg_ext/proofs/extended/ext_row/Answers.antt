use Rattle.bg_ext.proofs.Words.{HasForm, subst, sym}
use Rattle.bg_ext.proofs.FormLemmas.{ext_form}
use Rattle.bg_ext.proofs.extended.ext_row.Goals as goal

pub returns-then-layer-eq0-clause-form : goal.returns-then-layer-eq0-clause-form
returns-then-layer-eq0-clause-form c = λ x lt.
    subst HasForm (sym (c.level_row.ensures x lt)) (ext_form c.args.vram.now c.args.palette.now c.args.layer.now x)

pub returns-else-layer-eq0-clause-form : goal.returns-else-layer-eq0-clause-form
returns-else-layer-eq0-clause-form c = λ x lt.
    subst HasForm (sym (c.turned_row.ensures x lt)) (ext_form c.args.vram.now c.args.palette.now c.args.layer.now x)
