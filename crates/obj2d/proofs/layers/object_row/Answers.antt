use Rattle.obj2d.proofs.Words.{Display, ObjectPixel, SeenObject, ap, arith, pixel_at, refl, seen_at, ℕ, ◌∙◌}
use Rattle.obj2d.proofs.FormLemmas.{seen_form, seen_small, layer_form}
use Rattle.obj2d.proofs.LayerLemmas.{stands_at}
use Rattle.obj2d.proofs.OffLemmas.{object_small}
use Rattle.obj2d.proofs.layers.object_row.Goals as goal

pub hand_out-requires : goal.hand_out-requires
hand_out-requires c = λ x small.
    let a = c.args in
    let display : Display = record { engine = a.engine; control = a.control } in
    let same = ap (λ (p : ObjectPixel). p.priority) (c.draw_row.ensures.row x small) in
    let below = object_small a.vram.now a.palette.now a.oam.now display a.line x in
    omega (arith, same, below)

pub returns-clause-value : goal.returns-clause-value
returns-clause-value c = λ x small. c.hand_out.ensures x small ∙ c.draw_row.ensures.row x small

pub returns-clause-stands : goal.returns-clause-stands
returns-clause-stands c = λ x small.
    let display : Display = record { engine = c.args.engine; control = c.args.control } in
    stands_at (seen_at c.args.vram.now c.args.palette.now c.args.oam.now display c.args.line x) 128 (pixel_at c.hand_out.new.into.pixels x)
    (c.hand_out.ensures x small ∙ c.draw_row.ensures.row x small) refl

pub returns-clause-form : goal.returns-clause-form
returns-clause-form c = λ x small.
    let display : Display = record { engine = c.args.engine; control = c.args.control } in
    let seen : ℕ → SeenObject = seen_at c.args.vram.now c.args.palette.now c.args.oam.now display c.args.line x in
    layer_form seen 128 (pixel_at c.hand_out.new.into.pixels x)
    (seen_form c.args.vram.now c.args.palette.now c.args.oam.now display c.args.line x)
    (seen_small c.args.vram.now c.args.palette.now c.args.oam.now display c.args.line x)
    (stands_at seen 128 (pixel_at c.hand_out.new.into.pixels x) (c.hand_out.ensures x small ∙ c.draw_row.ensures.row x small) refl)
