use Rattle.obj2d.proofs.Words.{Bool, Object, ap, flips_across, flips_down, height, mirrored, width, ℕ, ◌∙◌, ◌≡◌}
use Rattle.obj2d.specs.ObjectPixels.{point_pixel}
use Rattle.obj2d.proofs.StripLemmas.{painted_is_flat}
use Rattle.obj2d.proofs.strips.flat_strip.Goals as goal

pub returns-then-object_has_256 : goal.returns-then-object_has_256
returns-then-object_has_256 c = λ x small.
    let o : Object = c.args.object.now in
    let line : c.mirrored-line.result ≡ mirrored (flips_down o) (height o) c.args.y =
    c.mirrored-line.ensures.value
    ∙ ap (λ (b : Bool). mirrored b c.height.result c.args.y) c.flips_down.ensures
    ∙ ap (λ (n : ℕ). mirrored (flips_down o) n c.args.y) c.height.ensures.value in
    painted_is_flat c.args.vram.now c.args.palette.now c.args.display.now o c.mirrored-line.result c.paint_wide.new.into c.paint_wide.ensures x small
    ∙ ap (λ (n : ℕ). point_pixel c.args.vram.now c.args.palette.now c.args.display.now o (mirrored (flips_across o) (width o) x) n) line

pub returns-else-object_has_256 : goal.returns-else-object_has_256
returns-else-object_has_256 c = λ x small.
    let o : Object = c.args.object.now in
    let line : c.mirrored-line.result ≡ mirrored (flips_down o) (height o) c.args.y =
    c.mirrored-line.ensures.value
    ∙ ap (λ (b : Bool). mirrored b c.height.result c.args.y) c.flips_down.ensures
    ∙ ap (λ (n : ℕ). mirrored (flips_down o) n c.args.y) c.height.ensures.value in
    painted_is_flat c.args.vram.now c.args.palette.now c.args.display.now o c.mirrored-line.result c.paint_narrow.new.into c.paint_narrow.ensures x small
    ∙ ap (λ (n : ℕ). point_pixel c.args.vram.now c.args.palette.now c.args.display.now o (mirrored (flips_across o) (width o) x) n) line
