use Rattle.obj2d.proofs.Words.{ObjectPixel, SeenObject, ap, arith, lanes_pixel, pixel_below, seen_at, subst, sym, with_object, ℕ, ◌∙◌, ◌≡◌}
use Rattle.obj2d.proofs.LayerLemmas.{pixel_below_more}
use Rattle.obj2d.proofs.OffLemmas.{none_before}
use Rattle.obj2d.proofs.layers.lay_all.Goals as goal

pub loop-number-init : goal.loop-number-init
loop-number-init c =
    let a = c.args in
    record {
      row = λ x small.
          c.requires.blank x small
          ∙ sym (none_before a.vram.now a.palette.now a.oam.now a.display.now a.line x a.first c.requires.before);
      within = λ x small full. absurd (full (ap (λ (p : ObjectPixel). p.colour) (c.requires.blank x small)));
    }

pub loop-number-preserved : goal.loop-number-preserved
loop-number-preserved c = record {
  row = λ x small.
      let seen : ℕ → SeenObject = seen_at c.args.vram.now c.args.palette.now c.args.oam.now c.args.display.now c.args.line x in
      c.draw.ensures.row x small
      ∙ ap (with_object (seen c.loop-number.number)) (c.loop-number.invariant.row x small)
      ∙ sym (pixel_below_more seen c.loop-number.number);
  within = c.draw.ensures.within;
}

pub returns-clause-row : goal.returns-clause-row
returns-clause-row c = λ x small.
    let seen : ℕ → SeenObject = seen_at c.args.vram.now c.args.palette.now c.args.oam.now c.args.display.now c.args.line x in
    let P : ℕ → Type 0 = λ (n : ℕ). lanes_pixel c.loop-number.into x ≡ pixel_below seen n in
    let all : c.loop-number.number ≡ 128 = omega arith in
    subst P all (c.loop-number.invariant.row x small)
