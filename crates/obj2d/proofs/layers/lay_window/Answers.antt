use Rattle.obj2d.proofs.Words.{arith, lanes_pixel, ℕ, ◌+◌, ◌≡◌}
use Rattle.obj2d.proofs.StripLemmas.{laid_more, placed_span}
use Rattle.obj2d.proofs.layers.lay_window.Goals as goal

pub loop-i-preserved : goal.loop-i-preserved
loop-i-preserved c =
    let k : ℕ = c.on_screen-span.result.first + c.loop-i.i in
    let e : c.on_screen-span.result.first + (c.loop-i.i + 1) ≡ k + 1 = omega arith in
    let place = placed_span c.args.object.now c.left_edge.result c.box_width.result c.on_screen-span.result.first c.on_screen-span.result.start c.on_screen-span.result.count c.loop-i.i
    c.left_edge.ensures.value c.on_screen-span.ensures.first c.on_screen-span.ensures.start c.on_screen-span.ensures.count (omega arith) in
    rw e
    (laid_more c.args.object.now c.args.pixels.now k (c.on_screen-span.result.start + c.loop-i.i) c.priority-priority.result c.mode-mode.result
    (lanes_pixel c.args.into.now) (lanes_pixel c.loop-i.into) (lanes_pixel c.put_window.new.into)
    (let b = c.on_screen-span.ensures.in_box c.loop-i.i (omega arith) in omega (arith, b)) place c.priority-priority.ensures.value c.mode-mode.ensures c.loop-i.invariant (λ h. c.put_window.ensures.here) c.put_window.ensures.others)
