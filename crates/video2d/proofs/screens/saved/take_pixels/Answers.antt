use Rattle.video2d.proofs.Words.{err_from_is_err_and, length-append, pixel_format, read_format, read_list, refl}
use Rattle.ds_state.proofs.Loop.{ends, fails_in, goes_on}
use Rattle.video2d.proofs.screens.saved.take_pixels.Goals as goal

pub returns-in_err-pixel-clause-reads : goal.returns-in_err-pixel-clause-reads
returns-in_err-pixel-clause-reads c =
    let p = err_from_is_err_and c.from_residual-in_err-pixel.result c.from_residual-in_err-pixel.ensures.1 in
    let reader = read_format pixel_format c.args.at.0 in
    rw (p.1, p.2) (ends c.in_err-pixel.field-0.0 reader c.loop.pixels.items c.args.count c.loop.counter c.loop.from
    (read_list reader c.args.count c.args.from.now) c.loop-test.true (fails_in c.in_err-pixel.field-0.0 (reader c.loop.from) c.in_err-pixel.ensures)
    c.loop.invariant.reads)

pub loop-preserved : goal.loop-preserved
loop-preserved c =
    let reader = read_format pixel_format c.args.at.0 in
    record {
      reads = rw c.in_ok-push.ensures.items (goes_on reader c.loop.pixels.items c.args.count c.loop.counter c.loop.from c.in_ok-pixel.pixel
          c.take_pixel.new.from (read_list reader c.args.count c.args.from.now) c.loop-test.true c.in_ok-pixel.ensures c.loop.invariant.reads);
      long = rw (c.in_ok-push.ensures.items, length-append, c.loop.invariant.long) refl;
    }
