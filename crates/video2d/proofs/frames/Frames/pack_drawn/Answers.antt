use Rattle.video2d.proofs.Words.{arith, frame_format}
use Rattle.video2d.proofs.FrameLemmas.{put_all, put_one}
use Rattle.video2d.proofs.frames.Frames.pack_drawn.Goals as goal

pub loop-i-preserved : goal.loop-i-preserved
loop-i-preserved c =
    let long = c.pixel_laws.ensures in
    let lt = c.loop-i-test.true in
    put_one c.args.self.now.drawn c.loop-i.into c.put_pixel.new.into _ c.loop-i.i c.pixel.result (omega (arith, long, lt)) c.pixel.ensures
    c.in_ok-put_pixel.ensures c.loop-i.invariant

pub returns : goal.returns
unfolding frame_format
returns c =
    let long = c.pixel_laws.ensures in
    let end = c.loop-i-test.false in
    put_all c.args.self.now.drawn c.loop-i.into _ c.loop-i.i (omega (arith, long, end)) c.loop-i.invariant
