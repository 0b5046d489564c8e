use Rattle.std.proofs.Common.{ℕ, ◌≡◌, ◌<◌, ◌≤◌, ◌+◌, ◌-◌, ◌∙◌, length, take, drop, arith, length-append, length-drop, length-set, List, ◌++◌, sym}
use Rattle.std.specs.Simd.Lanes.{zip2, put_chunk}
use Rattle.std.proofs.lemmas.List.{length-take}
use Rattle.std.proofs.lemmas.Simd.{put_chunk_whole, length-zip2}
use Rattle.line_lanes.specs.Lanes.{mixed_pixel}
use Rattle.line_lanes.specs.Seconds.{pixels_of}
use Rattle.line_lanes.proofs.RowLemmas.{done_block, done_one}
use Rattle.line_lanes.proofs.SecondLemmas.{length-pixels_of, block_of_slice}
use Rattle.line_lanes.proofs.mixes.Mix.row.Goals as goal

pub eights-preserved : goal.eights-preserved
eights-preserved c =
    let f : ℕ → ℕ → ℕ = mixed_pixel c.args.self.eva c.args.self.evb c.args.self.rounding in
    let n : ℕ = length c.args.top.now in
    let next : List ℕ = pixels_of c.args.second n in
    let at : ℕ = c.eights.at in
    let top : List ℕ = c.eights.top in
    let old = c.eights.invariant in
    let e : at + 8 - at ≡ 8 = omega arith in
    let room : at + 8 ≤ length top = omega arith in
    let long : n ≡ length next = sym (length-pixels_of c.args.second n c.requires) in
    let below = c.eight.ensures n (omega arith) in
    let is : c.eight-block.result ≡ zip2 f (take 8 (drop at top)) (take 8 (drop at next)) =
    rw (block_of_slice at top, below) at c.eight-block.ensures in
    let front_long : length (take 8 (drop at top)) ≡ 8 = simp (length-take, length-drop) (omega arith) in
    let next_long : length (take 8 (drop at next)) ≡ 8 = simp (length-take, length-drop) (omega arith) in
    let eight_long : length c.eight-block.result ≡ 8 =
    rw is (length-zip2 f (take 8 (drop at top)) (take 8 (drop at next)) (front_long ∙ sym next_long)) ∙ front_long in
    let stored : put_chunk 0 (take 8 (drop at top)) c.eight-block.result ≡ c.eight-block.result =
    put_chunk_whole (take 8 (drop at top)) c.eight-block.result (front_long ∙ sym eight_long) in
    let kept : length (take at top ++ (c.eight-block.result ++ drop 8 (drop at top))) ≡ length top =
    simp (length-append, length-take, length-drop) (omega arith) in
    rw (e, stored)
    (record {
      within = omega (arith, kept);
      same = omega (arith, kept);
      done = done_block f c.args.top.now next top at long old.same old.done c.eight-block.result 8 room eight_long is;
    })

pub rest-preserved : goal.rest-preserved
rest-preserved c =
    let f : ℕ → ℕ → ℕ = mixed_pixel c.args.self.eva c.args.self.evb c.args.self.rounding in
    let n : ℕ = length c.args.top.now in
    let next : List ℕ = pixels_of c.args.second n in
    let long : n ≡ length next = sym (length-pixels_of c.args.second n c.requires) in
    let old = c.rest.invariant in
    let room : c.rest.at < length c.rest.top = omega arith in
    let below = c.one.ensures n (omega arith) in
    let is = rw below at c.one-in-rest.ensures in
    record {
      within = simp length-set (omega arith);
      same = simp length-set old.same;
      done = done_one f c.args.top.now next c.rest.top c.rest.at long old.same old.done c.one-in-rest.result room is;
    }
