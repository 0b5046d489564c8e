use Rattle.nds_plays.proofs.Words.{List, ap, arith, body, drawn, flat_map, little_bytes, map, range_with_len, ℕ, ◌++◌, ◌∙◌, ◌≡◌}
use Rattle.nds_plays.proofs.Bodies.{nothing_put, one_more, word_at, word_more, body_whole}
use Rattle.nds_plays.proofs.carts.put_body.Goals as goal

pub loop-place-init : goal.loop-place-init
loop-place-init c =
    let n = nothing_put c.args.number c.args.file.now.items in
    record { file = n.0; drawn = n.1 }

pub loop-place-preserved : goal.loop-place-preserved
loop-place-preserved c =
    let next = one_more c.args.number c.loop-place.place c.loop-place.s c.draw-s.result c.loop-place.invariant.drawn c.draw-s.ensures in
    record {
      file = word_more c.args.number c.loop-place.place c.draw-s.result c.args.file.now.items c.extend_from_slice.new.self.items c.loop-place.file.items c.loop-place.invariant.file next
          (c.in_ok-extend_from_slice.ensures.items ∙ ap (λ (x : List ℕ). c.loop-place.file.items ++ x) (c.to_le_bytes.ensures ∙ ap (little_bytes 4) c.body_word.ensures));
      drawn = next;
    }

pub returns : goal.returns
returns c =
    let end : c.loop-place.place ≡ 1024 = omega (arith, c.loop-place-test.false, c.loop-place.auto.place-end) in
    let all : map (word_at c.args.number) (range_with_len 0 c.loop-place.place) ≡ body c.args.number = ap (λ (n : ℕ). map (word_at c.args.number) (range_with_len 0 n)) end ∙ body_whole c.args.number in (
      c.loop-place.invariant.file ∙ ap (λ (x : List ℕ). c.args.file.now.items ++ flat_map (little_bytes 4) x) all,
      c.loop-place.invariant.drawn ∙ ap (drawn c.args.number) end,
    )
