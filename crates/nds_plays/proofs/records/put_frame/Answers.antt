use Rattle.nds_plays.proofs.Words.{AppendedFront, List, Puts, [], err_from_is_err_and, front_of_more, halves, longs, puts_then, subst, ℕ, ◌++◌, ◌∷◌}
use Rattle.nds_plays.proofs.Framing.{frame_split}
use Rattle.nds_plays.proofs.records.put_frame.Goals as goal

pub returns-in_err-put_parts : goal.returns-in_err-put_parts
returns-in_err-put_parts g c =
    let p = err_from_is_err_and c.from_residual.result c.from_residual.ensures.1 in
    let long : List ℕ = c.long_bytes.result in
    let pixels : List ℕ = halves c.args.pixels.now in
    let P : List ℕ → Type 0 = λ x. AppendedFront g.O.Sink.tells g.O.Sink.taken c.args.out.now c.put_parts.new.out x in
    let h = c.in_err-put_parts.ensures in
    rw p.1 (
      subst P (frame_split long (longs (c.args.tick.0 ∷ [])) pixels c.long_bytes.ensures)
          (front_of_more g.O.Sink.tells g.O.Sink.taken c.args.out.now c.put_parts.new.out (70 ∷ (long ++ [])) pixels h.0),
      h.1,
      h.2,
    )

pub returns : goal.returns
returns g c =
    let long : List ℕ = c.long_bytes.result in
    let pixels : List ℕ = halves c.args.pixels.now in
    let P : List ℕ → Type 0 = λ x. Puts g.O.Sink.tells g.O.Sink.taken g.O.Sink.faults x c.put_pixels.result c.args.out.now c.put_pixels.new.out in
    let h = c.in_ok-put_parts.ensures in
    subst P (frame_split long (longs (c.args.tick.0 ∷ [])) pixels c.long_bytes.ensures)
    (puts_then g.O.Sink.tells g.O.Sink.taken g.O.Sink.faults (70 ∷ (long ++ [])) pixels c.args.out.now c.put_parts.new.out c.put_pixels.new.out c.put_pixels.result h.0 h.1 c.put_pixels.ensures)
