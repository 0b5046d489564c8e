use Rattle.std.proofs.Common.{min, ◌∙◌, sym}
use Rattle.std.proofs.lemmas.List.{map-id}
use Rattle.line_lanes.proofs.LaneLemmas.{zip2-mixed, capped_one, shared_one}
use Rattle.line_lanes.proofs.mixes.Mix.channel_of_eight.Goals as goal

pub returns-then-self : goal.returns-then-self
returns-then-self c =
    let m = c.args.self in
    rw (c.cap_each.ensures, c.shift_each-share.ensures, c.raise_each-sum.ensures, c.add_each.ensures, c.scale_each-first.ensures, c.scale_each-other.ensures, c.channel_each.ensures, c.channel_each-2.ensures)
    (zip2-mixed m.eva m.evb m.rounding (λ x. min x 31) (capped_one m.eva m.evb m.rounding m.first_fits m.second_fits m.rounding_fits) c.args.from c.args.top c.args.second)

pub returns : goal.returns
returns c =
    let m = c.args.self in
    sym (map-id c.shift_each-share.result)
    ∙ rw (c.shift_each-share.ensures, c.raise_each-sum.ensures, c.add_each.ensures, c.scale_each-first.ensures, c.scale_each-other.ensures, c.channel_each.ensures, c.channel_each-2.ensures)
    (zip2-mixed m.eva m.evb m.rounding (λ x. x) (shared_one m.eva m.evb m.rounding (m.shared_out c.if-self.false) m.rounding_fits) c.args.from c.args.top c.args.second)
