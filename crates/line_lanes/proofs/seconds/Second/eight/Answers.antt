use Rattle.std.proofs.Common.{◌≤◌, ◌-◌, arith}
use Rattle.std.proofs.lemmas.List.{take-replicate, drop-replicate}
use Rattle.line_lanes.proofs.SecondLemmas.{block_of_slice}
use Rattle.line_lanes.proofs.seconds.Second.eight.Goals as goal
use Rattle.line_lanes.proofs.seconds.Second.eight.Goals.{in-Row, in-Colour}

pub returns : goal.returns
returns c n h =
    elim c.match-self.branch [
      | in-Row w ↦ rw (w.result-is, w.in-Row.is) (block_of_slice c.args.at w.in-Row.row.now)
      | in-Colour w ↦
          (let room : 8 ≤ n - c.args.at = omega arith in
          rw (w.result-is, w.in-Colour.is, drop-replicate, take-replicate))
    ]
