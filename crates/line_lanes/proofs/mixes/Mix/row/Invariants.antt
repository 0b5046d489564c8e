use Rattle.std.proofs.Common.{◌≡◌, ◌≤◌, length, ◌-◌}
use Rattle.line_lanes.specs.Lanes.{mixed_pixel}
use Rattle.line_lanes.specs.Seconds.{pixels_of}
use Rattle.line_lanes.proofs.RowLemmas.{Done}
use Rattle.line_lanes.proofs.mixes.Mix.row.Given as goal

abbrev pub invariant-eights : goal.invariant-eights
invariant-eights l = record {
  within : l.at ≤ length l.top;
  same : length l.top ≡ length l.fn.top;
  done : Done (mixed_pixel l.self.eva l.self.evb l.self.rounding) l.at l.fn.top (pixels_of l.second (length l.fn.top)) l.top;
}

abbrev pub decreases-eights : goal.decreases-eights
decreases-eights l = length l.initial.top - l.at

abbrev pub invariant-rest : goal.invariant-rest
invariant-rest l = record {
  within : l.at ≤ length l.top;
  same : length l.top ≡ length l.fn.top;
  done : Done (mixed_pixel l.self.eva l.self.evb l.self.rounding) l.at l.fn.top (pixels_of l.second (length l.fn.top)) l.top;
}

abbrev pub decreases-rest : goal.decreases-rest
decreases-rest l = length l.initial.top - l.at
