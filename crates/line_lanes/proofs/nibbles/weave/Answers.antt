use Rattle.std.proofs.Common.{◌≤◌, length, drop, arith, length-drop}
use Rattle.std.proofs.lemmas.List.{take_all}
use Rattle.line_lanes.proofs.NibbleLemmas.{turns-append}
use Rattle.line_lanes.proofs.nibbles.weave.Goals as goal

pub returns-clause-front : goal.returns-clause-front
returns-clause-front c = turns-append c.args.evens c.args.odds c.requires.evens_long c.requires.odds_long 8 0 (omega arith)

pub returns-clause-back : goal.returns-clause-back
returns-clause-back c =
    let evens : length (drop 8 c.args.evens) ≤ 8 = simp length-drop (omega arith) in
    let odds : length (drop 8 c.args.odds) ≤ 8 = simp length-drop (omega arith) in
    let both = turns-append c.args.evens c.args.odds c.requires.evens_long c.requires.odds_long 8 8 (omega arith) in
    rw (take_all 8 (drop 8 c.args.evens) evens, take_all 8 (drop 8 c.args.odds) odds) at both
