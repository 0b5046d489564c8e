use Rattle.nds_plays.proofs.Words.{ending, last_records, latest_of, puts_then, shown_after}
use Rattle.nds_plays.proofs.plays.put_records.Goals as goal

pub returns-clause-put : goal.returns-clause-put
returns-clause-put g c =
    let m = c.args.console.now.machine in
    let kept = c.in_ok-put_kept.ensures.put in
    puts_then g.O.Sink.tells g.O.Sink.taken g.O.Sink.faults (shown_after c.args.keep (latest_of m)) (last_records c.args.until.0 c.args.console.now.turns (ending c.args.stop m))
    c.args.out.now c.put_kept.new.out c.put_ending.new.out c.put_ending.result kept.0 kept.1 c.put_ending.ensures.put
