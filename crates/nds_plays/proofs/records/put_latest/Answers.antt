use Rattle.nds_plays.proofs.Words.{frame_records, last_frame, last_lists, lists_records, option_to_list, puts_then}
use Rattle.nds_plays.proofs.records.put_latest.Goals as goal

pub returns-clause-put : goal.returns-clause-put
returns-clause-put g c =
    let m = c.args.console.now.machine in
    let first = c.in_ok-put_last_frame.ensures.put in
    puts_then g.O.Sink.tells g.O.Sink.taken g.O.Sink.faults (frame_records (option_to_list (last_frame m))) (lists_records (option_to_list (last_lists m)))
    c.args.out.now c.put_last_frame.new.out c.put_last_lists.new.out c.put_last_lists.result first.0 first.1 c.put_last_lists.ensures.put
