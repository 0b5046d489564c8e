use Rattle.nds_plays.proofs.Words.{Appended, LeftOut, Option, ap, ending, last_records, latest_of, rose_within, shown_after, subst, sym, ◌++◌, ◌∙◌}
use Rattle.nds_plays.specs.Plays.{Wrote}
use Rattle.nds_plays.proofs.Playing.{WroteShort, all_written, front_written, put_whole, so_of_ok}
use Rattle.ds_io.proofs.Putting.{puts_failed}
use Rattle.nds_plays.proofs.plays.play.Goals as goal

pub returns-then-is_err-clause-played : goal.returns-then-is_err-clause-played
returns-then-is_err-clause-played g c =
    let m = c.run_to.new.console.machine in
    let ran = c.in-Ok.ensures.ran in
    let put = puts_failed g.O.Sink.tells g.O.Sink.taken g.O.Sink.faults (shown_after c.args.keep (latest_of m) ++ last_records c.args.until.0 c.run_to.new.console.turns (ending c.in-Ok.stop m))
    c.run_to.new.out c.put_records.new.out c.put_records.result c.put_records.ensures.put (sym c.is_err.ensures.value ∙ c.if-is_err.true) in (
      front_written g.O.Sink.tells g.O.Sink.taken c.args.until.0 c.args.keep c.args.console.now c.in-Ok.stop c.run_to.new.console c.args.out.now c.run_to.new.out c.put_records.new.out ran.0 ran.1 put.0,
      rose_within (g.O.Sink.faults c.args.out.now) (g.O.Sink.faults c.run_to.new.out) (g.O.Sink.faults c.put_records.new.out) c.in-Ok.ensures.later put.1,
      ran.0.turned,
    )

pub returns-in-None-clause-played : goal.returns-in-None-clause-played
returns-in-None-clause-played g c =
    let new = c.run_to.new.console in
    let ran = c.in-Ok.ensures.ran in
    let made = sym c.is_err.ensures.value ∙ c.if-is_err.false in
    let put = put_whole g.O.Sink.tells g.O.Sink.taken g.O.Sink.faults (shown_after c.args.keep (latest_of new.machine) ++ last_records c.args.until.0 new.turns (ending c.in-Ok.stop new.machine))
    c.run_to.new.out c.put_records.new.out c.put_records.result c.put_records.ensures.put made in
    let few = so_of_ok c.put_records.result c.put_records.ensures.few made in
    let wrote = all_written g.O.Sink.tells g.O.Sink.taken c.args.until.0 c.args.keep c.args.console.now c.in-Ok.stop new c.args.out.now c.run_to.new.out c.put_records.new.out ran.0 ran.1
    c.requires.early c.laws.ensures.parts c.frame_laws.ensures.few ran.2 few put in
    let same = subst (WroteShort g.O.Sink.tells g.O.Sink.taken c.args.until.0 c.args.keep c.args.console.now c.in-Ok.stop new c.args.out.now c.run_to.new.out c.put_records.new.out ran.0 ran.1)
    (ap (λ (o : Option LeftOut). ending o new.machine) c.in-None.is) wrote in (
      same.0,
      ran.0.stopped ∙ c.in-None.is,
      ran.0.limit,
      ran.0.turned,
      same.1,
    )

pub returns-in-Some-clause-played : goal.returns-in-Some-clause-played
returns-in-Some-clause-played g c =
    let new = c.run_to.new.console in
    let ran = c.in-Ok.ensures.ran in
    let made = sym c.is_err.ensures.value ∙ c.if-is_err.false in
    let put = put_whole g.O.Sink.tells g.O.Sink.taken g.O.Sink.faults (shown_after c.args.keep (latest_of new.machine) ++ last_records c.args.until.0 new.turns (ending c.in-Ok.stop new.machine))
    c.run_to.new.out c.put_records.new.out c.put_records.result c.put_records.ensures.put made in
    let few = so_of_ok c.put_records.result c.put_records.ensures.few made in
    let wrote = all_written g.O.Sink.tells g.O.Sink.taken c.args.until.0 c.args.keep c.args.console.now c.in-Ok.stop new c.args.out.now c.run_to.new.out c.put_records.new.out ran.0 ran.1
    c.requires.early c.laws.ensures.parts c.frame_laws.ensures.few ran.2 few put in (
      subst (λ (o : Option LeftOut). Wrote (Appended g.O.Sink.tells g.O.Sink.taken c.args.out.now c.put_records.new.out) c.args.until.0 c.args.keep c.args.console.now (ending o new.machine) new) c.in-Some.is wrote.0,
      ran.0.stopped ∙ c.in-Some.is,
      ran.0.turned,
    )
