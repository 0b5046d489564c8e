use Rattle.ds_machine.proofs.Words.{MachineState, ap, ended, same_Some, scan_due_tick, swapped_if, sym, with_io, ◌&&◌, ◌∙◌}
use Rattle.ds_machine.proofs.VideoEvents.{after_is, frame_made, line_made, line_stopped, swap_is}
use Rattle.ds_machine.proofs.parts.Parts.step_video.Goals as goal

pub returns-then-shown : goal.returns-then-shown
returns-then-shown c =
    let s = c.args.self.now in
    let answer = sym c.show.ensures.answer ∙ c.in-Ok.is in
    let due = same_Some (scan_due_tick s.io.video.scan) c.args.tick c.requires.due in
    frame_made c.args.rank c.args.tick s c.end_event.new.self c.in-Ok.shown c.swap_if-swapped.result answer c.if-shown.true
    (swap_is c.args.rank c.args.tick s c.swap_if-swapped.result c.in-Ok.shown.frame
    (c.swap_if-swapped.ensures.swapped ∙ ap (λ (m : MachineState). c.in-Ok.shown.frame && m.io.gx.swap_waits) c.show.ensures.state) c.if-shown.true)
    (c.end_event.ensures ∙ ap (ended c.args.tick) (after_is c.args.rank c.args.tick s c.in-Ok.shown c.swap_if-swapped.new.self answer due
    (c.swap_if-swapped.ensures.state ∙ ap (λ (m : MachineState). with_io m (swapped_if c.in-Ok.shown.frame c.args.tick m.io)) c.show.ensures.state)))

pub returns-else-shown : goal.returns-else-shown
returns-else-shown c =
    let s = c.args.self.now in
    let answer = sym c.show.ensures.answer ∙ c.in-Ok.is in
    let due = same_Some (scan_due_tick s.io.video.scan) c.args.tick c.requires.due in
    line_made c.args.rank c.args.tick s c.end_event.new.self c.in-Ok.shown answer c.if-shown.false
    (c.end_event.ensures ∙ ap (ended c.args.tick) (after_is c.args.rank c.args.tick s c.in-Ok.shown c.swap_if-swapped.new.self answer due
    (c.swap_if-swapped.ensures.state ∙ ap (λ (m : MachineState). with_io m (swapped_if c.in-Ok.shown.frame c.args.tick m.io)) c.show.ensures.state)))

pub returns-in-Err : goal.returns-in-Err
returns-in-Err c =
    line_stopped c.args.rank c.args.tick c.args.self.now c.show.new.self c.in-Err.stop (sym c.show.ensures.answer ∙ c.in-Err.is) c.show.ensures.state
    (same_Some (scan_due_tick c.args.self.now.io.video.scan) c.args.tick c.requires.due)
