use Rattle.ds_ports.proofs.Words.{IoState, subst, sym, video_done, ◌∙◌, ◌≡◌}
use Rattle.ds_ports.specs.contracts.units.Units.{the_view}
use Rattle.ds_ports.proofs.Shows.{show_leaves, stop_leaves}
use Rattle.ds_ports.proofs.units.Units.show.Goals as goal

pub returns-in_err-shown-clause-state : goal.returns-in_err-shown-clause-state
returns-in_err-shown-clause-state c =
    let palette = c.args.palette.now in
    let oam = c.args.oam.now in
    let old : IoState = the_view c.self.inside in
    let new : IoState = record old { video = c.event.new.self } in
    subst (λ (u : IoState). new ≡ video_done palette oam u) c.self.view_is
    (stop_leaves palette oam old c.in_err-shown.field-0.0 c.event.new.self (sym c.event.ensures.answer ∙ c.in_err-shown.was) c.event.ensures.state)

pub returns-clause-state : goal.returns-clause-state
returns-clause-state c =
    let palette = c.args.palette.now in
    let oam = c.args.oam.now in
    subst (λ (u : IoState). c.trigger_shown.new.self ≡ video_done palette oam u) c.self.view_is
    (show_leaves palette oam (the_view c.self.inside) c.in_ok-shown.shown c.due-now.result c.event.new.self c.raise.new.self c.trigger_shown.new.self
    (sym c.event.ensures.answer ∙ c.in_ok-shown.was) c.event.ensures.state c.due-now.ensures c.raise.ensures c.trigger_shown.ensures)
