use Rattle.gdb_session.proofs.Words.{ap, sym, tape_view, ◌∙◌}
use Rattle.std.proofs.Common.{Option, false, ◌==◌}
use Rattle.std.specs.Option.{option_map_or}
use Rattle.ds_base.specs.declared.ticks.Tick.{Tick}
use Rattle.gdb_session.proofs.Dues.{due_in}
use Rattle.gdb_session.proofs.tapes.TapeDeck.is_due.Goals as goal

pub returns-in-Some : goal.returns-in-Some
returns-in-Some c =
    let own = due_in (tape_view c.self.inside) _ _ _ _ c.self.view_is c.rank.ensures.value c.due_of.ensures in
    ap (λ (o : Option Tick). option_map_or (λ due. due.0 == c.args.at.0) o false) (sym c.in-Some.is ∙ own)

pub returns-in-None : goal.returns-in-None
returns-in-None c =
    let own = due_in (tape_view c.self.inside) _ _ _ _ c.self.view_is c.rank.ensures.value c.due_of.ensures in
    ap (λ (o : Option Tick). option_map_or (λ due. due.0 == c.args.at.0) o false) (sym c.in-None.is ∙ own)
