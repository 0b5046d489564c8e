use Rattle.gdb_session.proofs.Words.{ap, tape_view, ◌∙◌}
use Rattle.std.proofs.Common.{is_some}
use Rattle.gdb_session.proofs.Dues.{due_in}
use Rattle.gdb_session.proofs.tapes.TapeDeck.runs.Goals as goal

pub returns : goal.returns
returns c =
    c.is_some.ensures ∙ ap is_some (due_in (tape_view c.self.inside) _ _ _ _ c.self.view_is c.rank.ensures.value c.due_of.ensures)
