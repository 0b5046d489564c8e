use Rattle.gdb_session.proofs.Words.{ComesFrom, TapeState, ap, boot_of, subst, tape_view, ◌∙◌}
use Rattle.gdb_session.proofs.Kept.{goes_on, same_boot}
use Rattle.gdb_session.proofs.tapes.TapeDeck.step.Goals as goal

pub invariant_of-self : goal.invariant_of-self
invariant_of-self c = goes_on _ _ _ _ _ c.self.invariant c.step_console.ensures

pub returns-clause-boot : goal.returns-clause-boot
returns-clause-boot c = same_boot (tape_view c.self.inside) _ c.step_console.ensures ∙ ap boot_of c.self.view_is

pub returns-clause-comes : goal.returns-clause-comes
returns-clause-comes c = subst (λ (t : TapeState). ComesFrom t.console c.step_console.new.console) c.self.view_is c.step_console.ensures
