use Rattle.gdb_session.specs.Tapes.{HasRunTo}
use Rattle.gdb_session.proofs.Words.{ComesFrom, TapeState, ap, boot_of, subst, tape_view, ◌∙◌}
use Rattle.gdb_session.proofs.Kept.{goes_on, same_boot}
use Rattle.gdb_session.proofs.tapes.TapeDeck.run_to.Goals as goal

pub invariant_of-self : goal.invariant_of-self
invariant_of-self c = goes_on _ _ _ _ _ c.self.invariant c.run_console.ensures.comes

pub returns-clause-boot : goal.returns-clause-boot
returns-clause-boot c = same_boot (tape_view c.self.inside) _ c.run_console.ensures.comes ∙ ap boot_of c.self.view_is

pub returns-clause-comes : goal.returns-clause-comes
returns-clause-comes c = subst (λ (t : TapeState). ComesFrom t.console c.run_console.new.console) c.self.view_is c.run_console.ensures.comes

pub returns-clause-taken : goal.returns-clause-taken
returns-clause-taken c = λ e le.
    subst (λ (t : TapeState). HasRunTo c.args.until.0 t.console c.run_console.new.console) c.self.view_is (c.run_console.ensures.taken e le)
