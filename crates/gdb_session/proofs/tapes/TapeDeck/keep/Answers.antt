use Rattle.gdb_session.proofs.Words.{ComesFrom, IsSaveOf, TapeState, ap, boot_of, subst, tape_view, ◌∙◌}
use Rattle.gdb_session.proofs.Kept.{goes_on, is_kept, kept_more, same_boot}
use Rattle.gdb_session.proofs.Coming.{stays}
use Rattle.gdb_session.proofs.tapes.TapeDeck.keep.Goals as goal

pub invariant_of-self : goal.invariant_of-self
invariant_of-self c = goes_on _ _ _ _ _ c.self.invariant c.save_console.ensures.comes

pub returns-then-not-wants-clause-comes : goal.returns-then-not-wants-clause-comes
returns-then-not-wants-clause-comes c = stays _

pub returns-in_default-clause-comes : goal.returns-in_default-clause-comes
returns-in_default-clause-comes c = subst (λ (t : TapeState). ComesFrom t.console c.save_console.new.console) c.self.view_is c.save_console.ensures.comes

pub returns-in_default-clause-boot : goal.returns-in_default-clause-boot
returns-in_default-clause-boot c = same_boot (tape_view c.self.inside) _ c.save_console.ensures.comes ∙ ap boot_of c.self.view_is

pub invariant_of-self-2 : goal.invariant_of-self-2
invariant_of-self-2 c =
    let i = c.self.inside in
    let now = c.save_console.new.console in
    let on = goes_on i.keys i.digest i.console now i.saves.all.items c.self.invariant c.save_console.ensures.comes in
    let kept = is_kept c.turn_laws.ensures.runs c.time_laws.ensures.run c.time_laws.ensures.keys i.keys i.digest now i.saves.all.items on c.in-Some.ensures.«open» c.in-Some.ensures.over in
    record {
      sound = on.sound;
      parts = on.parts;
      within = on.within;
      came = on.came;
      kept = kept_more (IsSaveOf now.machine.file i.keys i.digest) i.saves.all.items c.push.new.self.all.items _ on.kept (kept _ c.limit-at.ensures.limit c.in-Some.ensures.back) c.push.ensures;
    }

pub returns-clause-comes : goal.returns-clause-comes
returns-clause-comes c = subst (λ (t : TapeState). ComesFrom t.console c.save_console.new.console) c.self.view_is c.save_console.ensures.comes

pub returns-clause-boot : goal.returns-clause-boot
returns-clause-boot c = same_boot (tape_view c.self.inside) _ c.save_console.ensures.comes ∙ ap boot_of c.self.view_is
