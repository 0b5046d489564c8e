use Rattle.gdb_session.proofs.Words.{All, Contains, Saves, ap, subst, sym, ◌∙◌}
use Rattle.gdb_session.proofs.Kept.{all_but, all_there}
use Rattle.gdb_session.proofs.saves.Saves.thin.Goals.{else-place-len, then-place-len}
use Rattle.gdb_session.proofs.saves.Saves.thin.Goals as goal

pub places-init : goal.places-init
places-init c = all_there _

pub places-preserved : goal.places-preserved
places-preserved c = elim c.if-place-len.branch [
  | then-place-len w ↦
      let is = ap (λ (s : Saves). s.all.items) w.self-is ∙ w.remove-gone.ensures.items in
      all_but (Contains c.args.self.now.all.items) c.places.self.all.items c.if-place-len.self.all.items c.places.place c.places.invariant is
  | else-place-len w ↦ subst (λ (s : Saves). All (Contains c.args.self.now.all.items) s.all.items) (sym w.self-is) c.places.invariant
]
