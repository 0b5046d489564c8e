use Rattle.gdb_session.proofs.Words.{All, Contains, Saves, ap, subst, sym, ◌∙◌}
use Rattle.gdb_session.proofs.Kept.{all_there, there_before, there_now}
use Rattle.gdb_session.proofs.saves.Saves.push.Goals.{else-len-ge-MOST_SAVES, then-len-ge-MOST_SAVES}
use Rattle.gdb_session.proofs.saves.Saves.push.Goals as goal

pub returns-in_err-push : goal.returns-in_err-push
returns-in_err-push c = elim c.if-len-ge-MOST_SAVES.branch [
  | then-len-ge-MOST_SAVES w ↦
      let is = c.in_err-push.ensures.items ∙ ap (λ (s : Saves). s.all.items) w.self-is in
      there_before _ _ _ (subst (All (Contains c.args.self.now.all.items)) (sym is) w.thin.ensures)
  | else-len-ge-MOST_SAVES w ↦
      let is = c.in_err-push.ensures.items ∙ ap (λ (s : Saves). s.all.items) w.self-is in
      there_before _ _ _ (subst (All (Contains c.args.self.now.all.items)) (sym is) (all_there _))
]

pub returns : goal.returns
returns c = elim c.if-len-ge-MOST_SAVES.branch [
  | then-len-ge-MOST_SAVES w ↦
      let is = ap (λ (s : Saves). s.all.items) w.self-is in
      there_now _ _ _ _ c.in_ok-push.ensures.items (subst (All (Contains c.args.self.now.all.items)) (sym is) w.thin.ensures)
  | else-len-ge-MOST_SAVES w ↦
      let is = ap (λ (s : Saves). s.all.items) w.self-is in
      there_now _ _ _ _ c.in_ok-push.ensures.items (subst (All (Contains c.args.self.now.all.items)) (sym is) (all_there _))
]
