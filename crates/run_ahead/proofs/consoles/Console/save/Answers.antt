use Rattle.run_ahead.proofs.Words.{ConsoleState, HasMachineBounds, IsOver, IsSound, IsWithinTick, List, None, ap, counts_of, dues_of, subst, sym, ℕ}
use Rattle.run_ahead.proofs.Words.{◌*◌, ◌^◌, ◌∙◌, ◌≡◌, ◌≤◌}
use Rattle.run_ahead.specs.Saved.{IsReadBack, head_of, state_bytes}
use Rattle.run_ahead.proofs.SavedStates.{kept_back, written_whole}
use Rattle.run_ahead.proofs.consoles.Console.save.Goals as goal

pub returns-clause-bytes : goal.returns-clause-bytes
returns-clause-bytes c =
    let now = c.args.self.now in
    let m = c.self.inside.machine in
    let h = head_of now in
    c.finish.ensures
    ∙ written_whole c.args.digest.now now m c.head.result c.new-into.result c.pack.new.into c.pack-2.new.into (ap (λ (x : ConsoleState). x.machine) c.self.view_is)
    c.head.ensures c.new-into.ensures c.in_ok-pack.ensures (c.in_ok-pack-2.ensures m.file m.keys h.nine h.seven h.events h.at)

pub returns-clause-accepted : goal.returns-clause-accepted
returns-clause-accepted c = λ within.
    (let now = c.args.self.now in
    let digest = c.args.digest.now in
    let is : c.finish.result.items ≡ state_bytes digest now = returns-clause-bytes c in
    let kept = subst (λ (x : ConsoleState). (x.limit ≤ 2 ^ 56) × (counts_of x.machine ≤ 24 * x.limit) × (x.turns ≤ counts_of x.machine) × (x.stopped ≡ None → IsSound x.machine)) c.self.view_is
    (c.self.invariant.1, c.self.invariant.0, c.self.invariant.4, λ none. (c.self.invariant.3 none).sound) in
    let over = subst (λ (at : ℕ). IsOver (dues_of now.machine) at) c.requires.limit c.requires.over in
    let by = subst (λ (at : ℕ). IsWithinTick at now.machine) c.requires.limit within in
    let bounds = subst (λ (x : ConsoleState). HasMachineBounds x.machine) c.self.view_is c.bounds.ensures in
    subst (λ (bytes : List ℕ). IsReadBack digest now bytes) (sym is)
    (kept_back c.saved_laws.ensures c.back_laws.ensures digest now c.told-digest c.requires.open kept.0 kept.1 kept.2 bounds (kept.3 c.requires.open) over by))
