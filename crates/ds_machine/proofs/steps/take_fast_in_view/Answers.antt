use Rattle.ds_machine.proofs.Words.{Bool, DataStays, Outcome, ap, data_waits, enters, false, is_other, not-true, refl, sym, true, true≢false, ℕ, ◌+◌}
use Rattle.ds_machine.proofs.Words.{◌∙◌, ◌≡◌}
use Rattle.ds_machine.specs.declared.steps.Fast.{Fast}
use Rattle.ds_machine.proofs.DecodedStays.{leaves_known, reach_told, stays_known}
use Rattle.ds_machine.proofs.NearUnobserved.{near_known}
use Rattle.ds_machine.proofs.Taken.{decoded_waits, taken_operation, waits_fetched}
use Rattle.ds_machine.proofs.steps.take_fast_in_view.Goals.{else-ahead-via-then-ahead+else-not-data_stays, else-ahead-via-else-ahead}
use Rattle.ds_machine.proofs.steps.take_fast_in_view.Goals as goal

pub returns-clause-registers : goal.returns-clause-registers
returns-clause-registers g c = λ some.
    (let none : enters c.args.line c.args.s.now ≡ false = sym c.if-enters.ensures in
    let is = taken_operation g.V.Side.memory g.V.Side.side c.args.line c.args.s.now (g.V.Side.state c.args.view.now) c.next_operation-next.result.now (c.run_fast-clocks.ensures.executes some)
    none c.next_operation-next.ensures.operation in
    c.run_fast-clocks.ensures.registers some ∙ ap (λ (o : Outcome g.V.Side.State). o.registers) (sym is))

pub returns-clause-state : goal.returns-clause-state
returns-clause-state g c = λ some.
    (let none : enters c.args.line c.args.s.now ≡ false = sym c.if-enters.ensures in
    let is = taken_operation g.V.Side.memory g.V.Side.side c.args.line c.args.s.now (g.V.Side.state c.args.view.now) c.next_operation-next.result.now (c.run_fast-clocks.ensures.executes some)
    none c.next_operation-next.ensures.operation in
    c.run_fast-clocks.ensures.state some ∙ ap (λ (o : Outcome g.V.Side.State). o.state) (sym is))

pub returns-clause-stepped : goal.returns-clause-stepped
returns-clause-stepped g c = λ some.
    (let none : enters c.args.line c.args.s.now ≡ false = sym c.if-enters.ensures in
    let is = taken_operation g.V.Side.memory g.V.Side.side c.args.line c.args.s.now (g.V.Side.state c.args.view.now) c.next_operation-next.result.now (c.run_fast-clocks.ensures.executes some)
    none c.next_operation-next.ensures.operation in
    ap (λ (o : Outcome g.V.Side.State). o.stepped) is ∙ c.run_fast-clocks.ensures.stepped some)

pub returns-clause-near : goal.returns-clause-near
returns-clause-near g c = λ some.
    near_known g.V.Side.memory g.V.Side.side (g.V.Side.state c.args.view.now) c.args.s.now c.next_operation-next.result.now c.next_operation-next.ensures.operation
    (c.run_fast-clocks.ensures.known some) (c.run_fast-clocks.ensures.near some)

pub returns-then-not-data_stays-clause-leaves : goal.returns-then-not-data_stays-clause-leaves
returns-then-not-data_stays-clause-leaves g c = λ left.
    (let one : c.lists-lists.result ≡ false = not-true c.lists-lists.result (sym (ap (λ (f : Fast). f.leaves) c.not_taken-then-not-data_stays.ensures) ∙ left) in
    by_other one (is_other c.next_operation-next.result.now.op) refl) where
      by_other : c.lists-lists.result ≡ false → (b : Bool) → is_other c.next_operation-next.result.now.op ≡ b
          → DataStays g.V.Side.memory g.V.Side.side c.args.s.now (g.V.Side.state c.args.view.now) → ⊥
      by_other one true other = absurd (true≢false (sym (c.data_stays.ensures.other one other) ∙ c.if-not-data_stays.true))
      by_other one false other =
          leaves_known g.V.Side.memory g.V.Side.side (g.V.Side.state c.args.view.now) c.args.s.now c.next_operation-next.result.now c.data_stays.ensures.words
          c.next_operation-next.ensures.operation other (c.data_stays.ensures.address one) (sym (c.data_stays.ensures.stays one) ∙ c.if-not-data_stays.true)

by_kind : {A : Type 0} (b : Bool) → (b ≡ true → A) → (b ≡ false → A) → A
by_kind true h k = h refl
by_kind false h k = k refl

pub returns-clause-stays : goal.returns-clause-stays
returns-clause-stays g c = λ ahead some.
    elim c.else-ahead.branch [
      | else-ahead-via-then-ahead+else-not-data_stays w ↦
          stays_known g.V.Side.memory g.V.Side.side (g.V.Side.state c.args.view.now) c.args.s.now c.next_operation-next.result.now
          c.next_operation-next.ensures.operation (c.run_fast-clocks.ensures.known some)
          (by_kind c.lists-lists.result (λ lists. w.data_stays.ensures.list lists w.if-not-data_stays.false)
          (λ one. reach_told g.V.Side.side (g.V.Side.state c.args.view.now) c.args.s.now c.next_operation-next.result.now w.data_stays.ensures.words
          (c.run_fast-clocks.ensures.told (sym c.lists-lists.ensures ∙ one) some) (w.data_stays.ensures.address one) (sym (w.data_stays.ensures.stays one) ∙ w.if-not-data_stays.false)))
      | else-ahead-via-else-ahead w ↦ absurd (w.if-ahead.false ahead)
    ]

pub returns-clause-waits : goal.returns-clause-waits
returns-clause-waits g c = λ some.
    (let memory = g.V.Side.memory in
    let side = g.V.Side.side in
    let state = g.V.Side.state c.args.view.now in
    let s = c.args.s.now in
    let next = c.next_operation-next.result.now in
    let first = c.next_fetch-fetch.result.waits in
    let none : enters c.args.line s ≡ false = sym c.if-enters.ensures in
    ap (λ (n : ℕ). first + n) (c.waited.ensures ∙ c.run_fast-clocks.ensures.waits some
    ∙ decoded_waits memory side s state next (c.run_fast-clocks.ensures.known some) c.next_operation-next.ensures.operation)
    ∙ ap (λ (n : ℕ). n + data_waits memory side.step s state) c.next_fetch-fetch.ensures.waits
    ∙ sym (waits_fetched memory side c.args.line s state none))
