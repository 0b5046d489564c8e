use Rattle.run_ahead.proofs.Words.{At, BelongsToTurn, Bool, CatchesUp, CatchesUpFor, CatchesUpIf, ConsoleState, Ending, IsLeast, IsOver, IsSome}
use Rattle.run_ahead.proofs.Words.{LeftOut, List, MachineState, MachineStep, Makes, MeetsStop, Nine, None, Option, Proc, Seven, Shown, Some, Stops}
use Rattle.run_ahead.proofs.Words.{TakesEvent, TakesGeometry, TakesQuiet, TakesSteps, TakesStretch, Tick, Turns, TurnsToEnd, [], acting_dues}
use Rattle.run_ahead.proofs.Words.{actor_of, ap, arith, at_end, behind_is, counted_of, counts, due_of_rank, due_where_acts, dues_of, false}
use Rattle.run_ahead.proofs.Words.{geometry_rank, inl, inr, is_behind, meets_stop, next_shown, none-some, observes_by, one_more_turn, processor_of}
use Rattle.run_ahead.proofs.Words.{rank_of, reference_step, refl, run_to, same_Some, subst, sym, true, true≢false, ℕ, ◌<◌, ◌∙◌, ◌∷◌, ◌≡◌, ◌≤◌, ◌⊎◌}
use Rattle.ds_runs.specs.Runs as runs
use Rattle.ds_runs.proofs.Lists.{least_unique}
use Rattle.ds_runs.proofs.RunLaws.{not_both, same_makes}
use Rattle.ds_machine.specs.Lagging as lagging
use Rattle.ds_machine.specs.TurnSteps as steps
use Rattle.run_ahead.specs.ToEndLaws.{TurnIsOne, TurnsAreOne}
use Rattle.run_ahead.specs.declared.turns.Turned as turned
use Rattle.run_ahead.specs.declared.turns.Turned.TheVariants as answers

-- A turn with a limit is one, and so are turns up to their end.

-- ---- steps one after another, of which each is one

data Chain {S : Type 0} (Step : S → S → Type 0) : S → S → Type 0 where
  none : (s : S) → Chain Step s s
  more : (start before now : S) → Chain Step start before → Step before now → Chain Step start now

module _ {S : Type 0} (Step : S → S → Type 0) (one : (s a b : S) → Step s a → Step s b → a ≡ b) where
  -- nothing, or a first step and the rest
  abbrev Begins : S → S → Type 0
  Begins s now = (now ≡ s) ⊎ ((next : S) × Step s next × Chain Step next now)

  begins : (s now : S) → Chain Step s now → Begins s now
  begins s now (none _) = inl refl
  begins s now (more start before _ earlier last) = elim (begins start before earlier) [
    | inl same ↦ inr (now, subst (λ (x : S). Step x now) same last, none now)
    | inr k ↦ inr (k.0, k.1, more k.0 before now k.2 last)
  ]

  -- of two chains one goes on where the other ends
  reach : (s a b : S) → Chain Step s a → Chain Step s b → Chain Step a b ⊎ Chain Step b a
  reach s a b (none _) other = inl other
  reach s a b (more start before _ earlier last) other = elim (reach start before b earlier other) [
    | inr back ↦ inr (more b before a back last)
    | inl on ↦ elim (begins before b on) [
      | inl same ↦ inr (subst (λ (x : S). Chain Step x a) (sym same) (more before before a (none before) last))
      | inr k ↦ inl (subst (λ (x : S). Chain Step x b) (one before k.0 a k.1 last) k.2)
    ]
  ]

  ends : (a b : S) → Chain Step a b → ((next : S) → Step a next → ⊥) → b ≡ a
  ends a b chain over = elim (begins a b chain) [ inl same ↦ same | inr k ↦ absurd (over k.0 k.1) ]

  -- so they end at one state
  same_end : (s a b : S) → Chain Step s a → Chain Step s b → ((next : S) → Step a next → ⊥) → ((next : S) → Step b next → ⊥) → a ≡ b
  same_end s a b first second over over₂ = elim (reach s a b first second) [ inl on ↦ sym (ends a b on over) | inr back ↦ ends b a back over₂ ]

-- ---- geometry catches up in one way

abbrev GeometrySteps : ℕ → ℕ → MachineState → MachineState → Type 0
GeometrySteps tick rank s next = (is_behind tick rank s ≡ true) × (reference_step geometry_rank s ≡ Makes next [])

geometry_chain : (tick rank : ℕ) (s now : MachineState) → TakesGeometry tick rank s now → Chain (GeometrySteps tick rank) s now
geometry_chain tick rank s now (lagging.no_geometry _) = none s
geometry_chain tick rank s now (lagging.more_geometry start before _ earlier behind h) = more start before now (geometry_chain tick rank start before earlier) (behind, h)

caught_one : (tick rank : ℕ) (s a b : MachineState) → CatchesUp tick rank s a → CatchesUp tick rank s b → a ≡ b
caught_one tick rank s a b first second =
    same_end (GeometrySteps tick rank) (λ m x y p q. (same_makes x y [] [] (sym p.1 ∙ q.1)).0) s a b (geometry_chain tick rank s a first.steps) (geometry_chain tick rank s b second.steps)
    (λ next p. true≢false (sym p.0 ∙ first.level)) (λ next p. true≢false (sym p.0 ∙ second.level))

caught_if_one : (observes : Bool) (tick rank : ℕ) (s a b : MachineState) → CatchesUpIf observes tick rank s a → CatchesUpIf observes tick rank s b → a ≡ b
caught_if_one true tick rank s a b first second = caught_one tick rank s a b first second
caught_if_one false tick rank s a b first second = first ∙ sym second

-- so a step after it comes to one thing
abbrev Comes : ℕ → ℕ → MachineState → MachineStep MachineState Shown LeftOut → Type 0
Comes tick rank s came = (caught : MachineState) × CatchesUpFor tick rank s caught × (reference_step rank caught ≡ came)

comes_one : (tick rank : ℕ) (s : MachineState) (a b : MachineStep MachineState Shown LeftOut) → Comes tick rank s a → Comes tick rank s b → a ≡ b
comes_one tick rank s a b first second =
    sym first.2 ∙ ap (reference_step rank) (caught_if_one (observes_by (actor_of rank) s) tick rank s first.0 second.0 first.1 second.1) ∙ second.2

-- ---- a processor takes its steps in one way

abbrev OwnStep : ℕ → Proc → MachineState → MachineState → Type 0
OwnStep until proc s next = BelongsToTurn until s proc × Comes (processor_of s proc).due (rank_of proc) s (Makes next [])

own_chain : (until : ℕ) (proc : Proc) (s now : MachineState) → TakesSteps until proc s now → Chain (OwnStep until proc) s now
own_chain until proc s now (steps.no_steps _) = none s
own_chain until proc s now (steps.more_steps start before caught _ earlier belongs catches h) =
    more start before now (own_chain until proc start before earlier) (belongs, (caught, catches, h))

-- how they end: none belongs to the turn, or one stops
abbrev LastOwn : ℕ → Proc → MachineState → MachineStep MachineState Shown LeftOut → Type 0
LastOwn until proc before (Makes next outs) = (next ≡ before) × (outs ≡ []) × ¬ BelongsToTurn until before proc
LastOwn until proc before (Stops left next) = BelongsToTurn until before proc × Comes (processor_of before proc).due (rank_of proc) before (Stops left next)

module _ (until : ℕ) (proc : Proc) where
  own_one : (s a b : MachineState) → OwnStep until proc s a → OwnStep until proc s b → a ≡ b
  own_one s a b first second = (same_makes a b [] [] (comes_one (processor_of s proc).due (rank_of proc) s (Makes a []) (Makes b []) first.1 second.1)).0

  none_after : (before : MachineState) (came : MachineStep MachineState Shown LeftOut) → LastOwn until proc before came → (next : MachineState) → OwnStep until proc before next → ⊥
  none_after before (Makes now outs) last next step = last.2 step.0
  none_after before (Stops left now) last next step =
      not_both next now [] left (comes_one (processor_of before proc).due (rank_of proc) before (Makes next []) (Stops left now) step.1 last.1)

  last_one : (before : MachineState) (a b : MachineStep MachineState Shown LeftOut) → LastOwn until proc before a → LastOwn until proc before b → a ≡ b
  last_one before (Makes x xs) (Makes y ys) first second =
      ap (λ (m : MachineState). (let came : MachineStep MachineState Shown LeftOut = Makes m xs in came)) (first.0 ∙ sym second.0)
      ∙ ap (λ (o : List Shown). (let came : MachineStep MachineState Shown LeftOut = Makes y o in came)) (first.1 ∙ sym second.1)
  last_one before (Makes x xs) (Stops left y) first second = absurd (first.2 second.0)
  last_one before (Stops left x) (Makes y ys) first second = absurd (second.2 first.0)
  last_one before (Stops left x) (Stops stop y) first second =
      comes_one (processor_of before proc).due (rank_of proc) before (Stops left x) (Stops stop y) first.1 second.1

-- ---- a machine's turn, by what it comes to

record EventComes (until : ℕ) (s : MachineState) (came : MachineStep MachineState Shown LeftOut) : Type 0 where
  pub tick : Tick
  pub rank : ℕ
  pub least : IsLeast (acting_dues s) tick rank
  pub event : rank < rank_of Nine
  pub below : tick.0 < until
  pub comes : Comes tick.0 rank s came

record StretchComes (until : ℕ) (s : MachineState) (came : MachineStep MachineState Shown LeftOut) : Type 0 where
  pub proc : Proc
  pub tick : Tick
  pub least : IsLeast (acting_dues s) tick (rank_of proc)
  pub below : tick.0 < until
  pub before : MachineState
  pub steps : TakesSteps until proc s before
  pub last : LastOwn until proc before came

record QuietComes (until : ℕ) (s : MachineState) (came : MachineStep MachineState Shown LeftOut) : Type 0 where
  pub next : MachineState
  pub is : came ≡ Makes next []
  pub takes : TakesQuiet until s next

abbrev TurnComes : ℕ → MachineState → MachineStep MachineState Shown LeftOut → Type 0
TurnComes until s came = EventComes until s came ⊎ (StretchComes until s came ⊎ QuietComes until s came)

module _ (until : ℕ) (s : MachineState) (a b : MachineStep MachineState Shown LeftOut) where
  events_one : EventComes until s a → EventComes until s b → a ≡ b
  events_one x y =
      let k = least_unique (acting_dues s) x.tick x.rank y.tick y.rank x.least y.least in
      let P : ℕ → Type 0 = λ r. Comes x.tick.0 r s a in
      let Q : Tick → Type 0 = λ t. Comes t.0 y.rank s a in
      comes_one y.tick.0 y.rank s a b (subst Q k.0 (subst P k.1 x.comes)) y.comes

  stretches_one : StretchComes until s a → StretchComes until s b → a ≡ b
  stretches_one x y = by_proc x.proc y.proc (least_unique (acting_dues s) x.tick (rank_of x.proc) y.tick (rank_of y.proc) x.least y.least).1 x.before y.before x.steps y.steps x.last y.last where
    of_one : (proc : Proc) (p q : MachineState) → TakesSteps until proc s p → TakesSteps until proc s q → LastOwn until proc p a → LastOwn until proc q b → a ≡ b
    of_one proc p q first second last last₂ =
        let same = same_end (OwnStep until proc) (own_one until proc) s p q (own_chain until proc s p first) (own_chain until proc s q second) (none_after until proc p a last)
        (none_after until proc q b last₂) in
        last_one until proc q a b (subst (λ (m : MachineState). LastOwn until proc m a) same last) last₂

    by_proc : (one two : Proc) → rank_of one ≡ rank_of two → (p q : MachineState) → TakesSteps until one s p → TakesSteps until two s q → LastOwn until one p a → LastOwn until two q b
        → a ≡ b
    by_proc Nine Nine e p q first second last last₂ = of_one Nine p q first second last last₂
    by_proc Seven Seven e p q first second last last₂ = of_one Seven p q first second last last₂
    by_proc Nine Seven e p q first second last last₂ = absurd (omega (arith, e))
    by_proc Seven Nine e p q first second last last₂ = absurd (omega (arith, e))

  quiets_one : QuietComes until s a → QuietComes until s b → a ≡ b
  quiets_one x y =
      x.is ∙ ap (λ (m : MachineState). (let came : MachineStep MachineState Shown LeftOut = Makes m [] in came)) (caught_one until 0 s x.next y.next x.takes.catches y.takes.catches) ∙ sym y.is

  high : (proc : Proc) → rank_of Nine ≤ rank_of proc
  high Nine = omega arith
  high Seven = omega arith

  event_or_stretch : EventComes until s a → StretchComes until s b → ⊥
  event_or_stretch x y =
      let same = (least_unique (acting_dues s) x.tick x.rank y.tick (rank_of y.proc) x.least y.least).1 in
      let low = x.event in
      let is_high = high y.proc in
      omega (arith, same, low, is_high)

  acts_or_quiet : (tick : Tick) (rank : ℕ) → IsLeast (acting_dues s) tick rank → tick.0 < until → IsOver (acting_dues s) until → ⊥
  acts_or_quiet tick rank least below over = let le = over rank tick least.there in omega (arith, le, below)

comes_once : (until : ℕ) (s : MachineState) (a b : MachineStep MachineState Shown LeftOut) → TurnComes until s a → TurnComes until s b → a ≡ b
comes_once until s a b first second = elim first [
  | inl x ↦ elim second [
    | inl y ↦ events_one until s a b x y
    | inr other ↦ elim other [
      | inl y ↦ absurd (event_or_stretch until s a b x y)
      | inr y ↦ absurd (acts_or_quiet until s a b x.tick x.rank x.least x.below y.takes.none)
    ]
  ]
  | inr rest ↦ elim rest [
    | inl x ↦ elim second [
      | inl y ↦ absurd (event_or_stretch until s b a y x)
      | inr other ↦ elim other [
        | inl y ↦ stretches_one until s a b x y
        | inr y ↦ absurd (acts_or_quiet until s a b x.tick (rank_of x.proc) x.least x.below y.takes.none)
      ]
    ]
    | inr x ↦ elim second [
      | inl y ↦ absurd (acts_or_quiet until s a b y.tick y.rank y.least y.below x.takes.none)
      | inr other ↦ elim other [
        | inl y ↦ absurd (acts_or_quiet until s a b y.tick (rank_of y.proc) y.least y.below x.takes.none)
        | inr y ↦ quiets_one until s a b x y
      ]
    ]
  ]
]

-- nothing is due below the limit where none is taken
none_comes : (until : ℕ) (s : MachineState) (came : MachineStep MachineState Shown LeftOut) → IsOver (dues_of s) until → TurnComes until s came → ⊥
none_comes until s came over comes = elim comes [
  | inl x ↦ acts x.tick x.rank x.least x.below
  | inr rest ↦ elim rest [
    | inl x ↦ acts x.tick (rank_of x.proc) x.least x.below
    | inr x ↦
        (let k = behind_is until 0 s x.takes.some in
        let le = over geometry_rank k.next (due_of_rank s geometry_rank (omega arith) ∙ k.due) in
        elim k.earlier [ inl lt ↦ omega (arith, lt, le) | inr same ↦ (let low = same.1 in omega (arith, low)) ])
  ]
] where
  acts : (tick : Tick) (rank : ℕ) → IsLeast (acting_dues s) tick rank → tick.0 < until → ⊥
  acts tick rank least below = let le = over rank tick (due_where_acts s rank tick least.there) in omega (arith, le, below)

-- ---- a console's turn, by its machine's

event_comes : (until : ℕ) (old new : MachineState) (outs : List Shown) → TakesEvent until old outs new → TurnComes until old (Makes new outs)
event_comes until old new outs t =
    (let acting = t.0 in
    inl (record {
      tick = acting.tick;
      rank = acting.rank;
      least = acting.least;
      event = t.1;
      below = acting.below;
      comes = (acting.caught, acting.catches, acting.step);
    }))

stretch_comes : (until : ℕ) (old new : MachineState) → TakesStretch until old new → TurnComes until old (Makes new [])
stretch_comes until old new t =
    inr (inl (record { proc = t.proc; tick = t.tick; least = t.least; below = t.below; before = new; steps = t.steps; last = (refl, refl, t.longest) }))

quiet_comes : (until : ℕ) (old new : MachineState) → TakesQuiet until old new → TurnComes until old (Makes new [])
quiet_comes until old new t = inr (inr (record { next = new; is = refl; takes = t }))

stop_comes : (until : ℕ) (old new : MachineState) (left : LeftOut) → MeetsStop until old left new → TurnComes until old (Stops left new)
stop_comes until old new left t = elim t [
  | inl e ↦
      (let acting = e.0 in
      inl (record {
        tick = acting.tick;
        rank = acting.rank;
        least = acting.least;
        event = e.1;
        below = acting.below;
        comes = (acting.caught, acting.catches, acting.step);
      }))
  | inr k ↦ inr (inl (record { proc = k.proc; tick = k.tick; least = k.least; below = k.below; before = k.before; steps = k.steps; last = (k.belongs, (k.caught, k.catches, k.step)) }))
]

ran_comes : (until : ℕ) (old new : ConsoleState) → Turns until old answers.Ran new → TurnComes until old.machine (Makes new.machine [])
ran_comes until old new t = elim t.1 [
  | inl event ↦ event_comes until old.machine new.machine [] event
  | inr other ↦ elim other [ inl stretch ↦ stretch_comes until old.machine new.machine stretch | inr quiet ↦ quiet_comes until old.machine new.machine quiet ]
]

-- after a stop it does nothing
pub stopped_is : (until : ℕ) (old new : ConsoleState) (left : LeftOut) → old.stopped ≡ Some left → (answer : turned.Turned) → Turns until old answer new → (answer ≡ answers.Stopped left) × (new ≡ old)
stopped_is until old new left is answers.Ran t = absurd (none-some left (sym t.0 ∙ is))
stopped_is until old new left is (answers.Frame swapped) t = absurd (none-some left (sym t.0 ∙ is))
stopped_is until old new left is answers.AtEnd t = absurd (none-some left (sym t.0 ∙ is))
stopped_is until old new left is (answers.Stopped stop) t =
    let k = t.1 (subst (λ (o : Option LeftOut). IsSome o) (sym is) refl) in
    (ap (λ (l : LeftOut). (let a : turned.Turned = answers.Stopped l in a)) (same_Some stop left (sym k.0 ∙ is)), k.1)

-- what a machine's turn comes to, if it takes one, tells the answer and the console
abbrev Came : Type 0
Came = Option (MachineStep MachineState Shown LeftOut)

answer_in : Came → turned.Turned
answer_in None = answers.AtEnd
answer_in (Some (Makes next [])) = answers.Ran
answer_in (Some (Makes next (shown ∷ rest))) = answers.Frame shown.swapped
answer_in (Some (Stops left next)) = answers.Stopped left

module _ (until : ℕ) (old : ConsoleState) where
  console_after : Came → ConsoleState
  console_after None = run_to old until old.machine
  console_after (Some (Makes next outs)) = one_more_turn (run_to old until next)
  console_after (Some (Stops left next)) = record (run_to old until next) { stopped = Some left }

  abbrev ComesAs : Came → Type 0
  ComesAs None = IsOver (dues_of old.machine) until
  ComesAs (Some came) = TurnComes until old.machine came

  as_one : (a b : Came) → ComesAs a → ComesAs b → a ≡ b
  as_one None None first second = refl
  as_one None (Some b) first second = absurd (none_comes until old.machine b first second)
  as_one (Some a) None first second = absurd (none_comes until old.machine a second first)
  as_one (Some a) (Some b) first second = ap (λ (c : MachineStep MachineState Shown LeftOut). (let o : Came = Some c in o)) (comes_once until old.machine a b first second)

  record Told (answer : turned.Turned) (new : ConsoleState) : Type 0 where
    pub came : Came
    pub comes : ComesAs came
    pub answers_so : answer ≡ answer_in came
    pub leaves : new ≡ console_after came

  told : (answer : turned.Turned) (new : ConsoleState) → old.stopped ≡ None → Turns until old answer new → Told answer new
  unfolding answer_in console_after
  told answers.Ran new open_ t = record { came = Some (Makes new.machine []); comes = ran_comes until old new t; answers_so = refl; leaves = t.2 }
  told (answers.Frame swapped) new open_ t =
      let outs : List Shown = next_shown old.machine new.machine swapped ∷ [] in
      record { came = Some (Makes new.machine outs); comes = event_comes until old.machine new.machine outs t.1; answers_so = refl; leaves = t.2 }
  told answers.AtEnd new open_ t = record { came = None; comes = t.1; answers_so = refl; leaves = t.2 }
  told (answers.Stopped left) new open_ t =
      let k = t.0 open_ in record { came = Some (Stops left new.machine); comes = stop_comes until old.machine new.machine left k.0; answers_so = refl; leaves = k.1 }

  told_one : (a b : turned.Turned) (new new₂ : ConsoleState) → Told a new → Told b new₂ → (a ≡ b) × (new ≡ new₂)
  told_one a b new new₂ first second =
      let same = as_one first.came second.came first.comes second.comes in
      (first.answers_so ∙ ap answer_in same ∙ sym second.answers_so, first.leaves ∙ ap console_after same ∙ sym second.leaves)

pub turn_is_one : TurnIsOne
turn_is_one until old new new₂ a b first second = by_stop old.stopped refl where
  by_stop : (stop : Option LeftOut) → old.stopped ≡ stop → (a ≡ b) × (new ≡ new₂)
  by_stop None e = told_one until old a b new new₂ (told until old a new e first) (told until old b new₂ e second)
  by_stop (Some left) e = (let x = stopped_is until old new left e a first in let y = stopped_is until old new₂ left e b second in (x.0 ∙ sym y.0, x.1 ∙ sym y.1))

-- ---- and so with turns up to their end

-- how they end where a turn doesn't count
abbrev end_of : turned.Turned → ConsoleState → Ending MachineState LeftOut
end_of (answers.Stopped left) new = runs.Stopped left
end_of _ new = At new.machine

-- the first of them, and the rest
record Opens (until : ℕ) (c : ConsoleState) (end : Ending MachineState LeftOut) (last : ConsoleState) : Type 0 where
  pub answer : turned.Turned
  pub next : ConsoleState
  pub first : Turns until c answer next
  pub rest : ((counted_of answer ≡ 1) × TurnsToEnd until next end last) ⊎ ((counted_of answer ≡ 0) × (end ≡ end_of answer next) × (last ≡ next))

opens : (until : ℕ) (c last : ConsoleState) (end : Ending MachineState LeftOut) → TurnsToEnd until c end last → Opens until c end last
opens until c last end (at_end _ new t) = record { answer = answers.AtEnd; next = new; first = t; rest = inr (refl, refl, refl) }
opens until c last end (meets_stop _ new left t) = record { answer = answers.Stopped left; next = new; first = t; rest = inr (refl, refl, refl) }
opens until c last end (counts _ next _ a _ one t rest) = record { answer = a; next = next; first = t; rest = inl (one, rest) }

not_one : (a b : turned.Turned) → a ≡ b → counted_of a ≡ 0 → counted_of b ≡ 1 → ⊥
not_one a b same adds_none one = let e = ap counted_of same in omega (arith, e, adds_none, one)

last_turn : (until : ℕ) (c new last : ConsoleState) (end : Ending MachineState LeftOut) (a : turned.Turned) → Turns until c a new → counted_of a ≡ 0 → TurnsToEnd until c end last
    → (end_of a new ≡ end) × (new ≡ last)
last_turn until c new last end a t adds_none second =
    let k = opens until c last end second in
    let s = turn_is_one until c new k.next a k.answer t k.first in
    elim k.rest [
      | inl on ↦ absurd (not_one a k.answer s.0 adds_none on.0)
      | inr over ↦ (ap (λ (x : turned.Turned). end_of x new) s.0 ∙ ap (end_of k.answer) s.1 ∙ sym over.1, s.1 ∙ sym over.2)
    ]

pub turns_are_one : TurnsAreOne
turns_are_one until c last last₂ end end₂ (at_end _ new t) second = last_turn until c new last₂ end₂ answers.AtEnd t refl second
turns_are_one until c last last₂ end end₂ (meets_stop _ new left t) second = last_turn until c new last₂ end₂ (answers.Stopped left) t refl second
turns_are_one until c last last₂ end end₂ (counts _ next _ a _ one t rest) second =
    let k = opens until c last₂ end₂ second in
    let s = turn_is_one until c next k.next a k.answer t k.first in
    elim k.rest [
      | inl on ↦ turns_are_one until next last last₂ end end₂ rest (subst (λ (x : ConsoleState). TurnsToEnd until x end₂ last₂) (sym s.1) on.1)
      | inr over ↦ absurd (not_one k.answer a (sym s.0) over.0 one)
    ]
