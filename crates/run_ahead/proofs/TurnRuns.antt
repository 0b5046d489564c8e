use Rattle.run_ahead.proofs.Words.{At, ConsoleState, EachRan, Ending, GoesOn, HasTurned, IsSome, IsSound, LeftOut, List, MachineState, None, Option}
use Rattle.run_ahead.proofs.Words.{Runs, Shown, Some, Turns, TurnsToEnd, [], ap, append-nil, append_assoc, arith, at_end, counted_of, counts, max}
use Rattle.run_ahead.proofs.Words.{meets_stop, none-some, reference, refl, same_Some, shown_in, subst, sym, ℕ, ◌++◌, ◌∙◌, ◌≡◌, ◌≤◌}
use Rattle.ds_runs.specs.Runs as runs
use Rattle.run_ahead.specs.ToEndLaws.{TurnsEndAsRuns, TurnsKeepRuns, TurnsOn, TurnsStopAsRuns, no_turn_on, one_turn_on}
use Rattle.run_ahead.specs.Turns as one_limit
use Rattle.run_ahead.specs.declared.turns.Turned as turned
use Rattle.run_ahead.specs.declared.turns.Turned.TheVariants as answers
use Rattle.run_ahead.proofs.TurnExists.{GoesFurther, further}
use Rattle.run_ahead.proofs.TurnLaws.{runs_on}
use Rattle.run_ahead.proofs.TurnsAreOne.{stopped_is}

-- What turns one after another say of the reference run.

-- a turn that doesn't stop, of a console that hasn't stopped
record LeadsOn (until : ℕ) (old new : ConsoleState) (a : turned.Turned) : Type 0 where
  pub still : GoesFurther new
  pub goes : GoesOn until old.machine new.machine (shown_in a old.machine new.machine)
  pub limit : new.limit ≡ max old.limit until

leads_on : (until : ℕ) (old new : ConsoleState) (a : turned.Turned) → GoesFurther old → Turns until old a new → new.stopped ≡ None → LeadsOn until old new a
leads_on until old new answers.Ran so t open_ = record {
  still = further until old new answers.Ran so.sound t refl;
  goes = runs_on until old answers.Ran new (λ no_turn_on. so.sound) t so.still_open;
  limit = ap (λ (x : ConsoleState). x.limit) t.2;
}
leads_on until old new (answers.Frame swapped) so t open_ = record {
  still = further until old new (answers.Frame swapped) so.sound t refl;
  goes = runs_on until old (answers.Frame swapped) new (λ no_turn_on. so.sound) t so.still_open;
  limit = ap (λ (x : ConsoleState). x.limit) t.2;
}
leads_on until old new answers.AtEnd so t open_ =
    let same : new.machine ≡ old.machine = ap (λ (x : ConsoleState). x.machine) t.2 in
    record {
      still = record { still_open = open_; sound = subst IsSound (sym same) so.sound };
      goes = λ limit le end outs run. subst (λ (m : MachineState). Runs reference limit end m outs) same run;
      limit = ap (λ (x : ConsoleState). x.limit) t.2;
    }
leads_on until old new (answers.Stopped left) so t open_ =
    absurd (none-some left (sym open_ ∙ ap (λ (x : ConsoleState). x.stopped) (t.0 so.still_open).1))

-- ---- with one limit, up to the end

pub turns_end_as_runs : TurnsEndAsRuns
turns_end_as_runs until c last end open_ sound (at_end _ new t) =
    let same : new.machine ≡ c.machine = ap (λ (x : ConsoleState). x.machine) t.2 in
    ([], subst (λ (m : MachineState). Runs reference until (At m) c.machine []) (sym same) (runs_on until c answers.AtEnd new (λ no_turn_on. sound) t open_))
turns_end_as_runs until c last end open_ sound (meets_stop _ new left t) = ([], runs_on until c (answers.Stopped left) new (λ no_turn_on. sound) t open_)
turns_end_as_runs until c last end open_ sound (counts _ next _ a _ one t rest) =
    let still = further until c next a sound t one in
    let k = leads_on until c next a (record { still_open = open_; sound = sound }) t still.still_open in
    let more = turns_end_as_runs until next last end still.still_open still.sound rest in
    (shown_in a c.machine next.machine ++ more.0, k.goes until (omega arith) end more.0 more.1)

-- what ran on goes to the end that is left
pub ran_to_end : (until : ℕ) (start now last : ConsoleState) (end : Ending MachineState LeftOut) (t : HasTurned until start now) → EachRan t → TurnsToEnd until now end last
    → TurnsToEnd until start end last
ran_to_end until start now last end (one_limit.no_turn _) each rest = rest
ran_to_end until start now last end (one_limit.one_turn _ before _ a earlier t) each rest =
    ran_to_end until start before last end earlier each.0 (counts before now last a end (ap counted_of each.1) t rest)

-- ---- with a limit each

-- a run that stops below a limit stops below a later one
stops_later : (limit later : ℕ) (left : LeftOut) (s : MachineState) (outs : List Shown) → limit ≤ later → Runs reference limit (runs.Stopped left) s outs
    → Runs reference later (runs.Stopped left) s outs
stops_later limit later left s outs le (runs.stops _ after tick rank _ least below halts) = runs.stops s after tick rank left least (omega (arith, below, le)) halts
stops_later limit later left s outs le (runs.more _ _ next tick rank front rest least below goes run) =
    runs.more (runs.Stopped left) s next tick rank front rest least (omega (arith, below, le)) goes (stops_later limit later left next rest le run)

-- what holds after turns none of which stopped
record Along (start now : ConsoleState) (front : List Shown) : Type 0 where
  pub still : GoesFurther now
  pub keeps : (limit : ℕ) → now.limit ≤ limit → (end : Ending MachineState LeftOut) (outs : List Shown) → Runs reference limit end now.machine outs
      → Runs reference limit end start.machine (front ++ outs)

-- a console that hasn't stopped hadn't before
was_open : (until : ℕ) (old new : ConsoleState) (a : turned.Turned) → Turns until old a new → new.stopped ≡ None → old.stopped ≡ None
was_open until old new answers.Ran t open_ = t.0
was_open until old new (answers.Frame swapped) t open_ = t.0
was_open until old new answers.AtEnd t open_ = t.0
was_open until old new (answers.Stopped left) t open_ = by_stop old.stopped refl where
  by_stop : (stop : Option LeftOut) → old.stopped ≡ stop → old.stopped ≡ None
  by_stop None e = e
  by_stop (Some l) e = (let k = t.1 (subst (λ (o : Option LeftOut). IsSome o) (sym e) refl) in sym (ap (λ (x : ConsoleState). x.stopped) k.1) ∙ open_)

along : (start now : ConsoleState) (front : List Shown) → GoesFurther start → TurnsOn start now front → now.stopped ≡ None → Along start now front
along start now front so (no_turn_on _) open_ = record { still = so; keeps = λ limit le end outs run. run }
along start now front so (one_turn_on _ before _ outs until a earlier t) open_ =
    let k = along start before outs so earlier (was_open until before now a t open_) in
    let on = leads_on until before now a k.still t open_ in
    let shown = shown_in a before.machine now.machine in
    record {
      still = on.still;
      keeps = λ limit le end more run.
          (let up = on.limit in
          subst (λ (x : List Shown). Runs reference limit end start.machine x) (sym (append_assoc outs shown more))
          (k.keeps limit (omega (arith, up, le)) end (shown ++ more) (on.goes limit (omega (arith, up, le)) end more run)));
    }

pub turns_keep_runs : TurnsKeepRuns
turns_keep_runs start now front open_ sound turns now_open = (along start now front (record { still_open = open_; sound = sound }) turns now_open).keeps

-- the turn that stops, and those after it, which do nothing
module _ (start before now : ConsoleState) (outs : List Shown) (until : ℕ) (left : LeftOut) (so : GoesFurther start) (earlier : TurnsOn start before outs) (is : now.stopped ≡ Some left) where
  abbrev StopsHere : turned.Turned → Type 0
  StopsHere a = Runs reference now.limit (runs.Stopped left) start.machine (outs ++ shown_in a before.machine now.machine)

  stays_open : now.stopped ≡ before.stopped → before.stopped ≡ None → ⊥
  stays_open same e = none-some left (sym (same ∙ e) ∙ is)

  stops_here : (a : turned.Turned) → Turns until before a now → before.stopped ≡ None → StopsHere a
  stops_here answers.Ran t e = absurd (stays_open (ap (λ (x : ConsoleState). x.stopped) t.2) e)
  stops_here (answers.Frame swapped) t e = absurd (stays_open (ap (λ (x : ConsoleState). x.stopped) t.2) e)
  stops_here answers.AtEnd t e = absurd (stays_open (ap (λ (x : ConsoleState). x.stopped) t.2) e)
  stops_here (answers.Stopped stop) t e =
      let k = t.0 e in
      let limit : now.limit ≡ max before.limit until = ap (λ (x : ConsoleState). x.limit) k.1 in
      let same : stop ≡ left = same_Some stop left (sym (ap (λ (x : ConsoleState). x.stopped) k.1) ∙ is) in
      let so_far = along start before outs so earlier e in
      let run = subst (λ (l : LeftOut). Runs reference until (runs.Stopped l) before.machine []) same (runs_on until before (answers.Stopped stop) now (λ no_turn_on. so_far.still.sound) t e) in
      so_far.keeps now.limit (omega (arith, limit)) (runs.Stopped left) [] (stops_later until now.limit left before.machine [] (omega (arith, limit)) run)

  stopped_before : (a : turned.Turned) → Turns until before a now → (stop : LeftOut) → before.stopped ≡ Some stop
      → (before.stopped ≡ Some left → Runs reference before.limit (runs.Stopped left) start.machine outs) → StopsHere a
  stopped_before a t stop e rec =
      let k = stopped_is until before now stop e a t in
      let run = rec (ap (λ (x : ConsoleState). x.stopped) (sym k.1) ∙ is) in
      let P : List Shown → Type 0 = λ x. Runs reference now.limit (runs.Stopped left) start.machine x in
      let no_turn_on : outs ++ shown_in a before.machine now.machine ≡ outs = ap (λ (x : turned.Turned). outs ++ shown_in x before.machine now.machine) k.0 ∙ append-nil outs in
      subst P (sym no_turn_on) (subst (λ (x : ConsoleState). Runs reference x.limit (runs.Stopped left) start.machine outs) (sym k.1) run)

pub turns_stop_as_runs : TurnsStopAsRuns
turns_stop_as_runs start now front open_ sound (no_turn_on _) left is = absurd (none-some left (sym open_ ∙ is))
turns_stop_as_runs start now front open_ sound (one_turn_on _ before _ outs until a earlier t) left is =
    by_stop before.stopped refl (λ was. turns_stop_as_runs start before outs open_ sound earlier left was) where
      so : GoesFurther start
      so = record { still_open = open_; sound = sound }

      by_stop : (stop : Option LeftOut) → before.stopped ≡ stop → (before.stopped ≡ Some left → Runs reference before.limit (runs.Stopped left) start.machine outs)
          → Runs reference now.limit (runs.Stopped left) start.machine (outs ++ shown_in a before.machine now.machine)
      by_stop None e rec = stops_here start before now outs until left so earlier is a t e
      by_stop (Some stop) e rec = stopped_before start before now outs until left so earlier is a t stop e rec
