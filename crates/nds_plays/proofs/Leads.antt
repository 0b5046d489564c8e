use Rattle.nds_plays.proofs.Words.{Bool, Ending, IsLeast, IsOver, IsSound, LeftOut, List, MachineState, Makes, Nine, Option, Proc, Runs, Seven, Shown}
use Rattle.nds_plays.proofs.Words.{Some, Stopped, Stops, TakesQuiet, Tick, [], ap, append_assoc, arith, due_at, dues_of, false, if◌then◌else◌, inl}
use Rattle.nds_plays.proofs.Words.{inr, least_unique, more, nat_eq, nat_lt, not_both, option_to_list, over, reference, refl, run_lines, same_makes}
use Rattle.nds_plays.proofs.Words.{seen_line, seen_of, step_lines, stops, subst, sym, true, ℕ, ◌*◌, ◌++◌, ◌+◌, ◌<◌, ◌∙◌, ◌∷◌, ◌≡◌, ◌≤◌}
use Rattle.run_ahead.specs.TickTurns.{IsTickBefore, StopsActing, TakesActing}
use Rattle.ds_runs.specs.Actors.{actor_of}
use Rattle.ds_machine.specs.Acting.{acting_dues}
use Rattle.ds_machine.specs.Hearing.{geometry_rank}
use Rattle.ds_machine.specs.Lagging.{CatchesUp, CatchesUpIf, ComesBeforeAll, TakesGeometry, observes_by}
use Rattle.ds_machine.specs.Lagging as lagging
use Rattle.ds_machine.specs.Private.{rank_of}
use Rattle.ds_machine.specs.Reference.{processor_due, reference_step}
use Rattle.ds_machine.specs.declared.answers.Seen.{Seen}
use Rattle.ds_machine.proofs.ActingDues.{acting_low, acting_processor}
use Rattle.ds_machine.proofs.CatchingUp.{CaughtSo, behind_steps, caught_least, caught_so, comes_first, still_before}
use Rattle.ds_machine.proofs.SameTick.{CrossesGeometry, StopsAfterGeometry, WaitsForGeometry, made_then, stopped_then}
use Rattle.run_ahead.proofs.StepTurns.{before_all}
use Rattle.run_ahead.proofs.TickTurns.{acts_at_it}
use Rattle.nds_plays.specs.TraceParts.{IsLineDue, TakesTick}
use Rattle.ds_machine.proofs.SeenSame.{seen_same}

-- What a turn of one tick says of the lines of a run: a run from after it goes on from before it, with the line of the turn's step first.

-- ---- lines

no_match : (proc : Proc) (rank : ℕ) → rank < rank_of Nine → nat_eq rank (rank_of proc) ≡ false
no_match Nine rank lt = grind (arith, lt)
no_match Seven rank lt = grind (arith, lt)

-- no actor but a processor has any
no_line : (proc : Proc) (rank : ℕ) (tick : Tick) (s : MachineState) → rank < rank_of Nine → step_lines proc rank tick s ≡ []
no_line proc rank tick s lt = ap (λ (b : Bool). if b then seen_line proc tick.0 (seen_of s proc) ∷ [] else []) (no_match proc rank lt)

same_rank : (rank other : ℕ) → nat_eq rank other ≡ true → rank ≡ other
same_rank rank other h = grind (arith, h)

due_by_rank : (s : MachineState) (proc : Proc) (rank : ℕ) (tick : Tick) → due_at (acting_dues s) rank ≡ Some tick → nat_eq rank (rank_of proc) ≡ true → processor_due s proc ≡ Some tick
due_by_rank s Nine rank tick acts is = sym (acting_processor s Nine) ∙ ap (due_at (acting_dues s)) (sym (same_rank rank (rank_of Nine) is)) ∙ acts
due_by_rank s Seven rank tick acts is = sym (acting_processor s Seven) ∙ ap (due_at (acting_dues s)) (sym (same_rank rank (rank_of Seven) is)) ∙ acts

-- an actor's line is the same after steps of quiet geometry
line_same : (proc : Proc) (rank : ℕ) (tick : Tick) (s now : MachineState) → CaughtSo s now → due_at (acting_dues s) rank ≡ Some tick → step_lines proc rank tick now ≡ step_lines proc rank tick s
line_same proc rank tick s now so acts = by_match (nat_eq rank (rank_of proc)) refl where
  by_match : (b : Bool) → nat_eq rank (rank_of proc) ≡ b
      → (if b then seen_line proc tick.0 (seen_of now proc) ∷ [] else []) ≡ (if b then seen_line proc tick.0 (seen_of s proc) ∷ [] else [])
  by_match true is = ap (λ (seen : Seen). (let lines : List (List ℕ) = seen_line proc tick.0 seen ∷ [] in lines)) (seen_same s now proc tick so (due_by_rank s proc rank tick acts is))
  by_match false is = refl

-- ---- a run from a start that goes on as another does, with these lines before its own

pub record GoesOnFrom (until : ℕ) (proc : Proc) (start : MachineState) (told : List (List ℕ)) (end : Ending MachineState LeftOut) (now : MachineState) (outs : List Shown) (run : Runs reference until end now outs) : Type 0 where
  pub all : List Shown
  pub whole : Runs reference until end start all
  pub lines : run_lines proc whole ≡ told ++ run_lines proc run

-- each run goes on so
abbrev pub Leads : ℕ → Proc → MachineState → List (List ℕ) → MachineState → Type 0
Leads until proc start told now = (end : Ending MachineState LeftOut) (outs : List Shown) (run : Runs reference until end now outs) → GoesOnFrom until proc start told end now outs run

pub leads_none : (until : ℕ) (proc : Proc) (s : MachineState) → Leads until proc s [] s
leads_none until proc s end outs run = record { all = outs; whole = run; lines = refl }

pub leads_twice : (until : ℕ) (proc : Proc) (a b c : MachineState) (first second : List (List ℕ)) → Leads until proc a first b → Leads until proc b second c → Leads until proc a (first ++ second) c
leads_twice until proc a b c first second one two end outs run =
    let later = two end outs run in
    let earlier = one end later.all later.whole in
    record {
      all = earlier.all;
      whole = earlier.whole;
      lines = earlier.lines ∙ ap (λ (x : List (List ℕ)). first ++ x) later.lines ∙ sym (append_assoc first second (run_lines proc run));
    }

-- it stops, and has no line
pub record StopsFrom (until : ℕ) (proc : Proc) (s : MachineState) (stop : LeftOut) : Type 0 where
  pub all : List Shown
  pub whole : Runs reference until (Stopped stop) s all
  pub lines : run_lines proc whole ≡ []

module _ (until : ℕ) (proc : Proc) where
  -- ---- the step of the least of all

  least_leads : (s next : MachineState) (tick : Tick) (rank : ℕ) (outs : List Shown) → IsLeast (dues_of s) tick rank → tick.0 < until → reference_step rank s ≡ Makes next outs
      → Leads until proc s (step_lines proc rank tick s) next
  least_leads s next tick rank outs least below makes end rest run = record { all = outs ++ rest; whole = more end s next tick rank outs rest least below makes run; lines = refl }

  -- geometry's has no line
  geometry_leads : (s next : MachineState) (tick : Tick) → IsLeast (dues_of s) tick geometry_rank → tick.0 < until → reference_step geometry_rank s ≡ Makes next [] → Leads until proc s [] next
  geometry_leads s next tick least below makes =
      subst (λ (x : List (List ℕ)). Leads until proc s x next) (no_line proc geometry_rank tick s (omega arith)) (least_leads s next tick geometry_rank [] least below makes)

  takes_lead : (tick rank : ℕ) (s now : MachineState) → IsSound s → ComesBeforeAll tick rank s → 24 * tick + rank ≤ 24 * until → TakesGeometry tick rank s now → Leads until proc s [] now
  takes_lead tick rank s now sound before room (lagging.no_geometry start) = leads_none until proc start
  takes_lead tick rank s now sound before room (lagging.more_geometry start mid next takes behind makes) =
      let k = behind_steps tick rank mid (still_before tick rank start mid sound before takes) behind in
      let earlier = k.earlier in
      leads_twice until proc start mid next [] [] (takes_lead tick rank start mid sound before room takes) (geometry_leads mid next k.next k.least (omega (arith, earlier, room)) makes)

  -- ---- where a run begins with geometry's step

  record Begun (end : Ending MachineState LeftOut) (s next : MachineState) (all : List Shown) (run : Runs reference until end s all) : Type 0 where
    rest : List Shown
    after : Runs reference until end next rest
    lines : run_lines proc run ≡ run_lines proc after

  begun : (end : Ending MachineState LeftOut) (s next : MachineState) (all : List Shown) (due : Tick) → IsLeast (dues_of s) due geometry_rank → due.0 < until → reference_step geometry_rank s ≡ Makes next []
      → (run : Runs reference until end s all) → Begun end s next all run
  begun end s next all due least below makes (over s0 none) = (let le = none geometry_rank due least.there in absurd (omega (arith, le, below)))
  begun end s next all due least below makes (stops s0 after tick rank stop least₁ below₁ halts) =
      let same = least_unique (dues_of s0) tick rank due geometry_rank least₁ least in
      absurd (not_both next after [] stop (sym makes ∙ subst (λ (r : ℕ). reference_step r s0 ≡ Stops stop after) same.1 halts))
  begun end s next all due least below makes (more end₀ s0 mid tick rank outs rest least₁ below₁ goes run) =
      let same = least_unique (dues_of s0) tick rank due geometry_rank least₁ least in
      let both = same_makes mid next outs [] (sym (subst (λ (r : ℕ). reference_step r s0 ≡ Makes mid outs) same.1 goes) ∙ makes) in
      let told = no_line proc rank tick s0 (let its = same.1 in omega (arith, its)) in
      let whole : Runs reference until end₀ s0 (outs ++ rest) = more end₀ s0 mid tick rank outs rest least₁ below₁ goes run in
      let here : Begun end₀ s0 mid (outs ++ rest) whole = record { rest = rest; after = run; lines = ap (λ (x : List (List ℕ)). x ++ run_lines proc run) told } in
      subst (λ (m : MachineState). Begun end₀ s0 m (outs ++ rest) whole) both.0 here

  -- ---- the step of the actor that acts

  module _ (s : MachineState) (tick : Tick) (rank : ℕ) (acts : due_at (acting_dues s) rank ≡ Some tick) (below : tick.0 < until) where
    waits_below : (w : WaitsForGeometry s tick rank) → w.due.0 < until
    waits_below w = (let e = w.same in omega (arith, e, below))

    waits_lead : (w : WaitsForGeometry s tick rank) → Leads until proc s [] w.late
    waits_lead w = geometry_leads s w.late w.due w.geometry (waits_below w) w.steps

    crosses_lead : (next : MachineState) (outs : List Shown) → CrossesGeometry s next tick rank outs → Leads until proc s (step_lines proc rank tick s) next
    crosses_lead next outs c end all run =
        let w = c.waits in
        let k = begun end next c.both all w.due c.still (waits_below w) c.last run in
        let told = step_lines proc rank tick w.late in
        let whole = leads_twice until proc s w.late c.both [] told (waits_lead w) (least_leads w.late c.both tick rank outs w.least below c.then) end k.rest k.after in
        record {
          all = whole.all;
          whole = whole.whole;
          lines = whole.lines ∙ ap (λ (x : List (List ℕ)). x ++ run_lines proc k.after) (line_same proc rank tick s w.late w.so acts)
              ∙ ap (λ (x : List (List ℕ)). step_lines proc rank tick s ++ x) (sym k.lines);
        }

    -- it stops
    stops_from : (mid after : MachineState) (stop : LeftOut) → Leads until proc s [] mid → IsLeast (dues_of mid) tick rank → reference_step rank mid ≡ Stops stop after → StopsFrom until proc s stop
    stops_from mid after stop leads least halts =
        let run : Runs reference until (Stopped stop) mid [] = stops mid after tick rank stop least below halts in
        let k = leads (Stopped stop) [] run in
        record { all = k.all; whole = k.whole; lines = k.lines }

    waits_stop : (stop : LeftOut) → StopsAfterGeometry s tick rank stop → StopsFrom until proc s stop
    waits_stop stop k = stops_from k.waits.late k.after stop (waits_lead k.waits) k.waits.least k.then

    place_below : 24 * tick.0 + rank ≤ 24 * until
    place_below = (let low = acting_low s rank tick acts in omega (arith, low, below))

  -- ---- a turn of one tick

  module _ (limit : ℕ) (s : MachineState) (le : limit ≤ until) (sound : IsSound s) (before : IsTickBefore limit s) where
    at_it : (tick : Tick) (rank : ℕ) → IsLeast (acting_dues s) tick rank → tick.0 < limit → before.tick.0 ≡ tick.0
    at_it tick rank least below = (let e = acts_at_it limit s tick rank before least below in let last = before.last in omega (arith, e, last))

    module _ (tick : Tick) (rank : ℕ) (least : IsLeast (acting_dues s) tick rank) (below : tick.0 < limit) where
      below_all : tick.0 < until
      below_all = omega (arith, below, le)

      -- geometry catches up before it
      caught_leads : (caught : MachineState) → CatchesUp tick.0 rank s caught → Leads until proc s [] caught
      caught_leads caught up = takes_lead tick.0 rank s caught sound (comes_first tick rank s least) (place_below s tick rank least.there below_all) up.steps

      acting_leads : (b : Bool) → observes_by (actor_of rank) s ≡ b → (caught next : MachineState) (outs : List Shown) → CatchesUpIf b tick.0 rank s caught
          → reference_step rank caught ≡ Makes next outs → Leads until proc s (step_lines proc rank tick s) next
      acting_leads true e caught next outs up makes =
          let so = caught_so tick.0 rank s caught sound up.steps in
          let step = least_leads caught next tick rank outs (caught_least tick rank s caught sound least up) below_all makes in
          subst (λ (x : List (List ℕ)). Leads until proc s x next) (line_same proc rank tick s caught so least.there)
          (leads_twice until proc s caught next [] (step_lines proc rank tick caught) (caught_leads caught up) step)
      acting_leads false e caught next outs same makes =
          let here = subst (λ (m : MachineState). reference_step rank m ≡ Makes next outs) same makes in
          elim (made_then s tick before.tick before.rank rank sound before.least (at_it tick rank least below) least e next outs here) [
            | inl first ↦ least_leads s next tick rank outs first below_all here
            | inr crosses ↦ crosses_lead s tick rank least.there below_all next outs crosses
          ]

      acting_stops : (b : Bool) → observes_by (actor_of rank) s ≡ b → (caught after : MachineState) (stop : LeftOut) → CatchesUpIf b tick.0 rank s caught
          → reference_step rank caught ≡ Stops stop after → StopsFrom until proc s stop
      acting_stops true e caught after stop up halts =
          stops_from s tick rank least.there below_all caught after stop (caught_leads caught up) (caught_least tick rank s caught sound least up) halts
      acting_stops false e caught after stop same halts =
          let here = subst (λ (m : MachineState). reference_step rank m ≡ Stops stop after) same halts in
          elim (stopped_then s tick before.tick before.rank rank sound before.least (at_it tick rank least below) least e after stop here) [
            | inl first ↦ stops_from s tick rank least.there below_all s after stop (leads_none until proc s) first here
            | inr late ↦ waits_stop s tick rank least.there below_all stop late
          ]

    -- by the line that is due
    below_is : (tick : ℕ) → tick < limit → nat_lt tick limit ≡ true
    below_is tick lt = grind (arith, lt)

    none_below : (tick : ℕ) → limit ≤ tick → nat_lt tick limit ≡ false
    none_below tick le = grind (arith, le)

    line_is : (line : Option (List ℕ)) → IsLineDue limit proc s line → (tick : Tick) (rank : ℕ) → IsLeast (acting_dues s) tick rank → tick.0 < limit
        → option_to_list line ≡ step_lines proc rank tick s
    line_is line due tick rank least below =
        let same = least_unique (acting_dues s) due.acting.tick due.acting.rank tick rank due.acts least in
        due.is ∙ ap (λ (t : Tick). if nat_lt t.0 limit then step_lines proc due.acting.rank t s else []) same.0
        ∙ ap (λ (b : Bool). if b then step_lines proc due.acting.rank tick s else []) (below_is tick.0 below)
        ∙ ap (λ (r : ℕ). step_lines proc r tick s) same.1

    none_is : (line : Option (List ℕ)) → IsLineDue limit proc s line → IsOver (acting_dues s) limit → option_to_list line ≡ []
    none_is line due none =
        due.is ∙ ap (λ (b : Bool). if b then step_lines proc due.acting.rank due.acting.tick s else []) (none_below due.acting.tick.0 (none due.acting.rank due.acting.tick due.acts.there))

    taken_leads : (line : Option (List ℕ)) (next : MachineState) (outs : List Shown) → IsLineDue limit proc s line → TakesActing limit s outs next → Leads until proc s (option_to_list line) next
    taken_leads line next outs due t =
        subst (λ (x : List (List ℕ)). Leads until proc s x next) (sym (line_is line due t.tick t.rank t.least t.below))
        (acting_leads t.tick t.rank t.least t.below (observes_by (actor_of t.rank) s) refl t.caught next outs t.catches t.step)

    quiet_leads : (line : Option (List ℕ)) (next : MachineState) → IsLineDue limit proc s line → TakesQuiet limit s next → Leads until proc s (option_to_list line) next
    quiet_leads line next due t =
        subst (λ (x : List (List ℕ)). Leads until proc s x next) (sym (none_is line due t.none))
        (takes_lead limit 0 s next sound (before_all limit s t.none) (omega (arith, le)) t.catches.steps)

    pub turn_leads : (line : Option (List ℕ)) (next : MachineState) → IsLineDue limit proc s line → TakesTick limit s next → Leads until proc s (option_to_list line) next
    turn_leads line next due took = elim took [ inl t ↦ taken_leads line next t.0 due t.1 | inr t ↦ quiet_leads line next due t ]

    pub turn_stops : (next : MachineState) (stop : LeftOut) → StopsActing limit s stop next → StopsFrom until proc s stop
    turn_stops next stop t = acting_stops t.tick t.rank t.least t.below (observes_by (actor_of t.rank) s) refl t.caught next stop t.catches t.step
