use Rattle.ds_machine.proofs.Words.{CatchesUpFor, ComesBeforeAll, Ending, Geometry, GxState, HasShortRun, HasSoundParts, IsAhead, IsLater, IsLeast}
use Rattle.ds_machine.proofs.Words.{IsOver, IsRunning, IsSound, LeftOut, List, MachineState, Makes, MayAct, MayStep, MovesOn, Nine, None, Option}
use Rattle.ds_machine.proofs.Words.{Proc, Runs, RunsAhead, Seven, Shown, Some, StepsBeforeGeometry, TakesGeometry, Tick, [], actor_of, actors_differ}
use Rattle.ds_machine.proofs.Words.{ap, arith, at_rank, counts_of, due_at, due_of_may, due_of_rank, dues_of, geometry_rank, inl, inr, is_later}
use Rattle.ds_machine.proofs.Words.{last_limit, least_is, least_unique, low_rank, more, next_shown, over, own_remaining, own_tick, place_rises}
use Rattle.ds_machine.proofs.Words.{processor_due, processor_of, rank_of, rank_there, reference, reference_step, refl, run_exists, run_of, same_makes}
use Rattle.ds_machine.proofs.Words.{same_or_not, stepped_of, stops, subst, sym, tick_of, ticks_left, ℕ, ◌*◌, ◌+◌, ◌<◌, ◌^◌, ◌∙◌, ◌∷◌, ◌≡◌, ◌≢◌, ◌≤◌}
use Rattle.ds_machine.proofs.Words.{◌⊎◌}
use Rattle.ds_machine.specs.CountingLaws.{RunsAfter, CountsAddUp, EndsWithin, LimitsRise, StartsRunning, StepsCount, StepsKeepRunning, StopsCountNone}
use Rattle.ds_runs.specs.LastLaws.{LeadsTo, here, step}
use Rattle.ds_runs.specs.declared.actors.Actor as actor
use Rattle.ds_runs.proofs.Lasts.{last_after, last_ahead, last_lags}
use Rattle.ds_machine.specs.Lagging as lagging
use Rattle.ds_machine.specs.declared.answers.Done as answer
use Rattle.ds_machine.specs.declared.answers.Done.TheVariants as answers
use Rattle.ds_machine.proofs.ActingSteps.{Acted, ActedStops, CaughtUp, apart_goes, caught_up}
use Rattle.ds_machine.proofs.ActingDues.{due_where_acts}
use Rattle.ds_machine.proofs.AheadRuns.{ahead_steps, runs_ahead}
use Rattle.ds_machine.proofs.CatchingUp.{behind_steps, still_before}
use Rattle.ds_machine.proofs.CountSteps.{one_more, one_more_as, stop_counts}
use Rattle.ds_machine.proofs.LagLaw.{may_lag}
use Rattle.ds_machine.proofs.MachineSchedule.{Steps, owes_as, reference_schedules, sound_as, step_made_as}
use Rattle.ds_machine.proofs.Moves.{moves_all}
use Rattle.ds_machine.proofs.OuterLaw.{may_run_ahead}
use Rattle.ds_machine.proofs.OwnRemaining.{fewer_left}
use Rattle.ds_machine.proofs.StepsMay.{MayThen, steps_then}
use Rattle.ds_machine.proofs.VertexRuns.{made_run, runs_in}
use Rattle.ds_machine.proofs.VideoEvents.{ended_leaves}

-- A machine that goes on: how many steps it took, by the last state of the reference run.

-- ---- as many at most as up to that state

counts_grow : (limit : ℕ) (s last : MachineState) → LeadsTo reference limit s last → counts_of s ≤ counts_of last
counts_grow limit s last (here s0 ends) = omega arith
counts_grow limit s last (step s0 next last0 tick rank outs least below goes run) =
    let rest = counts_grow limit next last0 run in
    let one = one_more s0 next tick rank outs least goes in
    omega (arith, rest, one)

pub counts_add_up : CountsAddUp
counts_add_up limit s running =
    let room = running.ends limit (omega arith) in
    let grow = counts_grow limit s room.last room.run in
    let few = room.few in
    omega (arith, grow, few)

-- before a step they fit the code
pub few_counts : (s : MachineState) → IsRunning last_limit s → counts_of s ≤ 2 ^ 61
few_counts s running = (let few : counts_of s ≤ 24 * last_limit = counts_add_up last_limit s running in omega (arith, few))

pub few_steps : (proc : Proc) (s : MachineState) → IsRunning last_limit s → (processor_of s proc).steps ≤ 2 ^ 61
few_steps Nine s running = (let few = few_counts s running in omega (arith, few))
few_steps Seven s running = (let few = few_counts s running in omega (arith, few))

pub few_events : (s : MachineState) → IsRunning last_limit s → s.events ≤ 2 ^ 61
few_events s running = (let few = few_counts s running in omega (arith, few))

pub limits_rise : LimitsRise
limits_rise limit later s le running = record { sound = running.sound; ends = λ more above. running.ends more (omega (arith, le, above)); run = running.run }

-- ---- the ticks that are left to the processors

own_falls : (limit : ℕ) (s next : MachineState) (proc : Proc) (t : Tick) → MovesOn (rank_of proc) t (dues_of s) (dues_of next) → t.0 < limit
    → own_remaining limit next proc < own_remaining limit s proc
own_falls limit s next proc t moves lt =
    subst (λ (o : Option Tick). ticks_left limit (processor_due next proc) < ticks_left limit o) (sym moves.there ∙ rank_there s proc)
    (fewer_left limit t (processor_due next proc) lt (subst (IsLater t) (rank_there next proc) moves.later))

own_same : (limit : ℕ) (s next : MachineState) (proc other : Proc) (t : Tick) → MovesOn (rank_of proc) t (dues_of s) (dues_of next) → rank_of other ≢ rank_of proc
    → own_remaining limit next other ≡ own_remaining limit s other
own_same limit s next proc other t moves differs =
    ap (ticks_left limit) (sym (rank_there next other) ∙ moves.others (rank_of other) differs ∙ rank_there s other)

abbrev both_left : ℕ → MachineState → ℕ
both_left limit s = own_remaining limit s Nine + own_remaining limit s Seven

both_fall : (limit : ℕ) (s next : MachineState) (proc : Proc) (t : Tick) → MovesOn (rank_of proc) t (dues_of s) (dues_of next) → t.0 < limit → both_left limit next < both_left limit s
both_fall limit s next Nine t moves lt =
    let falls = own_falls limit s next Nine t moves lt in
    let same = own_same limit s next Nine Seven t moves (λ e. omega (arith, e)) in
    omega (arith, falls, same)
both_fall limit s next Seven t moves lt =
    let falls = own_falls limit s next Seven t moves lt in
    let same = own_same limit s next Seven Nine t moves (λ e. omega (arith, e)) in
    omega (arith, falls, same)

-- ---- room for the steps to come

room_least : (limit : ℕ) (s next : MachineState) (tick : Tick) (rank : ℕ) (outs : List Shown) → IsLeast (dues_of s) tick rank → tick.0 < limit → reference_step rank s ≡ Makes next outs
    → EndsWithin limit s → EndsWithin limit next
room_least limit s next tick rank outs least lt h room =
    record { last = room.last; run = last_after reference limit s room.last next tick rank outs least lt h room.run; few = room.few }

room_lags : (limit : ℕ) (s next : MachineState) (tick : Tick) (rank : ℕ) (outs : List Shown) → StepsBeforeGeometry s rank tick → tick.0 < limit → reference_step rank s ≡ Makes next outs
    → EndsWithin limit s → EndsWithin limit next
room_lags limit s next tick rank outs before lt h room =
    record { last = room.last; run = last_lags reference limit geometry_rank StepsBeforeGeometry may_lag s room.last room.run next rank tick outs before lt h; few = room.few }

room_ahead : (limit : ℕ) (s next : MachineState) (proc : Proc) (tick : Tick) → RunsAhead proc s tick → tick.0 < limit → reference_step (rank_of proc) s ≡ Makes next []
    → EndsWithin limit s → EndsWithin limit next
room_ahead limit s next proc tick ahead lt h room =
    let laws = may_run_ahead s proc in
    let k = last_ahead reference limit (rank_of proc) (RunsAhead proc) laws s room.last room.run next tick ahead lt h in
    elim k.2 [
      | inl same ↦ record { last = k.0; run = k.1; few = subst (λ (m : MachineState). counts_of m + own_remaining limit m Nine + own_remaining limit m Seven ≤ 24 * limit) (sym same) room.few }
      | inr goes ↦
          (let moves = laws.moves room.last k.0 tick goes.0 goes.1 in
          let low = low_rank room.last (rank_of proc) tick moves.there in
          let one = one_more_as room.last k.0 tick (rank_of proc) [] (sym (due_of_rank room.last (rank_of proc) low) ∙ moves.there) goes.1 in
          let falls = both_fall limit room.last k.0 proc tick moves lt in
          let few = room.few in
          record { last = k.0; run = k.1; few = omega (arith, one, falls, few) })
    ]

room_own : (limit : ℕ) (s next : MachineState) (proc : Proc) (tick : Tick) (rank : ℕ) (outs : List Shown) → IsSound s → rank ≡ rank_of proc → IsAhead s proc → due_at (dues_of s) rank ≡ Some tick
    → tick.0 < limit → reference_step rank s ≡ Makes next outs → EndsWithin limit s → EndsWithin limit next
room_own limit s next proc tick rank outs sound is ahead due lt h room =
    let g = ahead_steps s proc sound ahead in
    let makes = subst (λ (r : ℕ). reference_step r s ≡ Makes next outs) is h in
    let k = same_makes g.next next [] outs (sym g.makes ∙ makes) in
    let own = own_tick s proc tick (sym (rank_there s proc) ∙ subst (λ (r : ℕ). due_at (dues_of s) r ≡ Some tick) is due) in
    room_ahead limit s next proc (tick_of (processor_of s proc)) (runs_ahead s proc sound ahead) (subst (λ (t : Tick). t.0 < limit) own lt)
    (subst (λ (m : MachineState). reference_step (rank_of proc) s ≡ Makes m []) k.0 g.makes) room

room_then : (limit : ℕ) (s next : MachineState) (tick : Tick) (rank : ℕ) (outs : List Shown) → IsSound s → due_at (dues_of s) rank ≡ Some tick → MayThen s rank tick → tick.0 < limit
    → reference_step rank s ≡ Makes next outs → EndsWithin limit s → EndsWithin limit next
room_then limit s next tick rank outs sound due may lt h room = elim may [
  | inl least ↦ room_least limit s next tick rank outs least lt h room
  | inr other ↦ elim other [
    | inl acts ↦ elim (apart_goes s tick rank sound acts) [
      | inl least ↦ room_least limit s next tick rank outs least lt h room
      | inr before ↦ room_lags limit s next tick rank outs before lt h room
    ]
    | inr k ↦ room_own limit s next k.0 tick rank outs sound k.1 k.2 due lt h room
  ]
]

-- ---- the vertices of the current run

module _ (s next : MachineState) (tick : Tick) (rank : ℕ) (outs : List Shown) (st : Steps (actor_of rank) rank tick s) (h : reference_step rank s ≡ Makes next outs) (short : HasShortRun s) where
  low : rank < 24
  low = low_rank s rank tick st.there

  moved : (other : ℕ) (at : Tick) → due_at (dues_of next) other ≡ Some at → (due_at (dues_of s) other ≡ Some at) ⊎ (tick.0 < at.0)
  moved other at due = elim (at_rank tick (dues_of s) (dues_of next) (moves_all tick s next (owes_as s next tick rank outs st h).moves) other) [
    | inl same ↦ inl (sym same ∙ due)
    | inr later ↦ inr (is_later tick (due_at (dues_of next) other) at later due)
  ]

  grows : run_of next ≤ run_of s + runs_in (actor_of rank)
  grows =
      let k = step_made_as s next tick rank outs st h in
      let made = made_run (actor_of rank) rank tick s k.0 outs st k.1 in
      let same = ap (λ (g : GxState). g.geometry.numbers.run) (ended_leaves tick k.0).gx in
      let end = ap run_of k.2 in
      omega (arith, made, same, end)

  geometry_at : (m : MachineState) (at : Tick) → m.io.gx.due ≡ Some at → due_at (dues_of m) geometry_rank ≡ Some at
  geometry_at m at due = due_of_rank m geometry_rank (omega arith) ∙ due

  geometry_due : (m : MachineState) (at : Tick) → due_at (dues_of m) geometry_rank ≡ Some at → m.io.gx.due ≡ Some at
  geometry_due m at due = sym (due_of_rank m geometry_rank (omega arith)) ∙ due

  none_in : (a : actor.Actor) → a ≢ Geometry → runs_in a ≡ 0
  none_in Geometry other = absurd (other refl)
  none_in _ other = refl

  short_other : actor_of rank ≢ Geometry → HasShortRun next
  short_other differs =
      let none = none_in (actor_of rank) differs in
      let more = grows in
      let here = short.others rank tick st.there in
      record {
        own = λ at due. elim (moved geometry_rank at (geometry_at next at due)) [
          | inl same ↦ (let few = short.own at (geometry_due s at same) in omega (arith, few, none, more))
          | inr later ↦ omega (arith, here, none, more, later)
        ];
        others = λ other at due. elim (moved other at due) [
          | inl same ↦ (let few = short.others other at same in omega (arith, few, none, more))
          | inr later ↦ omega (arith, here, none, more, later)
        ];
      }

  few_in : (a : actor.Actor) → runs_in a ≤ 1
  few_in Geometry = omega arith
  few_in _ = omega arith

  short_geometry : rank ≡ geometry_rank → IsLeast (dues_of s) tick rank → HasShortRun next
  short_geometry is least =
      let more = grows in
      let one = few_in (actor_of rank) in
      let here = short.own tick (geometry_due s tick (subst (λ (r : ℕ). due_at (dues_of s) r ≡ Some tick) is st.there)) in
      record {
        own = λ at due.
            (let later = is_later tick (due_at (dues_of next) geometry_rank) at (subst (λ (r : ℕ). IsLater tick (due_at (dues_of next) r)) is own_later) (geometry_at next at due) in
            omega (arith, here, one, more, later));
        others = λ other at due. elim (moved other at due) [
          | inl same ↦ elim (least.least other at same) [
            | inl lt ↦ omega (arith, here, one, more, lt)
            | inr e ↦ (let same_tick = e.0 in omega (arith, here, one, more, same_tick))
          ]
          | inr later ↦ omega (arith, here, one, more, later)
        ];
      } where
        own_later : IsLater tick (due_at (dues_of next) rank)
        own_later = subst (IsLater tick) (sym (due_of_rank next rank low)) (owes_as s next tick rank outs st h).own

pub short_least : (s next : MachineState) (tick : Tick) (rank : ℕ) (outs : List Shown) → Steps (actor_of rank) rank tick s → IsLeast (dues_of s) tick rank
    → reference_step rank s ≡ Makes next outs → HasShortRun s → HasShortRun next
short_least s next tick rank outs st least h short = elim (same_or_not rank geometry_rank) [
  | inl is ↦ short_geometry s next tick rank outs st h short is least
  | inr ne ↦ short_other s next tick rank outs st h short (actors_differ geometry_rank rank (omega arith) (low_rank s rank tick st.there) ne)
]

short_then : (s next : MachineState) (tick : Tick) (rank : ℕ) (outs : List Shown) → IsSound s → Steps (actor_of rank) rank tick s → MayThen s rank tick → reference_step rank s ≡ Makes next outs
    → HasShortRun s → HasShortRun next
short_then s next tick rank outs sound st may h short = elim may [
  | inl least ↦ of_least least
  | inr other ↦ elim other [
    | inl acts ↦ elim (apart_goes s tick rank sound acts) [ inl least ↦ of_least least | inr before ↦ short_other s next tick rank outs st h short before.other ]
    | inr k ↦ of_other (not_twelve rank k.0 k.1)
  ]
] where
  not_twelve : (rank : ℕ) (proc : Proc) → rank ≡ rank_of proc → rank ≢ geometry_rank
  not_twelve rank Nine is = λ e. omega (arith, is, e)
  not_twelve rank Seven is = λ e. omega (arith, is, e)

  of_other : rank ≢ geometry_rank → HasShortRun next
  of_other ne = short_other s next tick rank outs st h short (actors_differ geometry_rank rank (omega arith) (low_rank s rank tick st.there) ne)

  of_least : IsLeast (dues_of s) tick rank → HasShortRun next
  of_least least = short_least s next tick rank outs st least h short

-- ---- a step that may be taken

running_then : (limit : ℕ) (s next : MachineState) (tick : Tick) (rank : ℕ) (outs : List Shown) → due_at (dues_of s) rank ≡ Some tick → MayThen s rank tick → tick.0 < limit
    → reference_step rank s ≡ Makes next outs → IsRunning limit s → IsRunning limit next
running_then limit s next tick rank outs due may lt h running =
    let st = steps_then s rank tick running.sound.parts due may in
    record {
      sound = sound_as s next tick rank outs st h;
      ends = λ later le. room_then later s next tick rank outs running.sound due may (omega (arith, lt, le)) h (running.ends later le);
      run = short_then s next tick rank outs running.sound st may h running.run;
    }

pub steps_keep_running : StepsKeepRunning
steps_keep_running limit rank s next outs running may lt h = running_then limit s next may.tick rank outs may.due may.may lt h running

pub runs_after : (s next : MachineState) (rank : ℕ) (done : answer.Done) → IsRunning last_limit s → MayStep s rank → reference_step rank s ≡ stepped_of s done next → RunsAfter done next
runs_after s next rank answers.Made running may h = (let early = may.early in steps_keep_running last_limit rank s next [] running may (omega (arith, early)) h)
runs_after s next rank (answers.Frame swapped) running may h =
    let early = may.early in steps_keep_running last_limit rank s next (next_shown s next swapped ∷ []) running may (omega (arith, early)) h
runs_after s next rank (answers.Stopped left) running may h = tt

-- where geometry steps the current run has room in the code
pub may_fit_run : (s : MachineState) (rank : ℕ) (a : actor.Actor) → MayStep s rank → IsRunning last_limit s → actor_of rank ≡ a → a ≡ Geometry → run_of s ≤ 2 ^ 56
may_fit_run s rank a may running is e =
    let few : run_of s ≤ may.tick.0 = running.run.own may.tick (due_of_may s rank Geometry may (is ∙ e)) in
    let early = may.early in
    omega (arith, few, early)

pub steps_count : StepsCount
steps_count rank s next outs may h = one_more_as s next may.tick rank outs (due_of_may s rank (actor_of rank) may refl) h

pub stops_count_none : StopsCountNone
stops_count_none rank s left stop h = stop_counts s left rank stop h

-- ---- where geometry catches up

pub running_taken : (limit tick rank : ℕ) (s now : MachineState) → ComesBeforeAll tick rank s → ((u : ℕ) → u ≤ tick → 24 * u + geometry_rank < 24 * tick + rank → u < limit)
    → TakesGeometry tick rank s now → IsRunning limit s → IsRunning limit now
running_taken limit tick rank s now before below (lagging.no_geometry start) running = running
running_taken limit tick rank s now before below (lagging.more_geometry start mid next takes behind makes) running =
    let first = running_taken limit tick rank start mid before below takes running in
    let k = behind_steps tick rank mid (still_before tick rank start mid running.sound before takes) behind in
    running_then limit mid next k.next geometry_rank [] k.least.there (inl k.least) (below k.next.0 k.early k.earlier) makes first

running_caught : (limit : ℕ) (s caught : MachineState) (tick : Tick) (rank : ℕ) → CaughtUp s caught tick rank → tick.0 < limit → IsRunning limit s → IsRunning limit caught
running_caught limit s caught tick rank k lt running = elim k.came [
  | inl same ↦ subst (IsRunning limit) (sym same) running
  | inr some ↦ running_taken limit tick.0 rank s caught some.0 (λ u le earlier. omega (arith, le, lt)) some.1 running
]

pub running_before : (limit : ℕ) (s caught : MachineState) (tick : Tick) (rank : ℕ) → MayAct s tick rank → CatchesUpFor tick.0 rank s caught → tick.0 < limit → IsRunning limit s
    → IsRunning limit caught
running_before limit s caught tick rank may catches lt running = running_caught limit s caught tick rank (caught_up s tick rank running.sound caught may catches) lt running

-- ---- a step of a turn

pub running_acted : (limit : ℕ) (s next : MachineState) (tick : Tick) (rank : ℕ) (outs : List Shown) → Acted s next tick rank outs → tick.0 < limit → IsRunning limit s → IsRunning limit next
running_acted limit s next tick rank outs a lt running =
    let k = caught_up s tick rank running.sound a.caught a.may a.catches in
    running_then limit a.caught next tick rank outs (due_where_acts a.caught rank tick k.acts) k.may lt a.makes (running_caught limit s a.caught tick rank k lt running)

-- where it stops the machine there were as few
pub few_where_stops : (limit : ℕ) (s left : MachineState) (tick : Tick) (rank : ℕ) (stop : LeftOut) → ActedStops s left tick rank stop → tick.0 < limit → IsRunning limit s
    → counts_of left ≤ 24 * limit
few_where_stops limit s left tick rank stop a lt running =
    let k = caught_up s tick rank running.sound a.caught a.may a.catches in
    let few = counts_add_up limit a.caught (running_caught limit s a.caught tick rank k lt running) in
    let same = stop_counts a.caught left rank stop a.stops in
    omega (arith, few, same)

-- ---- before the first step

none_left : (limit : ℕ) (due : Option Tick) → ((tick : Tick) → due ≡ Some tick → limit ≤ tick.0) → ticks_left limit due ≡ 0
none_left limit None late = refl
none_left limit (Some tick) late = (let le = late tick refl in omega (arith, le))

over_left : (limit : ℕ) (s : MachineState) (proc : Proc) → IsOver (dues_of s) limit → own_remaining limit s proc ≡ 0
over_left limit s proc none = none_left limit (processor_due s proc) (λ tick due. none (rank_of proc) tick (rank_there s proc ∙ due))

-- a processor that doesn't come before a place below a limit has no more ticks left
pub record FewLeft (limit tick rank own left : ℕ) : Type 0 where
  pub most : left + tick ≤ limit
  pub later : own < rank → left + tick + 1 ≤ limit

few_left : (limit tick rank own : ℕ) (due : Option Tick) → tick < limit → ((at : Tick) → due ≡ Some at → (tick < at.0) ⊎ ((tick ≡ at.0) × (rank ≤ own)))
    → FewLeft limit tick rank own (ticks_left limit due)
few_left limit tick rank own None lt after = record { most = omega (arith, lt); later = λ first. omega (arith, lt) }
few_left limit tick rank own (Some at) lt after = elim (after at refl) [
  | inl late ↦ record { most = omega (arith, lt, late); later = λ first. omega (arith, lt, late) }
  | inr same ↦ (let e = same.0 in let le = same.1 in record { most = omega (arith, lt, e); later = λ first. absurd (omega (arith, first, le)) })
]

low_or_last : (rank : ℕ) → rank < 24 → (rank ≤ rank_of Nine) ⊎ (rank_of Nine < rank)
low_or_last rank lt = grind (arith, lt)

room_from : (limit : ℕ) (end : Ending MachineState LeftOut) (s : MachineState) (outs : List Shown) → Runs reference limit end s outs → HasSoundParts s → (tick : Tick) (rank : ℕ)
    → IsLeast (dues_of s) tick rank → counts_of s ≤ 24 * limit → counts_of s ≤ 24 * tick.0 + rank → EndsWithin limit s
room_from limit end s outs (over s0 none) sound tick rank least few before =
    let nine = over_left limit s0 Nine none in
    let seven = over_left limit s0 Seven none in
    record { last = s0; run = here s0 (inl none); few = omega (arith, few, nine, seven) }
room_from limit end s outs (stops s0 after u q stop first below halts) sound tick rank least few before =
    let same = least_unique (dues_of s0) u q tick rank first least in
    let at : u.0 ≡ tick.0 = ap (λ (t : Tick). t.0) same.0 in
    let is = same.1 in
    let nine = few_left limit u.0 q (rank_of Nine) (processor_due s0 Nine) below (λ t due. first.least (rank_of Nine) t (rank_there s0 Nine ∙ due)) in
    let seven = few_left limit u.0 q (rank_of Seven) (processor_due s0 Seven) below (λ t due. first.least (rank_of Seven) t (rank_there s0 Seven ∙ due)) in
    let low = low_rank s0 q u first.there in
    let most_nine = nine.most in
    let most_seven = seven.most in
    record {
      last = s0;
      run = here s0 (inr (record { tick = u; rank = q; stop = stop; after = after; least = first; below = below; halts = halts }));
      few = elim (low_or_last q low) [
        | inl le ↦ omega (arith, before, at, is, most_nine, most_seven, le, below)
        | inr gt ↦ (let later_nine = nine.later gt in omega (arith, before, at, is, later_nine, most_seven, low, below))
      ];
    }
room_from limit end s outs (more e0 s0 next u q shown rest first below goes run) sound tick rank least few before =
    let same = least_unique (dues_of s0) u q tick rank first least in
    let at : u.0 ≡ tick.0 = ap (λ (t : Tick). t.0) same.0 in
    let is = same.1 in
    let low = low_rank s0 q u first.there in
    let one = one_more s0 next u q shown first goes in
    let kept = reference_schedules.stays s0 next u q shown sound first goes in
    let n = least_is reference 24 HasSoundParts reference_schedules next kept in
    let rises = place_rises reference 24 HasSoundParts reference_schedules s0 next u q shown n.0 n.1 sound first goes n.2.there in
    let room = room_from limit e0 next rest run kept n.0 n.1 n.2 (omega (arith, one, before, at, is, low, below)) (omega (arith, one, before, at, is, rises)) in
    record { last = room.last; run = step s0 next room.last u q shown first below goes room.run; few = room.few }

pub starts_running : StartsRunning
starts_running limit s sound none few short = record {
  sound = sound;
  ends = λ later le. room later le;
  run = record {
    own = λ tick due. (let most = none geometry_rank tick (due_of_rank s geometry_rank (omega arith) ∙ due) in omega (arith, most, short));
    others = λ rank tick due. (let most = none rank tick due in omega (arith, most, short));
  };
} where
  room : (later : ℕ) → limit ≤ later → EndsWithin later s
  room later le =
      let run = run_exists reference 24 HasSoundParts reference_schedules later s sound.parts in
      let n = least_is reference 24 HasSoundParts reference_schedules s sound.parts in
      let first = none n.1 n.0 n.2.there in
      room_from later run.0 s run.1 run.2 sound.parts n.0 n.1 n.2 (omega (arith, few, le)) (omega (arith, few, first))
