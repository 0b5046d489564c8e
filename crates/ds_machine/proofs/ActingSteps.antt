use Rattle.ds_machine.proofs.Words.{ActsUnobserving, Bool, CatchesUpFor, CatchesUpIf, ComesBeforeAll, Ending, HasBothStatuses, HasNineStatuses}
use Rattle.ds_machine.proofs.Words.{HasStatuses, IsAhead, IsLeast, IsSound, LeftOut, List, MachineState, MachineStep, Makes, MayAct, MayStep, Nine}
use Rattle.ds_machine.proofs.Words.{NineState, Option, Proc, Runs, Seven, SevenState, Shown, Some, StepsBeforeGeometry, Stopped, Stops, Swapped}
use Rattle.ds_machine.proofs.Words.{TakesGeometry, Tick, V4, WholeFrame, [], acting_dues, actor_of, actors_differ, ap, arith, counts_of, due_at}
use Rattle.ds_machine.proofs.Words.{due_of_rank, dues_of, false, frames_shown, geometry_rank, inl, inr, is_quiet, last_frame, last_lists, last_or}
use Rattle.ds_machine.proofs.Words.{left_by, lists_shown, no_geometry, none-some, not_both, observes_by, one_step, own_tick, processor_due}
use Rattle.ds_machine.proofs.Words.{processor_of, rank_of, reference, reference_step, refl, same_makes, same_or_not, subst, sym, true, true_or_false}
use Rattle.ds_machine.proofs.Words.{true≢false, ℕ, ◌++◌, ◌<◌, ◌^◌, ◌↔◌, ◌∙◌, ◌≡◌, ◌≤◌, ◌⊎◌}
use Rattle.ds_machine.specs.FrameLaws.{FollowFrames, FollowLists}
use Rattle.ds_runs.specs.Runs as runs
use Rattle.ds_machine.specs.TurnLaws.{ActingMayStep, ActingRuns, ActingStops}
use Rattle.ds_machine.proofs.ActingDues.{acting_low, acting_of_rank, due_where_acts, loud_same}
use Rattle.ds_machine.proofs.AheadRuns.{ahead_runs, ahead_steps}
use Rattle.ds_machine.proofs.CatchingUp.{CaughtSo, catching_up_runs, caught_least, caught_so, comes_first}
use Rattle.ds_machine.proofs.CountSteps.{one_more_as, stop_counts}
use Rattle.ds_machine.proofs.Frames.{follows_as, stop_keeps_as}
use Rattle.ds_machine.proofs.LagLaw.{lag_runs, lag_stops}
use Rattle.ds_machine.proofs.LagSteps.{quiet_acts_never}
use Rattle.ds_machine.proofs.MachineSchedule.{Steps, sound_as}
use Rattle.ds_machine.proofs.PrivateUnobserved.{rank_unobserved}
use Rattle.ds_machine.proofs.Statuses.{steps_keep_statuses}
use Rattle.ds_machine.proofs.StepsMay.{MayThen, steps_then}

-- A step of a turn: that of the least acting actor, or of a processor before its turn, once geometry caught up where the step observes it.

pub record Acted (s next : MachineState) (tick : Tick) (rank : ℕ) (outs : List Shown) : Type 0 where
  pub caught : MachineState
  pub may : MayAct s tick rank
  pub catches : CatchesUpFor tick.0 rank s caught
  pub makes : reference_step rank caught ≡ Makes next outs

pub record ActedStops (s left : MachineState) (tick : Tick) (rank : ℕ) (stop : LeftOut) : Type 0 where
  pub caught : MachineState
  pub may : MayAct s tick rank
  pub catches : CatchesUpFor tick.0 rank s caught
  pub stops : reference_step rank caught ≡ Stops stop left

-- ---- how the actor stands then: as the least of all, as the least that acts, whose step doesn't observe geometry, or before its turn

pub record CaughtUp (s caught : MachineState) (tick : Tick) (rank : ℕ) : Type 0 where
  pub so : CaughtSo s caught
  pub acts : due_at (acting_dues caught) rank ≡ Some tick
  pub may : MayThen caught rank tick
  pub came : (caught ≡ s) ⊎ (ComesBeforeAll tick.0 rank s × TakesGeometry tick.0 rank s caught)
  pub runs : (limit : ℕ) → tick.0 < limit → (end : Ending MachineState LeftOut) (outs : List Shown) → Runs reference limit end s outs ↔ Runs reference limit end caught outs

-- where geometry acts it isn't quiet, so that all act that are due
acts_loudly : (s : MachineState) (tick : Tick) → due_at (acting_dues s) geometry_rank ≡ Some tick → acting_dues s ≡ dues_of s
acts_loudly s tick acts = elim (true_or_false (is_quiet s.io)) [
  | inl quiet ↦ absurd (none-some tick (sym (quiet_acts_never s quiet) ∙ sym (acting_of_rank s geometry_rank (omega arith)) ∙ acts))
  | inr loud ↦ loud_same s loud
]

module _ (s : MachineState) (tick : Tick) (rank : ℕ) (sound : IsSound s) where
  stays_so : (caught : MachineState) → caught ≡ s → due_at (acting_dues s) rank ≡ Some tick → MayThen s rank tick → CaughtUp s caught tick rank
  stays_so caught same acts may =
      subst (λ (m : MachineState). CaughtUp s m tick rank) (sym same)
      (record { so = caught_so tick.0 rank s s sound (no_geometry s); acts = acts; may = may; came = inl refl; runs = λ limit lt end outs. (λ run. run, λ run. run) })

  -- the least that acts
  least_caught : (caught : MachineState) → IsLeast (acting_dues s) tick rank → (b : Bool) → observes_by (actor_of rank) s ≡ b → CatchesUpIf b tick.0 rank s caught
      → CaughtUp s caught tick rank
  least_caught caught least true e catches =
      let so = caught_so tick.0 rank s caught sound catches.steps in
      let low = acting_low s rank tick least.there in
      record {
        so = so;
        acts = ap (λ (dues : List (Option Tick)). due_at dues rank) so.dues ∙ least.there;
        may = inl (caught_least tick rank s caught sound least catches);
        came = inr (comes_first tick rank s least, catches.steps);
        runs = λ limit lt end outs. catching_up_runs s caught tick.0 rank limit sound (comes_first tick rank s least) catches (omega (arith, low, lt)) end outs;
      }
  least_caught caught least false e same = stays_so caught same least.there (inr (inl (record { least = least; unobserving = e })))

  -- and before its turn
  ahead_caught : (caught : MachineState) (proc : Proc) → rank ≡ rank_of proc → IsAhead s proc → due_at (acting_dues s) rank ≡ Some tick
      → (b : Bool) → observes_by (actor_of rank) s ≡ b → CatchesUpIf b tick.0 rank s caught → CaughtUp s caught tick rank
  ahead_caught caught proc is ahead acts true e catches =
      absurd (true≢false (sym e ∙ ap (λ (r : ℕ). observes_by (actor_of r) s) is ∙ rank_unobserved s proc ahead.private))
  ahead_caught caught proc is ahead acts false e same = stays_so caught same acts (inr (inr (proc, is, ahead)))

  pub caught_up : (caught : MachineState) → MayAct s tick rank → CatchesUpFor tick.0 rank s caught → CaughtUp s caught tick rank
  caught_up caught may catches = elim may.may [
    | inl least ↦ least_caught caught least (observes_by (actor_of rank) s) refl catches
    | inr k ↦ ahead_caught caught k.0 k.1 k.2 may.due (observes_by (actor_of rank) s) refl catches
  ]

-- what is so where it steps
pub caught_steps : (s caught : MachineState) (tick : Tick) (rank : ℕ) → CaughtUp s caught tick rank → Steps (actor_of rank) rank tick caught
caught_steps s caught tick rank k = steps_then caught rank tick k.so.sound.parts (due_where_acts caught rank tick k.acts) k.may

abbrev pub caught_may : (s caught : MachineState) (tick : Tick) (rank : ℕ) → tick.0 ≤ 2 ^ 56 → CaughtUp s caught tick rank → MayStep caught rank
caught_may s caught tick rank early k = record {
  tick = tick;
  due = due_where_acts caught rank tick k.acts;
  early = early;
  may = k.may;
}

pub acting_may_step : ActingMayStep
acting_may_step s caught tick rank sound may early catches =
    let k = caught_up s tick rank sound caught may catches in record { may = caught_may s caught tick rank early k; sound = k.so.sound }

-- ---- the reference run goes on from the state after it

-- a processor's, before its turn
module _ (s : MachineState) (proc : Proc) (sound : IsSound s) (ahead : IsAhead s proc) where
  ahead_below : (rank limit : ℕ) (tick : Tick) → rank ≡ rank_of proc → due_at (dues_of s) rank ≡ Some tick → tick.0 < limit → (processor_of s proc).due < limit
  ahead_below rank limit tick is due lt =
      let e = ap (λ (t : Tick). t.0) (own_tick s proc tick (by_rank proc ∙ subst (λ (r : ℕ). due_at (dues_of s) r ≡ Some tick) is due)) in
      omega (arith, lt, e) where
        by_rank : (proc : Proc) → processor_due s proc ≡ due_at (dues_of s) (rank_of proc)
        by_rank Nine = sym (due_of_rank s (rank_of Nine) (omega arith))
        by_rank Seven = sym (due_of_rank s (rank_of Seven) (omega arith))

  ahead_goes : (next : MachineState) (rank limit : ℕ) (outs : List Shown) → rank ≡ rank_of proc → (processor_of s proc).due < limit → reference_step rank s ≡ Makes next outs
      → (end : Ending MachineState LeftOut) (rest : List Shown) → Runs reference limit end s (outs ++ rest) ↔ Runs reference limit end next rest
  ahead_goes next rank limit outs is lt h end rest =
      let g = ahead_steps s proc sound ahead in
      let makes : reference_step (rank_of proc) s ≡ Makes next outs = subst (λ (r : ℕ). reference_step r s ≡ Makes next outs) is h in
      let k = same_makes g.next next [] outs (sym g.makes ∙ makes) in
      let goes = subst (λ (m : MachineState). reference_step (rank_of proc) s ≡ Makes m []) k.0 g.makes in
      subst (λ (o : List Shown). Runs reference limit end s (o ++ rest) ↔ Runs reference limit end next rest) k.1
      (ahead_runs s next proc limit sound ahead lt goes end rest)

  ahead_never_stops : (left : MachineState) (rank : ℕ) (stop : LeftOut) → rank ≡ rank_of proc → reference_step rank s ≡ Stops stop left → ⊥
  ahead_never_stops left rank stop is h =
      let g = ahead_steps s proc sound ahead in
      not_both g.next left [] stop (sym g.makes ∙ subst (λ (r : ℕ). reference_step r s ≡ Stops stop left) is h)

-- that of the least that acts, which is the least of all where it is geometry
pub apart_goes : (s : MachineState) (tick : Tick) (rank : ℕ) → IsSound s → ActsUnobserving s rank tick → IsLeast (dues_of s) tick rank ⊎ StepsBeforeGeometry s rank tick
apart_goes s tick rank sound acts = elim (same_or_not rank geometry_rank) [
  | inl same ↦
      (let loud = acts_loudly s tick (subst (λ (r : ℕ). due_at (acting_dues s) r ≡ Some tick) same acts.least.there) in
      inl (subst (λ (dues : List (Option Tick)). IsLeast dues tick rank) loud acts.least))
  | inr ne ↦ inr (record { sound = sound; acts = acts; other = actors_differ geometry_rank rank (omega arith) (acting_low s rank tick acts.least.there) ne })
]

-- any of them, where geometry caught up
then_goes : (s next : MachineState) (tick : Tick) (rank limit : ℕ) (outs : List Shown) → IsSound s → due_at (dues_of s) rank ≡ Some tick → MayThen s rank tick → tick.0 < limit
    → reference_step rank s ≡ Makes next outs → (end : Ending MachineState LeftOut) (rest : List Shown) → Runs reference limit end s (outs ++ rest) ↔ Runs reference limit end next rest
then_goes s next tick rank limit outs sound due may lt h end rest = elim may [
  | inl least ↦ one_step reference limit end s next outs rest tick rank least lt h
  | inr other ↦ elim other [
    | inl acts ↦ elim (apart_goes s tick rank sound acts) [
      | inl least ↦ one_step reference limit end s next outs rest tick rank least lt h
      | inr before ↦ lag_runs s next rank tick limit outs before lt h end rest
    ]
    | inr k ↦ ahead_goes s k.0 sound k.2 next rank limit outs k.1 (ahead_below s k.0 sound k.2 rank limit tick k.1 due lt) h end rest
  ]
]

pub acting_runs : ActingRuns
acting_runs s caught next tick rank limit outs sound may catches lt h end rest =
    let k = caught_up s tick rank sound caught may catches in
    let here = k.runs limit lt end (outs ++ rest) in
    let there = then_goes caught next tick rank limit outs k.so.sound (due_where_acts caught rank tick k.acts) k.may lt h end rest in
    (λ run. there.0 (here.0 run), λ run. here.1 (there.1 run))

then_stops : (s left : MachineState) (tick : Tick) (rank limit : ℕ) (stop : LeftOut) → IsSound s → MayThen s rank tick → tick.0 < limit → reference_step rank s ≡ Stops stop left
    → Runs reference limit (Stopped stop) s []
then_stops s left tick rank limit stop sound may lt h = elim may [
  | inl least ↦ runs.stops s left tick rank stop least lt h
  | inr other ↦ elim other [
    | inl acts ↦ elim (apart_goes s tick rank sound acts) [
      | inl least ↦ runs.stops s left tick rank stop least lt h
      | inr before ↦ lag_stops s left rank tick limit stop before lt h
    ]
    | inr k ↦ absurd (ahead_never_stops s k.0 sound k.2 left rank stop k.1 h)
  ]
]

pub acting_stops : ActingStops
acting_stops s caught after tick rank limit stop sound may catches lt h =
    let k = caught_up s tick rank sound caught may catches in
    (k.runs limit lt (Stopped stop) []).1 (then_stops caught after tick rank limit stop k.so.sound k.may lt h)

-- ---- what it leaves

both_statuses : (s caught : MachineState) → CaughtSo s caught → HasBothStatuses s → HasBothStatuses caught
both_statuses s caught so kept = record {
  nine = subst (λ (n : NineState). HasNineStatuses n.processor.registers n.cp15) (sym so.nine) kept.nine;
  seven = subst (λ (p : SevenState). HasStatuses V4 p.processor.registers) (sym so.seven) kept.seven;
}

statuses_by : (s caught : MachineState) (rank : ℕ) (came : MachineStep MachineState Shown LeftOut) → CaughtSo s caught → reference_step rank caught ≡ came
    → HasBothStatuses s → HasBothStatuses (left_by came)
statuses_by s caught rank came so h kept =
    subst (λ (m : MachineStep MachineState Shown LeftOut). HasBothStatuses (left_by m)) h (steps_keep_statuses rank caught (both_statuses s caught so kept))

pub record ActedKeeps (s next : MachineState) (tick : Tick) (outs : List Shown) : Type 0 where
  pub sound : IsSound next
  pub more : counts_of s < counts_of next
  pub frames : FollowFrames s next outs
  pub lists : FollowLists s next outs
  pub statuses : HasBothStatuses s → HasBothStatuses next

pub acted_keeps : (s next : MachineState) (tick : Tick) (rank : ℕ) (outs : List Shown) → IsSound s → Acted s next tick rank outs → ActedKeeps s next tick outs
acted_keeps s next tick rank outs sound a =
    let k = caught_up s tick rank sound a.caught a.may a.catches in
    let st = caught_steps s a.caught tick rank k in
    let follows = follows_as a.caught next tick rank outs st a.makes in
    let more = k.so.more in
    let one = one_more_as a.caught next tick rank outs st.due a.makes in
    record {
      sound = sound_as a.caught next tick rank outs st a.makes;
      more = omega (arith, more, one);
      frames = follows.0 ∙ ap (λ (frame : Option WholeFrame). last_or frame (frames_shown outs)) k.so.frame;
      lists = follows.1 ∙ ap (λ (lists : Option Swapped). last_or lists (lists_shown outs)) k.so.lists;
      statuses = statuses_by s a.caught rank (Makes next outs) k.so a.makes;
    }

pub record ActedLeaves (s left : MachineState) (tick : Tick) : Type 0 where
  pub frame : last_frame left ≡ last_frame s
  pub lists : last_lists left ≡ last_lists s
  pub more : counts_of s ≤ counts_of left
  pub statuses : HasBothStatuses s → HasBothStatuses left

pub acted_stops : (s left : MachineState) (tick : Tick) (rank : ℕ) (stop : LeftOut) → IsSound s → ActedStops s left tick rank stop → ActedLeaves s left tick
acted_stops s left tick rank stop sound a =
    let k = caught_up s tick rank sound a.caught a.may a.catches in
    let st = caught_steps s a.caught tick rank k in
    let kept = stop_keeps_as a.caught left tick rank stop st a.stops in
    let more = k.so.more in
    let same = stop_counts a.caught left rank stop a.stops in
    record {
      frame = kept.0 ∙ k.so.frame;
      lists = kept.1 ∙ k.so.lists;
      more = omega (arith, more, same);
      statuses = statuses_by s a.caught rank (Stops stop left) k.so a.stops;
    }
