use Rattle.std.proofs.Common.{ℕ, zero, suc, ◌≡◌, ◌<◌, ◌≤◌, ◌+◌, ◌-◌, ◌*◌, ◌⊎◌, inl, inr, List, [], ◌++◌, Some, refl, sym, ◌∙◌, ap, subst, arith}
use Rattle.ds_base.specs.declared.ticks.Tick.{Tick}
use Rattle.ds_base.proofs.Choices.{low_or_high}
use Rattle.ds_runs.specs.Runs.{IsLeast, due_at, TickMachine, MachineStep, Makes, Stops, Ending, At, Stopped, Runs, over, stops, more, steps_of}
use Rattle.ds_runs.specs.Owed.{Schedules}
use Rattle.ds_runs.specs.Laws.{RunsEnd}
use Rattle.ds_runs.proofs.Lists.{within, has_least, least_unique, at_rank, is_later}
use Rattle.ds_runs.proofs.Places.{later_place}
use Rattle.ds_runs.proofs.RunLaws.{over_here}

three_ways : (x y : ℕ) → (x ≡ y) ⊎ ((x < y) ⊎ (y < x))
three_ways x y = grind arith

module _ {S O L : Type 0} (m : TickMachine S O L) (ranks : ℕ) (Sound : S → Type 0) (schedules : Schedules m ranks Sound) where
  -- the least actor is always there
  pub least_is : (s : S) → Sound s → (tick : Tick) × (rank : ℕ) × IsLeast (m.dues s) tick rank
  least_is s sound = let d = schedules.somebody s sound in has_least (m.dues s) d.0 d.1 d.2

  -- and its rank is one of the ranks
  pub low_rank : (s : S) (t : Tick) (r : ℕ) → Sound s → IsLeast (m.dues s) t r → r < ranks
  low_rank s t r sound least = let k = within (m.dues s) r t least.there in let e = schedules.entries s sound in omega (arith, k, e)

  -- each step raises the place in the order of steps, which is ranks * tick + rank: whoever is due after it is due there
  pub place_rises : (s next : S) (t : Tick) (r : ℕ) (outs : List O) (u : Tick) (q : ℕ) → Sound s → IsLeast (m.dues s) t r → m.step r s ≡ Makes next outs → due_at (m.dues next) q ≡ Some u
      → ranks * t.0 + r < ranks * u.0 + q
  place_rises s next t r outs u q sound least goes due =
      let small = low_rank s t r sound least in
      elim (three_ways q r) [
        | inl same ↦ (let P : ℕ → Type 0 = λ x. due_at (m.dues next) x ≡ Some u in
            let lt = is_later t (due_at (m.dues next) r) u (schedules.later s next t r outs sound least goes) (subst P same due) in
            let k = later_place ranks t.0 r u.0 lt small in omega (arith, k))
        | inr differ ↦ elim (at_rank t (m.dues s) (m.dues next) (schedules.reschedules s next t r outs sound least goes) q) [
          | inl kept ↦ elim (least.least q u (sym kept ∙ due)) [
            | inl lt ↦ (let k = later_place ranks t.0 r u.0 lt small in omega (arith, k))
            | inr same ↦ (let e : ranks * t.0 ≡ ranks * u.0 = ap (λ (x : ℕ). ranks * x) same.0 in omega (arith, e, same.1, differ))
          ]
          | inr later ↦ (let lt = is_later t (due_at (m.dues next) q) u later due in
              let k = later_place ranks t.0 r u.0 lt small in omega (arith, k))
        ]
      ]

  -- every sound state runs to every limit
  pub run_exists : (limit : ℕ) (s : S) → Sound s → (end : Ending S L) × (outs : List O) × Runs m limit end s outs
  run_exists limit s sound = let l = least_is s sound in from (ranks * limit) s sound l.0 l.1 l.2 (omega arith) where
    goes_to : (s : S) (t : Tick) (r : ℕ) → IsLeast (m.dues s) t r → t.0 < limit → (o : MachineStep S O L) → m.step r s ≡ o
        → ((next : S) (outs : List O) → m.step r s ≡ Makes next outs → (end : Ending S L) × (rest : List O) × Runs m limit end next rest)
        → (end : Ending S L) × (outs : List O) × Runs m limit end s outs
    goes_to s t r least lt (Stops stop after) e rec = (Stopped stop, [], stops s after t r stop least lt e)
    goes_to s t r least lt (Makes next outs) e rec = let k = rec next outs e in (k.0, outs ++ k.1, more k.0 s next t r outs k.1 least lt e k.2)

    from : (n : ℕ) (s : S) → Sound s → (t : Tick) (r : ℕ) → IsLeast (m.dues s) t r → ranks * limit ≤ n + (ranks * t.0 + r)
        → (end : Ending S L) × (outs : List O) × Runs m limit end s outs
    from zero s sound t r least room =
        elim (low_or_high t.0 limit) [
          | inl lt ↦ (let k = later_place ranks t.0 r limit lt (low_rank s t r sound least) in absurd (omega (arith, k, room)))
          | inr le ↦ (At s, [], over s (over_here (m.dues s) limit t r least le))
        ]
    from (suc n) s sound t r least room =
        elim (low_or_high t.0 limit) [
          | inl lt ↦ goes_to s t r least lt (m.step r s) refl (λ next outs e.
              (let sound₂ = schedules.stays s next t r outs sound least e in
              let l = least_is next sound₂ in
              let k = place_rises s next t r outs l.0 l.1 sound least e l.2.there in
              from n next sound₂ l.0 l.1 l.2 (omega (arith, k, room))))
          | inr le ↦ (At s, [], over s (over_here (m.dues s) limit t r least le))
        ]

  -- a run takes at most `ranks` steps a tick
  pub run_bounded : (limit : ℕ) (end : Ending S L) (s : S) (all : List O) → (run : Runs m limit end s all) → Sound s
      → (tick : Tick) (rank : ℕ) → IsLeast (m.dues s) tick rank → steps_of run ≤ ranks * limit - (ranks * tick.0 + rank)
  run_bounded limit end s all (over s0 h) sound tick rank least = omega arith
  run_bounded limit end s all (stops s0 after t r stop l lt halts) sound tick rank least = omega arith
  run_bounded limit end s all (more e0 s0 next t r outs rest l lt goes run) sound tick rank least =
      let same = least_unique (m.dues s0) t r tick rank l least in
      let low = low_rank s0 t r sound l in
      let sound₂ = schedules.stays s0 next t r outs sound l goes in
      let n = least_is next sound₂ in
      let key = place_rises s0 next t r outs n.0 n.1 sound l goes n.2.there in
      let below = later_place ranks t.0 r limit lt low in
      let rec = run_bounded limit e0 next rest run sound₂ n.0 n.1 n.2 in
      let e : ranks * t.0 ≡ ranks * tick.0 = ap (λ (x : Tick). ranks * x.0) same.0 in
      omega (arith, key, below, rec, e, same.1)

  -- and so at most `ranks` times its limit
  pub run_ends : RunsEnd m ranks Sound
  run_ends limit s end outs sound run =
      let l = least_is s sound in
      let k = run_bounded limit end s outs run sound l.0 l.1 l.2 in
      omega (arith, k)
