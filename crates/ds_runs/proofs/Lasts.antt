use Rattle.std.proofs.Common.{ℕ, ◌≡◌, ◌<◌, ◌⊎◌, inl, inr, List, refl, sym, ◌∙◌, subst, arith, []}
use Rattle.ds_base.specs.declared.ticks.Tick.{Tick}
use Rattle.ds_runs.specs.Ahead.{MayRunAhead}
use Rattle.ds_runs.specs.Lags.{MayLag}
use Rattle.ds_runs.specs.LastLaws.{IsLast, LeadsTo, here, step}
use Rattle.ds_runs.specs.Runs.{IsLeast, TickMachine, Makes, Stops}
use Rattle.ds_runs.proofs.Ahead.{least_stays}
use Rattle.ds_base.proofs.Choices.{same_or_not}
use Rattle.ds_runs.proofs.Lists.{least_unique}
use Rattle.ds_runs.proofs.RunLaws.{same_makes, not_both}

-- The last state of a run, where steps are taken in another order.

module _ {S O L : Type 0} (m : TickMachine S O L) (limit : ℕ) where
  -- where the least actor's step is taken, the run doesn't end before it
  not_last : (s next : S) (t : Tick) (r : ℕ) (outs : List O) → IsLeast (m.dues s) t r → t.0 < limit → m.step r s ≡ Makes next outs → IsLast m limit s → ⊥
  not_last s next t r outs least lt e (inl none) = (let le = none r t least.there in omega (arith, le, lt))
  not_last s next t r outs least lt e (inr stop) =
      let same = least_unique (m.dues s) stop.tick stop.rank t r stop.least least in
      not_both next stop.after outs stop.stop (sym e ∙ subst (λ (x : ℕ). m.step x s ≡ Stops stop.stop stop.after) same.1 stop.halts)

  -- the least actor's step leaves the rest of the run
  pub last_after : (s last next : S) (t : Tick) (r : ℕ) (outs : List O) → IsLeast (m.dues s) t r → t.0 < limit → m.step r s ≡ Makes next outs
      → LeadsTo m limit s last → LeadsTo m limit next last
  last_after s last next t r outs least lt e (here s0 ends) = absurd (not_last s0 next t r outs least lt e ends)
  last_after s last next t r outs least lt e (step s0 mid last0 u q outs₁ first below goes run) =
      let same = least_unique (m.dues s0) u q t r first least in
      let joined = (same_makes mid next outs₁ outs (sym (subst (λ (x : ℕ). m.step x s0 ≡ Makes mid outs₁) same.1 goes) ∙ e)).0 in
      subst (λ (x : S). LeadsTo m limit x last0) joined run

  module _ (p : ℕ) (Private : S → Tick → Type 0) (laws : MayRunAhead m p Private) where
    -- the step that was taken first is one of the run's, or may be taken yet where the run stops
    abbrev pub IsAheadOf : S → S → Tick → Type 0
    IsAheadOf last after t = (after ≡ last) ⊎ (Private last t × (m.step p last ≡ Makes after []))

    pub last_ahead : (s last : S) → LeadsTo m limit s last → (ahead : S) (t : Tick) → Private s t → t.0 < limit → m.step p s ≡ Makes ahead []
        → (after : S) × LeadsTo m limit ahead after × IsAheadOf last after t
    last_ahead s last (here s0 (inl none)) ahead t private lt e =
        let le = none p t (laws.moves s0 ahead t private e).there in absurd (omega (arith, le, lt))
    last_ahead s last (here s0 (inr stop)) ahead t private lt e = elim (same_or_not stop.rank p) [
      | inl same ↦
          absurd (not_both ahead stop.after [] stop.stop (sym e ∙ subst (λ (x : ℕ). m.step x s0 ≡ Stops stop.stop stop.after) same stop.halts))
      | inr other ↦
          (let k = laws.halts s0 ahead stop.after t stop.tick stop.rank stop.stop private e stop.least other stop.halts in
          let stays = least_stays (m.dues s0) (m.dues ahead) p t stop.tick stop.rank (laws.moves s0 ahead t private e) other stop.least in
          let there : LeadsTo m limit ahead ahead =
          here ahead (inr (record { tick = stop.tick; rank = stop.rank; stop = stop.stop; after = k.0; least = stays; below = stop.below; halts = k.1 })) in
          (ahead, there, inr (private, e)))
    ]
    last_ahead s last (step s0 next last0 u r outs least below goes run) ahead t private lt e = elim (same_or_not r p) [
      | inl same ↦
          (let joined = (same_makes next ahead outs [] (sym (subst (λ (x : ℕ). m.step x s0 ≡ Makes next outs) same goes) ∙ e)).0 in
          (last0, subst (λ (x : S). LeadsTo m limit x last0) joined run, inl refl))
      | inr other ↦
          (let c = laws.commutes s0 ahead next t u r outs private e least other goes in
          let rec = last_ahead next last0 run c.1.0 t c.0 lt c.1.1 in
          let stays = least_stays (m.dues s0) (m.dues ahead) p t u r (laws.moves s0 ahead t private e) other least in
          (rec.0, step ahead c.1.0 rec.0 u r outs stays below c.1.2 rec.1, rec.2))
    ]

  module _ (p : ℕ) (Before : S → ℕ → Tick → Type 0) (laws : MayLag m p Before) where
    -- a step that is taken before those of the actor that lags is one of the run's
    pub last_lags : (s last : S) → LeadsTo m limit s last → (next : S) (r : ℕ) (t : Tick) (outs : List O) → Before s r t → t.0 < limit → m.step r s ≡ Makes next outs
        → LeadsTo m limit next last
    last_lags s last (here s0 ends) next r t outs before lt e = elim (laws.first s0 r t before).least [
      | inl least ↦ absurd (not_last s0 next t r outs least lt e ends)
      | inr late ↦
          (let k = laws.steps s0 r t late.0 before late.1 in
          let le = late.2 in
          absurd (not_last s0 k.next late.0 p [] late.1 (omega (arith, le, lt)) k.makes ends))
    ]
    last_lags s last (step s0 mid last0 u q outs₁ first below goes run) next r t outs before lt e = elim (laws.first s0 r t before).least [
      | inl least ↦ last_after s0 last0 next t r outs least lt e (step s0 mid last0 u q outs₁ first below goes run)
      | inr late ↦
          (let k = laws.steps s0 r t late.0 before late.1 in
          let c = laws.commutes s0 k.next next r t late.0 outs before late.1 k.makes e in
          let le = late.2 in
          let under : late.0.0 < limit = omega (arith, le, lt) in
          let same = least_unique (m.dues s0) u q late.0 p first late.1 in
          let joined = (same_makes mid k.next outs₁ [] (sym (subst (λ (x : ℕ). m.step x s0 ≡ Makes mid outs₁) same.1 goes) ∙ k.makes)).0 in
          let still = subst (λ (x : S). Before x r t) (sym joined) k.still in
          let makes = subst (λ (x : S). m.step r x ≡ Makes c.1.0 outs) (sym joined) c.1.1 in
          let rest = last_lags mid last0 run c.1.0 r t outs still lt makes in
          step next c.1.0 last0 late.0 p [] c.0 under c.1.2 rest)
    ]
