use Rattle.std.proofs.Common.{ℕ, ◌≡◌, ◌<◌, ◌≤◌, inl, inr, List, [], ◌++◌, Option, refl, sym, ◌∙◌, ap, subst, arith, append_assoc}
use Rattle.ds_base.specs.declared.ticks.Tick.{Tick}
use Rattle.ds_runs.specs.Runs.{IsLeast, IsOver, TickMachine, MachineStep, Makes, Stops, Ending, At, Stopped, Runs, over, stops, more}
use Rattle.ds_runs.specs.Laws.{RunsJoin, RunsAreOne}
use Rattle.ds_runs.proofs.Lists.{least_unique}

-- the parts of what a step comes to
pub same_makes : {S O L : Type 0} (a b : S) (xs ys : List O) → (let x : MachineStep S O L = Makes a xs in x) ≡ Makes b ys → (a ≡ b) × (xs ≡ ys)
same_makes a b xs ys h = (cc, cc)

pub same_stops : {S O L : Type 0} (a b : S) (x y : L) → (let z : MachineStep S O L = Stops x a in z) ≡ Stops y b → (x ≡ y) × (a ≡ b)
same_stops a b x y h = (cc, cc)

pub not_both : {S O L : Type 0} (a b : S) (xs : List O) (y : L) → (let z : MachineStep S O L = Makes a xs in z) ≡ Stops y b → ⊥
not_both a b xs y h = cc

-- the run to a and then to b is the run to b
pub runs-append : {S O L : Type 0} (m : TickMachine S O L) (a b : ℕ) (mid s : S) (end : Ending S L) (xs ys : List O) → a ≤ b → Runs m a (At mid) s xs → Runs m b end mid ys → Runs m b end s (xs ++ ys)
runs-append {S} {O} {L} m a b mid s end xs ys le first second = go (At mid) s xs first mid refl end ys le second where
  go : (e : Ending S L) (s : S) (xs : List O) → Runs m a e s xs → (mid : S) → e ≡ At mid → (end : Ending S L) (ys : List O) → a ≤ b → Runs m b end mid ys → Runs m b end s (xs ++ ys)
  go e s xs (over s0 h) mid is end ys le second =
      let same : s0 ≡ mid = cc in
      let P : S → Type 0 = λ x. Runs m b end x ys in
      subst P (sym same) second
  go e s xs (stops s0 after t r stop least lt halts) mid is end ys le second = cc
  go e s xs (more e0 s0 next t r outs rest least lt goes run) mid is end ys le second =
      let rec : Runs m b end next (rest ++ ys) = go e0 next rest run mid is end ys le second in
      let P : List O → Type 0 = λ zs. Runs m b end s0 zs in
      subst P (sym (append_assoc outs rest ys)) (more end s0 next t r outs (rest ++ ys) least (omega arith) goes rec)

-- where the least actor is due at the limit or later, nobody is due below it
pub over_here : (dues : List (Option Tick)) (limit : ℕ) (t : Tick) (r : ℕ) → IsLeast dues t r → limit ≤ t.0 → IsOver dues limit
over_here dues limit t r least le = λ q u h. elim (least.least q u h) [ inl a ↦ omega arith | inr b ↦ omega arith ]

-- what runs on from s is the rest of the run from the start; so is what runs on from the next state
pub goes_on : {S O L : Type 0} (m : TickMachine S O L) (limit : ℕ) (start s next : S) (t : Tick) (r : ℕ) (front outs : List O) → IsLeast (m.dues s) t r → t.0 < limit → m.step r s ≡ Makes next outs →
    ((end : Ending S L) (rest : List O) → Runs m limit end s rest → Runs m limit end start (front ++ rest)) →
    (end : Ending S L) (rest : List O) → Runs m limit end next rest → Runs m limit end start ((front ++ outs) ++ rest)
goes_on {S} {O} {L} m limit start s next t r front outs least lt e on end rest run =
    let P : List O → Type 0 = λ x. Runs m limit end start x in
    subst P (sym (append_assoc front outs rest)) (on end (outs ++ rest) (more end s next t r outs rest least lt e run))

-- the run from a state whose least actor steps goes through that step
pub first_step : {S O L : Type 0} (m : TickMachine S O L) (limit : ℕ) (end : Ending S L) (s : S) (all : List O) → Runs m limit end s all →
    (next : S) (t : Tick) (r : ℕ) (outs : List O) → IsLeast (m.dues s) t r → t.0 < limit → m.step r s ≡ Makes next outs
    → (rest : List O) × Runs m limit end next rest × (all ≡ outs ++ rest)
first_step {S} {O} {L} m limit end s all (over s0 g) next t r outs least lt e = let le : limit ≤ t.0 = g r t least.there in absurd (omega arith)
first_step {S} {O} {L} m limit end s all (stops s0 after u q stop least₂ lt₂ halts) next t r outs least lt e =
    let same = least_unique (m.dues s0) u q t r least₂ least in
    let P : ℕ → Type 0 = λ x. m.step x s0 ≡ Stops stop after in
    absurd (not_both next after outs stop (sym e ∙ subst P same.1 halts))
first_step {S} {O} {L} m limit end s all (more e0 s0 next₂ u q outs₂ rest least₂ lt₂ goes run) next t r outs least lt e =
    let same = least_unique (m.dues s0) u q t r least₂ least in
    let P : ℕ → Type 0 = λ x. m.step x s0 ≡ Makes next₂ outs₂ in
    let joined = same_makes next₂ next outs₂ outs (sym (subst P same.1 goes) ∙ e) in
    let Q : S → Type 0 = λ x. Runs m limit e0 x rest in
    (rest, subst Q joined.0 run, ap (λ (x : List O). x ++ rest) joined.1)

-- the run from a state whose least actor stops, stops there
pub first_stop : {S O L : Type 0} (m : TickMachine S O L) (limit : ℕ) (end : Ending S L) (s : S) (all : List O) → Runs m limit end s all →
    (after : S) (t : Tick) (r : ℕ) (stop : L) → IsLeast (m.dues s) t r → t.0 < limit → m.step r s ≡ Stops stop after → (end ≡ Stopped stop) × (all ≡ [])
first_stop {S} {O} {L} m limit end s all (over s0 g) after t r stop least lt halts = let le : limit ≤ t.0 = g r t least.there in absurd (omega arith)
first_stop {S} {O} {L} m limit end s all (stops s0 after₂ u q stop₂ least₂ lt₂ halts₂) after t r stop least lt halts =
    let same = least_unique (m.dues s0) u q t r least₂ least in
    let P : ℕ → Type 0 = λ x. m.step x s0 ≡ Stops stop₂ after₂ in
    let joined = same_stops after₂ after stop₂ stop (sym (subst P same.1 halts₂) ∙ halts) in
    (ap (λ (x : L). (let y : Ending S L = Stopped x in y)) joined.0, refl)
first_stop {S} {O} {L} m limit end s all (more e0 s0 next u q outs rest least₂ lt₂ goes run) after t r stop least lt halts =
    let same = least_unique (m.dues s0) u q t r least₂ least in
    let P : ℕ → Type 0 = λ x. m.step x s0 ≡ Makes next outs in
    absurd (not_both next after outs stop (sym (subst P same.1 goes) ∙ halts))

-- a run from a state where nothing is due below the limit ends there
pub over_only : {S O L : Type 0} (m : TickMachine S O L) (limit : ℕ) (end : Ending S L) (s : S) (all : List O) → Runs m limit end s all → IsOver (m.dues s) limit → (end ≡ At s) × (all ≡ [])
over_only {S} {O} {L} m limit end s all (over s0 g) h = (refl, refl)
over_only {S} {O} {L} m limit end s all (stops s0 after t r stop least lt halts) h = let le : limit ≤ t.0 = h r t least.there in absurd (omega arith)
over_only {S} {O} {L} m limit end s all (more e0 s0 next t r outs rest least lt goes run) h = let le : limit ≤ t.0 = h r t least.there in absurd (omega arith)

-- a run has one ending and puts out one list
pub runs_unique : {S O L : Type 0} (m : TickMachine S O L) (limit : ℕ) (end : Ending S L) (s : S) (all : List O) → Runs m limit end s all →
    (end₂ : Ending S L) (all₂ : List O) → Runs m limit end₂ s all₂ → (end ≡ end₂) × (all ≡ all₂)
runs_unique {S} {O} {L} m limit end s all (over s0 h) end₂ all₂ second = let k = over_only m limit end₂ s0 all₂ second h in (sym k.0, sym k.1)
runs_unique {S} {O} {L} m limit end s all (stops s0 after t r stop least lt halts) end₂ all₂ second = let k = first_stop m limit end₂ s0 all₂ second after t r stop least lt halts in (sym k.0, sym k.1)
runs_unique {S} {O} {L} m limit end s all (more e0 s0 next t r outs rest least lt goes run) end₂ all₂ second =
    let k = first_step m limit end₂ s0 all₂ second next t r outs least lt goes in
    let rec = runs_unique m limit e0 next rest run end₂ k.0 k.1 in
    (rec.0, ap (λ (x : List O). outs ++ x) rec.1 ∙ sym k.2)

pub runs_join : {S O L : Type 0} (m : TickMachine S O L) → RunsJoin m
runs_join m first later middle start end xs ys le one two = runs-append m first later middle start end xs ys le one two

pub runs_are_one : {S O L : Type 0} (m : TickMachine S O L) → RunsAreOne m
runs_are_one m limit start end end₂ outs outs₂ one two = runs_unique m limit end start outs one end₂ outs₂ two
