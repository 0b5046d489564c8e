use Rattle.ds_ports.proofs.Words.{Bool, DmaState, Due, IsLater, None, Option, Reschedules, Some, Tick, [], ap, arith, channel_at, channel_due, false}
use Rattle.ds_ports.proofs.Words.{held_due, if◌then◌else◌, inl, inr, is_some, max, ready, refl, released_at, sym, true, true≢false, ℕ, ◌==◌, ◌∷◌, ◌≡◌}
use Rattle.ds_runs.specs.OrderLaws.{first_from}
use Rattle.std.proofs.Math.Nat.{le-max_right}

-- When ARM9's channels are due that a stall holds, and that aren't due before a tick.

-- ---- the first of them is the first of the channels, no earlier than that tick

abbrev released_first : ℕ → Option Due → Option Due
released_first released None = None
released_first released (Some due) = Some (record { tick = record { 0 = max released due.tick.0 }; rank = due.rank })

abbrev pub held_due_first : Bool → ℕ → Option Due → Option Due
held_due_first true released due = None
held_due_first false released due = released_first released due

held_at_first : (rank : ℕ) (stalled : Bool) (released : ℕ) (d : Option Tick)
    → first_from rank (held_due stalled released d ∷ held_due stalled released None ∷ held_due stalled released None ∷ held_due stalled released None ∷ [])
    ≡ held_due_first stalled released (first_from rank (d ∷ None ∷ None ∷ None ∷ []))
held_at_first rank true released d = refl
held_at_first rank false released None = refl
held_at_first rank false released (Some t) = refl

held_at_second : (rank : ℕ) (stalled : Bool) (released : ℕ) (d : Option Tick)
    → first_from rank (held_due stalled released None ∷ held_due stalled released d ∷ held_due stalled released None ∷ held_due stalled released None ∷ [])
    ≡ held_due_first stalled released (first_from rank (None ∷ d ∷ None ∷ None ∷ []))
held_at_second rank true released d = refl
held_at_second rank false released None = refl
held_at_second rank false released (Some t) = refl

held_at_third : (rank : ℕ) (stalled : Bool) (released : ℕ) (d : Option Tick)
    → first_from rank (held_due stalled released None ∷ held_due stalled released None ∷ held_due stalled released d ∷ held_due stalled released None ∷ [])
    ≡ held_due_first stalled released (first_from rank (None ∷ None ∷ d ∷ None ∷ []))
held_at_third rank true released d = refl
held_at_third rank false released None = refl
held_at_third rank false released (Some t) = refl

held_at_fourth : (rank : ℕ) (stalled : Bool) (released : ℕ) (d : Option Tick)
    → first_from rank (held_due stalled released None ∷ held_due stalled released None ∷ held_due stalled released None ∷ held_due stalled released d ∷ [])
    ≡ held_due_first stalled released (first_from rank (None ∷ None ∷ None ∷ d ∷ []))
held_at_fourth rank true released d = refl
held_at_fourth rank false released None = refl
held_at_fourth rank false released (Some t) = refl

abbrev only : ℕ → (ℕ → Option Tick) → ℕ → Option Tick
only least f which = if which == least then f which else None

held_at_least : (rank : ℕ) (stalled : Bool) (released : ℕ) (f : ℕ → Option Tick) (a b c : Bool)
    → (let least : ℕ = if a then 0 else (if b then 1 else (if c then 2 else 3)) in
    first_from rank (held_due stalled released (only least f 0) ∷ held_due stalled released (only least f 1) ∷ held_due stalled released (only least f 2)
    ∷ held_due stalled released (only least f 3) ∷ [])
    ≡ held_due_first stalled released (first_from rank (only least f 0 ∷ only least f 1 ∷ only least f 2 ∷ only least f 3 ∷ [])))
held_at_least rank stalled released f true b c = held_at_first rank stalled released (f 0)
held_at_least rank stalled released f false true c = held_at_second rank stalled released (f 1)
held_at_least rank stalled released f false false true = held_at_third rank stalled released (f 2)
held_at_least rank stalled released f false false false = held_at_fourth rank stalled released (f 3)

pub held_first : (rank : ℕ) (stalled : Bool) (released : ℕ) (s : DmaState)
    → first_from rank (held_due stalled released (channel_due s 0) ∷ held_due stalled released (channel_due s 1) ∷ held_due stalled released (channel_due s 2)
    ∷ held_due stalled released (channel_due s 3) ∷ [])
    ≡ held_due_first stalled released (first_from rank (channel_due s 0 ∷ channel_due s 1 ∷ channel_due s 2 ∷ channel_due s 3 ∷ []))
held_first rank stalled released s =
    held_at_least rank stalled released (λ which. ready s.last (channel_at s.channels which)) (is_some (channel_at s.channels 0).trigger)
    (is_some (channel_at s.channels 1).trigger) (is_some (channel_at s.channels 2).trigger)

-- ---- each is as it was or later where the channel is so

pub released_later : (now : Tick) (released : ℕ) (d : Option Tick) → IsLater now d → IsLater now (released_at released d)
released_later now released None l = tt
released_later now released (Some due) l = omega (arith, l, le-max_right released due.0)

pub held_later : (now : Tick) (stalled : Bool) (released : ℕ) (d : Option Tick) → IsLater now d → IsLater now (held_due stalled released d)
held_later now true released d l = tt
held_later now false released d l = released_later now released d l

pub held_reschedules : (now : Tick) (stalled : Bool) (released : ℕ) (a b : Option Tick) → Reschedules now a b
    → Reschedules now (held_due stalled released a) (held_due stalled released b)
held_reschedules now stalled released a b (inl e) = inl (ap (held_due stalled released) e)
held_reschedules now stalled released a b (inr l) = inr (held_later now stalled released b l)

-- a stall that begins holds them
pub stall_begins : (now : Tick) (old new : Bool) (released : ℕ) (d : Option Tick) → (old ≡ true → new ≡ true)
    → Reschedules now (held_due old released d) (held_due new released d)
stall_begins now true true released d h = inl refl
stall_begins now true false released d h = absurd (true≢false (sym (h refl)))
stall_begins now false true released d h = inr tt
stall_begins now false false released d h = inl refl

-- where nothing is kept of a stall's end, there is nothing to keep
pub none_kept : (b : Bool) (released : ℕ) → released ≡ 0 → (if b then released else 0) ≡ 0
none_kept true released e = e
none_kept false released e = refl
