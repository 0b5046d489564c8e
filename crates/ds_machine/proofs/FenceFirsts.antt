use Rattle.ds_machine.proofs.Words.{Card, Divider, Dma, Due, Fences, Geometry, IsAhead, IsBelowFence, IsFence, IsLeast, IsPrivate, KeyScript}
use Rattle.ds_machine.proofs.Words.{MachineState, Nine, None, Option, Proc, Processor, Seven, Some, SquareRoot, Tick, Timer, Video, [], acting_due}
use Rattle.ds_machine.proofs.Words.{acting_dues, acting_io_due, actor_of, ap, arith, card_due_for, card_starter, due_at, due_of_actor, due_with_rank}
use Rattle.ds_machine.proofs.Words.{earlier, first_from, first_is_least, first_of_append, geometry_rank, keys_due, least_unique, length, none-some}
use Rattle.ds_machine.proofs.Words.{own_tick, processor_due, rank_of, refl, same_Some, scan_due_tick, subst, sym, within, ℕ, ◌++◌, ◌<◌, ◌∙◌, ◌∷◌, ◌≡◌}
use Rattle.ds_machine.proofs.Words.{◌≤◌}
use Rattle.ds_machine.specs.FenceTicks.{fence_due, channel_dues, fence_dues, timer_dues}
use Rattle.ds_card.proofs.Schedules.{due_for_starter, starter_of_due}
use Rattle.ds_runs.specs.declared.actors.Actor as actor
use Rattle.ds_machine.proofs.ActingDues.{acting_low, acting_of_rank, acting_processor}
use Rattle.ds_machine.proofs.DueTicks.{alone}
use Rattle.ds_runs.proofs.AllActors.{actor_rank}
use Rattle.ds_runs.specs.declared.actors.Actor.TheVariants as who

-- The first of those that may halt a processor, wake it or make it wait.

-- ---- by parts

pub nine_by_parts : (s : MachineState) → first_from 0 (fence_dues s Nine)
    ≡ earlier (due_with_rank (actor_rank who.KeyScript) (keys_due s.keys)) (earlier (due_with_rank (actor_rank who.Video) (Some (scan_due_tick s.io.video.scan)))
    (earlier (first_from (actor_rank (who.Timer Nine 0)) (timer_dues s.io Nine)) (earlier (due_with_rank geometry_rank (acting_io_due Geometry s.io))
    (earlier (due_with_rank (actor_rank who.Card) (card_due_for Nine s.io.card)) (first_from (actor_rank (who.Dma Nine 0)) (channel_dues s.io Nine))))))
unfolding fence_dues
nine_by_parts s =
    let timers = timer_dues s.io Nine in
    let channels = channel_dues s.io Nine in
    let rest = None ∷ None ∷ None ∷ None ∷ None ∷ None ∷ [] in
    let front : Option Due → Option Due = λ d. earlier (due_with_rank (actor_rank who.KeyScript) (keys_due s.keys)) (earlier (due_with_rank (actor_rank who.Video) (Some (scan_due_tick s.io.video.scan))) d) in
    ap front (first_of_append (actor_rank (who.Timer Nine 0)) timers (None ∷ None ∷ None ∷ None ∷ None ∷ None ∷ acting_io_due Geometry s.io ∷ card_due_for Nine s.io.card ∷ channels ++ rest)
    ∙ ap (λ (d : Option Due). earlier (first_from (actor_rank (who.Timer Nine 0)) timers) (earlier (due_with_rank geometry_rank (acting_io_due Geometry s.io)) (earlier (due_with_rank (actor_rank who.Card) (card_due_for Nine s.io.card)) d)))
    (first_of_append (actor_rank (who.Dma Nine 0)) channels rest ∙ alone (first_from (actor_rank (who.Dma Nine 0)) channels)))

pub seven_by_parts : (s : MachineState) → first_from 0 (fence_dues s Seven)
    ≡ earlier (due_with_rank (actor_rank who.KeyScript) (keys_due s.keys)) (earlier (due_with_rank (actor_rank who.Video) (Some (scan_due_tick s.io.video.scan)))
    (earlier (first_from (actor_rank (who.Timer Seven 0)) (timer_dues s.io Seven)) (earlier (due_with_rank (actor_rank who.Card) (card_due_for Seven s.io.card)) (first_from (actor_rank (who.Dma Seven 0)) (channel_dues s.io Seven)))))
unfolding fence_dues
seven_by_parts s =
    let timers = timer_dues s.io Seven in
    let channels = channel_dues s.io Seven in
    let front : Option Due → Option Due = λ d. earlier (due_with_rank (actor_rank who.KeyScript) (keys_due s.keys)) (earlier (due_with_rank (actor_rank who.Video) (Some (scan_due_tick s.io.video.scan))) d) in
    ap front (first_of_append (actor_rank (who.Timer Seven 0)) timers (None ∷ None ∷ None ∷ card_due_for Seven s.io.card ∷ None ∷ None ∷ None ∷ None ∷ channels ++ None ∷ None ∷ [])
    ∙ ap (λ (d : Option Due). earlier (first_from (actor_rank (who.Timer Seven 0)) timers) (earlier (due_with_rank (actor_rank who.Card) (card_due_for Seven s.io.card)) d)) (first_of_append (actor_rank (who.Dma Seven 0)) channels (None ∷ None ∷ []) ∙ alone (first_from (actor_rank (who.Dma Seven 0)) channels)))

-- whom an actor fences off is told by the card alone
pub fences_as : (a : actor.Actor) (proc : Proc) (s t : MachineState) → t.io.card ≡ s.io.card → Fences a proc t → Fences a proc s
fences_as KeyScript proc s t e f = f
fences_as Video proc s t e f = f
fences_as (Timer each number) proc s t e f = f
fences_as Divider proc s t e f = f
fences_as SquareRoot proc s t e f = f
fences_as Geometry proc s t e f = f
fences_as Card proc s t e f = ap card_starter (sym e) ∙ f
fences_as (Dma each channel) proc s t e f = f
fences_as (Processor each) proc s t e f = f

-- ---- it is the fence

pub fences_there : (s : MachineState) (proc : Proc) (a : actor.Actor) (at : Tick) → fence_due s proc a ≡ Some at → (acting_due a s ≡ Some at) × Fences a proc s
fences_there s proc KeyScript at h = (h, tt)
fences_there s proc Video at h = (h, tt)
fences_there s Nine (Timer Nine number) at h = (h, refl)
fences_there s Seven (Timer Nine number) at h = absurd (none-some at h)
fences_there s Nine (Timer Seven number) at h = absurd (none-some at h)
fences_there s Seven (Timer Seven number) at h = (h, refl)
fences_there s proc Divider at h = absurd (none-some at h)
fences_there s proc SquareRoot at h = absurd (none-some at h)
fences_there s Nine Geometry at h = (h, refl)
fences_there s Seven Geometry at h = absurd (none-some at h)
fences_there s proc Card at h = (let started = starter_of_due s.io.card proc at h in (sym (due_for_starter s.io.card proc started) ∙ h, started))
fences_there s Nine (Dma Nine channel) at h = (h, refl)
fences_there s Seven (Dma Nine channel) at h = absurd (none-some at h)
fences_there s Nine (Dma Seven channel) at h = absurd (none-some at h)
fences_there s Seven (Dma Seven channel) at h = (h, refl)
fences_there s proc (Processor each) at h = absurd (none-some at h)

timer_own : (s : MachineState) (proc each : Proc) (number : ℕ) (at : Tick) → each ≡ proc → acting_due (Timer each number) s ≡ Some at → fence_due s proc (Timer each number) ≡ Some at
timer_own s Nine each number at e h = subst (λ (p : Proc). fence_due s Nine (Timer p number) ≡ Some at) (sym e) (subst (λ (p : Proc). acting_due (Timer p number) s ≡ Some at) e h)
timer_own s Seven each number at e h = subst (λ (p : Proc). fence_due s Seven (Timer p number) ≡ Some at) (sym e) (subst (λ (p : Proc). acting_due (Timer p number) s ≡ Some at) e h)

channel_own : (s : MachineState) (proc each : Proc) (channel : ℕ) (at : Tick) → each ≡ proc → acting_due (Dma each channel) s ≡ Some at → fence_due s proc (Dma each channel) ≡ Some at
channel_own s Nine each channel at e h = subst (λ (p : Proc). fence_due s Nine (Dma p channel) ≡ Some at) (sym e) (subst (λ (p : Proc). acting_due (Dma p channel) s ≡ Some at) e h)
channel_own s Seven each channel at e h = subst (λ (p : Proc). fence_due s Seven (Dma p channel) ≡ Some at) (sym e) (subst (λ (p : Proc). acting_due (Dma p channel) s ≡ Some at) e h)

pub there_fences : (s : MachineState) (proc : Proc) (a : actor.Actor) (at : Tick) → acting_due a s ≡ Some at → Fences a proc s → fence_due s proc a ≡ Some at
there_fences s proc KeyScript at h f = h
there_fences s proc Video at h f = h
there_fences s proc (Timer each number) at h f = timer_own s proc each number at f h
there_fences s proc Divider at h f = absurd f
there_fences s proc SquareRoot at h f = absurd f
there_fences s proc Geometry at h f = subst (λ (p : Proc). fence_due s p Geometry ≡ Some at) (sym f) h
there_fences s proc Card at h f = due_for_starter s.io.card proc f ∙ h
there_fences s proc (Dma each channel) at h f = channel_own s proc each channel at f h
there_fences s proc (Processor each) at h f = absurd f

long : (s : MachineState) (proc : Proc) → length (fence_dues s proc) ≡ 24
unfolding fence_dues
long s proc = refl

by_actor : (s : MachineState) (proc : Proc) (rank : ℕ) → rank < 24 → due_at (fence_dues s proc) rank ≡ fence_due s proc (actor_of rank)
unfolding fence_dues
by_actor s proc rank lt = due_of_actor (fence_due s proc) rank lt

pub fence_is : (s : MachineState) (proc : Proc) (first : Due) → Some first ≡ first_from 0 (fence_dues s proc) → IsFence s proc first.tick
fence_is s proc first h =
    let l = first_is_least (fence_dues s proc) first (sym h) in
    let low = within (fence_dues s proc) first.rank first.tick l.there in
    let all = long s proc in
    let lt : first.rank < 24 = omega (arith, low, all) in
    let k = fences_there s proc (actor_of first.rank) first.tick (sym (by_actor s proc first.rank lt) ∙ l.there) in
    record { rank = first.rank; there = acting_of_rank s first.rank lt ∙ k.0; fences = k.1; least = least } where
      least : (other : ℕ) (at : Tick) → due_at (acting_dues s) other ≡ Some at → Fences (actor_of other) proc s → first.tick.0 ≤ at.0
      least other at there f =
          let lt = acting_low s other at there in
          let due = sym (acting_of_rank s other lt) ∙ there in
          let before = (first_is_least (fence_dues s proc) first (sym h)).least other at (by_actor s proc other lt ∙ there_fences s proc (actor_of other) at due f) in
          omega (arith, before)

-- so what is below it is below all of those
pub below_is : (s : MachineState) (proc : Proc) (fence tick : Tick) → IsFence s proc fence → tick.0 < fence.0 → IsBelowFence s proc tick
below_is s proc fence tick is lt rank at there f = let l = is.least rank at there f in omega (arith, l, lt)

pub below_then : (s : MachineState) (proc : Proc) (fence tick : Tick) → IsFence s proc fence → IsBelowFence s proc tick → tick.0 < fence.0
below_then s proc fence tick is below = below is.rank fence is.there is.fences

-- ---- a processor's step is the least acting one, or is ahead

pub least_where : (s : MachineState) (proc : Proc) (first : Due) (tick : Tick) → IsLeast (acting_dues s) first.tick first.rank → processor_due s proc ≡ Some tick
    → first.rank ≡ rank_of proc → IsLeast (acting_dues s) tick (rank_of proc)
least_where s proc first tick l due e =
    let there = subst (λ (r : ℕ). due_at (acting_dues s) r ≡ Some first.tick) e l.there in
    let same : first.tick ≡ tick = same_Some first.tick tick (sym there ∙ acting_processor s proc ∙ due) in
    subst (λ (t : Tick). IsLeast (acting_dues s) t (rank_of proc)) same (subst (λ (r : ℕ). IsLeast (acting_dues s) first.tick r) e l)

pub rank_where : (s : MachineState) (proc : Proc) (first : Due) (tick : Tick) → IsLeast (acting_dues s) first.tick first.rank → IsLeast (acting_dues s) tick (rank_of proc)
    → first.rank ≡ rank_of proc
rank_where s proc first tick l k = (least_unique (acting_dues s) first.tick first.rank tick (rank_of proc) l k).1

pub ahead_where : (s : MachineState) (proc : Proc) (tick : Tick) → IsBelowFence s proc tick → processor_due s proc ≡ Some tick → IsPrivate s proc → IsAhead s proc
ahead_where s proc tick below due private = record { private = private; below = subst (IsBelowFence s proc) (own_tick s proc tick due) below }

pub below_where : (s : MachineState) (proc : Proc) (tick : Tick) → processor_due s proc ≡ Some tick → IsAhead s proc → IsBelowFence s proc tick
below_where s proc tick due ahead = subst (IsBelowFence s proc) (sym (own_tick s proc tick due)) ahead.below
