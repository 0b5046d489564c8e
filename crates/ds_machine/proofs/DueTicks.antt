use Rattle.std.proofs.Common.{ℕ, ◌≡◌, ◌≢◌, ◌<◌, ◌≤◌, ◌+◌, ◌^◌, ◌⊎◌, inl, inr, Bool, true, false, List, [], ◌∷◌, ◌++◌, length, Option, Some, None}
use Rattle.std.proofs.Common.{refl, sym, ◌∙◌, ap, subst, arith}
use Rattle.std.proofs.lemmas.Option.{same_Some, none-some}
use Rattle.ds_base.specs.declared.left_out.LeftOut.{LeftOut}
use Rattle.ds_base.specs.declared.processors.Proc.{Proc}
use Rattle.ds_base.specs.declared.processors.Proc.TheVariants.{Nine, Seven}
use Rattle.ds_base.specs.declared.ticks.Due.{Due}
use Rattle.ds_base.specs.declared.ticks.Tick.{Tick}
use Rattle.video2d.specs.Scans.{scan_due_tick}
use Rattle.ds_runs.specs.Actors.{actor_of}
use Rattle.ds_runs.specs.OrderLaws.{due_with_rank, earlier, first_from}
use Rattle.ds_runs.specs.Runs.{IsLeast, MachineStep, due_at}
use Rattle.ds_runs.specs.Owed.{AllReschedule}
use Rattle.ds_runs.proofs.ActorTable.{due_of_actor}
use Rattle.ds_runs.proofs.Firsts.{first_is_least, first_of_append}
use Rattle.ds_runs.proofs.Lists.{at_rank, is_later, within}
use Rattle.ds_machine.specs.Private.{rank_of}
use Rattle.ds_machine.specs.TurnLaws.{MayStep}
use Rattle.ds_machine.specs.Reference.{Shown, awake, due_by, due_unless, dues_of, processor_due, step_by, reference_step}
use Rattle.ds_machine.specs.States.{MachineState, ProcessorState}
use Rattle.ds_machine.specs.Steps.{is_blocked, processor_of, tick_of}
use Rattle.ds_runs.specs.declared.actors.Actor as actor
use Rattle.ds_machine.specs.NextEvents.{events_of}

-- The machine's due ticks, as a list and by actors.

-- the list has an entry for each actor, and an actor's is at its rank
pub entries_are : (s : MachineState) → length (dues_of s) ≡ 24
unfolding dues_of
entries_are s = refl

pub due_of_rank : (s : MachineState) (rank : ℕ) → rank < 24 → due_at (dues_of s) rank ≡ due_by (actor_of rank) s
unfolding dues_of
due_of_rank s rank lt = due_of_actor (λ (a : actor.Actor). due_by a s) rank lt

pub low_rank : (s : MachineState) (rank : ℕ) (tick : Tick) → due_at (dues_of s) rank ≡ Some tick → rank < 24
low_rank s rank tick h = let k = within (dues_of s) rank tick h in let e = entries_are s in omega (arith, k, e)

-- a processor's
pub rank_there : (s : MachineState) (proc : Proc) → due_at (dues_of s) (rank_of proc) ≡ processor_due s proc
rank_there s Nine = due_of_rank s (rank_of Nine) (omega arith)
rank_there s Seven = due_of_rank s (rank_of Seven) (omega arith)

-- the last two ranks are the processors'
pub sort_rank : (rank : ℕ) → rank < 24 → (rank < rank_of Nine) ⊎ ((rank ≡ rank_of Nine) ⊎ (rank ≡ rank_of Seven))
sort_rank rank lt = grind (arith, lt)

-- the list by its parts: all actors but the processors, and the processors
pub dues_split : (s : MachineState) → dues_of s ≡ events_of s ++ processor_due s Nine ∷ processor_due s Seven ∷ []
unfolding dues_of
dues_split s = refl

pub alone : (d : Option Due) → earlier d None ≡ d
alone None = refl
alone (Some one) = refl

-- the first of a list's parts is the least in it
pub least_by_parts : (dues events : List (Option Tick)) (nine seven : Option Tick) (first : Due) → dues ≡ events ++ nine ∷ seven ∷ []
    → Some first ≡ earlier (first_from 0 events) (earlier (due_with_rank (rank_of Nine) nine) (due_with_rank (rank_of Seven) seven)) → length events ≡ rank_of Nine → IsLeast dues first.tick first.rank
least_by_parts dues events nine seven first split h long =
    let at : length events + 0 ≡ rank_of Nine = omega (arith, long) in
    let there : Option Due = due_with_rank (rank_of Nine) nine in
    let all : first_from 0 dues ≡ Some first =
    ap (λ (dues : List (Option Tick)). first_from 0 dues) split
    ∙ first_of_append 0 events (nine ∷ seven ∷ [])
    ∙ ap (λ (n : ℕ). earlier (first_from 0 events) (first_from n (nine ∷ seven ∷ []))) at
    ∙ ap (λ (d : Option Due). earlier (first_from 0 events) (earlier there d)) (alone (due_with_rank (rank_of Seven) seven)) ∙ sym h in
    first_is_least dues first all

pub first_found : (s : MachineState) (first : Due)
    → Some first ≡ earlier (first_from 0 (events_of s)) (earlier (due_with_rank (rank_of Nine) (processor_due s Nine)) (due_with_rank (rank_of Seven) (processor_due s Seven)))
    → IsLeast (dues_of s) first.tick first.rank
first_found s first h = least_by_parts (dues_of s) (events_of s) (processor_due s Nine) (processor_due s Seven) first (dues_split s) h refl

-- the display is always due
pub somebody_is : (s : MachineState) → due_at (dues_of s) 1 ≡ Some (scan_due_tick s.io.video.scan)
unfolding dues_of
somebody_is s = refl

-- the actor that may step is due then
pub due_of_least : (s : MachineState) (rank : ℕ) (tick : Tick) → IsLeast (dues_of s) tick rank → due_by (actor_of rank) s ≡ Some tick
due_of_least s rank tick least = sym (due_of_rank s rank (low_rank s rank tick least.there)) ∙ least.there

-- where an actor may step, it is due at an early tick
pub due_of_may : (s : MachineState) (rank : ℕ) (a : actor.Actor) (may : MayStep s rank) → actor_of rank ≡ a → due_by a s ≡ Some may.tick
due_of_may s rank a may e =
    subst (λ (x : actor.Actor). due_by x s ≡ Some may.tick) e (sym (due_of_rank s rank (low_rank s rank may.tick may.due)) ∙ may.due)

pub may_due : (s : MachineState) (rank : ℕ) (a : actor.Actor) → MayStep s rank → actor_of rank ≡ a → due_by a s ≢ None
may_due s rank a may is none = none-some may.tick (sym none ∙ due_of_may s rank a may is)

pub may_early : (s : MachineState) (rank : ℕ) (a : actor.Actor) (tick : Tick) → MayStep s rank → actor_of rank ≡ a → due_by a s ≡ Some tick → tick.0 ≤ 2 ^ 56
may_early s rank a tick may is due =
    subst (λ (t : Tick). t.0 ≤ 2 ^ 56) (same_Some may.tick tick (sym (due_of_may s rank a may is) ∙ due)) may.early

pub due_is : (a : ℕ) (tick : Tick) → (let due : Option Tick = Some (record { 0 = a }) in due) ≡ Some tick → a ≡ tick.0
due_is a tick h = ap (λ (x : Tick). x.0) (same_Some (record { 0 = a }) tick h)

-- a processor that is due isn't blocked, and is due then
pub due_then : (blocked : Bool) (p : ProcessorState) (tick : Tick) → due_unless blocked p ≡ Some tick → (blocked ≡ false) × (p.due ≡ tick.0)
due_then true p tick h = absurd (none-some tick h)
due_then false p tick h = (refl, due_is p.due tick h)

pub tick_is : (p : ProcessorState) (tick : Tick) → p.due ≡ tick.0 → tick_of p ≡ tick
tick_is p tick h = ap (λ (n : ℕ). (let t : Tick = record { 0 = n } in t)) h

pub own_tick : (s : MachineState) (proc : Proc) (tick : Tick) → processor_due s proc ≡ Some tick → tick ≡ tick_of (processor_of s proc)
own_tick s proc tick h = sym (tick_is (processor_of s proc) tick (due_then (is_blocked s proc) (processor_of s proc) tick h).1)

-- what is due after a step at a tick was due then, or is due later
pub not_before : (s next : MachineState) (tick : Tick) (rank : ℕ) → IsLeast (dues_of s) tick rank → AllReschedule tick (dues_of s) (dues_of next)
    → (other : ℕ) (at : Tick) → due_at (dues_of next) other ≡ Some at → (due_at (dues_of s) other ≡ Some at) ⊎ (tick.0 < at.0)
not_before s next tick rank least all other at h = elim (at_rank tick (dues_of s) (dues_of next) all other) [
  | inl same ↦ inl (sym same ∙ h)
  | inr later ↦ inr (is_later tick (due_at (dues_of next) other) at later h)
]

-- what a step is, by the actor that takes it and the tick at which it is due
pub steps_as : (s : MachineState) (rank : ℕ) (a : actor.Actor) (due : Option Tick) (came : MachineStep MachineState Shown LeftOut) → actor_of rank ≡ a → due_by a s ≡ due
    → awake due (step_by rank a s) ≡ came → reference_step rank s ≡ came
steps_as s rank a due came e d h =
    subst (λ (x : actor.Actor). awake (due_by x s) (step_by rank x s) ≡ came) (sym e) (subst (λ (o : Option Tick). awake o (step_by rank a s) ≡ came) (sym d) h)
