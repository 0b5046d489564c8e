use Rattle.ds_machine.proofs.Words.{AreReadyLater, Bool, Card, Divider, Dma, DmaState, Fences, Geometry, HasOnlyLaterEvents, IsAhead, IsBelowFence}
use Rattle.ds_machine.proofs.Words.{IsLater, IsLeast, KeyScript, LastUnit, List, MachineState, Nine, None, Option, Proc, Processor, ProcessorIoState}
use Rattle.ds_machine.proofs.Words.{Seven, Some, SquareRoot, Tick, Timer, Video, acting_dues, actor_of, after_both, any_runs, ap, arith}
use Rattle.ds_machine.proofs.Words.{blocks_processor, channel_at, due_at, due_by, due_of_rank, due_then, dues_of, false, inl, inr, io_due, io_of}
use Rattle.ds_machine.proofs.Words.{is_blocked, is_halted, is_some, option_map, or_parts, processor_due, processor_of, rank_of, refl, subst, suc, sym}
use Rattle.ds_machine.proofs.Words.{tick_of, true, true≢false, zero, ℕ, ◌<◌, ◌∙◌, ◌≡◌, ◌≤◌}
use Rattle.ds_runs.proofs.AllActors.{actor_rank}
use Rattle.ds_runs.specs.declared.actors.Actor as actor
use Rattle.ds_machine.proofs.ActingDues.{acting_processor, other_acts}
use Rattle.ds_machine.proofs.Moves.{later_if}

-- Where a processor, or a DMA channel, takes its step, its timers are due later: they have lower ranks.

abbrev pub comes_late : actor.Actor → Bool
comes_late KeyScript = false
comes_late Video = false
comes_late (Timer proc number) = false
comes_late Divider = false
comes_late SquareRoot = false
comes_late Geometry = false
comes_late Card = false
comes_late (Dma proc channel) = true
comes_late (Processor proc) = true

-- those have ranks from the divider's on
late_rank : (rank : ℕ) → comes_late (actor_of rank) ≡ true → actor_rank Divider ≤ rank
late_rank zero h = absurd (true≢false (sym h))
late_rank (suc zero) h = absurd (true≢false (sym h))
late_rank (suc (suc zero)) h = absurd (true≢false (sym h))
late_rank (suc (suc (suc zero))) h = absurd (true≢false (sym h))
late_rank (suc (suc (suc (suc zero)))) h = absurd (true≢false (sym h))
late_rank (suc (suc (suc (suc (suc zero))))) h = absurd (true≢false (sym h))
late_rank (suc (suc (suc (suc (suc (suc zero)))))) h = absurd (true≢false (sym h))
late_rank (suc (suc (suc (suc (suc (suc (suc zero))))))) h = absurd (true≢false (sym h))
late_rank (suc (suc (suc (suc (suc (suc (suc (suc zero)))))))) h = absurd (true≢false (sym h))
late_rank (suc (suc (suc (suc (suc (suc (suc (suc (suc zero))))))))) h = absurd (true≢false (sym h))
late_rank (suc (suc (suc (suc (suc (suc (suc (suc (suc (suc n)))))))))) h = omega arith

-- and a timer has one below it
record HasTimer (proc : Proc) (which : ℕ) : Type 0 where
  low : actor_rank (Timer proc which) < actor_rank Divider
  there : actor_of (actor_rank (Timer proc which)) ≡ Timer proc which

timer_rank : (proc : Proc) (which : ℕ) → which < 4 → HasTimer proc which
timer_rank Nine zero lt = record { low = omega arith; there = refl }
timer_rank Nine (suc zero) lt = record { low = omega arith; there = refl }
timer_rank Nine (suc (suc zero)) lt = record { low = omega arith; there = refl }
timer_rank Nine (suc (suc (suc zero))) lt = record { low = omega arith; there = refl }
timer_rank Seven zero lt = record { low = omega arith; there = refl }
timer_rank Seven (suc zero) lt = record { low = omega arith; there = refl }
timer_rank Seven (suc (suc zero)) lt = record { low = omega arith; there = refl }
timer_rank Seven (suc (suc (suc zero))) lt = record { low = omega arith; there = refl }
timer_rank proc (suc (suc (suc (suc n)))) lt = absurd (omega (arith, lt))

-- the least of some due ticks, among which the timers' are
timers_past : (s : MachineState) (dues : List (Option Tick)) (tick : Tick) (rank : ℕ) → IsLeast dues tick rank → comes_late (actor_of rank) ≡ true
    → ((each : ℕ) → each < actor_rank Divider → due_at dues each ≡ due_by (actor_of each) s) → (proc : Proc) (which : ℕ) → which < 4 → IsLater tick (io_due (Timer proc which) s.io)
timers_past s dues tick rank least late by proc which lt = later_if tick (io_due (Timer proc which) s.io) (λ at h.
    (let high = late_rank rank late in
    let has = timer_rank proc which lt in
    let low = has.low in
    let its = actor_rank (Timer proc which) in
    let there : due_at dues its ≡ Some at = by its low ∙ ap (λ (a : actor.Actor). due_by a s) has.there ∙ h in
    elim (least.least its at there) [ inl before ↦ before | inr same ↦ absurd (omega (arith, same.1, high, low)) ]))

pub timers_later : (s : MachineState) (tick : Tick) (rank : ℕ) → IsLeast (dues_of s) tick rank → comes_late (actor_of rank) ≡ true
    → (proc : Proc) (which : ℕ) → which < 4 → IsLater tick (io_due (Timer proc which) s.io)
timers_later s tick rank least late = timers_past s (dues_of s) tick rank least late (λ each low. due_of_rank s each (omega (arith, low)))

-- those below geometry's rank act where they are due
low_acts : (s : MachineState) (rank : ℕ) → rank < actor_rank Divider → due_at (acting_dues s) rank ≡ due_by (actor_of rank) s
low_acts s rank low = other_acts s rank (omega (arith, low)) (λ e. omega (arith, low, e)) ∙ due_of_rank s rank (omega (arith, low))

pub acting_timers_later : (s : MachineState) (tick : Tick) (rank : ℕ) → IsLeast (acting_dues s) tick rank → comes_late (actor_of rank) ≡ true
    → (proc : Proc) (which : ℕ) → which < 4 → IsLater tick (io_due (Timer proc which) s.io)
acting_timers_later s tick rank least late = timers_past s (acting_dues s) tick rank least late (low_acts s)

-- a channel that doesn't run is never ready
never_ready : (now : Tick) (last : Option LastUnit) (trigger : Option Tick) → is_some trigger ≡ false
    → IsLater now (option_map (after_both last) trigger)
never_ready now last None h = tt
never_ready now last (Some trigger) h = absurd (true≢false h)

-- where no channel runs none is ready
none_ready : (now : Tick) (dma : DmaState) → any_runs dma.channels ≡ false → AreReadyLater now dma
none_ready now dma none zero lt = never_ready now dma.last (channel_at dma.channels 0).trigger (or_parts _ _ (or_parts _ _ (or_parts _ _ none).0).0).0
none_ready now dma none (suc zero) lt = never_ready now dma.last (channel_at dma.channels 1).trigger (or_parts _ _ (or_parts _ _ (or_parts _ _ none).0).0).1
none_ready now dma none (suc (suc zero)) lt = never_ready now dma.last (channel_at dma.channels 2).trigger (or_parts _ _ (or_parts _ _ none).0).1
none_ready now dma none (suc (suc (suc zero))) lt = never_ready now dma.last (channel_at dma.channels 3).trigger (or_parts _ _ none).1
none_ready now dma none (suc (suc (suc (suc n)))) lt = absurd (omega (arith, lt))

-- a processor that isn't blocked runs alone
pub none_blocked : (now : Tick) (o : ProcessorIoState) → blocks_processor o ≡ false → AreReadyLater now o.dma
none_blocked now o h = none_ready now o.dma (or_parts o.halted (any_runs o.dma.channels) h).1

-- what holds a processor holds it by more than its own
pub own_blocks : (s : MachineState) (proc : Proc) → is_blocked s proc ≡ false → blocks_processor (io_of s.io proc) ≡ false
own_blocks s Nine h = (or_parts _ _ h).0
own_blocks s Seven h = h

pub not_halted : (s : MachineState) (proc : Proc) → is_blocked s proc ≡ false → is_halted s proc ≡ false
not_halted s proc h = (or_parts _ _ (own_blocks s proc h)).0

-- so where a processor takes its step, as the least of all or as the least acting actor
quiet_due : (s : MachineState) (tick : Tick) (proc : Proc) → processor_due s proc ≡ Some tick
    → ((which : ℕ) → which < 4 → IsLater tick (io_due (Timer proc which) s.io)) → HasOnlyLaterEvents tick (io_of s.io proc)
quiet_due s tick proc due timers = record {
  timers = timers;
  dma = none_blocked tick (io_of s.io proc) (own_blocks s proc (due_then (is_blocked s proc) (processor_of s proc) tick due).0);
}

pub quiet_acting : (s : MachineState) (tick : Tick) (proc : Proc) → IsLeast (acting_dues s) tick (rank_of proc) → HasOnlyLaterEvents tick (io_of s.io proc)
quiet_acting s tick proc least = quiet_due s tick proc (sym (acting_processor s proc) ∙ least.there) (acting_timers_later s tick (rank_of proc) least (late proc) proc) where
  late : (proc : Proc) → comes_late (actor_of (rank_of proc)) ≡ true
  late Nine = refl
  late Seven = refl

-- and where it steps before its turn: its timers are in its fence
fence_timers : (s : MachineState) (proc : Proc) (tick : Tick) → IsBelowFence s proc tick → (which : ℕ) → which < 4 → IsLater tick (io_due (Timer proc which) s.io)
fence_timers s proc tick below which lt = later_if tick (io_due (Timer proc which) s.io) (λ at h.
    (let has = timer_rank proc which lt in
    let rank = actor_rank (Timer proc which) in
    let there : due_at (acting_dues s) rank ≡ Some at = low_acts s rank has.low ∙ ap (λ (a : actor.Actor). due_by a s) has.there ∙ h in
    let P : actor.Actor → Type 0 = λ a. Fences a proc s in
    below rank at there (subst P (sym has.there) refl)))

pub quiet_ahead : (s : MachineState) (proc : Proc) → IsAhead s proc → HasOnlyLaterEvents (tick_of (processor_of s proc)) (io_of s.io proc)
quiet_ahead s proc ahead = record {
  timers = fence_timers s proc (tick_of (processor_of s proc)) ahead.below;
  dma = none_blocked (tick_of (processor_of s proc)) (io_of s.io proc) (own_blocks s proc ahead.private.free);
}
