use Rattle.ds_dma.proofs.Words.{Cause, Channel, Control, DmaPort, DmaState, HasEarlyTicks, IsEarly, LastUnit, Proc, Source, Target, Tick, after_unit}
use Rattle.ds_dma.proofs.Words.{channel_at, channel_controlled, channel_set, either_by, if◌then◌else◌, is_armed_again, is_enabled, is_last_of_burst}
use Rattle.ds_dma.proofs.Words.{is_last_unit, is_triggered, kept_channel_control, last_tick, not, starts_immediately, triggered}
use Rattle.std.proofs.Common.{ℕ, ◌<◌, ◌≤◌, ◌^◌, ◌≡◌, length, map, slice_set, sym, subst, Bool, true, false, Option, Some, None}
use Rattle.ds_dma.proofs.Fours.{at_mapped, set_holds}

-- a tick that is early, where there is one
early_where : (now : Tick) (free : Bool) → now.0 ≤ 2 ^ 56 → IsEarly (if free then Some now else None)
early_where now true h = h
early_where now false h = tt

controlled_early : (proc : Proc) (which : ℕ) (c : Channel) (control : ℕ) (now : Tick) → IsEarly c.trigger → now.0 ≤ 2 ^ 56
    → IsEarly (channel_controlled proc which c control now).trigger
controlled_early proc which c control now was early =
    let P : Channel → Type 0 = λ x. IsEarly x.trigger in
    either_by P (is_enabled control) _ _
    (λ on. either_by P (is_enabled c.cnt) _ _ (λ e. was) (λ e. early_where now (starts_immediately proc control) early))
    (λ off. tt)

-- after a write at an early tick a channel's trigger is early still
pub written_early : (proc : Proc) (which : ℕ) (port : DmaPort) (value : ℕ) (now : Tick) (c : Channel) → IsEarly c.trigger → now.0 ≤ 2 ^ 56
    → IsEarly (channel_set proc which port value now c).trigger
written_early proc which Source value now c was early = was
written_early proc which Target value now c was early = was
written_early proc which Control value now c was early = controlled_early proc which c (kept_channel_control proc which value) now was early

-- and after an event at one
pub triggered_early : (proc : Proc) (cause : Cause) (now : Tick) (c : Channel) → IsEarly c.trigger → now.0 ≤ 2 ^ 56
    → IsEarly (triggered proc cause now c).trigger
triggered_early proc cause now c was early =
    either_by (λ (x : Channel). IsEarly x.trigger) (is_triggered proc cause c) _ _ (λ e. early) (λ e. was)

-- and after its first unit
pub taken_early : (proc : Proc) (which : ℕ) (c : Channel) → IsEarly c.trigger → IsEarly (after_unit proc which c).trigger
taken_early proc which c was =
    let P : Channel → Type 0 = λ x. IsEarly x.trigger in
    either_by P (not (is_last_unit c)) _ _ (λ e. either_by P (is_last_of_burst c) _ _ (λ f. tt) (λ f. was)) (λ e. either_by P (is_armed_again proc c.cnt) _ _ (λ f. tt) (λ f. tt))

-- with another channel in one place and another last unit, both early, all are early still
pub early_set : (s : DmaState) (which : ℕ) (c : Channel) (last : Option LastUnit) → length s.channels ≡ 4 → HasEarlyTicks s → which < 4
    → IsEarly c.trigger → IsEarly (last_tick last) → HasEarlyTicks (record s { channels = slice_set s.channels which c; last = last })
early_set s which c last four was l put early = record {
  trigger = λ i m. set_holds (λ x. IsEarly x.trigger) s.channels which c four l put i (was.trigger i m);
  last = early;
}

-- and they are where what is done to each keeps it early
pub mapped_early : (s : DmaState) (f : Channel → Channel) → length s.channels ≡ 4 → ((c : Channel) → IsEarly c.trigger → IsEarly (f c).trigger)
    → HasEarlyTicks s → HasEarlyTicks (record s { channels = map f s.channels })
mapped_early s f four keeps was = record {
  trigger = λ i m. subst (λ (x : Channel). IsEarly x.trigger) (sym (at_mapped f s.channels i four m)) (keeps (channel_at s.channels i) (was.trigger i m));
  last = was.last;
}
