use Rattle.ds_dma.proofs.Words.{AreReadyLater, Cause, Channel, Control, DmaPort, DmaState, IsDma, IsLater, IsSome, LastUnit, Proc, Reschedules}
use Rattle.ds_dma.proofs.Words.{Source, Target, Tick, after_both, channel_at, channel_controlled, channel_due, channel_set, dma_due, dma_finished}
use Rattle.ds_dma.proofs.Words.{dma_triggered, due_channel, due_with, either_by, equal, if_false, if_true, if◌then◌else◌, is_enabled, is_equal}
use Rattle.ds_dma.proofs.Words.{is_running, is_some, is_triggered, kept_channel_control, least_running, never, ready, starts_immediately, triggered}
use Rattle.std.proofs.Common.{ℕ, ◌≡◌, ◌<◌, ◌≤◌, ◌+◌, inl, inr, List, map, slice_set, refl, sym, ◌∙◌, subst, ap, arith, Bool, true, false, Option, Some, None}
use Rattle.std.specs.Prelude.{◌==◌, option_map}
use Rattle.std.proofs.Math.Nat.{le-max_left, le-max_right}
use Rattle.ds_dma.proofs.Kept.{runs_on}
use Rattle.ds_dma.proofs.Fours.{set_holds, at_mapped}

-- a channel that is triggered at a tick is ready later
triggered_later : (last : Option LastUnit) (now : Tick) → IsLater now (option_map (after_both last) (Some now))
triggered_later None now = omega arith
triggered_later (Some last) now = omega (arith, le-max_left now.0 (last.tick.0 + last.waits))

-- after a unit at a tick each channel is ready later
pub later_after_unit : (now : Tick) (waits : ℕ) (trigger : Option Tick)
    → IsLater now (option_map (after_both (Some (record { tick = now; waits = waits }))) trigger)
later_after_unit now waits None = tt
later_after_unit now waits (Some trigger) = omega (arith, le-max_right trigger.0 (now.0 + waits))

-- where all are ready later, none is due by that tick
pub all_later : (now : Tick) (s : DmaState) (old : Option Tick) → AreReadyLater now s → (each : ℕ) → each < 4 → Reschedules now old (channel_due s each)
all_later now s old later each l =
    inr (either_by (IsLater now) (each == least_running s.channels) _ _ (λ e. later each l) (λ e. tt))

pub finished_later : (s : DmaState) (now : Tick) (waits : ℕ) → AreReadyLater now (dma_finished s now waits)
finished_later s now waits = λ which l. later_after_unit now waits (channel_at (dma_finished s now waits).channels which).trigger

-- a write leaves a channel ready as it was, or later
controlled_later : (proc : Proc) (which : ℕ) (c : Channel) (control : ℕ) (now : Tick) (last : Option LastUnit) → IsLater now (ready last c)
    → IsLater now (ready last (channel_controlled proc which c control now))
controlled_later proc which c control now last h =
    let P : Channel → Type 0 = λ x. IsLater now (ready last x) in
    either_by P (is_enabled control) _ _
    (λ on. either_by P (is_enabled c.cnt) _ _ (λ was. h)
    (λ was. either_by (λ o. IsLater now (option_map (after_both last) o)) (starts_immediately proc control) _ _
    (λ e. triggered_later last now) (λ e. tt)))
    (λ off. tt)

set_later : (proc : Proc) (which : ℕ) (port : DmaPort) (value : ℕ) (now : Tick) (c : Channel) (last : Option LastUnit) → IsLater now (ready last c)
    → IsLater now (ready last (channel_set proc which port value now c))
set_later proc which Source value now c last h = h
set_later proc which Target value now c last h = h
set_later proc which Control value now c last h = controlled_later proc which c (kept_channel_control proc which value) now last h

pub written_later : (s : DmaState) (which : ℕ) (port : DmaPort) (value : ℕ) (now : Tick) → IsDma s → which < 4 → AreReadyLater now s
    → AreReadyLater now (record s { channels = slice_set s.channels which (channel_set s.proc which port value now (channel_at s.channels which)) })
written_later s which port value now is l later = λ each m.
    set_holds (λ x. IsLater now (ready s.last x)) s.channels which (channel_set s.proc which port value now (channel_at s.channels which)) is.four l
    (set_later s.proc which port value now (channel_at s.channels which) s.last (later which l)) each (later each m)

-- and so does an event
one_triggered : (proc : Proc) (cause : Cause) (now : Tick) (c : Channel) (last : Option LastUnit) → IsLater now (ready last c)
    → IsLater now (ready last (triggered proc cause now c))
one_triggered proc cause now c last h =
    either_by (λ x. IsLater now (ready last x)) (is_triggered proc cause c) _ _ (λ e. triggered_later last now) (λ e. h)

pub event_later : (s : DmaState) (cause : Cause) (now : Tick) → IsDma s → AreReadyLater now s → AreReadyLater now (dma_triggered s cause now)
event_later s cause now is later = λ each m.
    subst (λ x. IsLater now (ready s.last x)) (sym (at_mapped (triggered s.proc cause now) s.channels each is.four m))
    (one_triggered s.proc cause now (channel_at s.channels each) s.last (later each m))

-- the least of three that hold, and 3 where none does
abbrev least_of : Bool → Bool → Bool → ℕ
least_of a b c = if a then 0 else (if b then 1 else (if c then 2 else 3))

-- where more hold than before, and the least one held before, it was the least one before
least_same : (a b c x y z : Bool) → (a ≡ true → x ≡ true) → (b ≡ true → y ≡ true) → (c ≡ true → z ≡ true) → (n : ℕ) → n ≡ least_of x y z
    → (n ≡ 0 → x ≡ a) → (n ≡ 1 → y ≡ b) → (n ≡ 2 → z ≡ c) → n ≡ least_of a b c
least_same true b c true y z f g h n e p q r = e
least_same true b c false y z f g h n e p q r = never false (f refl) refl
least_same false b c true y z f g h n e p q r = never false (sym (p e)) refl
least_same false true c false true z f g h n e p q r = e
least_same false true c false false z f g h n e p q r = never false (g refl) refl
least_same false false c false true z f g h n e p q r = never false (sym (q e)) refl
least_same false false true false false true f g h n e p q r = e
least_same false false true false false false f g h n e p q r = never false (h refl) refl
least_same false false false false false true f g h n e p q r = never false (sym (r e)) refl
least_same false false false false false false f g h n e p q r = e

pub still_runs : (proc : Proc) (cause : Cause) (now : Tick) (c : Channel) → is_running c ≡ true → is_running (triggered proc cause now c) ≡ true
still_runs proc cause now c h = either_by (λ x. is_running x ≡ true) (is_triggered proc cause c) _ _ (λ e. refl) (λ e. h)

-- a channel that is least after an event, and that it doesn't trigger, was least before
least_before : (s : DmaState) (cause : Cause) (now : Tick) → IsDma s → (each : ℕ) → each ≡ least_running (map (triggered s.proc cause now) s.channels)
    → is_running (triggered s.proc cause now (channel_at s.channels each)) ≡ is_running (channel_at s.channels each) → each ≡ least_running s.channels
least_before s cause now is each e same =
    let f = triggered s.proc cause now in
    let at : ℕ → Channel = channel_at s.channels in
    let P : ℕ → Type 0 = λ k. is_running (f (at k)) ≡ is_running (at k) in
    let moved : (k : ℕ) → k < 4 → is_running (channel_at (map f s.channels) k) ≡ is_running (f (at k)) = λ k l. ap is_running (at_mapped f s.channels k is.four l) in
    let picks : least_running (map f s.channels) ≡ least_of (is_running (f (at 0))) (is_running (f (at 1))) (is_running (f (at 2))) =
    ap (λ b. least_of b (is_running (channel_at (map f s.channels) 1)) (is_running (channel_at (map f s.channels) 2))) (moved 0 (omega arith))
    ∙ ap (λ b. least_of (is_running (f (at 0))) b (is_running (channel_at (map f s.channels) 2))) (moved 1 (omega arith))
    ∙ ap (λ b. least_of (is_running (f (at 0))) (is_running (f (at 1))) b) (moved 2 (omega arith)) in
    least_same (is_running (at 0)) (is_running (at 1)) (is_running (at 2)) (is_running (f (at 0))) (is_running (f (at 1))) (is_running (f (at 2)))
    (still_runs s.proc cause now (at 0)) (still_runs s.proc cause now (at 1)) (still_runs s.proc cause now (at 2))
    each (e ∙ picks)
    (λ z. subst P z same) (λ z. subst P z same) (λ z. subst P z same)

-- an event leaves each channel due as it was, or later
pub event_schedules : (s : DmaState) (cause : Cause) (now : Tick) → IsDma s → (each : ℕ) → each < 4
    → Reschedules now (channel_due s each) (channel_due (dma_triggered s cause now) each)
event_schedules s cause now is each m =
    let f = triggered s.proc cause now in
    let c = channel_at s.channels each in
    let there = at_mapped f s.channels each is.four m in
    let least = least_running (map f s.channels) in
    let P : Option Tick → Type 0 = λ o. Reschedules now (channel_due s each) o in
    either_by P (each == least) _ _
    (λ e. subst (λ x. P (ready s.last x)) (sym there)
    (either_by (λ x. P (ready s.last x)) (is_triggered s.proc cause c) _ _
    (λ t. inr (triggered_later s.last now))
    (λ t. (let before = least_before s cause now is each (equal each least e) (ap is_running (if_false (is_triggered s.proc cause c) _ _ t)) in
    inl (sym (if_true (each == least_running s.channels) _ _ (is_equal each (least_running s.channels) before)))))))
    (λ e. inr tt)

-- the least running channel is below 4
pub least_below : (channels : List Channel) → least_running channels < 4
least_below channels =
    let P : ℕ → Type 0 = λ n. n < 4 in
    either_by P (is_running (channel_at channels 0)) _ _ (λ e. omega arith)
    (λ e. either_by P (is_running (channel_at channels 1)) _ _ (λ f. omega arith)
    (λ f. either_by P (is_running (channel_at channels 2)) _ _ (λ g. omega arith) (λ g. omega arith)))

due_runs : (which : ℕ) (last : Option LastUnit) (trigger : Option Tick)
    → IsSome (due_with which (option_map (after_both last) trigger)) → is_some trigger ≡ true
due_runs which last None h = never false h refl
due_runs which last (Some trigger) h = refl

-- the channel that is due is enabled, and has a unit left
pub due_is_on : (s : DmaState) → IsDma s → IsSome (dma_due s) → is_enabled (due_channel s).cnt ≡ true
due_is_on s is due =
    let which = least_running s.channels in
    runs_on s.proc which (due_channel s) (is.each which (least_below s.channels)) (due_runs which s.last (due_channel s).trigger due)

pub due_has_some : (s : DmaState) → IsDma s → IsSome (dma_due s) → 1 ≤ (due_channel s).remaining
due_has_some s is due = (is.each (least_running s.channels) (least_below s.channels)).some (due_is_on s is due)
