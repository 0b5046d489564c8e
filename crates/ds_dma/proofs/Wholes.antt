use Rattle.ds_dma.proofs.Words.{AreReadyLater, Cause, Channel, DmaPort, DmaState, Geometry, IsDma, IsSome, Proc, Tick, after_unit, and_false}
use Rattle.ds_dma.proofs.Words.{any_runs, channel_at, channel_refusal, channel_set, dma_due, dma_finished, dma_triggered, due_channel, either_by}
use Rattle.ds_dma.proofs.Words.{if_false, if◌then◌else◌, is_enabled, is_running, is_some, is_triggered, least_running, most_waits, neither, never}
use Rattle.ds_dma.proofs.Words.{triggered, waits_for, ◌&&◌, ◌||◌}
use Rattle.std.proofs.Common.{ℕ, ◌≡◌, ◌<◌, ◌≤◌, [], ◌∷◌, length, map, refl, sym, ◌∙◌, ap, arith, Bool, true, false, Option, Some, None}
use Rattle.ds_base.specs.declared.left_out.Stop.{Stop}
use Rattle.ds_dma.specs.States.{awaits_geometry, channel_written}
use Rattle.ds_dma.proofs.Fours.{are_set, at_mapped, four_are, mapped_is}
use Rattle.ds_dma.proofs.Kept.{taken_is, triggered_is, written_is}
use Rattle.ds_dma.proofs.Turns.{due_is_on, least_below, still_runs, written_later}

-- What each call makes of all four channels.

unless_holds : (P : DmaState → Type 0) (refusal : Option Stop) (old new : DmaState) → P old → (refusal ≡ None → P new) → P (if is_some refusal then old else new)
unless_holds P None old new h f = f refl
unless_holds P (Some stop) old new h f = h

-- after a write of a port, whether it is taken or not, they are the channels still
pub channel_written_is : (s : DmaState) (which : ℕ) (port : DmaPort) (value : ℕ) (now : Tick) → IsDma s → which < 4
    → IsDma (channel_written s which port value now)
channel_written_is s which port value now is l =
    let c = channel_at s.channels which in
    unless_holds IsDma (channel_refusal s.proc which port value c) s _ is
    (λ e. are_set s which (channel_set s.proc which port value now c) s.last is l (written_is s.proc which port value now c (is.each which l)) is.last)

-- and come later than its tick where they did
pub channel_written_later : (s : DmaState) (which : ℕ) (port : DmaPort) (value : ℕ) (now : Tick) → IsDma s → which < 4 → AreReadyLater now s
    → AreReadyLater now (channel_written s which port value now)
channel_written_later s which port value now is l later =
    unless_holds (AreReadyLater now) (channel_refusal s.proc which port value (channel_at s.channels which)) s _ later
    (λ e. written_later s which port value now is l later)

-- after an event they are the channels still
pub dma_triggered_is : (s : DmaState) (cause : Cause) (now : Tick) → IsDma s → IsDma (dma_triggered s cause now)
dma_triggered_is s cause now is = mapped_is s (triggered s.proc cause now) (λ which c each. triggered_is s.proc which cause now c each) is

-- after the unit that is due they are the channels still
pub dma_finished_is : (s : DmaState) (now : Tick) (waits : ℕ) → waits ≤ most_waits → IsDma s → IsSome (dma_due s) → IsDma (dma_finished s now waits)
dma_finished_is s now waits brief is due =
    let which = least_running s.channels in
    let l = least_below s.channels in
    let c = due_channel s in
    are_set s which (after_unit s.proc which c) (Some (record { tick = now; waits = waits })) is l (taken_is s.proc which c (is.each which l) (due_is_on s is due)) brief

or_keeps : (a b x y : Bool) → (a ≡ true → x ≡ true) → (b ≡ true → y ≡ true) → (a || b) ≡ true → (x || y) ≡ true
or_keeps true b true y f g h = refl
or_keeps true b false y f g h = never false (f refl) refl
or_keeps false b true y f g h = refl
or_keeps false b false y f g h = g h

-- an event ends no transfer
pub event_runs : (s : DmaState) (cause : Cause) (now : Tick) → IsDma s → any_runs s.channels ≡ true → any_runs (dma_triggered s cause now).channels ≡ true
event_runs s cause now is runs =
    let f = triggered s.proc cause now in
    let on : (k : ℕ) → k < 4 → is_running (channel_at s.channels k) ≡ true → is_running (channel_at (map f s.channels) k) ≡ true =
    λ k l h. ap is_running (at_mapped f s.channels k is.four l) ∙ still_runs s.proc cause now (channel_at s.channels k) h in
    or_keeps _ _ _ _ (or_keeps _ _ _ _ (or_keeps _ _ _ _ (on 0 (omega arith)) (on 1 (omega arith))) (on 2 (omega arith))) (on 3 (omega arith)) runs

both_false : (a b : Bool) → a ≡ false → b ≡ false → (a || b) ≡ false
both_false true b h i = never true refl h
both_false false b h i = i

-- WHERE NO CHANNEL WAITS FOR THE GEOMETRY FIFO, ITS EVENT CHANGES NOTHING
pub awaits_none : (s : DmaState) (now : Tick) → length s.channels ≡ 4 → awaits_geometry s ≡ false → dma_triggered s Geometry now ≡ s
awaits_none s now four none =
    let f = triggered s.proc Geometry now in
    let at = channel_at s.channels in
    let waits : ℕ → Bool = λ k. is_triggered s.proc Geometry (at k) in
    let low = neither (waits 0 || waits 1 || waits 2) (waits 3) none in
    let lower = neither (waits 0 || waits 1) (waits 2) low.0 in
    let lowest = neither (waits 0) (waits 1) lower.0 in
    let stays : (k : ℕ) → waits k ≡ false → f (at k) ≡ at k = λ k h. if_false (waits k) _ _ h in
    ap (λ xs. record s { channels = map f xs }) (four_are s.channels four)
    ∙ ap (λ x. record s { channels = x ∷ f (at 1) ∷ f (at 2) ∷ f (at 3) ∷ [] }) (stays 0 lowest.0)
    ∙ ap (λ x. record s { channels = at 0 ∷ x ∷ f (at 2) ∷ f (at 3) ∷ [] }) (stays 1 lowest.1)
    ∙ ap (λ x. record s { channels = at 0 ∷ at 1 ∷ x ∷ f (at 3) ∷ [] }) (stays 2 lower.1)
    ∙ ap (λ x. record s { channels = at 0 ∷ at 1 ∷ at 2 ∷ x ∷ [] }) (stays 3 low.1)
    ∙ ap (λ xs. record s { channels = xs }) (sym (four_are s.channels four))

-- a channel that an event triggered, or that it didn't trigger, isn't triggered by it again
triggered_once : (proc : Proc) (cause : Cause) (now : Tick) (c : Channel) → is_triggered proc cause (triggered proc cause now c) ≡ false
triggered_once proc cause now c =
    either_by (λ x. is_triggered proc cause x ≡ false) (is_triggered proc cause c) _ _
    (λ e. and_false (is_enabled c.cnt && waits_for proc cause c.cnt)) (λ e. e)

-- AND AFTER IT NONE WAITS
pub awaits_no_more : (s : DmaState) (now : Tick) → length s.channels ≡ 4 → awaits_geometry (dma_triggered s Geometry now) ≡ false
awaits_no_more s now four =
    let f = triggered s.proc Geometry now in
    let no : (k : ℕ) → k < 4 → is_triggered s.proc Geometry (channel_at (map f s.channels) k) ≡ false =
    λ k l. ap (is_triggered s.proc Geometry) (at_mapped f s.channels k four l) ∙ triggered_once s.proc Geometry now (channel_at s.channels k) in
    both_false _ _ (both_false _ _ (both_false _ _ (no 0 (omega arith)) (no 1 (omega arith))) (no 2 (omega arith))) (no 3 (omega arith))
