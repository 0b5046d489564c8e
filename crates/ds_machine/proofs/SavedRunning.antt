use Rattle.ds_machine.proofs.Words.{AllByRecursion, Asked, Bool, CardState, Channel, DmaState, GxState, IfSome, IrqState, IsOver, KeyLine, List, None}
use Rattle.ds_machine.proofs.Words.{Option, Seven, Some, StandsFor, Tick, TimerState, VideoState, [], any_runs, ap, arith, asked_last, bit_and}
use Rattle.ds_machine.proofs.Words.{bit_at, bit_at-zero, bit_at_and, bit_at_or, bit_not, bit_or, both, both_true, card_due, card_format, channel_at}
use Rattle.ds_machine.proofs.Words.{channel_comes_before, channel_due, channel_format_by, comes_by, dma_due, dma_format_by, due_number, due_with}
use Rattle.ds_machine.proofs.Words.{equal, events, false, gx_format_by, gx_level, held_due, holds_by, if◌then◌else◌, irq_format_by, irq_levelled}
use Rattle.ds_machine.proofs.Words.{is_half_empty, is_running, is_stalled, kept_twice, keys_due, late_runs_by, le-max_left, le-max_right, le_of}
use Rattle.ds_machine.proofs.Words.{least_running, level, max, nat_lt, none_earlier, not, not_false, not_lt, not_true, ready, refl, same_from_bits}
use Rattle.ds_machine.proofs.Words.{scan_before, script_from, shares_bit, sleeps_by, soon, subst, suc, sym, timer_at, timer_due, timers_format, true}
use Rattle.ds_machine.proofs.Words.{true≢false, video_format, w32, waiting_entries, zero, ℕ, ◌&&◌, ◌==◌, ◌||◌, ◌∙◌, ◌∷◌, ◌≡◌, ◌≤◌}
use Rattle.ds_math.specs.Saved.{divider_format, root_format}
use Rattle.ds_math.specs.Dividers.{DividerState}
use Rattle.ds_math.specs.Roots.{RootState}
use Rattle.ds_timers.specs.Saved.{anchor_number, anchors_by, numbered_anchor, timer_format}
use Rattle.ds_timers.specs.Timing.{full, pace, runs_free}
use Rattle.gx_geometry.specs.Saved.{geometry_format}
use Rattle.gx_geometry.specs.States.{GeometryState}

-- What a part that bytes stand for keeps: no tick at which it is due is earlier than that of the state.

abbrev pub IsDueFrom : ℕ → Option Tick → Type 0
IsDueFrom at None = Unit {0}
IsDueFrom at (Some due) = at ≤ due.0

abbrev IsThere : Option Tick → Type 0
IsThere None = ⊥
IsThere (Some due) = Unit {0}

pub over_from : (at : ℕ) (dues : List (Option Tick)) → AllByRecursion (IsDueFrom at) dues → IsOver dues at
over_from at [] all zero tick h = absurd (subst IsThere (sym h) tt)
over_from at [] all (suc rank) tick h = absurd (subst IsThere (sym h) tt)
over_from at (due ∷ dues) all zero tick h = subst (IsDueFrom at) h all.0
over_from at (due ∷ dues) all (suc rank) tick h = over_from at dues all.1 rank tick h

soon_from : (at : ℕ) (due : Option Tick) → soon at (due_number due) ≡ true → IsDueFrom at due
soon_from at None h = tt
soon_from at (Some due) h = le_of at due.0 (both _ _ h).0

-- the key script
pub script_due : (at : ℕ) (keys : List KeyLine) → IsDueFrom at (keys_due (script_from at keys))
script_due at [] = tt
script_due at (line ∷ lines) = by_line (nat_lt line.tick.0 at) refl (script_due at lines) where
  by_line : (b : Bool) → nat_lt line.tick.0 at ≡ b → IsDueFrom at (keys_due (script_from at lines))
      → IsDueFrom at (keys_due (if b then script_from at lines else line ∷ lines))
  by_line true e later = later
  by_line false e later = not_lt line.tick.0 at e

-- the timers
free_from : (free : Bool) (at control count number : ℕ) → anchors_by free control count at number ≡ true
    → IsDueFrom at (full (if free then Some (record { 0 = number }) else None) count (pace control))
free_from true at control count number h = le_of _ _ (both _ _ h).1
free_from false at control count number h = tt

timer_from : (which at : ℕ) (t : TimerState) → StandsFor (timer_format which) at t → IsDueFrom at (timer_due t)
unfolding timer_format
timer_from which at t stands =
    let since : numbered_anchor which t.control (anchor_number t.since) ≡ t.since = ap (λ (x : TimerState). x.since) stands.1 in
    subst (λ (s : Option Tick). IsDueFrom at (full s t.count (pace t.control))) since
    (free_from (runs_free which t.control) at t.control t.count (anchor_number t.since) stands.0.2.2.2.1)

pub timers_from : (at : ℕ) (timers : List TimerState) → StandsFor timers_format at timers
    → IsDueFrom at (timer_due (timer_at timers 0)) × IsDueFrom at (timer_due (timer_at timers 1)) × IsDueFrom at (timer_due (timer_at timers 2)) × IsDueFrom at (timer_due (timer_at timers 3))
unfolding timers_format
timers_from at timers stands =
    (timer_from 0 at (timer_at timers 0) stands.0.0, timer_from 1 at (timer_at timers 1) stands.0.1.0, timer_from 2 at (timer_at timers 2) stands.0.1.1.0, timer_from 3 at (timer_at timers 3) stands.0.1.1.1.0)

-- the divider and the square root unit
pub divider_from : (at : ℕ) (d : DividerState) → StandsFor divider_format at d → IsDueFrom at d.due
unfolding divider_format
divider_from at d stands = soon_from at d.due stands.0.2.2.2.2.2.1

pub root_from : (at : ℕ) (r : RootState) → StandsFor root_format at r → IsDueFrom at r.due
unfolding root_format
root_from at r stands = soon_from at r.due stands.0.2.2.2.1

-- the card
pub card_from : (file : List ℕ) (at : ℕ) (c : CardState) → StandsFor (card_format file) at c → IsDueFrom at (card_due c)
unfolding card_format
card_from file at c stands = soon_from at (card_due c) (both _ _ stands.0.2.2.2.2.2.2.1).0

-- the display
pub scan_again : (at : ℕ) (v : VideoState) → StandsFor (video_format at) at v → v.scan ≡ scan_before at
unfolding video_format
scan_again at v stands = sym (ap (λ (w : VideoState). w.scan) stands.1)

-- geometry
pub gx_from : (asked : ℕ → ℕ → Bool) (at : ℕ) (gx : GxState) → StandsFor (gx_format_by asked) at gx → IsDueFrom at gx.due
unfolding gx_format_by
gx_from asked at gx stands = soon_from at gx.due stands.0.1.2.2.2.2.2.2.1

pub gx_holds : (asked : ℕ → ℕ → Bool) (at : ℕ) (gx : GxState) → StandsFor (gx_format_by asked) at gx → asked gx.selector (waiting_entries gx) ≡ true
unfolding gx_format_by
gx_holds asked at gx stands = (both _ _ stands.0.1.2.2.1).0

geometry_run : (at : ℕ) (g : GeometryState) → StandsFor geometry_format at g → g.numbers.run ≤ at
unfolding geometry_format
geometry_run at g stands = le_of g.numbers.run at stands.0.1.2.2.2.2.2.2.2.2.2.2.2.2.2.2.2.2.2.2.2.2.2.1.1.1.1.2.1

pub gx_run : (asked : ℕ → ℕ → Bool) (at : ℕ) (gx : GxState) → StandsFor (gx_format_by asked) at gx → gx.geometry.numbers.run ≤ at
unfolding gx_format_by
gx_run asked at gx stands = geometry_run at gx.geometry stands.0.0

-- ARM9's channels: what a stall's end left holds one back that would come before
before_or : (at : ℕ) (t : Tick) (b : Bool) → nat_lt t.0 at ≡ b → at ≤ max (if b then at else 0) t.0
before_or at t true e = le-max_left at t.0
before_or at t false e = let late = not_lt t.0 at e in let le = le-max_right 0 t.0 in omega (arith, late, le)

held_from : (stalled : Bool) (at least : ℕ) (r : Option Tick)
    → IsDueFrom at (held_due stalled (if stalled then 0 else (if channel_comes_before (due_with least r) at then at else 0)) r)
held_from true at least r = tt
held_from false at least None = tt
held_from false at least (Some t) = before_or at t (nat_lt t.0 at) refl

none_held : (stalled : Bool) (at released : ℕ) → IsDueFrom at (held_due stalled released None)
none_held true at released = tt
none_held false at released = tt

of_channel : (stalled : Bool) (at released : ℕ) (dma : DmaState) (which : ℕ)
    → IsDueFrom at (held_due stalled released (ready dma.last (channel_at dma.channels (least_running dma.channels)))) → IsDueFrom at (held_due stalled released (channel_due dma which))
of_channel stalled at released dma which from = by_same (which == least_running dma.channels) refl where
  by_same : (b : Bool) → (which == least_running dma.channels) ≡ b → IsDueFrom at (held_due stalled released (if b then ready dma.last (channel_at dma.channels which) else None))
  by_same true e = subst (λ (n : ℕ). IsDueFrom at (held_due stalled released (ready dma.last (channel_at dma.channels n)))) (sym (equal which (least_running dma.channels) e)) from
  by_same false e = none_held stalled at released

pub nine_channel : (at : ℕ) (gx : GxState) (dma : DmaState) (released : ℕ)
    → released ≡ (if is_stalled gx then 0 else (if channel_comes_before (dma_due dma) at then at else 0)) → (which : ℕ)
    → IsDueFrom at (held_due (is_stalled gx) released (channel_due dma which))
nine_channel at gx dma released is which =
    of_channel (is_stalled gx) at released dma which
    (subst (λ (n : ℕ). IsDueFrom at (held_due (is_stalled gx) n (ready dma.last (channel_at dma.channels (least_running dma.channels))))) (sym is)
    (held_from (is_stalled gx) at (least_running dma.channels) (ready dma.last (channel_at dma.channels (least_running dma.channels)))))

-- ARM7's
comes_again : (asked : Bool → Bool) (at : ℕ) (dma : DmaState) → StandsFor (dma_format_by Seven asked) at dma → comes_by Seven at (dma_due dma) ≡ true
unfolding dma_format_by
comes_again asked at dma stands = subst (λ (d : DmaState). comes_by Seven at (dma_due d) ≡ true) stands.1 (both _ _ stands.0.1.1.1.1.2.1).0

not_before : (at least : ℕ) (r : Option Tick) → IfSome (due_with least r) (λ due. at ≤ due.tick.0) → IsDueFrom at (held_due false 0 r)
not_before at least None h = tt
not_before at least (Some t) h = let le = le-max_right 0 t.0 in omega (arith, h, le)

unheld : (at : ℕ) (r : Option Tick) → IsDueFrom at (held_due false 0 r) → IsDueFrom at r
unheld at None h = tt
unheld at (Some t) h = omega (arith, h)

pub seven_channel : (asked : Bool → Bool) (at : ℕ) (dma : DmaState) → StandsFor (dma_format_by Seven asked) at dma → (which : ℕ)
    → IsDueFrom at (channel_due dma which)
seven_channel asked at dma stands which =
    unheld at (channel_due dma which)
    (of_channel false at 0 dma which
    (not_before at (least_running dma.channels) (ready dma.last (channel_at dma.channels (least_running dma.channels)))
    (none_earlier Seven at (dma_due dma) (comes_again asked at dma stands) refl)))

channel_runs : (asked : Bool → Bool) (at : ℕ) (c : Channel) → StandsFor (channel_format_by Seven 3 asked) at c → asked (is_running c) ≡ true
unfolding channel_format_by
channel_runs asked at c stands = (both _ _ stands.0.2.2.2.2.2.2.2.1).0

pub late_runs : (late : Bool) (at : ℕ) (dma : DmaState) → StandsFor (dma_format_by Seven (late_runs_by late)) at dma → late ≡ true
    → any_runs dma.channels ≡ true
unfolding dma_format_by
late_runs late at dma stands is =
    let before = is_running (channel_at dma.channels 0) || is_running (channel_at dma.channels 1) || is_running (channel_at dma.channels 2) in
    subst (λ (b : Bool). late_runs_by b (any_runs dma.channels) ≡ true) is
    (channel_runs (asked_last (late_runs_by late) before) at (channel_at dma.channels 3) stands.0.1.1.1.0)

-- the processors
pub own_from : (halted runs : Bool) (at due : ℕ) → ((not halted && nat_lt due at) ≡ true → runs ≡ true) → IsDueFrom at (if (halted || runs) then None else Some (record { 0 = due }))
own_from true runs at due held = tt
own_from false true at due held = tt
own_from false false at due held = by_late (nat_lt due at) refl where
  by_late : (b : Bool) → nat_lt due at ≡ b → at ≤ due
  by_late true e = absurd (true≢false (sym (held e)))
  by_late false e = not_lt due at e

pub own_from_nine : (halted runs stalled : Bool) (at due : ℕ) → (((not halted && nat_lt due at) && not runs) ≡ true → stalled ≡ true)
    → IsDueFrom at (if ((halted || runs) || stalled) then None else Some (record { 0 = due }))
own_from_nine true runs stalled at due held = tt
own_from_nine false true stalled at due held = tt
own_from_nine false false true at due held = tt
own_from_nine false false false at due held = by_late (nat_lt due at) refl where
  by_late : (b : Bool) → nat_lt due at ≡ b → at ≤ due
  by_late true e = absurd (true≢false (sym (held (both_true _ _ e refl))))
  by_late false e = not_lt due at e

-- ---- interrupts: no halted processor is to wake, and ARM9's FIFO's bit is told as it is

-- what was asked of geometry's entries
pub record Answers (asked : Asked) (selector waiting : ℕ) (low stalls half : Bool) : Type 0 where
  pub wakes : asked.wakes ≡ false
  pub hears : asked.hears ≡ true → low ≡ false
  pub late : asked.late ≡ true → stalls ≡ true
  pub waits : asked.waits ≡ true → half ≡ false

pub answered : (asked : Asked) (at : ℕ) (gx : GxState) → StandsFor (gx_format_by (holds_by asked)) at gx
    → Answers asked gx.selector (waiting_entries gx) (gx_level gx) (is_stalled gx) (is_half_empty gx)
answered asked at gx stands =
    let three = both _ _ (gx_holds (holds_by asked) at gx stands) in
    let two = both _ _ three.0 in
    let one = both _ _ two.0 in
    record {
      wakes = not_true asked.wakes one.0;
      hears = λ e. not_true (gx_level gx) (subst (λ (b : Bool). not (b && gx_level gx) ≡ true) e one.1);
      late = λ e. subst (λ (b : Bool). (not b || is_stalled gx) ≡ true) e two.1;
      waits = λ e. not_true (is_half_empty gx) (subst (λ (b : Bool). not (b && is_half_empty gx) ≡ true) e three.1);
    }

or_zero : (a x y : ℕ) → bit_and a x ≡ 0 → bit_and a y ≡ 0 → bit_and a (bit_or x y) ≡ 0
or_zero a x y h k = same_from_bits (bit_and a (bit_or x y)) 0 (λ i.
    let p = bit_at_and a (bit_or x y) i in let q = bit_at_or x y i in let r = bit_at_and a x i in let s = bit_at_and a y i in
    let no_x : bit_at (bit_and a x) i ≡ 0 = ap (λ (n : ℕ). bit_at n i) h ∙ bit_at-zero i in
    let no_y : bit_at (bit_and a y) i ≡ 0 = ap (λ (n : ℕ). bit_at n i) k ∙ bit_at-zero i in
    let none = bit_at-zero i in
    omega (arith, p, q, r, s, no_x, no_y, none))

or_twice : (x y : ℕ) → bit_or (bit_or x y) y ≡ bit_or x y
or_twice x y = same_from_bits (bit_or (bit_or x y) y) (bit_or x y) (λ i. let a = bit_at_or (bit_or x y) y i in let b = bit_at_or x y i in omega (arith, a, b))

pub levelled_twice : (s : IrqState) (on : Bool) → (irq_levelled (irq_levelled s on) on).if_ ≡ (irq_levelled s on).if_
levelled_twice s true = or_twice s.if_ level
levelled_twice s false = kept_twice s.if_ (bit_not w32 level)

none_shared : (a b : ℕ) → not (bit_and a b == 0) ≡ false → bit_and a b ≡ 0
none_shared a b h = equal (bit_and a b) 0 (not_false _ h)

shares_none : (a b : ℕ) → bit_and a b ≡ 0 → not (bit_and a b == 0) ≡ false
shares_none a b h = ap (λ (n : ℕ). not (n == 0)) h

-- ARM9, with what is made of its interrupt words without the FIFO's bit
pub nine_asleep : (halted on : Bool) (i : IrqState) → events i.if_ ≡ i.if_ → (halted && shares_bit i) ≡ false → ((halted && not (bit_and i.ie level == 0)) ≡ true → on ≡ false)
    → (halted && shares_bit (irq_levelled i on)) ≡ false
nine_asleep false on i low apart hears = refl
nine_asleep true false i low apart hears = ap (λ (n : ℕ). not (bit_and i.ie n == 0)) low ∙ apart
nine_asleep true true i low apart hears = by_bit (not (bit_and i.ie level == 0)) refl where
  by_bit : (b : Bool) → not (bit_and i.ie level == 0) ≡ b → not (bit_and i.ie (bit_or i.if_ level) == 0) ≡ false
  by_bit true e = absurd (true≢false (hears e))
  by_bit false e = shares_none i.ie (bit_or i.if_ level) (or_zero i.ie i.if_ level (none_shared i.ie i.if_ apart) (none_shared i.ie level e))

-- ARM7
pub seven_asleep : (halted : Bool) (at : ℕ) (i : IrqState) → StandsFor (irq_format_by Seven (sleeps_by halted)) at i → (halted && shares_bit i) ≡ false
unfolding irq_format_by
seven_asleep halted at i stands =
    ap (λ (n : ℕ). halted && not (bit_and i.ie n == 0)) (sym (ap (λ (j : IrqState). j.if_) stands.1))
    ∙ not_true (halted && not (bit_and i.ie (events i.if_) == 0)) (both _ _ stands.0.2.2.1).0
