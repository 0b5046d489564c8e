use Rattle.ds_ports.proofs.Words.{Bool, Channel, DmaState, Geometry, GxCommand, GxState, GxWord, IoState, List, Nine, None, Option, Proc, Register}
use Rattle.ds_ports.proofs.Words.{Seven, Some, Tick, acting_io_due, after_write, and_false, any_armed, ap, awaits_geometry, both, channel_at, dma_due}
use Rattle.ds_ports.proofs.Words.{equal, false, first_acting_io_due, first_with, geometry_done, gx_level, gx_written, if◌then◌else◌, io_event}
use Rattle.ds_ports.proofs.Words.{irq_levelled, is_armed, is_half_empty, is_of_geometry, is_settled, is_silent, is_some, is_stalled, not, not_true}
use Rattle.ds_ports.proofs.Words.{refl, release_by, sym, true, true≢false, with_gx, ℕ, ◌&&◌, ◌==◌, ◌||◌, ◌∙◌, ◌≡◌}
use Rattle.ds_dma.specs.Channels.{is_triggered, is_running}
use Rattle.ds_dma.specs.Controls.{is_enabled, waits_for}
use Rattle.gx_fifo.specs.GxStates.{gx_finished}
use Rattle.ds_dma.specs.declared.controls.Cause.TheVariants as causes
use Rattle.ds_runs.specs.declared.actors.Actor as actor

-- Where nobody hears of what geometry does, before and after, its event and the words that it is given change neither which actor acts first nor
-- whether something is left to settle.

-- ---- what is so where geometry is silent

record SilentParts (u : IoState) : Type 0 where
  selector : u.gx.selector ≡ 0
  disarmed : any_armed u.nine.dma ≡ false
  free : is_stalled u.gx ≡ false

silent_parts : (u : IoState) → is_silent u ≡ true → SilentParts u
silent_parts u h =
    let a = both (u.gx.selector == 0) (not (any_armed u.nine.dma) && not (is_stalled u.gx)) h in
    let b = both (not (any_armed u.nine.dma)) (not (is_stalled u.gx)) a.1 in
    record { selector = equal u.gx.selector 0 a.0; disarmed = not_true (any_armed u.nine.dma) b.0; free = not_true (is_stalled u.gx) b.1 }

-- ---- the first that acts: geometry isn't among those that act, and no stall holds ARM9's channels

never : (silent : Bool) (due : Option Tick) → silent ≡ true → (if is_some due && silent then None else due) ≡ None
never silent None h = refl
never silent (Some tick) h = rw h refl

silent_never : (u : IoState) → is_silent u ≡ true → acting_io_due Geometry u ≡ None
silent_never u h = never (is_silent u) u.gx.due h

first_same : (u : IoState) (g : GxState) (due : Option Tick) → is_stalled g ≡ is_stalled u.gx → first_with due (with_gx g u) ≡ first_with due u
unfolding first_with
first_same u g due e = rw e refl

silent_first : (u : IoState) → is_silent u ≡ true → first_acting_io_due u ≡ first_with None u
unfolding first_with first_acting_io_due
silent_first u h = ap (λ (due : Option Tick). first_with due u) (silent_never u h)

moves_none : (u : IoState) (g : GxState) → is_silent u ≡ true → is_silent (with_gx g u) ≡ true
    → first_acting_io_due (with_gx g u) ≡ first_acting_io_due u
moves_none u g before after =
    silent_first (with_gx g u) after
    ∙ first_same u g None ((silent_parts (with_gx g u) after).free ∙ sym (silent_parts u before).free)
    ∙ sym (silent_first u before)

-- ---- what is left to settle: the level isn't up, no channel waits, and no stall ended

level_never : (n : ℕ) (a b : Bool) → n ≡ 0 → ((n == 1 && a) || (n == 2 && b)) ≡ false
level_never n a b e = rw e refl

level_down : (g : GxState) → g.selector ≡ 0 → gx_level g ≡ false
level_down g e = level_never g.selector _ _ e

unarmed : (enabled waits runs : Bool) → (enabled && waits) ≡ false → (enabled && waits && not runs) ≡ false
unarmed true waits runs h = rw h refl
unarmed false waits runs h = refl

-- (a channel of ARM7's never waits for it)
untriggered : (proc : Proc) (c : Channel) → is_armed c.cnt ≡ false → is_triggered proc causes.Geometry c ≡ false
untriggered Nine c h = unarmed (is_enabled c.cnt) (waits_for Nine causes.Geometry c.cnt) (is_running c) h
untriggered Seven c h = unarmed (is_enabled c.cnt) false (is_running c) (and_false (is_enabled c.cnt))

any_of : (a b c d w x y z : Bool) → (a ≡ false → w ≡ false) → (b ≡ false → x ≡ false) → (c ≡ false → y ≡ false) → (d ≡ false → z ≡ false)
    → (a || b || c || d) ≡ false → (w || x || y || z) ≡ false
any_of false false false false w x y z f g h k e = rw (f refl, g refl, h refl, k refl) refl
any_of _ _ _ _ w x y z f g h k e = absurd (true≢false e)

none_awaits : (dma : DmaState) → any_armed dma ≡ false → awaits_geometry dma ≡ false
none_awaits dma =
    let at : ℕ → Channel = λ which. channel_at dma.channels which in
    let armed : ℕ → Bool = λ which. is_armed (at which).cnt in
    let waits : ℕ → Bool = λ which. is_triggered dma.proc causes.Geometry (at which) in
    let by : (which : ℕ) → armed which ≡ false → waits which ≡ false = λ which h. untriggered dma.proc (at which) h in
    any_of (armed 0) (armed 1) (armed 2) (armed 3) _ _ _ _ (by 0) (by 1) (by 2) (by 3)

settled_by : (half awaits : Bool) (a b : Bool) → awaits ≡ false → (a && (not (half && awaits) && b)) ≡ (a && b)
settled_by half awaits a b e = rw e (rw (and_false half) refl)

abbrev settled_alone : IoState → Bool → Bool → Bool
settled_alone u level stalled =
    ((irq_levelled u.nine.irq level).if_ == u.nine.irq.if_) && (release_by stalled (dma_due u.nine.dma) u.released == u.released)

silent_settled : (u : IoState) → is_silent u ≡ true → is_settled u ≡ settled_alone u false false
silent_settled u h =
    let k = silent_parts u h in
    settled_by (is_half_empty u.gx) (awaits_geometry u.nine.dma) _ _ (none_awaits u.nine.dma k.disarmed)
    ∙ ap (λ (level : Bool). settled_alone u level (is_stalled u.gx)) (level_down u.gx k.selector)
    ∙ ap (settled_alone u false) k.free

settles_none : (u : IoState) (g : GxState) → is_silent u ≡ true → is_silent (with_gx g u) ≡ true → is_settled (with_gx g u) ≡ is_settled u
settles_none u g before after = silent_settled (with_gx g u) after ∙ sym (silent_settled u before)

-- ---- the event: it ends no stall

done_so : (u : IoState) → is_silent u ≡ true → geometry_done u ≡ with_gx (gx_finished u.gx) u
done_so u h = rw ((silent_parts u h).free) refl

event_so : (file : List ℕ) (a : actor.Actor) (u : IoState) → a ≡ Geometry → is_silent u ≡ true → io_event file a u ≡ with_gx (gx_finished u.gx) u
event_so file a u e h = ap (λ (b : actor.Actor). io_event file b u) e ∙ done_so u h

-- what follows of one state that differs in geometry alone, at another that is the same
at_same : {A : Type 0} (f : IoState → A) (u v : IoState) (g : GxState) → (is_silent (with_gx g u) ≡ true → f (with_gx g u) ≡ f u) → v ≡ with_gx g u
    → is_silent v ≡ true → f v ≡ f u
at_same f u v g h e after = ap f e ∙ h (ap is_silent (sym e) ∙ after)

pub event_moves_none : (file : List ℕ) (a : actor.Actor) (u : IoState) → a ≡ Geometry → is_silent u ≡ true → is_silent (io_event file a u) ≡ true
    → first_acting_io_due (io_event file a u) ≡ first_acting_io_due u
event_moves_none file a u e before after =
    at_same first_acting_io_due u (io_event file a u) (gx_finished u.gx) (moves_none u (gx_finished u.gx) before) (event_so file a u e before) after

pub event_settles_none : (file : List ℕ) (a : actor.Actor) (u : IoState) → a ≡ Geometry → is_silent u ≡ true → is_silent (io_event file a u) ≡ true
    → is_settled (io_event file a u) ≡ is_settled u
event_settles_none file a u e before after =
    at_same is_settled u (io_event file a u) (gx_finished u.gx) (settles_none u (gx_finished u.gx) before) (event_so file a u e before) after

-- ---- a write of geometry's, which ARM7 has none of

abbrev IsGxAlone : (u v : IoState) → Type 0
IsGxAlone u v = (g : GxState) × (v ≡ with_gx g u)

written_so : (proc : Proc) (now : Tick) (u : IoState) (register : Register) (number value : ℕ) → is_of_geometry register ≡ true
    → IsGxAlone u (after_write proc now u register number value)
written_so Nine now u GxWord number value h = (gx_written u.gx number value now, refl)
written_so Nine now u GxCommand number value h = (gx_written u.gx number value now, refl)
written_so Seven now u GxWord number value h = (u.gx, refl)
written_so Seven now u GxCommand number value h = (u.gx, refl)
written_so proc now u _ number value h = absurd (true≢false (sym h))

pub geometry_written_moves_none : (proc : Proc) (now : Tick) (u : IoState) (register : Register) (number value : ℕ) → is_of_geometry register ≡ true
    → is_silent u ≡ true → is_silent (after_write proc now u register number value) ≡ true
    → first_acting_io_due (after_write proc now u register number value) ≡ first_acting_io_due u
geometry_written_moves_none proc now u register number value h before after =
    let k = written_so proc now u register number value h in
    at_same first_acting_io_due u (after_write proc now u register number value) k.0 (moves_none u k.0 before) k.1 after

pub geometry_written_settles_none : (proc : Proc) (now : Tick) (u : IoState) (register : Register) (number value : ℕ) → is_of_geometry register ≡ true
    → is_silent u ≡ true → is_silent (after_write proc now u register number value) ≡ true
    → is_settled (after_write proc now u register number value) ≡ is_settled u
geometry_written_settles_none proc now u register number value h before after =
    let k = written_so proc now u register number value h in
    at_same is_settled u (after_write proc now u register number value) k.0 (settles_none u k.0 before) k.1 after
