use Rattle.ds_machine.proofs.Words.{Bool, Card, Divider, Dma, DmaState, Fences, Geometry, GxState, HasOwnPart, HasSoundParts, IoState, IrqState}
use Rattle.ds_machine.proofs.Words.{IsBelowFence, IsHarmless, IsLeast, IsSharedSo, IsSound, IsTold, KeyScript, LeftOut, List, MachineState}
use Rattle.ds_machine.proofs.Words.{MachineStep, Makes, MayRunAhead, MovesOn, Nine, NineOwn, NineReach, None, Option, Proc, Processor, ProcessorState}
use Rattle.ds_machine.proofs.Words.{RunsAhead, Seven, SevenReach, SevenState, Shown, Some, SquareRoot, Stops, Tick, Timer, Video, [], acting_dues}
use Rattle.ds_machine.proofs.Words.{actor_of, actors_differ, ahead_from_own, and_parts, ap, arith, awaits_geometry, awake, bit_and, bit_at}
use Rattle.ds_machine.proofs.Words.{bit_at_and, bit_at_or, bit_not, bit_or, blocks_processor, card_due_for, channel_due, dma_due, due_at, due_by}
use Rattle.ds_machine.proofs.Words.{due_of_least, due_of_rank, due_unless, dues_of, ended, enters, equal, false, geometry_rank, goes_on, gx_finished}
use Rattle.ds_machine.proofs.Words.{gx_level, hears_nobody, if◌then◌else◌, inl, inr, io_of, ipc_bits, irq_levelled, is_blocked, is_half_empty}
use Rattle.ds_machine.proofs.Words.{is_halted, is_quiet, is_settled, is_stalled, keys_due, level, level_told, line_of, low_rank, machine_settled}
use Rattle.ds_machine.proofs.Words.{moves_of_actors, nine_own_of, nine_reach, not, not-true, not_both, processor_io_triggered, processor_of, rank_of}
use Rattle.ds_machine.proofs.Words.{reference, reference_step, refl, release_by, release_of, same_from_bits, same_makes, scan_due_tick, settled}
use Rattle.ds_machine.proofs.Words.{seven_reach, step_by, step_with, subst, sym, tick_of, timer_at, timer_due, true, true_or_false, w32, wakes}
use Rattle.ds_machine.proofs.Words.{with_nine_own, with_seven_part, woken_one, ℕ, ◌&&◌, ◌<◌, ◌==◌, ◌||◌, ◌∙◌, ◌≡◌, ◌≢◌, ◌⊎◌}
use Rattle.ds_machine.specs.FenceTicks.{fence_due}
use Rattle.ds_dma.specs.declared.controls.Cause.TheVariants as causes
use Rattle.ds_runs.specs.declared.actors.Actor as actor
use Rattle.ds_machine.proofs.ActingDues.{acting_low, acting_of_rank, acts_then, loud_same}
use Rattle.ds_machine.proofs.FenceFirsts.{fences_as, fences_there, there_fences}
use Rattle.ds_machine.proofs.InnerLaw.{HasOwnOf, IsCalm, MovesAlone, after_nine, after_seven, calm, harmless_by_part, inner_nine, inner_seven, nine_fits, nine_moves, seven_moves}
use Rattle.ds_machine.proofs.Apart.{leave_seven, none_of_seven}
use Rattle.ds_machine.proofs.LagCommutes.{late_put}
use Rattle.ds_machine.proofs.LagSteps.{acting_same, quiet_leaves, quiet_parts, quiet_step, sound_late}
use Rattle.ds_machine.proofs.MachineSchedule.{asleep_made, awake_stops, owes_by, reference_schedules, settled_made, step_made, steps_here}
use Rattle.ds_machine.proofs.OuterLeaves.{LeavesApart, leaves_apart}
use Rattle.ds_machine.proofs.OuterSteps.{not_woken, seven_ended, settled_halted, woken_halted}
use Rattle.ds_machine.proofs.OwnShares.{ends_nine_own, leave_nine_own, own_ends}
use Rattle.ds_machine.proofs.Quiet.{not_halted}
use Rattle.ds_machine.proofs.Told.{IsOnlyTold, quiet_stays}
use Rattle.ds_machine.proofs.Wakes.{settle_leaves, settled_dma, settled_released}

-- A step of another actor that is due before a harmless step leaves it harmless, and depends on nothing that the harmless step changes.

-- ---- what follows the step: the units settle, which tells ARM9 nothing anew where geometry stayed

-- the level is told once
levelled_once : (irq : IrqState) (on : Bool) (old : ℕ) → bit_or irq.if_ ipc_bits ≡ bit_or old ipc_bits → (irq_levelled (record irq { if_ = old }) on).if_ ≡ old
    → bit_or (irq_levelled irq on).if_ ipc_bits ≡ bit_or old ipc_bits
levelled_once irq true old same stays =
    same_from_bits (bit_or (bit_or irq.if_ level) ipc_bits) (bit_or old ipc_bits) (λ i.
    let a = bit_at_or (bit_or irq.if_ level) ipc_bits i in
    let b = bit_at_or irq.if_ level i in
    let c = bit_at_or old ipc_bits i in
    let d = bit_at_or irq.if_ ipc_bits i in
    let e = bit_at_or old level i in
    let f : bit_at (bit_or irq.if_ ipc_bits) i ≡ bit_at (bit_or old ipc_bits) i = ap (λ (n : ℕ). bit_at n i) same in
    let g : bit_at (bit_or old level) i ≡ bit_at old i = ap (λ (n : ℕ). bit_at n i) stays in
    omega (arith, a, b, c, d, e, f, g))
levelled_once irq false old same stays =
    let mask = bit_not w32 level in
    same_from_bits (bit_or (bit_and irq.if_ mask) ipc_bits) (bit_or old ipc_bits) (λ i.
    let a = bit_at_or (bit_and irq.if_ mask) ipc_bits i in
    let b = bit_at_and irq.if_ mask i in
    let c = bit_at_or old ipc_bits i in
    let d = bit_at_or irq.if_ ipc_bits i in
    let e = bit_at_and old mask i in
    let f : bit_at (bit_or irq.if_ ipc_bits) i ≡ bit_at (bit_or old ipc_bits) i = ap (λ (n : ℕ). bit_at n i) same in
    let g : bit_at (bit_and old mask) i ≡ bit_at old i = ap (λ (n : ℕ). bit_at n i) stays in
    omega (arith, a, b, c, d, e, f, g))

-- so what ARM9 is told, it is told still after the units settle
told_settled : (old irq : IrqState) (on : Bool) → IsTold old irq → (irq_levelled old on).if_ ≡ old.if_ → IsTold old (irq_levelled irq on)
told_settled old irq true told stays = record {
  ime = told.ime;
  ie = told.ie;
  if_ = levelled_once irq true old.if_ told.if_ stays;
}
told_settled old irq false told stays = record {
  ime = told.ime;
  ie = told.ie;
  if_ = levelled_once irq false old.if_ told.if_ stays;
}

-- waking the other leaves what a processor has behind the ports, and the units
pub record WakesApart (proc : Proc) (s next : MachineState) : Type 0 where
  pub own : io_of next.io proc ≡ io_of s.io proc
  pub keys : next.keys ≡ s.keys
  pub scan : next.io.video.scan ≡ s.io.video.scan
  pub gx : next.io.gx ≡ s.io.gx
  pub released : next.io.released ≡ s.io.released
  pub card : next.io.card ≡ s.io.card

wakes_seven : (tick : Tick) (m : MachineState) (b : Bool) → WakesApart Nine m (if b then goes_on Seven tick m else m)
wakes_seven tick m true = record { own = refl; keys = refl; scan = refl; gx = refl; released = refl; card = refl }
wakes_seven tick m false = record { own = refl; keys = refl; scan = refl; gx = refl; released = refl; card = refl }

wakes_nine : (tick : Tick) (m : MachineState) (b : Bool) → WakesApart Seven m (if b then goes_on Nine tick m else m)
wakes_nine tick m true = record { own = refl; keys = refl; scan = refl; gx = refl; released = refl; card = refl }
wakes_nine tick m false = record { own = refl; keys = refl; scan = refl; gx = refl; released = refl; card = refl }

ends_nine : (tick : Tick) (made : MachineState) → is_halted made Nine ≡ false → WakesApart Nine (machine_settled tick made) (ended tick made)
unfolding ended
ends_nine tick made h =
    let m = machine_settled tick made in
    let free : is_halted m Nine ≡ false = settled_halted tick made.io Nine ∙ h in
    subst (λ (x : MachineState). WakesApart Nine m (woken_one Seven tick x)) (sym (not_woken Nine tick m free)) (wakes_seven tick m (wakes m Seven))

ends_seven : (tick : Tick) (made : MachineState) → is_halted made Seven ≡ false → WakesApart Seven (machine_settled tick made) (ended tick made)
unfolding ended
ends_seven tick made h =
    let m = machine_settled tick made in
    let woke = woken_one Nine tick m in
    let free : is_halted woke Seven ≡ false = woken_halted tick m (settled_halted tick made.io Seven ∙ h) in
    subst (WakesApart Seven m) (sym (not_woken Seven tick woke free)) (wakes_nine tick m (wakes m Nine))

-- so what an actor's step leaves of a processor, it leaves after what follows
settled_irq : (tick : Tick) (u : IoState) → (settled tick u).nine.irq ≡ irq_levelled u.nine.irq (gx_level u.gx)
settled_irq tick u = by_room (is_half_empty u.gx) where
  by_room : (b : Bool) → (if b then record (level_told u) { nine = processor_io_triggered (level_told u).nine causes.Geometry tick } else level_told u).nine.irq ≡ irq_levelled u.nine.irq (gx_level u.gx)
  by_room true = refl
  by_room false = refl

proc_differs : Nine ≢ Seven
proc_differs e = subst by e tt where
  by : Proc → Type 0
  by Nine = Unit {0}
  by Seven = ⊥

-- what is settled: the level, the channels that wait for geometry, and what is kept of a stall's end
record SettledParts (u : IoState) : Type 0 where
  level : (irq_levelled u.nine.irq (gx_level u.gx)).if_ ≡ u.nine.irq.if_
  none : (is_half_empty u.gx && awaits_geometry u.nine.dma) ≡ false
  kept : release_of u ≡ u.released

settled_parts : (u : IoState) → is_settled u ≡ true → SettledParts u
settled_parts u h =
    let waits = is_half_empty u.gx && awaits_geometry u.nine.dma in
    let a = and_parts ((irq_levelled u.nine.irq (gx_level u.gx)).if_ == u.nine.irq.if_) (not waits && (release_of u == u.released)) h in
    let b = and_parts (not waits) (release_of u == u.released) a.1 in
    record { level = equal (irq_levelled u.nine.irq (gx_level u.gx)).if_ u.nine.irq.if_ a.0; none = not-true waits b.0; kept = equal (release_of u) u.released b.1 }

module _ (tick : Tick) (s made : MachineState) (sound : IsSound s) (parts : HasSoundParts made) where
  not_due_dma : (gx : GxState) (dma : DmaState) → gx ≡ s.io.gx → dma ≡ s.io.nine.dma → (is_half_empty gx && awaits_geometry dma) ≡ false
  not_due_dma gx dma same_gx same_dma = rw (same_gx, same_dma) (settled_parts s.io sound.settled).none

  -- so is what is kept of a stall's end
  released_so : LeavesApart Nine s made → (settled tick made.io).released ≡ s.io.released
  released_so l =
      let geometry = l.geometry refl in
      settled_released tick made.io parts.io (not_due_dma made.io.gx made.io.nine.dma geometry.0 l.told.own.dma)
      ∙ ap (λ (gx : GxState). release_by (is_stalled gx) (dma_due made.io.nine.dma) made.io.released) geometry.0
      ∙ ap (λ (dma : DmaState). release_by (is_stalled s.io.gx) (dma_due dma) made.io.released) l.told.own.dma
      ∙ ap (λ (released : ℕ). release_by (is_stalled s.io.gx) (dma_due s.io.nine.dma) released) geometry.1
      ∙ (settled_parts s.io sound.settled).kept

  nine_told : LeavesApart Nine s made → is_halted made Nine ≡ false → IsOnlyTold s.io.nine (ended tick made).io.nine
  nine_told l h =
      let e = ends_nine tick made h in
      let k = settle_leaves tick made.io in
      let gx = (l.geometry refl).0 in
      let stays = (settled_parts s.io sound.settled).level in
      let irq : IsTold s.io.nine.irq (irq_levelled made.io.nine.irq (gx_level made.io.gx)) =
      subst (λ (g : GxState). IsTold s.io.nine.irq (irq_levelled made.io.nine.irq (gx_level g))) (sym gx)
      (told_settled s.io.nine.irq made.io.nine.irq (gx_level s.io.gx) l.told.told stays) in
      subst (IsOnlyTold s.io.nine) (sym e.own)
      (record {
        own = record {
          timers = k.timers ∙ l.told.own.timers;
          keycnt = k.keycnt ∙ l.told.own.keycnt;
          halted = k.halted ∙ l.told.own.halted;
          dma = settled_dma tick made.io parts.io (not_due_dma made.io.gx made.io.nine.dma gx l.told.own.dma) ∙ l.told.own.dma;
        };
        told = subst (IsTold s.io.nine.irq) (sym (settled_irq tick made.io)) irq;
      })

  nine_after : LeavesApart Nine s made → is_halted made Nine ≡ false → LeavesApart Nine s (ended tick made)
  nine_after l h =
      let e = ends_nine tick made h in
      let k = settle_leaves tick made.io in
      record {
        own = own_ends tick made h ∙ l.own;
        told = nine_told l h;
        keys = e.keys ∙ l.keys;
        scan = e.scan ∙ ap (λ v. v.scan) k.video ∙ l.scan;
        geometry = λ nine. (e.gx ∙ k.gx ∙ (l.geometry refl).0, e.released ∙ released_so l);
        card = ap (card_due_for Nine) (e.card ∙ k.card) ∙ l.card;
      }

  seven_after : LeavesApart Seven s made → is_halted made Seven ≡ false → LeavesApart Seven s (ended tick made)
  seven_after l h =
      let e = ends_seven tick made h in
      let k = settle_leaves tick made.io in
      record {
        own = ap (λ (m : MachineState). m.seven) (seven_ended tick made.seven made h) ∙ l.own;
        told = subst (IsOnlyTold s.io.seven) (sym (e.own ∙ k.seven)) l.told;
        keys = e.keys ∙ l.keys;
        scan = e.scan ∙ ap (λ v. v.scan) k.video ∙ l.scan;
        geometry = λ nine. absurd (proc_differs (sym nine));
        card = ap (card_due_for Seven) (e.card ∙ k.card) ∙ l.card;
      }

  pub after_it : (proc : Proc) → LeavesApart proc s made → is_halted s proc ≡ false → LeavesApart proc s (ended tick made)
  after_it Nine l h = nine_after l (l.told.own.halted ∙ h)
  after_it Seven l h = seven_after l (l.told.own.halted ∙ h)

-- ---- what is left so is harmless still, and below its fence

-- the processor is held as before
held_so : (proc : Proc) (s next : MachineState) → LeavesApart proc s next → is_blocked next proc ≡ is_blocked s proc
held_so Nine s next l = rw (l.told.own.halted, l.told.own.dma, (l.geometry refl).0) refl
held_so Seven s next l = rw (l.told.own.halted, l.told.own.dma) refl

processor_so : (proc : Proc) (s next : MachineState) → LeavesApart proc s next → processor_of next proc ≡ processor_of s proc
processor_so Nine s next l = ap (λ (own : NineOwn). own.part.nine.processor) l.own
processor_so Seven s next l = ap (λ (part : SevenState). part.processor) l.own

own_so : (proc : Proc) (s next : MachineState) → LeavesApart proc s next → HasOwnOf proc s next
own_so Nine s next l = sym l.own
own_so Seven s next l = sym l.own

harmless_so : (proc : Proc) (s next : MachineState) → LeavesApart proc s next → IsHarmless s proc → IsHarmless next proc
harmless_so proc s next l h =
    let same = processor_so proc s next l in
    let k = quiet_stays (processor_of s proc).registers (io_of s.io proc).irq (io_of next.io proc).irq h.deaf h.quiet l.told.told in
    harmless_by_part proc s next (own_so proc s next l) (held_so proc s next l ∙ h.free)
    (ap (λ (p : ProcessorState). enters (line_of next proc) p.registers) same ∙ k.0)
    (ap (λ (p : ProcessorState). hears_nobody p.registers (io_of next.io proc).irq) same ∙ k.1)
    h

-- those of its fence act as before: geometry is quiet or isn't, as it was
quiet_so : (old new : IoState) → new.gx ≡ old.gx → new.nine.dma ≡ old.nine.dma → is_quiet new ≡ is_quiet old
quiet_so old new gx dma = rw (gx, dma) refl

fence_so : (proc : Proc) (s next : MachineState) → LeavesApart proc s next → (a : actor.Actor) → fence_due next proc a ≡ fence_due s proc a
fence_so proc s next l KeyScript = ap keys_due l.keys
fence_so proc s next l Video = ap (λ scan. (let due : Option Tick = Some (scan_due_tick scan) in due)) l.scan
fence_so Nine s next l (Timer Nine number) = ap (λ timers. timer_due (timer_at timers number)) l.told.own.timers
fence_so Seven s next l (Timer Seven number) = ap (λ timers. timer_due (timer_at timers number)) l.told.own.timers
fence_so Nine s next l (Timer Seven number) = refl
fence_so Seven s next l (Timer Nine number) = refl
fence_so proc s next l Divider = refl
fence_so proc s next l SquareRoot = refl
fence_so Nine s next l Geometry =
    let gx = (l.geometry refl).0 in
    ap (λ (quiet : Bool). if quiet then None else next.io.gx.due) (quiet_so s.io next.io gx l.told.own.dma)
    ∙ ap (λ (g : GxState). if is_quiet s.io then None else g.due) gx
fence_so Seven s next l Geometry = refl
fence_so proc s next l Card = l.card
fence_so Nine s next l (Dma Nine channel) =
    rw ((l.geometry refl).0, (l.geometry refl).1, l.told.own.dma) refl
fence_so Seven s next l (Dma Seven channel) = ap (λ (dma : DmaState). channel_due dma channel) l.told.own.dma
fence_so Nine s next l (Dma Seven channel) = refl
fence_so Seven s next l (Dma Nine channel) = refl
fence_so proc s next l (Processor each) = refl

below_so : (proc : Proc) (s next : MachineState) (t : Tick) → LeavesApart proc s next → IsBelowFence s proc t → IsBelowFence next proc t
below_so proc s next t l below rank at acts f =
    let lt = acting_low next rank at acts in
    let a = actor_of rank in
    let there = fences_there s proc a at (sym (fence_so proc s next l a) ∙ there_fences next proc a at (sym (acting_of_rank next rank lt) ∙ acts) f) in
    below rank at (acting_of_rank s rank lt ∙ there.0) there.1

-- ---- who steps before it

due_own : (proc : Proc) (s : MachineState) (t : Tick) → RunsAhead proc s t → due_at (dues_of s) (rank_of proc) ≡ Some t
due_own Nine s t ahead = due_of_rank s (rank_of Nine) (omega arith) ∙ ap (λ (blocked : Bool). due_unless blocked s.nine.processor) ahead.harmless.free ∙ ap Some (sym ahead.tick)
due_own Seven s t ahead = due_of_rank s (rank_of Seven) (omega arith) ∙ ap (λ (blocked : Bool). due_unless blocked s.seven.processor) ahead.harmless.free ∙ ap Some (sym ahead.tick)

-- the least of the others isn't in its fence, and isn't the processor; or it is quiet geometry, which isn't in ARM7's fence
abbrev IsApartFrom : Proc → MachineState → ℕ → Type 0
IsApartFrom proc s r = (Fences (actor_of r) proc s → ⊥) ⊎ ((proc ≡ Nine) × (r ≡ geometry_rank) × (is_quiet s.io ≡ true))

acts_after : (proc : Proc) (s : MachineState) (t u : Tick) (r : ℕ) → RunsAhead proc s t → IsLeast (dues_of s) u r → due_at (acting_dues s) r ≡ Some u → Fences (actor_of r) proc s → ⊥
acts_after proc s t u r ahead least acts f =
    let later : t.0 < u.0 = ahead.below r u acts f in
    elim (least.least (rank_of proc) t (due_own proc s t ahead)) [ inl a ↦ omega (arith, later, a) | inr b ↦ (let e = b.0 in omega (arith, later, e)) ]

quiet_apart : (proc : Proc) (s : MachineState) (r : ℕ) → r ≡ geometry_rank → is_quiet s.io ≡ true → IsApartFrom proc s r
quiet_apart Nine s r e quiet = inr (refl, e, quiet)
quiet_apart Seven s r e quiet = inl (λ f. proc_differs (sym (subst (λ (x : ℕ). Fences (actor_of x) Seven s) e f)))

apart_from : (proc : Proc) (s : MachineState) (t u : Tick) (r : ℕ) → RunsAhead proc s t → IsLeast (dues_of s) u r → IsApartFrom proc s r
apart_from proc s t u r ahead least = elim (true_or_false (is_quiet s.io)) [
  | inr loud ↦ inl (acts_after proc s t u r ahead least (subst (λ (dues : List (Option Tick)). due_at dues r ≡ Some u) (sym (loud_same s loud)) least.there))
  | inl quiet ↦ elim (acts_then s r u least.there) [
    | inl e ↦ quiet_apart proc s r e quiet
    | inr acts ↦ inl (acts_after proc s t u r ahead least acts)
  ]
]

not_own : (proc : Proc) (s : MachineState) (u : Tick) (r : ℕ) → IsLeast (dues_of s) u r → r ≢ rank_of proc → actor_of r ≢ Processor proc
not_own Nine s u r least ne = actors_differ (rank_of Nine) r (omega arith) (low_rank s r u least.there) ne
not_own Seven s u r least ne = actors_differ (rank_of Seven) r (omega arith) (low_rank s r u least.there) ne

-- the outer law, but for what the step comes to with another own part
record Outer (proc : Proc) (s next : MachineState) (t u : Tick) (r : ℕ) (outs : List Shown) : Type 0 where
  made : MachineState
  took : step_by r (actor_of r) s ≡ Makes made outs
  ended_so : ended u made ≡ next
  left : LeavesApart proc s next
  awake_so : is_halted made proc ≡ false
  again : RunsAhead proc next t

outer_step : (proc : Proc) (s next : MachineState) (t u : Tick) (r : ℕ) (outs : List Shown) → RunsAhead proc s t → IsLeast (dues_of s) u r → r ≢ rank_of proc
    → (Fences (actor_of r) proc s → ⊥) → reference_step r s ≡ Makes next outs → Outer proc s next t u r outs
outer_step proc s next t u r outs ahead least ne apart h =
    let st = steps_here s u r ahead.sound.parts least in
    let k = step_made s next u r outs least h in
    let l = leaves_apart proc (actor_of r) r u s k.0 outs st (not_own proc s u r least ne) apart k.1 in
    let free = not_halted s proc ahead.harmless.free in
    let parts = (owes_by (actor_of r) r u s k.0 outs st k.1).sound in
    let left = subst (LeavesApart proc s) k.2 (after_it u s k.0 ahead.sound parts proc l free) in
    record {
      made = k.0;
      took = k.1;
      ended_so = k.2;
      left = left;
      awake_so = l.told.own.halted ∙ free;
      again = record {
        sound = record {
          parts = reference_schedules.stays s next u r outs ahead.sound.parts least h;
          asleep = asleep_made s next u r outs least h;
          settled = settled_made s next u r outs ahead.sound.parts least h;
        };
        harmless = harmless_so proc s next left ahead.harmless;
        tick = ahead.tick ∙ ap tick_of (sym (processor_so proc s next left));
        below = below_so proc s next t left ahead.below;
      };
    }

-- the due ticks by rank: the processor's moves on alone
alone_moves : (proc : Proc) (s next : MachineState) → MovesAlone proc s next → MovesOn (rank_of proc) (tick_of (processor_of s proc)) (dues_of s) (dues_of next)
unfolding dues_of
alone_moves Nine s next m =
    moves_of_actors (λ (a : actor.Actor). due_by a s) (λ (a : actor.Actor). due_by a next) (rank_of Nine) (tick_of s.nine.processor) (omega arith) m.there m.later (λ a numbered other. m.others a other)
alone_moves Seven s next m =
    moves_of_actors (λ (a : actor.Actor). due_by a s) (λ (a : actor.Actor). due_by a next) (rank_of Seven) (tick_of s.seven.processor) (omega arith) m.there m.later (λ a numbered other. m.others a other)

-- ---- a step of quiet geometry before it: nobody hears of it, and it changes no due tick but its own

-- what it leaves of ARM9
module _ (s : MachineState) (t : Tick) (ahead : RunsAhead Nine s t) (quiet : is_quiet s.io ≡ true) where
  abbrev late : MachineState
  late = late_put (gx_finished s.io.gx) s

  still_free : is_stalled (gx_finished s.io.gx) ≡ is_stalled s.io.gx
  still_free = (let k = quiet_parts s.io quiet in (quiet_leaves s k.tick ahead.sound quiet k.due).free ∙ sym k.free)

  late_harmless : IsHarmless late Nine
  late_harmless =
      harmless_by_part Nine s late refl (ap (λ (stalled : Bool). blocks_processor s.io.nine || stalled) still_free ∙ ahead.harmless.free) ahead.harmless.quiet ahead.harmless.deaf
      ahead.harmless

  late_ahead : RunsAhead Nine late t
  late_ahead = record {
    sound = sound_late s ahead.sound quiet;
    harmless = late_harmless;
    tick = ahead.tick;
    below = below;
  } where
    below : IsBelowFence late Nine t
    below rank at acts f = ahead.below rank at (subst (λ (dues : List (Option Tick)). due_at dues rank ≡ Some at) (acting_same s ahead.sound quiet) acts)
        (fences_as (actor_of rank) Nine s late refl f)

-- with another own part it comes to the same
put_sound : (own : NineOwn) (s : MachineState) → IsSound s → IsSound (with_nine_own own s)
put_sound own s sound = record {
  parts = record { io = record { nine = sound.parts.io.nine; seven = sound.parts.io.seven; gx = sound.parts.io.gx }; keys = sound.parts.keys };
  asleep = asleep;
  settled = sound.settled;
} where
  asleep : (proc : Proc) → wakes (with_nine_own own s) proc ≡ false
  asleep Nine = sound.asleep Nine
  asleep Seven = sound.asleep Seven

late_there : (own : NineOwn) (s : MachineState) → IsSound s → is_quiet s.io ≡ true
    → reference_step geometry_rank (with_nine_own own s) ≡ Makes (with_nine_own own (late_put (gx_finished s.io.gx) s)) []
late_there own s sound quiet = quiet_step (with_nine_own own s) (put_sound own s sound) quiet

-- it doesn't stop
never_stops : (s left : MachineState) (stop : LeftOut) → IsSound s → is_quiet s.io ≡ true → reference_step geometry_rank s ≡ Stops stop left → ⊥
never_stops s left stop sound quiet h = not_both (late_put (gx_finished s.io.gx) s) left [] stop (sym (quiet_step s sound quiet) ∙ h)

-- ---- both laws

-- where quiet geometry steps before a processor's step, the outer law holds
abbrev PassesQuiet : {Own : Type 0} → Proc → (Own → MachineState → MachineState) → (MachineState → Own) → Type 0
PassesQuiet proc put after =
    (s next : MachineState) (t : Tick) (outs : List Shown) → proc ≡ Nine → RunsAhead proc s t → is_quiet s.io ≡ true → reference_step geometry_rank s ≡ Makes next outs
    → (reference_step geometry_rank (put (after s) s) ≡ Makes (put (after s) next) outs) × (after next ≡ after s) × RunsAhead proc next t

nine_passes : (rest : NineReach) → PassesQuiet Nine with_nine_own (λ s. after_nine rest (nine_own_of s))
nine_passes rest s next t outs nine ahead quiet h =
    let after : MachineState → NineOwn = λ m. after_nine rest (nine_own_of m) in
    let same = same_makes (late_put (gx_finished s.io.gx) s) next [] outs (sym (quiet_step s ahead.sound quiet) ∙ h) in
    let P : MachineState → Type 0 = λ m. (reference_step geometry_rank (with_nine_own (after s) s) ≡ Makes (with_nine_own (after s) m) outs) × (after m ≡ after s) × RunsAhead Nine m t in
    subst P same.0 (
      late_there (after s) s ahead.sound quiet ∙ ap (λ (shown : List Shown). (let came : MachineStep MachineState Shown LeftOut = Makes (with_nine_own (after s) (late_put (gx_finished s.io.gx) s)) shown in came)) same.1,
      refl,
      late_ahead s t ahead quiet,
    )

seven_passes : (rest : SevenReach) → PassesQuiet Seven with_seven_part (λ s. after_seven rest s.seven)
seven_passes rest s next t outs nine ahead quiet h = absurd (proc_differs (sym nine))

-- Both laws for a processor whose own part is put into a machine so, by what is known of it: that others leave it and don't depend on it where it fits the machine, nor does
-- what follows a step while the processor isn't halted; and what a harmless step makes of it, which fits.
module _ (proc : Proc) {Own : Type 0} (put : Own → MachineState → MachineState) (after : MachineState → Own) (Fits : Own → MachineState → Type 0)
    (leave : (rank : ℕ) (a : actor.Actor) (own : Own) (s : MachineState) → a ≢ Processor proc → (Fences a proc s → ⊥) → Fits own s
    → step_by rank a (put own s) ≡ step_with (put own) (step_by rank a s))
    (ends : (tick : Tick) (own : Own) (s : MachineState) → is_halted s proc ≡ false → ended tick (put own s) ≡ put own (ended tick s))
    (inner : (s : MachineState) → IsCalm s → IsHarmless s proc → reference_step (rank_of proc) s ≡ Makes (put (after s) s) [])
    (moves : (s : MachineState) → IsHarmless s proc → MovesAlone proc s (put (after s) s))
    (fits : (s : MachineState) → IsHarmless s proc → Fits (after s) s)
    (same : (s next : MachineState) → LeavesApart proc s next → after next ≡ after s)
    (passes : PassesQuiet proc put after) where
  -- what another's step comes to on the machine with the own part that the harmless step makes
  there : (s : MachineState) (t u : Tick) (r : ℕ) (came : MachineStep MachineState Shown LeftOut) → RunsAhead proc s t → IsLeast (dues_of s) u r → r ≢ rank_of proc
      → (Fences (actor_of r) proc s → ⊥) → step_by r (actor_of r) s ≡ came → reference_step r (put (after s) s) ≡ awake (Some u) (step_with (put (after s)) came)
  there s t u r came ahead least ne apart took =
      let a = actor_of r in
      let other = not_own proc s u r least ne in
      let due = (moves s ahead.harmless).others a other ∙ due_of_least s r u least in
      let step = leave r a (after s) s other apart (fits s ahead.harmless) ∙ ap (step_with (put (after s))) took in
      ap (λ (d : Option Tick). awake d (step_by r a (put (after s) s))) due ∙ ap (awake (Some u)) step

  apart_outer : (s next : MachineState) (t u : Tick) (r : ℕ) (outs : List Shown) → RunsAhead proc s t → IsLeast (dues_of s) u r → r ≢ rank_of proc
      → (Fences (actor_of r) proc s → ⊥) → reference_step r s ≡ Makes next outs
      → (reference_step r (put (after s) s) ≡ Makes (put (after s) next) outs) × (after next ≡ after s) × RunsAhead proc next t
  apart_outer s next t u r outs ahead least ne apart h =
      let o = outer_step proc s next t u r outs ahead least ne apart h in (
        there s t u r (Makes o.made outs) ahead least ne apart o.took
            ∙ ap (λ (m : MachineState). (let came : MachineStep MachineState Shown LeftOut = Makes m outs in came)) (ends u (after s) o.made o.awake_so ∙ ap (put (after s)) o.ended_so),
        same s next o.left,
        o.again,
      )

  pub own_part : HasOwnPart reference (rank_of proc) put after (RunsAhead proc)
  own_part = record {
    moves = λ s t ahead. subst (λ (x : Tick). MovesOn (rank_of proc) x (dues_of s) (dues_of (put (after s) s))) (sym ahead.tick) (alone_moves proc s (put (after s) s) (moves s ahead.harmless));
    inner = λ s t ahead. inner s (calm s ahead.sound) ahead.harmless;
    outer = λ s next t u r outs ahead least ne h. elim (apart_from proc s t u r ahead least) [
      | inl apart ↦ apart_outer s next t u r outs ahead least ne apart h
      | inr k ↦ (let P : ℕ → Type 0 = λ x. (reference_step x (put (after s) s) ≡ Makes (put (after s) next) outs) × (after next ≡ after s) × RunsAhead proc next t in
          subst P (sym k.1) (passes s next t outs k.0 ahead k.2 (subst (λ (x : ℕ). reference_step x s ≡ Makes next outs) k.1 h)))
    ];
    halts = λ s left t u r stop ahead least ne h. elim (apart_from proc s t u r ahead least) [
      | inl apart ↦ (put (after s) left, there s t u r (Stops stop left) ahead least ne apart (awake_stops (due_by (actor_of r) s) (step_by r (actor_of r) s) left stop h))
      | inr k ↦ absurd (never_stops s left stop ahead.sound k.2 (subst (λ (x : ℕ). reference_step x s ≡ Stops stop left) k.1 h))
    ];
  }

-- Each processor may run ahead. (What a harmless step makes of its own part is said beside what it reaches of some machine, whichever that is.)
pub may_run_ahead : (beside : MachineState) (proc : Proc) → MayRunAhead reference (rank_of proc) (RunsAhead proc)
may_run_ahead beside Nine =
    let rest = nine_reach (tick_of beside.nine.processor) beside in
    ahead_from_own reference (rank_of Nine) with_nine_own (λ s. after_nine rest (nine_own_of s)) (RunsAhead Nine)
    (own_part Nine with_nine_own (λ s. after_nine rest (nine_own_of s)) (λ own s. IsSharedSo own.share s.shared s.io)
    (λ rank a own s other apart fits. leave_nine_own rank a own s (other, apart) fits) ends_nine_own (inner_nine rest) (nine_moves rest) (nine_fits rest)
    (λ s next l. ap (after_nine rest) l.own) (nine_passes rest))
may_run_ahead beside Seven =
    let rest = seven_reach (tick_of beside.seven.processor) beside in
    ahead_from_own reference (rank_of Seven) with_seven_part (λ s. after_seven rest s.seven) (RunsAhead Seven)
    (own_part Seven with_seven_part (λ s. after_seven rest s.seven) (λ own s. Unit {0})
    (λ rank a own s other apart fits. leave_seven rank a s own (none_of_seven a s other apart)) seven_ended (inner_seven rest) (seven_moves rest) (λ s h. tt)
    (λ s next l. ap (after_seven rest) l.own) (seven_passes rest))
