use Rattle.ds_ports.proofs.Words.{AreWaiting, Banks, Bool, Dma, DmaDue, DmaState, Geometry, GeometryCommand, GxState, IoState, IrqState, IsIo}
use Rattle.ds_ports.proofs.Words.{IsLater, IsUnchanged, Nine, None, Option, Proc, Reschedules, ReschedulesEach, Seven, Some, Tick, Timer, any_runs}
use Rattle.ds_ports.proofs.Words.{ap, arith, awaits_geometry, bit_and, bit_at_and, bit_at_or, bit_not, bit_or, blocks_processor, both, both_true}
use Rattle.ds_ports.proofs.Words.{channel_at, channel_comes_before, channel_due, complete_command, dma_due, dma_triggered_is, done_by, due_with}
use Rattle.ds_ports.proofs.Words.{entries_taken, equal, event_runs, event_schedules, false, geometry_done, geometry_swapped, geometry_triggered}
use Rattle.ds_ports.proofs.Words.{gx_level, held_due, if◌then◌else◌, inl, inr, io_due, io_of, irq_levelled, is_equal, is_half_empty, is_held}
use Rattle.ds_ports.proofs.Words.{is_settled, is_stalled, least_running, length, length-drop, level, level_told, max, nat_lt, not}
use Rattle.ds_ports.proofs.Words.{processor_io_triggered, ready, refl, release_by, release_kept, release_of, released_at, same_from_bits, settled}
use Rattle.ds_ports.proofs.Words.{stall_ends, subst, sym, tick_after, true, true≢false, w32, with_halted, ℕ, ◌&&◌, ◌+◌, ◌==◌, ◌||◌, ◌∙◌, ◌≡◌, ◌≤◌}
use Rattle.gx_fifo.specs.GxStates.{gx_finished, AddsOneVertex, gx_swapped}
use Rattle.std.proofs.Math.Nat.{le-max_left}
use Rattle.ds_dma.specs.declared.controls.Cause.TheVariants as causes
use Rattle.ds_dma.proofs.Wholes.{awaits_no_more, awaits_none}
use Rattle.gx_fifo.proofs.Laws.{finished_later, finished_run, finished_waiting, swapped_schedules, swapped_waiting}
use Rattle.ds_ports.proofs.Later.{ProcessorIoReschedules, processor_io_each, unchanged_same}
use Rattle.ds_ports.proofs.HeldDues.{none_kept}
use Rattle.ds_ports.proofs.Events.{Happens, happens_by, happens_on, own_is, unchanged_happens}

-- What geometry makes of the units: its head command is done, a swap is made, and the units settle after a step.

-- ---- the head command is done: it may end a stall, and begins none

shorter : (due : Option Tick) (head : Option GeometryCommand) (s : GxState) → length (done_by due head s).fifo.entries ≤ length s.fifo.entries
shorter None head s = omega arith
shorter (Some now) None s = omega arith
shorter (Some now) (Some command) s = omega (arith, length-drop (entries_taken command) s.fifo.entries)

fewer : (m n : ℕ) → m ≤ n → nat_lt 260 n ≡ false → nat_lt 260 m ≡ false
fewer m n l h = grind (arith, l, h)

pub no_stall_begins : (s : GxState) → is_stalled s ≡ false → is_stalled (gx_finished s) ≡ false
no_stall_begins s h = fewer (length (gx_finished s).fifo.entries) (length s.fifo.entries) (shorter s.due (complete_command s.fifo.entries) s) h

after_later : (now : Tick) (due : Option Tick) (released : ℕ) (d : Option Tick) → due ≡ Some now → IsLater now (released_at (tick_after due released) d)
after_later now due released None e = tt
after_later now due released (Some tick) e = rw e (let l = le-max_left (now.0 + 1) tick.0 in omega (arith, l))

freed : (now : Tick) (old new : Bool) (due : Option Tick) (released : ℕ) (d : Option Tick) → due ≡ Some now → (old ≡ false → new ≡ false)
    → Reschedules now (held_due old released d) (held_due new (if old && not new then tick_after due released else released) d)
freed now true true due released d e h = inl refl
freed now true false due released d e h = inr (after_later now due released d e)
freed now false true due released d e h = absurd (true≢false (h refl))
freed now false false due released d e h = inl refl

geometry_each : (now : Tick) (u : IoState) → AreWaiting u.gx → u.gx.due ≡ Some now → ReschedulesEach now u (geometry_done u)
geometry_each now u waiting due Geometry l = inr (finished_later u.gx now waiting due)
geometry_each now u waiting due (Timer Nine number) l = inl refl
geometry_each now u waiting due (Timer Seven number) l = inl refl
geometry_each now u waiting due (Dma Nine channel) l =
    freed now (is_stalled u.gx) (is_stalled (gx_finished u.gx)) u.gx.due u.released (channel_due u.nine.dma channel) due (no_stall_begins u.gx)
geometry_each now u waiting due (Dma Seven channel) l = inl refl
geometry_each now u waiting due _ l = inl refl

not_both : (old new : Bool) → old ≡ true → (old && not new) ≡ false → new ≡ true
not_both true true h e = refl
not_both true false h e = absurd (true≢false e)
not_both false new h e = absurd (true≢false (sym h))

-- each due tick is as it was or later, and what each processor has of its own stays
pub record GeometryGoes (now : Tick) (u : IoState) : Type 0 where
  pub io : IsIo (geometry_done u)
  pub dues : ReschedulesEach now u (geometry_done u)
  pub later : IsLater now (geometry_done u).gx.due
  pub stall : is_stalled u.gx ≡ true → stall_ends u ≡ false → is_stalled (geometry_done u).gx ≡ true
  pub begins : is_stalled u.gx ≡ false → is_stalled (geometry_done u).gx ≡ false
  pub run : AddsOneVertex u.gx (geometry_done u).gx

pub geometry_goes : (now : Tick) (u : IoState) → IsIo u → u.gx.due ≡ Some now → GeometryGoes now u
geometry_goes now u all due = record {
  io = record { nine = all.nine; seven = all.seven; gx = finished_waiting u.gx all.gx };
  dues = geometry_each now u all.gx due;
  later = finished_later u.gx now all.gx due;
  stall = not_both (is_stalled u.gx) (is_stalled (gx_finished u.gx));
  begins = no_stall_begins u.gx;
  run = finished_run u.gx;
}

-- ---- a swap: what waits stays

pub swapped_stall : (now : Tick) (s : GxState) → is_stalled (gx_swapped now s) ≡ is_stalled s
swapped_stall now s = go s.swap_waits _ refl where
  go : (b : Bool) (x : GxState) → x.fifo ≡ s.fifo → is_stalled (if b then x else s) ≡ is_stalled s
  go true x e = ap (λ f. nat_lt 260 (length f.entries)) e
  go false x e = refl

swapped_each : (now : Tick) (u : IoState) → ReschedulesEach now u (geometry_swapped now u)
swapped_each now u Geometry l = swapped_schedules now u.gx
swapped_each now u (Timer Nine number) l = inl refl
swapped_each now u (Timer Seven number) l = inl refl
swapped_each now u (Dma Nine channel) l = inl (ap (λ (stalled : Bool). held_due stalled u.released (channel_due u.nine.dma channel)) (swapped_stall now u.gx))
swapped_each now u (Dma Seven channel) l = inl refl
swapped_each now u _ l = inl refl

pub swapped_happens : (now : Tick) (u : IoState) → IsIo u → Happens now u (geometry_swapped now u)
swapped_happens now u all = record {
  io = record { nine = all.nine; seven = all.seven; gx = swapped_waiting now u.gx all.gx };
  dues = swapped_each now u;
  halted = halted;
  blocked = blocked;
  stall = λ h. swapped_stall now u.gx ∙ h;
} where
  halted : (proc : Proc) → (io_of (geometry_swapped now u) proc).halted ≡ (io_of u proc).halted
  halted Nine = refl
  halted Seven = refl

  blocked : (proc : Proc) → blocks_processor (io_of u proc) ≡ true → blocks_processor (io_of (geometry_swapped now u) proc) ≡ true
  blocked Nine h = h
  blocked Seven h = h

-- ---- the units settle

told_happens : (now : Tick) (u : IoState) → IsIo u → Happens now u (level_told u)
told_happens now u all = unchanged_happens now u (level_told u) all unchanged each refl where
  unchanged : (proc : Proc) → IsUnchanged (io_of u proc) (io_of (level_told u) proc)
  unchanged Nine = record { timers = refl; keycnt = refl; halted = refl; dma = refl }
  unchanged Seven = unchanged_same u.seven

  each : ReschedulesEach now u (level_told u)
  each (Timer Nine number) l = inl refl
  each (Timer Seven number) l = inl refl
  each (Dma Nine channel) l = inl refl
  each (Dma Seven channel) l = inl refl
  each _ l = inl refl

nine_happens : (now : Tick) (u : IoState) → IsIo u → Happens now u (record u { nine = processor_io_triggered u.nine causes.Geometry now })
nine_happens now u all =
    let new = processor_io_triggered u.nine causes.Geometry now in
    happens_by now u (record u { nine = new })
    (own_is Nine u new all (record { timers = all.nine.timers; dma = dma_triggered_is u.nine.dma causes.Geometry now all.nine.dma }))
    (processor_io_each Nine now u new own) halted runs (λ h. h) where
      own : ProcessorIoReschedules now u.nine (processor_io_triggered u.nine causes.Geometry now)
      own (Dma of channel) l = event_schedules u.nine.dma causes.Geometry now all.nine.dma channel l
      own _ l = inl refl

      halted : (proc : Proc) → (io_of (record u { nine = processor_io_triggered u.nine causes.Geometry now }) proc).halted ≡ (io_of u proc).halted
      halted Nine = refl
      halted Seven = refl

      runs : (proc : Proc) → any_runs (io_of u proc).dma.channels ≡ true
          → any_runs (io_of (record u { nine = processor_io_triggered u.nine causes.Geometry now }) proc).dma.channels ≡ true
      runs Nine h = event_runs u.nine.dma causes.Geometry now all.nine.dma h
      runs Seven h = h

nothing_happens : (now : Tick) (u : IoState) → IsIo u → Happens now u u
nothing_happens now u all = record { io = all; dues = λ a l. inl refl; halted = λ proc. refl; blocked = λ proc h. h; stall = λ h. h }

triggered_happens : (now : Tick) (u : IoState) → IsIo u → Happens now u (geometry_triggered now u)
triggered_happens now u all = go (is_half_empty u.gx) where
  go : (b : Bool) → Happens now u (if b then record u { nine = processor_io_triggered u.nine causes.Geometry now } else u)
  go true = nine_happens now u all
  go false = nothing_happens now u all

-- what a stall left is kept only where it holds back the channel that is due: no due tick changes
kept_tick : (released : ℕ) (which : ℕ) (d : Option Tick) → released_at (if channel_comes_before (due_with which d) released then released else 0) d ≡ released_at released d
kept_tick released which None = refl
kept_tick released which (Some tick) = go (nat_lt tick.0 released) refl where
  go : (b : Bool) → nat_lt tick.0 released ≡ b → released_at (if b then released else 0) (Some tick) ≡ released_at released (Some tick)
  go true e = refl
  go false e = (let same : max 0 tick.0 ≡ max released tick.0 = grind (arith, e) in ap (λ (t : ℕ). (let at : Option Tick = Some (record { 0 = t }) in at)) same)

kept_due : (stalled : Bool) (released which channel : ℕ) (f : ℕ → Option Tick) (same : Bool) → (channel == which) ≡ same
    → held_due stalled (release_by stalled (due_with which (f which)) released) (if same then f channel else None)
    ≡ held_due stalled released (if same then f channel else None)
kept_due true released which channel f same e = refl
kept_due false released which channel f false e = refl
kept_due false released which channel f true e =
    let P : ℕ → Type 0 = λ x. released_at (if channel_comes_before (due_with which (f which)) released then released else 0) (f x) ≡ released_at released (f x) in
    subst P (sym (equal channel which e)) (kept_tick released which (f which))

pub kept_same : (u : IoState) (channel : ℕ) → io_due (Dma Nine channel) (release_kept u) ≡ io_due (Dma Nine channel) u
kept_same u channel =
    let least = least_running u.nine.dma.channels in
    kept_due (is_stalled u.gx) u.released least channel (λ which. ready u.nine.dma.last (channel_at u.nine.dma.channels which)) (channel == least) refl

kept_each : (now : Tick) (u : IoState) → ReschedulesEach now u (release_kept u)
kept_each now u (Timer Nine number) l = inl refl
kept_each now u (Timer Seven number) l = inl refl
kept_each now u (Dma Nine channel) l = inl (kept_same u channel)
kept_each now u (Dma Seven channel) l = inl refl
kept_each now u _ l = inl refl

kept_happens : (now : Tick) (u : IoState) → IsIo u → Happens now u (release_kept u)
kept_happens now u all = record {
  io = record { nine = all.nine; seven = all.seven; gx = all.gx };
  dues = kept_each now u;
  halted = halted;
  blocked = blocked;
  stall = λ h. h;
} where
  halted : (proc : Proc) → (io_of (release_kept u) proc).halted ≡ (io_of u proc).halted
  halted Nine = refl
  halted Seven = refl

  blocked : (proc : Proc) → blocks_processor (io_of u proc) ≡ true → blocks_processor (io_of (release_kept u) proc) ≡ true
  blocked Nine h = h
  blocked Seven h = h

pub settled_happens : (now : Tick) (u : IoState) → IsIo u → Happens now u (settled now u)
settled_happens now u all =
    let told = told_happens now u all in
    let triggered = triggered_happens now (level_told u) told.io in
    happens_on now u (level_told u) (settled now u) told
    (happens_on now (level_told u) (geometry_triggered now (level_told u)) (settled now u) triggered (kept_happens now (geometry_triggered now (level_told u)) triggered.io))

-- ---- where they are settled they stay, and after it they are settled

or_twice : (x y : ℕ) → bit_or (bit_or x y) y ≡ bit_or x y
or_twice x y = same_from_bits (bit_or (bit_or x y) y) (bit_or x y) (λ i. let a = bit_at_or (bit_or x y) y i in let b = bit_at_or x y i in omega (arith, a, b))

and_twice : (x y : ℕ) → bit_and (bit_and x y) y ≡ bit_and x y
and_twice x y = same_from_bits (bit_and (bit_and x y) y) (bit_and x y) (λ i. let a = bit_at_and (bit_and x y) y i in let b = bit_at_and x y i in omega (arith, a, b))

levelled_twice : (s : IrqState) (on : Bool) → (irq_levelled (irq_levelled s on) on).if_ ≡ (irq_levelled s on).if_
levelled_twice s true = or_twice s.if_ level
levelled_twice s false = and_twice s.if_ (bit_not w32 level)

no_more : (a b : Bool) → b ≡ false → not (a && b) ≡ true
no_more true b h = rw h refl
no_more false b h = refl

told_stays : (u : IoState) → (irq_levelled u.nine.irq (gx_level u.gx)).if_ ≡ u.nine.irq.if_ → level_told u ≡ u
told_stays u e = ap (λ (flags : ℕ). record u { nine = record u.nine { irq = record u.nine.irq { if_ = flags } } }) e

triggered_stays : (now : Tick) (u : IoState) → IsIo u → not (is_half_empty u.gx && awaits_geometry u.nine.dma) ≡ true → geometry_triggered now u ≡ u
triggered_stays now u all none = go (is_half_empty u.gx) none where
  waits : (b : Bool) → not b ≡ true → b ≡ false
  waits true h = absurd (true≢false (sym h))
  waits false h = refl

  go : (b : Bool) → not (b && awaits_geometry u.nine.dma) ≡ true → (if b then record u { nine = processor_io_triggered u.nine causes.Geometry now } else u) ≡ u
  go true h = ap (λ (dma : DmaState). record u { nine = record u.nine { dma = dma } }) (awaits_none u.nine.dma now all.nine.dma.four (waits _ h))
  go false h = refl

kept_stays : (u : IoState) → release_of u ≡ u.released → release_kept u ≡ u
kept_stays u e = ap (λ (tick : ℕ). record u { released = tick }) e

pub settled_stays : (now : Tick) (u : IoState) → IsIo u → is_settled u ≡ true → settled now u ≡ u
settled_stays now u all h =
    let parts = both _ _ h in
    let rest = both _ _ parts.1 in
    ap (λ (x : IoState). release_kept (geometry_triggered now x)) (told_stays u (equal _ _ parts.0)) ∙ ap release_kept (triggered_stays now u all rest.0)
    ∙ kept_stays u (equal _ _ rest.1)

-- what is kept once is kept
kept_again : (due : Option DmaDue) (released : ℕ) (b : Bool) → channel_comes_before due released ≡ b
    → (if channel_comes_before due (if b then released else 0) then (if b then released else 0) else 0) ≡ (if b then released else 0)
kept_again due released true e = ap (λ (b : Bool). if b then released else 0) e
kept_again due released false e = none_kept (channel_comes_before due 0) 0 refl

release_twice : (stalled : Bool) (due : Option DmaDue) (released : ℕ) → release_by stalled due (release_by stalled due released) ≡ release_by stalled due released
release_twice true due released = refl
release_twice false due released = kept_again due released (channel_comes_before due released) refl

pub kept_twice : (u : IoState) → release_of (release_kept u) ≡ release_of u
kept_twice u = release_twice (is_stalled u.gx) (dma_due u.nine.dma) u.released

pub settles : (now : Tick) (u : IoState) → IsIo u → is_settled (settled now u) ≡ true
settles now u all = go (is_half_empty u.gx) refl where
  told : ((irq_levelled (level_told u).nine.irq (gx_level u.gx)).if_ == (level_told u).nine.irq.if_) ≡ true
  told = is_equal _ _ (levelled_twice u.nine.irq (gx_level u.gx))

  kept : (v : IoState) → (release_of (release_kept v) == (release_kept v).released) ≡ true
  kept v = is_equal _ _ (kept_twice v)

  go : (b : Bool) → is_half_empty u.gx ≡ b
      → is_settled (release_kept (if b then record (level_told u) { nine = processor_io_triggered (level_told u).nine causes.Geometry now } else level_told u)) ≡ true
  go true e =
      both_true _ _ told
      (both_true _ _ (no_more (is_half_empty u.gx) _ (awaits_no_more u.nine.dma now all.nine.dma.four))
      (kept (record (level_told u) { nine = processor_io_triggered (level_told u).nine causes.Geometry now })))
  go false e = both_true _ _ told (both_true _ _ (rw e refl) (kept (level_told u)))

-- a halt, and its end, leave this as it is
pub halt_settled : (proc : Proc) (u : IoState) (halted : Bool) → is_settled (with_halted proc u halted) ≡ is_settled u
halt_settled Nine u halted = refl
halt_settled Seven u halted = refl

-- nor does video memory
pub vram_settled : (u : IoState) (vram : Banks) → is_settled (record u { vram = vram }) ≡ is_settled u
vram_settled u vram = refl

-- ---- who isn't due isn't still

or_grows : (a b c d : Bool) → (a ≡ true → c ≡ true) → (b ≡ true → d ≡ true) → (a || b) ≡ true → (c || d) ≡ true
or_grows true b c d h k e = rw (h refl) refl
or_grows false true c d h k e = go c d (k refl) where
  go : (c d : Bool) → d ≡ true → (c || d) ≡ true
  go true d e = refl
  go false d e = e
or_grows false false c d h k e = absurd (true≢false (sym e))

pub happens_held : (now : Tick) (old new : IoState) → Happens now old new → (proc : Proc) → is_held old proc ≡ true → is_held new proc ≡ true
happens_held now old new h Nine e = or_grows _ _ _ _ (h.blocked Nine) h.stall e
happens_held now old new h Seven e = h.blocked Seven e
