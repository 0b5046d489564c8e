use Rattle.ds_ports.proofs.Words.{AreReadyLater, AreWaiting, Banks, Bool, CardState, Cause, Dma, DmaState, Geometry, HBlank, IoState, IsDma, IsIo}
use Rattle.ds_ports.proofs.Words.{IsLater, IsNumbered, IsProcessorIo, IsSome, IsUnchanged, List, Nine, None, Option, Proc, ProcessorIoState, Raised}
use Rattle.ds_ports.proofs.Words.{Reschedules, ReschedulesEach, ScanState, Seven, Shown, Some, Stop, Tick, Timer, TimerState, VBlank, Video}
use Rattle.ds_ports.proofs.Words.{VideoState, any_runs, ap, arith, blanks_drawn_line, blocks_processor, both_raised, card_after_event, card_done}
use Rattle.ds_ports.proofs.Words.{card_done_at, card_due, card_starter, channel_at, channel_due, channel_moved, channels_shown, channels_triggered}
use Rattle.ds_ports.proofs.Words.{division_finished, dma_due, dma_finished, dma_finished_is, dma_triggered_is, due_channel, due_with, either}
use Rattle.ds_ports.proofs.Words.{event_ends, event_readies, event_runs, event_schedules, false, held_due, if◌then◌else◌, inl, inr, io_due, io_event}
use Rattle.ds_ports.proofs.Words.{io_of, is_stalled, keys_pressed, least_running, line_after, most_waits, none-some, one_reschedules, other_proc}
use Rattle.ds_ports.proofs.Words.{overflow_keeps, overflow_of, overflow_schedules, processor_io_moved, processor_io_raised, processor_io_triggered}
use Rattle.ds_ports.proofs.Words.{ready, refl, root_finished, scan_after, scan_due, scan_due_tick, shown_to_others, starter_told, starts_vblank}
use Rattle.ds_ports.proofs.Words.{subst, sym, timer_at, timer_due, timer_overflows, told_of_card, true, true≢false, unless_stop, video_done}
use Rattle.ds_ports.proofs.Words.{video_happened, video_shown, video_stop, with_io_of, ℕ, ◌&&◌, ◌<◌, ◌==◌, ◌||◌, ◌∙◌, ◌≡◌, ◌≤◌}
use Rattle.ds_dma.proofs.Turns.{all_later, finished_later}
use Rattle.ds_runs.specs.declared.actors.Actor.TheVariants.{KeyScript, Divider, SquareRoot, Card, Processor}
use Rattle.video2d.specs.Videos.{video_after_event, hblank_set, line_drawn, video_blanked, video_line_started}
use Rattle.ds_dma.specs.declared.controls.Cause.TheVariants as causes
use Rattle.ds_runs.specs.declared.actors.Actor as actor
use Rattle.ds_ports.proofs.HeldDues.{held_reschedules}
use Rattle.ds_ports.proofs.Later.{ProcessorIoReschedules, card_each, divider_each, each_processor_io, in_turn, io_is, processor_io_across, processor_io_each, processor_io_is, processor_io_there, raised_unchanged, root_each, told_unchanged, unchanged_is, unchanged_same}
use Rattle.video2d.specs.Engines.{points_stepped}

-- What the events of the actors behind the ports make of the units, each at the tick at which it is due.

-- the units are sound still, each due tick is as it was or later, no processor is halted or goes on, and one that was blocked is blocked still, nor does a stall end
pub record Happens (now : Tick) (old new : IoState) : Type 0 where
  pub io : IsIo new
  pub dues : ReschedulesEach now old new
  pub halted : (proc : Proc) → (io_of new proc).halted ≡ (io_of old proc).halted
  pub blocked : (proc : Proc) → blocks_processor (io_of old proc) ≡ true → blocks_processor (io_of new proc) ≡ true
  pub stall : is_stalled old.gx ≡ true → is_stalled new.gx ≡ true

still_blocked : (a b c d : Bool) → b ≡ a → (c ≡ true → d ≡ true) → (a || c) ≡ true → (b || d) ≡ true
still_blocked true true c d e f h = refl
still_blocked true false c d e f h = absurd (true≢false (sym e))
still_blocked false true c d e f h = refl
still_blocked false false c d e f h = f h

-- no channel that ran stands still
pub happens_by : (now : Tick) (old new : IoState) → IsIo new → ReschedulesEach now old new → ((proc : Proc) → (io_of new proc).halted ≡ (io_of old proc).halted)
    → ((proc : Proc) → any_runs (io_of old proc).dma.channels ≡ true → any_runs (io_of new proc).dma.channels ≡ true)
    → (is_stalled old.gx ≡ true → is_stalled new.gx ≡ true) → Happens now old new
happens_by now old new io dues halted runs stall = record {
  io = io;
  dues = dues;
  halted = halted;
  blocked = λ proc h. still_blocked (io_of old proc).halted (io_of new proc).halted _ _ (halted proc) (runs proc) h;
  stall = stall;
}

-- each processor's own is left but its interrupt words
pub unchanged_happens : (now : Tick) (old new : IoState) → IsIo old → ((each : Proc) → IsUnchanged (io_of old each) (io_of new each)) → ReschedulesEach now old new
    → new.gx ≡ old.gx → Happens now old new
unchanged_happens now old new all same dues gx =
    happens_by now old new (io_is new (λ p. unchanged_is (io_of old p) (io_of new p) (same p) (processor_io_is old all p)) (subst AreWaiting (sym gx) all.gx)) dues
    (λ p. (same p).halted) (λ p h. ap (λ (dma : DmaState). any_runs dma.channels) (same p).dma ∙ h) (λ h. ap is_stalled gx ∙ h)

-- a processor's own changes, and geometry stays
gx_there : (proc : Proc) (u : IoState) (processor_io : ProcessorIoState) → (with_io_of proc u processor_io).gx ≡ u.gx
gx_there Nine u processor_io = refl
gx_there Seven u processor_io = refl

-- one processor's own changes
pub own_is : (proc : Proc) (u : IoState) (processor_io : ProcessorIoState) → IsIo u → IsProcessorIo processor_io → IsIo (with_io_of proc u processor_io)
own_is proc u processor_io all is =
    io_is (with_io_of proc u processor_io) (each_processor_io (λ p x. IsProcessorIo x) proc u processor_io is (processor_io_is u all (other_proc proc)))
    (subst AreWaiting (sym (gx_there proc u processor_io)) all.gx)

-- ---- a timer overflows: it is due later then

overflowed : (now : Tick) (processor_io : ProcessorIoState) (timers : List TimerState) (raised : ℕ)
    → ((which : ℕ) → which < 4 → Reschedules now (timer_due (timer_at processor_io.timers which)) (timer_due (timer_at timers which)))
    → ProcessorIoReschedules now processor_io (processor_io_raised (record processor_io { timers = timers }) raised)
overflowed now processor_io timers raised each (Timer proc number) l = each number l
overflowed now processor_io timers raised each _ l = inl refl

timer_goes : (proc : Proc) (number : ℕ) (now : Tick) (u : IoState) → IsIo u → number < 4 → io_due (Timer proc number) u ≡ Some now
    → Happens now u (timer_overflows proc number u) × IsLater now (io_due (Timer proc number) (timer_overflows proc number u))
timer_goes proc number now u all l due =
    let processor_io = io_of u proc in
    let is = processor_io_is u all proc in
    let one = overflow_schedules processor_io.timers number is.timers l now due in
    let o = overflow_of processor_io.timers number in
    let new : ProcessorIoState = processor_io_raised (record processor_io { timers = o.timers }) o.bits in (
      happens_by now u (with_io_of proc u new)
          (own_is proc u new all (record { timers = overflow_keeps processor_io.timers number is.timers; dma = is.dma }))
          (processor_io_each proc now u new (overflowed now processor_io o.timers o.bits (one_reschedules number now processor_io.timers o.timers one)))
          (each_processor_io (λ p x. x.halted ≡ (io_of u p).halted) proc u new refl refl)
          (each_processor_io (λ p x. any_runs (io_of u p).dma.channels ≡ true → any_runs x.dma.channels ≡ true) proc u new (λ h. h) (λ h. h))
          (λ h. ap is_stalled (gx_there proc u new) ∙ h),
      subst (λ (x : ProcessorIoState). IsLater now (timer_due (timer_at x.timers number))) (sym (processor_io_there proc u new)) one.later,
    )

-- ---- a division, or a square root, is done, and due no more

division_happens : (now : Tick) (u : IoState) → IsIo u → Happens now u (record u { divider = division_finished u.divider })
division_happens now u all = unchanged_happens now u (record u { divider = division_finished u.divider }) all (λ p. unchanged_same (io_of u p)) (divider_each now u (record u { divider = division_finished u.divider }).divider (inr tt)) refl

root_happens : (now : Tick) (u : IoState) → IsIo u → Happens now u (record u { root = root_finished u.root })
root_happens now u all = unchanged_happens now u (record u { root = root_finished u.root }) all (λ p. unchanged_same (io_of u p)) (root_each now u (record u { root = root_finished u.root }).root (inr tt)) refl

-- ---- what happens in turn

pub happens_on : (now : Tick) (a b c : IoState) → Happens now a b → Happens now b c → Happens now a c
happens_on now a b c h k = record {
  io = k.io;
  dues = λ x l. in_turn now (io_due x a) (io_due x b) (io_due x c) (h.dues x l) (k.dues x l);
  halted = λ proc. k.halted proc ∙ h.halted proc;
  blocked = λ proc e. k.blocked proc (h.blocked proc e);
  stall = λ e. k.stall (h.stall e);
}

-- ---- the display goes on, raises interrupts and triggers channels: no transfer ends

raised_happens : (now : Tick) (u : IoState) (raised : Raised) → IsIo u → Happens now u (both_raised u raised)
raised_happens now u raised all = unchanged_happens now u (both_raised u raised) all unchanged each refl where
  unchanged : (proc : Proc) → IsUnchanged (io_of u proc) (io_of (both_raised u raised) proc)
  unchanged Nine = raised_unchanged u.nine raised.nine
  unchanged Seven = raised_unchanged u.seven raised.seven

  each : ReschedulesEach now u (both_raised u raised)
  each (Timer Nine number) l = inl refl
  each (Timer Seven number) l = inl refl
  each (Dma Nine channel) l = inl refl
  each (Dma Seven channel) l = inl refl
  each _ l = inl refl

triggered_processor_io : (cause : Cause) (now : Tick) (u : IoState) (each : Proc) → io_of (channels_triggered cause now u) each ≡ processor_io_triggered (io_of u each) cause now
triggered_processor_io cause now u Nine = refl
triggered_processor_io cause now u Seven = refl

each_triggered : (P : Proc → ProcessorIoState → Type 0) (cause : Cause) (now : Tick) (u : IoState) → ((each : Proc) → P each (processor_io_triggered (io_of u each) cause now))
    → (each : Proc) → P each (io_of (channels_triggered cause now u) each)
each_triggered P cause now u h = λ each. subst (P each) (sym (triggered_processor_io cause now u each)) (h each)

triggered_each : (cause : Cause) (now : Tick) (u : IoState) → IsIo u → ReschedulesEach now u (channels_triggered cause now u)
triggered_each cause now u all (Timer Nine number) l = inl refl
triggered_each cause now u all (Timer Seven number) l = inl refl
triggered_each cause now u all (Dma Nine channel) l =
    held_reschedules now (is_stalled u.gx) u.released _ _ (event_schedules u.nine.dma cause now all.nine.dma channel l)
triggered_each cause now u all (Dma Seven channel) l = event_schedules u.seven.dma cause now all.seven.dma channel l
triggered_each cause now u all _ l = inl refl

triggered_happens : (cause : Cause) (now : Tick) (u : IoState) → IsIo u → Happens now u (channels_triggered cause now u)
triggered_happens cause now u all =
    let new = channels_triggered cause now u in
    happens_by now u new
    (io_is new (each_triggered (λ p x. IsProcessorIo x) cause now u
    (λ p. record { timers = (processor_io_is u all p).timers; dma = dma_triggered_is (io_of u p).dma cause now (processor_io_is u all p).dma })) all.gx)
    (triggered_each cause now u all)
    (each_triggered (λ p x. x.halted ≡ (io_of u p).halted) cause now u (λ p. refl))
    (each_triggered (λ p x. any_runs (io_of u p).dma.channels ≡ true → any_runs x.dma.channels ≡ true) cause now u
    (λ p. event_runs (io_of u p).dma cause now (processor_io_is u all p).dma)) (λ h. h)

-- the display alone changes, and is due later
module _ (now : Tick) (u : IoState) (v : VideoState) (all : IsIo u) (later : now.0 < scan_due v.scan) where
  display_each : ReschedulesEach now u (record u { video = v })
  display_each Video l = inr later
  display_each (Timer Nine number) l = inl refl
  display_each (Timer Seven number) l = inl refl
  display_each (Dma Nine channel) l = inl refl
  display_each (Dma Seven channel) l = inl refl
  display_each _ l = inl refl

  display_unchanged : (proc : Proc) → IsUnchanged (io_of u proc) (io_of (record u { video = v }) proc)
  display_unchanged Nine = unchanged_same u.nine
  display_unchanged Seven = unchanged_same u.seven

  display_happens : Happens now u (record u { video = v })
  display_happens = unchanged_happens now u (record u { video = v }) all display_unchanged display_each refl

channels_happen : (shown : Shown) (now : Tick) (u : IoState) → IsIo u → Happens now u (channels_shown shown now u)
channels_happen shown now u all =
    let nothing : Happens now u u = record { io = all; dues = λ a l. inl refl; halted = λ proc. refl; blocked = λ proc h. h; stall = λ h. h } in
    let drawn = either (Happens now u) shown.hblank (channels_triggered HBlank now u) u (triggered_happens HBlank now u all) nothing in
    either (Happens now u) shown.vblank (channels_triggered VBlank now u) (if shown.hblank then channels_triggered HBlank now u else u)
    (triggered_happens VBlank now u all) drawn

-- where it stops nothing happens; else it is later
scan_rises : (s : ScanState) → scan_due s < scan_due (scan_after s)
scan_rises s = grind arith

pub happened_scan : (m : Banks) (palette oam : List ℕ) (v : VideoState) → (video_happened m palette oam v).scan ≡ scan_after v.scan
happened_scan m palette oam v =
    let P : VideoState → Type 0 = λ x. x.scan ≡ scan_after v.scan in
    either P v.scan.blanked _ (video_blanked m palette oam v) refl (either P (blanks_drawn_line v.scan) _ _ refl refl)

video_rises : (m : Banks) (palette oam : List ℕ) (v : VideoState) → video_stop oam v ≡ None → scan_due v.scan < scan_due (video_after_event m palette oam v).scan
video_rises m palette oam v none =
    subst (λ (stop : Option Stop). scan_due v.scan < scan_due (unless_stop stop (video_happened m palette oam v) v).scan) (sym none)
    (subst (λ (s : ScanState). scan_due v.scan < scan_due s) (sym (happened_scan m palette oam v)) (scan_rises v.scan))

-- the display is as its event left it
told_video : (shown : Shown) (now : Tick) (u : IoState) → (shown_to_others shown now u).video ≡ u.video
told_video shown now u =
    let P : IoState → Type 0 = λ x. x.video ≡ u.video in
    let t = both_raised u shown.raised in
    either P shown.vblank (channels_triggered VBlank now t) (if shown.hblank then channels_triggered HBlank now t else t) refl
    (either P shown.hblank (channels_triggered HBlank now t) t refl refl)

-- and its last whole frame is another one where one becomes whole alone
line_192 : (line : ℕ) → (line == 191) ≡ false → (line_after line == 192) ≡ false
line_192 line h = grind (arith, h)

pub happened_whole : (m : Banks) (palette oam : List ℕ) (v : VideoState) → starts_vblank v.scan ≡ false → (video_happened m palette oam v).whole ≡ v.whole
happened_whole m palette oam v h = go v.scan.blanked h where
  started : (b : Bool) → b ≡ false → (if b then v.drawn else v.whole) ≡ v.whole
  started true e = absurd (grind (arith, e))
  started false e = refl

  blanked : (b : Bool) → (if b then record (hblank_set v) { a = points_stepped v.a; b = points_stepped v.b; drawn = line_drawn m palette oam v } else hblank_set v).whole ≡ v.whole
  blanked true = refl
  blanked false = refl

  go : (b : Bool) → (b && (v.scan.line == 191)) ≡ false → (if b then video_line_started (line_after v.scan.line) v else video_blanked m palette oam v).whole ≡ v.whole
  go true e = started (line_after v.scan.line == 192) (line_192 v.scan.line e)
  go false e = blanked (blanks_drawn_line v.scan)

-- what the display is after its event, where it doesn't stop
pub done_video : (palette oam : List ℕ) (u : IoState) → video_stop oam u.video ≡ None → (video_done palette oam u).video ≡ video_happened u.vram palette oam u.video
done_video palette oam u none =
    let now = scan_due_tick u.video.scan in
    let a : IoState = record u { video = video_after_event u.vram palette oam u.video } in
    let happened = video_happened u.vram palette oam u.video in
    let after : a.video ≡ happened = subst (λ (stop : Option Stop). unless_stop stop happened u.video ≡ happened) (sym none) refl in
    subst (λ (stop : Option Stop). (unless_stop stop (shown_to_others (video_shown u.video) now a) u).video ≡ happened) (sym none)
    (told_video (video_shown u.video) now a ∙ after)

-- the display's event, where it doesn't stop; and it is due later
pub show_goes : (palette oam : List ℕ) (u : IoState) → IsIo u → video_stop oam u.video ≡ None
    → Happens (scan_due_tick u.video.scan) u (video_done palette oam u) × (scan_due u.video.scan < scan_due (video_done palette oam u).video.scan)
show_goes palette oam u all none =
    let now = scan_due_tick u.video.scan in
    let shown = video_shown u.video in
    let rises = video_rises u.vram palette oam u.video none in
    let a : IoState = record u { video = video_after_event u.vram palette oam u.video } in
    let b = both_raised a shown.raised in
    let first = display_happens now u a.video all rises in
    let second = happens_on now u a b first (raised_happens now a shown.raised first.io) in
    let third = happens_on now u b (channels_shown shown now b) second (channels_happen shown now b second.io) in
    let later = subst (λ (v : VideoState). scan_due u.video.scan < scan_due v.scan) (sym (told_video shown now a)) rises in
    subst (λ (stop : Option Stop). Happens now u (unless_stop stop (shown_to_others shown now a) u)
    × (scan_due u.video.scan < scan_due (unless_stop stop (shown_to_others shown now a) u).video.scan)) (sym none) (third, later)

-- ---- the card gives a word, and its starter is told; then it isn't due

module _ (card : CardState) (now : Tick) where
  told_reschedules : (starter : Proc) (own : ProcessorIoState) → IsProcessorIo own → ProcessorIoReschedules now own (told_of_card card starter now own)
  told_reschedules starter own is (Dma proc channel) l =
      either (λ (dma : DmaState). Reschedules now (channel_due own.dma channel) (channel_due dma channel)) (event_readies card) _ _
      (event_schedules own.dma causes.Card now is.dma channel l) (inl refl)
  told_reschedules starter own is _ l = inl refl

  told_is : (starter : Proc) (own : ProcessorIoState) → IsProcessorIo own → IsProcessorIo (told_of_card card starter now own)
  told_is starter own is = record { timers = is.timers; dma = either IsDma (event_readies card) _ _ (dma_triggered_is own.dma causes.Card now is.dma) is.dma }

  starter_happens : (starter : Option Proc) (u : IoState) → IsIo u → Happens now u (starter_told starter card now u)
  starter_happens None u all = record { io = all; dues = λ a l. inl refl; halted = λ proc. refl; blocked = λ proc h. h; stall = λ h. h }
  starter_happens (Some starter) u all =
      let own = io_of u starter in
      let is = processor_io_is u all starter in
      let new = told_of_card card starter now own in
      happens_by now u (with_io_of starter u new) (own_is starter u new all (told_is starter own is))
      (processor_io_each starter now u new (told_reschedules starter own is))
      (each_processor_io (λ p x. x.halted ≡ (io_of u p).halted) starter u new refl refl)
      (each_processor_io (λ p x. any_runs (io_of u p).dma.channels ≡ true → any_runs x.dma.channels ≡ true) starter u new
      (λ h. either (λ (dma : DmaState). any_runs dma.channels ≡ true) (event_readies card) _ _ (event_runs own.dma causes.Card now is.dma h) h) (λ h. h))
      (λ h. ap is_stalled (gx_there starter u new) ∙ h)

  starter_card : (starter : Option Proc) (u : IoState) → (starter_told starter card now u).card ≡ u.card
  starter_card None u = refl
  starter_card (Some Nine) u = refl
  starter_card (Some Seven) u = refl

word_given : (file : List ℕ) (now : Tick) (u : IoState) → IsIo u → card_due u.card ≡ Some now
    → Happens now u (card_done file u) × IsLater now (card_due (card_done file u).card)
word_given file now u all due =
    let given : IoState = record u { card = card_after_event file u.card } in
    let none = event_ends file u.card in
    let first = unchanged_happens now u given all (λ p. by_proc p) (card_each now u given.card (inr (subst (IsLater now) (sym none) tt))) refl in
    let second = happens_on now u given (starter_told (card_starter u.card) u.card now given) first (starter_happens u.card now (card_starter u.card) given first.io) in
    let later = subst (IsLater now) (sym (ap card_due (starter_card u.card now (card_starter u.card) given) ∙ none)) tt in
    subst (λ (d : Option Tick). Happens now u (card_done_at d file u) × IsLater now (card_due (card_done_at d file u).card)) (sym due) (second, later) where
      by_proc : (p : Proc) → IsUnchanged (io_of u p) (io_of (record u { card = card_after_event file u.card }) p)
      by_proc Nine = unchanged_same u.nine
      by_proc Seven = unchanged_same u.seven

-- ---- each of them

-- an actor behind the ports but the display, whose event reads memories, geometry, whose event may end a stall, and the DMA channels, whose events
-- are accesses of memory
abbrev pub HasEvent : actor.Actor → Type 0
HasEvent KeyScript = ⊥
HasEvent Video = ⊥
HasEvent Geometry = ⊥
HasEvent (Dma proc channel) = ⊥
HasEvent (Processor proc) = ⊥
HasEvent a = Unit {0}

-- its event, and the actor is due later, or not at all
pub event_goes : (file : List ℕ) (a : actor.Actor) (now : Tick) (u : IoState) → IsIo u → HasEvent a → IsNumbered a → io_due a u ≡ Some now
    → Happens now u (io_event file a u) × IsLater now (io_due a (io_event file a u))
event_goes file KeyScript now u all has l due = absurd has
event_goes file Video now u all has l due = absurd has
event_goes file (Timer proc number) now u all has l due = timer_goes proc number now u all l due
event_goes file Divider now u all has l due = (division_happens now u all, tt)
event_goes file SquareRoot now u all has l due = (root_happens now u all, tt)
event_goes file Geometry now u all has l due = absurd has
event_goes file Card now u all has l due = word_given file now u all due
event_goes file (Dma proc channel) now u all has l due = absurd has
event_goes file (Processor proc) now u all has l due = absurd has

-- ---- other keys are pressed

keys_unchanged : (u : IoState) (pressed : ℕ) (each : Proc) → IsUnchanged (io_of u each) (io_of (keys_pressed u pressed) each)
keys_unchanged u pressed Nine = told_unchanged u.nine pressed
keys_unchanged u pressed Seven = told_unchanged u.seven pressed

keys_each : (now : Tick) (u : IoState) (pressed : ℕ) → ReschedulesEach now u (keys_pressed u pressed)
keys_each now u pressed (Timer proc number) l = inl (ap (λ ts. timer_due (timer_at ts number)) (keys_unchanged u pressed proc).timers)
keys_each now u pressed (Dma Nine channel) l = inl (ap (λ d. held_due (is_stalled u.gx) u.released (channel_due d channel)) (keys_unchanged u pressed Nine).dma)
keys_each now u pressed (Dma Seven channel) l = inl (ap (λ d. channel_due d channel) (keys_unchanged u pressed Seven).dma)
keys_each now u pressed _ l = inl refl

pub keys_happen : (now : Tick) (u : IoState) (pressed : ℕ) → IsIo u → Happens now u (keys_pressed u pressed)
keys_happen now u pressed all = unchanged_happens now u (keys_pressed u pressed) all (keys_unchanged u pressed) (keys_each now u pressed) refl

-- ---- the channel that is due moves its first unit, but for the access itself: no channel of its processor is due by then

pub record MovedGoes (proc : Proc) (now : Tick) (old new : IoState) : Type 0 where
  pub io : IsIo new
  pub dues : ReschedulesEach now old new
  pub later : AreReadyLater now (io_of new proc).dma
  pub timers : (each : Proc) → (io_of new each).timers ≡ (io_of old each).timers
  pub other : io_of new (other_proc proc) ≡ io_of old (other_proc proc)
  pub video : new.video ≡ old.video
  pub gx : new.gx ≡ old.gx
  pub released : new.released ≡ old.released

pub moved_goes : (proc : Proc) (now : Tick) (waits : ℕ) (u : IoState) → waits ≤ most_waits → IsIo u → IsSome (dma_due (io_of u proc).dma)
    → MovedGoes proc now u (channel_moved proc now waits u)
moved_goes proc now waits u brief all due =
    let processor_io = io_of u proc in
    let is = processor_io_is u all proc in
    let new : ProcessorIoState = processor_io_moved processor_io now waits in
    let later = finished_later processor_io.dma now waits in record {
      io = own_is proc u new all (record { timers = is.timers; dma = dma_finished_is processor_io.dma now waits brief is.dma due });
      dues = processor_io_each proc now u new (moved now processor_io);
      later = subst (λ (x : ProcessorIoState). AreReadyLater now x.dma) (sym (processor_io_there proc u new)) later;
      timers = each_processor_io (λ p x. x.timers ≡ (io_of u p).timers) proc u new refl refl;
      other = processor_io_across proc u new;
      video = shows proc u new;
      gx = gx_there proc u new;
      released = released_there proc u new;
    } where
      moved : (tick : Tick) (processor_io : ProcessorIoState) → ProcessorIoReschedules tick processor_io (processor_io_moved processor_io tick waits)
      moved tick processor_io (Dma of channel) l =
          all_later tick (dma_finished processor_io.dma tick waits) (channel_due processor_io.dma channel) (finished_later processor_io.dma tick waits) channel l
      moved tick processor_io _ l = inl refl

      released_there : (proc : Proc) (u : IoState) (processor_io : ProcessorIoState) → (with_io_of proc u processor_io).released ≡ u.released
      released_there Nine u processor_io = refl
      released_there Seven u processor_io = refl

      shows : (proc : Proc) (u : IoState) (processor_io : ProcessorIoState) → (with_io_of proc u processor_io).video ≡ u.video
      shows Nine u processor_io = refl
      shows Seven u processor_io = refl

-- the channel that is due is the one that runs with the least number

equal_numbers : (x y : ℕ) → (x == y) ≡ true → x ≡ y
equal_numbers x y h = grind (arith, h)

due_there : (dma : DmaState) (which : ℕ) (now : Tick) → channel_due dma which ≡ Some now → ready dma.last (due_channel dma) ≡ Some now
due_there dma which now h = by_number (which == least_running dma.channels) refl h where
  by_number : (b : Bool) → (which == least_running dma.channels) ≡ b → (if b then ready dma.last (channel_at dma.channels which) else None) ≡ Some now
      → ready dma.last (due_channel dma) ≡ Some now
  by_number true e k = subst (λ (n : ℕ). ready dma.last (channel_at dma.channels n) ≡ Some now) (equal_numbers which (least_running dma.channels) e) k
  by_number false e k = absurd (none-some now k)

pub some_due : (dma : DmaState) (which : ℕ) (now : Tick) → channel_due dma which ≡ Some now → IsSome (dma_due dma)
some_due dma which now due = subst (λ (d : Option Tick). IsSome (due_with (least_running dma.channels) d)) (sym (due_there dma which now due)) refl
