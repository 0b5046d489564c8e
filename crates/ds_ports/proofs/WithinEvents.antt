use Rattle.ds_ports.proofs.Words.{Bool, CardState, Cause, Dma, DmaState, Geometry, GeometryCommand, GxState, HBlank, IoState, IsProcessorIo, IsSome}
use Rattle.ds_ports.proofs.Words.{IsVideo, List, Nine, None, Option, Proc, ScanState, Seven, Shown, Some, Stop, Tick, Timer, VBlank, Video, ap, arith}
use Rattle.ds_ports.proofs.Words.{asks_for_swap, both_raised, card_after_event, card_done, card_done_at, card_due, card_starter, channel_moved}
use Rattle.ds_ports.proofs.Words.{channels_shown, channels_triggered, complete_command, division_finished, dma_due, done_by, drop, either}
use Rattle.ds_ports.proofs.Words.{entries_taken, event_ends, event_raised, event_readies, false, geometry_done, geometry_swapped, geometry_triggered}
use Rattle.ds_ports.proofs.Words.{gx_level, if◌then◌else◌, io_due, io_event, io_of, irq_levelled, is_half_empty, keys_pressed, keys_told, level_told}
use Rattle.ds_ports.proofs.Words.{most_waits, overflow_of, processor_io_raised, processor_io_triggered, raised_to, refl, release_kept, release_of}
use Rattle.ds_ports.proofs.Words.{root_finished, scan_after, scan_before, scan_due, scan_due_tick, settled, shown_to_others, stall_ends, starter_told}
use Rattle.ds_ports.proofs.Words.{stays_video, subst, sym, tick_after, timer_at, timer_due, timer_overflows, told_of_card, unless_stop, video_done}
use Rattle.ds_ports.proofs.Words.{video_happened, video_shown, video_stop, with_halted, with_io_of, words_taken, ℕ, ◌+◌, ◌<◌, ◌∙◌, ◌≡◌, ◌≤◌}
use Rattle.ds_runs.specs.declared.actors.Actor.TheVariants.{KeyScript, Divider, SquareRoot, Card, Processor}
use Rattle.gx_geometry.specs.States.{GeometryState, no_swap, geometry_after, swapped}
use Rattle.ds_ports.specs.WithinLaws.{IsBy, IsSoonBy, OwnIsWithinTick}
use Rattle.ds_dma.specs.declared.controls.Cause.TheVariants as causes
use Rattle.ds_runs.specs.declared.actors.Actor as actor
use Rattle.video2d.proofs.SavedScans.{scans_follow}
use Rattle.ds_ports.proofs.Events.{HasEvent, happened_scan}
use Rattle.ds_ports.proofs.WithinOwn.{OwnStays, alike, overflow_own, raised_own, told_own, triggered_own, unit_own}
use Rattle.ds_ports.proofs.WithinPorts.{Stays, begun_soon, beside, beside_all, other_video, own_stays, raised_both, with_own}

-- Events at a tick below a limit, and settling after a step, keep the units within it.

not_seven : Nine ≡ Seven → ⊥
not_seven h = grind (arith, h)

module _ (limit : ℕ) where
  -- ---- channels are triggered

  pub triggered_stays : (cause : Cause) (now : Tick) (u : IoState) → now.0 ≤ limit → Stays limit u → Stays limit (channels_triggered cause now u)
  triggered_stays cause now u le h =
      let first = with_own limit Nine u (processor_io_triggered u.nine cause now) h (triggered_own limit Nine u.nine cause now le (own_stays limit u h Nine)) in
      with_own limit Seven (with_io_of Nine u (processor_io_triggered u.nine cause now)) (processor_io_triggered u.seven cause now) first
      (triggered_own limit Seven u.seven cause now le (own_stays limit u h Seven))

  -- ---- other keys are pressed

  pub keys_stay : (u : IoState) (pressed : ℕ) → Stays limit u → Stays limit (keys_pressed u pressed)
  keys_stay u pressed h =
      let other : IoState = record u { pressed = pressed } in
      let first = with_own limit Nine other (keys_told u.nine pressed) (beside_all limit u other refl refl refl refl refl refl refl refl h)
      (told_own limit Nine u.nine pressed (own_stays limit u h Nine)) in
      with_own limit Seven (with_io_of Nine other (keys_told u.nine pressed)) (keys_told u.seven pressed) first
      (told_own limit Seven u.seven pressed (own_stays limit u h Seven))

  -- ---- a timer overflows; a division or a square root is done

  by_tick : (now : Tick) (due : Option Tick) → due ≡ Some now → now.0 < limit → IsBy limit due
  by_tick now due e lt = subst (IsBy limit) (sym e) (let le : now.0 ≤ limit = omega (arith, lt) in le)

  timer_stays : (proc : Proc) (number : ℕ) (now : Tick) (u : IoState) → now.0 < limit → io_due (Timer proc number) u ≡ Some now → Stays limit u
      → Stays limit (timer_overflows proc number u)
  timer_stays proc number now u lt due h =
      let own = io_of u proc in
      let o = overflow_of own.timers number in
      with_own limit proc u (processor_io_raised (record own { timers = o.timers }) o.bits) h
      (raised_own limit proc (record own { timers = o.timers }) o.bits
      (overflow_own limit proc own number (by_tick now (timer_due (timer_at own.timers number)) due lt) (own_stays limit u h proc)))

  division_stays : (u : IoState) → Stays limit u → Stays limit (record u { divider = division_finished u.divider })
  division_stays u h = beside limit u (record u { divider = division_finished u.divider }) refl refl h tt h.within.root h.within.gx h.within.card h.within.released refl refl

  root_stays : (u : IoState) → Stays limit u → Stays limit (record u { root = root_finished u.root })
  root_stays u h = beside limit u (record u { root = root_finished u.root }) refl refl h h.within.divider tt h.within.gx h.within.card h.within.released refl refl

  -- ---- the card's event

  told_of_card_stays : (card : CardState) (starter : Option Proc) (now : Tick) (u : IoState) → now.0 < limit → Stays limit u
      → Stays limit (starter_told starter card now u)
  told_of_card_stays card None now u lt h = h
  told_of_card_stays card (Some starter) now u lt h =
      let own = io_of u starter in
      let raised = processor_io_raised own (raised_to starter (event_raised card)) in
      let first = raised_own limit starter own (raised_to starter (event_raised card)) (own_stays limit u h starter) in
      let le : now.0 ≤ limit = omega (arith, lt) in
      with_own limit starter u (told_of_card card starter now own) h
      (either (λ (dma : DmaState). OwnStays limit starter (record raised { dma = dma })) (event_readies card) _ _
      (triggered_own limit starter raised causes.Card now le first) first)

  card_stays : (file : List ℕ) (now : Tick) (u : IoState) → now.0 < limit → card_due u.card ≡ Some now → Stays limit u → Stays limit (card_done file u)
  card_stays file now u lt due h =
      let given : IoState = record u { card = card_after_event file u.card } in
      let first : Stays limit given =
      beside limit u given refl refl h h.within.divider h.within.root h.within.gx (subst (IsSoonBy limit) (sym (event_ends file u.card)) tt) h.within.released refl refl in
      subst (λ (d : Option Tick). Stays limit (card_done_at d file u)) (sym due)
      (told_of_card_stays u.card (card_starter u.card) now given lt first)

  -- ---- geometry: the head command is done

  -- no command changes the lists of the last swap
  after_last : (command : GeometryCommand) (words : List ℕ) (g : GeometryState) → (geometry_after command words g).last ≡ g.last
  unfolding geometry_after
  after_last command words g = refl

  done_last : (due : Option Tick) (head : Option GeometryCommand) (s : GxState) → (done_by due head s).geometry.last ≡ s.geometry.last
  done_last None head s = refl
  done_last (Some now) None s = refl
  done_last (Some now) (Some command) s = after_last command (words_taken command s.fifo.entries) s.geometry

  abbrev IsBelow : Option Tick → Type 0
  IsBelow None = Unit {0}
  IsBelow (Some tick) = tick.0 < limit

  done_soon : (now : Tick) (due : Option Tick) (head : Option GeometryCommand) (s : GxState) → due ≡ Some now → now.0 < limit → IsSoonBy limit s.due
      → IsSoonBy limit (done_by due head s).due
  done_soon now None head s e lt h = h
  done_soon now (Some tick) None s e lt h = h
  done_soon now (Some tick) (Some command) s e lt h =
      begun_soon limit tick (asks_for_swap command) (drop (entries_taken command) s.fifo.entries)
      (subst IsBelow (sym e) lt)

  released_by : (now : Tick) (due : Option Tick) (released : ℕ) → due ≡ Some now → now.0 < limit → tick_after due released ≤ limit
  released_by now due released e lt =
      subst (λ (d : Option Tick). tick_after d released ≤ limit) (sym e) (let le : now.0 + 1 ≤ limit = omega (arith, lt) in le)

  pub geometry_stays : (now : Tick) (u : IoState) → now.0 < limit → u.gx.due ≡ Some now → Stays limit u → Stays limit (geometry_done u)
  geometry_stays now u lt due h =
      let head = complete_command u.gx.fifo.entries in
      beside limit u (geometry_done u) refl refl h h.within.divider h.within.root (done_soon now u.gx.due head u.gx due lt h.within.gx) h.within.card
      (either (λ (n : ℕ). n ≤ limit) (stall_ends u) _ _ (released_by now u.gx.due u.released due lt) h.within.released) (done_last u.gx.due head u.gx) refl

  -- geometry is another one
  other_gx : (u : IoState) (gx : GxState) → Stays limit u → IsSoonBy limit gx.due → gx.geometry.last.tick.0 ≤ limit
      → (gx.geometry.last.tick.0 ≡ 0 → gx.geometry.last ≡ no_swap) → Stays limit (record u { gx = gx })
  other_gx u gx h due swap none = record {
    is = is;
    within = record {
      own = own;
      divider = h.within.divider;
      root = h.within.root;
      gx = due;
      card = h.within.card;
      released = h.within.released;
      swap = swap;
      none = none;
      video = h.within.video;
      scan = h.within.scan;
    };
  } where
    is : (proc : Proc) → IsProcessorIo (io_of (record u { gx = gx }) proc)
    is Nine = h.is Nine
    is Seven = h.is Seven

    own : (proc : Proc) → OwnIsWithinTick proc limit (io_of (record u { gx = gx }) proc)
    own Nine = h.within.own Nine
    own Seven = h.within.own Seven

  swapped_tick : (now : Tick) (g : GeometryState) → (swapped now g).last.tick ≡ now
  unfolding swapped
  swapped_tick now g = refl

  -- a swap, at a tick that isn't 0
  pub swap_stays : (now : Tick) (u : IoState) → 1 ≤ now.0 → now.0 < limit → Stays limit u → Stays limit (geometry_swapped now u)
  swap_stays now u some lt h =
      let is = swapped_tick now u.gx.geometry in
      let le : now.0 ≤ limit = omega (arith, lt) in
      let none : now.0 ≡ 0 → ⊥ = λ e. absurd (omega (arith, some, e)) in
      either (λ (x : GxState). Stays limit (record u { gx = x })) u.gx.swap_waits _ _
      (other_gx u _ h (begun_soon limit now false u.gx.fifo.entries lt) (subst (λ (t : Tick). t.0 ≤ limit) (sym is) le)
      (λ e. absurd (none (sym (ap (λ (t : Tick). t.0) is) ∙ e)))) h

  -- ---- the display's event

  channels_stay : (shown : Shown) (now : Tick) (u : IoState) → now.0 < limit → Stays limit u → Stays limit (channels_shown shown now u)
  channels_stay shown now u lt h =
      let le : now.0 ≤ limit = omega (arith, lt) in
      either (Stays limit) shown.vblank (channels_triggered VBlank now u) (if shown.hblank then channels_triggered HBlank now u else u)
      (triggered_stays VBlank now u le h)
      (either (Stays limit) shown.hblank (channels_triggered HBlank now u) u (triggered_stays HBlank now u le h) h)

  happened_next : (palette oam : List ℕ) (u : IoState) (at : ℕ) → u.video.scan ≡ scan_before at
      → (video_happened u.vram palette oam u.video).scan ≡ scan_before (scan_due u.video.scan + 1)
  happened_next palette oam u at scan =
      happened_scan u.vram palette oam u.video
      ∙ subst (λ (s : ScanState). scan_after s ≡ scan_before (scan_due s + 1)) (sym scan) (sym (scans_follow.event at))

  pub show_stays : (palette oam : List ℕ) (u : IoState) → scan_due u.video.scan < limit → video_stop oam u.video ≡ None → Stays limit u
      → Stays limit (video_done palette oam u)
  show_stays palette oam u lt none h =
      let now = scan_due_tick u.video.scan in
      let shown = video_shown u.video in
      let happened = video_happened u.vram palette oam u.video in
      let next = happened_next palette oam u h.within.scan.0 h.within.scan.2 in
      let is : IsVideo happened = subst (λ (stop : Option Stop). IsVideo (unless_stop stop happened u.video)) none (stays_video.event u.vram palette oam u.video h.within.video) in
      let first : Stays limit (record u { video = happened }) = other_video limit u happened h is (scan_due u.video.scan + 1) (omega (arith, lt)) next in
      let whole = channels_stay shown now (both_raised (record u { video = happened }) shown.raised) lt
      (raised_both limit (record u { video = happened }) shown.raised first) in
      subst (λ (stop : Option Stop). Stays limit (unless_stop stop (shown_to_others shown now (record u { video = unless_stop stop happened u.video })) u)) (sym none) whole

  -- ---- what follows a step

  level_stays : (u : IoState) → Stays limit u → Stays limit (level_told u)
  level_stays u h =
      with_own limit Nine u (record u.nine { irq = irq_levelled u.nine.irq (gx_level u.gx) }) h (record {
        is = record { timers = (h.is Nine).timers; dma = (h.is Nine).dma };
        within = record {
          timers = (h.within.own Nine).timers;
          dma = (h.within.own Nine).dma;
          is_its = (h.within.own Nine).is_its;
          ie = (h.within.own Nine).ie;
          keycnt = (h.within.own Nine).keycnt;
          level = λ e. absurd (not_seven e);
        };
      })

  release_least : (u : IoState) → release_of u ≤ u.released
  release_least u = grind arith

  pub settle_stays : (now : Tick) (u : IoState) → now.0 ≤ limit → Stays limit u → Stays limit (settled now u)
  settle_stays now u le h =
      let told = level_told u in
      let first = level_stays u h in
      let second : Stays limit (geometry_triggered now told) =
      either (Stays limit) (is_half_empty told.gx) _ _
      (with_own limit Nine told (processor_io_triggered told.nine causes.Geometry now) first (triggered_own limit Nine told.nine causes.Geometry now le (own_stays limit told first Nine)))
      first in
      let last = geometry_triggered now told in
      beside limit last (release_kept last) refl refl second second.within.divider second.within.root second.within.gx second.within.card
      (let kept = release_least last in let most = second.within.released in omega (arith, kept, most)) refl refl

  -- a processor is halted, or goes on
  pub halt_stays : (proc : Proc) (u : IoState) (halted : Bool) → Stays limit u → Stays limit (with_halted proc u halted)
  halt_stays proc u halted h = with_own limit proc u _ h (alike limit proc (io_of u proc) (record (io_of u proc) { halted = halted }) refl refl refl refl refl (own_stays limit u h proc))

  -- the channel that is due moves its first unit, but for the access itself
  pub move_stays : (proc : Proc) (now : Tick) (waits : ℕ) (u : IoState) → waits ≤ most_waits → IsSome (dma_due (io_of u proc).dma) → 1 ≤ now.0 → now.0 < limit
      → Stays limit u → Stays limit (channel_moved proc now waits u)
  move_stays proc now waits u brief due some lt h =
      with_own limit proc u _ h (unit_own limit proc (io_of u proc) now waits brief due some (omega (arith, lt)) (own_stays limit u h proc))

  -- ---- the events of those behind the ports that have one of their own

  pub event_stays : (file : List ℕ) (a : actor.Actor) (now : Tick) (u : IoState) → now.0 < limit → HasEvent a → io_due a u ≡ Some now → Stays limit u
      → Stays limit (io_event file a u)
  event_stays file KeyScript now u lt has due h = absurd has
  event_stays file Video now u lt has due h = absurd has
  event_stays file (Timer proc number) now u lt has due h = timer_stays proc number now u lt due h
  event_stays file Divider now u lt has due h = division_stays u h
  event_stays file SquareRoot now u lt has due h = root_stays u h
  event_stays file Geometry now u lt has due h = absurd has
  event_stays file Card now u lt has due h = card_stays file now u lt due h
  event_stays file (Dma proc channel) now u lt has due h = absurd has
  event_stays file (Processor proc) now u lt has due h = absurd has
