use Rattle.ds_ports.proofs.Words.{Auxspicnt, Bool, CardData, CardState, CardWord, Control, DisplayHalf, DisplayWord, DivDenom, DivNumer, Divcnt}
use Rattle.ds_ports.proofs.Words.{Dmacnt, Dmadad, Dmasad, GeometryCommand, GxCommand, GxEntry, GxPort, GxState, GxWord, Half, Haltcnt, Ie, If, Ime}
use Rattle.ds_ports.proofs.Words.{IoState, IpcState, Ipcfifocnt, Ipcfiforecv, Ipcfifosend, Ipcsync, IsProcessorIo, IsSlot, IsVideo, Keycnt, List}
use Rattle.ds_ports.proofs.Words.{Nine, None, Option, Proc, ProcessorIoState, Raised, Register, Seven, Some, Source, SqrtParam, Sqrtcnt, Target, Tick}
use Rattle.ds_ports.proofs.Words.{TmcntH, TmcntL, VideoState, Width, Word, after_write, ap, arith, begun, bits, both_raised, card_after_read}
use Rattle.ds_ports.proofs.Words.{card_due, card_set, card_word_taken, card_written, complete_command, data_port_at, division_ticks, done_after}
use Rattle.ds_ports.proofs.Words.{either, false, gx_port, gx_set, haltcnt_written, io_of, kept_keycnt, meaning_of, numbers_of, option_map, option_or}
use Rattle.ds_ports.proofs.Words.{port_read, port_written, processor_io_raised, raised_to, read_makes, read_raised, refl, scan_before, stays_video}
use Rattle.ds_ports.proofs.Words.{subst, sym, true, video_written, with_io_of, write_makes, write_port, ℕ, ◌%◌, ◌+◌, ◌<◌, ◌==◌, ◌^◌, ◌∙◌, ◌≡◌, ◌≤◌}
use Rattle.gx_geometry.specs.States.{Swapped, no_swap}
use Rattle.gx_matrix.specs.CommandTable.{command_of, command_row}
use Rattle.gx_fifo.specs.declared.ports.GxPort.TheVariants.{Display, Fifo, Direct, Status, Lengths, Position, Vector, Clip, VectorMatrix, Unlisted}
use Rattle.gx_fifo.specs.PackedWords.{entry_added, word_taken}
use Rattle.ds_ports.specs.WithinLaws.{IsSoonBy, OwnIsWithinTick, AreWithinTick}
use Rattle.ds_card.specs.Cards.{next_due, next_word_after}
use Rattle.ds_card.specs.declared.cards.Transfer.{Transfer}
use Rattle.gx_matrix.specs.declared.commands.GeometryCommand.TheVariants.{MtxMode}
use Rattle.ds_ports.proofs.Covered.{are_all, read_leaves, write_leaves}
use Rattle.ds_ports.proofs.DisplayPorts.{written_scan}
use Rattle.ds_ports.proofs.GxPorts.{written_last}
use Rattle.ds_ports.proofs.Later.{each_processor_io}
use Rattle.ds_ports.proofs.Passed.{any_covered, any_register}
use Rattle.ds_ports.proofs.RegisterMaps.{some_slot}
use Rattle.ds_ports.proofs.WithinOwn.{OwnStays, acked_own, alike, chosen_own, control_own, enabled_own, port_own, raised_own, reload_own, told_own}

-- Accesses at a tick below a limit keep the units within it.

-- a command of geometry takes few clocks
few_clocks : (command : GeometryCommand) → (command_row command).clocks ≤ 65535
few_clocks MtxMode = omega arith
few_clocks _ = omega arith

module _ (limit : ℕ) where
  -- what is kept: each processor's own is sound, and the units are within the limit
  pub record Stays (u : IoState) : Type 0 where
    pub is : (proc : Proc) → IsProcessorIo (io_of u proc)
    pub within : AreWithinTick limit u

  pub own_stays : (u : IoState) → Stays u → (proc : Proc) → OwnStays limit proc (io_of u proc)
  own_stays u h proc = record { is = h.is proc; within = h.within.own proc }

  -- what a processor has of its own changes
  pub with_own : (proc : Proc) (u : IoState) (own : ProcessorIoState) → Stays u → OwnStays limit proc own → Stays (with_io_of proc u own)
  with_own Nine u own h o = record {
    is = each_processor_io (λ p x. IsProcessorIo x) Nine u own o.is (h.is Seven);
    within = record {
      own = each_processor_io (λ p x. OwnIsWithinTick p limit x) Nine u own o.within (h.within.own Seven);
      divider = h.within.divider;
      root = h.within.root;
      gx = h.within.gx;
      card = h.within.card;
      released = h.within.released;
      swap = h.within.swap;
      none = h.within.none;
      video = h.within.video;
      scan = h.within.scan;
    };
  }
  with_own Seven u own h o = record {
    is = each_processor_io (λ p x. IsProcessorIo x) Seven u own o.is (h.is Nine);
    within = record {
      own = each_processor_io (λ p x. OwnIsWithinTick p limit x) Seven u own o.within (h.within.own Nine);
      divider = h.within.divider;
      root = h.within.root;
      gx = h.within.gx;
      card = h.within.card;
      released = h.within.released;
      swap = h.within.swap;
      none = h.within.none;
      video = h.within.video;
      scan = h.within.scan;
    };
  }

  -- other units change, and the lists of the last swap and the display stay
  pub beside : (u v : IoState) → v.nine ≡ u.nine → v.seven ≡ u.seven → Stays u → IsSoonBy limit v.divider.due → IsSoonBy limit v.root.due
      → IsSoonBy limit v.gx.due → IsSoonBy limit (card_due v.card) → v.released ≤ limit → v.gx.geometry.last ≡ u.gx.geometry.last
      → v.video ≡ u.video → Stays v
  beside u v nine seven h divider root gx card released last video = record {
    is = is;
    within = record {
      own = own;
      divider = divider;
      root = root;
      gx = gx;
      card = card;
      released = released;
      swap = subst (λ (lists : Swapped). lists.tick.0 ≤ limit) (sym last) h.within.swap;
      none = subst (λ (lists : Swapped). lists.tick.0 ≡ 0 → lists ≡ no_swap) (sym last) h.within.none;
      video = subst IsVideo (sym video) h.within.video;
      scan = (h.within.scan.0, h.within.scan.1, ap (λ (v : VideoState). v.scan) video ∙ h.within.scan.2);
    };
  } where
    is : (proc : Proc) → IsProcessorIo (io_of v proc)
    is Nine = subst IsProcessorIo (sym nine) (h.is Nine)
    is Seven = subst IsProcessorIo (sym seven) (h.is Seven)

    own : (proc : Proc) → OwnIsWithinTick proc limit (io_of v proc)
    own Nine = subst (OwnIsWithinTick Nine limit) (sym nine) (h.within.own Nine)
    own Seven = subst (OwnIsWithinTick Seven limit) (sym seven) (h.within.own Seven)

  -- other units that keep no tick
  pub beside_all : (u v : IoState) → v.nine ≡ u.nine → v.seven ≡ u.seven → v.divider ≡ u.divider → v.root ≡ u.root → v.gx ≡ u.gx → v.card ≡ u.card
      → v.released ≡ u.released → v.video ≡ u.video → Stays u → Stays v
  beside_all u v nine seven divider root gx card released video h =
      beside u v nine seven h (subst (λ x. IsSoonBy limit x.due) (sym divider) h.within.divider) (subst (λ x. IsSoonBy limit x.due) (sym root) h.within.root)
      (subst (λ x. IsSoonBy limit x.due) (sym gx) h.within.gx) (subst (λ x. IsSoonBy limit (card_due x)) (sym card) h.within.card)
      (subst (λ x. x ≤ limit) (sym released) h.within.released) (ap (λ x. x.geometry.last) gx) video

  -- the display is another one
  pub other_video : (u : IoState) (video : VideoState) → Stays u → IsVideo video → (at : ℕ) → at ≤ limit → video.scan ≡ scan_before at
      → Stays (record u { video = video })
  other_video u video h is_video at le scan = record {
    is = is;
    within = record {
      own = own;
      divider = h.within.divider;
      root = h.within.root;
      gx = h.within.gx;
      card = h.within.card;
      released = h.within.released;
      swap = h.within.swap;
      none = h.within.none;
      video = is_video;
      scan = (at, le, scan);
    };
  } where
    is : (proc : Proc) → IsProcessorIo (io_of (record u { video = video }) proc)
    is Nine = h.is Nine
    is Seven = h.is Seven

    own : (proc : Proc) → OwnIsWithinTick proc limit (io_of (record u { video = video }) proc)
    own Nine = h.within.own Nine
    own Seven = h.within.own Seven

  -- interrupts are raised at both
  pub raised_both : (u : IoState) (raised : Raised) → Stays u → Stays (both_raised u raised)
  raised_both u raised h =
      let first = with_own Nine u (processor_io_raised u.nine raised.nine) h (raised_own limit Nine u.nine raised.nine (own_stays u h Nine)) in
      with_own Seven (with_io_of Nine u (processor_io_raised u.nine raised.nine)) (processor_io_raised u.seven raised.seven) first
      (raised_own limit Seven u.seven raised.seven (own_stays u h Seven))

  passed_ipc : (u : IoState) (ipc : IpcState) (raised : Raised) → Stays u → Stays (both_raised (record u { ipc = ipc }) raised)
  passed_ipc u ipc raised h =
      raised_both (record u { ipc = ipc }) raised (beside_all u (record u { ipc = ipc }) refl refl refl refl refl refl refl refl h)

  -- ---- geometry

  pub begun_soon : (now : Tick) (waits : Bool) (entries : List GxEntry) → now.0 < limit → IsSoonBy limit (begun now waits entries)
  begun_soon now true entries lt = tt
  begun_soon now false entries lt = by_head (complete_command entries) where
    by_head : (head : Option GeometryCommand) → IsSoonBy limit (option_map (done_after now) head)
    by_head None = tt
    by_head (Some command) = (let few = few_clocks command in omega (arith, few, lt))

  came_soon : (now : Tick) (due : Option Tick) (waits : Bool) (entries : List GxEntry) → now.0 < limit → IsSoonBy limit due
      → IsSoonBy limit (option_or due (begun now waits entries))
  came_soon now None waits entries lt h = begun_soon now waits entries lt
  came_soon now (Some due) waits entries lt h = h

  port_soon : (port : GxPort) (value : ℕ) (now : Tick) (s : GxState) → now.0 < limit → IsSoonBy limit s.due → IsSoonBy limit (write_port port value now s).due
  unfolding write_port
  port_soon Display value now s lt h = h
  port_soon Fifo value now s lt h = came_soon now s.due s.swap_waits (word_taken value s.fifo).entries lt h
  port_soon (Direct code) value now s lt h = came_soon now s.due s.swap_waits (entry_added (command_of code) value s.fifo).entries lt h
  port_soon Status value now s lt h = h
  port_soon Lengths value now s lt h = h
  port_soon (Position i) value now s lt h = h
  port_soon (Vector i) value now s lt h = h
  port_soon (Clip i) value now s lt h = h
  port_soon (VectorMatrix i) value now s lt h = h
  port_soon Unlisted value now s lt h = h

  gx_stays : (proc : Proc) (now : Tick) (u : IoState) (number value : ℕ) → now.0 < limit → Stays u → Stays (gx_set proc now u number value)
  gx_stays Nine now u number value lt h =
      beside u (gx_set Nine now u number value) refl refl h h.within.divider h.within.root
      (port_soon (gx_port number) value now u.gx lt h.within.gx) h.within.card h.within.released (written_last u.gx number value now) refl
  gx_stays Seven now u number value lt h = h

  -- ---- the card

  abbrev due_in : Option Transfer → Option Tick
  due_in None = None
  due_in (Some t) = next_due t.next

  due_is : (s : CardState) (t : Option Transfer) → s.transfer ≡ t → card_due s ≡ due_in t
  due_is s None h = ap (λ (x : Option Transfer). card_due (let c : CardState = record s { transfer = x } in c)) h
  due_is s (Some t) h = ap (λ (x : Option Transfer). card_due (let c : CardState = record s { transfer = x } in c)) h

  abbrev Due : Option Transfer → Type 0
  Due t = IsSoonBy limit (due_in t)

  next_soon : (now : Tick) → now.0 < limit → IsSoonBy limit (next_due (next_word_after now))
  next_soon now lt = omega (arith, lt)

  card_stays : (proc : Proc) (now : Tick) (u : IoState) (width : Width) (number value : ℕ) → now.0 < limit → Stays u
      → Stays (card_set width proc now u number value)
  card_stays proc now u width number value lt h =
      let written = card_written u.card proc number width value now in
      let due : IsSoonBy limit (card_due written) =
      subst (IsSoonBy limit) (sym (due_is written written.transfer refl))
      (write_makes u.card proc number width value now Due (subst (IsSoonBy limit) (due_is u.card u.card.transfer refl) h.within.card) (λ none. next_soon now lt)) in
      beside u (record u { card = written }) refl refl h h.within.divider h.within.root h.within.gx due h.within.released refl refl

  word_stays : (proc : Proc) (now : Tick) (u : IoState) → now.0 < limit → Stays u → Stays (card_word_taken proc now u)
  word_stays proc now u lt h =
      let read = card_after_read u.card proc data_port_at Word now in
      let due : IsSoonBy limit (card_due read) =
      subst (IsSoonBy limit) (sym (due_is read read.transfer refl))
      (read_makes u.card proc data_port_at Word now Due (subst (IsSoonBy limit) (due_is u.card u.card.transfer refl) h.within.card) tt
      (λ there e own. next_soon now lt)) in
      let left : IoState = record u { card = read } in
      let first : Stays left = beside u left refl refl h h.within.divider h.within.root h.within.gx due h.within.released refl refl in
      with_own proc left _ first (raised_own limit proc (io_of u proc) (raised_to proc (read_raised u.card proc data_port_at Word)) (own_stays u h proc))

  -- ---- the display

  display_stays : (proc : Proc) (u : IoState) (width : Width) (number value : ℕ) → Stays u
      → Stays (record u { video = video_written proc u.video number width value })
  display_stays proc u width number value h =
      let scan = h.within.scan in
      other_video u (video_written proc u.video number width value) h (stays_video.write proc u.video number width value h.within.video) scan.0 scan.1
      (written_scan proc u.video number width value ∙ scan.2)

  -- ---- a write of a register

  division_soon : (now : Tick) (mode : ℕ) → now.0 < limit → now.0 + division_ticks mode ≤ limit + 2 ^ 32
  division_soon now mode lt = either (λ n. now.0 + n ≤ limit + 2 ^ 32) (mode == 0) 36 68 (omega (arith, lt)) (omega (arith, lt))

  halted_stays : (proc : Proc) (own : ProcessorIoState) (value : ℕ) → OwnStays limit proc own → OwnStays limit proc (haltcnt_written own value)
  halted_stays proc own value h = either (OwnStays limit proc) (bits 6 2 value == 2) _ _ (alike limit proc own (record own { halted = true }) refl refl refl refl refl h) h

  module _ (proc : Proc) (now : Tick) (lt : now.0 < limit) where
    register_stays : (u : IoState) (register : Register) (number : ℕ) → number < numbers_of register → (value : ℕ) → Stays u
        → Stays (after_write proc now u register number value)
    register_stays u Dmasad number l value h = with_own proc u _ h (port_own limit proc (io_of u proc) now Source number value l (omega (arith, lt)) (own_stays u h proc))
    register_stays u Dmadad number l value h = with_own proc u _ h (port_own limit proc (io_of u proc) now Target number value l (omega (arith, lt)) (own_stays u h proc))
    register_stays u Dmacnt number l value h = with_own proc u _ h (port_own limit proc (io_of u proc) now Control number value l (omega (arith, lt)) (own_stays u h proc))
    register_stays u TmcntL number l value h =
        with_own proc u _ h (reload_own limit proc (io_of u proc) number (value % 2 ^ 16) l (omega arith) (own_stays u h proc))
    register_stays u TmcntH number l value h =
        with_own proc u _ h (control_own limit proc (io_of u proc) number (value % 2 ^ 16) now l (omega (arith, lt)) (own_stays u h proc))
    register_stays u Keycnt number l value h =
        with_own proc u _ h (told_own limit proc (record (io_of u proc) { keycnt = kept_keycnt (value % 2 ^ 16) }) u.pressed
        (chosen_own limit proc (io_of u proc) (value % 2 ^ 16) (own_stays u h proc)))
    register_stays u Ime number l value h = with_own proc u _ h (alike limit proc (io_of u proc) _ refl refl refl refl refl (own_stays u h proc))
    register_stays u Ie number l value h = with_own proc u _ h (enabled_own limit proc (io_of u proc) value (own_stays u h proc))
    register_stays u If number l value h = with_own proc u _ h (acked_own limit proc (io_of u proc) value (own_stays u h proc))
    register_stays u Haltcnt number l value h = with_own proc u _ h (halted_stays proc (io_of u proc) (value % 2 ^ 8) (own_stays u h proc))
    register_stays u Ipcsync number l value h = passed_ipc u _ _ h
    register_stays u Ipcfifocnt number l value h = passed_ipc u _ _ h
    register_stays u Ipcfifosend number l value h = passed_ipc u _ _ h
    register_stays u Divcnt number l value h =
        beside u (after_write proc now u Divcnt number value) refl refl h (division_soon now _ lt) h.within.root h.within.gx h.within.card h.within.released refl refl
    register_stays u DivNumer number l value h =
        beside u (after_write proc now u DivNumer number value) refl refl h (division_soon now _ lt) h.within.root h.within.gx h.within.card h.within.released refl refl
    register_stays u DivDenom number l value h =
        beside u (after_write proc now u DivDenom number value) refl refl h (division_soon now _ lt) h.within.root h.within.gx h.within.card h.within.released refl refl
    register_stays u Sqrtcnt number l value h =
        beside u (after_write proc now u Sqrtcnt number value) refl refl h h.within.divider (omega (arith, lt)) h.within.gx h.within.card h.within.released refl refl
    register_stays u SqrtParam number l value h =
        beside u (after_write proc now u SqrtParam number value) refl refl h h.within.divider (omega (arith, lt)) h.within.gx h.within.card h.within.released refl refl
    register_stays u DisplayHalf number l value h =
        display_stays proc u Half number value h
    register_stays u DisplayWord number l value h =
        display_stays proc u Word number value h
    register_stays u GxWord number l value h = gx_stays proc now u number value lt h
    register_stays u GxCommand number l value h = gx_stays proc now u number value lt h
    register_stays u Auxspicnt number l value h = card_stays proc now u Half number value lt h
    register_stays u CardWord number l value h = card_stays proc now u Word number value lt h
    register_stays u register number l value h = beside_all u (after_write proc now u register number value) refl refl refl refl refl refl refl refl h

    register_read : (u : IoState) (register : Register) → Stays u → Stays ((meaning_of register).after_read proc now u)
    register_read u Ipcfiforecv h = passed_ipc u _ _ h
    register_read u CardData h = word_stays proc now u lt h
    register_read u _ h = h

    -- ---- accesses

    pub write_stays : (u : IoState) (at : ℕ) (width : Width) (value : ℕ) → Stays u → Stays (port_written proc now u at width value)
    write_stays u at width value =
        write_leaves IsSlot proc now (λ x y. Stays x → Stays y) (λ x h. h) (λ x y z g k h. k (g h))
        (λ x slot word own h. register_stays x slot.register slot.number own.number word h) u at width value (are_all IsSlot proc (some_slot proc) at width)

    pub read_stays : (u : IoState) (at : ℕ) (width : Width) → Stays u → Stays (port_read proc now u at width)
    read_stays u at width =
        read_leaves any_register proc now (λ x y. Stays x → Stays y) (λ x h. h) (λ x register k h. register_read x register h) u at width (any_covered proc at width)
