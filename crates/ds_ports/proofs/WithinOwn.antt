use Rattle.ds_ports.proofs.Words.{AreTimers, Bool, Cause, Channel, Control, DmaPort, DmaState, IsDma, IsProcessorIo, IsSome, Keys, List, None, Option}
use Rattle.ds_ports.proofs.Words.{Proc, ProcessorIoState, Some, Source, Stop, Target, Tick, TimerState, ap, arith, bit_and, bit_at, bit_at_and}
use Rattle.ds_ports.proofs.Words.{bit_at_or, bit_not, bit_or, channel_at, channel_written, channel_written_is, control_set, dma_due, dma_finished}
use Rattle.ds_ports.proofs.Words.{dma_finished_is, dma_triggered, dma_triggered_is, dma_written, due_channel, either, either_by, equal, events, false}
use Rattle.ds_ports.proofs.Words.{get_or-set_other, if_written, if◌then◌else◌, inl, inr, interrupt_bit, interrupts_of, is_some, kept_control}
use Rattle.ds_ports.proofs.Words.{kept_keycnt, keys_hold, keys_told, least_below, least_running, level, most_waits, not, overflow_keeps, overflow_of}
use Rattle.ds_ports.proofs.Words.{processor_io_moved, processor_io_raised, processor_io_triggered, refl, reload_set, same_from_bits, same_or_not}
use Rattle.ds_ports.proofs.Words.{set_same, slice_set, subst, suc, sym, timer_at, timer_due, true, w32, zero, ℕ, ◌&&◌, ◌<◌, ◌==◌, ◌^◌, ◌∙◌, ◌≡◌, ◌≤◌}
use Rattle.ds_dma.specs.Channels.{after_unit, is_last_of_burst, is_last_unit, is_triggered, triggered, channel_refusal, channel_set}
use Rattle.ds_dma.specs.Controls.{is_armed_again, is_enabled, kept_channel_control, starts_immediately}
use Rattle.ds_timers.proofs.Changed.{control_set_is, reload_set_is}
use Rattle.ds_ports.specs.WithinLaws.{IsBy, OwnIsWithinTick, ChannelsAreBy}
use Rattle.ds_dma.proofs.Fours.{at_mapped, set_holds}
use Rattle.ds_timers.specs.Timing.{after_overflow, carries, controlled, is_start, overflows, pace, runs_free}
use Rattle.ds_ports.specs.ProcessorIo.{ie_written}

-- What happens below a tick keeps what a processor has of its own within it.

-- ---- ARM7's IF has no bit of the geometry FIFO

abbrev pub HasEvents : ℕ → Type 0
HasEvents word = events word ≡ word

raised_events : (word bits : ℕ) → HasEvents word → HasEvents (bit_or word (events bits))
raised_events word bits h =
    let all = bit_not w32 level in
    same_from_bits (events (bit_or word (events bits))) (bit_or word (events bits)) (λ i.
    let a = bit_at_and (bit_or word (events bits)) all i in
    let b = bit_at_or word (events bits) i in
    let c = bit_at_and bits all i in
    let d = bit_at_and word all i in
    let e = ap (λ (n : ℕ). bit_at n i) h in
    omega (arith, a, b, c, d, e))

acked_events : (word bits : ℕ) → HasEvents word → HasEvents (bit_and word bits)
acked_events word bits h =
    let all = bit_not w32 level in
    same_from_bits (events (bit_and word bits)) (bit_and word bits) (λ i.
    let a = bit_at_and (bit_and word bits) all i in
    let b = bit_at_and word bits i in
    let d = bit_at_and word all i in
    let e = ap (λ (n : ℕ). bit_at n i) h in
    omega (arith, a, b, d, e))

-- bits that were kept are kept
and_twice : (word mask : ℕ) → bit_and (bit_and word mask) mask ≡ bit_and word mask
and_twice word mask =
    same_from_bits (bit_and (bit_and word mask) mask) (bit_and word mask) (λ i.
    let a = bit_at_and (bit_and word mask) mask i in
    let b = bit_at_and word mask i in
    omega (arith, a, b))

module _ (limit : ℕ) where
  -- ---- timers

  abbrev pub AreAnchored : List TimerState → Type 0
  AreAnchored timers = (which : ℕ) → which < 4 → IsBy limit (timer_at timers which).since

  anchored_where : (free : Bool) (now : Tick) → now.0 ≤ limit → IsBy limit (if free then Some now else None)
  anchored_where true now le = le
  anchored_where false now le = tt

  controlled_by : (which : ℕ) (t : TimerState) (control : ℕ) (now : Tick) → IsBy limit t.since → now.0 ≤ limit → IsBy limit (controlled which t control now).since
  controlled_by which t control now was le =
      let free = runs_free which control in
      let P : TimerState → Type 0 = λ x. IsBy limit x.since in
      either_by P (is_start t.control control) _ _
      (λ e. anchored_where free now le)
      (λ e. either_by P free _ _
      (λ f. either_by P (runs_free which t.control && (pace control == pace t.control)) _ _ (λ g. was) (λ g. le))
      (λ f. tt))

  set_anchored : (timers : List TimerState) (which : ℕ) (t : TimerState) → AreTimers timers → AreAnchored timers → which < 4 → IsBy limit t.since
      → AreAnchored (slice_set timers which t)
  set_anchored timers which t h was l put = λ i m. elim (same_or_not i which) [
    | inl e ↦ subst (λ n. IsBy limit (timer_at (slice_set timers which t) n).since) (sym e)
        (subst (λ (x : TimerState). IsBy limit x.since) (sym (set_same timers which t h l)) put)
    | inr ne ↦ rw get_or-set_other (was i m)
  ]

  -- the timer that overflows has its anchor at its due tick
  overflown : (which i : ℕ) (before : Bool) (t : TimerState) → IsBy limit t.since → (i ≡ which → IsBy limit (timer_due t))
      → IsBy limit (after_overflow which i before t).since
  overflown which i before t was due =
      let P : TimerState → Type 0 = λ x. IsBy limit x.since in
      either_by P (i == which) _ _ (λ e. due (equal i which e)) (λ e. either_by P (carries i before t) _ _ (λ f. was) (λ f. was))

  each_after : (timers : List TimerState) (which i : ℕ) → i < 4
      → (before : Bool) × (timer_at (overflow_of timers which).timers i ≡ after_overflow which i before (timer_at timers i))
  each_after timers which zero h = (false, refl)
  each_after timers which (suc zero) h = (overflows which 0 false (timer_at timers 0), refl)
  each_after timers which (suc (suc zero)) h = (overflows which 1 (overflows which 0 false (timer_at timers 0)) (timer_at timers 1), refl)
  each_after timers which (suc (suc (suc zero))) h =
      (overflows which 2 (overflows which 1 (overflows which 0 false (timer_at timers 0)) (timer_at timers 1)) (timer_at timers 2), refl)
  each_after timers which (suc (suc (suc (suc n)))) h = absurd (omega (arith, h))

  overflow_anchored : (timers : List TimerState) (which : ℕ) → AreAnchored timers → IsBy limit (timer_due (timer_at timers which))
      → AreAnchored (overflow_of timers which).timers
  overflow_anchored timers which was due = λ i l. (let after = each_after timers which i l in
      subst (λ (x : TimerState). IsBy limit x.since) (sym after.1)
      (overflown which i after.0 (timer_at timers i) (was i l) (λ e. subst (λ n. IsBy limit (timer_due (timer_at timers n))) (sym e) due)))

  -- ---- channels

  abbrev HasTrigger : Channel → Type 0
  HasTrigger c = IsBy limit c.trigger

  set_trigger : (proc : Proc) (which : ℕ) (port : DmaPort) (value : ℕ) (now : Tick) (c : Channel) → HasTrigger c → now.0 ≤ limit
      → HasTrigger (channel_set proc which port value now c)
  set_trigger proc which Source value now c was le = was
  set_trigger proc which Target value now c was le = was
  set_trigger proc which Control value now c was le =
      let control = kept_channel_control proc which value in
      either_by HasTrigger (is_enabled control) _ _
      (λ on. either_by HasTrigger (is_enabled c.cnt) _ _ (λ e. was) (λ e. anchored_where (starts_immediately proc control) now le))
      (λ off. tt)

  unless_within : (refusal : Option Stop) (old new : DmaState) → ChannelsAreBy limit old → ChannelsAreBy limit new
      → ChannelsAreBy limit (if is_some refusal then old else new)
  unless_within None old new h k = k
  unless_within (Some stop) old new h k = h

  same_proc : (refusal : Option Stop) (old new : DmaState) → new.proc ≡ old.proc → (if is_some refusal then old else new).proc ≡ old.proc
  same_proc None old new h = h
  same_proc (Some stop) old new h = refl

  written_within : (s : DmaState) (which : ℕ) (port : DmaPort) (value : ℕ) (now : Tick) → IsDma s → which < 4 → now.0 ≤ limit → ChannelsAreBy limit s
      → ChannelsAreBy limit (channel_written s which port value now)
  written_within s which port value now is l le was =
      let c = channel_at s.channels which in
      let put = channel_set s.proc which port value now c in
      unless_within (channel_refusal s.proc which port value c) s (record s { channels = slice_set s.channels which put }) was (record {
        trigger = λ i m. set_holds HasTrigger s.channels which put is.four l (set_trigger s.proc which port value now c (was.trigger which l) le) i (was.trigger i m);
        last = was.last;
      })

  event_within : (s : DmaState) (cause : Cause) (now : Tick) → IsDma s → now.0 ≤ limit → ChannelsAreBy limit s → ChannelsAreBy limit (dma_triggered s cause now)
  event_within s cause now is le was =
      let f = triggered s.proc cause now in
      let keeps : (c : Channel) → HasTrigger c → HasTrigger (f c) =
      λ c h. either_by HasTrigger (is_triggered s.proc cause c) _ _ (λ e. le) (λ e. h) in
      record {
        trigger = λ i m. subst HasTrigger (sym (at_mapped f s.channels i is.four m)) (keeps (channel_at s.channels i) (was.trigger i m));
        last = was.last;
      }

  unit_trigger : (proc : Proc) (which : ℕ) (c : Channel) → HasTrigger c → HasTrigger (after_unit proc which c)
  unit_trigger proc which c was =
      either_by HasTrigger (not (is_last_unit c)) _ _ (λ e. either_by HasTrigger (is_last_of_burst c) _ _ (λ f. tt) (λ f. was))
      (λ e. either_by HasTrigger (is_armed_again proc c.cnt) _ _ (λ f. tt) (λ f. tt))

  finished_within : (s : DmaState) (now : Tick) (waits : ℕ) → IsDma s → 1 ≤ now.0 → now.0 ≤ limit → ChannelsAreBy limit s
      → ChannelsAreBy limit (dma_finished s now waits)
  finished_within s now waits is some le was =
      let which = least_running s.channels in
      let l = least_below s.channels in
      let put = after_unit s.proc which (due_channel s) in
      record {
        trigger = λ i m. set_holds HasTrigger s.channels which put is.four l (unit_trigger s.proc which (due_channel s) (was.trigger which l)) i (was.trigger i m);
        last = (some, le);
      }

  -- ---- what a processor has of its own

  pub record OwnStays (proc : Proc) (own : ProcessorIoState) : Type 0 where
    pub is : IsProcessorIo own
    pub within : OwnIsWithinTick proc limit own

  -- where its timers, its channels, its IE, its IF and KEYCNT are the same
  pub alike : (proc : Proc) (a b : ProcessorIoState) → b.timers ≡ a.timers → b.dma ≡ a.dma → b.irq.ie ≡ a.irq.ie → b.irq.if_ ≡ a.irq.if_ → b.keycnt ≡ a.keycnt
      → OwnStays proc a → OwnStays proc b
  alike proc a b timers dma ie irq keycnt h = record {
    is = record { timers = subst AreTimers (sym timers) h.is.timers; dma = subst IsDma (sym dma) h.is.dma };
    within = record {
      timers = subst AreAnchored (sym timers) h.within.timers;
      dma = subst (ChannelsAreBy limit) (sym dma) h.within.dma;
      is_its = ap (λ (d : DmaState). d.proc) dma ∙ h.within.is_its;
      ie = subst (λ (word : ℕ). bit_and word (interrupts_of proc) ≡ word) (sym ie) h.within.ie;
      keycnt = subst (λ (word : ℕ). kept_keycnt word ≡ word) (sym keycnt) h.within.keycnt;
      level = λ e. subst HasEvents (sym irq) (h.within.level e);
    };
  }

  pub raised_own : (proc : Proc) (own : ProcessorIoState) (bits : ℕ) → OwnStays proc own → OwnStays proc (processor_io_raised own bits)
  raised_own proc own bits h = record {
    is = record { timers = h.is.timers; dma = h.is.dma };
    within = record {
      timers = h.within.timers;
      dma = h.within.dma;
      is_its = h.within.is_its;
      ie = h.within.ie;
      keycnt = h.within.keycnt;
      level = λ e. raised_events own.irq.if_ bits (h.within.level e);
    };
  }

  pub acked_own : (proc : Proc) (own : ProcessorIoState) (word : ℕ) → OwnStays proc own → OwnStays proc (if_written own word)
  acked_own proc own word h = record {
    is = record { timers = h.is.timers; dma = h.is.dma };
    within = record {
      timers = h.within.timers;
      dma = h.within.dma;
      is_its = h.within.is_its;
      ie = h.within.ie;
      keycnt = h.within.keycnt;
      level = λ e. acked_events own.irq.if_ (bit_not w32 (events word)) (h.within.level e);
    };
  }

  pub enabled_own : (proc : Proc) (own : ProcessorIoState) (word : ℕ) → OwnStays proc own → OwnStays proc (ie_written proc own word)
  enabled_own proc own word h = record {
    is = record { timers = h.is.timers; dma = h.is.dma };
    within = record {
      timers = h.within.timers;
      dma = h.within.dma;
      is_its = h.within.is_its;
      ie = and_twice word (interrupts_of proc);
      keycnt = h.within.keycnt;
      level = h.within.level;
    };
  }

  pub chosen_own : (proc : Proc) (own : ProcessorIoState) (value : ℕ) → OwnStays proc own → OwnStays proc (record own { keycnt = kept_keycnt value })
  chosen_own proc own value h = record {
    is = record { timers = h.is.timers; dma = h.is.dma };
    within = record {
      timers = h.within.timers;
      dma = h.within.dma;
      is_its = h.within.is_its;
      ie = h.within.ie;
      keycnt = and_twice value 0xC3FF;
      level = h.within.level;
    };
  }

  pub timed_own : (proc : Proc) (own : ProcessorIoState) (timers : List TimerState) → OwnStays proc own → AreTimers timers → AreAnchored timers
      → OwnStays proc (record own { timers = timers })
  timed_own proc own timers h is anchored = record {
    is = record { timers = is; dma = h.is.dma };
    within = record {
      timers = anchored;
      dma = h.within.dma;
      is_its = h.within.is_its;
      ie = h.within.ie;
      keycnt = h.within.keycnt;
      level = h.within.level;
    };
  }

  pub moved_own : (proc : Proc) (own : ProcessorIoState) (dma : DmaState) → OwnStays proc own → IsDma dma → ChannelsAreBy limit dma → dma.proc ≡ own.dma.proc
      → OwnStays proc (record own { dma = dma })
  moved_own proc own dma h is within same = record {
    is = record { timers = h.is.timers; dma = is };
    within = record {
      timers = h.within.timers;
      dma = within;
      is_its = same ∙ h.within.is_its;
      ie = h.within.ie;
      keycnt = h.within.keycnt;
      level = h.within.level;
    };
  }

  pub triggered_own : (proc : Proc) (own : ProcessorIoState) (cause : Cause) (now : Tick) → now.0 ≤ limit → OwnStays proc own
      → OwnStays proc (processor_io_triggered own cause now)
  triggered_own proc own cause now le h =
      moved_own proc own (dma_triggered own.dma cause now) h (dma_triggered_is own.dma cause now h.is.dma) (event_within own.dma cause now h.is.dma le h.within.dma) refl

  pub told_own : (proc : Proc) (own : ProcessorIoState) (pressed : ℕ) → OwnStays proc own → OwnStays proc (keys_told own pressed)
  told_own proc own pressed h = either (OwnStays proc) (keys_hold own.keycnt pressed) (processor_io_raised own (interrupt_bit Keys)) own (raised_own proc own (interrupt_bit Keys) h) h

  pub port_own : (proc : Proc) (own : ProcessorIoState) (now : Tick) (port : DmaPort) (which word : ℕ) → which < 4 → now.0 ≤ limit → OwnStays proc own
      → OwnStays proc (dma_written own now port which word)
  port_own proc own now port which word l le h =
      moved_own proc own (channel_written own.dma which port word now) h (channel_written_is own.dma which port word now h.is.dma l)
      (written_within own.dma which port word now h.is.dma l le h.within.dma) (same_proc (channel_refusal own.dma.proc which port word (channel_at own.dma.channels which)) own.dma _ refl)

  pub reload_own : (proc : Proc) (own : ProcessorIoState) (which value : ℕ) → which < 4 → value < 2 ^ 16 → OwnStays proc own
      → OwnStays proc (record own { timers = reload_set own.timers which value })
  reload_own proc own which value l small h =
      timed_own proc own (reload_set own.timers which value) h (reload_set_is own.timers which value h.is.timers l small)
      (set_anchored own.timers which _ h.is.timers h.within.timers l (h.within.timers which l))

  pub control_own : (proc : Proc) (own : ProcessorIoState) (which value : ℕ) (now : Tick) → which < 4 → now.0 ≤ limit → OwnStays proc own
      → OwnStays proc (record own { timers = control_set own.timers which value now })
  control_own proc own which value now l le h =
      timed_own proc own (control_set own.timers which value now) h (control_set_is own.timers which value now h.is.timers l)
      (set_anchored own.timers which _ h.is.timers h.within.timers l
      (controlled_by which (timer_at own.timers which) (kept_control value) now (h.within.timers which l) le))

  pub overflow_own : (proc : Proc) (own : ProcessorIoState) (which : ℕ) → IsBy limit (timer_due (timer_at own.timers which)) → OwnStays proc own
      → OwnStays proc (record own { timers = (overflow_of own.timers which).timers })
  overflow_own proc own which due h =
      timed_own proc own (overflow_of own.timers which).timers h (overflow_keeps own.timers which h.is.timers)
      (overflow_anchored own.timers which h.within.timers due)

  -- its channel that is due moves its first unit
  pub unit_own : (proc : Proc) (own : ProcessorIoState) (now : Tick) (waits : ℕ) → waits ≤ most_waits → IsSome (dma_due own.dma) → 1 ≤ now.0 → now.0 ≤ limit
      → OwnStays proc own → OwnStays proc (processor_io_moved own now waits)
  unit_own proc own now waits brief due some le h =
      raised_own proc (record own { dma = dma_finished own.dma now waits }) _
      (moved_own proc own (dma_finished own.dma now waits) h (dma_finished_is own.dma now waits brief h.is.dma due)
      (finished_within own.dma now waits h.is.dma some le h.within.dma) refl)
