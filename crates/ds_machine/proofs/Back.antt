use Rattle.ds_machine.proofs.Words.{AllByRecursion, Arch, Around, Bool, DmaDue, DmaState, IfSome, IoState, IrqState, IsBy, IsCardAt, IsIrq, IsOver}
use Rattle.ds_machine.proofs.Words.{IsPastBy, IsSoonBy, IsSound, IsWithinTick, KeyLine, List, MachineState, Nine, None, Oam, Option, Own7, Palette}
use Rattle.ds_machine.proofs.Words.{Proc, ProcessorState, SavedProcessor, ScanState, Seven, Shared, Some, StandsFor, Tick, V4, V5, [], actor_of}
use Rattle.ds_machine.proofs.Words.{any_runs, ap, arith, around_of, asked_of, awaits_geometry, bit_and, bit_at, bit_at-zero, bit_at_and, bit_at_or}
use Rattle.ds_machine.proofs.Words.{bit_not, bit_or, blocks_processor, both, both_true, card_due, card_stands, channel_at, channel_comes_before}
use Rattle.ds_machine.proofs.Words.{channel_due, channels_format, comes_back, dma_due, dma_format, dma_format_by, dma_stands, due_by, due_number}
use Rattle.ds_machine.proofs.Words.{due_of_rank, due_unless, due_with, dues_of, equal, events, false, geometry_rank, gx_level, held_due, holds_by}
use Rattle.ds_machine.proofs.Words.{if_false, if_true, if◌then◌else◌, inl, inr, io_of, irq_levelled, is_equal, is_half_empty, is_late, is_stalled}
use Rattle.ds_machine.proofs.Words.{kept_twice, last_tick, late_runs_by, least_below, least_running, length, level, low_or_high, lt_cases}
use Rattle.ds_machine.proofs.Words.{machine_format, machine_parts, max, memories_format, memory_size, nat_lt, not, not_false, processor_format}
use Rattle.ds_machine.proofs.Words.{processor_of, processors_format, rank_of, ready, refl, registers_format, release_of, released_again}
use Rattle.ds_machine.proofs.Words.{same_from_bits, saved_channels, saved_memories, saved_processor, saved_processors, saved_units, scan_before}
use Rattle.ds_machine.proofs.Words.{scan_due, scan_due_tick, scans_follow, script_from, shares_bit, sleeps_by, soon, subst, suc, sym, tick_of}
use Rattle.ds_machine.proofs.Words.{timer_at, timer_due, true, true≢false, units_format, w32, waiting_entries, word_format, zero, ℕ, ◌&&◌, ◌+◌, ◌-◌}
use Rattle.ds_machine.proofs.Words.{◌<◌, ◌==◌, ◌^◌, ◌||◌, ◌∙◌, ◌∷◌, ◌≡◌, ◌≤◌}
use Rattle.ds_machine.specs.Back.{HasMachineBounds, MachinesComeBack}
use Rattle.std.proofs.lemmas.Nat.{and_le_l, and_le_r}
use Rattle.std.proofs.lemmas.Nat.Bits.{bit_at-lt, bit_at_above, bit_at_not}
use Rattle.ds_base.proofs.Choices.{equal_self, is_le, isnt_lt, lt_of}
use Rattle.ds_base.specs.declared.memories.Memory.{Memory}
use Rattle.ds_base.specs.declared.memories.Memory.TheVariants.{Main, Itcm, Dtcm}
use Rattle.arm_core.proofs.SavedLaws.{registers_stand}
use Rattle.cp15_tcm.proofs.SavedLaws.{cp15_stands}
use Rattle.ds_dma.specs.Saved.{AreTriggeredBy}
use Rattle.ds_ipc.proofs.SavedLaws.{ipc_stands}
use Rattle.ds_math.proofs.SavedLaws.{divider_stands, root_stands}
use Rattle.ds_state.proofs.Exact.{round_trips}
use Rattle.ds_machine.proofs.SavedParts.{machine_reads, machine_writes}
use Rattle.ds_timers.proofs.SavedLaws.{irq_stands, timers_stand}
use Rattle.ds_timers.specs.Saved.{IsAnchoredAt}
use Rattle.gx_fifo.proofs.SavedLaws.{gx_stands}
use Rattle.gx_fifo.specs.Saved.{IsSavedGx}
use Rattle.video2d.proofs.SavedLaws.{video_stands}
use Rattle.video2d.specs.Saved.{IsSavedVideo}
use Rattle.vram_banks.proofs.SavedLaws.{banks_stand}
use Rattle.ds_machine.proofs.Pairs.{◌⨾◌}
use Rattle.ds_machine.specs.Saved.{own_due, saved_size}
use Rattle.ds_runs.proofs.AllActors.{actor_rank}
use Rattle.ds_runs.specs.declared.actors.Actor.TheVariants as who

-- A machine at a tick stands for its bytes.

-- ---- interrupt words

abbrev rest_of_bits : ℕ
rest_of_bits = bit_not w32 level

-- a level that was taken from IF is told again
again_set : (flags : ℕ) → flags < 2 ^ 32 → bit_or flags level ≡ flags → bit_or (events flags) level ≡ flags
again_set flags small e =
    same_from_bits (bit_or (events flags) level) flags (λ i.
    let whole = ap (λ (n : ℕ). bit_at n i) e in
    let a = bit_at_or flags level i in
    let b = bit_at_or (events flags) level i in
    let c = bit_at_and flags rest_of_bits i in
    let one = bit_at-lt flags i in
    let level_one = bit_at-lt level i in
    elim (low_or_high i 32) [
      | inl lt ↦ (let d : bit_at rest_of_bits i ≡ 1 - bit_at level i = bit_at_not w32 level i (omega arith) lt in
          omega (arith, whole, a, b, c, d, one, level_one))
      | inr le ↦ (let none = bit_at_above flags 32 i small le in omega (arith, whole, a, b, c, none, level_one))
    ])

level_again : (flags : ℕ) (on : Bool) → flags < 2 ^ 32 → (if on then bit_or flags level else events flags) ≡ flags
    → (if on then bit_or (events flags) level else events (events flags)) ≡ flags
level_again flags false small e = ap events e ∙ e
level_again flags true small e = again_set flags small e

-- what a processor that is halted doesn't hear
still_apart : (ie flags mask : ℕ) → bit_and ie flags ≡ 0 → bit_and ie (bit_and flags mask) ≡ 0
still_apart ie flags mask e =
    same_from_bits (bit_and ie (bit_and flags mask)) 0 (λ i.
    let whole = ap (λ (n : ℕ). bit_at n i) e in
    let none = bit_at-zero i in
    let a = bit_at_and ie flags i in
    let b = bit_at_and ie (bit_and flags mask) i in
    let c = bit_at_and flags mask i in
    omega (arith, whole, none, a, b, c))

level_apart : (ie flags : ℕ) → bit_or flags level ≡ flags → bit_and ie flags ≡ 0 → bit_and ie level ≡ 0
level_apart ie flags told e =
    same_from_bits (bit_and ie level) 0 (λ i.
    let there = ap (λ (n : ℕ). bit_at n i) told in
    let whole = ap (λ (n : ℕ). bit_at n i) e in
    let none = bit_at-zero i in
    let a = bit_at_and ie flags i in
    let b = bit_at_and ie level i in
    let c = bit_at_or flags level i in
    omega (arith, there, whole, none, a, b, c))

less_bits : (a b : ℕ) → b < 2 ^ 32 → bit_and b a < 2 ^ 32
less_bits a b small = let le = and_le_l b a in omega (arith, le, small)

kept_small : (value mask : ℕ) → bit_and value mask ≡ value → value ≤ mask
kept_small value mask e = let le = and_le_r value mask in omega (arith, le, e)

-- ---- ticks

-- a due tick that isn't early and comes soon
soon_holds : (at : ℕ) (due : Option Tick) → IsSoonBy at due → ((tick : Tick) → due ≡ Some tick → at ≤ tick.0) → soon at (due_number due) ≡ true
soon_holds at None by late = refl
soon_holds at (Some due) by late = let from = late due refl in both_true _ _ (is_le at due.0 from) (is_le due.0 (at + 2 ^ 32) by)

anchored : (at : ℕ) (since : Option Tick) → IsBy at since → IfSome since (λ tick. tick.0 ≤ at)
anchored at None by = tt
anchored at (Some since) by = by

overflows_late : (at : ℕ) (due : Option Tick) → ((tick : Tick) → due ≡ Some tick → at ≤ tick.0) → IfSome due (λ tick. at ≤ tick.0)
overflows_late at None late = tt
overflows_late at (Some due) late = late due refl

number_by : (at : ℕ) (trigger : Option Tick) → IsBy at trigger → IfSome (due_number trigger) (λ tick. tick ≤ at)
number_by at None by = tt
number_by at (Some tick) by = by

number_past : (at : ℕ) (last : Option Tick) → IsPastBy at last → IfSome (due_number last) (λ tick. (1 ≤ tick) × (tick ≤ at))
number_past at None by = tt
number_past at (Some tick) by = by

own_rule : (halted : Bool) (at due : ℕ) → (halted ≡ true → due ≡ 0) → due ≤ at + 2 ^ 32 → own_due halted at due ≡ true
own_rule true at due none le = is_equal due 0 (none refl)
own_rule false at due none le = is_le due (at + 2 ^ 32) le

-- ---- words

word_stands : (at word : ℕ) → word < 2 ^ 32 → StandsFor word_format at word
word_stands at word small = ((small, refl, tt), refl)

words_stand : (at : ℕ) (words : List ℕ) → AllByRecursion (λ word. word < 2 ^ 32) words → AllByRecursion (StandsFor word_format at) words
words_stand at [] h = tt
words_stand at (word ∷ words) h = (word_stands at word h.0, words_stand at words h.1)

saved_long : (memory : Memory) (bytes : List ℕ) → length bytes ≡ memory_size memory → length bytes ≡ saved_size memory
unfolding saved_size
saved_long memory bytes h = h

-- ---- a processor

processor_stands : (arch : Arch) (at : ℕ) (p : SavedProcessor) → at ≤ 2 ^ 56 → StandsFor (registers_format arch) at p.registers
    → (p.halted ≡ true → p.due ≡ 0)
    → p.due ≤ at + 2 ^ 32 → StandsFor (processor_format arch) at p
unfolding processor_format
processor_stands arch at p early registers halted soon_ =
    let fits : p.due < 256 ^ 8 = omega (arith, early, soon_) in
    ((registers, (tt, refl, (fits, own_rule p.halted at p.due halted soon_, tt))), refl)

-- ---- a machine at a tick

module _ (keys : List KeyLine) (at : ℕ) (s : MachineState) (early : at ≤ 2 ^ 56) (bounds : HasMachineBounds s) (sound : IsSound s)
    (within : IsWithinTick at s)
    (none : IsOver (dues_of s) at) where
  abbrev u : IoState
  u = s.io

  late : (rank : ℕ) → rank < 24 → (tick : Tick) → due_by (actor_of rank) s ≡ Some tick → at ≤ tick.0
  late rank lt tick due = none rank tick (due_of_rank s rank lt ∙ due)

  -- ---- the processors

  is_halted_still : (proc : Proc) → (io_of u proc).halted ≡ true → (processor_of s proc).due ≡ 0
  is_halted_still proc = within.kept.halted proc

  processors_stand : StandsFor processors_format at (saved_processors s)
  unfolding processors_format
  processors_stand = (
    (
        processor_stands V5 at (saved_processor s.nine.processor u.nine) early
        (registers_stand V5 at s.nine.processor.registers (bounds.registers Nine) bounds.statuses.nine.processor) (is_halted_still Nine) (within.own Nine)
        ⨾ processor_stands V4 at (saved_processor s.seven.processor u.seven) early
        (registers_stand V4 at s.seven.processor.registers (bounds.registers Seven) bounds.statuses.seven) (is_halted_still Seven) (within.own Seven)
        ⨾ cp15_stands at s.nine.cp15 bounds.cp15 ⨾ tt),
    refl,
  )

  memories_stand : StandsFor memories_format at (saved_memories s)
  unfolding memories_format
  memories_stand =
      let size = bounds.sizes in (
        (
          saved_long Main s.main size.main,
          refl,
          (
            saved_long Shared s.shared size.shared,
            refl,
            (
              saved_long Own7 s.seven.wram size.wram,
              refl,
              (
                saved_long Itcm s.nine.itcm size.itcm,
                refl,
                (
                  saved_long Dtcm s.nine.dtcm size.dtcm,
                  refl,
                  (
                    saved_long Palette s.palette size.palette,
                    refl,
                    (
                      banks_stand at u.vram size.vram,
                      (saved_long Oam s.oam size.oam, refl, tt),
                    ),
                  ),
                ),
              ),
            ),
          ),
        ),
        refl,
      )

  -- ---- the small units

  awake_no_more : (proc : Proc) → (io_of u proc).halted ≡ true → shares_bit (io_of u proc).irq ≡ false
  awake_no_more proc h = apart (io_of u proc).halted (shares_bit (io_of u proc).irq) h (sound.asleep proc) where
    apart : (halted shares : Bool) → halted ≡ true → (halted && shares) ≡ false → shares ≡ false
    apart true shares h e = e
    apart false shares h e = absurd (true≢false (sym h))

  abbrev saved_irq : IrqState
  saved_irq = irq_levelled u.nine.irq false

  irq_of_nine : IsIrq saved_irq
  irq_of_nine = let irq = bounds.units.irq Nine in record { ie = irq.ie; if_ = less_bits (bit_not w32 level) u.nine.irq.if_ irq.if_ }

  timers_late : (proc : Proc) (which : ℕ) → which < 4 → (tick : Tick) → timer_due (timer_at (io_of u proc).timers which) ≡ Some tick → at ≤ tick.0
  timers_late Nine zero l = late (actor_rank (who.Timer Nine 0)) (omega arith)
  timers_late Nine (suc zero) l = late (actor_rank (who.Timer Nine 1)) (omega arith)
  timers_late Nine (suc (suc zero)) l = late (actor_rank (who.Timer Nine 2)) (omega arith)
  timers_late Nine (suc (suc (suc zero))) l = late (actor_rank (who.Timer Nine 3)) (omega arith)
  timers_late Nine (suc (suc (suc (suc n)))) l = absurd (omega (arith, l))
  timers_late Seven zero l = late (actor_rank (who.Timer Seven 0)) (omega arith)
  timers_late Seven (suc zero) l = late (actor_rank (who.Timer Seven 1)) (omega arith)
  timers_late Seven (suc (suc zero)) l = late (actor_rank (who.Timer Seven 2)) (omega arith)
  timers_late Seven (suc (suc (suc zero))) l = late (actor_rank (who.Timer Seven 3)) (omega arith)
  timers_late Seven (suc (suc (suc (suc n)))) l = absurd (omega (arith, l))

  timer_anchored : (proc : Proc) (which : ℕ) → which < 4 → IsAnchoredAt at (timer_at (io_of u proc).timers which)
  timer_anchored proc which l =
      let t = timer_at (io_of u proc).timers which in
      (anchored at t.since ((within.units.own proc).timers which l), overflows_late at (timer_due t) (timers_late proc which l))

  keycnt_holds : (proc : Proc) → ((io_of u proc).keycnt < 256 ^ 2) × (((bit_and (io_of u proc).keycnt 0xC3FF) == (io_of u proc).keycnt) ≡ true)
  keycnt_holds proc =
      let kept = (within.units.own proc).keycnt in
      let small = kept_small (io_of u proc).keycnt 0xC3FF kept in
      (omega (arith, small), is_equal _ _ kept)

  not_both : (a b : Bool) → (a ≡ true → not b ≡ true) → not (a && b) ≡ true
  not_both true b h = h refl
  not_both false b h = refl

  or_holds : (a b : Bool) → (a ≡ true → b ≡ true) → (not a || b) ≡ true
  or_holds true b h = h refl
  or_holds false b h = refl

  units_stand : StandsFor (units_format u.seven.halted) at (saved_units u)
  unfolding units_format
  units_stand =
      let b = bounds.units in
      let wramcnt = b.wramcnt in
      let wide : u.wramcnt < 256 ^ 1 = omega (arith, wramcnt) in
      let pressed = b.pressed in
      let wide_pressed : u.pressed < 256 ^ 2 = omega (arith, pressed) in
      let nine = keycnt_holds Nine in
      let seven = keycnt_holds Seven in (
        (
          wide,
          is_le u.wramcnt 3 (omega (arith, wramcnt)),
          (
            irq_stands Nine (λ ie flags. true) at saved_irq irq_of_nine (within.units.own Nine).ie (kept_twice u.nine.irq.if_ (bit_not w32 level)) refl,
            (
              irq_stands Seven (sleeps_by u.seven.halted) at u.seven.irq (b.irq Seven) (within.units.own Seven).ie ((within.units.own Seven).level refl)
                  (ap not (sound.asleep Seven)),
              (
                timers_stand at u.nine.timers early sound.parts.io.nine.timers (timer_anchored Nine),
                (
                  timers_stand at u.seven.timers early sound.parts.io.seven.timers (timer_anchored Seven),
                  (
                    divider_stands at u.divider early b.divider (soon_holds at u.divider.due within.units.divider (late (actor_rank who.Divider) (omega arith))),
                    (
                      root_stands at u.root early b.root (soon_holds at u.root.due within.units.root (late (actor_rank who.SquareRoot) (omega arith))),
                      (
                        ipc_stands at u.ipc b.ipc,
                        (
                          wide_pressed,
                          is_le u.pressed 0xFFF (omega (arith, pressed)),
                          (nine.0, nine.1, (seven.0, seven.1, tt)),
                        ),
                      ),
                    ),
                  ),
                ),
              ),
            ),
          ),
        ),
        refl,
      )

  -- ---- the channels

  -- one of ARM7's that is due comes no earlier
  seven_late : (which : ℕ) → which < 4 → (tick : Tick) → channel_due u.seven.dma which ≡ Some tick → at ≤ tick.0
  seven_late zero l = late (actor_rank (who.Dma Seven 0)) (omega arith)
  seven_late (suc zero) l = late (actor_rank (who.Dma Seven 1)) (omega arith)
  seven_late (suc (suc zero)) l = late (actor_rank (who.Dma Seven 2)) (omega arith)
  seven_late (suc (suc (suc zero))) l = late (actor_rank (who.Dma Seven 3)) (omega arith)
  seven_late (suc (suc (suc (suc n)))) l = absurd (omega (arith, l))

  nine_late : (which : ℕ) → which < 4 → (tick : Tick) → held_due (is_stalled u.gx) u.released (channel_due u.nine.dma which) ≡ Some tick → at ≤ tick.0
  nine_late zero l = late (actor_rank (who.Dma Nine 0)) (omega arith)
  nine_late (suc zero) l = late (actor_rank (who.Dma Nine 1)) (omega arith)
  nine_late (suc (suc zero)) l = late (actor_rank (who.Dma Nine 2)) (omega arith)
  nine_late (suc (suc (suc zero))) l = late (actor_rank (who.Dma Nine 3)) (omega arith)
  nine_late (suc (suc (suc (suc n)))) l = absurd (omega (arith, l))

  least_due : (dma : DmaState) → channel_due dma (least_running dma.channels) ≡ ready dma.last (channel_at dma.channels (least_running dma.channels))
  least_due dma = if_true (least_running dma.channels == least_running dma.channels) _ None (equal_self (least_running dma.channels))

  comes_after : (which : ℕ) (due : Option Tick) → ((tick : Tick) → due ≡ Some tick → at ≤ tick.0) → IfSome (due_with which due) (λ d. at ≤ d.tick.0)
  comes_after which None from = tt
  comes_after which (Some due) from = from due refl

  seven_comes : IfSome (dma_due u.seven.dma) (λ d. at ≤ d.tick.0)
  seven_comes =
      let dma = u.seven.dma in
      let which = least_running dma.channels in
      comes_after which (ready dma.last (channel_at dma.channels which))
      (λ tick due. seven_late which (least_below dma.channels) tick (least_due dma ∙ due))

  triggered_by : (proc : Proc) → AreTriggeredBy at (io_of u proc).dma
  triggered_by proc =
      let dma = (io_of u proc).dma in
      let own = (within.units.own proc).dma in
      record {
        trigger = λ which l. number_by at (channel_at dma.channels which).trigger (own.trigger which l);
        last = number_past at (last_tick dma.last) own.last;
      }

  not_late : (halted runs : Bool) (due : ℕ) → ((halted || runs) ≡ false → at ≤ due) → (not halted && nat_lt due at) ≡ true → runs ≡ true
  not_late true runs due from h = absurd (true≢false (sym h))
  not_late false true due from h = refl
  not_late false false due from h = absurd (let lt = lt_of due at h in let le = from refl in omega (arith, lt, le))

  due_unblocked : (blocked : Bool) (p : ProcessorState) → ((tick : Tick) → due_unless blocked p ≡ Some tick → at ≤ tick.0) → blocked ≡ false
      → at ≤ p.due
  due_unblocked true p from h = absurd (true≢false h)
  due_unblocked false p from h = from (tick_of p) refl

  seven_runs : is_late at (saved_processor s.seven.processor u.seven) ≡ true → any_runs u.seven.dma.channels ≡ true
  seven_runs =
      not_late u.seven.halted (any_runs u.seven.dma.channels) s.seven.processor.due
      (due_unblocked (blocks_processor u.seven) s.seven.processor (late (rank_of Seven) (omega arith)))

  channels_stand : StandsFor (channels_format (is_late at (saved_processor s.seven.processor u.seven))) at (saved_channels u)
  unfolding channels_format
  channels_stand =
      let b = bounds.units in
      let is = sound.parts.io in
      let nine = (within.units.own Nine).is_its in
      let seven = (within.units.own Seven).is_its in
      let late_seven = is_late at (saved_processor s.seven.processor u.seven) in
      let of_nine : StandsFor (dma_format Nine) at u.nine.dma =
      subst (λ (proc : Proc). StandsFor (dma_format proc) at u.nine.dma) nine
      (dma_stands (λ runs. true) at u.nine.dma early is.nine.dma (triggered_by Nine) (λ is. absurd (nine_or_seven (sym nine ∙ is))) refl) in
      let of_seven : StandsFor (dma_format_by Seven (late_runs_by late_seven)) at u.seven.dma =
      subst (λ (proc : Proc). StandsFor (dma_format_by proc (late_runs_by late_seven)) at u.seven.dma) seven
      (dma_stands (late_runs_by late_seven) at u.seven.dma early is.seven.dma (triggered_by Seven) (λ is. seven_comes)
      (or_holds late_seven (any_runs u.seven.dma.channels) seven_runs)) in (
        (of_nine, (of_seven, (b.four, words_stand at u.fill b.fill, tt))),
        refl,
      ) where
        nine_or_seven : Nine ≡ Seven → ⊥
        nine_or_seven h = grind (arith, h)

  -- ---- the display, geometry and the card

  video_saved : IsSavedVideo at u.video
  video_saved =
      let scan = within.units.scan in
      let waits : scan_before at ≡ scan_before scan.0 =
      scans_follow.waits scan.0 at scan.1 (subst (λ (x : ScanState). at ≤ scan_due x) scan.2
      (late (actor_rank who.Video) (omega arith) (scan_due_tick u.video.scan) refl)) in
      record { is = within.units.video; scan = scan.2 ∙ sym waits }

  gx_saved : IsSavedGx at u.gx
  gx_saved = record {
    is = bounds.units.gx;
    geometry = record { bounds = bounds.units.bounds.geometry; run = within.run; swap = within.units.swap; none = within.units.none };
    words = bounds.units.bounds.words;
    due = soon_holds at u.gx.due within.units.gx (late geometry_rank (omega arith));
  }

  card_saved : IsCardAt s.file at u.card
  card_saved = record {
    card = bounds.units.card.card;
    nine = bounds.units.card.nine;
    seven = bounds.units.card.seven;
    word = within.card.word;
    due = soon_holds at (card_due u.card) within.units.card (late (actor_rank who.Card) (omega arith));
  }

  -- ---- what is settled

  abbrev Settled : Type 0
  Settled = ((irq_levelled u.nine.irq (gx_level u.gx)).if_ ≡ u.nine.irq.if_) × (not (is_half_empty u.gx && awaits_geometry u.nine.dma) ≡ true)
      × (release_of u ≡ u.released)

  settled : Settled
  settled = let one = both _ _ sound.settled in let two = both _ _ one.1 in (equal _ _ one.0, two.0, equal _ _ two.1)

  irq_again : irq_levelled saved_irq (gx_level u.gx) ≡ u.nine.irq
  irq_again =
      ap (λ (flags : ℕ). (let irq : IrqState = record u.nine.irq { if_ = flags } in irq))
      (level_again u.nine.irq.if_ (gx_level u.gx) (bounds.units.irq Nine).if_ settled.0)

  -- ---- what the rest asks of geometry's FIFO

  none_shared : (ie flags : ℕ) → not (bit_and ie flags == 0) ≡ false → bit_and ie flags ≡ 0
  none_shared ie flags h = equal (bit_and ie flags) 0 (not_false _ h)

  wakes_not : (halted : Bool) → u.nine.halted ≡ halted → (halted && shares_bit saved_irq) ≡ false
  wakes_not false e = refl
  wakes_not true e =
      let apart = none_shared u.nine.irq.ie u.nine.irq.if_ (awake_no_more Nine e) in
      ap (λ (n : ℕ). not (n == 0)) (still_apart u.nine.irq.ie u.nine.irq.if_ (bit_not w32 level) apart)

  hears_low : (halted on : Bool) → u.nine.halted ≡ halted → gx_level u.gx ≡ on → (halted && not (bit_and u.nine.irq.ie level == 0)) ≡ true
      → not on ≡ true
  hears_low halted false e f h = refl
  hears_low false true e f h = absurd (true≢false (sym h))
  hears_low true true e f h =
      let told : bit_or u.nine.irq.if_ level ≡ u.nine.irq.if_ =
      subst (λ (on : Bool). (irq_levelled u.nine.irq on).if_ ≡ u.nine.irq.if_) f settled.0 in
      let apart = none_shared u.nine.irq.ie u.nine.irq.if_ (awake_no_more Nine e) in
      let low = level_apart u.nine.irq.ie u.nine.irq.if_ told apart in
      absurd (true≢false (sym h ∙ ap (λ (n : ℕ). not (n == 0)) low))

  late_stalls : (halted runs stalled : Bool) (due : ℕ) → (((halted || runs) || stalled) ≡ false → at ≤ due)
      → ((not halted && nat_lt due at) && not runs) ≡ true → stalled ≡ true
  late_stalls true runs stalled due from h = absurd (true≢false (sym h))
  late_stalls false runs true due from h = refl
  late_stalls false true false due from h = absurd (true≢false (sym (both (nat_lt due at) false h).1))
  late_stalls false false false due from h =
      absurd (let lt = lt_of due at (both (nat_lt due at) true h).0 in let le = from refl in omega (arith, lt, le))

  waits_filled : (waits half : Bool) → not (half && waits) ≡ true → waits ≡ true → not half ≡ true
  waits_filled true true h e = h
  waits_filled true false h e = refl
  waits_filled false half h e = absurd (true≢false (sym e))

  asks_hold : holds_by (asked_of at (saved_processor s.nine.processor u.nine) saved_irq u.nine.dma) u.gx.selector (waiting_entries u.gx) ≡ true
  asks_hold =
      let hears = not_both _ (gx_level u.gx) (hears_low u.nine.halted (gx_level u.gx) refl refl) in
      let late = or_holds _ (is_stalled u.gx) (late_stalls u.nine.halted (any_runs u.nine.dma.channels) (is_stalled u.gx) s.nine.processor.due
      (due_unblocked (blocks_processor u.nine || is_stalled u.gx) s.nine.processor (late (rank_of Nine) (omega arith)))) in
      let waits = not_both _ (is_half_empty u.gx) (waits_filled (awaits_geometry u.nine.dma) (is_half_empty u.gx) settled.1) in
      both_true _ _ (both_true _ _ (both_true _ _ (ap not (wakes_not u.nine.halted refl)) hears) late) waits

  -- ---- what a stall's end left

  stall_left : (stalled : Bool) (due : Option DmaDue) (released : ℕ) → released ≤ at
      → (if stalled then 0 else (if channel_comes_before due released then released else 0)) ≡ released
      → (stalled ≡ false → IfSome due (λ d. at ≤ max released d.tick.0))
      → (if stalled then 0 else (if channel_comes_before due at then at else 0)) ≡ released
  stall_left true due released le kept from = kept
  stall_left false None released le kept from = kept
  stall_left false (Some due) released le kept from =
      let most = from refl in
      elim (lt_cases due.tick.0 at) [
        | inl lt ↦ (let below = lt.0 in if_true (nat_lt due.tick.0 at) at 0 lt.1 ∙ omega (arith, below, le, most))
        | inr ge ↦ (let above = ge.0 in if_false (nat_lt due.tick.0 at) at 0 ge.1
            ∙ sym (if_false (nat_lt due.tick.0 released) released 0 (isnt_lt due.tick.0 released (omega (arith, above, le)))) ∙ kept)
      ]

  held_late : (stalled : Bool) (released : ℕ) (which : ℕ) (due : Option Tick)
      → ((tick : Tick) → held_due stalled released due ≡ Some tick → at ≤ tick.0) → stalled ≡ false
      → IfSome (due_with which due) (λ d. at ≤ max released d.tick.0)
  held_late true released which due from h = absurd (true≢false h)
  held_late false released which None from h = tt
  held_late false released which (Some due) from h = from (record { 0 = max released due.0 }) refl

  released_so : released_again at u.gx u.nine.dma ≡ u.released
  released_so =
      let dma = u.nine.dma in
      let which = least_running dma.channels in
      stall_left (is_stalled u.gx) (dma_due dma) u.released within.units.released settled.2
      (held_late (is_stalled u.gx) u.released which (ready dma.last (channel_at dma.channels which))
      (λ tick due. nine_late which (least_below dma.channels) tick (ap (held_due (is_stalled u.gx) u.released) (least_due dma) ∙ due)))

  -- ---- the whole

  abbrev around : Around
  around = record { file = s.file; keys = keys; nine = s.nine.processor.steps; seven = s.seven.processor.steps; events = s.events }

  abbrev with_three : IrqState → ℕ → List KeyLine → MachineState
  with_three irq released lines = record s { io = record u { released = released; nine = record u.nine { irq = irq } }; keys = lines }

  made_again : s.keys ≡ script_from at keys
      → with_three (irq_levelled saved_irq (gx_level u.gx)) (released_again at u.gx u.nine.dma) (script_from at keys) ≡ s
  made_again script =
      ap (λ (irq : IrqState). with_three irq (released_again at u.gx u.nine.dma) (script_from at keys)) irq_again
      ∙ ap (λ (released : ℕ). with_three u.nine.irq released (script_from at keys)) released_so
      ∙ ap (λ (lines : List KeyLine). with_three u.nine.irq u.released lines) (sym script)

  stands : s.keys ≡ script_from at keys → StandsFor (machine_parts around at) at s
  unfolding machine_parts
  stands script = (
    (processors_stand ⨾ memories_stand ⨾ units_stand ⨾ channels_stand ⨾ video_stands at u.video video_saved
        ⨾ gx_stands (holds_by (asked_of at (saved_processor s.nine.processor u.nine) saved_irq u.nine.dma)) at u.gx early gx_saved asks_hold
        ⨾ card_stands s.file at u.card early card_saved ⨾ tt),
    made_again script,
  )

pub machines_come_back : MachinesComeBack
machines_come_back keys at s bounds sound within none early script =
    (let nine = s.nine.processor.steps in
    let seven = s.seven.processor.steps in
    let parts = machine_parts (around_of s.file keys nine seven s.events) at in
    comes_back (machine_format s.file keys nine seven s.events at) parts at s (machine_reads s.file keys nine seven s.events at)
    (machine_writes s.file keys nine seven s.events at [] s) (round_trips parts at s (stands keys at s early bounds sound within none script)))
