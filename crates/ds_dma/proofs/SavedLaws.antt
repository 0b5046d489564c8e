use Rattle.ds_dma.proofs.Words.{Channel, DmaState, IsChannel, IsDma, LastUnit, Proc, Tick, WaitsBriefly, any_runs, both, both_true, channel_at}
use Rattle.ds_dma.proofs.Words.{channel_control_mask, dma_due, due_number, either_by, equal, greatest_count, if_false, is_enabled, is_equal, is_le}
use Rattle.ds_dma.proofs.Words.{is_running, is_some, is_unequal, last_tick, le_of, most_burst, most_waits, numbered_due, ◌||◌}
use Rattle.std.proofs.Common.{rules, ℕ, zero, suc, ◌≡◌, ◌<◌, ◌≤◌, ◌+◌, ◌%◌, ◌^◌, ◌==◌, nat_le, Bool, true, false, List, [], ◌∷◌, Option, Some, None, IfSome, bit_and, refl, sym, ◌∙◌, ap, subst, arith}
use Rattle.std.specs.Int.Bits.{and_le_r, and_mask}
use Rattle.ds_base.specs.declared.processors.Proc.TheVariants.{Nine, Seven}
use Rattle.ds_base.proofs.DueNumbers.{due_again, number_again}
use Rattle.ds_dma.specs.Saved.{AreTriggeredBy, ComesNoEarlier, DmasAreSaved, asked_last, burst_left, channel_format, comes_by, channel_format_by, dma_format, dma_format_by, last_by, last_waits, numbered_last, runs_by, units_left, waits_by}
use Rattle.ds_dma.specs.declared.dma.DmaDue.{DmaDue}
use Rattle.ds_dma.proofs.Fours.{four_are}
use Rattle.ds_state.proofs.Earlier.{earlier_again, earlier_fits, earlier_holds, earlier_made}
use Rattle.ds_state.proofs.Exact.{one_spelling, round_trips}
use Rattle.ds_state.specs.Formats.{earlier_tick, tick_or_0, tick_where, used_where, bytes_written}
use Rattle.ds_state.proofs.Standing.{IsExact, StandsFor}

-- What the channels owe of their formats.

runs_again : (running : Bool) (n : ℕ) → is_some (numbered_due (tick_where running n)) ≡ running
runs_again true n = refl
runs_again false n = refl

trigger_again : (running : Bool) (at n : ℕ) → earlier_tick running at n ≡ true → tick_or_0 (due_number (numbered_due (tick_where running n))) ≡ n
trigger_again running at n rule = ap tick_or_0 (number_again (tick_where running n)) ∙ earlier_again running at n rule

channel_exact : (proc : Proc) (which : ℕ) (asked : Bool → Bool) (at : ℕ) → IsExact (channel_format_by proc which asked) at
unfolding channel_format_by
channel_exact proc which asked at = λ sad _ _ dad _ _ cnt _ _ from _ _ to _ _ remaining _ _ burst _ _ running _ _ trigger _ rule.
    (trigger_again running at trigger rule, (runs_again running trigger, search rules))

last_again : (tick waits at : ℕ) → waits_by tick at waits ≡ true → (tick_or_0 (due_number (last_tick (numbered_last tick waits))) ≡ tick) × (last_waits (numbered_last tick waits) ≡ waits)
last_again tick waits at rule = by_number tick rule where
  by_number : (n : ℕ) → waits_by n at waits ≡ true → (tick_or_0 (due_number (last_tick (numbered_last n waits))) ≡ n) × (last_waits (numbered_last n waits) ≡ waits)
  by_number zero rule = (refl, sym (equal waits 0 rule))
  by_number (suc n) rule =
      let there : numbered_last (suc n) waits ≡ Some (record { tick = record { 0 = suc n }; waits = waits }) = if_false (suc n == 0) _ _ (is_unequal (suc n) 0 (omega arith)) in
      (ap (λ (last : Option LastUnit). tick_or_0 (due_number (last_tick last))) there, ap last_waits there)

waits_of : (proc : Proc) (channels : List Channel) (tick at waits : ℕ) → last_by proc channels tick at waits ≡ true → waits_by tick at waits ≡ true
waits_of proc channels tick at waits rule = (both _ _ rule).1

pub dma_exact : (proc : Proc) (asked : Bool → Bool) (at : ℕ) → IsExact (dma_format_by proc asked) at
unfolding dma_format_by
dma_exact proc asked at = (
  channel_exact proc 0 (λ running. true) at,
  λ zero _. (
    channel_exact proc 1 (λ running. true) at,
    λ one _. (
      channel_exact proc 2 (λ running. true) at,
      λ two _. (
        channel_exact proc 3 (asked_last asked (is_running zero || is_running one || is_running two)) at,
        λ three _.
            λ tick _ _ waits _ rule. (let again = last_again tick waits at (waits_of proc (zero ∷ one ∷ two ∷ three ∷ []) tick at waits rule) in (again.1, (again.0, search rules))),
      ),
    ),
  ),
)

-- the rules hold of a channel
used_holds : (used : Bool) (at n : ℕ) → (used ≡ false → n ≡ 0) → used_where used at n ≡ true
used_holds true at n h = refl
used_holds false at n h = is_equal n 0 (h refl)

units_hold : (proc : Proc) (which at : ℕ) (enabled : Bool) (units : ℕ) → (enabled ≡ true → 1 ≤ units) → units ≤ greatest_count proc which + 1
    → (enabled ≡ false → units ≡ 0) → units_left proc which enabled at units ≡ true
units_hold proc which at true units some most none = (let one = some refl in grind (arith, one, most))
units_hold proc which at false units some most none = is_equal units 0 (none refl)

burst_holds : (enabled : Bool) (units at burst : ℕ) → burst ≤ units → burst ≤ most_burst → burst_left enabled units at burst ≡ true
burst_holds false units at burst within most = refl
burst_holds true units at burst within most = grind (arith, within, most)

runs_hold : (enabled : Bool) (burst at : ℕ) (trigger : Option Tick) → (is_some trigger ≡ false → burst ≡ 0) → (enabled ≡ false → trigger ≡ None)
    → runs_by enabled burst at (is_some trigger) ≡ true
runs_hold true burst at None waits none = is_equal burst 0 (waits refl)
runs_hold false burst at None waits none = is_equal burst 0 (waits refl)
runs_hold true burst at (Some trigger) waits none = refl
runs_hold false burst at (Some trigger) waits none = sym (ap is_some (none refl))

running_number : (trigger : Option Tick) → is_some (due_number trigger) ≡ is_some trigger
running_number None = refl
running_number (Some trigger) = refl

-- numbers that have a spelling
greatest_small : (proc : Proc) (which : ℕ) → greatest_count proc which ≤ 0x1FFFFF
greatest_small Nine which = omega arith
greatest_small Seven which = either_by (λ n. n ≤ 0x1FFFFF) (which == 3) _ _ (λ e. omega arith) (λ e. omega arith)

mask_small : (proc : Proc) (which : ℕ) → channel_control_mask proc which ≤ 0xFFFFFFFF
mask_small Nine which = omega arith
mask_small Seven which = either_by (λ n. n ≤ 0xFFFFFFFF) (which == 3) _ _ (λ e. omega arith) (λ e. omega arith)

within : (v mask : ℕ) → bit_and v mask ≡ v → v ≤ mask
within v mask kept = subst (λ (x : ℕ). x ≤ mask) kept (and_le_r v mask)

below : (v : ℕ) → v < 2 ^ 28 → v % 2 ^ 28 ≡ v
below v small = grind (arith, small)

address_kept : (v : ℕ) → v < 2 ^ 28 → (bit_and v 0x0FFFFFFF == v) ≡ true
address_kept v small = is_equal _ _ (and_mask v 28 ∙ below v small)

channel_stands : (proc : Proc) (which : ℕ) (asked : Bool → Bool) (at : ℕ) (c : Channel) → at ≤ 2 ^ 56 → IsChannel proc which c
    → IfSome (due_number c.trigger) (λ trigger. trigger ≤ at) → asked (is_running c) ≡ true → StandsFor (channel_format_by proc which asked) at c
unfolding channel_format_by
channel_stands proc which asked at c early is triggered holds_so =
    let enabled = is_enabled c.cnt in
    let sad = address_kept c.sad is.sad in let dad = address_kept c.dad is.dad in
    let s = is.sad in let d = is.dad in
    let sad_small : c.sad < 2 ^ 32 = omega (arith, s) in let dad_small : c.dad < 2 ^ 32 = omega (arith, d) in
    let from_small = is.from in let to_small = is.to in
    let cnt = is_equal _ _ is.cnt in
    let cnt_within = within c.cnt _ is.cnt in let mask = mask_small proc which in
    let cnt_small : c.cnt < 2 ^ 32 = omega (arith, cnt_within, mask) in
    let most = is.remaining in let greatest = greatest_small proc which in
    let units_small : c.remaining < 2 ^ 32 = omega (arith, most, greatest) in
    let few = is.burst in
    let burst_small : c.burst < 2 ^ 32 = omega (arith, few) in
    let from = used_holds enabled at c.from (λ off. (is.none off).0) in
    let to = used_holds enabled at c.to (λ off. (is.none off).1) in
    let units = units_hold proc which at enabled c.remaining is.some is.remaining (λ off. (is.none off).2) in
    let burst = burst_holds enabled c.remaining at c.burst is.within is.burst in
    let rules_hold = both_true _ _ holds_so (runs_hold enabled c.burst at c.trigger is.waits (λ off. (is.none off).3)) in
    let fits = earlier_fits (due_number c.trigger) at early triggered in
    let holds = earlier_holds (due_number c.trigger) (is_running c) at triggered (running_number c.trigger) in
    let made = ap numbered_due (earlier_made (due_number c.trigger) (is_running c) (running_number c.trigger)) ∙ due_again c.trigger in (
      (
        sad_small,
        sad,
        (
          dad_small,
          dad,
          (
            cnt_small,
            cnt,
            (
              from_small,
              from,
              (
                to_small,
                to,
                (
                  units_small,
                  units,
                  (
                    burst_small,
                    burst,
                    (tt, rules_hold, (fits, holds, tt)),
                  ),
                ),
              ),
            ),
          ),
        ),
      ),
      rw made refl,
    )

-- and of the last unit
record LastKeeps (at : ℕ) (last : Option LastUnit) : Type 0 where
  fits : tick_or_0 (due_number (last_tick last)) < 2 ^ 64
  earlier : earlier_tick true at (tick_or_0 (due_number (last_tick last))) ≡ true
  small : last_waits last < 2 ^ 32
  waits : waits_by (tick_or_0 (due_number (last_tick last))) at (last_waits last) ≡ true
  made : numbered_last (tick_or_0 (due_number (last_tick last))) (last_waits last) ≡ last

last_keeps : (at : ℕ) (last : Option LastUnit) → at ≤ 2 ^ 56 → WaitsBriefly last → IfSome (due_number (last_tick last)) (λ t. (1 ≤ t) × (t ≤ at))
    → LastKeeps at last
last_keeps at None early brief there = record { fits = omega arith; earlier = grind arith; small = omega arith; waits = refl; made = refl }
last_keeps at (Some last) early brief there =
    let some = there.0 in let most = there.1 in
    let no : (last.tick.0 == 0) ≡ false = grind (arith, some) in
    record {
      fits = omega (arith, early, most);
      earlier = grind (arith, most);
      small = omega (arith, brief);
      waits = if_false (last.tick.0 == 0) _ _ no ∙ (let rule : nat_le last.waits most_waits ≡ true = grind (arith, brief) in rule);
      made = if_false (last.tick.0 == 0) _ _ no;
    }

-- what is made of their values is the channels
made_again : (s : DmaState) → IsDma s → numbered_last (tick_or_0 (due_number (last_tick s.last))) (last_waits s.last) ≡ s.last
    → (let all : DmaState = record {
      proc = s.proc;
      channels = channel_at s.channels 0 ∷ channel_at s.channels 1 ∷ channel_at s.channels 2 ∷ channel_at s.channels 3 ∷ [];
      last = numbered_last (tick_or_0 (due_number (last_tick s.last))) (last_waits s.last);
    } in all) ≡ s
made_again s is made =
    ap (λ (xs : List Channel). (let all : DmaState = record s { channels = xs; last = numbered_last (tick_or_0 (due_number (last_tick s.last))) (last_waits s.last) } in all))
    (sym (four_are s.channels is.four))
    ∙ ap (λ (last : Option LastUnit). (let all : DmaState = record s { last = last } in all)) made

-- a channel of ARM7 that is due comes no earlier
pub none_earlier : (proc : Proc) (at : ℕ) (due : Option DmaDue) → comes_by proc at due ≡ true → proc ≡ Seven → IfSome due (λ due. at ≤ due.tick.0)
none_earlier Nine at due rule is = absurd (search rules)
none_earlier Seven at None rule is = tt
none_earlier Seven at (Some due) rule is = le_of at due.tick.0 rule

come_hold : (proc : Proc) (at : ℕ) (due : Option DmaDue) → (proc ≡ Seven → IfSome due (λ due. at ≤ due.tick.0)) → comes_by proc at due ≡ true
come_hold Nine at due comes = refl
come_hold Seven at None comes = refl
come_hold Seven at (Some due) comes = is_le at due.tick.0 (comes refl)

pub dma_stands : (asked : Bool → Bool) (at : ℕ) (s : DmaState) → at ≤ 2 ^ 56 → IsDma s → AreTriggeredBy at s → ComesNoEarlier at s
    → asked (any_runs s.channels) ≡ true → StandsFor (dma_format_by s.proc asked) at s
unfolding dma_format_by
dma_stands asked at s early is by comes holds =
    let channel = channel_at s.channels in
    let stands : (which : ℕ) (own : Bool → Bool) → which < 4 → own (is_running (channel which)) ≡ true
    → StandsFor (channel_format_by s.proc which own) at (channel which) =
    λ which own l. channel_stands s.proc which own at (channel which) early (is.each which l) (by.trigger which l) in
    let free : (which : ℕ) → which < 4 → StandsFor (channel_format s.proc which) at (channel which) = λ which l. stands which (λ running. true) l refl in
    let keeps = last_keeps at s.last early is.last by.last in
    let again = made_again s is keeps.made in
    let due = ap (λ (x : DmaState). comes_by s.proc at (dma_due x)) again ∙ come_hold s.proc at (dma_due s) comes in (
      (
        free 0 (omega arith),
        (
          free 1 (omega arith),
          (
            free 2 (omega arith),
            (
              stands 3 (asked_last asked (is_running (channel 0) || is_running (channel 1) || is_running (channel 2))) (omega arith) holds,
              (keeps.fits, keeps.earlier, (keeps.small, both_true _ _ due keeps.waits, tt)),
            ),
          ),
        ),
      ),
      again,
    )

bytes_by : (proc : Proc) (asked : Bool → Bool) (before : List ℕ) (s : DmaState)
    → bytes_written (dma_format_by proc asked) before s ≡ bytes_written (dma_format proc) before s
unfolding dma_format_by channel_format_by
bytes_by proc asked before s = refl

pub dmas_saved : DmasAreSaved
dmas_saved = record {
  back = λ at s early is by comes. round_trips (dma_format s.proc) at s (dma_stands (λ runs. true) at s early is by comes refl);
  back_by = λ asked at s early is by comes holds. round_trips (dma_format_by s.proc asked) at s (dma_stands asked at s early is by comes holds);
  same_bytes = bytes_by;
  spelling = λ proc at. one_spelling (dma_format proc) at (dma_exact proc (λ runs. true) at);
  spelling_by = λ proc asked at. one_spelling (dma_format_by proc asked) at (dma_exact proc asked at);
}
