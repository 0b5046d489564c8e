use Rattle.ds_dma.proofs.Words.{Card, Cause, Channel, Control, DmaPort, Geometry, HBlank, IsChannel, Proc, Source, Target, Tick, VBlank, after_unit}
use Rattle.ds_dma.proofs.Words.{both, channel_control_mask, channel_controlled, channel_set, disabled, either_by, equal, greatest_count}
use Rattle.ds_dma.proofs.Words.{if◌then◌else◌, is_armed_again, is_enabled, is_last_of_burst, is_last_unit, is_running, is_some, is_triggered}
use Rattle.ds_dma.proofs.Words.{kept_channel_control, most_burst, never, not, not_true, triggered, unequal, unit_of, waits_for, ◌&&◌}
use Rattle.std.proofs.Common.{ℕ, ◌≡◌, ◌≢◌, ◌<◌, ◌≤◌, ◌+◌, ◌-◌, ◌%◌, ◌^◌, refl, sym, ◌∙◌, ap, arith, rules, Bool, true, false, bit_and, Option, None}
use Rattle.std.specs.Int.Bits.{and_self}
use Rattle.std.proofs.lemmas.Nat.{and_assoc, and_comm, and_mask}
use Rattle.ds_dma.specs.Controls.{units_counted, burst_of, latches_again}
use Rattle.ds_dma.specs.Channels.{latched, emptied, rest_of}

-- the bits that are kept are kept again
pub kept_twice : (proc : Proc) (which value : ℕ) → kept_channel_control proc which (kept_channel_control proc which value) ≡ kept_channel_control proc which value
kept_twice proc which value = (let mask = channel_control_mask proc which in and_assoc mask value mask ∙ ap (bit_and value) (and_self mask))

-- and so are those of a control without its enable
disabled_kept : (proc : Proc) (which control : ℕ) → kept_channel_control proc which control ≡ control → kept_channel_control proc which (disabled control) ≡ disabled control
disabled_kept proc which control h =
    let mask = channel_control_mask proc which in
    let low = 2 ^ 31 - 1 in
    ap (λ n. bit_and n mask) (sym (and_mask control 31))
    ∙ and_assoc mask control low
    ∙ ap (bit_and control) (and_comm low mask)
    ∙ sym (and_assoc low control mask)
    ∙ ap (λ n. bit_and n low) h
    ∙ and_mask control 31

disabled_is_off : (control : ℕ) → is_enabled (disabled control) ≡ false
disabled_is_off control = grind (arith, rules)

units_some : (proc : Proc) (which control : ℕ) → 1 ≤ units_counted proc which control
units_some proc which control = grind (arith, rules)

units_within : (proc : Proc) (which control : ℕ) → units_counted proc which control ≤ greatest_count proc which + 1
units_within proc which control = grind (arith, rules)

-- a source and a target have fewer bits than a running address
wider : (n : ℕ) → n < 2 ^ 28 → n < 2 ^ 32
wider n h = omega (arith, h)

emptied_is : (proc : Proc) (which : ℕ) (c : Channel) (control : ℕ) → IsChannel proc which c → kept_channel_control proc which control ≡ control
    → is_enabled control ≡ false → IsChannel proc which (emptied c control)
emptied_is proc which c control is kept off = record {
  sad = is.sad;
  dad = is.dad;
  cnt = kept;
  from = omega arith;
  to = omega arith;
  remaining = omega arith;
  some = λ on. never (is_enabled control) on off;
  burst = omega arith;
  within = omega arith;
  waits = λ e. refl;
  none = λ e. (refl, refl, refl, refl);
}

latched_is : (proc : Proc) (which : ℕ) (c : Channel) (control : ℕ) (now : Tick) → IsChannel proc which c → kept_channel_control proc which control ≡ control
    → is_enabled control ≡ true → IsChannel proc which (latched proc which c control now)
latched_is proc which c control now is kept on = record {
  sad = is.sad;
  dad = is.dad;
  cnt = kept;
  from = wider c.sad is.sad;
  to = wider c.dad is.dad;
  remaining = units_within proc which control;
  some = λ e. units_some proc which control;
  burst = omega arith;
  within = omega arith;
  waits = λ e. refl;
  none = λ off. never (is_enabled control) on off;
}

controlled_is : (proc : Proc) (which : ℕ) (c : Channel) (control : ℕ) (now : Tick) → IsChannel proc which c → kept_channel_control proc which control ≡ control
    → IsChannel proc which (channel_controlled proc which c control now)
controlled_is proc which c control now is kept =
    let P : Channel → Type 0 = IsChannel proc which in
    either_by P (is_enabled control) _ _
    (λ on. either_by P (is_enabled c.cnt) _ _
    (λ was. record {
      sad = is.sad;
      dad = is.dad;
      cnt = kept;
      from = is.from;
      to = is.to;
      remaining = is.remaining;
      some = λ e. is.some was;
      burst = is.burst;
      within = is.within;
      waits = is.waits;
      none = λ off. never (is_enabled control) on off;
    })
    (λ was. latched_is proc which c control now is kept on))
    (λ off. emptied_is proc which c control is kept off)

-- after a write it is a channel still
pub written_is : (proc : Proc) (which : ℕ) (port : DmaPort) (value : ℕ) (now : Tick) (c : Channel) → IsChannel proc which c
    → IsChannel proc which (channel_set proc which port value now c)
written_is proc which Source value now c is = record {
  sad = omega arith;
  dad = is.dad;
  cnt = is.cnt;
  from = is.from;
  to = is.to;
  remaining = is.remaining;
  some = is.some;
  burst = is.burst;
  within = is.within;
  waits = is.waits;
  none = is.none;
}
written_is proc which Target value now c is = record {
  sad = is.sad;
  dad = omega arith;
  cnt = is.cnt;
  from = is.from;
  to = is.to;
  remaining = is.remaining;
  some = is.some;
  burst = is.burst;
  within = is.within;
  waits = is.waits;
  none = is.none;
}
written_is proc which Control value now c is =
    let control = kept_channel_control proc which value in
    controlled_is proc which c control now is (kept_twice proc which value)

-- a burst has no more units than one may have, and no more than are left
burst_within : (cause : Cause) (left : ℕ) → (burst_of cause left ≤ most_burst) × (burst_of cause left ≤ left)
burst_within VBlank left = (omega arith, omega arith)
burst_within HBlank left = (omega arith, omega arith)
burst_within Card left = (omega arith, omega arith)
burst_within Geometry left = (grind arith, grind arith)

-- after an event it is a channel still
pub triggered_is : (proc : Proc) (which : ℕ) (cause : Cause) (now : Tick) (c : Channel) → IsChannel proc which c
    → IsChannel proc which (triggered proc cause now c)
triggered_is proc which cause now c is =
    either_by (IsChannel proc which) (is_triggered proc cause c) _ _
    (λ e. (let waits = (both (is_enabled c.cnt && waits_for proc cause c.cnt) (not (is_running c)) e).0 in
    let on = (both (is_enabled c.cnt) (waits_for proc cause c.cnt) waits).0 in record {
      sad = is.sad;
      dad = is.dad;
      cnt = is.cnt;
      from = is.from;
      to = is.to;
      remaining = is.remaining;
      some = is.some;
      burst = (burst_within cause c.remaining).0;
      within = (burst_within cause c.remaining).1;
      waits = λ off. never true refl off;
      none = λ off. never (is_enabled c.cnt) on off;
    }))
    (λ e. is)

modulo_below : (n : ℕ) → n % 2 ^ 32 < 2 ^ 32
modulo_below n = omega arith

chosen_below : (b : Bool) (x y : ℕ) → x < 2 ^ 32 → y < 2 ^ 32 → (if b then x else y) < 2 ^ 32
chosen_below true x y h i = h
chosen_below false x y h i = i

-- what is left after a unit that isn't the last one
rest_is : (proc : Proc) (which : ℕ) (c : Channel) (next : Option Tick) → IsChannel proc which c → is_enabled c.cnt ≡ true → c.remaining ≢ 1
    → (is_some next ≡ false → c.burst - 1 ≡ 0) → IsChannel proc which (record (rest_of c) { trigger = next })
rest_is proc which c next is on ne waits = record {
  sad = is.sad;
  dad = is.dad;
  cnt = is.cnt;
  from = modulo_below _;
  to = modulo_below _;
  remaining = omega (arith, is.remaining);
  some = λ f. omega (arith, ne, is.some f);
  burst = omega (arith, is.burst);
  within = omega (arith, is.within);
  waits = waits;
  none = λ off. never (is_enabled c.cnt) on off;
}

-- and so it is after its first unit
pub taken_is : (proc : Proc) (which : ℕ) (c : Channel) → IsChannel proc which c → is_enabled c.cnt ≡ true → IsChannel proc which (after_unit proc which c)
taken_is proc which c is on =
    let P : Channel → Type 0 = IsChannel proc which in
    either_by P (not (is_last_unit c)) _ _
    (λ e. (let ne = unequal c.remaining 1 (not_true (is_last_unit c) e) in
    either_by P (is_last_of_burst c) _ _
    (λ f. rest_is proc which c None is on ne (λ off. (let one = equal c.burst 1 f in omega (arith, one))))
    (λ f. rest_is proc which c c.trigger is on ne (λ off. (let none = is.waits off in omega (arith, none))))))
    (λ e. either_by P (is_armed_again proc c.cnt) _ _
    (λ f. record {
      sad = is.sad;
      dad = is.dad;
      cnt = is.cnt;
      from = modulo_below _;
      to = chosen_below (latches_again c.cnt) c.dad (unit_of c 1).to (wider c.dad is.dad) (modulo_below _);
      remaining = units_within proc which c.cnt;
      some = λ g. units_some proc which c.cnt;
      burst = omega arith;
      within = omega arith;
      waits = λ g. refl;
      none = λ off. never (is_enabled c.cnt) on off;
    })
    (λ f. emptied_is proc which c (disabled c.cnt) is (disabled_kept proc which c.cnt is.cnt) (disabled_is_off c.cnt)))

by_enable : (b : Bool) (trigger : Option Tick) → (b ≡ false → trigger ≡ None) → is_some trigger ≡ true → b ≡ true
by_enable true trigger f r = refl
by_enable false trigger f r = never (is_some trigger) r (ap is_some (f refl))

-- only a channel that is enabled runs
pub runs_on : (proc : Proc) (which : ℕ) (c : Channel) → IsChannel proc which c → is_running c ≡ true → is_enabled c.cnt ≡ true
runs_on proc which c is r = by_enable (is_enabled c.cnt) c.trigger (λ e. (is.none e).3) r
