use Rattle.std.specs.Prelude.{ℕ, ◌≡◌, ◌<◌, ◌≤◌, ◌+◌, ◌-◌, ◌*◌, ◌%◌, ◌^◌, ◌==◌, ◌≢◌, ◌&&◌, not, if◌then◌else◌, Bool, true, false, List, [], ◌∷◌, map, max, Option, Some, None, is_some, option_map}
use Rattle.std.specs.List.{range_with_len}
use Rattle.ds_base.specs.Interrupts.{interrupt_bit}
use Rattle.ds_base.specs.declared.processors.Proc.{Proc}
use Rattle.ds_base.specs.declared.ticks.Tick.{Tick}
use Rattle.ds_dma.specs.declared.channels.Channel.{Channel}
use Rattle.ds_dma.specs.declared.channels.LastUnit.{LastUnit}
use Rattle.ds_dma.specs.declared.channels.Unit.{Unit as DmaUnit}
use Rattle.ds_base.specs.declared.left_out.Stop.{Stop}
use Rattle.ds_dma.specs.declared.controls.Cause.{Cause}
use Rattle.ds_dma.specs.declared.controls.DmaPort.{DmaPort}
use Rattle.ds_dma.specs.declared.controls.DmaPort.TheVariants.{Source, Target, Control}
use Rattle.ds_dma.specs.Controls.{kept_address, kept_channel_control, refusal, greatest_count, units_counted, is_enabled, interrupts, disabled, unit_width, unit_bytes, target_mode, source_mode, latches_again, address_step, starts_immediately, is_armed_again, waits_for, burst_of, most_burst, channel_interrupt}

-- A channel (GBATEK, "GBA DMA Transfers" and "DS DMA Transfers") has its source, target and control as they are kept. While it is enabled it also has
-- the next unit's source and target and the number of units left, and while it runs the tick at which it was triggered and the number of units left
-- in its burst, which is 0 where it runs to the end of its count. One that isn't enabled, or doesn't run, has 0 and no tick there.

-- all is 0 at boot (our choice)
abbrev pub channel_at_boot : Channel
channel_at_boot = record { sad = 0; dad = 0; cnt = 0; from = 0; to = 0; remaining = 0; trigger = None; burst = 0 }

-- it runs: it was triggered, and its end hasn't come
abbrev pub is_running : Channel → Bool
is_running c = is_some c.trigger

-- the address of unit i, counted from 0, of those that begin at an address and go on by steps (GBATEK, "GBA DMA Transfers"; that it is taken
-- modulo 2 ^ 32 is our choice)
abbrev pub address_of : ℕ → ℕ → ℕ → ℕ
address_of first step i = (first + step * i) % 2 ^ 32

abbrev pub source_step : Channel → ℕ
source_step c = address_step (source_mode c.cnt) (unit_bytes c.cnt)

abbrev pub target_step : Channel → ℕ
target_step c = address_step (target_mode c.cnt) (unit_bytes c.cnt)

abbrev pub unit_of : Channel → ℕ → DmaUnit
unit_of c i = record { from = address_of c.from (source_step c) i; to = address_of c.to (target_step c) i; width = unit_width c.cnt }

-- THE TRANSFER PLAN. A channel stands for the units that it has left, in the order in which it moves them. Widths and modes are those of its
-- control as it stands (our choice). One that isn't enabled stands for none.
unfoldable pub plan_of : Channel → List DmaUnit
plan_of c = map (unit_of c) (range_with_len 0 c.remaining)

-- what holds of each of the four channels at every time
pub record IsChannel (proc : Proc) (which : ℕ) (c : Channel) : Type 0 where
  pub sad : c.sad < 2 ^ 28
  pub dad : c.dad < 2 ^ 28
  pub cnt : kept_channel_control proc which c.cnt ≡ c.cnt
  pub from : c.from < 2 ^ 32
  pub to : c.to < 2 ^ 32
  pub remaining : c.remaining ≤ greatest_count proc which + 1
  pub some : is_enabled c.cnt ≡ true → 1 ≤ c.remaining
  pub burst : c.burst ≤ most_burst
  pub within : c.burst ≤ c.remaining
  pub waits : is_running c ≡ false → c.burst ≡ 0
  pub none : is_enabled c.cnt ≡ false → (c.from ≡ 0) × (c.to ≡ 0) × (c.remaining ≡ 0) × (c.trigger ≡ None)

-- A channel is enabled at a tick, with this control: it takes its source, its target and its count (GBATEK, "GBA DMA Transfers"), and runs from
-- that tick on where it starts at once.
abbrev pub latched : Proc → ℕ → Channel → ℕ → Tick → Channel
latched proc which c control now = record c {
  cnt = control;
  from = c.sad;
  to = c.dad;
  remaining = units_counted proc which control;
  trigger = if starts_immediately proc control then Some now else None;
  burst = 0;
}

-- it stops standing for any units
abbrev pub emptied : Channel → ℕ → Channel
emptied c control = record c { cnt = control; from = 0; to = 0; remaining = 0; trigger = None; burst = 0 }

-- A control is written at a tick, with these kept bits. Three cases, of which one applies (GBATEK, "GBA DMA Transfers", DMAxCNT_H bit 15; that a
-- channel which stays enabled takes the new control for the units that it has left, and is triggered by none, is our choice, as is that a burst which
-- runs has its own units still, whatever the start then is):
pub data ChangesChannel (proc : Proc) (which : ℕ) (old : Channel) (control : ℕ) (now : Tick) (new : Channel) : Type 0 where
  -- enable goes from 0 to 1
  latches : is_enabled old.cnt ≡ false → is_enabled control ≡ true → new ≡ latched proc which old control now
      → ChangesChannel proc which old control now new
  -- enable stays 1: the kept control alone changes
  stays : is_enabled old.cnt ≡ true → is_enabled control ≡ true → new ≡ record old { cnt = control }
      → ChangesChannel proc which old control now new
  -- enable is cleared, or stays 0
  empties : is_enabled control ≡ false → new ≡ emptied old control → ChangesChannel proc which old control now new

-- what it leaves
abbrev pub channel_controlled : Proc → ℕ → Channel → ℕ → Tick → Channel
channel_controlled proc which c control now =
    if is_enabled control then (if is_enabled c.cnt then record c { cnt = control } else latched proc which c control now)
    else emptied c control

-- what a port reads (GBATEK, "DS DMA Transfers": all can be read)
abbrev pub channel_word : DmaPort → Channel → ℕ
channel_word Source c = c.sad
channel_word Target c = c.dad
channel_word Control c = c.cnt

-- a whole word that is written to a port of a channel is taken (GBATEK, "GBA DMA Transfers": a source and a target count from the next enable on)
abbrev pub channel_set : Proc → ℕ → DmaPort → ℕ → Tick → Channel → Channel
channel_set proc which Source value now c = record c { sad = kept_address value }
channel_set proc which Target value now c = record c { dad = kept_address value }
channel_set proc which Control value now c = channel_controlled proc which c (kept_channel_control proc which value) now

-- why it isn't taken
abbrev pub channel_refusal : Proc → ℕ → DmaPort → ℕ → Channel → Option Stop
channel_refusal proc which Control value c = refusal proc c.cnt (kept_channel_control proc which value)
channel_refusal proc which port value c = None

-- an event triggers a channel that is enabled with its start, for a burst where that start has bursts; one that runs stays as it is
abbrev pub is_triggered : Proc → Cause → Channel → Bool
is_triggered proc cause c = is_enabled c.cnt && waits_for proc cause c.cnt && not (is_running c)

abbrev pub triggered : Proc → Cause → Tick → Channel → Channel
triggered proc cause now c = if is_triggered proc cause c then record c { trigger = Some now; burst = burst_of cause c.remaining } else c

-- it is armed again: with the count of its control as it stands, where its source ended, and where its target ended or as it is kept (GBATEK, "GBA
-- DMA Transfers", DMAxCNT_H bits 5 and 6)
abbrev pub armed_again : Proc → ℕ → Channel → Channel
armed_again proc which c = record c {
  from = (unit_of c 1).from;
  to = if latches_again c.cnt then c.dad else (unit_of c 1).to;
  remaining = units_counted proc which c.cnt;
  trigger = None;
  burst = 0;
}

-- A channel takes the first unit of its plan, which it moves. Four cases, of which one applies:
pub data TakesUnit (proc : Proc) (which : ℕ) (old new : Channel) : Type 0 where
  -- there are more: they are its plan from then on, and it runs on, with one unit fewer in its burst where it has one
  more_units : (unit next : DmaUnit) (rest : List DmaUnit) → plan_of old ≡ unit ∷ next ∷ rest → plan_of new ≡ next ∷ rest → old.burst ≢ 1
      → new ≡ record old { from = next.from; to = next.to; remaining = old.remaining - 1; burst = old.burst - 1 }
      → TakesUnit proc which old new
  -- there are more, but it was the last one of its burst: they are its plan, and it stays armed and doesn't run
  pauses : (unit next : DmaUnit) (rest : List DmaUnit) → plan_of old ≡ unit ∷ next ∷ rest → plan_of new ≡ next ∷ rest → old.burst ≡ 1
      → new ≡ record old { from = next.from; to = next.to; remaining = old.remaining - 1; trigger = None; burst = 0 }
      → TakesUnit proc which old new
  -- it was the last one, and it is armed again
  again : (unit : DmaUnit) → plan_of old ≡ unit ∷ [] → is_armed_again proc old.cnt ≡ true → new ≡ armed_again proc which old
      → TakesUnit proc which old new
  -- it was the last one, and it is enabled no more
  ends : (unit : DmaUnit) → plan_of old ≡ unit ∷ [] → is_armed_again proc old.cnt ≡ false → plan_of new ≡ []
      → new ≡ emptied old (disabled old.cnt)
      → TakesUnit proc which old new

-- and what it leaves by that
abbrev pub is_last_unit : Channel → Bool
is_last_unit c = c.remaining == 1

abbrev pub is_last_of_burst : Channel → Bool
is_last_of_burst c = c.burst == 1

-- what is left of a channel but its first unit: it stands where the one after that is
abbrev pub rest_of : Channel → Channel
rest_of c = record c { from = (unit_of c 1).from; to = (unit_of c 1).to; remaining = c.remaining - 1; burst = c.burst - 1 }

abbrev pub after_unit : Proc → ℕ → Channel → Channel
after_unit proc which c =
    if not (is_last_unit c) then (if is_last_of_burst c then record (rest_of c) { trigger = None } else rest_of c)
    else (if is_armed_again proc c.cnt then armed_again proc which c else emptied c (disabled c.cnt))

-- the bit of IF that the end of a channel raises, where its interrupt is enabled (GBATEK, "DS Interrupts"); the end of a burst alone raises none (our
-- choice)
abbrev pub taken_bit : ℕ → Channel → ℕ
taken_bit which c = if is_last_unit c && interrupts c.cnt then interrupt_bit (channel_interrupt which) else 0

-- when its next unit is due where its turn has come: 4 ticks after it was triggered, and 4 after the processor's last unit and its waits (our choice)
abbrev pub after_both : Option LastUnit → Tick → Tick
after_both None trigger = record { 0 = trigger.0 + 4 }
after_both (Some last) trigger = record { 0 = max trigger.0 (last.tick.0 + last.waits) + 4 }

abbrev pub ready : Option LastUnit → Channel → Option Tick
ready last c = option_map (after_both last) c.trigger
