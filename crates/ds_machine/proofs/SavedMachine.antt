use Rattle.ds_machine.proofs.Words.{All, Arch, AreAsleep, Around, Asked, Bool, Cp15State, DmaDue, HasBothStatuses, HasNineStatuses, HasSoundParts}
use Rattle.ds_machine.proofs.Words.{HasStatuses, IrqState, IsOver, IsRunning, IsStatus, KeyLine, List, MachineState, Nine, Ok, Option, RegisterState}
use Rattle.ds_machine.proofs.Words.{SavedChannels, SavedProcessor, SavedProcessors, SavedUnits, ScanState, Seven, StandsFor, V4, V5, [], any_runs, ap}
use Rattle.ds_machine.proofs.Words.{arith, asked_of, awaits_geometry, bit_and, bit_or, both_true, card_format, channel_comes_before, channels_format}
use Rattle.ds_machine.proofs.Words.{control_mask, control_ones, counts_of, cp15_format, dma_due, dma_format_by, dues_of, equal, events, false}
use Rattle.ds_machine.proofs.Words.{gx_format_by, gx_level, holds_by, if_true, if◌then◌else◌, irq_format, irq_format_by, irq_levelled, is_equal}
use Rattle.ds_machine.proofs.Words.{is_half_empty, is_late, is_settled, is_stalled, keys_due, late_runs_by, machine_format, machine_parts}
use Rattle.ds_machine.proofs.Words.{memories_format, not, processor_format, processors_format, reads_exactly, refl, registers_format, release_by}
use Rattle.ds_machine.proofs.Words.{release_of, released_again, saved_channels, saved_memories, saved_processors, saved_units, scan_due, scans_follow}
use Rattle.ds_machine.proofs.Words.{script_from, shares_bit, sleeps_by, subst, suc, sym, timers_format, true, true≢false, units_format, video_format}
use Rattle.ds_machine.proofs.Words.{with_file, zero, ℕ, ◌&&◌, ◌*◌, ◌+◌, ◌<◌, ◌^◌, ◌∙◌, ◌∷◌, ◌≡◌, ◌≤◌}
use Rattle.ds_math.specs.Saved.{divider_format, root_format}
use Rattle.ds_state.specs.Reading.{read_format, Left}
use Rattle.std.specs.Int.Bits.{and_le_r, or_add_and}
use Rattle.ds_state.proofs.Codes.{AreBytes}
use Rattle.ds_machine.proofs.Pairs.{◌⨾◌}
use Rattle.ds_machine.proofs.Running.{starts_running}
use Rattle.ds_machine.proofs.SavedParts.{machine_reads}
use Rattle.ds_machine.proofs.SavedExact.{machine_exact, saved_events}
use Rattle.ds_machine.proofs.SavedRunning.{IsDueFrom, answered, card_from, divider_from, gx_from, gx_run, late_runs, levelled_twice, nine_asleep, nine_channel, over_from, own_from, own_from_nine, root_from, scan_again, script_due, seven_asleep, seven_channel, timers_from}

-- A machine that bytes stand for goes on.

-- what its units keep, each by itself
pub record UnitsStand (halted : Bool) (at : ℕ) (u : SavedUnits) : Type 0 where
  pub irq_of_nine : StandsFor (irq_format Nine) at u.irq_of_nine
  pub irq_of_seven : StandsFor (irq_format_by Seven (sleeps_by halted)) at u.irq_of_seven
  pub timers_of_nine : StandsFor timers_format at u.timers_of_nine
  pub timers_of_seven : StandsFor timers_format at u.timers_of_seven
  pub divider : StandsFor divider_format at u.divider
  pub root : StandsFor root_format at u.root

units_stand : (halted : Bool) (at : ℕ) (u : SavedUnits) → StandsFor (units_format halted) at u → UnitsStand halted at u
unfolding units_format
units_stand halted at u stands = record {
  irq_of_nine = stands.0.2.0;
  irq_of_seven = stands.0.2.1.0;
  timers_of_nine = stands.0.2.1.1.0;
  timers_of_seven = stands.0.2.1.1.1.0;
  divider = stands.0.2.1.1.1.1.0;
  root = stands.0.2.1.1.1.1.1.0;
}

channels_seven : (late : Bool) (at : ℕ) (c : SavedChannels) → StandsFor (channels_format late) at c
    → StandsFor (dma_format_by Seven (late_runs_by late)) at c.seven
unfolding channels_format
channels_seven late at c stands = stands.0.1.0

-- what the machine keeps, and what it is made of
pub record MachineStands (around : Around) (at : ℕ) (s : MachineState) : Type 0 where
  pub processors : StandsFor processors_format at (saved_processors s)
  pub memories : StandsFor memories_format at (saved_memories s)
  pub units : StandsFor (units_format s.io.seven.halted) at (saved_units s.io)
  pub channels : StandsFor (channels_format (is_late at (saved_processors s).seven)) at (saved_channels s.io)
  pub video : StandsFor (video_format at) at s.io.video
  pub gx : StandsFor (gx_format_by (holds_by (asked_of at (saved_processors s).nine (irq_levelled s.io.nine.irq false) s.io.nine.dma))) at s.io.gx
  pub card : StandsFor (card_format around.file) at s.io.card
  pub released : s.io.released ≡ released_again at s.io.gx s.io.nine.dma
  pub irq : s.io.nine.irq ≡ irq_levelled (irq_levelled s.io.nine.irq false) (gx_level s.io.gx)
  pub keys : s.keys ≡ script_from at around.keys
  pub nine : s.nine.processor.steps ≡ around.nine
  pub seven : s.seven.processor.steps ≡ around.seven
  pub events : s.events ≡ around.events
  pub file : s.file ≡ around.file

pub machine_stands : (around : Around) (at : ℕ) (s : MachineState) → StandsFor (machine_parts around at) at s → MachineStands around at s
unfolding machine_parts
machine_stands around at s stands = record {
  processors = stands.0.0;
  memories = stands.0.1.0;
  units = stands.0.1.1.0;
  channels = stands.0.1.1.1.0;
  video = stands.0.1.1.1.1.0;
  gx = stands.0.1.1.1.1.1.0;
  card = stands.0.1.1.1.1.1.1.0;
  released = sym (ap (λ (m : MachineState). m.io.released) stands.1);
  irq = sym (ap (λ (m : MachineState). m.io.nine.irq) stands.1);
  keys = sym (ap (λ (m : MachineState). m.keys) stands.1);
  nine = sym (ap (λ (m : MachineState). m.nine.processor.steps) stands.1);
  seven = sym (ap (λ (m : MachineState). m.seven.processor.steps) stands.1);
  events = sym (ap (λ (m : MachineState). m.events) stands.1);
  file = sym (ap (λ (m : MachineState). m.file) stands.1);
}

pub read_stands : (around : Around) (at : ℕ) (l : Left) (s : MachineState) (left : Left) → AreBytes l.bytes
    → read_format (machine_parts around at) at l ≡ Ok (s, left) → StandsFor (machine_parts around at) at s
read_stands around at l s left are h =
    let was = (reads_exactly (λ (m : MachineState). m) (machine_parts around at) at (λ (m : MachineState). Unit {0}) l (s, left)
    (machine_exact around at) are h).0 in
    (was.keeps, was.again)

not_awaiting : (half waits : Bool) → (waits ≡ true → half ≡ false) → not (half && waits) ≡ true
not_awaiting true true h = absurd (true≢false (h refl))
not_awaiting true false h = refl
not_awaiting false waits h = refl

-- what a stall's end left is kept
none_or_none : (b : Bool) → ◌≡◌ {A = ℕ} (if b then 0 else 0) 0
none_or_none true = refl
none_or_none false = refl

release_again : (stalled : Bool) (at : ℕ) (due : Option DmaDue) →
    (let kept : ℕ = if stalled then 0 else (if channel_comes_before due at then at else 0) in release_by stalled due kept ≡ kept)
release_again true at due = refl
release_again false at due = by_due (channel_comes_before due at) refl where
  by_due : (b : Bool) → channel_comes_before due at ≡ b → (if channel_comes_before due (if b then at else 0) then (if b then at else 0) else 0)
      ≡ (if b then at else 0)
  by_due true e = if_true (channel_comes_before due at) at 0 e
  by_due false e = none_or_none (channel_comes_before due 0)

-- ---- nobody is due earlier

module _ (around : Around) (at : ℕ) (s : MachineState) (m : MachineStands around at s) where
  units : UnitsStand s.io.seven.halted at (saved_units s.io)
  units = units_stand s.io.seven.halted at (saved_units s.io) m.units

  seven_dma : StandsFor (dma_format_by Seven (late_runs_by (is_late at (saved_processors s).seven))) at s.io.seven.dma
  seven_dma = channels_seven (is_late at (saved_processors s).seven) at (saved_channels s.io) m.channels

  abbrev asks : Asked
  asks = asked_of at (saved_processors s).nine (irq_levelled s.io.nine.irq false) s.io.nine.dma

  low : events (irq_levelled s.io.nine.irq false).if_ ≡ (irq_levelled s.io.nine.irq false).if_
  low = saved_events at (irq_levelled s.io.nine.irq false) units.irq_of_nine

  scan_due_from : at ≤ scan_due s.io.video.scan
  scan_due_from = subst (λ (scan : ScanState). at ≤ scan_due scan) (sym (scan_again at s.io.video m.video)) (scans_follow.due at).0

  keys_from_at : IsDueFrom at (keys_due s.keys)
  keys_from_at = subst (λ (keys : List KeyLine). IsDueFrom at (keys_due keys)) (sym m.keys) (script_due at around.keys)

  none_earlier_due : IsOver (dues_of s) at
  unfolding dues_of
  none_earlier_due =
      let answers = answered asks at s.io.gx m.gx in
      let nine = timers_from at s.io.nine.timers units.timers_of_nine in
      let seven = timers_from at s.io.seven.timers units.timers_of_seven in
      let of_nine = nine_channel at s.io.gx s.io.nine.dma s.io.released m.released in
      let of_seven = seven_channel (late_runs_by (is_late at (saved_processors s).seven)) at s.io.seven.dma seven_dma in
      over_from at (dues_of s) (keys_from_at ⨾ scan_due_from ⨾ nine.0 ⨾ nine.1 ⨾ nine.2 ⨾ nine.3 ⨾ seven.0 ⨾ seven.1 ⨾ seven.2 ⨾ seven.3
      ⨾ divider_from at s.io.divider units.divider ⨾ root_from at s.io.root units.root ⨾ gx_from (holds_by asks) at s.io.gx m.gx
      ⨾ card_from around.file at s.io.card m.card ⨾ of_nine 0 ⨾ of_nine 1 ⨾ of_nine 2 ⨾ of_nine 3 ⨾ of_seven 0 ⨾ of_seven 1 ⨾ of_seven 2
      ⨾ of_seven 3 ⨾ own_from_nine s.io.nine.halted (any_runs s.io.nine.dma.channels) (is_stalled s.io.gx) at s.nine.processor.due answers.late
      ⨾ own_from s.io.seven.halted (any_runs s.io.seven.dma.channels) at s.seven.processor.due
      (late_runs (is_late at (saved_processors s).seven) at s.io.seven.dma seven_dma)
      ⨾ tt)

  -- ---- nobody is to wake, and the units are settled

  asleep : AreAsleep s
  asleep Nine =
      let answers = answered asks at s.io.gx m.gx in
      subst (λ (i : IrqState). (s.io.nine.halted && shares_bit i) ≡ false) (sym m.irq)
      (nine_asleep s.io.nine.halted (gx_level s.io.gx) (irq_levelled s.io.nine.irq false) low answers.wakes answers.hears)
  asleep Seven = seven_asleep s.io.seven.halted at s.io.seven.irq units.irq_of_seven

  told : (irq_levelled s.io.nine.irq (gx_level s.io.gx)).if_ ≡ s.io.nine.irq.if_
  told = subst (λ (i : IrqState). (irq_levelled i (gx_level s.io.gx)).if_ ≡ i.if_) (sym m.irq)
      (levelled_twice (irq_levelled s.io.nine.irq false) (gx_level s.io.gx))

  kept : release_of s.io ≡ s.io.released
  kept =
      subst (λ (n : ℕ). release_by (is_stalled s.io.gx) (dma_due s.io.nine.dma) n ≡ n) (sym m.released)
      (release_again (is_stalled s.io.gx) at (dma_due s.io.nine.dma))

  are_settled : is_settled s.io ≡ true
  are_settled =
      let answers = answered asks at s.io.gx m.gx in
      both_true _ _ (is_equal _ _ told) (both_true _ _ (not_awaiting (is_half_empty s.io.gx) (awaits_geometry s.io.nine.dma) answers.waits)
      (is_equal _ _ kept))

  goes_on : HasSoundParts s → around.nine + around.seven + around.events ≤ 24 * at → IsRunning at s
  goes_on parts few =
      let nine = m.nine in let seven = m.seven in let events = m.events in
      let counts : counts_of s ≤ 24 * at = omega (arith, few, nine, seven, events) in
      starts_running at s (record { parts = parts; asleep = asleep; settled = are_settled }) none_earlier_due counts (gx_run (holds_by asks) at s.io.gx m.gx)

pub saved_running : (around : Around) (at : ℕ) (s : MachineState) → StandsFor (machine_parts around at) at s → HasSoundParts s
    → around.nine + around.seven + around.events ≤ 24 * at → IsRunning at s
saved_running around at s stands parts few = goes_on around at s (machine_stands around at s stands) parts few

-- ---- the status registers have only bits that are kept

all_five : (P : ℕ → Type 0) (a b c d e : ℕ) → P a → P b → P c → P d → P e → All P (a ∷ b ∷ c ∷ d ∷ e ∷ [])
all_five P a b c d e pa pb pc pd pe zero other lt = pa
all_five P a b c d e pa pb pc pd pe (suc zero) other lt = pb
all_five P a b c d e pa pb pc pd pe (suc (suc zero)) other lt = pc
all_five P a b c d e pa pb pc pd pe (suc (suc (suc zero))) other lt = pd
all_five P a b c d e pa pb pc pd pe (suc (suc (suc (suc zero)))) other lt = pe
all_five P a b c d e pa pb pc pd pe (suc (suc (suc (suc (suc n))))) other lt = absurd (omega (arith, lt))

registers_have : (arch : Arch) (at : ℕ) (r : RegisterState) → StandsFor (registers_format arch) at r → HasStatuses arch r
unfolding registers_format
registers_have arch at r stands = record {
  cpsr = equal _ _ stands.0.2.2.1;
  saved = subst (λ (xs : List ℕ). All (IsStatus arch) xs) (ap (λ (x : RegisterState). x.saved) stands.1)
      (all_five (IsStatus arch) _ _ _ _ _ (equal _ _ stands.0.2.2.2.1) (equal _ _ stands.0.2.2.2.2.1) (equal _ _ stands.0.2.2.2.2.2.1)
      (equal _ _ stands.0.2.2.2.2.2.2.1)
      (equal _ _ stands.0.2.2.2.2.2.2.2.1));
}

processor_has : (arch : Arch) (at : ℕ) (p : SavedProcessor) → StandsFor (processor_format arch) at p → HasStatuses arch p.registers
unfolding processor_format
processor_has arch at p stands = registers_have arch at p.registers stands.0.0

small_or : (a b : ℕ) → a < 2 ^ 31 → b < 2 ^ 31 → bit_or a b < 2 ^ 32
small_or a b h k = let e = or_add_and a b in omega (arith, e, h, k)

small_and : (a m : ℕ) → m < 2 ^ 31 → bit_and a m < 2 ^ 31
small_and a m h = let le = and_le_r a m in omega (arith, le, h)

pub record AreWords (c : Cp15State) : Type 0 where
  pub control : c.control < 2 ^ 32
  pub dtcm : c.dtcm < 2 ^ 32
  pub itcm : c.itcm < 2 ^ 32

cp15_words : (at : ℕ) (c : Cp15State) → StandsFor cp15_format at c → AreWords c
unfolding cp15_format
cp15_words at c stands = record {
  control = subst (λ (n : ℕ). n < 2 ^ 32) (ap (λ (x : Cp15State). x.control) stands.1)
      (small_or (bit_and c.control control_mask) control_ones (small_and c.control control_mask (omega arith)) (omega arith));
  dtcm = stands.0.2.0;
  itcm = stands.0.2.2.0;
}

processors_have : (at : ℕ) (p : SavedProcessors) → StandsFor processors_format at p
    → HasNineStatuses p.nine.registers p.cp15 × HasStatuses V4 p.seven.registers
unfolding processors_format
processors_have at p stands =
    let words = cp15_words at p.cp15 stands.0.1.1.0 in (
      record { processor = processor_has V5 at p.nine stands.0.0; control = words.control; dtcm = words.dtcm; itcm = words.itcm },
      processor_has V4 at p.seven stands.0.1.0,
    )

pub saved_statuses : (around : Around) (at : ℕ) (s : MachineState) → StandsFor (machine_parts around at) at s → HasBothStatuses s
saved_statuses around at s stands =
    let have = processors_have at (saved_processors s) (machine_stands around at s stands).processors in record { nine = have.0; seven = have.1 }

-- ---- what is read

pub read_running : (file : List ℕ) (keys : List KeyLine) (nine seven events at : ℕ) (l : Left) (s : MachineState) (left : Left) → AreBytes l.bytes
    → read_format (machine_format file keys nine seven events at) at l ≡ Ok (with_file file s, left) → HasSoundParts s
    → nine + seven + events ≤ 24 * at → IsRunning at (with_file file s)
read_running file keys nine seven events at l s left are h parts few =
    let around : Around = record { file = file; keys = keys; nine = nine; seven = seven; events = events } in
    saved_running around at (with_file file s) (read_stands around at l (with_file file s) left are
    (sym (machine_reads file keys nine seven events at l) ∙ h)) (record { io = parts.io; keys = parts.keys }) few

pub read_statuses : (file : List ℕ) (keys : List KeyLine) (nine seven events at : ℕ) (l : Left) (s : MachineState) (left : Left) → AreBytes l.bytes
    → read_format (machine_format file keys nine seven events at) at l ≡ Ok (with_file file s, left) → HasBothStatuses s
read_statuses file keys nine seven events at l s left are h =
    let around : Around = record { file = file; keys = keys; nine = nine; seven = seven; events = events } in
    let has = saved_statuses around at (with_file file s) (read_stands around at l (with_file file s) left are
    (sym (machine_reads file keys nine seven events at l) ∙ h)) in
    record { nine = has.nine; seven = has.seven }
