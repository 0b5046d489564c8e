use Rattle.ds_machine.proofs.Words.{AreKeyLines, AreWaiting, HasSoundParts, IoState, IsAccepted, IsChannel, IsDma, IsIo, IsProcessorIo, KeyLine, List}
use Rattle.ds_machine.proofs.Words.{MachineState, Nine, Proc, Seven, arith, channel_at, channel_at_boot, dma_at_boot, drop, header_bytes}
use Rattle.ds_machine.proofs.Words.{header_place, image_of, image_place, io_at_boot, length, machine_blank, machine_booted, min, processor_io_at_boot}
use Rattle.ds_machine.proofs.Words.{refl, subst, suc, sym, take, timer_at, timers_at_boot, true≢false, with_image, zero, ℕ, ◌+◌, ◌<◌, ◌∙◌, ◌≡◌, ◌≤◌}
use Rattle.std.specs.Int.Bits.{and_zero_l}
use Rattle.std.proofs.lemmas.List.{length-take}
use Rattle.ds_dma.specs.Controls.{channel_control_mask, kept_channel_control}
use Rattle.ds_header.specs.Fields.{image_length, image_offset}
use Rattle.ds_header.proofs.Accepted.{image_goes}
use Rattle.ds_timers.specs.Timing.{AreTimers, IsTimer}
use Rattle.gx_fifo.specs.GxStates.{gx_at_boot}
use Rattle.gx_matrix.specs.CommandTable.{command_of}
use Rattle.ds_machine.proofs.Booting.{copied_io, image_lies}

-- The parts of a machine at boot are sound.

keeps_none : (proc : Proc) (which : ℕ) → kept_channel_control proc which 0 ≡ 0
keeps_none proc which = and_zero_l (channel_control_mask proc which)

timer_booted : (which : ℕ) → which < 4 → IsTimer which (timer_at timers_at_boot which)
timer_booted zero l = record { control = refl; reload = omega arith; count = omega arith; anchored = refl }
timer_booted (suc zero) l = record { control = refl; reload = omega arith; count = omega arith; anchored = refl }
timer_booted (suc (suc zero)) l = record { control = refl; reload = omega arith; count = omega arith; anchored = refl }
timer_booted (suc (suc (suc zero))) l = record { control = refl; reload = omega arith; count = omega arith; anchored = refl }
timer_booted (suc (suc (suc (suc n)))) l = absurd (omega (arith, l))

channel_booted : (proc : Proc) (which : ℕ) → kept_channel_control proc which 0 ≡ 0 → IsChannel proc which channel_at_boot
channel_booted proc which none = record {
  sad = omega arith;
  dad = omega arith;
  cnt = none;
  from = omega arith;
  to = omega arith;
  remaining = omega arith;
  some = λ e. absurd (true≢false (sym e));
  burst = omega arith;
  within = omega arith;
  waits = λ e. refl;
  none = λ e. (refl, refl, refl, refl);
}

channels_booted : (proc : Proc) (which : ℕ) → which < 4 → IsChannel proc which (channel_at (dma_at_boot proc).channels which)
channels_booted proc zero l = channel_booted proc 0 (keeps_none proc 0)
channels_booted proc (suc zero) l = channel_booted proc 1 (keeps_none proc 1)
channels_booted proc (suc (suc zero)) l = channel_booted proc 2 (keeps_none proc 2)
channels_booted proc (suc (suc (suc zero))) l = channel_booted proc 3 (keeps_none proc 3)
channels_booted proc (suc (suc (suc (suc n)))) l = absurd (omega (arith, l))

own_booted : (proc : Proc) → IsProcessorIo (processor_io_at_boot proc)
own_booted proc = record {
  timers = record { four = refl; each = timer_booted };
  dma = record { four = refl; each = channels_booted proc; last = tt };
}

units_booted : IsIo io_at_boot
unfolding command_of
units_booted = record {
  nine = own_booted Nine;
  seven = own_booted Seven;
  gx = record { entries = omega arith; packed = omega arith; given = refl; due = refl };
}

short_front : (count : ℕ) (xs : List ℕ) → length (take count xs) ≤ count
short_front count xs = (let e = length-take count xs in omega (arith, e))

copied_image : (proc : Proc) (s : MachineState) (file : List ℕ) → IsAccepted file → (with_image proc s file).io ≡ s.io
copied_image proc s file h =
    let lies = image_lies proc (image_place file proc) (image_length file proc) (image_goes file proc h) in
    let low = lies.0 in
    let high = lies.1 in
    let short : length (image_of file proc) ≤ image_length file proc = short_front (image_length file proc) (drop (image_offset file proc) file) in
    copied_io proc s (image_place file proc) (image_of file proc) low (omega (arith, high, short))

booted_units : (file : List ℕ) (lines : List KeyLine) → IsAccepted file → (machine_booted file lines).io ≡ io_at_boot
booted_units file lines h =
    let nine = with_image Nine (machine_blank file lines) file in
    let short = short_front header_bytes file in
    copied_io Nine (with_image Seven nine file) header_place (take header_bytes file) (omega arith) (omega (arith, short))
    ∙ copied_image Seven nine file h
    ∙ copied_image Nine (machine_blank file lines) file h

-- of an accepted cartridge, with lines that rise
pub booted_parts : (file : List ℕ) (lines : List KeyLine) → IsAccepted file → AreKeyLines lines → (machine_booted file lines).keys ≡ lines
    → HasSoundParts (machine_booted file lines)
booted_parts file lines h rise keys = record {
  io = subst IsIo (sym (booted_units file lines h)) units_booted;
  keys = subst AreKeyLines (sym keys) rise;
}
