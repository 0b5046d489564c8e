use Rattle.ds_machine.proofs.Words.{Arch, Around, Bool, IrqState, IsExact, Nine, SavedUnits, Seven, StandsFor, V4, V5, ap, asked_of, bit_not}
use Rattle.ds_machine.proofs.Words.{card_exact, channels_format, cp15_format, dma_exact, equal, events, false, gx_level, holds_by, irq_format}
use Rattle.ds_machine.proofs.Words.{irq_format_by, irq_levelled, is_late, late_runs_by, level, machine_parts, memories_format, processor_format}
use Rattle.ds_machine.proofs.Words.{processors_format, refl, registers_format, rules, sleeps_by, true, units_format, w32, word_format, ℕ, ◌∙◌, ◌≡◌}
use Rattle.std.proofs.lemmas.Nat.{and_or_apart}
use Rattle.cp15_tcm.proofs.Kept.{control_again}
use Rattle.ds_ipc.proofs.SavedLaws.{ipc_exact}
use Rattle.ds_math.proofs.SavedLaws.{divider_exact, root_exact}
use Rattle.ds_timers.proofs.SavedLaws.{irq_exact, timers_exact}
use Rattle.gx_fifo.proofs.SavedLaws.{gx_exact}
use Rattle.video2d.proofs.SavedLaws.{video_exact}
use Rattle.vram_banks.specs.Saved.{banks_format}

-- The machine's format is exact.

word_exact : (at : ℕ) → IsExact word_format at
word_exact at = λ w _ _. (refl, tt)

registers_exact : (arch : Arch) (at : ℕ) → IsExact (registers_format arch) at
unfolding registers_format
registers_exact arch at =
    (word_exact at, λ general long _ pc _ _ cpsr _ _ fiq _ _ supervisor _ _ abort _ _ irq _ _ undefined _ _. search rules)

cp15_exact : (at : ℕ) → IsExact cp15_format at
unfolding cp15_format
cp15_exact at = λ control _ rule dtcm _ _ itcm _ _. (refl, (refl, (control_again control (equal _ _ rule), tt)))

banks_exact : (at : ℕ) → IsExact banks_format at
unfolding banks_format
banks_exact at = λ bytes _ _ a _ _ b _ _ c _ _ d _ _ e _ _ f _ _ g _ _ h _ _ i _ _. search rules

processor_exact : (arch : Arch) (at : ℕ) → IsExact (processor_format arch) at
unfolding processor_format
processor_exact arch at = (registers_exact arch at, λ registers _ halted _ _ due _ _. search rules)

pub processors_exact : (at : ℕ) → IsExact processors_format at
unfolding processors_format
processors_exact at = (processor_exact V5 at, λ nine _. (processor_exact V4 at, λ seven _. (cp15_exact at, λ cp15 _. search rules)))

pub memories_exact : (at : ℕ) → IsExact memories_format at
unfolding memories_format
memories_exact at = λ main _ _ shared _ _ wram _ _ itcm _ _ dtcm _ _ palette _ _. (banks_exact at, λ vram _ oam _ _. search rules)

pub units_exact : (halted : Bool) (at : ℕ) → IsExact (units_format halted) at
unfolding units_format
units_exact halted at = λ wramcnt _ _. (
  irq_exact Nine (λ ie flags. true) at,
  λ irq_of_nine _. (
    irq_exact Seven (sleeps_by halted) at,
    λ irq_of_seven _. (
      timers_exact at,
      λ timers_of_nine _. (
        timers_exact at,
        λ timers_of_seven _. (
          divider_exact at,
          λ divider _. (
            root_exact at,
            λ root _. (ipc_exact at, λ ipc _ pressed _ _ keycnt_of_nine _ _ keycnt_of_seven _ _. search rules),
          ),
        ),
      ),
    ),
  ),
)

pub channels_exact : (late : Bool) (at : ℕ) → IsExact (channels_format late) at
unfolding channels_format
channels_exact late at =
    (dma_exact Nine (λ runs. true) at, λ nine _. (dma_exact Seven (late_runs_by late) at, λ seven _. (word_exact at, λ fill _ _. search rules)))

-- ARM9's interrupt words without the FIFO's bit, which is made anew

pub events_levelled : (i : IrqState) (on : Bool) → events i.if_ ≡ i.if_ → events (irq_levelled i on).if_ ≡ i.if_
events_levelled i true low = and_or_apart (bit_not w32 level) i.if_ level refl ∙ low
events_levelled i false low = ap (λ (n : ℕ). events n) low ∙ low

levelled_again : (i : IrqState) (on : Bool) → events i.if_ ≡ i.if_ → irq_levelled (irq_levelled i on) false ≡ i
levelled_again i on low =
    ap (λ (n : ℕ). (let again : IrqState = record { ime = i.ime; ie = i.ie; if_ = n } in again)) (events_levelled i on low)

pub saved_events : (at : ℕ) (i : IrqState) → StandsFor (irq_format Nine) at i → events i.if_ ≡ i.if_
unfolding irq_format_by
saved_events at i stands = ap (λ (j : IrqState). j.if_) stands.1

units_events : (halted : Bool) (at : ℕ) (u : SavedUnits) → StandsFor (units_format halted) at u → events u.irq_of_nine.if_ ≡ u.irq_of_nine.if_
unfolding units_format
units_events halted at u stands = saved_events at u.irq_of_nine stands.0.2.0

units_again : (u : SavedUnits) {i : IrqState} → i ≡ u.irq_of_nine → record u { irq_of_nine = i } ≡ u
units_again u again = ap (λ (j : IrqState). record u { irq_of_nine = j }) again

pub machine_exact : (around : Around) (at : ℕ) → IsExact (machine_parts around at) at
unfolding machine_parts
machine_exact around at = (
  processors_exact at,
  λ processors _. (
    memories_exact at,
    λ memories _. (
      units_exact processors.seven.halted at,
      λ units stands. (
        channels_exact (is_late at processors.seven) at,
        λ channels _. (
          video_exact at,
          λ video _. (
            gx_exact (holds_by (asked_of at processors.nine units.irq_of_nine channels.nine)) at,
            λ gx _. (
              card_exact around.file at,
              λ card _.
                  let again = levelled_again units.irq_of_nine (gx_level gx) (units_events processors.seven.halted at units stands) in
                  (refl, (refl, (refl, (refl, (units_again units again, (refl, (refl, tt))))))),
            ),
          ),
        ),
      ),
    ),
  ),
)
