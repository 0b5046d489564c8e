use Rattle.ds_machine.proofs.Words.{Bool, Cp15, Dma, DueNine, DueSeven, Fences, List, MachineState, Nine, OwnRam, PartSet, Processor, RegistersNine}
use Rattle.ds_machine.proofs.Words.{RegistersSeven, Seven, SevenState, StepsNine, StepsSeven, Video, [], ap, false, left_by, machine_graft, refl}
use Rattle.ds_machine.proofs.Words.{step_by, step_with, sym, true, true≢false, untouched_by, with_seven_part, ℕ, ◌∷◌, ◌≡◌, ◌≢◌}
use Rattle.ds_base.specs.Deeds.{pick}
use Rattle.ds_runs.specs.declared.actors.Actor as actor
use Rattle.ds_machine.specs.Touched.{Dtcm, Itcm, MachinePart}
use Rattle.ds_machine.proofs.Touched.{comes_to_same, each_touches}

-- What follows from the table of a processor's own part: an actor whose rows have none of it neither changes it nor depends on it.

abbrev pub AreIn : PartSet → List MachinePart → Type 0
AreIn P [] = Unit {0}
AreIn P (part ∷ rest) = (P.rest part ≡ true) × AreIn P rest

pub picked : {A : Type 0} (b : Bool) (x y : A) → b ≡ true → pick b x y ≡ x
picked true x y h = refl
picked false x y h = absurd (true≢false (sym h))

abbrev pub parts_of_seven : List MachinePart
parts_of_seven = RegistersSeven ∷ DueSeven ∷ StepsSeven ∷ OwnRam ∷ []

abbrev pub parts_of_nine : List MachinePart
parts_of_nine = RegistersNine ∷ DueNine ∷ StepsNine ∷ Cp15 ∷ Itcm ∷ Dtcm ∷ []

module _ (rank : ℕ) (a : actor.Actor) (s : MachineState) where
  abbrev P : PartSet
  P = untouched_by a s

  -- ARM7's
  pub leave_seven : (own : SevenState) → AreIn P parts_of_seven → step_by rank a (with_seven_part own s) ≡ step_with (with_seven_part own) (step_by rank a s)
  leave_seven own h = comes_to_same rank a s (with_seven_part own) (record { shared = refl; vram = refl }) goes where
    goes : (left : MachineState) → machine_graft P (with_seven_part own s) left ≡ with_seven_part own (machine_graft P s left)
    goes left = λ i. record (machine_graft P (with_seven_part own s) left) {
      seven = record {
        processor = record {
          registers = picked (P.rest RegistersSeven) own.processor.registers left.seven.processor.registers h.0 i;
          due = picked (P.rest DueSeven) own.processor.due left.seven.processor.due h.1.0 i;
          steps = picked (P.rest StepsSeven) own.processor.steps left.seven.processor.steps h.1.1.0 i;
        };
        wram = picked (P.rest OwnRam) own.wram left.seven.wram h.1.1.1.0 i;
      };
    }

  -- ARM9's, without palettes and OAM, which the display uses
  nine_goes : (own left : MachineState) → AreIn P parts_of_nine → (machine_graft P own left).nine ≡ own.nine
  nine_goes own left h = λ i. record {
    processor = record {
      registers = picked (P.rest RegistersNine) own.nine.processor.registers left.nine.processor.registers h.0 i;
      due = picked (P.rest DueNine) own.nine.processor.due left.nine.processor.due h.1.0 i;
      steps = picked (P.rest StepsNine) own.nine.processor.steps left.nine.processor.steps h.1.1.0 i;
    };
    cp15 = picked (P.rest Cp15) own.nine.cp15 left.nine.cp15 h.1.1.1.0 i;
    itcm = picked (P.rest Itcm) own.nine.itcm left.nine.itcm h.1.1.1.1.0 i;
    dtcm = picked (P.rest Dtcm) own.nine.dtcm left.nine.dtcm h.1.1.1.1.1.0 i;
  }

-- whoever is neither ARM7 nor in its fence has none of its part in its rows
pub none_of_seven : (a : actor.Actor) (s : MachineState) → a ≢ Processor Seven → (Fences a Seven s → ⊥) → AreIn (untouched_by a s) parts_of_seven
none_of_seven (Dma Seven channel) s other apart = absurd (apart refl)
none_of_seven (Processor Seven) s other apart = absurd (other refl)
none_of_seven (Dma Nine channel) s other apart = (refl, (refl, (refl, (refl, tt))))
none_of_seven (Processor Nine) s other apart = (refl, (refl, (refl, (refl, tt))))
none_of_seven _ s other apart = (refl, (refl, (refl, (refl, tt))))

pub display_leaves : (rank : ℕ) (s : MachineState)
    → (let left = left_by (step_by rank Video s) in (left.nine ≡ s.nine) × (left.palette ≡ s.palette) × (left.oam ≡ s.oam))
display_leaves rank s =
    let e = sym (each_touches rank Video s).leaves in
    (ap (λ (m : MachineState). m.nine) e, ap (λ (m : MachineState). m.palette) e, ap (λ (m : MachineState). m.oam) e)
