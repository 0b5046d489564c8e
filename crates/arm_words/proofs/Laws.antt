use Rattle.std.proofs.Common.{ℕ, false, ◌≡◌, inl, inr, ◌<◌, ◌/◌, ◌^◌, ◌==◌, refl, sym, ◌∙◌, ap, arith, Option, Some, None, IfSome}
use Rattle.ds_base.specs.declared.processors.Arch.{Arch}
use Rattle.ds_base.proofs.Choices.{true_or_false, if_true, if_false}
use Rattle.arm_words.specs.Rows.{first, or_else}
use Rattle.arm_words.specs.ArmTable.{branch_rows, half_multiply_rows, half_product_rows, multiply_rows, half_transfer_rows, status_register_rows, immediate_status_rows, data_rows, double_rows, transfer_rows, multiple_rows, coprocessor_rows, unconditional_rows, conditional_arm, decoded_arm}
use Rattle.arm_words.specs.ThumbTable.{thumb_sum_rows, thumb_register_rows, thumb_literal_rows, thumb_offset_rows, thumb_stack_rows, thumb_multiple_rows, thumb_branch_rows, decoded_thumb}
use Rattle.arm_words.specs.Fields.{HasFields}
use Rattle.arm_words.specs.Spellings.{spelled, decoded, IsInRange, Has, IsInstruction}
use Rattle.arm_words.specs.declared.instructions.Instr.{Instr}
use Rattle.arm_words.specs.declared.spellings.Spelling.{Spelling}
use Rattle.arm_words.specs.declared.spellings.Spelling.TheVariants.{Word, Half}
use Rattle.arm_words.proofs.Stages.{Stage, ExactStage, sound_stage, sound_quiet, exact_stage, then_stage, then_exact, exact_then}
use Rattle.arm_words.proofs.Digits.{arm, arm_even, unconditional, NearEven}
use Rattle.arm_words.proofs.Halves.{thumb, NearHalf}
use Rattle.arm_words.proofs.ArmBranches.{branch_sound}
use Rattle.arm_words.proofs.ArmMultiplies.{half_multiply_sound, half_product_sound, multiply_sound, half_transfer_sound}
use Rattle.arm_words.proofs.ArmData.{status_sound, immediate_status_sound, data_sound}
use Rattle.arm_words.proofs.ArmDouble.{double_sound}
use Rattle.arm_words.proofs.ArmTransfers.{transfer_exact, multiple_exact, coprocessor_exact, unconditional_exact}
use Rattle.arm_words.proofs.ThumbLaws.{thumb_sum_sound, thumb_register_sound, thumb_literal_exact, thumb_offset_exact, thumb_stack_exact, thumb_multiple_exact, thumb_branch_exact}

itself_even : (w : ℕ) → NearEven w w
itself_even w = record { high = refl; low = refl; even = refl }

itself_half : (h : ℕ) → NearHalf h h
itself_half h = record { high = refl }

-- the rows from those of two words on
late : Stage arm_even (λ arch w. or_else (first double_rows arch w) (or_else (first transfer_rows arch w) (or_else (first multiple_rows arch w) (first coprocessor_rows arch w))))
late =
    then_exact arm_even itself_even (first double_rows) _ (sound_stage arm_even double_rows double_sound)
    (λ arch w h i e.
    let a = exact_then arm (first transfer_rows) _ (exact_stage arm transfer_rows transfer_exact)
    (exact_then arm (first multiple_rows) (first coprocessor_rows) (exact_stage arm multiple_rows multiple_exact) (exact_stage arm coprocessor_rows coprocessor_exact)) arch w h i e in
    record { spelling = a.spelling; fields = a.fields })

late_arm : Stage arm (λ arch w. or_else (first double_rows arch w) (or_else (first transfer_rows arch w) (or_else (first multiple_rows arch w) (first coprocessor_rows arch w))))
late_arm arch w h i e =
    let a = late arch w h i e in
    record { again = a.again; spelling = a.spelling; near = record { high = a.near.high; low = a.near.low }; found = a.found; fields = a.fields }

conditional_stage : Stage arm conditional_arm
conditional_stage =
    (then_stage arm (first branch_rows) _ (sound_stage arm branch_rows branch_sound) (sound_quiet arm branch_rows branch_sound)
    (then_stage arm (first half_multiply_rows) _ (sound_stage arm half_multiply_rows half_multiply_sound) (sound_quiet arm half_multiply_rows half_multiply_sound)
    (then_stage arm (first half_product_rows) _ (sound_stage arm half_product_rows half_product_sound) (sound_quiet arm half_product_rows half_product_sound)
    (then_stage arm (first multiply_rows) _ (sound_stage arm multiply_rows multiply_sound) (sound_quiet arm multiply_rows multiply_sound)
    (then_stage arm (first half_transfer_rows) _ (sound_stage arm half_transfer_rows half_transfer_sound) (sound_quiet arm half_transfer_rows half_transfer_sound)
    (then_stage arm (first status_register_rows) _ (sound_stage arm status_register_rows status_sound) (sound_quiet arm status_register_rows status_sound)
    (then_stage arm (first immediate_status_rows) _ (sound_stage arm immediate_status_rows immediate_status_sound) (sound_quiet arm immediate_status_rows immediate_status_sound)
    (then_stage arm (first data_rows) _ (sound_stage arm data_rows data_sound) (sound_quiet arm data_rows data_sound)
    late_arm))))))))

thumb_late : ExactStage thumb (λ arch h. or_else (first thumb_literal_rows arch h) (or_else (first thumb_offset_rows arch h) (or_else (first thumb_stack_rows arch h) (or_else (first thumb_multiple_rows arch h) (first thumb_branch_rows arch h)))))
thumb_late =
    exact_then thumb (first thumb_literal_rows) _ (exact_stage thumb thumb_literal_rows thumb_literal_exact)
    (exact_then thumb (first thumb_offset_rows) _ (exact_stage thumb thumb_offset_rows thumb_offset_exact)
    (exact_then thumb (first thumb_stack_rows) _ (exact_stage thumb thumb_stack_rows thumb_stack_exact)
    (exact_then thumb (first thumb_multiple_rows) (first thumb_branch_rows) (exact_stage thumb thumb_multiple_rows thumb_multiple_exact)
    (exact_stage thumb thumb_branch_rows thumb_branch_exact))))

pub thumb_stage : Stage thumb decoded_thumb
thumb_stage =
    then_stage thumb (first thumb_sum_rows) _ (sound_stage thumb thumb_sum_rows thumb_sum_sound) (sound_quiet thumb thumb_sum_rows thumb_sum_sound)
    (then_exact thumb itself_half (first thumb_register_rows) _ (sound_stage thumb thumb_register_rows thumb_register_sound) thumb_late)

-- what stands of an instruction that some word or half decodes to
pub record Law (arch : Arch) (i : Instr) : Type 0 where
  pub again : decoded arch (spelled i) ≡ Some i
  pub fields : HasFields i

below_fifteen : (n : ℕ) → n < 16 → (n == 15) ≡ false → n < 15
below_fifteen n h e = grind arith

decoded_is : (arch : Arch) (i : Instr) (s : Spelling) → spelled i ≡ s → decoded arch s ≡ Some i → decoded arch (spelled i) ≡ Some i
decoded_is arch i s e d = ap (λ (x : Spelling). decoded arch x) e ∙ d

word_law : (arch : Arch) (w : ℕ) → w < 2 ^ 32 → (i : Instr) → decoded_arm arch w ≡ Some i → Law arch i
word_law arch w h i e =
    elim (true_or_false (w / 2 ^ 28 == 15)) [
      | inl none ↦
          let a = exact_stage unconditional unconditional_rows unconditional_exact arch w h i
          (sym (if_true (w / 2 ^ 28 == 15) (first unconditional_rows arch w) (conditional_arm arch w) none) ∙ e) in
          record { again = decoded_is arch i (Word w) a.spelling e; fields = a.fields }
      | inr some ↦
          let top : w / 2 ^ 28 < 15 = below_fifteen (w / 2 ^ 28) (omega arith) some in
          let a = conditional_stage arch w top i
          (sym (if_false (w / 2 ^ 28 == 15) (first unconditional_rows arch w) (conditional_arm arch w) some) ∙ e) in
          let high : a.again / 2 ^ 20 ≡ w / 2 ^ 20 = a.near.high in
          let same : a.again / 2 ^ 28 ≡ w / 2 ^ 28 = omega (arith, high) in
          let again : (a.again / 2 ^ 28 == 15) ≡ false = ap (λ (n : ℕ). n == 15) same ∙ some in
          record {
            again = decoded_is arch i (Word a.again) a.spelling
                (if_false (a.again / 2 ^ 28 == 15) (first unconditional_rows arch a.again) (conditional_arm arch a.again) again ∙ a.found);
            fields = a.fields;
          }
    ]

half_law : (arch : Arch) (h : ℕ) → h < 2 ^ 16 → (i : Instr) → decoded_thumb arch h ≡ Some i → Law arch i
half_law arch h r i e =
    let a = thumb_stage arch h r i e in
    record { again = decoded_is arch i (Half a.again) a.spelling a.found; fields = a.fields }

law : (arch : Arch) (i : Instr) (s : Spelling) → IsInRange s → decoded arch s ≡ Some i → Law arch i
law arch i (Word w) r e = word_law arch w r i e
law arch i (Half h) r e = half_law arch h r i e

-- decoding the spelling gives the instruction again
pub spelling_again : (i : Instr) (arch : Arch) → Has arch i → decoded arch (spelled i) ≡ Some i
spelling_again i arch has = (law arch i has.0 has.1 has.2).again

-- its fields are in their ranges
pub instruction_fields : (i : Instr) → IsInstruction i → HasFields i
instruction_fields i is = (law is.0 i is.1.0 is.1.1 is.1.2).fields

some_fields : (arch : Arch) (s : Spelling) → IsInRange s → (o : Option Instr) → decoded arch s ≡ o → IfSome o (λ i. HasFields i)
some_fields arch s r None e = tt
some_fields arch s r (Some i) e = (law arch i s r e).fields

some_instruction : (arch : Arch) (s : Spelling) → IsInRange s → (o : Option Instr) → decoded arch s ≡ o → IfSome o (λ i. IsInstruction i)
some_instruction arch s r None e = tt
some_instruction arch s r (Some i) e = (arch, (s, r, e))

pub decoded_arm_instruction : (arch : Arch) (w : ℕ) → w < 2 ^ 32 → IfSome (decoded_arm arch w) (λ i. IsInstruction i)
decoded_arm_instruction arch w h = some_instruction arch (Word w) h (decoded_arm arch w) refl

pub decoded_thumb_instruction : (arch : Arch) (h : ℕ) → h < 2 ^ 16 → IfSome (decoded_thumb arch h) (λ i. IsInstruction i)
decoded_thumb_instruction arch h r = some_instruction arch (Half h) r (decoded_thumb arch h) refl

pub decoded_arm_fields : (arch : Arch) (w : ℕ) → w < 2 ^ 32 → IfSome (decoded_arm arch w) (λ i. HasFields i)
decoded_arm_fields arch w h = some_fields arch (Word w) h (decoded_arm arch w) refl

pub decoded_thumb_fields : (arch : Arch) (h : ℕ) → h < 2 ^ 16 → IfSome (decoded_thumb arch h) (λ i. HasFields i)
decoded_thumb_fields arch h r = some_fields arch (Half h) r (decoded_thumb arch h) refl
