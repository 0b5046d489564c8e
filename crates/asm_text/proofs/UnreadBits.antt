-- The bits that decoding doesn't look at tell whether a word or half is the spelling of its instruction.
use Rattle.asm_text.proofs.Words.{ℕ, Bool, true, ◌≡◌, ◌<◌, ◌/◌, ◌^◌, List, [], ◌∷◌, inl, inr, false, bit_and, refl, sym, ◌∙◌, ap, subst, arith}
use Rattle.asm_text.proofs.Words.{Option, Some, None, Arch, both, equal, true_or_false, arm, unconditional, thumb, masked, under, Kind, branch_rows}
use Rattle.asm_text.proofs.Words.{half_multiply_rows, half_product_rows, multiply_rows, half_transfer_rows, status_register_rows}
use Rattle.asm_text.proofs.Words.{immediate_status_rows, data_rows, double_rows, transfer_rows, multiple_rows, coprocessor_rows, unconditional_rows}
use Rattle.asm_text.proofs.Words.{canonical, canonical_form, if_canonical, same_spelling, InstructionRow, IsInRange, spelled, thumb_sum_rows}
use Rattle.asm_text.proofs.Words.{thumb_register_rows, thumb_literal_rows, thumb_offset_rows, thumb_stack_rows, thumb_multiple_rows}
use Rattle.asm_text.proofs.Words.{thumb_branch_rows, Instr, Spelling, unread_of, listed, raw, spelling, stated, statement, Set, Arm, Thumb}
use Rattle.std.proofs.Common.{◌&&◌, ◌==◌, true≢false, if◌then◌else◌}
use Rattle.ds_base.proofs.Choices.{if_true, if_false}
use Rattle.arm_words.proofs.Facts.{some_is}
use Rattle.arm_words.specs.ArmTable.{conditional_arm, decoded_arm}
use Rattle.arm_words.specs.Rows.{agrees, first, or_else}
use Rattle.arm_words.specs.ThumbTable.{decoded_thumb}
use Rattle.asm_text.proofs.UnreadRows.{IsTold, AllKept}
use Rattle.asm_text.proofs.UnreadArm.{branch_kept, half_multiply_kept, half_product_kept, multiply_kept, half_transfer_kept, status_kept, immediate_status_kept, data_kept, double_kept, transfer_kept, multiple_kept, coprocessor_kept, unconditional_kept}
use Rattle.asm_text.proofs.UnreadThumb.{thumb_sum_kept, thumb_register_kept, thumb_literal_kept, thumb_offset_kept, thumb_stack_kept, thumb_multiple_kept, thumb_branch_kept}

-- ---- what a word or half stands for

first_keeps : (k : Kind) (rs : List InstructionRow) → AllKept k rs → (arch : Arch) (w : ℕ) → k.Fits w → (i : Instr) → first rs arch w ≡ Some i → IsTold k w i
first_keeps k [] s arch w h i e = absurd (cc)
first_keeps k (r ∷ rs) s arch w h i e =
    elim (true_or_false (agrees r arch w)) [
      | inl hit ↦
          let here : r.instr w ≡ i = some_is (r.instr w) i (sym (if_true (agrees r arch w) (Some (r.instr w)) (first rs arch w) hit) ∙ e) in
          let on = both (r.on arch) (r.only w && (bit_and w r.mask == r.value)) hit in
          let only = both (r.only w) (bit_and w r.mask == r.value) on.1 in
          let m : under w s.0.parts ≡ r.value = sym (masked w s.0.parts s.0.falls) ∙ ap (λ (x : ℕ). bit_and w x) s.0.is_mask ∙ equal (bit_and w r.mask) r.value only.1 in
          let P : Instr → Type 0 = λ x. IsTold k w x in
          subst P here (s.0.keeps w h m only.0).test
      | inr missed ↦ first_keeps k rs s.1 arch w h i (sym (if_false (agrees r arch w) (Some (r.instr w)) (first rs arch w) missed) ∙ e)
    ]

abbrev AllKeep : Kind → ℕ → Option Instr → Type 0
AllKeep k w o = (i : Instr) → o ≡ Some i → IsTold k w i

or_keeps : (k : Kind) (w : ℕ) (a b : Option Instr) → AllKeep k w a → AllKeep k w b → AllKeep k w (or_else a b)
or_keeps k w None b f g i e = g i e
or_keeps k w (Some j) b f g i e = f i e

conditional_keeps : (arch : Arch) (w : ℕ) → w / 2 ^ 28 < 15 → AllKeep arm w (conditional_arm arch w)
conditional_keeps arch w h =
    let each = λ (rs : List InstructionRow) (s : AllKept arm rs). first_keeps arm rs s arch w h in
    or_keeps arm w (first branch_rows arch w) _ (each branch_rows branch_kept)
    (or_keeps arm w (first half_multiply_rows arch w) _ (each half_multiply_rows half_multiply_kept)
    (or_keeps arm w (first half_product_rows arch w) _ (each half_product_rows half_product_kept)
    (or_keeps arm w (first multiply_rows arch w) _ (each multiply_rows multiply_kept)
    (or_keeps arm w (first half_transfer_rows arch w) _ (each half_transfer_rows half_transfer_kept)
    (or_keeps arm w (first status_register_rows arch w) _ (each status_register_rows status_kept)
    (or_keeps arm w (first immediate_status_rows arch w) _ (each immediate_status_rows immediate_status_kept)
    (or_keeps arm w (first data_rows arch w) _ (each data_rows data_kept)
    (or_keeps arm w (first double_rows arch w) _ (each double_rows double_kept)
    (or_keeps arm w (first transfer_rows arch w) _ (each transfer_rows transfer_kept)
    (or_keeps arm w (first multiple_rows arch w) _ (each multiple_rows multiple_kept) (each coprocessor_rows coprocessor_kept)))))))))))

word_keeps : (arch : Arch) (w : ℕ) → w < 2 ^ 32 → AllKeep arm w (decoded_arm arch w)
word_keeps arch w h i e =
    elim (true_or_false (w / 2 ^ 28 == 15)) [
      | inl none ↦
          first_keeps unconditional unconditional_rows unconditional_kept arch w h i
          (sym (if_true (w / 2 ^ 28 == 15) (first unconditional_rows arch w) (conditional_arm arch w) none) ∙ e)
      | inr some ↦
          (let below : w / 2 ^ 28 < 15 = below_fifteen (w / 2 ^ 28) (omega arith) some in
          conditional_keeps arch w below i (sym (if_false (w / 2 ^ 28 == 15) (first unconditional_rows arch w) (conditional_arm arch w) some) ∙ e))
    ] where
      below_fifteen : (n : ℕ) → n < 16 → (n == 15) ≡ false → n < 15
      below_fifteen n l o = grind arith

half_keeps : (arch : Arch) (w : ℕ) → w < 2 ^ 16 → AllKeep thumb w (decoded_thumb arch w)
half_keeps arch w h =
    let each = λ (rs : List InstructionRow) (s : AllKept thumb rs). first_keeps thumb rs s arch w h in
    or_keeps thumb w (first thumb_sum_rows arch w) _ (each thumb_sum_rows thumb_sum_kept)
    (or_keeps thumb w (first thumb_register_rows arch w) _ (each thumb_register_rows thumb_register_kept)
    (or_keeps thumb w (first thumb_literal_rows arch w) _ (each thumb_literal_rows thumb_literal_kept)
    (or_keeps thumb w (first thumb_offset_rows arch w) _ (each thumb_offset_rows thumb_offset_kept)
    (or_keeps thumb w (first thumb_stack_rows arch w) _ (each thumb_stack_rows thumb_stack_kept)
    (or_keeps thumb w (first thumb_multiple_rows arch w) _ (each thumb_multiple_rows thumb_multiple_kept) (each thumb_branch_rows thumb_branch_kept))))))

-- ---- so the line of a word or half is told by its spelling

-- the statement of the instruction for which a canonical spelling stands, or the number itself
abbrev pub spelled_line : ℕ → Spelling → Option Instr → List ℕ
spelled_line at s None = raw s
spelled_line at s (Some i) = statement at i

line_by : (at : ℕ) (s : Spelling) (i : Instr) (form same plain : Bool) → same ≡ plain
    → (if form && plain then statement at i else raw s) ≡ spelled_line at s (if form && same then Some i else None)
line_by at s i false same plain e = refl
line_by at s i true true true e = refl
line_by at s i true false false e = refl
line_by at s i true true false e = absurd (true≢false e)
line_by at s i true false true e = absurd (true≢false (sym e))

stated_is : (k : Kind) (at w : ℕ) (o : Option Instr) → AllKeep k w o → stated at w (k.make w) o ≡ spelled_line at (k.make w) (if_canonical (k.make w) o)
stated_is k at w None keeps = refl
stated_is k at w (Some i) keeps =
    line_by at (k.make w) i (canonical_form i) (same_spelling (spelled i) (k.make w)) (bit_and w (unread_of i).bits == (unread_of i).ones) (keeps i refl)

pub listed_is : (arch : Arch) (set : Set) (at w : ℕ) → IsInRange (spelling set w) → listed arch set at w ≡ spelled_line at (spelling set w) (canonical arch (spelling set w))
listed_is arch Arm at w h = stated_is arm at w (decoded_arm arch w) (word_keeps arch w h)
listed_is arch Thumb at w h = stated_is thumb at w (decoded_thumb arch w) (half_keeps arch w h)
