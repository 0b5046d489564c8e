use Rattle.std.proofs.Common.{ℕ, List, [], ◌∷◌, Bool, true, false, ◌&&◌, not, ◌≡◌, ◌≢◌, ◌⊎◌, inl, inr, ◌<◌, ◌*◌, ◌/◌, ◌^◌, ◌==◌, bit_and, refl, sym, ◌∙◌, ap, arith, Option, Some, None}
use Rattle.std.proofs.lemmas.Nat.{and_assoc}
use Rattle.ds_base.specs.declared.processors.Arch.{Arch}
use Rattle.ds_base.proofs.Choices.{both, true_or_false, if_false, equal, is_equal}
use Rattle.arm_words.specs.Rows.{InstructionRow, agrees, first, or_else}
use Rattle.arm_words.specs.ArmTable.{branch_rows, half_multiply_rows, half_product_rows, multiply_rows, half_transfer_rows, status_register_rows, immediate_status_rows, data_rows, double_rows, transfer_rows, multiple_rows, coprocessor_rows, conditional_arm}
use Rattle.arm_words.specs.ThumbTable.{thumb_sum_rows, thumb_register_rows, thumb_literal_rows, thumb_offset_rows, thumb_stack_rows, thumb_multiple_rows, thumb_branch_rows, decoded_thumb}
use Rattle.arm_words.proofs.Masks.{masked, part}
use Rattle.arm_words.specs.declared.instructions.Instr.{Instr}

-- each row looks at all bits of m, and none has there what `p` asks for
abbrev shut : ℕ → (ℕ → Bool) → List InstructionRow → Bool
shut m p [] = true
shut m p (r ∷ rs) = (bit_and r.mask m == m) && (not (p (bit_and r.value m)) && shut m p rs)

not_both : (b : Bool) → not b ≡ true → b ≡ true → ⊥
not_both true n e = absurd (cc)
not_both false n e = absurd (cc)

misses : (m : ℕ) (p : ℕ → Bool) (r : InstructionRow) (arch : Arch) (w : ℕ) → bit_and r.mask m ≡ m → not (p (bit_and r.value m)) ≡ true
    → p (bit_and w m) ≡ true → agrees r arch w ≡ false
misses m p r arch w looks other here =
    elim (true_or_false (agrees r arch w)) [
      | inr none ↦ none
      | inl hit ↦
          let value : bit_and w r.mask ≡ r.value =
          equal (bit_and w r.mask) r.value (both (r.only w) (bit_and w r.mask == r.value)
          (both (r.on arch) (r.only w && (bit_and w r.mask == r.value)) hit).1).1 in
          let seen : bit_and w m ≡ bit_and r.value m =
          ap (λ (x : ℕ). bit_and w x) (sym looks) ∙ sym (and_assoc m w r.mask) ∙ ap (λ (x : ℕ). bit_and x m) value in
          absurd (not_both (p (bit_and r.value m)) other (sym (ap (λ (x : ℕ). p x) seen) ∙ here))
    ]

-- such rows have none of the words that have it
none_of : (m : ℕ) (p : ℕ → Bool) (rs : List InstructionRow) → shut m p rs ≡ true → (arch : Arch) (w : ℕ) → p (bit_and w m) ≡ true → first rs arch w ≡ None
none_of m p [] s arch w here = refl
none_of m p (r ∷ rs) s arch w here =
    let a = both (bit_and r.mask m == m) (not (p (bit_and r.value m)) && shut m p rs) s in
    let b = both (not (p (bit_and r.value m))) (shut m p rs) a.1 in
    if_false (agrees r arch w) (Some (r.instr w)) (first rs arch w)
    (misses m p r arch w (equal (bit_and r.mask m) m a.0) b.0 here)
    ∙ none_of m p rs b.1 arch w here

is_nonzero : (n : ℕ) → n ≢ 0 → not (n == 0) ≡ true
is_nonzero n h = grind arith

is_other : (n v : ℕ) → n ≢ v → not (n == v) ≡ true
is_other n v h = grind arith

-- where the first nine have no answer
late : (a b c d e f g h i rest : Option Instr) → a ≡ None → b ≡ None → c ≡ None → d ≡ None → e ≡ None → f ≡ None → g ≡ None → h ≡ None → i ≡ None
    → or_else a (or_else b (or_else c (or_else d (or_else e (or_else f (or_else g (or_else h (or_else i rest)))))))) ≡ rest
late a b c d e f g h i rest ea eb ec ed ee ef eg eh ei = rw (ea, eb, ec, ed, ee, ef, eg, eh, ei)

-- bits 27 and 26 aren't both 0: the rows from the transfers on
pub high_rows : (arch : Arch) (w : ℕ) → bit_and w 0x0C000000 ≢ 0
    → conditional_arm arch w ≡ or_else (first transfer_rows arch w) (or_else (first multiple_rows arch w) (first coprocessor_rows arch w))
high_rows arch w h =
    let n = λ (rs : List InstructionRow) (s : shut 0x0C000000 (λ x. not (x == 0)) rs ≡ true).
    none_of 0x0C000000 (λ x. not (x == 0)) rs s arch w (is_nonzero (bit_and w 0x0C000000) h) in
    late (first branch_rows arch w) (first half_multiply_rows arch w) (first half_product_rows arch w) (first multiply_rows arch w)
    (first half_transfer_rows arch w) (first status_register_rows arch w) (first immediate_status_rows arch w) (first data_rows arch w)
    (first double_rows arch w) (or_else (first transfer_rows arch w) (or_else (first multiple_rows arch w) (first coprocessor_rows arch w)))
    (n branch_rows refl) (n half_multiply_rows refl) (n half_product_rows refl) (n multiply_rows refl) (n half_transfer_rows refl)
    (n status_register_rows refl) (n immediate_status_rows refl) (n data_rows refl) (n double_rows refl)

or_none : (a : Option Instr) → or_else a None ≡ a
or_none None = refl
or_none (Some i) = refl

-- which answers are left
first_alone : (t m o : Option Instr) → m ≡ None → o ≡ None → or_else t (or_else m o) ≡ t
first_alone t m o em eo = rw (em, eo) (or_none t)

second_alone : (t m o : Option Instr) → t ≡ None → o ≡ None → or_else t (or_else m o) ≡ m
second_alone t m o et eo = rw (et, eo) (or_none m)

third_alone : (t m o : Option Instr) → t ≡ None → m ≡ None → or_else t (or_else m o) ≡ o
third_alone t m o et em = rw (et, em) refl

only_immediates : (a b c d e f g h i rest : Option Instr) → a ≡ None → b ≡ None → c ≡ None → d ≡ None → e ≡ None → f ≡ None → i ≡ None → rest ≡ None → or_else a (or_else b (or_else c (or_else d (or_else e (or_else f (or_else g (or_else h (or_else i rest)))))))) ≡ or_else g h
only_immediates a b c d e f g h i rest ea eb ec ed ee ef ei erest = rw (ea, eb, ec, ed, ee, ef, ei, erest) (ap (λ (x : Option Instr). or_else g x) (or_none h))

only_extras : (a b c d e f g h i rest : Option Instr) → a ≡ None → b ≡ None → c ≡ None → f ≡ None → g ≡ None → rest ≡ None → or_else a (or_else b (or_else c (or_else d (or_else e (or_else f (or_else g (or_else h (or_else i rest)))))))) ≡ or_else d (or_else e (or_else h i))
only_extras a b c d e f g h i rest ea eb ec ef eg erest = rw (ea, eb, ec, ef, eg, erest) (ap (λ (x : Option Instr). or_else d (or_else e (or_else h x))) (or_none i))

only_miscellaneous : (a b c d e f g h i rest : Option Instr) → d ≡ None → e ≡ None → g ≡ None → i ≡ None → rest ≡ None → or_else a (or_else b (or_else c (or_else d (or_else e (or_else f (or_else g (or_else h (or_else i rest)))))))) ≡ or_else a (or_else b (or_else c (or_else f h)))
only_miscellaneous a b c d e f g h i rest ed ee eg ei erest = rw (ed, ee, eg, ei, erest) (ap (λ (x : Option Instr). or_else a (or_else b (or_else c (or_else f x)))) (or_none h))

only_data : (a b c d h : Option Instr) → a ≡ None → b ≡ None → c ≡ None → d ≡ None → or_else a (or_else b (or_else c (or_else d h))) ≡ h
only_data a b c d h ea eb ec ed = rw (ea, eb, ec, ed) refl

only_sums : (a b c d e f g : Option Instr) → b ≡ None → c ≡ None → d ≡ None → e ≡ None → f ≡ None → g ≡ None → or_else a (or_else b (or_else c (or_else d (or_else e (or_else f g))))) ≡ a
only_sums a b c d e f g eb ec ed ee ef eg = rw (eb, ec, ed, ee, ef, eg) (or_none a)

only_middles : (a b c d e f g : Option Instr) → a ≡ None → d ≡ None → e ≡ None → f ≡ None → g ≡ None → or_else a (or_else b (or_else c (or_else d (or_else e (or_else f g))))) ≡ or_else b c
only_middles a b c d e f g ea ed ee ef eg = rw (ea, ed, ee, ef, eg) (ap (λ (x : Option Instr). or_else b x) (or_none c))

only_offsets : (a b c d e f g : Option Instr) → a ≡ None → b ≡ None → c ≡ None → e ≡ None → f ≡ None → g ≡ None → or_else a (or_else b (or_else c (or_else d (or_else e (or_else f g))))) ≡ d
only_offsets a b c d e f g ea eb ec ee ef eg = rw (ea, eb, ec, ee, ef, eg) (or_none d)

only_stacks : (a b c d e f g : Option Instr) → a ≡ None → b ≡ None → c ≡ None → d ≡ None → f ≡ None → g ≡ None → or_else a (or_else b (or_else c (or_else d (or_else e (or_else f g))))) ≡ e
only_stacks a b c d e f g ea eb ec ed ef eg = rw (ea, eb, ec, ed, ef, eg) (or_none e)

only_multiples : (a b c d e f g : Option Instr) → a ≡ None → b ≡ None → c ≡ None → d ≡ None → e ≡ None → g ≡ None → or_else a (or_else b (or_else c (or_else d (or_else e (or_else f g))))) ≡ f
only_multiples a b c d e f g ea eb ec ed ee eg = rw (ea, eb, ec, ed, ee, eg) (or_none f)

only_branches : (a b c d e f g : Option Instr) → a ≡ None → b ≡ None → c ≡ None → d ≡ None → e ≡ None → f ≡ None → or_else a (or_else b (or_else c (or_else d (or_else e (or_else f g))))) ≡ g
only_branches a b c d e f g ea eb ec ed ee ef = rw (ea, eb, ec, ed, ee, ef) refl

no_transfers : (t m o : Option Instr) → t ≡ None → m ≡ None → o ≡ None → or_else t (or_else m o) ≡ None
no_transfers t m o et em eo = rw (et, em, eo) refl

pub transfer_leaf : (arch : Arch) (w : ℕ) → bit_and w 0x0C000000 ≡ 0x04000000 → conditional_arm arch w ≡ first transfer_rows arch w
transfer_leaf arch w h =
    let p = is_equal (bit_and w 0x0C000000) 0x04000000 h in
    let m = none_of 0x0C000000 (λ x. x == 0x04000000) multiple_rows refl arch w p in
    let o = none_of 0x0C000000 (λ x. x == 0x04000000) coprocessor_rows refl arch w p in
    high_rows arch w (omega (arith, h)) ∙ first_alone (first transfer_rows arch w) (first multiple_rows arch w) (first coprocessor_rows arch w) m o

pub multiple_leaf : (arch : Arch) (w : ℕ) → bit_and w 0x0C000000 ≡ 0x08000000 → conditional_arm arch w ≡ first multiple_rows arch w
multiple_leaf arch w h =
    let p = is_equal (bit_and w 0x0C000000) 0x08000000 h in
    let t = none_of 0x0C000000 (λ x. x == 0x08000000) transfer_rows refl arch w p in
    let o = none_of 0x0C000000 (λ x. x == 0x08000000) coprocessor_rows refl arch w p in
    high_rows arch w (omega (arith, h)) ∙ second_alone (first transfer_rows arch w) (first multiple_rows arch w) (first coprocessor_rows arch w) t o

pub coprocessor_leaf : (arch : Arch) (w : ℕ) → bit_and w 0x0C000000 ≢ 0 → bit_and w 0x0C000000 ≢ 0x04000000 → bit_and w 0x0C000000 ≢ 0x08000000
    → conditional_arm arch w ≡ first coprocessor_rows arch w
coprocessor_leaf arch w h h4 h8 =
    let t = none_of 0x0C000000 (λ x. not (x == 0x04000000)) transfer_rows refl arch w (is_other (bit_and w 0x0C000000) 0x04000000 h4) in
    let m = none_of 0x0C000000 (λ x. not (x == 0x08000000)) multiple_rows refl arch w (is_other (bit_and w 0x0C000000) 0x08000000 h8) in
    high_rows arch w h ∙ third_alone (first transfer_rows arch w) (first multiple_rows arch w) (first coprocessor_rows arch w) t m

-- bits 27 and 26 are 0: the rows before the transfers
low_rows : (arch : Arch) (w : ℕ) → bit_and w 0x0C000000 ≡ 0
    → or_else (first transfer_rows arch w) (or_else (first multiple_rows arch w) (first coprocessor_rows arch w)) ≡ None
low_rows arch w h =
    let n = λ (rs : List InstructionRow) (s : shut 0x0C000000 (λ x. x == 0) rs ≡ true).
    none_of 0x0C000000 (λ x. x == 0) rs s arch w (is_equal (bit_and w 0x0C000000) 0 h) in
    no_transfers (first transfer_rows arch w) (first multiple_rows arch w) (first coprocessor_rows arch w)
    (n transfer_rows refl) (n multiple_rows refl) (n coprocessor_rows refl)

pub immediate_leaf : (arch : Arch) (w : ℕ) → bit_and w 0x0C000000 ≡ 0 → bit_and w 0x02000000 ≢ 0
    → conditional_arm arch w ≡ or_else (first immediate_status_rows arch w) (first data_rows arch w)
immediate_leaf arch w h i =
    let n = λ (rs : List InstructionRow) (s : shut 0x02000000 (λ x. not (x == 0)) rs ≡ true).
    none_of 0x02000000 (λ x. not (x == 0)) rs s arch w (is_nonzero (bit_and w 0x02000000) i) in
    only_immediates (first branch_rows arch w) (first half_multiply_rows arch w) (first half_product_rows arch w) (first multiply_rows arch w)
    (first half_transfer_rows arch w) (first status_register_rows arch w) (first immediate_status_rows arch w) (first data_rows arch w)
    (first double_rows arch w) (or_else (first transfer_rows arch w) (or_else (first multiple_rows arch w) (first coprocessor_rows arch w)))
    (n branch_rows refl) (n half_multiply_rows refl) (n half_product_rows refl) (n multiply_rows refl) (n half_transfer_rows refl)
    (n status_register_rows refl) (n double_rows refl) (low_rows arch w h)

pub extra_leaf : (arch : Arch) (w : ℕ) → bit_and w 0x0C000000 ≡ 0 → bit_and w 0x02000000 ≡ 0 → bit_and w 0x90 ≡ 0x90
    → conditional_arm arch w ≡ or_else (first multiply_rows arch w) (or_else (first half_transfer_rows arch w) (or_else (first data_rows arch w) (first double_rows arch w)))
extra_leaf arch w h i e =
    let n = λ (rs : List InstructionRow) (s : shut 0x90 (λ x. x == 0x90) rs ≡ true).
    none_of 0x90 (λ x. x == 0x90) rs s arch w (is_equal (bit_and w 0x90) 0x90 e) in
    let m = none_of 0x02000000 (λ x. x == 0) immediate_status_rows refl arch w (is_equal (bit_and w 0x02000000) 0 i) in
    only_extras (first branch_rows arch w) (first half_multiply_rows arch w) (first half_product_rows arch w) (first multiply_rows arch w)
    (first half_transfer_rows arch w) (first status_register_rows arch w) (first immediate_status_rows arch w) (first data_rows arch w)
    (first double_rows arch w) (or_else (first transfer_rows arch w) (or_else (first multiple_rows arch w) (first coprocessor_rows arch w)))
    (n branch_rows refl) (n half_multiply_rows refl) (n half_product_rows refl) (n status_register_rows refl) m (low_rows arch w h)

pub miscellaneous_leaf : (arch : Arch) (w : ℕ) → bit_and w 0x0C000000 ≡ 0 → bit_and w 0x02000000 ≡ 0 → bit_and w 0x90 ≢ 0x90
    → conditional_arm arch w ≡ or_else (first branch_rows arch w) (or_else (first half_multiply_rows arch w) (or_else (first half_product_rows arch w) (or_else (first status_register_rows arch w) (first data_rows arch w))))
miscellaneous_leaf arch w h i e =
    let n = λ (rs : List InstructionRow) (s : shut 0x90 (λ x. not (x == 0x90)) rs ≡ true).
    none_of 0x90 (λ x. not (x == 0x90)) rs s arch w (is_other (bit_and w 0x90) 0x90 e) in
    let m = none_of 0x02000000 (λ x. x == 0) immediate_status_rows refl arch w (is_equal (bit_and w 0x02000000) 0 i) in
    only_miscellaneous (first branch_rows arch w) (first half_multiply_rows arch w) (first half_product_rows arch w) (first multiply_rows arch w)
    (first half_transfer_rows arch w) (first status_register_rows arch w) (first immediate_status_rows arch w) (first data_rows arch w)
    (first double_rows arch w) (or_else (first transfer_rows arch w) (or_else (first multiple_rows arch w) (first coprocessor_rows arch w)))
    (n multiply_rows refl) (n half_transfer_rows refl) m (n double_rows refl) (low_rows arch w h)

pub data_leaf : (arch : Arch) (w : ℕ) → bit_and w 0x0C000000 ≡ 0 → bit_and w 0x02000000 ≡ 0 → bit_and w 0x90 ≢ 0x90 → bit_and w 0x01900000 ≢ 0x01000000
    → conditional_arm arch w ≡ first data_rows arch w
data_leaf arch w h i e k =
    let n = λ (rs : List InstructionRow) (s : shut 0x01900000 (λ x. not (x == 0x01000000)) rs ≡ true).
    none_of 0x01900000 (λ x. not (x == 0x01000000)) rs s arch w (is_other (bit_and w 0x01900000) 0x01000000 k) in
    miscellaneous_leaf arch w h i e
    ∙ only_data (first branch_rows arch w) (first half_multiply_rows arch w) (first half_product_rows arch w) (first status_register_rows arch w) (first data_rows arch w)
    (n branch_rows refl) (n half_multiply_rows refl) (n half_product_rows refl) (n status_register_rows refl)

-- the rows of halves whose bits 15 to 13 are v alone
thumb_none : (v : ℕ) (rs : List InstructionRow) → shut 0xE000 (λ x. x == v) rs ≡ true → (arch : Arch) (h : ℕ) → bit_and h 0xE000 ≡ v → first rs arch h ≡ None
thumb_none v rs s arch h e = none_of 0xE000 (λ x. x == v) rs s arch h (is_equal (bit_and h 0xE000) v e)

-- the top three bits as the mask has them
top_three : (h v : ℕ) → h < 2 ^ 16 → h / 2 ^ 13 ≡ v → bit_and h 0xE000 ≡ v * 2 ^ 13
top_three h v r e = let m = masked h (part 13 3 ∷ []) refl in omega (arith, m, r, e)

pub middle_leaf : (arch : Arch) (h : ℕ) → h < 2 ^ 16 → h / 2 ^ 13 ≡ 2
    → decoded_thumb arch h ≡ or_else (first thumb_register_rows arch h) (first thumb_literal_rows arch h)
middle_leaf arch h r e =
    let n = λ (rs : List InstructionRow) (s : shut 0xE000 (λ x. x == 0x4000) rs ≡ true). thumb_none 0x4000 rs s arch h (top_three h 2 r e) in
    only_middles (first thumb_sum_rows arch h) (first thumb_register_rows arch h) (first thumb_literal_rows arch h) (first thumb_offset_rows arch h)
    (first thumb_stack_rows arch h) (first thumb_multiple_rows arch h) (first thumb_branch_rows arch h)
    (n thumb_sum_rows refl) (n thumb_offset_rows refl) (n thumb_stack_rows refl) (n thumb_multiple_rows refl) (n thumb_branch_rows refl)

pub sum_leaf : (arch : Arch) (h v : ℕ) → h < 2 ^ 16 → h / 2 ^ 13 ≡ v → v < 2 → decoded_thumb arch h ≡ first thumb_sum_rows arch h
sum_leaf arch h v r e l =
    let low : bit_and h 0xC000 ≡ 0 = (let m = masked h (part 14 2 ∷ []) refl in omega (arith, m, r, e, l)) in
    let n = λ (rs : List InstructionRow) (s : shut 0xC000 (λ x. x == 0) rs ≡ true). none_of 0xC000 (λ x. x == 0) rs s arch h (is_equal (bit_and h 0xC000) 0 low) in
    only_sums (first thumb_sum_rows arch h) (first thumb_register_rows arch h) (first thumb_literal_rows arch h) (first thumb_offset_rows arch h)
    (first thumb_stack_rows arch h) (first thumb_multiple_rows arch h) (first thumb_branch_rows arch h)
    (n thumb_register_rows refl) (n thumb_literal_rows refl) (n thumb_offset_rows refl) (n thumb_stack_rows refl) (n thumb_multiple_rows refl) (n thumb_branch_rows refl)

offset_rows_alone : (arch : Arch) (h v : ℕ) → bit_and h 0xE000 ≡ v
    → shut 0xE000 (λ x. x == v) thumb_sum_rows ≡ true → shut 0xE000 (λ x. x == v) thumb_register_rows ≡ true → shut 0xE000 (λ x. x == v) thumb_literal_rows ≡ true
    → shut 0xE000 (λ x. x == v) thumb_stack_rows ≡ true → shut 0xE000 (λ x. x == v) thumb_multiple_rows ≡ true → shut 0xE000 (λ x. x == v) thumb_branch_rows ≡ true
    → decoded_thumb arch h ≡ first thumb_offset_rows arch h
offset_rows_alone arch h v e s1 s2 s3 s5 s6 s7 =
    only_offsets (first thumb_sum_rows arch h) (first thumb_register_rows arch h) (first thumb_literal_rows arch h) (first thumb_offset_rows arch h)
    (first thumb_stack_rows arch h) (first thumb_multiple_rows arch h) (first thumb_branch_rows arch h)
    (thumb_none v thumb_sum_rows s1 arch h e) (thumb_none v thumb_register_rows s2 arch h e) (thumb_none v thumb_literal_rows s3 arch h e)
    (thumb_none v thumb_stack_rows s5 arch h e) (thumb_none v thumb_multiple_rows s6 arch h e) (thumb_none v thumb_branch_rows s7 arch h e)

offset_leaf_3 : (arch : Arch) (h : ℕ) → h < 2 ^ 16 → h / 2 ^ 13 ≡ 3 → decoded_thumb arch h ≡ first thumb_offset_rows arch h
offset_leaf_3 arch h r e = offset_rows_alone arch h 0x6000 (top_three h 3 r e) refl refl refl refl refl refl

offset_leaf_4 : (arch : Arch) (h : ℕ) → h < 2 ^ 16 → h / 2 ^ 13 ≡ 4 → decoded_thumb arch h ≡ first thumb_offset_rows arch h
offset_leaf_4 arch h r e = offset_rows_alone arch h 0x8000 (top_three h 4 r e) refl refl refl refl refl refl

pub stack_leaf : (arch : Arch) (h : ℕ) → h < 2 ^ 16 → h / 2 ^ 13 ≡ 5 → decoded_thumb arch h ≡ first thumb_stack_rows arch h
stack_leaf arch h r e =
    let n = λ (rs : List InstructionRow) (s : shut 0xE000 (λ x. x == 0xA000) rs ≡ true). thumb_none 0xA000 rs s arch h (top_three h 5 r e) in
    only_stacks (first thumb_sum_rows arch h) (first thumb_register_rows arch h) (first thumb_literal_rows arch h) (first thumb_offset_rows arch h)
    (first thumb_stack_rows arch h) (first thumb_multiple_rows arch h) (first thumb_branch_rows arch h)
    (n thumb_sum_rows refl) (n thumb_register_rows refl) (n thumb_literal_rows refl) (n thumb_offset_rows refl) (n thumb_multiple_rows refl) (n thumb_branch_rows refl)

pub multiple_half_leaf : (arch : Arch) (h : ℕ) → h < 2 ^ 16 → h / 2 ^ 13 ≡ 6 → decoded_thumb arch h ≡ first thumb_multiple_rows arch h
multiple_half_leaf arch h r e =
    let n = λ (rs : List InstructionRow) (s : shut 0xE000 (λ x. x == 0xC000) rs ≡ true). thumb_none 0xC000 rs s arch h (top_three h 6 r e) in
    only_multiples (first thumb_sum_rows arch h) (first thumb_register_rows arch h) (first thumb_literal_rows arch h) (first thumb_offset_rows arch h)
    (first thumb_stack_rows arch h) (first thumb_multiple_rows arch h) (first thumb_branch_rows arch h)
    (n thumb_sum_rows refl) (n thumb_register_rows refl) (n thumb_literal_rows refl) (n thumb_offset_rows refl) (n thumb_stack_rows refl) (n thumb_branch_rows refl)

pub branch_leaf : (arch : Arch) (h : ℕ) → h < 2 ^ 16 → h / 2 ^ 13 ≡ 7 → decoded_thumb arch h ≡ first thumb_branch_rows arch h
branch_leaf arch h r e =
    let n = λ (rs : List InstructionRow) (s : shut 0xE000 (λ x. x == 0xE000) rs ≡ true). thumb_none 0xE000 rs s arch h (top_three h 7 r e) in
    only_branches (first thumb_sum_rows arch h) (first thumb_register_rows arch h) (first thumb_literal_rows arch h) (first thumb_offset_rows arch h)
    (first thumb_stack_rows arch h) (first thumb_multiple_rows arch h) (first thumb_branch_rows arch h)
    (n thumb_sum_rows refl) (n thumb_register_rows refl) (n thumb_literal_rows refl) (n thumb_offset_rows refl) (n thumb_stack_rows refl) (n thumb_multiple_rows refl)

three_or_four : (n : ℕ) → 2 < n → n < 5 → (n ≡ 3) ⊎ (n ≡ 4)
three_or_four n a b = grind arith

pub offset_leaf : (arch : Arch) (h : ℕ) → h < 2 ^ 16 → 2 < h / 2 ^ 13 → h / 2 ^ 13 < 5 → decoded_thumb arch h ≡ first thumb_offset_rows arch h
offset_leaf arch h r low high =
    elim (three_or_four (h / 2 ^ 13) low high) [ inl e ↦ offset_leaf_3 arch h r e | inr e ↦ offset_leaf_4 arch h r e ]
