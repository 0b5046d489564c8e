use Rattle.std.proofs.Common.{ℕ, List, [], ◌∷◌, Bool, true, ◌&&◌, ◌≡◌, ◌⊎◌, inl, inr, subst, ◌==◌, bit_and, refl, sym, ◌∙◌, ap, Option, Some, None}
use Rattle.ds_base.specs.declared.processors.Arch.{Arch}
use Rattle.ds_base.proofs.Choices.{both, true_or_false, if_true, if_false, equal}
use Rattle.arm_words.proofs.Facts.{some_is}
use Rattle.arm_words.specs.Rows.{InstructionRow, agrees, first, or_else}
use Rattle.arm_words.specs.Fields.{HasFields}
use Rattle.arm_words.specs.Spellings.{spelled}
use Rattle.arm_words.specs.declared.instructions.Instr.{Instr}
use Rattle.arm_words.specs.declared.spellings.Spelling.{Spelling}
use Rattle.arm_words.proofs.Masks.{masked, Part, under, mask, descend}

-- how words (or halves) are made into spellings, which words (or halves) decoding can't tell apart by their rows, and which words
-- a table is for
pub record Kind : Type 1 where
  pub make : ℕ → Spelling
  pub Near : ℕ → ℕ → Type 0
  pub Fits : ℕ → Type 0

-- an instruction of w, spelled again: the spelling's row is w's, and so are its fields
pub record Respelt (k : Kind) (instr : ℕ → Instr) (w : ℕ) : Type 0 where
  pub again : ℕ
  pub spelling : spelled (instr w) ≡ k.make again
  pub near : k.Near w again
  pub same : instr again ≡ instr w
  pub fields : HasFields (instr w)

-- a row whose spellings decode to the same instruction, and whose tests see no difference between near words
pub record Sound (k : Kind) (r : InstructionRow) : Type 0 where
  pub parts : List Part
  pub is_mask : mask parts ≡ r.mask
  pub falls : descend parts ≡ true
  pub blind : (w v : ℕ) → k.Near w v → under v parts ≡ under w parts
  pub only_blind : (w v : ℕ) → k.Near w v → r.only v ≡ r.only w
  pub law : (w : ℕ) → k.Fits w → under w parts ≡ r.value → r.only w ≡ true → Respelt k r.instr w

-- a row whose spelling is the word itself
pub record Exact (k : Kind) (r : InstructionRow) : Type 0 where
  pub parts : List Part
  pub is_mask : mask parts ≡ r.mask
  pub falls : descend parts ≡ true
  pub spelling : (w : ℕ) → k.Fits w → under w parts ≡ r.value → r.only w ≡ true → spelled (r.instr w) ≡ k.make w
  pub fields : (w : ℕ) → k.Fits w → under w parts ≡ r.value → r.only w ≡ true → HasFields (r.instr w)

pub sound : {k : Kind} {r : InstructionRow} (parts : List Part) → mask parts ≡ r.mask → descend parts ≡ true
    → ((w v : ℕ) → k.Near w v → under v parts ≡ under w parts) → ((w v : ℕ) → k.Near w v → r.only v ≡ r.only w)
    → ((w : ℕ) → k.Fits w → under w parts ≡ r.value → r.only w ≡ true → Respelt k r.instr w) → Sound k r
sound parts is_mask falls blind only_blind law =
    record { parts = parts; is_mask = is_mask; falls = falls; blind = blind; only_blind = only_blind; law = law }

pub exact : {k : Kind} {r : InstructionRow} (parts : List Part) → mask parts ≡ r.mask → descend parts ≡ true
    → ((w : ℕ) → k.Fits w → under w parts ≡ r.value → r.only w ≡ true → spelled (r.instr w) ≡ k.make w)
    → ((w : ℕ) → k.Fits w → under w parts ≡ r.value → r.only w ≡ true → HasFields (r.instr w)) → Exact k r
exact parts is_mask falls spelling fields = record { parts = parts; is_mask = is_mask; falls = falls; spelling = spelling; fields = fields }

-- what is shown of one, and of those after it
infixr 5 ◌⨾◌
pub ◌⨾◌ : {A B : Type 0} → A → B → A × B
first ⨾ others = (first, others)

abbrev pub AllSound : Kind → List InstructionRow → Type 0
AllSound k [] = Unit {0}
AllSound k (r ∷ rs) = Sound k r × AllSound k rs

abbrev pub AllExact : Kind → List InstructionRow → Type 0
AllExact k [] = Unit {0}
AllExact k (r ∷ rs) = Exact k r × AllExact k rs

-- a decoder's instruction of w, found again at its spelling
pub record Again (k : Kind) (f : Arch → ℕ → Option Instr) (arch : Arch) (w : ℕ) (i : Instr) : Type 0 where
  pub again : ℕ
  pub spelling : spelled i ≡ k.make again
  pub near : k.Near w again
  pub found : f arch again ≡ Some i
  pub fields : HasFields i

abbrev pub Stage : Kind → (Arch → ℕ → Option Instr) → Type 0
Stage k f = (arch : Arch) (w : ℕ) → k.Fits w → (i : Instr) → f arch w ≡ Some i → Again k f arch w i

abbrev pub Quiet : Kind → (Arch → ℕ → Option Instr) → Type 0
Quiet k f = (arch : Arch) (w v : ℕ) → k.Near w v → f arch w ≡ None → f arch v ≡ None

-- a decoder's instruction of w, whose spelling is w
pub record Itself (k : Kind) (w : ℕ) (i : Instr) : Type 0 where
  pub spelling : spelled i ≡ k.make w
  pub fields : HasFields i

abbrev pub ExactStage : Kind → (Arch → ℕ → Option Instr) → Type 0
ExactStage k f = (arch : Arch) (w : ℕ) → k.Fits w → (i : Instr) → f arch w ≡ Some i → Itself k w i

-- what a row that agrees says
agreed_only : (r : InstructionRow) (arch : Arch) (w : ℕ) → agrees r arch w ≡ true → r.only w ≡ true
agreed_only r arch w e =
    (both (r.only w) (bit_and w r.mask == r.value) (both (r.on arch) (r.only w && (bit_and w r.mask == r.value)) e).1).0

agreed_mask : (r : InstructionRow) (arch : Arch) (w : ℕ) → agrees r arch w ≡ true → bit_and w r.mask ≡ r.value
agreed_mask r arch w e =
    equal (bit_and w r.mask) r.value (both (r.only w) (bit_and w r.mask == r.value)
    (both (r.on arch) (r.only w && (bit_and w r.mask == r.value)) e).1).1

parts_under : (w m v : ℕ) (ps : List Part) → mask ps ≡ m → descend ps ≡ true → bit_and w m ≡ v → under w ps ≡ v
parts_under w m v ps e d h = sym (masked w ps d) ∙ ap (λ (x : ℕ). bit_and w x) e ∙ h

-- near words agree with the same rows
agrees_blind : (k : Kind) (r : InstructionRow) → Sound k r → (arch : Arch) (w v : ℕ) → k.Near w v → agrees r arch v ≡ agrees r arch w
agrees_blind k r s arch w v n =
    let masks : bit_and v r.mask ≡ bit_and w r.mask =
    ap (λ (x : ℕ). bit_and v x) (sym s.is_mask) ∙ masked v s.parts s.falls ∙ s.blind w v n ∙ sym (masked w s.parts s.falls)
    ∙ ap (λ (x : ℕ). bit_and w x) s.is_mask in
    let only : r.only v ≡ r.only w = s.only_blind w v n in
    ap (λ (x : ℕ). r.on arch && (r.only v && (x == r.value))) masks ∙ ap (λ (x : Bool). r.on arch && (x && (bit_and w r.mask == r.value))) only

pub sound_quiet : (k : Kind) (rs : List InstructionRow) → AllSound k rs → Quiet k (first rs)
sound_quiet k [] s arch w v n e = refl
sound_quiet k (r ∷ rs) s arch w v n e =
    elim (true_or_false (agrees r arch w)) [
      | inl hit ↦ absurd (let found = if_true (agrees r arch w) (Some (r.instr w)) (first rs arch w) hit in cc)
      | inr missed ↦
          if_false (agrees r arch v) (Some (r.instr v)) (first rs arch v) (agrees_blind k r s.0 arch w v n ∙ missed)
          ∙ sound_quiet k rs s.1 arch w v n (sym (if_false (agrees r arch w) (Some (r.instr w)) (first rs arch w) missed) ∙ e)
    ]

pub sound_stage : (k : Kind) (rs : List InstructionRow) → AllSound k rs → Stage k (first rs)
sound_stage k [] s arch w h i e = absurd (cc)
sound_stage k (r ∷ rs) s arch w h i e =
    elim (true_or_false (agrees r arch w)) [
      | inl hit ↦
          let here : r.instr w ≡ i = some_is (r.instr w) i (sym (if_true (agrees r arch w) (Some (r.instr w)) (first rs arch w) hit) ∙ e) in
          let l = s.0.law w h (parts_under w r.mask r.value s.0.parts s.0.is_mask s.0.falls (agreed_mask r arch w hit)) (agreed_only r arch w hit) in
          record {
            again = l.again;
            spelling = ap (λ (x : Instr). spelled x) (sym here) ∙ l.spelling;
            near = l.near;
            found = if_true (agrees r arch l.again) (Some (r.instr l.again)) (first rs arch l.again)
                (agrees_blind k r s.0 arch w l.again l.near ∙ hit) ∙ ap (λ (x : Instr). Some x) (l.same ∙ here);
            fields = let P : Instr → Type 0 = λ x. HasFields x in subst P here l.fields;
          }
      | inr missed ↦
          let a = sound_stage k rs s.1 arch w h i (sym (if_false (agrees r arch w) (Some (r.instr w)) (first rs arch w) missed) ∙ e) in
          record {
            again = a.again;
            spelling = a.spelling;
            near = a.near;
            found = if_false (agrees r arch a.again) (Some (r.instr a.again)) (first rs arch a.again)
                (agrees_blind k r s.0 arch w a.again a.near ∙ missed) ∙ a.found;
            fields = a.fields;
          }
    ]

pub exact_stage : (k : Kind) (rs : List InstructionRow) → AllExact k rs → ExactStage k (first rs)
exact_stage k [] s arch w h i e = absurd (cc)
exact_stage k (r ∷ rs) s arch w h i e =
    elim (true_or_false (agrees r arch w)) [
      | inl hit ↦
          let here : r.instr w ≡ i = some_is (r.instr w) i (sym (if_true (agrees r arch w) (Some (r.instr w)) (first rs arch w) hit) ∙ e) in
          let m : under w s.0.parts ≡ r.value = parts_under w r.mask r.value s.0.parts s.0.is_mask s.0.falls (agreed_mask r arch w hit) in
          let P : Instr → Type 0 = λ x. HasFields x in
          record {
            spelling = ap (λ (x : Instr). spelled x) (sym here) ∙ s.0.spelling w h m (agreed_only r arch w hit);
            fields = subst P here (s.0.fields w h m (agreed_only r arch w hit));
          }
      | inr missed ↦ exact_stage k rs s.1 arch w h i (sym (if_false (agrees r arch w) (Some (r.instr w)) (first rs arch w) missed) ∙ e)
    ]

-- the first decoder's answer, then the second's
or_none : (a b : Option Instr) → a ≡ None → or_else a b ≡ b
or_none None b e = refl
or_none (Some i) b e = absurd (cc)

or_some : (a b : Option Instr) (i : Instr) → a ≡ Some i → or_else a b ≡ Some i
or_some (Some j) b i e = e
or_some None b i e = absurd (cc)

either : (a b : Option Instr) (i : Instr) → or_else a b ≡ Some i → (a ≡ Some i) ⊎ ((a ≡ None) × (b ≡ Some i))
either (Some j) b i e = inl e
either None b i e = inr (refl, e)

pub then_stage : (k : Kind) (f g : Arch → ℕ → Option Instr) → Stage k f → Quiet k f → Stage k g → Stage k (λ arch w. or_else (f arch w) (g arch w))
then_stage k f g sf qf sg arch w h i e =
    elim (either (f arch w) (g arch w) i e) [
      | inl here ↦
          let a = sf arch w h i here in
          record {
            again = a.again;
            spelling = a.spelling;
            near = a.near;
            found = or_some (f arch a.again) (g arch a.again) i a.found;
            fields = a.fields;
          }
      | inr there ↦
          let a = sg arch w h i there.1 in
          record {
            again = a.again;
            spelling = a.spelling;
            near = a.near;
            found = or_none (f arch a.again) (g arch a.again) (qf arch w a.again a.near there.0) ∙ a.found;
            fields = a.fields;
          }
    ]

pub then_exact : (k : Kind) (near_itself : (w : ℕ) → k.Near w w) (f g : Arch → ℕ → Option Instr) → Stage k f → ExactStage k g
    → Stage k (λ arch w. or_else (f arch w) (g arch w))
then_exact k near_itself f g sf sg arch w h i e =
    elim (either (f arch w) (g arch w) i e) [
      | inl here ↦
          let a = sf arch w h i here in
          record {
            again = a.again;
            spelling = a.spelling;
            near = a.near;
            found = or_some (f arch a.again) (g arch a.again) i a.found;
            fields = a.fields;
          }
      | inr there ↦
          let a = sg arch w h i there.1 in
          record { again = w; spelling = a.spelling; near = near_itself w; found = e; fields = a.fields }
    ]

pub exact_then : (k : Kind) (f g : Arch → ℕ → Option Instr) → ExactStage k f → ExactStage k g → ExactStage k (λ arch w. or_else (f arch w) (g arch w))
exact_then k f g sf sg arch w h i e =
    elim (either (f arch w) (g arch w) i e) [ inl here ↦ sf arch w h i here | inr there ↦ sg arch w h i there.1 ]
