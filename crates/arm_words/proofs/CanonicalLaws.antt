use Rattle.std.proofs.Common.{ℕ, Bool, true, false, ◌&&◌, ◌≡◌, ◌↔◌, refl, sym, ◌∙◌, ap, subst, Option, Some, None, IfSome, IsSome, is_some, if◌then◌else◌}
use Rattle.ds_base.specs.declared.processors.Arch.{Arch}
use Rattle.ds_base.proofs.Choices.{both, equal, equal_self, both_true}
use Rattle.arm_words.proofs.Facts.{some_is}
use Rattle.arm_words.specs.Fields.{HasFields, HasOperand}
use Rattle.arm_words.specs.Spellings.{spelled, decoded}
use Rattle.arm_words.specs.Canonical.{canonical, canonical_form, if_canonical, least_operand, same_spelling, IsCanonical, IsCanonicalForm, IsLeastOperand}
use Rattle.arm_words.specs.declared.parts.Operand.{Operand}
use Rattle.arm_words.specs.declared.parts.Operand.TheVariants.{Immediate, Shifted, ShiftedByRegister}
use Rattle.arm_words.specs.declared.instructions.Instr.{Instr}
use Rattle.arm_words.specs.declared.instructions.Instr.TheVariants.{HalfTransfer, DoubleTransfer, MsrImmediate, Compare, Move, Data, Never}
use Rattle.arm_words.specs.declared.spellings.Spelling.{Spelling}
use Rattle.arm_words.specs.declared.spellings.Spelling.TheVariants.{Word, Half}
use Rattle.arm_words.proofs.Rotations.{least_is, is_least}

operand_least : (o : Operand) → HasOperand o → least_operand o ≡ true → IsLeastOperand o
operand_least (Immediate rotate immed) h e = least_is rotate immed h.0 h.1 e
operand_least (Shifted rm shift amount) h e = tt
operand_least (ShiftedByRegister rm shift rs) h e = tt

least_operand_is : (o : Operand) → HasOperand o → IsLeastOperand o → least_operand o ≡ true
least_operand_is (Immediate rotate immed) h l = is_least rotate immed h.0 h.1 l
least_operand_is (Shifted rm shift amount) h l = refl
least_operand_is (ShiftedByRegister rm shift rs) h l = refl

form_is : (i : Instr) → HasFields i → canonical_form i ≡ true → IsCanonicalForm i
form_is (HalfTransfer cond op pre up write_back rn rd offset) h e = e
form_is (DoubleTransfer cond store pre up write_back rn rd offset) h e = e
form_is (MsrImmediate cond spsr fields rotate immed) h e = least_is rotate immed h.0 h.1 e
form_is (Compare cond op rn operand) h e = operand_least operand h.1 e
form_is (Move cond op set_flags rd operand) h e = operand_least operand h.1 e
form_is (Data cond op set_flags rn rd operand) h e = operand_least operand h.2 e
form_is (Never immed) h e = absurd (cc)
form_is _ h e = tt

is_form : (i : Instr) → HasFields i → IsCanonicalForm i → canonical_form i ≡ true
is_form (HalfTransfer cond op pre up write_back rn rd offset) h e = e
is_form (DoubleTransfer cond store pre up write_back rn rd offset) h e = e
is_form (MsrImmediate cond spsr fields rotate immed) h e = is_least rotate immed h.0 h.1 e
is_form (Compare cond op rn operand) h e = least_operand_is operand h.1 e
is_form (Move cond op set_flags rd operand) h e = least_operand_is operand h.1 e
is_form (Data cond op set_flags rn rd operand) h e = least_operand_is operand h.2 e
is_form (Never immed) h e = absurd e
is_form _ h e = refl

same_is : (s t : Spelling) → same_spelling s t ≡ true → s ≡ t
same_is (Word w) (Word v) e = ap (λ (n : ℕ). Word n) (equal w v e)
same_is (Half h) (Half g) e = ap (λ (n : ℕ). Half n) (equal h g e)
same_is (Word w) (Half g) e = absurd (cc)
same_is (Half h) (Word v) e = absurd (cc)

same_itself : (s : Spelling) → same_spelling s s ≡ true
same_itself (Word w) = equal_self w
same_itself (Half h) = equal_self h

kept : (b : Bool) (i : Instr) → is_some (if b then Some i else None) ≡ true → b ≡ true
kept true i e = refl
kept false i e = absurd (cc)

keeps : (b : Bool) (i : Instr) → b ≡ true → is_some (if b then Some i else None) ≡ true
keeps true i e = refl
keeps false i e = absurd (cc)

has_canonical : (arch : Arch) (s : Spelling) (o : Option Instr) → decoded arch s ≡ o → IfSome o (λ i. HasFields i)
    → IsSome (if_canonical s o) → IsCanonical arch s
has_canonical arch s None d h e = absurd (cc)
has_canonical arch s (Some i) d h e =
    let both = both (canonical_form i) (same_spelling (spelled i) s) (kept (canonical_form i && same_spelling (spelled i) s) i e) in
    (i, d, same_is (spelled i) s both.1, form_is i h both.0)

is_canonical : (arch : Arch) (s : Spelling) (o : Option Instr) → decoded arch s ≡ o → IfSome o (λ i. HasFields i)
    → IsCanonical arch s → IsSome (if_canonical s o)
is_canonical arch s None d h c = absurd (let e = c.1 in cc)
is_canonical arch s (Some i) d h c =
    let e : c.0 ≡ i = some_is c.0 i (sym c.1 ∙ d) in
    let P : Instr → Type 0 = λ x. (spelled x ≡ s) × IsCanonicalForm x in
    let both : (spelled i ≡ s) × IsCanonicalForm i = subst P e (c.2, c.3) in
    keeps (canonical_form i && same_spelling (spelled i) s) i
    (both_true (canonical_form i) (same_spelling (spelled i) s) (is_form i h both.1)
    (ap (λ (t : Spelling). same_spelling t s) both.0 ∙ same_itself s))

pub canonical_exactly : (arch : Arch) (s : Spelling) → IfSome (decoded arch s) (λ i. HasFields i) → IsSome (canonical arch s) ↔ IsCanonical arch s
canonical_exactly arch s h = (has_canonical arch s (decoded arch s) refl h, is_canonical arch s (decoded arch s) refl h)

kept_if : (b : Bool) (i : Instr) (P : Instr → Type 0) → P i → IfSome (if b then Some i else None) P
kept_if true i P p = p
kept_if false i P p = tt

-- what holds of what a word or half stands for holds where it is canonical
pub kept_fact : (s : Spelling) (o : Option Instr) (P : Instr → Type 0) → IfSome o P → IfSome (if_canonical s o) P
kept_fact s None P p = tt
kept_fact s (Some i) P p = kept_if (canonical_form i && same_spelling (spelled i) s) i P p

-- an instruction's canonical spelling is what it is spelled as
pub canonical_spelling : (i : Instr) (arch : Arch) (s : Spelling) → IsCanonical arch s → decoded arch s ≡ Some i → spelled i ≡ s
canonical_spelling i arch s c d =
    let e : c.0 ≡ i = some_is c.0 i (sym c.1 ∙ d) in
    ap (λ (x : Instr). spelled x) (sym e) ∙ c.2
