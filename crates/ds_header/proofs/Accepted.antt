use Rattle.std.proofs.Common.{ℕ, ◌≡◌, ◌+◌, ◌%◌, ◌^◌, ◌&&◌, ◌==◌, Bool, Option, Some, None, List, [], ◌∷◌, ◌++◌, length, true, false, nat_le, nat_lt, if◌then◌else◌, arith, refl, sym, ap, ◌∙◌, inl, inr}
use Rattle.ds_base.specs.declared.processors.Proc.{Proc}
use Rattle.ds_base.specs.declared.processors.Proc.TheVariants.{Nine, Seven}
use Rattle.ds_base.proofs.Choices.{one_of, both, equal}
use Rattle.ds_header.specs.declared.faults.HeaderFault.{HeaderFault}
use Rattle.ds_header.specs.Fields.{image_entry, image_length, image_offset, image_place}
use Rattle.ds_header.specs.Rules.{IsAccepted, ImageLies, Range, IsWithin, main_range, work_range, Rule, first_broken, fault_of, lies_in, lies_within}
use Rattle.ds_header.specs.Groups.{file_rules, rules_for, or_then, fault_by_groups}

first_or : (holds : Bool) (fault : HeaderFault) (rest later : Option HeaderFault) → (if holds then or_then rest later else Some fault) ≡ or_then (if holds then rest else Some fault) later
first_or true fault rest later = refl
first_or false fault rest later = refl

-- the first broken rule of two lists, one after the other
broken_append : (xs ys : List Rule) → first_broken (xs ++ ys) ≡ or_then (first_broken xs) (first_broken ys)
broken_append [] ys = refl
broken_append (r ∷ rs) ys =
    ap (λ rest. if r.holds then rest else Some (record { field = r.field; value = r.value })) (broken_append rs ys)
    ∙ first_or r.holds (record { field = r.field; value = r.value }) (first_broken rs) (first_broken ys)

-- by groups it is the same fault
pub by_groups : (file : List ℕ) → fault_by_groups file ≡ fault_of file
by_groups file =
    ap (or_then (first_broken (file_rules file))) (sym (broken_append (rules_for file Nine) (rules_for file Seven)))
    ∙ sym (broken_append (file_rules file) (rules_for file Nine ++ rules_for file Seven))

-- where the first of two lists and the second are unbroken, both are
both_none : (first second : Option HeaderFault) → or_then first second ≡ None → (first ≡ None) × (second ≡ None)
both_none None second h = (refl, h)
both_none (Some fault) second h = absurd (cc)

-- of an accepted cartridge no rule is broken
pub rules_hold : (file : List ℕ) (proc : Proc) → IsAccepted file → first_broken (rules_for file proc) ≡ None
rules_hold file Nine h = (both_none _ _ (both_none _ _ (by_groups file ∙ h)).1).0
rules_hold file Seven h = (both_none _ _ (both_none _ _ (by_groups file ∙ h)).1).1

three : (a b c : Bool) (x y z : HeaderFault) → (if a then (if b then (if c then None else Some z) else Some y) else Some x) ≡ None → (a ≡ true) × (b ≡ true) × (c ≡ true)
three true true true x y z h = (refl, refl, refl)
three true true false x y z h = absurd (cc)
three true false c x y z h = absurd (cc)
three false b c x y z h = absurd (cc)

-- the rules of an image, one by one
rule_facts : (file : List ℕ) (proc : Proc) → IsAccepted file →
    ((nat_le (image_length file proc) (2 ^ 22) && nat_le (image_offset file proc + image_length file proc) (length file)) ≡ true)
    × (lies_in proc (image_place file proc) (image_length file proc) ≡ true)
    × ((image_entry file proc % 4 == 0 && lies_in proc (image_entry file proc) 0) ≡ true)
rule_facts file Nine h = three _ _ _ _ _ _ (rules_hold file Nine h)
rule_facts file Seven h = three _ _ _ _ _ _ (rules_hold file Seven h)

within : (range : Range) (at count : ℕ) → lies_within range at count ≡ true → IsWithin range at count
within range at count h =
    let p = both _ _ h in
    let q = both _ _ p.0 in
    record {
      first = (let e : nat_le range.first at ≡ true = q.0 in grind (arith, e));
      below = (let e : nat_lt at range.past ≡ true = q.1 in grind (arith, e));
      whole = (let e : nat_le (at + count) range.past ≡ true = p.1 in grind (arith, e));
    }

lies : (proc : Proc) (at count : ℕ) → lies_in proc at count ≡ true → ImageLies proc at count
lies Nine at count h = within main_range at count h
lies Seven at count h = elim (one_of _ _ h) [ inl a ↦ inl (within main_range at count a) | inr b ↦ inr (within work_range at count b) ]

-- a processor begins at a word where its image may lie
pub entry_aligned : (file : List ℕ) (proc : Proc) → IsAccepted file → image_entry file proc % 4 ≡ 0
entry_aligned file proc h = equal (image_entry file proc % 4) 0 (both _ _ (rule_facts file proc h).2).0

pub entry_lies : (file : List ℕ) (proc : Proc) → IsAccepted file → ImageLies proc (image_entry file proc) 0
entry_lies file proc h = lies proc (image_entry file proc) 0 (both _ _ (rule_facts file proc h).2).1

-- its image goes where it may
pub image_goes : (file : List ℕ) (proc : Proc) → IsAccepted file → ImageLies proc (image_place file proc) (image_length file proc)
image_goes file proc h = lies proc (image_place file proc) (image_length file proc) (rule_facts file proc h).1
