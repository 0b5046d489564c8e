use Rattle.ds_ports.proofs.Words.{Bool, IfSome, IsSlot, List, Nine, None, Option, Part, PortRow, Proc, Seven, Slot, Some, [], arith, both, false}
use Rattle.ds_ports.proofs.Words.{if◌then◌else◌, inl, inr, le_of, looked_up, lt_of, nat_le, nat_lt, numbers_of, parts_of, refl, register_map}
use Rattle.ds_ports.proofs.Words.{row_bytes, slot_among, slot_by, slot_in, slot_of, subst, suc, sym, true, true≢false, whole, zero, ℕ, ◌&&◌, ◌++◌}
use Rattle.ds_ports.proofs.Words.{◌+◌, ◌-◌, ◌/◌, ◌<◌, ◌==◌, ◌||◌, ◌∙◌, ◌∷◌, ◌≡◌, ◌≤◌, ◌⊎◌}
use Rattle.std.proofs.Math.Nat.{div-lt_iff_lt-mul, mod-lt}

-- all rows lie from one offset up to another
abbrev pub lie : ℕ → ℕ → List PortRow → Bool
lie from limit [] = true
lie from limit (r ∷ rows) = nat_le from r.offset && nat_le (r.offset + row_bytes r) limit && lie from limit rows

abbrev pub in_order : ℕ → List Part → Bool
in_order from [] = true
in_order from (p ∷ parts) = nat_le from p.limit && lie from p.limit p.rows && in_order p.limit parts

all_three : (a b c : Bool) → (a && b && c) ≡ true → (a ≡ true) × (b ≡ true) × (c ≡ true)
all_three true true true h = (refl, refl, refl)
all_three true true false h = absurd (grind arith)
all_three true false c h = absurd (grind arith)
all_three false b c h = absurd (grind arith)

last_or_not : (i n : ℕ) → i < suc n → (i ≡ n) ⊎ (i < n)
last_or_not i n l = grind (arith, l)

below_or_not : (a b : ℕ) → ((a < b) × (nat_lt a b ≡ true)) ⊎ ((b ≤ a) × (nat_lt a b ≡ false))
below_or_not a b = grind arith

-- rows that lie elsewhere have nothing at an offset
elsewhere : (from limit : ℕ) (rows : List PortRow) (at : ℕ) → lie from limit rows ≡ true → (at < from) ⊎ (limit ≤ at) → slot_by rows at ≡ None
elsewhere from limit [] at h out = refl
elsewhere from limit (r ∷ rows) at h out =
    let three = all_three (nat_le from r.offset) (nat_le (r.offset + row_bytes r) limit) (lie from limit rows) h in
    let first = le_of from r.offset three.0 in
    let last = le_of (r.offset + row_bytes r) limit three.1 in
    let no : (nat_le r.offset at && nat_lt at (r.offset + row_bytes r)) ≡ false = outside r.offset (row_bytes r) at first last out in
    rw no (elsewhere from limit rows at three.2 out) where
      outside : (offset bytes at : ℕ) → from ≤ offset → offset + bytes ≤ limit → (at < from) ⊎ (limit ≤ at) → (nat_le offset at && nat_lt at (offset + bytes)) ≡ false
      outside offset bytes at f l out = grind (arith, f, l, out)

-- what the first rows have comes first
appended : (xs ys : List PortRow) (at : ℕ) → slot_by ys at ≡ None → slot_by (xs ++ ys) at ≡ slot_by xs at
appended [] ys at h = h
appended (x ∷ xs) ys at h = rw (appended xs ys at h) refl

past_first : (here : Bool) (slot : Slot) (short long goal : Option Slot) → (if here then Some slot else short) ≡ None → (short ≡ None → long ≡ goal)
    → (if here then Some slot else long) ≡ goal
past_first true slot short long goal h k = absurd (grind arith)
past_first false slot short long goal h k = k h

passed : (xs ys : List PortRow) (at : ℕ) → slot_by xs at ≡ None → slot_by (xs ++ ys) at ≡ slot_by ys at
passed [] ys at h = refl
passed (x ∷ xs) ys at h =
    past_first (nat_le x.offset at && nat_lt at (x.offset + row_bytes x)) (slot_in x (at - x.offset)) (slot_by xs at) (slot_by (xs ++ ys) at) (slot_by ys at) h
    (λ none. passed xs ys at none)

-- parts in order that begin later have nothing at an offset
later : (from : ℕ) (parts : List Part) (at : ℕ) → in_order from parts ≡ true → at < from → slot_by (whole parts) at ≡ None
later from [] at h lt = refl
later from (p ∷ parts) at h lt =
    let three = all_three (nat_le from p.limit) (lie from p.limit p.rows) (in_order p.limit parts) h in
    let up = le_of from p.limit three.0 in
    passed p.rows (whole parts) at (elsewhere from p.limit p.rows at three.1 (inl lt)) ∙ later p.limit parts at three.2 (omega (arith, up, lt))

-- an offset is looked up in its part
pub found : (from : ℕ) (parts : List Part) (at : ℕ) → in_order from parts ≡ true → slot_by (whole parts) at ≡ looked_up parts at
unfolding slot_among
found from [] at h = refl
found from (p ∷ parts) at h =
    let three = all_three (nat_le from p.limit) (lie from p.limit p.rows) (in_order p.limit parts) h in
    elim (below_or_not at p.limit) [
      | inl below ↦ appended p.rows (whole parts) at (later p.limit parts at three.2 below.0) ∙ rw below.1 refl
      | inr past ↦ passed p.rows (whole parts) at (elsewhere from p.limit p.rows at three.1 (inr past.0)) ∙ found p.limit parts at three.2 ∙ rw past.1 refl
    ]

pub map_by_parts : (proc : Proc) (at : ℕ) → slot_of proc at ≡ looked_up (parts_of proc) at
unfolding slot_of
map_by_parts Nine at = found 0 (parts_of Nine) at refl
map_by_parts Seven at = found 0 (parts_of Seven) at refl

-- an offset below the end of some parts is looked up in them, and one past them in the others
abbrev ends_at : ℕ → List Part → Bool
ends_at limit [] = false
ends_at limit (p ∷ parts) = (p.limit == limit) || ends_at limit parts

abbrev ends_by : ℕ → List Part → Bool
ends_by limit [] = true
ends_by limit (p ∷ parts) = nat_le p.limit limit && ends_by limit parts

same_limit : (a b : ℕ) → (a == b) ≡ true → a ≡ b
same_limit a b h = grind arith

below_is : (a b : ℕ) → a < b → nat_lt a b ≡ true
below_is a b l = grind (arith, l)

past_is : (a b : ℕ) → b ≤ a → nat_lt a b ≡ false
past_is a b l = grind (arith, l)

within : (limit : ℕ) (parts others : List Part) (at : ℕ) → ends_at limit parts ≡ true → at < limit → looked_up (parts ++ others) at ≡ looked_up parts at
within limit [] others at h l = absurd (true≢false (sym h))
within limit (p ∷ parts) others at h l = elim (below_or_not at p.limit) [
  | inl below ↦ rw below.1 refl
  | inr past ↦ rw past.1 (within limit parts others at (further (p.limit == limit) refl past.0) l)
] where
  further : (here : Bool) → (p.limit == limit) ≡ here → p.limit ≤ at → ends_at limit parts ≡ true
  further true e past = absurd (let same = same_limit p.limit limit e in omega (arith, same, past, l))
  further false e past = rw e at h

beyond : (limit : ℕ) (parts others : List Part) (at : ℕ) → ends_by limit parts ≡ true → limit ≤ at → looked_up (parts ++ others) at ≡ looked_up others at
beyond limit [] others at h l = refl
beyond limit (p ∷ parts) others at h l =
    let two = both (nat_le p.limit limit) (ends_by limit parts) h in
    let up = le_of p.limit limit two.0 in
    rw (past_is at p.limit (omega (arith, up, l))) (beyond limit parts others at two.1 l)

-- what holds of each place below one
abbrev pub each_below : ℕ → (ℕ → Bool) → Bool
each_below zero p = true
each_below (suc n) p = p n && each_below n p

pub of_each : (n : ℕ) (p : ℕ → Bool) (i : ℕ) → each_below n p ≡ true → i < n → p i ≡ true
of_each zero p i h l = absurd (omega (arith, l))
of_each (suc n) p i h l =
    let two = both (p n) (each_below n p) h in
    elim (last_or_not i n l) [
      | inl e ↦ subst (λ (k : ℕ). p k ≡ true) (sym e) two.0
      | inr before ↦ of_each n p i two.1 before
    ]

-- an offset lies in a row
abbrev pub lies_in : PortRow → ℕ → Bool
lies_in r at = nat_le r.offset at && nat_lt at (r.offset + row_bytes r)

pub inside_or_not : (offset bytes at : ℕ)
    → ((at - offset < bytes) × (offset ≤ at) × ((nat_le offset at && nat_lt at (offset + bytes)) ≡ true)) ⊎ ((nat_le offset at && nat_lt at (offset + bytes)) ≡ false)
inside_or_not offset bytes at = grind arith

abbrev pub all_rows : (PortRow → Bool) → List PortRow → Bool
all_rows test [] = true
all_rows test (r ∷ rows) = test r && all_rows test rows

-- what holds at each offset into rows that pass a test holds of what stands at an offset
pub slot_by_all : (Q : Slot → Type 0) (test : PortRow → Bool) (rows : List PortRow) (at : ℕ) → all_rows test rows ≡ true
    → ((r : PortRow) → test r ≡ true → at - r.offset < row_bytes r → r.offset ≤ at → lies_in r at ≡ true → Q (slot_in r (at - r.offset))) → IfSome (slot_by rows at) Q
slot_by_all Q test [] at h each = tt
slot_by_all Q test (r ∷ rows) at h each =
    let two = both (test r) (all_rows test rows) h in
    elim (inside_or_not r.offset (row_bytes r) at) [
      | inl inside ↦ rw inside.2 (each r two.0 inside.0 inside.1 inside.2)
      | inr outside ↦ rw outside (slot_by_all Q test rows at two.1 each)
    ]

-- what holds of each place of a row holds of the place of an offset into it
abbrev pub each_place : (PortRow → ℕ → Bool) → PortRow → Bool
each_place p r = nat_lt 0 r.bytes && each_below r.count (p r)

pub of_place : (p : PortRow → ℕ → Bool) (r : PortRow) (offset : ℕ) → each_place p r ≡ true → offset < row_bytes r → p r (offset / r.bytes) ≡ true
of_place p r offset h inside =
    let two = both (nat_lt 0 r.bytes) (each_below r.count (p r)) h in
    of_each r.count (p r) (offset / r.bytes) two.1 ((div-lt_iff_lt-mul (lt_of 0 r.bytes two.0)).1 (omega (arith, inside)))

-- each row has registers of at most four bytes, and no more of a name than there are
abbrev pub is_of_its_name : PortRow → ℕ → Bool
is_of_its_name r place = nat_lt (r.number place) (numbers_of (r.register place))

abbrev fits : PortRow → Bool
fits r = nat_le r.bytes 4 && each_place is_of_its_name r

slot_in-is : (r : PortRow) (offset : ℕ) → fits r ≡ true → offset < row_bytes r → IsSlot (slot_in r offset)
slot_in-is r offset h inside =
    let two = both (nat_le r.bytes 4) (each_place is_of_its_name r) h in
    record {
      number = lt_of (r.number (offset / r.bytes)) (numbers_of (r.register (offset / r.bytes))) (of_place is_of_its_name r offset two.1 inside);
      byte = mod-lt offset (lt_of 0 r.bytes (both (nat_lt 0 r.bytes) (each_below r.count (is_of_its_name r)) two.1).0);
      bytes = le_of r.bytes 4 two.0;
    }

pub some_slot : (proc : Proc) (at : ℕ) → IfSome (slot_of proc at) IsSlot
unfolding slot_of
some_slot Nine at = slot_by_all IsSlot fits (register_map Nine) at refl (λ r h inside le lies. slot_in-is r (at - r.offset) h inside)
some_slot Seven at = slot_by_all IsSlot fits (register_map Seven) at refl (λ r h inside le lies. slot_in-is r (at - r.offset) h inside)
