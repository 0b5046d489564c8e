use Rattle.std.proofs.Common.{ℕ, ◌≡◌, ◌<◌, ◌≤◌, ◌+◌, ◌-◌, ◌⊎◌, inl, inr, Bool, true, false, ◌&&◌, nat_le, List, [], ◌∷◌, refl, arith}
use Rattle.std.specs.List.{All}
use Rattle.std.proofs.lemmas.List.Elements.{All-nil, All-cons, All-head, All-tail, All-weaker}
use Rattle.ds_base.specs.declared.processors.Proc.{Proc}
use Rattle.ds_base.specs.declared.processors.Proc.TheVariants.{Nine, Seven}
use Rattle.ds_places.specs.declared.kinds.Place.{Place}
use Rattle.ds_places.specs.AddressTables.{Region, LiesIn, HasPlace, place_at, place_by, regions_of, place_of}
use Rattle.ds_places.specs.declared.kinds.Place.TheVariants.{Nothing}

-- the regions of a table rise, from an address on
abbrev pub rise : ℕ → List Region → Bool
rise from [] = true
rise from (r ∷ rs) = nat_le from r.first && nat_le r.first r.last && rise (r.last + 1) rs

-- an address lies in a region, or it doesn't, and the test tells which
pub lies_or_not : (first last at : ℕ) →
    ((first ≤ at) × (at ≤ last) × ((nat_le first at && nat_le at last) ≡ true)) ⊎ ((¬ ((first ≤ at) × (at ≤ last))) × ((nat_le first at && nat_le at last) ≡ false))
lies_or_not first last at = grind arith

-- what a rising table says of its first region and of those after it
pub risen : (from : ℕ) (r : Region) (rs : List Region) → rise from (r ∷ rs) ≡ true → (from ≤ r.first) × (r.first ≤ r.last) × (rise (r.last + 1) rs ≡ true)
risen from r rs h = grind arith

abbrev Outside : ℕ → Region → Type 0
Outside at r = ¬ LiesIn r at

abbrev Inside : ℕ → Place → Region → Type 0
Inside at place r = LiesIn r at → place ≡ place_at r.content (at - r.first)

-- an address below the start lies in no region of a rising table
pub none_below : (from : ℕ) (rs : List Region) (at : ℕ) → rise from rs ≡ true → at < from → All (λ r. ¬ LiesIn r at) rs
none_below from [] at h below = All-nil (Outside at)
none_below from (r ∷ rs) at h below =
    let up = risen from r rs h in
    All-cons (Outside at) r rs (λ lies. absurd (omega (arith, lies, up))) (none_below (r.last + 1) rs at up.2 (omega (arith, up)))

-- in a rising table the first region in which an address lies is the only one
pub place_by-stands : (from : ℕ) (rs : List Region) (at : ℕ) → rise from rs ≡ true → HasPlace rs at (place_by rs at)
place_by-stands from [] at h = record { inside = All-nil (Inside at Nothing); outside = λ _. refl }
place_by-stands from (r ∷ rs) at h =
    let up = risen from r rs h in
    let rest = place_by-stands (r.last + 1) rs at up.2 in
    elim (lies_or_not r.first r.last at) [
      | inl lies ↦ rw lies.2 (record {
        inside = All-cons (Inside at (place_at r.content (at - r.first))) r rs (λ _. refl) (All-weaker (Outside at) (Inside at (place_at r.content (at - r.first))) (λ x out l. absurd (out l)) rs (none_below (r.last + 1) rs at up.2 (omega (arith, lies))));
        outside = λ none. absurd (All-head (Outside at) r rs none (lies.0, lies.1));
      })
      | inr apart ↦ rw apart.1 (record {
        inside = All-cons (Inside at (place_by rs at)) r rs (λ l. absurd (apart.0 l)) rest.inside;
        outside = λ none. rest.outside (All-tail (Outside at) r rs none);
      })
    ]

-- and no other place is the address's
pub place_by-only : (rs : List Region) (at : ℕ) (other : Place) → HasPlace rs at other → other ≡ place_by rs at
place_by-only [] at other has = has.outside (All-nil (Outside at))
place_by-only (r ∷ rs) at other has =
    elim (lies_or_not r.first r.last at) [
      | inl lies ↦ rw lies.2 (All-head (Inside at other) r rs has.inside (lies.0, lies.1))
      | inr apart ↦ rw apart.1 (place_by-only rs at other (record {
        inside = All-tail (Inside at other) r rs has.inside;
        outside = λ none. has.outside (All-cons (Outside at) r rs apart.0 none);
      }))
    ]

-- both tables rise
pub regions_of-rise : (proc : Proc) (wramcnt : ℕ) → rise 0 (regions_of proc wramcnt) ≡ true
regions_of-rise Nine wramcnt = refl
regions_of-rise Seven wramcnt = refl

pub place_of-stands : (proc : Proc) (wramcnt at : ℕ) → HasPlace (regions_of proc wramcnt) at (place_of proc wramcnt at)
place_of-stands proc wramcnt at = place_by-stands 0 (regions_of proc wramcnt) at (regions_of-rise proc wramcnt)
