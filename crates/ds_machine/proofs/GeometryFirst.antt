use Rattle.ds_machine.proofs.Words.{ComesBeforeAll, IsLeast, MachineState, Some, Tick, acting_dues, ap, arith, due_at, due_of_rank, dues_of}
use Rattle.ds_machine.proofs.Words.{geometry_rank, inl, inr, low_or_high, same_Some, subst, sym, ℕ, ◌<◌, ◌∙◌, ◌≡◌, ◌≤◌, ◌⊎◌}
use Rattle.ds_machine.proofs.ActingDues.{acts_then}

-- Of an actor that is the least acting one and of geometry, the one that comes first is the least of all.

-- ---- places, each of a rank at a tick

abbrev pub ComesFirst : ℕ → ℕ → ℕ → ℕ → Type 0
ComesFirst u p t r = (u < t) ⊎ ((u ≡ t) × (p ≤ r))

-- one of two comes first
pub one_first : (u p t r : ℕ) → ComesFirst u p t r ⊎ ComesFirst t r u p
one_first u p t r = elim (low_or_high u t) [
  | inl lt ↦ inl (inl lt)
  | inr le ↦ elim (low_or_high t u) [
    | inl lt ↦ inr (inl lt)
    | inr back ↦ elim (low_or_high r p) [
      | inl high ↦ inr (inr (omega (arith, le, back), omega (arith, high)))
      | inr low ↦ inl (inr (omega (arith, le, back), low))
    ]
  ]
]

then_first : (u p t r at other : ℕ) → ComesFirst u p t r → ComesFirst t r at other → ComesFirst u p at other
then_first u p t r at other one two = elim one [
  | inl a ↦ elim two [ inl c ↦ inl (omega (arith, a, c)) | inr d ↦ (let e = d.0 in inl (omega (arith, a, e))) ]
  | inr b ↦ (let same = b.0 in
      let low = b.1 in
      elim two [ inl c ↦ inl (omega (arith, same, c)) | inr d ↦ (let e = d.0 in let more = d.1 in inr (omega (arith, same, e), omega (arith, low, more))) ])
]

pub not_later : (u p t r : ℕ) → ComesFirst u p t r → u ≤ t
not_later u p t r h = elim h [ inl a ↦ omega (arith, a) | inr b ↦ (let e = b.0 in omega (arith, e)) ]

-- ---- geometry's due tick is one

geometry_due : (s : MachineState) (u : Tick) (other : ℕ) (at : Tick) → s.io.gx.due ≡ Some u → other ≡ geometry_rank → due_at (dues_of s) other ≡ Some at → u ≡ at
geometry_due s u other at due e h =
    same_Some u at (sym due ∙ sym (due_of_rank s geometry_rank (omega arith)) ∙ subst (λ (x : ℕ). due_at (dues_of s) x ≡ Some at) e h)

module _ (s : MachineState) (u : Tick) (due : s.io.gx.due ≡ Some u) where
  pub least_acting : (t : Tick) (r : ℕ) → IsLeast (acting_dues s) t r → due_at (dues_of s) r ≡ Some t → ComesFirst t.0 r u.0 geometry_rank → IsLeast (dues_of s) t r
  least_acting t r least there first = record { there = there; least = go } where
    go : (other : ℕ) (at : Tick) → due_at (dues_of s) other ≡ Some at → (t.0 < at.0) ⊎ ((t.0 ≡ at.0) × (r ≤ other))
    go other at h = elim (acts_then s other at h) [
      | inl e ↦ (let same = geometry_due s u other at due e h in
          subst (λ (x : Tick). ComesFirst t.0 r x.0 other) same (subst (λ (x : ℕ). ComesFirst t.0 r u.0 x) (sym e) first))
      | inr acts ↦ least.least other at acts
    ]

  pub least_geometry : (tick rank : ℕ) → ComesBeforeAll tick rank s → ComesFirst u.0 geometry_rank tick rank → IsLeast (dues_of s) u geometry_rank
  least_geometry tick rank before first = record { there = due_of_rank s geometry_rank (omega arith) ∙ due; least = go } where
    go : (other : ℕ) (at : Tick) → due_at (dues_of s) other ≡ Some at → (u.0 < at.0) ⊎ ((u.0 ≡ at.0) × (geometry_rank ≤ other))
    go other at h = elim (acts_then s other at h) [
      | inl e ↦ (let same = geometry_due s u other at due e h in inr (ap (λ (x : Tick). x.0) same, omega (arith, e)))
      | inr acts ↦ then_first u.0 geometry_rank tick rank at.0 other first (before other at acts)
    ]
