use Rattle.vram_banks.proofs.Words.{AreBanks, Banks, List, [], arith, length, refl, rules, slice_index, ℕ, ◌∷◌, ◌≡◌}
use Rattle.vram_banks.specs.Saved.{BanksAreSaved, banks_format, banks_size}
use Rattle.ds_state.proofs.Standing.{IsExact, StandsFor}
use Rattle.ds_state.proofs.Exact.{one_spelling, round_trips}

-- What video memory owes of its format.

banks_exact : (at : ℕ) → IsExact banks_format at
unfolding banks_format
banks_exact at = λ bytes _ _ a _ _ b _ _ c _ _ d _ _ e _ _ f _ _ g _ _ h _ _ i _ _. search rules

-- nine numbers are those of their places
nine_again : (cs : List ℕ) → length cs ≡ 9 →
    slice_index cs 0 ∷ slice_index cs 1 ∷ slice_index cs 2 ∷ slice_index cs 3 ∷ slice_index cs 4 ∷ slice_index cs 5 ∷ slice_index cs 6
    ∷ slice_index cs 7 ∷ slice_index cs 8 ∷ [] ≡ cs
nine_again [] nine = absurd (omega (arith, nine))
nine_again (a ∷ []) nine = absurd (omega (arith, nine))
nine_again (a ∷ b ∷ []) nine = absurd (omega (arith, nine))
nine_again (a ∷ b ∷ c ∷ []) nine = absurd (omega (arith, nine))
nine_again (a ∷ b ∷ c ∷ d ∷ []) nine = absurd (omega (arith, nine))
nine_again (a ∷ b ∷ c ∷ d ∷ e ∷ []) nine = absurd (omega (arith, nine))
nine_again (a ∷ b ∷ c ∷ d ∷ e ∷ f ∷ []) nine = absurd (omega (arith, nine))
nine_again (a ∷ b ∷ c ∷ d ∷ e ∷ f ∷ g ∷ []) nine = absurd (omega (arith, nine))
nine_again (a ∷ b ∷ c ∷ d ∷ e ∷ f ∷ g ∷ h ∷ []) nine = absurd (omega (arith, nine))
nine_again (a ∷ b ∷ c ∷ d ∷ e ∷ f ∷ g ∷ h ∷ i ∷ []) nine = refl
nine_again (a ∷ b ∷ c ∷ d ∷ e ∷ f ∷ g ∷ h ∷ i ∷ j ∷ rest) nine = absurd (omega (arith, nine))

long_enough : (bytes : List ℕ) → length bytes ≡ 0xA4000 → length bytes ≡ banks_size
unfolding banks_size
long_enough bytes long = long

pub banks_stand : (at : ℕ) (v : Banks) → AreBanks v → StandsFor banks_format at v
unfolding banks_format
banks_stand at v are =
    let long = long_enough v.bytes are.bytes in
    let again = nine_again v.controls are.controls in
    let a = are.each 0 (omega arith) in let b = are.each 1 (omega arith) in let c = are.each 2 (omega arith) in
    let d = are.each 3 (omega arith) in let e = are.each 4 (omega arith) in let f = are.each 5 (omega arith) in
    let g = are.each 6 (omega arith) in let h = are.each 7 (omega arith) in let i = are.each 8 (omega arith) in
    let a0 = a.small in let b0 = b.small in let c0 = c.small in let d0 = d.small in let e0 = e.small in let f0 = f.small in
    let g0 = g.small in let h0 = h.small in let i0 = i.small in
    let a1 = a.kept in let b1 = b.kept in let c1 = c.kept in let d1 = d.kept in let e1 = e.kept in let f1 = f.kept in
    let g1 = g.kept in let h1 = h.kept in let i1 = i.kept in
    (search rules, rw again refl)

pub banks_saved : BanksAreSaved
banks_saved = record {
  back = λ at v are. round_trips banks_format at v (banks_stand at v are);
  spelling = λ at. one_spelling banks_format at (banks_exact at);
}
