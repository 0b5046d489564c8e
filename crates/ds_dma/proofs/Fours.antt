use Rattle.ds_dma.proofs.Words.{Channel, DmaState, IsChannel, IsDma, LastUnit, WaitsBriefly, channel_at, same_or_not}
use Rattle.std.proofs.Common.{ℕ, ◌≡◌, ◌<◌, inl, inr, List, [], ◌∷◌, length, map, slice_set, refl, sym, ◌∙◌, subst, arith, get_or-set_same, get_or-set_other, length-set, Option}
use Rattle.std.proofs.lemmas.List.{get_or-map, length-map}

-- four are these four
pub four_are : (channels : List Channel) → length channels ≡ 4
    → channels ≡ channel_at channels 0 ∷ channel_at channels 1 ∷ channel_at channels 2 ∷ channel_at channels 3 ∷ []
four_are [] h = absurd (omega (arith, h))
four_are (a ∷ []) h = absurd (omega (arith, h))
four_are (a ∷ b ∷ []) h = absurd (omega (arith, h))
four_are (a ∷ b ∷ c ∷ []) h = absurd (omega (arith, h))
four_are (a ∷ b ∷ c ∷ d ∷ []) h = refl
four_are (a ∷ b ∷ c ∷ d ∷ e ∷ rest) h = absurd (omega (arith, h))

-- the channel that was put is there, and the others stay
pub set_same : (channels : List Channel) (which : ℕ) (c : Channel) → length channels ≡ 4 → which < 4 → channel_at (slice_set channels which c) which ≡ c
set_same channels which c h l = (let inside : which < length channels = omega (arith, l, h) in get_or-set_same channels which c _ inside)

pub set_holds : (P : Channel → Type 0) (channels : List Channel) (which : ℕ) (c : Channel) → length channels ≡ 4 → which < 4
    → P c → (each : ℕ) → P (channel_at channels each) → P (channel_at (slice_set channels which c) each)
set_holds P channels which c h l put each old = elim (same_or_not each which) [
  | inl e ↦ subst (λ n. P (channel_at (slice_set channels which c) n)) (sym e) (subst P (sym (set_same channels which c h l)) put)
  | inr ne ↦ rw get_or-set_other old
]

-- with another channel in one place they are the channels still
pub are_set : (s : DmaState) (which : ℕ) (c : Channel) (last : Option LastUnit) → IsDma s → which < 4 → IsChannel s.proc which c
    → WaitsBriefly last → IsDma (record s { channels = slice_set s.channels which c; last = last })
are_set s which c last h l p brief = record {
  four = length-set s.channels which c ∙ h.four;
  each = λ i m. elim (same_or_not i which) [
    | inl e ↦ subst (λ n. IsChannel s.proc n (channel_at (slice_set s.channels which c) n)) (sym e) (subst (IsChannel s.proc which) (sym (set_same s.channels which c h.four l)) p)
    | inr ne ↦ rw get_or-set_other (h.each i m)
  ];
  last = brief;
}

-- what is done to each is done to one
pub at_mapped : (f : Channel → Channel) (channels : List Channel) (which : ℕ) → length channels ≡ 4 → which < 4
    → channel_at (map f channels) which ≡ f (channel_at channels which)
at_mapped f channels which h l = get_or-map f channels which _ _ (omega (arith, l, h))

-- and they are the channels still where each is one still
pub mapped_is : (s : DmaState) (f : Channel → Channel) → ((which : ℕ) (c : Channel) → IsChannel s.proc which c → IsChannel s.proc which (f c))
    → IsDma s → IsDma (record s { channels = map f s.channels })
mapped_is s f keeps h = record {
  four = length-map s.channels f ∙ h.four;
  each = λ which l. subst (IsChannel s.proc which) (sym (at_mapped f s.channels which h.four l)) (keeps which (channel_at s.channels which) (h.each which l));
  last = h.last;
}
