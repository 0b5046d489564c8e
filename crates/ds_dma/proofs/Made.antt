use Rattle.ds_dma.proofs.Words.{Channel, HasEarlyTicks, IsChannel, IsDma, IsEarly, LastUnit, Proc, WaitsBriefly, channel_at, last_tick}
use Rattle.std.proofs.Common.{ℕ, zero, suc, ◌<◌, [], ◌∷◌, Option, refl, arith}

-- Four that are each a channel in their place are the channels.

each_is : (proc : Proc) (a b c d : Channel) → IsChannel proc 0 a → IsChannel proc 1 b → IsChannel proc 2 c → IsChannel proc 3 d
    → (which : ℕ) → which < 4 → IsChannel proc which (channel_at (a ∷ b ∷ c ∷ d ∷ []) which)
each_is proc a b c d p q r s zero l = p
each_is proc a b c d p q r s (suc zero) l = q
each_is proc a b c d p q r s (suc (suc zero)) l = r
each_is proc a b c d p q r s (suc (suc (suc zero))) l = s
each_is proc a b c d p q r s (suc (suc (suc (suc n)))) l = absurd (omega (arith, l))

pub four_made : (proc : Proc) (a b c d : Channel) (last : Option LastUnit) → IsChannel proc 0 a → IsChannel proc 1 b → IsChannel proc 2 c
    → IsChannel proc 3 d → WaitsBriefly last → IsDma (record { proc = proc; channels = a ∷ b ∷ c ∷ d ∷ []; last = last })
four_made proc a b c d last p q r s brief = record { four = refl; each = each_is proc a b c d p q r s; last = brief }

each_early : (a b c d : Channel) → IsEarly a.trigger → IsEarly b.trigger → IsEarly c.trigger → IsEarly d.trigger
    → (which : ℕ) → which < 4 → IsEarly (channel_at (a ∷ b ∷ c ∷ d ∷ []) which).trigger
each_early a b c d p q r s zero l = p
each_early a b c d p q r s (suc zero) l = q
each_early a b c d p q r s (suc (suc zero)) l = r
each_early a b c d p q r s (suc (suc (suc zero))) l = s
each_early a b c d p q r s (suc (suc (suc (suc n)))) l = absurd (omega (arith, l))

pub early_made : (proc : Proc) (a b c d : Channel) (last : Option LastUnit) → IsEarly a.trigger → IsEarly b.trigger → IsEarly c.trigger
    → IsEarly d.trigger → IsEarly (last_tick last) → HasEarlyTicks (record { proc = proc; channels = a ∷ b ∷ c ∷ d ∷ []; last = last })
early_made proc a b c d last p q r s early = record { trigger = each_early a b c d p q r s; last = early }
