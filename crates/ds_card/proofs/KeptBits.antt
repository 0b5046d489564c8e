use Rattle.std.proofs.Common.{ℕ, ◌≡◌, ◌*◌, ◌/◌, ◌%◌, true, List, [], ◌∷◌, length, arith}
use Rattle.ds_base.proofs.Choices.{is_equal}
use Rattle.ds_card.specs.CardPorts.{kept_auxspicnt}
use Rattle.ds_card.specs.Saved.{keeps_auxspicnt}

-- An AUXSPICNT whose other bits became 0 has the kept bits alone.

pub auxspicnt_kept : (port : List ℕ) → length port ≡ 2 → keeps_auxspicnt 0 (kept_auxspicnt port) ≡ true
auxspicnt_kept [] two = absurd (omega (arith, two))
auxspicnt_kept (low ∷ []) two = absurd (omega (arith, two))
auxspicnt_kept (low ∷ high ∷ []) two = is_equal (high / 32 * 32 % 32) 0 (omega arith)
auxspicnt_kept (low ∷ high ∷ more ∷ rest) two = absurd (omega (arith, two))
