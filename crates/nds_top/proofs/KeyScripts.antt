use Rattle.nds_top.proofs.Words.{AreKeys, KeyLine, List, Named, None, Option, Some, [], arith, subst, sym, ℕ, ◌+◌, ◌<◌, ◌≡◌}
use Rattle.ds_base.specs.KeyLines.{AreKeyLines}

-- the lines of a key script rise
pub keys_rise : (files : Option (List Named)) (keys : Option (List ℕ)) (lines : List KeyLine) → AreKeys files keys lines → AreKeyLines lines
keys_rise files None lines are =
    subst AreKeyLines (sym are) (record { rising = λ at l. absurd (omega (arith, l)); twelve = λ at l. absurd (omega (arith, l)) })
keys_rise files (Some name) lines are = are.2.good.rise
