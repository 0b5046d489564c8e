use Rattle.ds_machine.proofs.Words.{KeyLine, List, [], ap, arith, false, if_false, if_true, length, nat_lt, refl, script_from, starts_before, sym}
use Rattle.ds_machine.proofs.Words.{true, true≢false, ℕ, ◌<◌, ◌∙◌, ◌∷◌, ◌≡◌}

-- The lines of a key script that are due at a tick or later.

pub line_past : (at : ℕ) (line : KeyLine) (old new : List KeyLine) → old ≡ line ∷ new → starts_before at old ≡ true → script_from at new ≡ script_from at old
line_past at line old new is before =
    let early : nat_lt line.tick.0 at ≡ true = ap (λ (lines : List KeyLine). starts_before at lines) (sym is) ∙ before in
    sym (ap (λ (lines : List KeyLine). script_from at lines) is ∙ if_true (nat_lt line.tick.0 at) (script_from at new) (line ∷ new) early)

pub some_left : (at : ℕ) (lines : List KeyLine) → starts_before at lines ≡ true → 0 < length lines
some_left at [] h = absurd (true≢false (sym h))
some_left at (line ∷ lines) h = omega arith

pub none_before : (at : ℕ) (lines : List KeyLine) → starts_before at lines ≡ false → script_from at lines ≡ lines
none_before at [] h = refl
none_before at (line ∷ lines) h = if_false (nat_lt line.tick.0 at) (script_from at lines) (line ∷ lines) h
