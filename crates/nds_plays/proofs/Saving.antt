use Rattle.nds_plays.proofs.Words.{At, ConsoleState, Ending, IsOver, List, Runs, Stopped, TickMachine, ap, more, over, stops, subst, ℕ, ◌∙◌, ◌≡◌}
use Rattle.sha2.specs.Sha256.{sha256}
use Rattle.run_ahead.specs.Saved.{IsReadBack, state_bytes}
use Rattle.nds_plays.specs.States.{ComesBack}

-- where a run ends, nobody is due below its limit
abbrev pub IsOverAt : {S O L : Type 0} → TickMachine S O L → ℕ → Ending S L → Type 0
IsOverAt m limit (At s) = IsOver (m.dues s) limit
IsOverAt m limit (Stopped stop) = Unit {0}

pub ends_over : {S O L : Type 0} (m : TickMachine S O L) (limit : ℕ) (end : Ending S L) (s : S) (outs : List O) → Runs m limit end s outs → IsOverAt m limit end
ends_over m limit end s outs (over s₁ none) = none
ends_over m limit end s outs (stops s₁ after tick rank stop least below halts) = tt
ends_over m limit end s outs (more end₁ s₁ next tick rank outs₁ rest least below goes run) = ends_over m limit end next rest run

-- bytes that are read back by the SHA-256 of the console's file are those of its saved state, which comes back
pub read_again : (digest : List ℕ) (k : ConsoleState) (file bytes : List ℕ) → file ≡ k.machine.file → digest ≡ sha256 file → bytes ≡ state_bytes digest k → IsReadBack digest k bytes → ComesBack k
read_again digest k file bytes same sum is back =
    let digest_is : digest ≡ sha256 k.machine.file = sum ∙ ap (λ (f : List ℕ). sha256 f) same in
    subst (λ (d : List ℕ). IsReadBack d k (state_bytes d k)) digest_is (subst (λ (bs : List ℕ). IsReadBack digest k bs) is back)
