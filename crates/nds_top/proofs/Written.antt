use Rattle.nds_top.proofs.Words.{Bool, List, [], subst, sym, ℕ, ◌≡◌}
use Rattle.ds_io.specs.Sinks.{Appended}
use Rattle.ds_io.proofs.SinkLemmas.{append_none}

-- a sink that is as it was has nothing more
pub none_written : {S : Type 0} (tells : S → Bool) (taken : S → List ℕ → Type 0) (old new : S) → new ≡ old → Appended tells taken old new []
none_written {S} tells taken old new same = subst (λ (x : S). Appended tells taken old x []) (sym same) (append_none tells taken old)
