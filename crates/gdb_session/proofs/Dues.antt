use Rattle.gdb_session.proofs.Words.{TapeState, ap, dues_of, ℕ, ◌∙◌, ◌≡◌}
use Rattle.std.proofs.Common.{Option}
use Rattle.ds_base.specs.declared.processors.Proc.{Proc}
use Rattle.ds_base.specs.declared.ticks.Tick.{Tick}
use Rattle.ds_runs.specs.Runs.{due_at}
use Rattle.ds_machine.specs.Private.{rank_of}

-- When a tape's processor is due.

pub due_in : (t now : TapeState) (proc : Proc) (rank : ℕ) (due : Option Tick) → t ≡ now → rank ≡ rank_of proc → due ≡ due_at (dues_of t.console.machine) rank
    → due ≡ due_at (dues_of now.console.machine) (rank_of proc)
due_in t now proc rank due same is at =
    at ∙ ap (λ (r : ℕ). due_at (dues_of t.console.machine) r) is ∙ ap (λ (s : TapeState). due_at (dues_of s.console.machine) (rank_of proc)) same
