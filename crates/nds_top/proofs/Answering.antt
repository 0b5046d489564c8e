use Rattle.nds_top.proofs.Words.{BadState, Bool, ConsoleState, Done, Keep, List, NoMemory, Option, RanFrom, RunsSo, Some, Status, Told, Usage, around}
use Rattle.nds_top.proofs.Words.{max, ℕ, ◌≡◌}
use Rattle.nds_answers.specs.declared.statuses.Status.TheVariants.{NoFile, ReadFault, WriteFault, TooLong, BadHeader, BadScript, LeftOut, BadText}

module _ {F S : Type 0} (told : F → Option Told) (shelf_faults : F → ℕ) (tells : S → Bool) (taken : S → List ℕ → Type 0) (faults : S → ℕ) (shelf_old shelf_new : F) (old new : S) where
  -- what running a console did, in the call
  pub ran_from : (ticks : ℕ) (keep : Keep) (start console : ConsoleState) (status : Status) → ((limit : ℕ) → limit ≡ max start.limit ticks → limit ≡ ticks)
      → RunsSo tells taken faults ticks keep start old status console new
      → RanFrom (around told shelf_faults tells taken faults shelf_old shelf_new old new (Some console)) ticks keep start status
  ran_from ticks keep start console Done at ran = (ran.3, (ran.0, at console.limit ran.2, ran.1))
  ran_from ticks keep start console (LeftOut left) at ran = (ran.2, (ran.0, ran.1))
  ran_from ticks keep start console WriteFault at ran = (ran.1, (ran.2, ran.0))
  ran_from ticks keep start console Usage at ran = absurd ran
  ran_from ticks keep start console NoFile at ran = absurd ran
  ran_from ticks keep start console ReadFault at ran = absurd ran
  ran_from ticks keep start console TooLong at ran = absurd ran
  ran_from ticks keep start console (BadHeader fault) at ran = absurd ran
  ran_from ticks keep start console (BadScript line column) at ran = absurd ran
  ran_from ticks keep start console (BadText line) at ran = absurd ran
  ran_from ticks keep start console (BadState offset) at ran = absurd ran
  ran_from ticks keep start console NoMemory at ran = absurd ran
