use Rattle.std.specs.Prelude.{ℕ, ◌≡◌, Some, None}
use Rattle.ds_runs.specs.Runs.{At, Stopped}
use Rattle.run_ahead.specs.Consoles.{ConsoleState}
use Rattle.nds_words.specs.declared.commands.Keep.{Keep}
use Rattle.nds_answers.specs.declared.statuses.Status.{Status}
use Rattle.nds_answers.specs.declared.statuses.Status.TheVariants.{Done, WriteFault, LeftOut}
use Rattle.nds_plays.specs.Calls.{Call, Seated}
use Rattle.nds_plays.specs.Plays.{Wrote, WroteFront}

-- When each answer comes of running a console to a tick, and what it leaves. Want of memory is free.

-- what running a console to a tick did, by the status
abbrev pub RanFrom : Call → ℕ → Keep → ConsoleState → Status → Type 0
-- the whole output of the reference run from its machine was written, which comes to the tick
RanFrom c ticks keep start Done =
    Seated c ticks start (λ k. Wrote c.wrote ticks keep start (At k.machine) k × (k.limit ≡ ticks) × (k.stopped ≡ None))
-- the whole output of the reference run from its machine was written, which stops there
RanFrom c ticks keep start (LeftOut left) = Seated c ticks start (λ k. Wrote c.wrote ticks keep start (Stopped left) k × (k.stopped ≡ Some left))
-- a front of that output was written, whose end has the count of turns to the end of the run: the console in the seat may be before it
RanFrom c ticks keep start WriteFault = c.out_rose × Seated c ticks start (λ k. WroteFront c.wrote_front ticks keep start)
RanFrom c ticks keep start other = ⊥
