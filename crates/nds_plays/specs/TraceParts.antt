use Rattle.std.specs.Prelude.{ℕ, ◌≡◌, ◌⊎◌, nat_lt, if◌then◌else◌, List, [], Option, option_to_list}
use Rattle.ds_base.specs.declared.processors.Proc.{Proc}
use Rattle.ds_base.specs.declared.ticks.Due.{Due}
use Rattle.ds_machine.specs.Acting.{IsActing}
use Rattle.ds_machine.specs.Reference.{Shown}
use Rattle.ds_machine.specs.States.{MachineState}
use Rattle.run_ahead.specs.Consoles.{ConsoleState}
use Rattle.run_ahead.specs.TickTurns.{StopsActing, TakesActing}
use Rattle.run_ahead.specs.Turns.{TakesQuiet, one_more_turn, run_to}
use Rattle.nds_plays.specs.Watches.{step_lines}
use Rattle.nds_plays.specs.declared.steps.Taken.{Taken}
use Rattle.nds_plays.specs.declared.steps.Taken.TheVariants.{Step, Stop}

-- What the code's parts say of one another. No public clause speaks of it.

-- the line of the actor that acts next, where it is the processor and acts below a limit
abbrev pub line_below : ℕ → Proc → Due → MachineState → List (List ℕ)
line_below limit proc acting s = if nat_lt acting.tick.0 limit then step_lines proc acting.rank acting.tick s else []

pub record IsLineDue (limit : ℕ) (proc : Proc) (s : MachineState) (line : Option (List ℕ)) : Type 0 where
  pub acting : Due
  pub acts : IsActing s acting
  pub is : option_to_list line ≡ line_below limit proc acting s

-- what a turn of one tick took: the step of the actor that acts, or those of quiet geometry alone
abbrev pub TakesTick : ℕ → MachineState → MachineState → Type 0
TakesTick limit old new = ((outs : List Shown) × TakesActing limit old outs new) ⊎ TakesQuiet limit old new

-- what it did to a console that hadn't stopped: it took them, and counts, or it met a stop
abbrev pub Took : ℕ → ConsoleState → Taken → ConsoleState → Type 0
Took limit old Step new = TakesTick limit old.machine new.machine × (new ≡ one_more_turn (run_to old limit new.machine))
Took limit old (Stop left) new = StopsActing limit old.machine left new.machine
