use Rattle.std.specs.Prelude.{ℕ, Option}
use Rattle.ds_base.specs.declared.memories.Width.{Width}
use Rattle.ds_base.specs.declared.processors.Proc.{Proc}
use Rattle.ds_machine.specs.Looks.{looked_of}
use Rattle.run_ahead.specs.Consoles.{ConsoleState}

-- what a processor would read at an address at the tick up to which a console was run, where anything answers
abbrev pub looked_in : ConsoleState → Proc → ℕ → Width → Option ℕ
looked_in c proc at width = looked_of c.machine proc (record { 0 = c.limit }) at width
