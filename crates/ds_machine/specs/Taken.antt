use Rattle.std.specs.Prelude.{ℕ}
use Rattle.ds_machine.specs.SavedParts.{Around, made_io, made_machine}
use Rattle.ds_machine.specs.States.{MachineState}
use Rattle.ds_machine.specs.declared.saved.Taken.{Taken}

-- The machine of what the code took from bytes, with what isn't saved with it, at a tick. No public clause speaks of it.
abbrev pub taken_machine : Around → ℕ → Taken → MachineState
taken_machine around at t =
    made_machine around at t.processors t.memories (made_io at t.processors t.memories.vram t.units t.channels t.video t.gx t.card)
