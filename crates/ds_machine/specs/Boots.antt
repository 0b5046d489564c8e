use Rattle.std.specs.Prelude.{ℕ, ◌+◌, List, [], ◌∷◌}
use Rattle.ds_base.specs.declared.memories.Width.TheVariants.{Byte}
use Rattle.ds_base.specs.declared.processors.Proc.{Proc}
use Rattle.ds_map.specs.Accesses.{map_written}
use Rattle.ds_machine.specs.States.{MachineState}
use Rattle.ds_machine.specs.Steps.{map_of, with_map}

-- What boot copies: an image goes byte by byte to where its processor sees the addresses, past the tightly coupled memories (our choice
-- of a direct boot; GBATEK, "DS Memory Map").

-- a byte stored at an address, at tick 0
abbrev pub stored : Proc → MachineState → ℕ → ℕ → MachineState
stored proc s at byte = with_map proc s (map_written proc (record { 0 = 0 }) (map_of proc s) at Byte byte)

-- bytes stored one after another from an address on
abbrev pub copied : Proc → MachineState → ℕ → List ℕ → MachineState
copied proc s at [] = s
copied proc s at (byte ∷ rest) = copied proc (stored proc s at byte) (at + 1) rest
