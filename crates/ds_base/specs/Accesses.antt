use Rattle.std.specs.Prelude.{ℕ, List, [], ◌∷◌, Option, Some, None}
use Rattle.ds_base.specs.declared.memories.Width.{Width}
use Rattle.ds_base.specs.declared.left_out.Stop.{Stop}

-- A memory machine: what a processor or a DMA channel reaches through its bus, whatever stands behind it. It answers each fetch, read
-- and write with a value and a next state. (The ARM manual's pseudo-code speaks of it as Memory[address, size].)

-- a memory machine over the states S. Addresses are those that an instruction makes, not aligned
pub record MemoryMachine (S : Type 0) : Type 0 where
  -- what a fetch gives, and the state that it leaves
  pub fetch_value : S → ℕ → Width → ℕ
  pub fetch_next : S → ℕ → Width → S
  -- what a read gives, and the state that it leaves
  pub read_value : S → ℕ → Width → ℕ
  pub read_next : S → ℕ → Width → S
  -- the stop for which a write of a value is refused, if it is, and the state that it leaves, refused or not
  pub refusal : S → ℕ → Width → ℕ → Option Stop
  pub write_next : S → ℕ → Width → ℕ → S

-- an access: its kind, its address, its width, and for a write its value
pub data Access : Type 0 where
  Fetch : (at : ℕ) → (width : Width) → Access
  Read : (at : ℕ) → (width : Width) → Access
  Write : (at : ℕ) → (width : Width) → (value : ℕ) → Access

-- what accesses gave: the values that were fetched and read, in order; the state that they left; and the stop of the write that was
-- refused, which is the last access that was tried
pub record Performed (S : Type 0) : Type 0 where
  pub values : List ℕ
  pub state : S
  pub stop : Option Stop

abbrev pub with_value : {S : Type 0} → ℕ → Performed S → Performed S
with_value value rest = record rest { values = value ∷ rest.values }

-- a refused write ends the accesses; those before it stand
abbrev pub refused_or : {S : Type 0} → Option Stop → S → Performed S → Performed S
refused_or None left rest = rest
refused_or (Some stop) left rest = record { values = []; state = left; stop = Some stop }

-- accesses are made one after another
abbrev pub perform : {S : Type 0} → MemoryMachine S → S → List Access → Performed S
perform m s [] = record { values = []; state = s; stop = None }
perform m s (Fetch at width ∷ rest) = with_value (m.fetch_value s at width) (perform m (m.fetch_next s at width) rest)
perform m s (Read at width ∷ rest) = with_value (m.read_value s at width) (perform m (m.read_next s at width) rest)
perform m s (Write at width value ∷ rest) =
    refused_or (m.refusal s at width value) (m.write_next s at width value) (perform m (m.write_next s at width value) rest)
