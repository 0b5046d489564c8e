use Rattle.std.specs.Prelude.{ℕ, ◌+◌, ◌%◌, ◌^◌, true, false, if◌then◌else◌, List, [], ◌∷◌, Option, is_some}
use Rattle.ds_base.specs.Accesses.{Access, Fetch, MemoryMachine, Read, Write}
use Rattle.ds_base.specs.declared.left_out.Stop.{Stop}
use Rattle.ds_base.specs.declared.memories.Width.{Width}
use Rattle.ds_base.specs.declared.processors.Proc.{Proc}
use Rattle.ds_base.specs.declared.processors.Proc.TheVariants.{Nine, Seven}
use Rattle.cp15_tcm.specs.TightlyCoupled.{tcm_of}
use Rattle.cp15_tcm.specs.declared.answers.Tcm.{Tcm}
use Rattle.cp15_tcm.specs.declared.answers.Tcm.TheVariants.{Past}
use Rattle.ds_places.specs.AddressTables.{place_of}
use Rattle.ds_places.specs.Waits.{wait_of}
use Rattle.ds_map.specs.Views.{NineReach, SevenReach}

-- How long accesses wait: each by the place that its address names in the state before it (our choice, as the waits of the regions are).

-- past the tightly coupled memories, by what WRAMCNT keeps
unfoldable pub wait_at : Proc → ℕ → ℕ → Width → ℕ
wait_at proc wramcnt at width = wait_of proc (place_of proc wramcnt at) width

-- ARM9's accesses don't wait where a tightly coupled memory answers
abbrev pub tcm_wait : Tcm → ℕ → ℕ → Width → ℕ
tcm_wait Past wramcnt at width = wait_at Nine wramcnt at width
tcm_wait tcm wramcnt at width = 0

abbrev pub nine_wait : NineReach → Access → ℕ
nine_wait r (Fetch at width) = tcm_wait (tcm_of r.cp15 at false true) r.map.io.wramcnt at width
nine_wait r (Read at width) = tcm_wait (tcm_of r.cp15 at false false) r.map.io.wramcnt at width
nine_wait r (Write at width value) = tcm_wait (tcm_of r.cp15 at true false) r.map.io.wramcnt at width

abbrev pub seven_wait : SevenReach → Access → ℕ
seven_wait r (Fetch at width) = wait_at Seven r.map.io.wramcnt at width
seven_wait r (Read at width) = wait_at Seven r.map.io.wramcnt at width
seven_wait r (Write at width value) = wait_at Seven r.map.io.wramcnt at width

-- how long accesses wait that are made one after another; a refused write ends them
abbrev pub unless_refused : Option Stop → ℕ → ℕ
unless_refused refusal waits = if is_some refusal then 0 else waits

abbrev pub waits_of : {S : Type 0} → MemoryMachine S → (S → Access → ℕ) → S → List Access → ℕ
waits_of m wait s [] = 0
waits_of m wait s (Fetch at width ∷ rest) = wait s (Fetch at width) + waits_of m wait (m.fetch_next s at width) rest
waits_of m wait s (Read at width ∷ rest) = wait s (Read at width) + waits_of m wait (m.read_next s at width) rest
waits_of m wait s (Write at width value ∷ rest) =
    wait s (Write at width value) + unless_refused (m.refusal s at width value) (waits_of m wait (m.write_next s at width value) rest)

-- ---- the code's form (our choice): a bus keeps the sum of the waits since its step began, in 32 bits, beside what the processor reaches

pub record Waited (S : Type 0) : Type 0 where
  pub reached : S
  pub waits : ℕ

abbrev pub waited_more : {S : Type 0} → Waited S → ℕ → S → Waited S
waited_more x more next = record { reached = next; waits = (x.waits + more) % 2 ^ 32 }

-- the memory machine that so adds them up
abbrev pub waiting : {S : Type 0} → MemoryMachine S → (S → Access → ℕ) → MemoryMachine (Waited S)
waiting m wait = record {
  fetch_value = λ x at width. m.fetch_value x.reached at width;
  fetch_next = λ x at width. waited_more x (wait x.reached (Fetch at width)) (m.fetch_next x.reached at width);
  read_value = λ x at width. m.read_value x.reached at width;
  read_next = λ x at width. waited_more x (wait x.reached (Read at width)) (m.read_next x.reached at width);
  refusal = λ x at width value. m.refusal x.reached at width value;
  write_next = λ x at width value. waited_more x (wait x.reached (Write at width value)) (m.write_next x.reached at width value);
}
