use Rattle.ds_machine.proofs.Words.{Access, AreNear, Banks, Cell, DataIsNear, DataStaysNear, Dtcm, Fetch, Instr, IsNearAccess, Itcm, List}
use Rattle.ds_machine.proofs.Words.{MachineState, Meaning, MemoryMachine, Nine, NineReach, None, Nothing, Operation, Option, Past, Place, Port, Proc}
use Rattle.ds_machine.proofs.Words.{Processor, Read, RegisterState, Rom, Seven, SideOf, Some, Tcm, Tick, Write, [], access_observes, and_right}
use Rattle.ds_machine.proofs.Words.{any_observes, ap, arith, data_accesses, enters, false, fetched, inl, inr, is_decoded, is_observed_past}
use Rattle.ds_machine.proofs.Words.{is_observed_place, is_ram, is_steady_port, line_of, nine_memory, nine_reach, nine_side, not, observes_by}
use Rattle.ds_machine.proofs.Words.{operation_meaning, operation_means, operation_of, or_cases, or_from, place_of, port_place, processor_of, refl}
use Rattle.ds_machine.proofs.Words.{subst, sym, tcm_of, tick_of, true, true≢false, ℕ, ◌∙◌, ◌∷◌, ◌≡◌}
use Rattle.ds_machine.proofs.NearAccesses.{is_near_at}
use Rattle.ds_machine.proofs.SteadyPorts.{IsSteadyAt, steady_at}
use Rattle.ds_machine.proofs.RamAccesses.{is_cells, ram_bounds, ram_cells}

-- A step that reaches RAM alone, where no port stands, or loads from a port that isn't observed, observes nothing of geometry.

cells_unobserved : (place : Place) → is_cells place ≡ true → is_observed_place place ≡ false
cells_unobserved (Cell memory at) h = refl
cells_unobserved (Banks space at) h = refl
cells_unobserved (Port at) h = absurd (true≢false (sym h))
cells_unobserved (Rom at) h = refl
cells_unobserved Nothing h = refl

past_unobserved : (t : Tcm) (wramcnt at : ℕ) → is_ram at ≡ true → is_observed_past t wramcnt at ≡ false
past_unobserved (Itcm place) wramcnt at ram = refl
past_unobserved (Dtcm place) wramcnt at ram = refl
past_unobserved Past wramcnt at ram = let b = ram_bounds at ram in cells_unobserved (place_of Nine wramcnt at) (ram_cells Nine wramcnt at b.0 b.1)

steady_unobserved : (t : Tcm) (wramcnt at : ℕ) → IsSteadyAt at → is_observed_past t wramcnt at ≡ false
steady_unobserved (Itcm place) wramcnt at q = refl
steady_unobserved (Dtcm place) wramcnt at q = refl
steady_unobserved Past wramcnt at q = (let high = q.high in ap is_observed_place (port_place Nine wramcnt at q.low (omega (arith, high))) ∙ q.unobserved)

load_unobserved : (t : Tcm) (wramcnt at : ℕ) → is_near_at at ≡ true → is_observed_past t wramcnt at ≡ false
load_unobserved t wramcnt at near = elim (or_cases (is_ram at) (is_steady_port at) near) [
  | inl ram ↦ past_unobserved t wramcnt at ram
  | inr steady ↦ steady_unobserved t wramcnt at (steady_at at steady)
]

one_unobserved : (r : NineReach) (access : Access) → IsNearAccess is_steady_port access → access_observes r access ≡ false
one_unobserved r (Fetch at width) near = refl
one_unobserved r (Read at width) near = load_unobserved (tcm_of r.cp15 at false false) r.map.io.wramcnt at near
one_unobserved r (Write at width value) ram = past_unobserved (tcm_of r.cp15 at true false) r.map.io.wramcnt at ram

all_unobserved : (r : NineReach) (accesses : List Access) → AreNear is_steady_port accesses → any_observes r accesses ≡ false
all_unobserved r [] near = refl
all_unobserved r (access ∷ rest) near = or_from (access_observes r access) (any_observes r rest) (one_unobserved r access near.0) (all_unobserved r rest near.1)

-- ---- of a decoded operation

meant : {S : Type 0} (side : SideOf S) (base : ℕ) (s : RegisterState) (instr : Option Instr) → is_decoded (operation_of instr).op ≡ true
    → AreNear is_steady_port (operation_meaning side.step.arch s (operation_of instr)).accesses → AreNear is_steady_port (data_accesses side.step.arch base s instr)
meant side base s None known near = absurd (true≢false (sym known))
meant side base s (Some instr) known near = subst (λ (m : Meaning). AreNear is_steady_port m.accesses) (sym (operation_means side.step.arch base s instr known)) near

pub near_known : {S : Type 0} (memory : MemoryMachine S) (side : SideOf S) (state : S) (s : RegisterState) (op : Operation)
    → op ≡ operation_of (fetched memory side.step.arch s state).instr → is_decoded op.op ≡ true → AreNear is_steady_port (operation_meaning side.step.arch s op).accesses → DataIsNear memory side s state
near_known memory side state s op e known near =
    meant side (side.step.base state) s (fetched memory side.step.arch s state).instr (subst (λ (o : Operation). is_decoded o.op ≡ true) e known)
    (subst (λ (o : Operation). AreNear is_steady_port (operation_meaning side.step.arch s o).accesses) e near)

-- ---- in the machine

pub near_unobserved : (s : MachineState) (proc : Proc) (tick : Tick) → tick ≡ tick_of (processor_of s proc) → DataStaysNear tick s proc → observes_by (Processor proc) s ≡ false
near_unobserved s Nine tick e near =
    let now = tick_of s.nine.processor in
    let registers = s.nine.processor.registers in
    let r = nine_reach now s in
    let accesses = data_accesses nine_side.step.arch (nine_side.step.base r) registers (fetched nine_memory nine_side.step.arch registers r).instr in
    let there : DataStaysNear now s Nine = subst (λ (t : Tick). DataStaysNear t s Nine) e near in
    and_right (not (enters (line_of s Nine) registers)) (any_observes r accesses) (all_unobserved r accesses there)
near_unobserved s Seven tick e near = refl
