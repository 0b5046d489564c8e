use Rattle.ds_machine.proofs.Words.{Access, Arch, AreNear, Bool, Dtcm, Fetch, IoState, Itcm, List, MapState, Meaning, Nine, NineReach, None, Option}
use Rattle.ds_machine.proofs.Words.{Past, Performed, Proc, Read, RegisterState, Seven, SevenReach, Some, Stop, Tcm, Tick, V4, V5, Width, Write, []}
use Rattle.ds_machine.proofs.Words.{ap, arith, carried_out, concluded, false, inl, inr, is_ram, is_steady_port, map_read, nine_memory, or_cases}
use Rattle.ds_machine.proofs.Words.{perform, refl, refused_or, seven_memory, suc, tcm_of, tcm_read, true, zero, ℕ, ◌<◌, ◌||◌, ◌∙◌, ◌∷◌, ◌≡◌}
use Rattle.ds_machine.proofs.PortReads.{read_io}
use Rattle.ds_machine.proofs.SteadyPorts.{steady_at}
use Rattle.ds_machine.proofs.RamAccesses.{ram_read_io, ram_tcm_writes, write_io}

-- No access of RAM changes a unit, nor does a load from a port of which a read changes none.

abbrev pub is_near_at : ℕ → Bool
is_near_at at = is_ram at || is_steady_port at

-- ---- a load from there

near_read : (proc : Proc) (now : Tick) (m : MapState) (at : ℕ) (width : Width) → is_near_at at ≡ true → (map_read proc now m at width).io ≡ m.io
near_read proc now m at width near = elim (or_cases (is_ram at) (is_steady_port at) near) [
  | inl ram ↦ ram_read_io proc now m at width ram
  | inr steady ↦ (let q = steady_at at steady in read_io proc now m at width q.low q.high)
]

-- also where a tightly coupled memory answers
tcm_reads : (t : Tcm) (r : NineReach) (at : ℕ) (width : Width) → is_near_at at ≡ true → (tcm_read t r at width).map.io ≡ r.map.io
tcm_reads (Itcm place) r at width near = refl
tcm_reads (Dtcm place) r at width near = refl
tcm_reads Past r at width near = near_read Nine r.now r.map at width near

-- ---- of each access

-- a write leaves what it leaves, refused or not
write_unchanged : {S : Type 0} (stop : Option Stop) (left : S) (rest : Performed S) (io : S → IoState) → io rest.state ≡ io left → io (refused_or stop left rest).state ≡ io left
write_unchanged None left rest io h = h
write_unchanged (Some stop) left rest io h = refl

nine_io : (r : NineReach) (accesses : List Access) → AreNear is_steady_port accesses → (perform nine_memory r accesses).state.map.io ≡ r.map.io
nine_io r [] near = refl
nine_io r (Fetch at width ∷ rest) near = nine_io r rest near.1
nine_io r (Read at width ∷ rest) near =
    let left : NineReach = nine_memory.read_next r at width in nine_io left rest near.1 ∙ tcm_reads (tcm_of r.cp15 at false false) r at width near.0
nine_io r (Write at width value ∷ rest) near =
    let left : NineReach = nine_memory.write_next r at width value in
    write_unchanged (nine_memory.refusal r at width value) left (perform nine_memory left rest) (λ x. x.map.io) (nine_io left rest near.1)
    ∙ ram_tcm_writes (tcm_of r.cp15 at true false) r at width value near.0

seven_io : (r : SevenReach) (accesses : List Access) → AreNear is_steady_port accesses → (perform seven_memory r accesses).state.map.io ≡ r.map.io
seven_io r [] near = refl
seven_io r (Fetch at width ∷ rest) near = seven_io r rest near.1
seven_io r (Read at width ∷ rest) near =
    let left : SevenReach = seven_memory.read_next r at width in seven_io left rest near.1 ∙ near_read Seven r.now r.map at width near.0
seven_io r (Write at width value ∷ rest) near =
    let left : SevenReach = seven_memory.write_next r at width value in
    write_unchanged (seven_memory.refusal r at width value) left (perform seven_memory left rest) (λ x. x.map.io) (seven_io left rest near.1)
    ∙ write_io Seven r.now r.map at width value near.0

-- ---- so none does that an operation makes

state_left : {S : Type 0} (arch : Arch) (old : RegisterState) (m : Meaning) (done : Performed S) (stop : Option Stop) → (concluded arch old m done stop).state ≡ done.state
state_left arch old m done None = refl
state_left arch old m done (Some stop) = refl

-- where it is run, by its cost, and where it isn't
pub nine_stays : (cost : ℕ) (s : RegisterState) (r after : NineReach) (m : Meaning) → (cost ≡ 0 → after ≡ r)
    → (0 < cost → after ≡ (carried_out nine_memory V5 s r m).state) → (0 < cost → AreNear is_steady_port m.accesses) → after.map.io ≡ r.map.io
nine_stays zero s r after m none some near = ap (λ (x : NineReach). x.map.io) (none refl)
nine_stays (suc cost) s r after m none some near =
    let done : Performed NineReach = perform nine_memory r m.accesses in
    ap (λ (x : NineReach). x.map.io) (some (omega arith) ∙ state_left V5 s m done done.stop) ∙ nine_io r m.accesses (near (omega arith))

pub seven_stays : (cost : ℕ) (s : RegisterState) (r after : SevenReach) (m : Meaning) → (cost ≡ 0 → after ≡ r)
    → (0 < cost → after ≡ (carried_out seven_memory V4 s r m).state) → (0 < cost → AreNear is_steady_port m.accesses) → after.map.io ≡ r.map.io
seven_stays zero s r after m none some near = ap (λ (x : SevenReach). x.map.io) (none refl)
seven_stays (suc cost) s r after m none some near =
    let done : Performed SevenReach = perform seven_memory r m.accesses in
    ap (λ (x : SevenReach). x.map.io) (some (omega arith) ∙ state_left V4 s m done done.stop) ∙ seven_io r m.accesses (near (omega arith))
