use Rattle.ds_machine.proofs.Words.{Banks, Bool, Cell, IoState, MapState, Nine, NineReach, None, Nothing, Own7, Place, Port, Proc, RefusesNoneInRam}
use Rattle.ds_machine.proofs.Words.{Rom, Seven, Shared, Tcm, Tick, Width, after_read_at, arith, false, if◌then◌else◌, in_row, inl, inr, is_guarded}
use Rattle.ds_machine.proofs.Words.{is_ram, low_or_high, map_read, map_refusal, map_written, meets_guard, memory_size, nine_memory, past_row}
use Rattle.ds_machine.proofs.Words.{place_of, refl, refusal_at, seven_memory, shared_for_nine, sym, tcm_of, tcm_refusal, tcm_written, true}
use Rattle.ds_machine.proofs.Words.{true≢false, written_at, ℕ, ◌-◌, ◌<◌, ◌==◌, ◌≡◌, ◌≤◌}
use Rattle.ds_places.specs.AddressTables.{Cells, Empty, place_at, is_of_region, main_region, own_region, shared_for_seven}
use Rattle.cp15_tcm.specs.declared.answers.Tcm.TheVariants as tcm

-- RAM, 2000000h to 3FFFFFFh, are cells for both processors, or nothing is there: no access of them changes a unit.

-- ---- what stands there

-- cells of a memory, or nothing
abbrev pub is_cells : Place → Bool
is_cells (Cell memory at) = true
is_cells (Banks space at) = false
is_cells (Port at) = false
is_cells (Rom at) = false
is_cells Nothing = true

-- shared work RAM, whatever WRAMCNT says
shared_nine : (w offset : ℕ) → is_cells (place_at (shared_for_nine w) offset) ≡ true
shared_nine w offset = by_tests (w == 0) (w == 1) (w == 2) where
  by_tests : (a b c : Bool) → is_cells (place_at (
      if a then Cells Shared 0 (memory_size Shared) else (if b then Cells Shared 0x4000 0x4000 else (if c then Cells Shared 0 0x4000 else Empty))) offset) ≡ true
  by_tests true b c = refl
  by_tests false true c = refl
  by_tests false false true = refl
  by_tests false false false = refl

shared_seven : (w offset : ℕ) → is_cells (place_at (shared_for_seven w) offset) ≡ true
shared_seven w offset = by_tests (w == 0) (w == 1) (w == 2) where
  by_tests : (a b c : Bool) → is_cells (place_at (
      if a then Cells Own7 0 (memory_size Own7) else (
      if b then Cells Shared 0 0x4000 else (if c then Cells Shared 0x4000 0x4000 else Cells Shared 0 (memory_size Shared)))) offset) ≡ true
  by_tests true b c = refl
  by_tests false true c = refl
  by_tests false false true = refl
  by_tests false false false = refl

pub ram_cells : (proc : Proc) (w at : ℕ) → 0x02000000 ≤ at → at < 0x04000000 → is_cells (place_of proc w at) ≡ true
ram_cells Nine w at low high = elim (low_or_high at 0x03000000) [
  | inl below ↦ rw (in_row 0x02000000 0x02FFFFFF at low (omega (arith, below))) refl
  | inr above ↦
      rw (past_row 0x02000000 0x02FFFFFF at (omega (arith, above)), in_row 0x03000000 0x03FFFFFF at above (omega (arith, high))) (shared_nine w (at - 0x03000000))
]
ram_cells Seven w at low high = rw (past_row 0x00000000 0x00003FFF at (omega (arith, low))) (elim (low_or_high at 0x03000000) [
  | inl below ↦ rw (in_row 0x02000000 0x02FFFFFF at low (omega (arith, below))) refl
  | inr above ↦ rw (past_row 0x02000000 0x02FFFFFF at (omega (arith, above))) (elim (low_or_high at 0x03800000) [
    | inl shared ↦ rw (in_row 0x03000000 0x037FFFFF at above (omega (arith, shared))) (shared_seven w (at - 0x03000000))
    | inr own ↦ rw (past_row 0x03000000 0x037FFFFF at (omega (arith, own)), in_row 0x03800000 0x03FFFFFF at own (omega (arith, high))) refl
  ])
])

-- an address of them
pub ram_bounds : (at : ℕ) → is_ram at ≡ true → (0x02000000 ≤ at) × (at < 0x04000000)
ram_bounds at h = grind arith

-- main memory and ARM7's own work RAM are
pub main_is_ram : (at : ℕ) → 0x02000000 ≤ at → at ≤ 0x02FFFFFF → is_ram at ≡ true
main_is_ram at low high = grind (arith, low, high)

pub main_region_is_ram : (at : ℕ) → is_of_region main_region at ≡ true → is_ram at ≡ true
main_region_is_ram at h = grind arith

pub own_region_is_ram : (at : ℕ) → is_of_region own_region at ≡ true → is_ram at ≡ true
own_region_is_ram at h = grind arith

-- ---- no access of them changes a unit

put_io : (proc : Proc) (now : Tick) (place : Place) (m : MapState) (width : Width) (value : ℕ) → is_cells place ≡ true → (written_at proc now place m width value).io ≡ m.io
put_io proc now (Cell memory at) m width value h = refl
put_io proc now (Banks space at) m width value h = absurd (true≢false (sym h))
put_io proc now (Port at) m width value h = absurd (true≢false (sym h))
put_io proc now (Rom at) m width value h = refl
put_io proc now Nothing m width value h = refl

unchanged_io : (proc : Proc) (now : Tick) (place : Place) (m : MapState) (width : Width) → is_cells place ≡ true → (after_read_at proc now place m width).io ≡ m.io
unchanged_io proc now (Cell memory at) m width h = refl
unchanged_io proc now (Banks space at) m width h = refl
unchanged_io proc now (Port at) m width h = absurd (true≢false (sym h))
unchanged_io proc now (Rom at) m width h = refl
unchanged_io proc now Nothing m width h = refl

pub ram_read_io : (proc : Proc) (now : Tick) (m : MapState) (at : ℕ) (width : Width) → is_ram at ≡ true → (map_read proc now m at width).io ≡ m.io
unfolding map_read
ram_read_io proc now m at width ram =
    let b = ram_bounds at ram in
    unchanged_io proc now (place_of proc m.io.wramcnt at) m width (ram_cells proc m.io.wramcnt at b.0 b.1)

pub ram_write_io : (proc : Proc) (now : Tick) (m : MapState) (at : ℕ) (width : Width) (value : ℕ) → 0x02000000 ≤ at → at < 0x04000000 → (map_written proc now m at width value).io ≡ m.io
unfolding map_written
ram_write_io proc now m at width value low high = put_io proc now (place_of proc m.io.wramcnt at) m width value (ram_cells proc m.io.wramcnt at low high)

pub write_io : (proc : Proc) (now : Tick) (m : MapState) (at : ℕ) (width : Width) (value : ℕ) → is_ram at ≡ true → (map_written proc now m at width value).io ≡ m.io
write_io proc now m at width value ram = let b = ram_bounds at ram in ram_write_io proc now m at width value b.0 b.1

-- also where a tightly coupled memory answers
pub ram_tcm_writes : (t : Tcm) (r : NineReach) (at : ℕ) (width : Width) (value : ℕ) → is_ram at ≡ true → (tcm_written t r at width value).map.io ≡ r.map.io
ram_tcm_writes (tcm.Itcm place) r at width value ram = refl
ram_tcm_writes (tcm.Dtcm place) r at width value ram = refl
ram_tcm_writes tcm.Past r at width value ram = write_io Nine r.now r.map at width value ram

-- ---- no access of them is refused

cells_refuse_none : (proc : Proc) (place : Place) (m : MapState) (width : Width) (value : ℕ) → is_cells place ≡ true → refusal_at proc place m width value ≡ None
cells_refuse_none proc (Cell memory at) m width value h = refl
cells_refuse_none proc (Banks space at) m width value h = refl
cells_refuse_none proc (Port at) m width value h = absurd (true≢false (sym h))
cells_refuse_none proc (Rom at) m width value h = refl
cells_refuse_none proc Nothing m width value h = refl

refuses_none : (proc : Proc) (m : MapState) (at : ℕ) (width : Width) (value : ℕ) → is_ram at ≡ true → map_refusal proc m at width value ≡ None
unfolding map_refusal
refuses_none proc m at width value ram =
    let b = ram_bounds at ram in
    cells_refuse_none proc (place_of proc m.io.wramcnt at) m width value (ram_cells proc m.io.wramcnt at b.0 b.1)

tcm_refuses_none : (t : Tcm) (r : NineReach) (at : ℕ) (width : Width) (value : ℕ) → is_ram at ≡ true → tcm_refusal t r at width value ≡ None
tcm_refuses_none (tcm.Itcm place) r at width value ram = refl
tcm_refuses_none (tcm.Dtcm place) r at width value ram = refl
tcm_refuses_none tcm.Past r at width value ram = refuses_none Nine r.map at width value ram

pub nine_refuses_none : RefusesNoneInRam nine_memory
nine_refuses_none r at width value ram = tcm_refuses_none (tcm_of r.cp15 at true false) r at width value ram

pub seven_refuses_none : RefusesNoneInRam seven_memory
seven_refuses_none r at width value ram = refuses_none Seven r.map at width value ram

-- ---- a write of them is ignored by no bus

cells_meet_none : (proc : Proc) (where_ : Place) (u : IoState) → is_cells where_ ≡ true → meets_guard proc where_ u ≡ false
cells_meet_none proc (Port at) u h = absurd (true≢false (sym h))
cells_meet_none proc _ u h = refl

pub ram_unguarded : (proc : Proc) (m : MapState) (at : ℕ) → 0x02000000 ≤ at → at < 0x04000000 → is_guarded proc m at ≡ false
ram_unguarded proc m at low high = cells_meet_none proc (place_of proc m.io.wramcnt at) m.io (ram_cells proc m.io.wramcnt at low high)
