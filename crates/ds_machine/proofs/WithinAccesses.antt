use Rattle.ds_machine.proofs.Words.{DmaState, DmaUnit, Dtcm, Instr, IoState, IsSome, Itcm, MachineState, MapState, Moved, Nine, NineReach, None}
use Rattle.ds_machine.proofs.Words.{Option, Past, Place, Proc, RegisterState, Seven, SevenReach, Some, Stop, Tcm, Tick, Vram, Width, after_read_at}
use Rattle.ds_machine.proofs.Words.{aligned_down, arm7, arm9, dma_due, either, false, io_of, is_byte_of_nine, line_of, map_after_unit, map_read}
use Rattle.ds_machine.proofs.Words.{map_read_leaves, map_value, map_written, move_of, nine_executed, nine_memory, nine_reach, nine_side, outcome_of}
use Rattle.ds_machine.proofs.Words.{place_of, refl, seven_memory, seven_reach, seven_side, subst, sym, takes_no_bytes, tcm_of, tcm_read, tcm_written}
use Rattle.ds_machine.proofs.Words.{true, unit_read, unit_taken, unit_waits, unit_waits_most, vram_written, written_at, ℕ, ◌&&◌, ◌<◌, ◌≤◌}
use Rattle.ds_ports.specs.Ports.{port_refusal, port_written, unless_stopped}
use Rattle.ds_ports.proofs.WithinPorts.{Stays, beside_all, read_stays, write_stays}
use Rattle.ds_places.specs.declared.kinds.Place.TheVariants as place
use Rattle.ds_ports.proofs.WithinEvents.{move_stays}
use Rattle.ds_machine.proofs.Keeps.{Follows, taken_follows, word_follows}

-- What a processor's step, or a unit of DMA, makes of the units below a limit keeps them within it.

module _ (limit : ℕ) where
  -- ---- the map

  module _ (proc : Proc) (now : Tick) (lt : now.0 < limit) where
    place_reads : (where_ : Place) (m : MapState) (width : Width) → Stays limit m.io → Stays limit (after_read_at proc now where_ m width).io
    place_reads (place.Cell memory at) m width h = h
    place_reads (place.Banks space at) m width h = h
    place_reads (place.Port at) m width h = read_stays limit proc now lt m.io (aligned_down width at) width h
    place_reads (place.Rom at) m width h = h
    place_reads place.Nothing m width h = h

    pub map_reads : (m : MapState) (at : ℕ) (width : Width) → Stays limit m.io → Stays limit (map_read proc now m at width).io
    unfolding map_read
    map_reads m at width h = place_reads (place_of proc m.io.wramcnt at) m width h

    unless_stays : (stop : Option Stop) (u v : IoState) → Stays limit u → Stays limit v → Stays limit (unless_stopped stop u v)
    unless_stays None u v h k = k
    unless_stays (Some stop) u v h k = h

    place_writes : (where_ : Place) (m : MapState) (width : Width) (value : ℕ) → Stays limit m.io → Stays limit (written_at proc now where_ m width value).io
    place_writes (place.Cell memory at) m width value h = h
    place_writes (place.Banks space at) m width value h =
        let vram = vram_written m.io.vram space at width value in
        either (λ (x : MapState). Stays limit x.io) (is_byte_of_nine proc width && takes_no_bytes Vram) m (record m { io = record m.io { vram = vram } }) h
        (beside_all limit m.io (record m.io { vram = vram }) refl refl refl refl refl refl refl refl h)
    place_writes (place.Port at) m width value h =
        let down = aligned_down width at in
        unless_stays (port_refusal proc m.io down width value) m.io (port_written proc now m.io down width value) h
        (write_stays limit proc now lt m.io down width value h)
    place_writes (place.Rom at) m width value h = h
    place_writes place.Nothing m width value h = h

    pub map_writes : (m : MapState) (at : ℕ) (width : Width) (value : ℕ) → Stays limit m.io → Stays limit (map_written proc now m at width value).io
    unfolding map_written
    map_writes m at width value h = place_writes (place_of proc m.io.wramcnt at) m width value h

  -- ---- a processor's step: its accesses are made at the same tick

  abbrev Stand : Tick → IoState → Type 0
  Stand now u = (now.0 < limit) × Stays limit u

  seven_follows : Follows seven_memory (λ (r : SevenReach). Stand r.now r.map.io) (λ (r t : SevenReach). Stand t.now t.map.io)
  seven_follows = record {
    stays = λ r i. i;
    joins = λ r t u one two. two;
    ends = λ r t one. one;
    fetches = λ r at width i. i;
    reads = λ r at width i. (i.0, map_reads Seven r.now i.0 r.map at width i.1);
    writes = λ r at width value i. (i.0, map_writes Seven r.now i.0 r.map at width value i.1);
  }

  nine_reads : (t : Tcm) (r : NineReach) (at : ℕ) (width : Width) → Stand r.now r.map.io → Stand (tcm_read t r at width).now (tcm_read t r at width).map.io
  nine_reads (Itcm place) r at width i = i
  nine_reads (Dtcm place) r at width i = i
  nine_reads Past r at width i = (i.0, map_reads Nine r.now i.0 r.map at width i.1)

  nine_writes : (t : Tcm) (r : NineReach) (at : ℕ) (width : Width) (value : ℕ) → Stand r.now r.map.io
      → Stand (tcm_written t r at width value).now (tcm_written t r at width value).map.io
  nine_writes (Itcm place) r at width value i = i
  nine_writes (Dtcm place) r at width value i = i
  nine_writes Past r at width value i = (i.0, map_writes Nine r.now i.0 r.map at width value i.1)

  nine_follows : Follows nine_memory (λ (r : NineReach). Stand r.now r.map.io) (λ (r t : NineReach). Stand t.now t.map.io)
  nine_follows = record {
    stays = λ r i. i;
    joins = λ r t u one two. two;
    ends = λ r t one. one;
    fetches = λ r at width i. i;
    reads = λ r at width i. nine_reads (tcm_of r.cp15 at false false) r at width i;
    writes = λ r at width value i. nine_writes (tcm_of r.cp15 at true false) r at width value i;
  }

  nine_executes : (s : RegisterState) (r : NineReach) (number : ℕ) (instr : Option Instr) (move : Option Moved) → Stand r.now r.map.io
      → (let t : NineReach = (nine_executed s r number instr move).state in Stand t.now t.map.io)
  nine_executes s r number instr None i =
      word_follows nine_memory (λ (x : NineReach). Stand x.now x.map.io) (λ (x t : NineReach). Stand t.now t.map.io) nine_follows (arm9 r.cp15) s r number instr i
  nine_executes s r number instr (Some move) i = i

  pub step_stays : (proc : Proc) (now : Tick) (s : MachineState) → now.0 < limit → Stays limit s.io → Stays limit (outcome_of proc now s).machine.io
  step_stays Nine now s lt h =
      (taken_follows nine_memory (λ (r : NineReach). Stand r.now r.map.io) (λ (r t : NineReach). Stand t.now t.map.io) nine_follows nine_side
      (λ old r number instr i. nine_executes old r number instr (move_of instr) i) (line_of s Nine) s.nine.processor.registers (nine_reach now s) (lt, h)).1
  step_stays Seven now s lt h =
      (taken_follows seven_memory (λ (r : SevenReach). Stand r.now r.map.io) (λ (r t : SevenReach). Stand t.now t.map.io) seven_follows seven_side
      (λ old r number instr i. word_follows seven_memory (λ (x : SevenReach). Stand x.now x.map.io) (λ (x t : SevenReach). Stand t.now t.map.io)
      seven_follows arm7 old r number instr i) (line_of s Seven) s.seven.processor.registers (seven_reach now s) (lt, h)).1

  -- ---- a unit of DMA: it is read, taken, and written

  -- what is read leaves the channels as they were
  due_still : (proc : Proc) (now : Tick) (unit : DmaUnit) (m : MapState) → IsSome (dma_due (io_of m.io proc).dma)
      → IsSome (dma_due (io_of (unit_read proc now unit m).io proc).dma)
  due_still proc now unit m h =
      subst (λ (dma : DmaState). IsSome (dma_due dma)) (sym ((map_read_leaves proc now m unit.from unit.width).processor_io proc).dma) h

  pub unit_stays : (proc : Proc) (now : Tick) (unit : DmaUnit) (m : MapState) (refusal : Option Stop) → 1 ≤ now.0 → now.0 < limit
      → IsSome (dma_due (io_of m.io proc).dma) → Stays limit m.io → Stays limit (map_after_unit refusal proc now unit m).io
  unit_stays proc now unit m (Some stop) some lt due h = map_reads proc now lt m unit.from unit.width h
  unit_stays proc now unit m None some lt due h =
      let read = map_reads proc now lt m unit.from unit.width h in
      let taken = move_stays limit proc now (unit_waits proc now unit m) (unit_read proc now unit m).io (unit_waits_most proc now unit m)
      (due_still proc now unit m due) some lt read in
      map_writes proc now lt (unit_taken proc now unit m) unit.to unit.width (map_value proc now m unit.from unit.width) taken
