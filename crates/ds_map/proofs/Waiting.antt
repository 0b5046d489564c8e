use Rattle.ds_map.proofs.Words.{Banks, Byte, Cell, DmaUnit, Half, List, Main, MapState, Nine, NineReach, None, Nothing, Oam, Option, Own7, Palette}
use Rattle.ds_map.proofs.Words.{Place, Port, Proc, Rom, Seven, SevenReach, Shared, Some, Stop, Tcm, Tick, Vram, Width, Word, [], ap, arith, false}
use Rattle.ds_map.proofs.Words.{length, place_of, tcm_of, true, unit_read, unit_waits, ℕ, ◌%◌, ◌*◌, ◌+◌, ◌<◌, ◌^◌, ◌∙◌, ◌∷◌, ◌≡◌, ◌≤◌}
use Rattle.ds_map.specs.Waits.{wait_at, Waited, nine_wait, seven_wait, tcm_wait, unless_refused, waiting, waits_of}
use Rattle.ds_base.specs.Accesses.{Access, Fetch, MemoryMachine, Performed, Read, Write, perform, refused_or, with_value}
use Rattle.ds_base.specs.declared.memories.Memory.TheVariants.{Itcm, Dtcm}
use Rattle.cp15_tcm.specs.declared.answers.Tcm.TheVariants as tcm
use Rattle.ds_places.specs.Waits.{RegionWaits, chosen_wait, region_waits, wait_of}

-- A bus that adds up waits comes to the same as one that doesn't, and adds up exactly the waits of the accesses that are made.

-- accesses that waited so long
abbrev pub performed_waited : {S : Type 0} → Performed S → ℕ → Performed (Waited S)
performed_waited p waits = record { values = p.values; state = record { reached = p.state; waits = waits }; stop = p.stop }

-- a state at which so many are added up
abbrev pub waited_so : {S : Type 0} → S → ℕ → Waited S
waited_so s n = record { reached = s; waits = n }

pub small : (n : ℕ) → n < 2 ^ 32 → n ≡ (n + 0) % 2 ^ 32
small n h = omega (arith, h)

remainder_small : (n : ℕ) → n % 2 ^ 32 < 2 ^ 32
remainder_small n = omega arith

sums : (n a b : ℕ) → ((n + a) % 2 ^ 32 + b) % 2 ^ 32 ≡ (n + (a + b)) % 2 ^ 32
sums n a b = omega arith

module _ {S : Type 0} (m : MemoryMachine S) (wait : S → Access → ℕ) where
  refused_waits : (stop : Option Stop) (next : S) (rest : List Access) (n a : ℕ)
      → perform (waiting m wait) (waited_so next ((n + a) % 2 ^ 32)) rest ≡ performed_waited (perform m next rest) (((n + a) % 2 ^ 32 + waits_of m wait next rest) % 2 ^ 32)
      → refused_or stop (waited_so next ((n + a) % 2 ^ 32)) (perform (waiting m wait) (waited_so next ((n + a) % 2 ^ 32)) rest)
      ≡ performed_waited (refused_or stop next (perform m next rest)) ((n + (a + unless_refused stop (waits_of m wait next rest))) % 2 ^ 32)
  refused_waits None next rest n a h = h ∙ ap (λ (k : ℕ). performed_waited (perform m next rest) k) (sums n a (waits_of m wait next rest))
  refused_waits (Some stop) next rest n a h =
      ap (λ (k : ℕ). (let done : Performed (Waited S) = record { values = []; state = waited_so next k; stop = Some stop } in done))
      (small ((n + a) % 2 ^ 32) (remainder_small (n + a)) ∙ sums n a 0)

  pub performed_so : (accesses : List Access) (s : S) (n : ℕ) → n < 2 ^ 32
      → perform (waiting m wait) (waited_so s n) accesses ≡ performed_waited (perform m s accesses) ((n + waits_of m wait s accesses) % 2 ^ 32)
  performed_so [] s n h = ap (λ (k : ℕ). performed_waited (perform m s []) k) (small n h)
  performed_so (Fetch at width ∷ rest) s n h =
      let a = wait s (Fetch at width) in
      let next = m.fetch_next s at width in
      let b = waits_of m wait next rest in
      ap (with_value (m.fetch_value s at width))
      (performed_so rest next ((n + a) % 2 ^ 32) (remainder_small (n + a)) ∙ ap (λ (k : ℕ). performed_waited (perform m next rest) k) (sums n a b))
  performed_so (Read at width ∷ rest) s n h =
      let a = wait s (Read at width) in
      let next = m.read_next s at width in
      let b = waits_of m wait next rest in
      ap (with_value (m.read_value s at width))
      (performed_so rest next ((n + a) % 2 ^ 32) (remainder_small (n + a)) ∙ ap (λ (k : ℕ). performed_waited (perform m next rest) k) (sums n a b))
  performed_so (Write at width value ∷ rest) s n h =
      let a = wait s (Write at width value) in
      let next = m.write_next s at width value in
      refused_waits (m.refusal s at width value) next rest n a (performed_so rest next ((n + a) % 2 ^ 32) (remainder_small (n + a)))

  -- each waits 8 ticks at most, so they wait 8 ticks each at most
  module _ (most : (s : S) (access : Access) → wait s access ≤ 8) where
    refused_most : (stop : Option Stop) (b count : ℕ) → b ≤ count → unless_refused stop b ≤ count
    refused_most None b count h = h
    refused_most (Some stop) b count h = omega arith

    pub waits_most : (accesses : List Access) (s : S) → waits_of m wait s accesses ≤ 8 * length accesses
    waits_most [] s = omega arith
    waits_most (Fetch at width ∷ rest) s = omega (arith, most s (Fetch at width), waits_most rest (m.fetch_next s at width))
    waits_most (Read at width ∷ rest) s = omega (arith, most s (Read at width), waits_most rest (m.read_next s at width))
    waits_most (Write at width value ∷ rest) s =
        let next = m.write_next s at width value in
        let stop = m.refusal s at width value in
        let b = waits_of m wait next rest in
        let c = refused_most stop b (8 * length rest) (waits_most rest next) in
        omega (arith, most s (Write at width value), c)

-- ---- no access waits longer

chosen_most : (proc : Proc) (width : Width) (w : RegionWaits) → w.nine ≤ 8 → w.nine_word ≤ 8 → w.seven ≤ 8 → w.seven_word ≤ 8 → chosen_wait proc width w ≤ 8
chosen_most Nine Byte w a b c d = a
chosen_most Nine Half w a b c d = a
chosen_most Nine Word w a b c d = b
chosen_most Seven Byte w a b c d = c
chosen_most Seven Half w a b c d = c
chosen_most Seven Word w a b c d = d

pub wait_most : (proc : Proc) (place : Place) (width : Width) → wait_of proc place width ≤ 8
wait_most proc (Cell Main at) width = chosen_most proc width (region_waits (Cell Main at)) (omega arith) (omega arith) (omega arith) (omega arith)
wait_most proc (Cell Shared at) width = chosen_most proc width (region_waits (Cell Shared at)) (omega arith) (omega arith) (omega arith) (omega arith)
wait_most proc (Cell Own7 at) width = chosen_most proc width (region_waits (Cell Own7 at)) (omega arith) (omega arith) (omega arith) (omega arith)
wait_most proc (Cell Itcm at) width = chosen_most proc width (region_waits (Cell Itcm at)) (omega arith) (omega arith) (omega arith) (omega arith)
wait_most proc (Cell Dtcm at) width = chosen_most proc width (region_waits (Cell Dtcm at)) (omega arith) (omega arith) (omega arith) (omega arith)
wait_most proc (Cell Palette at) width = chosen_most proc width (region_waits (Cell Palette at)) (omega arith) (omega arith) (omega arith) (omega arith)
wait_most proc (Cell Vram at) width = chosen_most proc width (region_waits (Cell Vram at)) (omega arith) (omega arith) (omega arith) (omega arith)
wait_most proc (Cell Oam at) width = chosen_most proc width (region_waits (Cell Oam at)) (omega arith) (omega arith) (omega arith) (omega arith)
wait_most proc (Banks space at) width = chosen_most proc width (region_waits (Banks space at)) (omega arith) (omega arith) (omega arith) (omega arith)
wait_most proc (Port at) width = chosen_most proc width (region_waits (Port at)) (omega arith) (omega arith) (omega arith) (omega arith)
wait_most proc (Rom at) width = chosen_most proc width (region_waits (Rom at)) (omega arith) (omega arith) (omega arith) (omega arith)
wait_most proc Nothing width = chosen_most proc width (region_waits Nothing) (omega arith) (omega arith) (omega arith) (omega arith)

pub wait_at_most : (proc : Proc) (wramcnt at : ℕ) (width : Width) → wait_at proc wramcnt at width ≤ 8
unfolding wait_at
wait_at_most proc wramcnt at width = wait_most proc (place_of proc wramcnt at) width

tcm_most : (t : Tcm) (wramcnt at : ℕ) (width : Width) → tcm_wait t wramcnt at width ≤ 8
tcm_most (tcm.Itcm place) wramcnt at width = omega arith
tcm_most (tcm.Dtcm place) wramcnt at width = omega arith
tcm_most tcm.Past wramcnt at width = wait_at_most Nine wramcnt at width

pub nine_most : (r : NineReach) (access : Access) → nine_wait r access ≤ 8
nine_most r (Fetch at width) = tcm_most (tcm_of r.cp15 at false true) r.map.io.wramcnt at width
nine_most r (Read at width) = tcm_most (tcm_of r.cp15 at false false) r.map.io.wramcnt at width
nine_most r (Write at width value) = tcm_most (tcm_of r.cp15 at true false) r.map.io.wramcnt at width

pub seven_most : (r : SevenReach) (access : Access) → seven_wait r access ≤ 8
seven_most r (Fetch at width) = wait_at_most Seven r.map.io.wramcnt at width
seven_most r (Read at width) = wait_at_most Seven r.map.io.wramcnt at width
seven_most r (Write at width value) = wait_at_most Seven r.map.io.wramcnt at width

-- a unit's two accesses wait 16 ticks at most
pub unit_waits_most : (proc : Proc) (now : Tick) (unit : DmaUnit) (m : MapState) → unit_waits proc now unit m ≤ 16
unit_waits_most proc now unit m =
    omega (arith, wait_at_most proc m.io.wramcnt unit.from unit.width, wait_at_most proc (unit_read proc now unit m).io.wramcnt unit.to unit.width)
