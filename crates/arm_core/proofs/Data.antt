use Rattle.std.proofs.Common.{ℕ, ◌≡◌, ◌<◌, ◌+◌, ◌-◌, ◌%◌, ◌^◌, ◌==◌, if◌then◌else◌, not, Bool, true, false, List, [], ◌∷◌, map, refl, arith}
use Rattle.std.specs.Prelude.{◌&&◌}
use Rattle.ds_base.specs.declared.memories.Width.TheVariants.{Byte, Half, Word}
use Rattle.ds_base.specs.declared.processors.Arch.{Arch}
use Rattle.ds_base.specs.declared.processors.Arch.TheVariants.{V4, V5}
use Rattle.arm_words.specs.declared.operations.HalfOp.{HalfOp}
use Rattle.arm_words.specs.declared.operations.HalfOp.TheVariants.{Strh, Ldrh, Ldrsb, Ldrsh}
use Rattle.arm_core.specs.Addressing.{list_bytes, listed_registers, lowest, moved_base}
use Rattle.arm_core.specs.Doubles.{double_at}
use Rattle.arm_core.specs.FootprintLaws.{AreAsTold, AreOfData, AreReads, AreWrites}
use Rattle.arm_core.specs.Multiples as multiples
use Rattle.arm_core.specs.Multiples.{multiple_meaning, reached_bank, stored_value, stores_new_base, transferred}
use Rattle.arm_core.specs.Registers.{RegisterState, register}
use Rattle.arm_core.specs.Swaps.{swap_meaning}
use Rattle.arm_core.specs.Transfers.{half_or_signed_meaning, load_meaning, signed_byte, signed_half, signed_half_meaning, word_or_byte_meaning}
use Rattle.arm_core.specs.declared.addresses.Addressed.{Addressed}

-- Which accesses of data an instruction makes: reads, writes or both, at addresses that are words.

below : (x : ℕ) → x % 2 ^ 32 < 2 ^ 32
below x = omega arith

words_at : (at : ℕ) → at < 2 ^ 32 → at - at % 4 < 2 ^ 32
words_at at h = omega (arith, h)

reads_are : (at : ℕ) (rs : List ℕ) → AreReads (multiples.reads at rs)
reads_are at [] = tt
reads_are at (r ∷ rs) = reads_are ((at + 4) % 2 ^ 32) rs

writes_are : (at : ℕ) (values : List ℕ) → AreWrites (multiples.writes at values)
writes_are at [] = tt
writes_are at (value ∷ values) = writes_are ((at + 4) % 2 ^ 32) values

reads_data : (at : ℕ) (rs : List ℕ) → at < 2 ^ 32 → AreOfData (multiples.reads at rs)
reads_data at [] h = tt
reads_data at (r ∷ rs) h = (h, reads_data ((at + 4) % 2 ^ 32) rs (below (at + 4)))

writes_data : (at : ℕ) (values : List ℕ) → at < 2 ^ 32 → AreOfData (multiples.writes at values)
writes_data at [] h = tt
writes_data at (value ∷ values) h = (h, writes_data ((at + 4) % 2 ^ 32) values (below (at + 4)))

-- ---- one register

pub word_or_byte_told : (arch : Arch) (s : RegisterState) (load byte : Bool) (rn rd : ℕ) (to : Addressed)
    → AreAsTold load (not load) (word_or_byte_meaning arch s load byte rn rd to).accesses
word_or_byte_told arch s true true rn rd to = tt
word_or_byte_told arch s true false rn rd to = tt
word_or_byte_told arch s false true rn rd to = tt
word_or_byte_told arch s false false rn rd to = tt

pub word_or_byte_data : (arch : Arch) (s : RegisterState) (load byte : Bool) (rn rd : ℕ) (to : Addressed) → to.address < 2 ^ 32
    → AreOfData (word_or_byte_meaning arch s load byte rn rd to).accesses
word_or_byte_data arch s true true rn rd to h = (h, tt)
word_or_byte_data arch s true false rn rd to h = (h, tt)
word_or_byte_data arch s false true rn rd to h = (h, tt)
word_or_byte_data arch s false false rn rd to h = (h, tt)

-- ARMv4 reads a byte at an odd address
signed_half_told : (arch : Arch) (s : RegisterState) (rn rd : ℕ) (to : Addressed) → AreReads (signed_half_meaning arch s rn rd to).accesses
signed_half_told V5 s rn rd to = tt
signed_half_told V4 s rn rd to = either (to.address % 2 == 0) where
  either : (b : Bool) → AreReads (if b then load_meaning s rn rd to Half signed_half else load_meaning s rn rd to Byte signed_byte).accesses
  either true = tt
  either false = tt

signed_half_data : (arch : Arch) (s : RegisterState) (rn rd : ℕ) (to : Addressed) → to.address < 2 ^ 32
    → AreOfData (signed_half_meaning arch s rn rd to).accesses
signed_half_data V5 s rn rd to h = (h, tt)
signed_half_data V4 s rn rd to h = either (to.address % 2 == 0) where
  either : (b : Bool) → AreOfData (if b then load_meaning s rn rd to Half signed_half else load_meaning s rn rd to Byte signed_byte).accesses
  either true = (h, tt)
  either false = (h, tt)

abbrev is_load : HalfOp → Bool
is_load Strh = false
is_load _ = true

pub half_told : (arch : Arch) (s : RegisterState) (op : HalfOp) (rn rd : ℕ) (to : Addressed) (reads : Bool) → reads ≡ is_load op
    → AreAsTold reads (not reads) (half_or_signed_meaning arch s op rn rd to).accesses
half_told arch s Strh rn rd to reads h = rw h tt
half_told arch s Ldrh rn rd to reads h = rw h tt
half_told arch s Ldrsb rn rd to reads h = rw h tt
half_told arch s Ldrsh rn rd to reads h = rw h (signed_half_told arch s rn rd to)

pub half_data : (arch : Arch) (s : RegisterState) (op : HalfOp) (rn rd : ℕ) (to : Addressed) → to.address < 2 ^ 32
    → AreOfData (half_or_signed_meaning arch s op rn rd to).accesses
half_data arch s Strh rn rd to h = (h, tt)
half_data arch s Ldrh rn rd to h = (h, tt)
half_data arch s Ldrsb rn rd to h = (h, tt)
half_data arch s Ldrsh rn rd to h = signed_half_data arch s rn rd to h

-- ---- two, and both ways

pub double_told : (s : RegisterState) (store : Bool) (rn rd : ℕ) (to : Addressed) → AreAsTold (not store) store (double_at s store rn rd to).accesses
double_told s true rn rd to = tt
double_told s false rn rd to = tt

pub double_data : (s : RegisterState) (store : Bool) (rn rd : ℕ) (to : Addressed) → to.address < 2 ^ 32
    → AreOfData (double_at s store rn rd to).accesses
double_data s true rn rd to h = (words_at to.address h, (below (to.address - to.address % 4 + 4), tt))
double_data s false rn rd to h = (words_at to.address h, (below (to.address - to.address % 4 + 4), tt))

pub swap_told : (s : RegisterState) (byte : Bool) (rd rm rn : ℕ) → AreAsTold true true (swap_meaning s byte rd rm rn).accesses
swap_told s true rd rm rn = (register s rn, Byte, _, refl)
swap_told s false rd rm rn = (register s rn, Word, _, refl)

pub swap_data : (s : RegisterState) (byte : Bool) (rd rm rn : ℕ) → register s rn < 2 ^ 32 → AreOfData (swap_meaning s byte rd rm rn).accesses
swap_data s true rd rm rn h = (h, (h, tt))
swap_data s false rd rm rn h = (h, (h, tt))

-- ---- several

pub multiple_told : (arch : Arch) (s : RegisterState) (pre up user write_back load : Bool) (rn list : ℕ)
    → AreAsTold load (not load) (multiple_meaning arch s pre up user write_back load rn list).accesses
multiple_told arch s pre up user write_back true rn list =
    reads_are (lowest pre up (register s rn) (list_bytes list)) (listed_registers (transferred arch list))
multiple_told arch s pre up user write_back false rn list =
    let value = stored_value s (reached_bank s user) rn (write_back && not (rn == 15) && stores_new_base arch rn list)
    (moved_base up (register s rn) (list_bytes list)) in
    writes_are (lowest pre up (register s rn) (list_bytes list)) (map value (listed_registers (transferred arch list)))

pub multiple_data : (arch : Arch) (s : RegisterState) (pre up user write_back load : Bool) (rn list : ℕ)
    → lowest pre up (register s rn) (list_bytes list) < 2 ^ 32 → AreOfData (multiple_meaning arch s pre up user write_back load rn list).accesses
multiple_data arch s pre up user write_back true rn list h =
    reads_data (lowest pre up (register s rn) (list_bytes list)) (listed_registers (transferred arch list)) h
multiple_data arch s pre up user write_back false rn list h =
    let value = stored_value s (reached_bank s user) rn (write_back && not (rn == 15) && stores_new_base arch rn list)
    (moved_base up (register s rn) (list_bytes list)) in
    writes_data (lowest pre up (register s rn) (list_bytes list)) (map value (listed_registers (transferred arch list))) h
