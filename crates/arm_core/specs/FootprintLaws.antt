use Rattle.std.specs.Prelude.{ℕ, ◌≡◌, ◌<◌, ◌+◌, ◌^◌, ◌↔◌, ◌⊎◌, ◌++◌, Contains, Bool, true, false, not, List, [], ◌∷◌, Option}
use Rattle.std.specs.List.{find}
use Rattle.ds_base.specs.Accesses.{Access, Fetch, Read, Write}
use Rattle.ds_base.specs.declared.memories.Width.{Width}
use Rattle.arm_core.specs.declared.touches.Touch.{Touch}
use Rattle.arm_core.specs.declared.touches.Touch.TheVariants.{Nothing, Span}
use Rattle.arm_core.specs.Footprints.{access_bytes, span}

-- A footprint as a run of bytes that lie as an instruction's accesses do, and that it covers exactly theirs.

abbrev pub accessed_bytes : List Access → List ℕ
accessed_bytes [] = []
accessed_bytes (access ∷ rest) = access_bytes access ++ accessed_bytes rest

abbrev pub touched_bytes : Touch → List ℕ
touched_bytes Nothing = []
touched_bytes (Span first length) = span first length

-- a span has a byte at least
abbrev pub HasBytes : Touch → Type 0
HasBytes Nothing = Unit {0}
HasBytes (Span first length) = 0 < length

-- accesses of data: they read and write at addresses that are words, and none is a fetch
abbrev pub AreOfData : List Access → Type 0
AreOfData [] = Unit {0}
AreOfData (Fetch at width ∷ rest) = ⊥
AreOfData (Read at width ∷ rest) = (at < 2 ^ 32) × AreOfData rest
AreOfData (Write at width value ∷ rest) = (at < 2 ^ 32) × AreOfData rest

abbrev pub AreReads : List Access → Type 0
AreReads [] = Unit {0}
AreReads (Fetch at width ∷ rest) = ⊥
AreReads (Read at width ∷ rest) = AreReads rest
AreReads (Write at width value ∷ rest) = ⊥

abbrev pub AreWrites : List Access → Type 0
AreWrites [] = Unit {0}
AreWrites (Fetch at width ∷ rest) = ⊥
AreWrites (Read at width ∷ rest) = ⊥
AreWrites (Write at width value ∷ rest) = AreWrites rest

-- they are all reads, or all writes, or a read and then a write of one place, or none
abbrev pub AreAsTold : (reads writes : Bool) → List Access → Type 0
AreAsTold true true accesses = (at : ℕ) × (width : Width) × (value : ℕ) × (accesses ≡ Read at width ∷ Write at width value ∷ [])
AreAsTold true false accesses = AreReads accesses
AreAsTold false true accesses = AreWrites accesses
AreAsTold false false accesses = accesses ≡ []

-- a touch says that there is nothing exactly where there is no access
abbrev pub TellsNothing : Touch → List Access → Type 0
TellsNothing touch accesses = (touch ≡ Nothing) ↔ (accesses ≡ [])

-- a touch has exactly the bytes of some accesses
abbrev pub Covers : Touch → List Access → Type 0
Covers touch accesses = (at : ℕ) → Contains (touched_bytes touch) at ↔ Contains (accessed_bytes accesses) at

-- the first of some addresses that a test leaves out, if it leaves one out: of accesses that are made one after another, the first byte
-- whose place isn't there
abbrev pub first_without : (ℕ → Bool) → List ℕ → Option ℕ
first_without is_there addresses = find (λ at. not (is_there at)) addresses

-- some accesses go over a touch's bytes from its first to its last: once, or twice, as a read and a write of one place do
abbrev pub GoesOver : Touch → List Access → Type 0
GoesOver touch accesses =
    (accessed_bytes accesses ≡ touched_bytes touch) ⊎ (accessed_bytes accesses ≡ touched_bytes touch ++ touched_bytes touch)
