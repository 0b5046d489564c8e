use Rattle.ds_map.proofs.Words.{Bool, BootRom, Cells, Content, Empty, List, MemoriesState, Memory, Nine, Oam, Own7, Palette, Place, Ports, Proc}
use Rattle.ds_map.proofs.Words.{Region, Seven, Shared, Video, [], ap, both, cells_of, false, if◌then◌else◌, length, memory_size, nat_le, place_at}
use Rattle.ds_map.proofs.Words.{place_by, place_of, refl, regions_of, shared_for_nine, shared_for_seven, sym, true, true≢false, with_cells, ℕ, ◌&&◌}
use Rattle.ds_map.proofs.Words.{◌++◌, ◌-◌, ◌==◌, ◌∙◌, ◌∷◌, ◌≡◌}
use Rattle.ds_map.specs.MapLaws.{is_reached, reached, reaches, unreached, unreached_oam, unreached_palette, unreached_wram}

-- The place of an address is one that its processor reaches, and accesses of what it reaches are those of all memories.

-- ---- places

abbrev content_reached : Proc → Content → Bool
content_reached proc (Cells memory from bytes) = reaches proc memory
content_reached proc content = true

abbrev all_reached : Proc → List Region → Bool
all_reached proc [] = true
all_reached proc (r ∷ rs) = content_reached proc r.content && all_reached proc rs

at_reached : (proc : Proc) (content : Content) (offset : ℕ) → content_reached proc content ≡ true → is_reached proc (place_at content offset) ≡ true
at_reached proc (Cells memory from bytes) offset h = h
at_reached proc (Video space) offset h = refl
at_reached proc Ports offset h = refl
at_reached proc BootRom offset h = refl
at_reached proc Empty offset h = refl

chosen : (proc : Proc) (b : Bool) (one other : Place) → is_reached proc one ≡ true → is_reached proc other ≡ true → is_reached proc (if b then one else other) ≡ true
chosen proc true one other h k = h
chosen proc false one other h k = k

by_reached : (proc : Proc) (rs : List Region) (at : ℕ) → all_reached proc rs ≡ true → is_reached proc (place_by rs at) ≡ true
by_reached proc [] at h = refl
by_reached proc (r ∷ rs) at h =
    let here = both (content_reached proc r.content) (all_reached proc rs) h in
    chosen proc (nat_le r.first at && nat_le at r.last) (place_at r.content (at - r.first)) (place_by rs at)
    (at_reached proc r.content (at - r.first) here.0) (by_reached proc rs at here.1)

-- shared work RAM, whatever WRAMCNT says
shared_nine : (w : ℕ) → content_reached Nine (shared_for_nine w) ≡ true
shared_nine w = by_tests (w == 0) (w == 1) (w == 2) where
  by_tests : (a b c : Bool) → content_reached Nine (
      if a then Cells Shared 0 (memory_size Shared) else (if b then Cells Shared 0x4000 0x4000 else (if c then Cells Shared 0 0x4000 else Empty))) ≡ true
  by_tests true b c = refl
  by_tests false true c = refl
  by_tests false false true = refl
  by_tests false false false = refl

shared_seven : (w : ℕ) → content_reached Seven (shared_for_seven w) ≡ true
shared_seven w = by_tests (w == 0) (w == 1) (w == 2) where
  by_tests : (a b c : Bool) → content_reached Seven (
      if a then Cells Own7 0 (memory_size Own7) else (
      if b then Cells Shared 0 0x4000 else (if c then Cells Shared 0x4000 0x4000 else Cells Shared 0 (memory_size Shared)))) ≡ true
  by_tests true b c = refl
  by_tests false true c = refl
  by_tests false false true = refl
  by_tests false false false = refl

regions_reached : (proc : Proc) (w : ℕ) → all_reached proc (regions_of proc w) ≡ true
regions_reached Nine w = ap (λ (b : Bool). b && true) (shared_nine w)
regions_reached Seven w = ap (λ (b : Bool). b && true) (shared_seven w)

pub place_reached : (proc : Proc) (wramcnt at : ℕ) → is_reached proc (place_of proc wramcnt at) ≡ true
place_reached proc wramcnt at = by_reached proc (regions_of proc wramcnt) at (regions_reached proc wramcnt)

-- ---- memories

pub cells_reached : (proc : Proc) (memory : Memory) (m : MemoriesState) → reaches proc memory ≡ true → cells_of (reached proc m) memory ≡ cells_of m memory
cells_reached Nine Own7 m h = absurd (true≢false (sym h))
cells_reached Nine _ m h = refl
cells_reached Seven Palette m h = absurd (true≢false (sym h))
cells_reached Seven Oam m h = absurd (true≢false (sym h))
cells_reached Seven _ m h = refl

pub set_reached : (proc : Proc) (memory : Memory) (m : MemoriesState) (bytes : List ℕ) → reaches proc memory ≡ true
    → reached proc (with_cells memory m bytes) ≡ with_cells memory (reached proc m) bytes
set_reached Nine Own7 m bytes h = absurd (true≢false (sym h))
set_reached Nine _ m bytes h = refl
set_reached Seven Palette m bytes h = absurd (true≢false (sym h))
set_reached Seven Oam m bytes h = absurd (true≢false (sym h))
set_reached Seven _ m bytes h = refl

pub set_wram : (proc : Proc) (memory : Memory) (m : MemoriesState) (bytes : List ℕ) → reaches proc memory ≡ true
    → unreached_wram proc (with_cells memory m bytes) ≡ unreached_wram proc m
set_wram Nine Own7 m bytes h = absurd (true≢false (sym h))
set_wram Nine _ m bytes h = refl
set_wram Seven Palette m bytes h = absurd (true≢false (sym h))
set_wram Seven Oam m bytes h = absurd (true≢false (sym h))
set_wram Seven _ m bytes h = refl

pub set_palette : (proc : Proc) (memory : Memory) (m : MemoriesState) (bytes : List ℕ) → reaches proc memory ≡ true
    → unreached_palette proc (with_cells memory m bytes) ≡ unreached_palette proc m
set_palette Nine Own7 m bytes h = absurd (true≢false (sym h))
set_palette Nine _ m bytes h = refl
set_palette Seven Palette m bytes h = absurd (true≢false (sym h))
set_palette Seven Oam m bytes h = absurd (true≢false (sym h))
set_palette Seven _ m bytes h = refl

pub set_oam : (proc : Proc) (memory : Memory) (m : MemoriesState) (bytes : List ℕ) → reaches proc memory ≡ true
    → unreached_oam proc (with_cells memory m bytes) ≡ unreached_oam proc m
set_oam Nine Own7 m bytes h = absurd (true≢false (sym h))
set_oam Nine _ m bytes h = refl
set_oam Seven Palette m bytes h = absurd (true≢false (sym h))
set_oam Seven Oam m bytes h = absurd (true≢false (sym h))
set_oam Seven _ m bytes h = refl

-- the three as one list
pub unreached_by : (proc : Proc) (m old : MemoriesState) → unreached_wram proc m ≡ unreached_wram proc old → unreached_palette proc m ≡ unreached_palette proc old
    → unreached_oam proc m ≡ unreached_oam proc old → unreached proc m ≡ unreached proc old
unreached_by proc m old wram palette oam =
    ap (λ (bytes : List ℕ). length bytes ∷ bytes ++ unreached_oam proc m ++ unreached_wram proc m) palette
    ∙ ap (λ (bytes : List ℕ). length (unreached_palette proc old) ∷ unreached_palette proc old ++ bytes ++ unreached_wram proc m) oam
    ∙ ap (λ (bytes : List ℕ). length (unreached_palette proc old) ∷ unreached_palette proc old ++ unreached_oam proc old ++ bytes) wram
