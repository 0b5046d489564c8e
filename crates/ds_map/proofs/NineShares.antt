use Rattle.ds_map.proofs.Words.{Arm7, Banks, Bool, Byte, Cell, Cells, Empty, Half, IoState, List, MapState, MemoriesState, Nine, None, Nothing, Oam}
use Rattle.ds_map.proofs.Words.{Palette, Place, Region, Rom, Shared, Space, Tick, Width, Word, [], after_read_at, aligned_down, ap, arith, cell_put}
use Rattle.ds_map.proofs.Words.{either, false, fetched_at, if◌then◌else◌, length, map_fetched, map_read, map_refusal, map_value, map_written}
use Rattle.ds_map.proofs.Words.{memory_size, nat_le, nat_lt, place_at, place_by, place_of, refl, refusal_at, regions_of_nine, shared_for_nine, subst}
use Rattle.ds_map.proofs.Words.{sym, true, true≢false, value_at, vram_written, width_bytes, with_number, written_at, ℕ, ◌%◌, ◌&&◌, ◌+◌, ◌-◌, ◌<◌}
use Rattle.ds_map.proofs.Words.{◌==◌, ◌^◌, ◌∙◌, ◌∷◌, ◌≡◌, ◌≤◌}
use Rattle.vram_banks.proofs.Allotted.{written_controls, written_length, value_apart, written_apart}
use Rattle.vram_banks.proofs.Mixes.{IsAll, with_number_length, number_own, with_number_own}
use Rattle.ds_map.specs.ShareLaws.{IsSharedSo, SharedPart, is_shown_to_nine, mixed_banks, shared_put, shares_put}
use Rattle.vram_banks.specs.BankMap.{same_space}
use Rattle.vram_banks.specs.Cells as cells
use Rattle.ds_map.specs.Shares.{is_private_place}

-- ARM9's accesses of the places that it alone reaches, past its tightly coupled memories, change its own bytes alone, depend on them alone, and aren't refused.

-- ---- what stands at its addresses

-- something holds at each offset into each region of a table; so it does of the place of an address
abbrev pub AllHold : (Place → Type 0) → List Region → Type 0
AllHold P [] = Unit {0}
AllHold P (r ∷ rs) = ((offset : ℕ) → P (place_at r.content offset)) × AllHold P rs

pub by_all : (P : Place → Type 0) (rs : List Region) (at : ℕ) → P Nothing → AllHold P rs → P (place_by rs at)
by_all P [] at none all = none
by_all P (r ∷ rs) at none all =
    either P (nat_le r.first at && nat_le at r.last) (place_at r.content (at - r.first)) (place_by rs at) (all.0 (at - r.first)) (by_all P rs at none all.1)

-- of shared work RAM bytes stand there that are shown to it, all that an access reaches; of video memory no space of ARM7's
abbrev IsOf : (ℕ → Bool) → Place → Type 0
IsOf shown (Cell Shared at) = (width : Width) → IsAll shown true width (aligned_down width at)
IsOf shown (Banks space at) = same_space space Arm7 ≡ false
IsOf shown place = Unit {0}

at_least : (a b : ℕ) → a ≤ b → nat_le a b ≡ true
at_least a b le = grind arith

less : (a b : ℕ) → a < b → nat_lt a b ≡ true
less a b lt = grind arith

-- the second half, and the first
high_shown : (width : Width) (offset k : ℕ) → k < width_bytes width → nat_le 0x4000 (aligned_down width (0x4000 + offset % 0x4000) + k) ≡ true
high_shown Byte offset k lt = at_least 0x4000 (aligned_down Byte (0x4000 + offset % 0x4000) + k) (omega arith)
high_shown Half offset k lt = at_least 0x4000 (aligned_down Half (0x4000 + offset % 0x4000) + k) (omega arith)
high_shown Word offset k lt = at_least 0x4000 (aligned_down Word (0x4000 + offset % 0x4000) + k) (omega arith)

low_shown : (width : Width) (offset k : ℕ) → k < width_bytes width → nat_lt (aligned_down width (0 + offset % 0x4000) + k) 0x4000 ≡ true
low_shown Byte offset k lt = less (aligned_down Byte (0 + offset % 0x4000) + k) 0x4000 (omega (arith, lt))
low_shown Half offset k lt = less (aligned_down Half (0 + offset % 0x4000) + k) 0x4000 (omega (arith, lt))
low_shown Word offset k lt = less (aligned_down Word (0 + offset % 0x4000) + k) 0x4000 (omega (arith, lt))

shared_so : (w offset : ℕ) → IsOf (is_shown_to_nine w) (place_at (shared_for_nine w) offset)
shared_so w offset = by_tests (w == 0) (w == 1) (w == 2) where
  by_tests : (a b c : Bool) → IsOf (λ at. if a then true else (if b then nat_le 0x4000 at else (if c then nat_lt at 0x4000 else false)))
      (place_at (if a then Cells Shared 0 (memory_size Shared) else (if b then Cells Shared 0x4000 0x4000 else (if c then Cells Shared 0 0x4000 else Empty))) offset)
  by_tests true b c = λ width k lt. refl
  by_tests false true c = λ width k lt. high_shown width offset k lt
  by_tests false false true = λ width k lt. low_shown width offset k lt
  by_tests false false false = tt

nine_places : (w at : ℕ) → IsOf (is_shown_to_nine w) (place_of Nine w at)
nine_places w at =
    by_all (IsOf (is_shown_to_nine w)) (regions_of_nine w) at tt
    (λ o. tt, (shared_so w, (λ o. tt, (λ o. tt, (λ o. refl, (λ o. refl, (λ o. refl, (λ o. refl, (λ o. refl, (λ o. tt, (λ o. tt, tt)))))))))))

-- past the last address there is nothing
not_in : (first last at : ℕ) → last < at → (nat_le first at && nat_le at last) ≡ false
not_in first last at lt = grind arith

pub no_place : (wramcnt at : ℕ) → 2 ^ 32 ≤ at → place_of Nine wramcnt at ≡ Nothing
no_place wramcnt at le =
    rw (
      not_in 0x02000000 0x02FFFFFF at (omega (arith, le)),
      not_in 0x03000000 0x03FFFFFF at (omega (arith, le)),
      not_in 0x04000000 0x04FFFFFF at (omega (arith, le)),
      not_in 0x05000000 0x05FFFFFF at (omega (arith, le)),
      not_in 0x06000000 0x061FFFFF at (omega (arith, le)),
      not_in 0x06200000 0x063FFFFF at (omega (arith, le)),
      not_in 0x06400000 0x065FFFFF at (omega (arith, le)),
      not_in 0x06600000 0x067FFFFF at (omega (arith, le)),
      not_in 0x06800000 0x06FFFFFF at (omega (arith, le)),
      not_in 0x07000000 0x07FFFFFF at (omega (arith, le)),
      not_in 0xFFFF0000 0xFFFFFFFF at (omega (arith, le)),
    ) refl

-- ---- places that it alone reaches, by WRAMCNT; or nothing is there

abbrev pub IsOwnPlace : ℕ → Place → Type 0
IsOwnPlace wramcnt (Cell Shared at) = (width : Width) → IsAll (is_shown_to_nine wramcnt) true width (aligned_down width at)
IsOwnPlace wramcnt (Cell Palette at) = Unit {0}
IsOwnPlace wramcnt (Cell Oam at) = Unit {0}
IsOwnPlace wramcnt (Banks space at) = same_space space Arm7 ≡ false
IsOwnPlace wramcnt (Rom at) = Unit {0}
IsOwnPlace wramcnt Nothing = Unit {0}
IsOwnPlace wramcnt place = ⊥

private_own : (controls : List ℕ) (wramcnt : ℕ) (place : Place) → IsOf (is_shown_to_nine wramcnt) place → is_private_place controls place ≡ true → IsOwnPlace wramcnt place
private_own controls wramcnt (Cell Shared at) of h = of
private_own controls wramcnt (Cell Palette at) of h = tt
private_own controls wramcnt (Cell Oam at) of h = tt
private_own controls wramcnt (Banks space at) of h = of
private_own controls wramcnt (Rom at) of h = tt
private_own controls wramcnt Nothing of h = tt
private_own controls wramcnt place of h = absurd (true≢false (sym h))

abbrev pub IsOwnAddress : ℕ → ℕ → Type 0
IsOwnAddress wramcnt at = IsOwnPlace wramcnt (place_of Nine wramcnt at)

pub private_address : (controls : List ℕ) (wramcnt at : ℕ) → is_private_place controls (place_of Nine wramcnt at) ≡ true → IsOwnAddress wramcnt at
private_address controls wramcnt at h = private_own controls wramcnt (place_of Nine wramcnt at) (nine_places wramcnt at) h

pub no_address : (wramcnt at : ℕ) → 2 ^ 32 ≤ at → IsOwnAddress wramcnt at
no_address wramcnt at le = subst (IsOwnPlace wramcnt) (sym (no_place wramcnt at le)) tt

-- ---- what it has of the map, which is put into the map

pub record NineBytes : Type 0 where
  pub palette : List ℕ
  pub oam : List ℕ
  pub share : SharedPart

abbrev pub nine_put : NineBytes → MapState → MapState
nine_put own m = record m {
  memories = record m.memories { shared = shared_put own.share m.memories.shared; palette = own.palette; oam = own.oam };
  io = shares_put own.share m.io;
}

-- what a write leaves of it: palettes, OAM and video memory take no bytes
abbrev halves_put : Width → List ℕ → ℕ → ℕ → List ℕ
halves_put Byte bytes at value = bytes
halves_put Half bytes at value = with_number Half bytes (aligned_down Half at) value
halves_put Word bytes at value = with_number Word bytes (aligned_down Word at) value

abbrev banks_put : Width → cells.Banks → Space → ℕ → ℕ → cells.Banks
banks_put Byte v space at value = v
banks_put Half v space at value = vram_written v space at Half value
banks_put Word v space at value = vram_written v space at Word value

abbrev pub wrote_at : Place → NineBytes → Width → ℕ → NineBytes
wrote_at (Cell Shared at) own width value = record own { share = record own.share { shared = with_number width own.share.shared (aligned_down width at) value } }
wrote_at (Cell Palette at) own width value = record own { palette = halves_put width own.palette at value }
wrote_at (Cell Oam at) own width value = record own { oam = halves_put width own.oam at value }
wrote_at (Banks space at) own width value = record own { share = record own.share { vram = banks_put width own.share.vram space at value } }
wrote_at place own width value = own

abbrev pub nine_wrote_at : NineBytes → ℕ → Width → ℕ → NineBytes
nine_wrote_at own at width value = wrote_at (place_of Nine own.share.wramcnt at) own width value

-- it is shared out as before
pub record IsSharedAlike (old new : SharedPart) : Type 0 where
  pub wramcnt : new.wramcnt ≡ old.wramcnt
  pub controls : new.vram.controls ≡ old.vram.controls
  pub shared : length new.shared ≡ length old.shared
  pub bytes : length new.vram.bytes ≡ length old.vram.bytes

pub stays_alike : (old : SharedPart) → IsSharedAlike old old
stays_alike old = record { wramcnt = refl; controls = refl; shared = refl; bytes = refl }

banks_alike : (width : Width) (own : SharedPart) (space : Space) (at value : ℕ) → IsSharedAlike own (record own { vram = banks_put width own.vram space at value })
banks_alike Byte own space at value = stays_alike own
banks_alike Half own space at value =
    record { wramcnt = refl; controls = written_controls own.vram space at Half value; shared = refl; bytes = written_length own.vram space at Half value }
banks_alike Word own space at value =
    record { wramcnt = refl; controls = written_controls own.vram space at Word value; shared = refl; bytes = written_length own.vram space at Word value }

wrote_alike : (place : Place) (own : NineBytes) (width : Width) (value : ℕ) → IsSharedAlike own.share (wrote_at place own width value).share
wrote_alike (Cell Shared at) own width value =
    record { wramcnt = refl; controls = refl; shared = with_number_length width own.share.shared (aligned_down width at) value; bytes = refl }
wrote_alike (Banks space at) own width value = banks_alike width own.share space at value
wrote_alike place own width value = stays_alike own.share

pub nine_wrote_alike : (own : NineBytes) (at : ℕ) (width : Width) (value : ℕ) → IsSharedAlike own.share (nine_wrote_at own at width value).share
nine_wrote_alike own at width value = wrote_alike (place_of Nine own.share.wramcnt at) own width value

pub so_shared : (old new : SharedPart) (shared : List ℕ) (u : IoState) → IsSharedAlike old new → IsSharedSo old shared u → IsSharedSo new shared u
so_shared old new shared u alike so = record {
  wramcnt = alike.wramcnt ∙ so.wramcnt;
  controls = alike.controls ∙ so.controls;
  shared = alike.shared ∙ so.shared;
  bytes = alike.bytes ∙ so.bytes;
}

-- ---- accesses of it, by place

value_alike : (place : Place) (own : NineBytes) (now later : Tick) (m n : MapState) (width : Width) → IsOwnPlace own.share.wramcnt place
    → value_at Nine now place (nine_put own m) width ≡ value_at Nine later place (nine_put own n) width
value_alike (Cell Shared at) own now later m n width is =
    let shown = is_shown_to_nine own.share.wramcnt in
    let bytes = own.share.shared in
    number_own shown bytes m.memories.shared width (aligned_down width at) (is width) ∙ sym (number_own shown bytes n.memories.shared width (aligned_down width at) (is width))
value_alike (Cell Palette at) own now later m n width is = refl
value_alike (Cell Oam at) own now later m n width is = refl
value_alike (Banks space at) own now later m n width is =
    let v = own.share.vram in
    value_apart v.controls v.bytes m.io.vram.bytes space at width is ∙ sym (value_apart v.controls v.bytes n.io.vram.bytes space at width is)
value_alike (Rom at) own now later m n width is = refl
value_alike Nothing own now later m n width is = refl
value_alike place own now later m n width is = absurd is

-- what is fetched there is what is read there
fetch_alike : (place : Place) (own : NineBytes) (m n : MapState) (width : Width) → IsOwnPlace own.share.wramcnt place
    → fetched_at Nine place (nine_put own m) width ≡ fetched_at Nine place (nine_put own n) width
fetch_alike (Cell Shared at) own m n width is = value_alike (Cell Shared at) own (record { 0 = 0 }) (record { 0 = 0 }) m n width is
fetch_alike (Cell Palette at) own m n width is = refl
fetch_alike (Cell Oam at) own m n width is = refl
fetch_alike (Banks space at) own m n width is = value_alike (Banks space at) own (record { 0 = 0 }) (record { 0 = 0 }) m n width is
fetch_alike (Rom at) own m n width is = refl
fetch_alike Nothing own m n width is = refl
fetch_alike place own m n width is = absurd is

read_leaves : (now : Tick) (place : Place) (wramcnt : ℕ) (m : MapState) (width : Width) → IsOwnPlace wramcnt place → after_read_at Nine now place m width ≡ m
read_leaves now (Cell memory at) wramcnt m width is = refl
read_leaves now (Banks space at) wramcnt m width is = refl
read_leaves now (Rom at) wramcnt m width is = refl
read_leaves now Nothing wramcnt m width is = refl
read_leaves now place wramcnt m width is = absurd is

none_refused : (place : Place) (wramcnt : ℕ) (m : MapState) (width : Width) (value : ℕ) → IsOwnPlace wramcnt place → refusal_at Nine place m width value ≡ None
none_refused (Cell memory at) wramcnt m width value is = refl
none_refused (Banks space at) wramcnt m width value is = refl
none_refused (Rom at) wramcnt m width value is = refl
none_refused Nothing wramcnt m width value is = refl
none_refused place wramcnt m width value is = absurd is

-- shared work RAM takes bytes too
shared_taken : (width : Width) (m : MemoriesState) (at value : ℕ) → cell_put Nine Shared m at width value ≡ record m { shared = with_number width m.shared (aligned_down width at) value }
shared_taken Byte m at value = refl
shared_taken Half m at value = refl
shared_taken Word m at value = refl

shared_leaves : (own : NineBytes) (now : Tick) (m : MapState) (at : ℕ) (width : Width) (value : ℕ) → IsAll (is_shown_to_nine own.share.wramcnt) true width (aligned_down width at)
    → written_at Nine now (Cell Shared at) (nine_put own m) width value ≡ nine_put (wrote_at (Cell Shared at) own width value) m
shared_leaves own now m at width value is =
    let there = nine_put own m in
    ap (λ (memories : MemoriesState). (let left : MapState = record there { memories = memories } in left)) (shared_taken width there.memories at value)
    ∙ ap (λ (shared : List ℕ). (let left : MapState = record there { memories = record there.memories { shared = shared } } in left))
    (with_number_own (is_shown_to_nine own.share.wramcnt) own.share.shared m.memories.shared width (aligned_down width at) value is)

palette_leaves : (width : Width) (own : NineBytes) (now : Tick) (m : MapState) (at value : ℕ)
    → written_at Nine now (Cell Palette at) (nine_put own m) width value ≡ nine_put (wrote_at (Cell Palette at) own width value) m
palette_leaves Byte own now m at value = refl
palette_leaves Half own now m at value = refl
palette_leaves Word own now m at value = refl

oam_leaves : (width : Width) (own : NineBytes) (now : Tick) (m : MapState) (at value : ℕ)
    → written_at Nine now (Cell Oam at) (nine_put own m) width value ≡ nine_put (wrote_at (Cell Oam at) own width value) m
oam_leaves Byte own now m at value = refl
oam_leaves Half own now m at value = refl
oam_leaves Word own now m at value = refl

-- video memory
banks_written : (v : cells.Banks) (others : List ℕ) (space : Space) (at : ℕ) (width : Width) (value : ℕ) → same_space space Arm7 ≡ false
    → vram_written (mixed_banks v others) space at width value ≡ mixed_banks (vram_written v space at width value) others
banks_written v others space at width value is =
    let new = vram_written v space at width value in
    written_apart v.controls v.bytes others space at width value is
    ∙ ap (λ (controls : List ℕ). mixed_banks (record { bytes = new.bytes; controls = controls }) others) (sym (written_controls v space at width value))

banks_leave : (width : Width) (own : NineBytes) (now : Tick) (m : MapState) (space : Space) (at value : ℕ) → same_space space Arm7 ≡ false
    → written_at Nine now (Banks space at) (nine_put own m) width value ≡ nine_put (wrote_at (Banks space at) own width value) m
banks_leave Byte own now m space at value is = refl
banks_leave Half own now m space at value is =
    let there = nine_put own m in
    ap (λ (v : cells.Banks). (let left : MapState = record there { io = record there.io { vram = v } } in left)) (banks_written own.share.vram m.io.vram.bytes space at Half value is)
banks_leave Word own now m space at value is =
    let there = nine_put own m in
    ap (λ (v : cells.Banks). (let left : MapState = record there { io = record there.io { vram = v } } in left)) (banks_written own.share.vram m.io.vram.bytes space at Word value is)

write_leaves : (place : Place) (own : NineBytes) (now : Tick) (m : MapState) (width : Width) (value : ℕ) → IsOwnPlace own.share.wramcnt place
    → written_at Nine now place (nine_put own m) width value ≡ nine_put (wrote_at place own width value) m
write_leaves (Cell Shared at) own now m width value is = shared_leaves own now m at width value (is width)
write_leaves (Cell Palette at) own now m width value is = palette_leaves width own now m at value
write_leaves (Cell Oam at) own now m width value is = oam_leaves width own now m at value
write_leaves (Banks space at) own now m width value is = banks_leave width own now m space at value is
write_leaves (Rom at) own now m width value is = refl
write_leaves Nothing own now m width value is = refl
write_leaves place own now m width value is = absurd is

-- ---- by address

module _ (own : NineBytes) (at : ℕ) (is : IsOwnAddress own.share.wramcnt at) (width : Width) where
  pub nine_value_alike : (now later : Tick) (m n : MapState) → map_value Nine now (nine_put own m) at width ≡ map_value Nine later (nine_put own n) at width
  unfolding map_value
  nine_value_alike now later m n = value_alike (place_of Nine own.share.wramcnt at) own now later m n width is

  pub nine_fetched_alike : (m n : MapState) → map_fetched Nine (nine_put own m) at width ≡ map_fetched Nine (nine_put own n) at width
  unfolding map_fetched
  nine_fetched_alike m n = fetch_alike (place_of Nine own.share.wramcnt at) own m n width is

  pub nine_read_leaves : (now : Tick) (m : MapState) → map_read Nine now (nine_put own m) at width ≡ nine_put own m
  unfolding map_read
  nine_read_leaves now m = read_leaves now (place_of Nine own.share.wramcnt at) own.share.wramcnt (nine_put own m) width is

  pub nine_none_refused : (m : MapState) (value : ℕ) → map_refusal Nine (nine_put own m) at width value ≡ None
  unfolding map_refusal
  nine_none_refused m value = none_refused (place_of Nine own.share.wramcnt at) own.share.wramcnt (nine_put own m) width value is

  pub nine_write_leaves : (now : Tick) (m : MapState) (value : ℕ) → map_written Nine now (nine_put own m) at width value ≡ nine_put (nine_wrote_at own at width value) m
  unfolding map_written
  nine_write_leaves now m value = write_leaves (place_of Nine own.share.wramcnt at) own now m width value is
