use Rattle.ds_machine.proofs.Words.{Bool, Cp15State, Dtcm, GoesByWords, IsMainPast, Itcm, List, MachineState, MapState, Nine, NineReach, Oam, Palette}
use Rattle.ds_machine.proofs.Words.{Past, Place, SevenReach, Shared, Tcm, [], answers, ap, arith, bit, bits, covered, dtcm_base, false, from_same}
use Rattle.ds_machine.proofs.Words.{if◌then◌else◌, in_dtcm, in_itcm, inl, inr, is_private_place, is_private_tcm, is_private_to, is_private_to_seven}
use Rattle.ds_machine.proofs.Words.{lt_cases, memory_size, min, nat_le, nat_lt, nine_reach, nine_side, not, not-true, past_row, place_of, refl}
use Rattle.ds_machine.proofs.Words.{regions_of_nine, seven_side, shared_for_nine, space_size, sym, tcm_of, tick_of, true, upto_same, ℕ, ◌%◌, ◌&&◌}
use Rattle.ds_machine.proofs.Words.{◌*◌, ◌+◌, ◌-◌, ◌/◌, ◌==◌, ◌^◌, ◌||◌, ◌∙◌, ◌∷◌, ◌≡◌, ◌≤◌, ◌⊎◌}
use Rattle.ds_places.specs.AddressTables.{BootRom, Cells, Content, Empty, Ports, Region, place_at, place_by, Video, is_of_region, main_region}
use Rattle.ds_base.specs.declared.memories.Space.TheVariants.{Arm7}
use Rattle.vram_banks.specs.BankMap.{same_space}
use Rattle.vram_banks.proofs.Allotted.{not_met}

-- The four bytes of a word that is aligned are private together: all bounds are multiples of 4.

-- ---- tests against a multiple of 4

below_same : (a b k : ℕ) → a / 4 ≡ b / 4 → nat_lt a (4 * k) ≡ nat_lt b (4 * k)
below_same a b k e = elim (lt_cases a (4 * k)) [
  | inl x ↦ elim (lt_cases b (4 * k)) [ inl y ↦ x.1 ∙ sym y.1 | inr y ↦ (let p = x.0 in let q = y.0 in absurd (omega (arith, e, p, q))) ]
  | inr x ↦ elim (lt_cases b (4 * k)) [ inl y ↦ (let p = x.0 in let q = y.0 in absurd (omega (arith, e, p, q))) | inr y ↦ x.1 ∙ sym y.1 ]
]

-- ---- past the tightly coupled memories: by the rows of ARM9's address table

-- what stands in a region is private to ARM9, whatever is allotted to ARM7: none of its spaces of video memory has a cell of that
abbrev pub is_private_content : Content → Bool
is_private_content (Cells Shared from bytes) = true
is_private_content (Cells Palette from bytes) = true
is_private_content (Cells Oam from bytes) = true
is_private_content (Video space) = true
is_private_content BootRom = true
is_private_content content = false

-- so it is in the first region of a table in which an address lies
abbrev pub is_private_in : List Region → ℕ → Bool
is_private_in [] at = false
is_private_in (r ∷ rs) at = if nat_le r.first at && nat_le at r.last then is_private_content r.content else is_private_in rs at

-- a region begins and ends where words do, and isn't ARM7's space
abbrev pub is_of_nine : Content → Bool
is_of_nine (Video space) = not (same_space space Arm7)
is_of_nine content = true

abbrev pub are_rows : List Region → Bool
are_rows [] = true
are_rows (r ∷ rs) = (r.first % 4 == 0) && (r.last % 4 == 3) && is_of_nine r.content && are_rows rs

pub row_facts : (r : Region) (rs : List Region) → are_rows (r ∷ rs) ≡ true → (r.first % 4 ≡ 0) × (r.last % 4 ≡ 3) × (is_of_nine r.content ≡ true) × (are_rows rs ≡ true)
row_facts r rs h = facts (r.first % 4) (r.last % 4) (is_of_nine r.content) (are_rows rs) h where
  facts : (first last : ℕ) (own rest : Bool) → ((first == 0) && (last == 3) && own && rest) ≡ true → (first ≡ 0) × (last ≡ 3) × (own ≡ true) × (rest ≡ true)
  facts first last own rest h = grind arith

content_private : (controls : List ℕ) (content : Content) (offset : ℕ) → is_of_nine content ≡ true → is_private_place controls (place_at content offset) ≡ is_private_content content
content_private controls (Cells Shared from bytes) offset h = refl
content_private controls (Cells memory from bytes) offset h = refl
content_private controls (Video space) offset h = ap not (not_met controls space (offset % space_size space) (not-true (same_space space Arm7) h))
content_private controls Ports offset h = refl
content_private controls BootRom offset h = refl
content_private controls Empty offset h = refl

chosen : (controls : List ℕ) (b : Bool) (one other : Place) (p q : Bool) → is_private_place controls one ≡ p → is_private_place controls other ≡ q
    → is_private_place controls (if b then one else other) ≡ (if b then p else q)
chosen controls true one other p q h k = h
chosen controls false one other p q h k = k

rows_private : (controls : List ℕ) (rs : List Region) (at : ℕ) → are_rows rs ≡ true → is_private_place controls (place_by rs at) ≡ is_private_in rs at
rows_private controls [] at h = refl
rows_private controls (r ∷ rs) at h =
    let f = row_facts r rs h in
    chosen controls (nat_le r.first at && nat_le at r.last) (place_at r.content (at - r.first)) (place_by rs at) (is_private_content r.content) (is_private_in rs at)
    (content_private controls r.content (at - r.first) f.2) (rows_private controls rs at f.3)

shared_of_nine : (w : ℕ) → is_of_nine (shared_for_nine w) ≡ true
shared_of_nine w = by_tests (w == 0) (w == 1) (w == 2) where
  by_tests : (a b c : Bool) → is_of_nine (
      if a then Cells Shared 0 (memory_size Shared) else (if b then Cells Shared 0x4000 0x4000 else (if c then Cells Shared 0 0x4000 else Empty))) ≡ true
  by_tests true b c = refl
  by_tests false true c = refl
  by_tests false false true = refl
  by_tests false false false = refl

pub rows_of_nine : (w : ℕ) → are_rows (regions_of_nine w) ≡ true
rows_of_nine w = ap (λ (b : Bool). b && true) (shared_of_nine w)

-- a byte's place is private to ARM9 by the row of its address
pub private_by_rows : (controls : List ℕ) (wramcnt at : ℕ) → is_private_place controls (place_of Nine wramcnt at) ≡ is_private_in (regions_of_nine wramcnt) at
private_by_rows controls wramcnt at = rows_private controls (regions_of_nine wramcnt) at (rows_of_nine wramcnt)

-- so are palettes, video memory and OAM
palettes_private : (w at : ℕ) → at / 2 ^ 24 ≡ 5 → is_private_in (regions_of_nine w) at ≡ true
palettes_private w at h = grind (arith, h)

video_private : (w at : ℕ) → at / 2 ^ 24 ≡ 6 → is_private_in (regions_of_nine w) at ≡ true
video_private w at h =
    rw (
      past_row 0x02000000 0x02FFFFFF at (omega (arith, h)),
      past_row 0x03000000 0x03FFFFFF at (omega (arith, h)),
      past_row 0x04000000 0x04FFFFFF at (omega (arith, h)),
      past_row 0x05000000 0x05FFFFFF at (omega (arith, h)),
    )
    (grind (arith, h))

objects_private : (w at : ℕ) → at / 2 ^ 24 ≡ 7 → is_private_in (regions_of_nine w) at ≡ true
objects_private w at h =
    rw (
      past_row 0x02000000 0x02FFFFFF at (omega (arith, h)),
      past_row 0x03000000 0x03FFFFFF at (omega (arith, h)),
      past_row 0x04000000 0x04FFFFFF at (omega (arith, h)),
      past_row 0x05000000 0x05FFFFFF at (omega (arith, h)),
      past_row 0x06000000 0x061FFFFF at (omega (arith, h)),
      past_row 0x06200000 0x063FFFFF at (omega (arith, h)),
    )
    (grind (arith, h))

three : (n : ℕ) → 5 ≤ n → n ≤ 7 → (n ≡ 5) ⊎ ((n ≡ 6) ⊎ (n ≡ 7))
three n low high = grind arith

pub shown_private : (controls : List ℕ) (wramcnt at : ℕ) → 5 ≤ at / 2 ^ 24 → at / 2 ^ 24 ≤ 7 → is_private_place controls (place_of Nine wramcnt at) ≡ true
shown_private controls w at low high =
    private_by_rows controls w at
    ∙ elim (three (at / 2 ^ 24) low high) [ inl p ↦ palettes_private w at p | inr q ↦ elim q [ inl v ↦ video_private w at v | inr o ↦ objects_private w at o ] ]

rows_same : (rs : List Region) (a b : ℕ) → are_rows rs ≡ true → a / 4 ≡ b / 4 → is_private_in rs a ≡ is_private_in rs b
rows_same [] a b h e = refl
rows_same (r ∷ rs) a b h e =
    let f = row_facts r rs h in
    let by : Bool → Bool → Bool → Bool = λ from upto rest. if from && upto then is_private_content r.content else rest in
    ap (λ (t : Bool). by t (nat_le a r.last) (is_private_in rs a)) (from_same a b r.first f.0 e) ∙ ap (λ (t : Bool). by (nat_le r.first b) t (is_private_in rs a)) (upto_same a b r.last f.1 e)
    ∙ ap (λ (t : Bool). by (nat_le r.first b) (nat_le b r.last) t) (rows_same rs a b f.3 e)

place_same : (controls : List ℕ) (w a b : ℕ) → a / 4 ≡ b / 4 → is_private_place controls (place_of Nine w a) ≡ is_private_place controls (place_of Nine w b)
place_same controls w a b e = private_by_rows controls w a ∙ rows_same (regions_of_nine w) a b (rows_of_nine w) e ∙ sym (private_by_rows controls w b)

-- ---- ARM9's windows

by_fours : (x : ℕ) → min (512 * x) (2 ^ 32) ≡ 4 * min (128 * x) (2 ^ 30)
by_fours x = omega arith

covered_fours : (register : ℕ) → covered register ≡ 4 * min (128 * 2 ^ bits 1 5 register) (2 ^ 30)
covered_fours register = by_fours (2 ^ bits 1 5 register)

base_fours : (register : ℕ) → dtcm_base register ≡ 4 * (register / 2 ^ 12 * 2 ^ 10)
base_fours register = omega arith

pub itcm_same : (s : Cp15State) (writing : Bool) (a b : ℕ) → a / 4 ≡ b / 4 → in_itcm s a writing ≡ in_itcm s b writing
itcm_same s writing a b e =
    let c = covered_fours s.itcm in
    let on = answers (bit 18 s.control) (bit 19 s.control) writing in
    ap (λ (n : ℕ). on && nat_lt a n) c ∙ ap (λ (t : Bool). on && t) (below_same a b (min (128 * 2 ^ bits 1 5 s.itcm) (2 ^ 30)) e) ∙ ap (λ (n : ℕ). on && nat_lt b n) (sym c)

pub dtcm_same : (s : Cp15State) (writing : Bool) (a b : ℕ) → a / 4 ≡ b / 4 → in_dtcm s a writing ≡ in_dtcm s b writing
dtcm_same s writing a b e =
    let base = s.dtcm / 2 ^ 12 * 2 ^ 10 in
    let wide = min (128 * 2 ^ bits 1 5 s.dtcm) (2 ^ 30) in
    let first = base_fours s.dtcm in
    let last : dtcm_base s.dtcm + covered s.dtcm ≡ 4 * (base + wide) = (let c = covered_fours s.dtcm in omega (arith, first, c)) in
    let on = answers (bit 16 s.control) (bit 17 s.control) writing in
    let test : ℕ → ℕ → ℕ → Bool = λ x y n. on && nat_le x n && nat_lt n y in
    ap (λ (x : ℕ). test x (dtcm_base s.dtcm + covered s.dtcm) a) first ∙ ap (λ (y : ℕ). test (4 * base) y a) last
    ∙ ap (λ (t : Bool). on && t && nat_lt a (4 * (base + wide))) (from_same a b (4 * base) (omega arith) e) ∙ ap (λ (t : Bool). on && nat_le (4 * base) b && t) (below_same a b (base + wide) e)
    ∙ sym (ap (λ (x : ℕ). test x (dtcm_base s.dtcm + covered s.dtcm) b) first ∙ ap (λ (y : ℕ). test (4 * base) y b) last)

-- by the tests alone
tcm_tests : (i d : Bool) (m : MapState) (at x y : ℕ)
    → is_private_tcm (if i then Itcm x else (if d then Dtcm y else Past)) m at ≡ (i || (d || is_private_place m.io.vram.controls (place_of Nine m.io.wramcnt at)))
tcm_tests true d m at x y = refl
tcm_tests false true m at x y = refl
tcm_tests false false m at x y = refl

nine_tests : (s : Cp15State) (m : MapState) (writing fetching : Bool) (at : ℕ) → is_private_tcm (tcm_of s at writing fetching) m at
    ≡ (in_itcm s at writing || ((not fetching && in_dtcm s at writing) || is_private_place m.io.vram.controls (place_of Nine m.io.wramcnt at)))
nine_tests s m writing fetching at = tcm_tests (in_itcm s at writing) (not fetching && in_dtcm s at writing) m at _ _

pub nine_by_words : GoesByWords nine_side
nine_by_words = record { same = same } where
  same : (r : NineReach) (writing fetching : Bool) (a b : ℕ) → a / 4 ≡ b / 4 → nine_side.is_private r writing fetching a ≡ nine_side.is_private r writing fetching b
  same r writing fetching a b e =
      let s = r.cp15 in
      let past : ℕ → Bool = λ at. is_private_place r.map.io.vram.controls (place_of Nine r.map.io.wramcnt at) in
      nine_tests s r.map writing fetching a
      ∙ ap (λ (t : Bool). t || ((not fetching && in_dtcm s a writing) || past a)) (itcm_same s writing a b e)
      ∙ ap (λ (t : Bool). in_itcm s b writing || ((not fetching && t) || past a)) (dtcm_same s writing a b e)
      ∙ ap (λ (t : Bool). in_itcm s b writing || ((not fetching && in_dtcm s b writing) || t)) (place_same r.map.io.vram.controls r.map.io.wramcnt a b e)
      ∙ sym (nine_tests s r.map writing fetching b)

pub seven_by_words : GoesByWords seven_side
seven_by_words = record { same = same } where
  same : (r : SevenReach) (writing fetching : Bool) (a b : ℕ) → a / 4 ≡ b / 4 → is_private_to_seven a ≡ is_private_to_seven b
  same r writing fetching a b e =
      let rom : ℕ → Bool = λ at. nat_le 0 at && nat_le at 0x3FFF in
      let own : ℕ → Bool = λ at. nat_le 0x03800000 at && nat_le at 0x03FFFFFF in
      ap (λ (t : Bool). (t && nat_le a 0x3FFF) || own a) (from_same a b 0 refl e) ∙ ap (λ (t : Bool). (nat_le 0 b && t) || own a) (upto_same a b 0x3FFF refl e)
      ∙ ap (λ (t : Bool). rom b || (t && nat_le a 0x03FFFFFF)) (from_same a b 0x03800000 refl e)
      ∙ ap (λ (t : Bool). rom b || (nat_le 0x03800000 b && t)) (upto_same a b 0x03FFFFFF refl e)

-- ---- main memory isn't private

main_row : (w at : ℕ) → 0x02000000 ≤ at → at ≤ 0x02FFFFFF → is_private_in (regions_of_nine w) at ≡ false
main_row w at low high = grind (arith, low, high)

-- ARM9's code there, where it lies past both tightly coupled memories
pub main_of_nine : (s : MachineState) (at : ℕ) → IsMainPast s.nine.cp15 at false true → is_private_to s Nine false true at ≡ false
main_of_nine s at k =
    let m = (nine_reach (tick_of s.nine.processor) s).map in
    ap (λ (t : Tcm). is_private_tcm t m at) (k.past at k.from (omega arith)) ∙ private_by_rows m.io.vram.controls m.io.wramcnt at
    ∙ main_row m.io.wramcnt at k.from k.upto

-- and ARM7's
pub main_of_seven : (at : ℕ) → is_of_region main_region at ≡ true → is_private_to_seven at ≡ false
main_of_seven at h = grind arith
