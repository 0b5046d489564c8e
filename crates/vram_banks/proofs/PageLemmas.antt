use Rattle.vram_banks.proofs.Words.{ArePages, Empty, IsControl, IsFound, IsPageBelow, List, None, One, Option, Several, Some, Window, [], ap, arith}
use Rattle.vram_banks.proofs.Words.{cell_among, cell_of, get_or, get_or-set_other, get_or-set_same, get_or_default, inl, inr, length, refl}
use Rattle.vram_banks.proofs.Words.{same_or_not, set, subst, sym, ℕ, ◌%◌, ◌*◌, ◌+◌, ◌-◌, ◌/◌, ◌<◌, ◌∙◌, ◌∷◌, ◌≡◌, ◌≤◌, ◌⊎◌}
use Rattle.vram_banks.specs.BankMap.{first_cell, mst_bits, kept_bank_control}
use Rattle.vram_banks.specs.paging.Flat.{no_window, window_of, cell_in, IsRoomy}
use Rattle.vram_banks.specs.paging.Pages.{NoneBelow, AreWindows, window_at, page_at, with_cell}
use Rattle.std.proofs.lemmas.Grind.{common_steps}
use Rattle.vram_banks.specs.declared.maps.Page.{Page}

-- where the banks below n have none, and bank n has this
none_more : (f : ℕ → Option ℕ) (n : ℕ) → NoneBelow f n → f n ≡ None → NoneBelow f (n + 1)
none_more f n h e b lt = elim (same_or_not b n) [
  | inl same ↦ (let P : ℕ → Type 0 = λ x. f x ≡ None in subst P (sym same) e)
  | inr other ↦ h b (omega arith)
]

page_more_by : (f : ℕ → Option ℕ) (n : ℕ) (page : Page) (o : Option ℕ) → IsPageBelow f n page → f n ≡ o → IsPageBelow f (n + 1) (with_cell page o)
page_more_by f n Empty None h e = none_more f n h e
page_more_by f n Empty (Some cell) h e = record {
  bank = n;
  known = omega arith;
  there = e;
  others = λ b lt other. h b (omega arith);
}
page_more_by f n (One cell) None h e = record {
  bank = h.bank;
  known = (let k = h.known in omega arith);
  there = h.there;
  others = λ b lt other. elim (same_or_not b n) [
    | inl same ↦ (let P : ℕ → Type 0 = λ x. f x ≡ None in subst P (sym same) e)
    | inr past ↦ h.others b (omega arith) other
  ];
}
page_more_by f n (One cell) (Some more) h e = tt
page_more_by f n Several None h e = tt
page_more_by f n Several (Some more) h e = tt

-- what stands there by the banks below n, and by bank n
pub page_more : (f : ℕ → Option ℕ) (n : ℕ) (page : Page) → IsPageBelow f n page → IsPageBelow f (n + 1) (with_cell page (f n))
page_more f n page h = page_more_by f n page (f n) h refl

-- a bank that stands nowhere at the first address of a page stands nowhere in it
none_in_page : (w : Window) (start n p d : ℕ) → IsRoomy n w → p % 8192 ≡ 0 → d < 8192 → cell_in w start p ≡ None → cell_in w start (p + d) ≡ None
none_in_page w start n p d roomy whole small h =
    let a = roomy.first in
    let b = roomy.size in
    grind (arith, h)

-- one that stands there stands in all of it
some_in_page : (w : Window) (start n p d cell : ℕ) → IsRoomy n w → p % 8192 ≡ 0 → d < 8192 → cell_in w start p ≡ Some cell → cell_in w start (p + d) ≡ Some (cell + d)
some_in_page w start n p d cell roomy whole small h =
    let a = roomy.first in
    let b = roomy.size in
    grind (arith, h)

room_in_page : (w : Window) (start n p cell : ℕ) → IsRoomy n w → p % 8192 ≡ 0 → cell_in w start p ≡ Some cell → cell + 8192 ≤ start + n
room_in_page w start n p cell roomy whole h =
    let a = roomy.first in
    let b = roomy.size in
    let r = roomy.room in
    grind (arith, h)

-- the first address of the page of an address, and its distance
page_start : (x j : ℕ) → x + j ≡ x / 8192 * 8192 + (x % 8192 + j)
page_start x j = omega arith

pub first_cell-room : (bank : ℕ) → bank < 9 → first_cell bank ≤ 0xA4000
unfolding first_cell
first_cell-room bank h = grind arith

-- a page with what stands at an address of it in place of what stands at its first
abbrev pub moved : Page → ℕ → Page
moved Empty d = Empty
moved (One cell) d = One (cell + d)
moved Several d = Several

cell_of-by : (controls : List ℕ) (windows : List Window) (bank x : ℕ) → AreWindows controls windows → bank < 9 → cell_of controls bank x ≡ cell_among windows x bank
unfolding cell_of
cell_of-by controls windows bank x are h = ap (λ (w : Window). cell_in w (first_cell bank) x) (sym (are.each bank h))

none_moved : (controls : List ℕ) (windows : List Window) (x j bank : ℕ) → AreWindows controls windows → bank < 9 → x % 8192 + j < 8192 →
    cell_among windows (x / 8192 * 8192) bank ≡ None → cell_of controls bank (x + j) ≡ None
none_moved controls windows x j bank are h small e =
    let whole : x / 8192 * 8192 % 8192 ≡ 0 = omega arith in
    cell_of-by controls windows bank (x + j) are h ∙ rw (page_start x j)
    (none_in_page (window_at windows bank) (first_cell bank) (0xA4000 - first_cell bank) (x / 8192 * 8192) (x % 8192 + j) (are.roomy bank h) whole small e)

some_moved : (controls : List ℕ) (windows : List Window) (x j bank cell : ℕ) → AreWindows controls windows → bank < 9 → x % 8192 + j < 8192 →
    cell_among windows (x / 8192 * 8192) bank ≡ Some cell → cell_of controls bank (x + j) ≡ Some (cell + (x % 8192 + j))
some_moved controls windows x j bank cell are h small e =
    let whole : x / 8192 * 8192 % 8192 ≡ 0 = omega arith in
    cell_of-by controls windows bank (x + j) are h ∙ rw (page_start x j)
    (some_in_page (window_at windows bank) (first_cell bank) (0xA4000 - first_cell bank) (x / 8192 * 8192) (x % 8192 + j) cell (are.roomy bank h) whole small e)

-- what a page says of an address of it
pub found_by : (controls : List ℕ) (windows : List Window) (x : ℕ) (page : Page) → AreWindows controls windows →
    IsPageBelow (cell_among windows (x / 8192 * 8192)) 9 page → IsFound controls x (moved page (x % 8192))
found_by controls windows x Empty are h = λ j small bank known. none_moved controls windows x j bank are known small (h bank known)
found_by controls windows x (One cell) are h =
    let whole : x / 8192 * 8192 % 8192 ≡ 0 = omega arith in
    let start = first_cell-room h.bank h.known in
    let room = room_in_page (window_at windows h.bank) (first_cell h.bank) (0xA4000 - first_cell h.bank) (x / 8192 * 8192) cell (are.roomy h.bank h.known) whole h.there in (
      omega (arith, start, room),
      λ j small. record {
        bank = h.bank;
        known = h.known;
        there = some_moved controls windows x j h.bank cell are h.known small h.there ∙ ap (λ (k : ℕ). Some k) (omega arith);
        others = λ b known other. none_moved controls windows x j b are known small (h.others b known other);
      },
    )
found_by controls windows x Several are h = tt

-- with no bank enabled none stands anywhere
pub window_of-blank : (bank : ℕ) → window_of bank 0 ≡ no_window
unfolding window_of
window_of-blank bank = refl

abbrev pub no_windows : List Window
no_windows = no_window ∷ no_window ∷ no_window ∷ no_window ∷ no_window ∷ no_window ∷ no_window ∷ no_window ∷ no_window ∷ []

abbrev pub no_controls : List ℕ
no_controls = 0 ∷ 0 ∷ 0 ∷ 0 ∷ 0 ∷ 0 ∷ 0 ∷ 0 ∷ 0 ∷ []

no_control : (bank : ℕ) → bank < 9 → get_or no_controls bank 0 ≡ 0
no_control bank h = grind (arith, common_steps)

no_windows-at : (bank : ℕ) → bank < 9 → window_at no_windows bank ≡ no_window
no_windows-at bank h = grind (arith, common_steps)

pub windows-blank : AreWindows no_controls no_windows
windows-blank = record {
  each = λ bank h. no_windows-at bank h ∙ sym (ap (λ (c : ℕ). window_of bank c) (no_control bank h) ∙ window_of-blank bank);
  roomy = λ bank h. (let P : Window → Type 0 = λ w. IsRoomy (0xA4000 - first_cell bank) w in
      subst P (sym (no_windows-at bank h)) (record { first = refl; size = refl; inside = omega arith; room = omega arith }));
}

pub found_at : (controls : List ℕ) (windows : List Window) (pages : List Page) (x : ℕ) (page : Page) → length pages ≡ 298 → AreWindows controls windows →
    ArePages windows pages 298 → x < 0x254000 → get_or pages (x / 8192) Empty ≡ page → IsFound controls x (moved page (x % 8192))
found_at controls windows pages x page long are these small e =
    let k : x / 8192 < 298 = omega arith in
    let in_pages : x / 8192 < length pages = omega (arith, long) in
    let same : page_at pages (x / 8192) ≡ page = get_or_default pages (x / 8192) Several Empty in_pages ∙ e in
    let P : Page → Type 0 = λ p. IsPageBelow (cell_among windows (x / 8192 * 8192)) 9 p in
    found_by controls windows x page are (subst P same (these (x / 8192) k))

-- ---- what controls keep

mst_two_or_three : (bank : ℕ) → (mst_bits bank ≡ 2) ⊎ (mst_bits bank ≡ 3)
mst_two_or_three bank = grind arith

is_kept : (bank written : ℕ) → written < 256 → IsControl bank (kept_bank_control bank written)
is_kept bank written small = elim (mst_two_or_three bank) [
  | inl two ↦ record { small = rw two (omega arith); kept = rw two (omega arith) }
  | inr three ↦ record { small = rw three (omega arith); kept = rw three (omega arith) }
]

is_blank : (bank : ℕ) → IsControl bank 0
is_blank bank = elim (mst_two_or_three bank) [
  | inl two ↦ record { small = omega arith; kept = rw two refl }
  | inr three ↦ record { small = omega arith; kept = rw three refl }
]

pub controls-blank : (bank : ℕ) → bank < 9 → IsControl bank (get_or no_controls bank 0)
controls-blank bank h = (let P : ℕ → Type 0 = λ c. IsControl bank c in subst P (sym (no_control bank h)) (is_blank bank))

pub controls_set : (controls : List ℕ) (bank written : ℕ) → length controls ≡ 9 → written < 256 → ((b : ℕ) → b < 9 → IsControl b (get_or controls b 0)) →
    (b : ℕ) → b < 9 → IsControl b (get_or (set controls bank (kept_bank_control bank written)) b 0)
controls_set controls bank written nine small each b known =
    let P : ℕ → Type 0 = λ c. IsControl b c in
    elim (same_or_not b bank) [
      | inl same ↦
          (let here : get_or (set controls bank (kept_bank_control bank written)) b 0 ≡ kept_bank_control b written =
          ap (λ (k : ℕ). get_or (set controls k (kept_bank_control k written)) b 0) (sym same) ∙ get_or-set_same controls b (kept_bank_control b written) 0 (omega (arith, nine)) in
          subst P (sym here) (is_kept b written small))
      | inr other ↦ subst P (sym (get_or-set_other controls bank b (kept_bank_control bank written) 0 other)) (each b known)
    ]
