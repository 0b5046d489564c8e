use Rattle.vram_banks.proofs.Words.{ABg, ABgPalette, AObj, AObjPalette, Arm7, BBg, BBgPalette, BObj, BObjPalette, Bool, Lcdc, List, None, Option}
use Rattle.vram_banks.proofs.Words.{Some, Space, Window, [], allotted_bit, ap, arith, cell_by, cell_of, cell_there, false, get_or, if◌then◌else◌, inl}
use Rattle.vram_banks.proofs.Words.{inr, low_or_high, nat_le, nat_lt, none-some, not, origin_of, refl, same_Some, same_or_not, space_size, subst, sym}
use Rattle.vram_banks.proofs.Words.{true, ℕ, ◌%◌, ◌&&◌, ◌*◌, ◌+◌, ◌-◌, ◌/◌, ◌<◌, ◌==◌, ◌^◌, ◌||◌, ◌∙◌, ◌∷◌, ◌≡◌, ◌≢◌, ◌≤◌, ◌⊎◌}
use Rattle.vram_banks.specs.BankMap.{BankRow, rows_of, row_by, chosen_row, row_start, same_space, first_cell, Stands, StandsIn, space_number}
use Rattle.vram_banks.specs.paging.Flat.{no_window, window_of, cell_in, window_by}
use Rattle.ds_base.specs.Bits.{bits}

-- every row of a table lies in its space, and its bytes in its bank, which has n
abbrev pub all_fit : ℕ → List BankRow → Bool
all_fit n [] = true
all_fit n (r ∷ rs) = nat_le (r.base + r.ofs_0 + r.ofs_1 + r.size) (space_size r.space) && nat_le r.size n && all_fit n rs

-- how many bytes a bank has
abbrev pub size_of_bank : ℕ → ℕ
size_of_bank bank =
    if nat_lt bank 4 then 0x20000 else (
    if bank == 4 then 0x10000 else (
    if bank == 5 then 0x4000 else (
    if bank == 6 then 0x4000 else (
    if bank == 7 then 0x8000 else 0x4000))))

pub record Fits (n : ℕ) (r : BankRow) : Type 0 where
  pub in_space : r.base + r.ofs_0 + r.ofs_1 + r.size ≤ space_size r.space
  pub in_bank : r.size ≤ n

fits_first : (n : ℕ) (r : BankRow) (rs : List BankRow) → all_fit n (r ∷ rs) ≡ true → Fits n r × (all_fit n rs ≡ true)
fits_first n r rs h = (record { in_space = grind (arith, h); in_bank = grind (arith, h) }, grind (arith, h))

pub row_by-first : (r : BankRow) (rs : List BankRow) (mst : ℕ) → ((mst ≡ r.mst) × (row_by (r ∷ rs) mst ≡ Some r)) ⊎ ((mst ≢ r.mst) × (row_by (r ∷ rs) mst ≡ row_by rs mst))
row_by-first r rs mst = grind arith

row_by-fits : (n : ℕ) (rows : List BankRow) (mst : ℕ) (r : BankRow) → all_fit n rows ≡ true → row_by rows mst ≡ Some r → Fits n r
row_by-fits n [] mst r h e = absurd (none-some r e)
row_by-fits n (q ∷ rows) mst r h e =
    let first = fits_first n q rows h in
    elim (row_by-first q rows mst) [
      | inl here ↦ (let P : BankRow → Type 0 = λ x. Fits n x in subst P (same_Some q r (sym here.1 ∙ e)) first.0)
      | inr past ↦ row_by-fits n rows mst r first.1 (sym past.1 ∙ e)
    ]

-- the space in which a flat address lies
abbrev pub space_at : ℕ → Space
space_at x =
    if nat_lt x 0x80000 then ABg else (
    if nat_lt x 0xA0000 then BBg else (
    if nat_lt x 0xE0000 then AObj else (
    if nat_lt x 0x100000 then BObj else (
    if nat_lt x 0x200000 then Lcdc else (
    if nat_lt x 0x240000 then Arm7 else (
    if nat_lt x 0x248000 then ABgPalette else (
    if nat_lt x 0x250000 then BBgPalette else (
    if nat_lt x 0x252000 then AObjPalette else BObjPalette))))))))

pub space_at-origin : (space : Space) (at : ℕ) → at < space_size space → space_at (origin_of space + at) ≡ space
space_at-origin ABg at h = grind arith
space_at-origin BBg at h = grind arith
space_at-origin AObj at h = grind arith
space_at-origin BObj at h = grind arith
space_at-origin Lcdc at h = grind arith
space_at-origin Arm7 at h = grind arith
space_at-origin ABgPalette at h = grind arith
space_at-origin BBgPalette at h = grind arith
space_at-origin AObjPalette at h = grind arith
space_at-origin BObjPalette at h = grind arith

-- what holds of each of nine numbers
pub each_of_nine : (P : ℕ → Type 0) → P 0 → P 1 → P 2 → P 3 → P 4 → P 5 → P 6 → P 7 → P 8 → (bank : ℕ) → bank < 9 → P bank
each_of_nine P p0 p1 p2 p3 p4 p5 p6 p7 p8 bank h =
    elim (same_or_not bank 0) [
      | inl e ↦ subst P (sym e) p0
      | inr n0 ↦
          elim (same_or_not bank 1) [
            | inl e ↦ subst P (sym e) p1
            | inr n1 ↦
                elim (same_or_not bank 2) [
                  | inl e ↦ subst P (sym e) p2
                  | inr n2 ↦
                      elim (same_or_not bank 3) [
                        | inl e ↦ subst P (sym e) p3
                        | inr n3 ↦
                            elim (same_or_not bank 4) [
                              | inl e ↦ subst P (sym e) p4
                              | inr n4 ↦
                                  elim (same_or_not bank 5) [
                                    | inl e ↦ subst P (sym e) p5
                                    | inr n5 ↦
                                        elim (same_or_not bank 6) [
                                          | inl e ↦ subst P (sym e) p6
                                          | inr n6 ↦
                                              elim (same_or_not bank 7) [
                                                | inl e ↦ subst P (sym e) p7
                                                | inr n7 ↦
                                                    (let e : bank ≡ 8 = omega arith in subst P (sym e) p8)
                                              ]
                                        ]
                                  ]
                            ]
                      ]
                ]
          ]
    ]

pub rows_of-fit : (bank : ℕ) → bank < 9 → all_fit (size_of_bank bank) (rows_of bank) ≡ true
rows_of-fit bank h = each_of_nine (λ b. all_fit (size_of_bank b) (rows_of b) ≡ true) refl refl refl refl refl refl refl refl refl bank h

-- the bank to which a byte of the memory of all banks belongs
abbrev pub bank_at : ℕ → ℕ
bank_at cell =
    if nat_lt cell 0x20000 then 0 else (
    if nat_lt cell 0x40000 then 1 else (
    if nat_lt cell 0x60000 then 2 else (
    if nat_lt cell 0x80000 then 3 else (
    if nat_lt cell 0x90000 then 4 else (
    if nat_lt cell 0x94000 then 5 else (
    if nat_lt cell 0x98000 then 6 else (
    if nat_lt cell 0xA0000 then 7 else 8)))))))

pub bank_at-cell : (bank : ℕ) → bank < 9 → (i : ℕ) → i < size_of_bank bank → bank_at (first_cell bank + i) ≡ bank
unfolding first_cell
bank_at-cell bank known = each_of_nine (λ b. (i : ℕ) → i < size_of_bank b → bank_at (first_cell b + i) ≡ b)
    (λ i h. grind arith) (λ i h. grind arith) (λ i h. grind arith) (λ i h. grind arith) (λ i h. grind arith)
    (λ i h. grind arith) (λ i h. grind arith) (λ i h. grind arith) (λ i h. grind arith) bank known

pub first_cell-inside : (bank : ℕ) → bank < 9 → first_cell bank + size_of_bank bank ≤ 0xA4000
unfolding first_cell
first_cell-inside bank known = each_of_nine (λ b. first_cell b + size_of_bank b ≤ 0xA4000)
    (omega arith) (omega arith) (omega arith) (omega arith) (omega arith) (omega arith) (omega arith) (omega arith) (omega arith) bank known

-- a byte is one cell of one bank
pub one_cell : (bank other i j : ℕ) → bank < 9 → other < 9 → i < size_of_bank bank → j < size_of_bank other → first_cell bank + i ≡ first_cell other + j → (bank ≡ other) × (i ≡ j)
one_cell bank other i j known also p q e =
    let same : bank ≡ other = sym (bank_at-cell bank known i p) ∙ ap bank_at e ∙ bank_at-cell other also j q in
    let first : first_cell bank ≡ first_cell other = ap first_cell same in
    (same, omega (arith, e, first))

-- a row by which a bank stands
pub fits_of : (bank mst : ℕ) (r : BankRow) → bank < 9 → row_by (rows_of bank) mst ≡ Some r → Fits (size_of_bank bank) r
fits_of bank mst r h e = row_by-fits (size_of_bank bank) (rows_of bank) mst r (rows_of-fit bank h) e

address_within : (r : BankRow) (control : ℕ) → row_start r control ≤ r.base + r.ofs_0 + r.ofs_1
address_within r control =
    let a : control / 2 ^ 3 % 2 < 2 = omega arith in
    let b : control / 2 ^ 4 % 2 < 2 = omega arith in
    grind arith

in_window : (first size start i x : ℕ) → i < size → x ≡ first + i → cell_in (record { first = first; size = size }) start x ≡ Some (start + i)
in_window first size start i x h e = grind (arith, e)

window_on : (o : Option BankRow) (e control : ℕ) (r : BankRow) → e ≡ 1 → o ≡ Some r →
    (if e == 1 then window_by o control else no_window) ≡ record { first = origin_of r.space + row_start r control; size = r.size }
window_on o e control r on by = rw (on, by) refl

enabled_window : (bank control : ℕ) (r : BankRow) → control / 2 ^ 7 % 2 ≡ 1 → chosen_row bank control ≡ Some r →
    window_of bank control ≡ record { first = origin_of r.space + row_start r control; size = r.size }
unfolding window_of
enabled_window bank control r on by = window_on (chosen_row bank control) (control / 2 ^ 7 % 2) control r on by

-- a cell that stands somewhere is the one that the code finds there
pub stands_cell : (bank control i : ℕ) (space : Space) (at : ℕ) → Stands bank control i space at → cell_in (window_of bank control) (first_cell bank) (origin_of space + at) ≡ Some (first_cell bank + i)
stands_cell bank control i space at s =
    let same : origin_of s.row.space ≡ origin_of space = ap origin_of s.in_space in
    let address = s.address in
    let here : origin_of space + at ≡ origin_of s.row.space + row_start s.row control + i = omega (arith, same, address) in
    ap (λ (w : Window). cell_in w (first_cell bank) (origin_of space + at)) (enabled_window bank control s.row s.enabled s.by)
    ∙ in_window (origin_of s.row.space + row_start s.row control) s.row.size (first_cell bank) i (origin_of space + at) s.within here

-- what is known where the code finds a cell
pub record Found (e : ℕ) (o : Option BankRow) (control start x cell : ℕ) : Type 0 where
  pub on : e ≡ 1
  pub row : BankRow
  pub by : o ≡ Some row
  pub i : ℕ
  pub within : i < row.size
  pub address : x ≡ origin_of row.space + row_start row control + i
  pub number : cell ≡ start + i

found_in : (first size start x cell : ℕ) → cell_in (record { first = first; size = size }) start x ≡ Some cell → (first ≤ x) × (x < first + size) × (cell ≡ start + (x - first))
found_in first size start x cell h = grind arith

found_row : (r : BankRow) (e control start x cell : ℕ) → e ≡ 1 → cell_in (window_by (Some r) control) start x ≡ Some cell → Found e (Some r) control start x cell
found_row r e control start x cell on h =
    let f = found_in (origin_of r.space + row_start r control) r.size start x cell h in
    record {
      on = on;
      row = r;
      by = refl;
      i = x - (origin_of r.space + row_start r control);
      within = omega (arith, f);
      address = omega (arith, f);
      number = f.2;
    }

found_on : (o : Option BankRow) (e control start x cell : ℕ) → e ≡ 1 → cell_in (window_by o control) start x ≡ Some cell → Found e o control start x cell
found_on None e control start x cell on h = let f = found_in 0 0 start x cell h in absurd (omega (arith, f))
found_on (Some r) e control start x cell on h = found_row r e control start x cell on h

pub found_window : (o : Option BankRow) (e control start x cell : ℕ) → cell_in (if e == 1 then window_by o control else no_window) start x ≡ Some cell → Found e o control start x cell
found_window o e control start x cell h =
    elim (same_or_not e 1) [
      | inl on ↦ found_on o e control start x cell on (rw on at h)
      | inr off ↦
          (let t : (e == 1) ≡ false = grind arith in
          let f = found_in 0 0 start x cell (rw t at h) in absurd (omega (arith, f)))
    ]

-- what the code finds at an address of a space stands there
pub cell_stands : (bank control : ℕ) (space : Space) (at cell : ℕ) → bank < 9 → at < space_size space → cell_in (window_of bank control) (first_cell bank) (origin_of space + at) ≡ Some cell →
    (i : ℕ) × Stands bank control i space at × (cell ≡ first_cell bank + i)
unfolding window_of
cell_stands bank control space at cell known small h =
    let f = found_window (chosen_row bank control) (control / 2 ^ 7 % 2) control (first_cell bank) (origin_of space + at) cell h in
    let fits = fits_of bank (control % 8) f.row known f.by in
    let a = address_within f.row control in
    let s = fits.in_space in
    let w = f.within in
    let here : origin_of space + at ≡ origin_of f.row.space + (row_start f.row control + f.i) = (let d = f.address in omega (arith, d)) in
    let same : f.row.space ≡ space =
    sym (space_at-origin f.row.space (row_start f.row control + f.i) (omega (arith, a, s, w))) ∙ ap space_at (sym here) ∙ space_at-origin space at small in
    let origin : origin_of f.row.space ≡ origin_of space = ap origin_of same in
    (f.i, record { enabled = f.on; row = f.row; by = f.by; in_space = same; within = f.within; address = omega (arith, here, origin) }, f.number)

-- ---- a bank's cell in a space is its cell at the flat address

abbrev space_of_number : ℕ → Space
space_of_number n =
    if n == 0 then ABg else (
    if n == 1 then BBg else (
    if n == 2 then AObj else (
    if n == 3 then BObj else (
    if n == 4 then Lcdc else (
    if n == 5 then Arm7 else (
    if n == 6 then ABgPalette else (
    if n == 7 then BBgPalette else (
    if n == 8 then AObjPalette else BObjPalette))))))))

space_of_its_number : (space : Space) → space_of_number (space_number space) ≡ space
space_of_its_number ABg = refl
space_of_its_number BBg = refl
space_of_its_number AObj = refl
space_of_its_number BObj = refl
space_of_its_number Lcdc = refl
space_of_its_number Arm7 = refl
space_of_its_number ABgPalette = refl
space_of_its_number BBgPalette = refl
space_of_its_number AObjPalette = refl
space_of_its_number BObjPalette = refl

pub same_numbers : (a b : Space) → space_number a ≡ space_number b → a ≡ b
same_numbers a b e = sym (space_of_its_number a) ∙ ap space_of_number e ∙ space_of_its_number b

-- in its own space a row's cells are those of its window
cell_here : (r : BankRow) (control first origin at : ℕ) (space : Space) → space_number r.space ≡ space_number space → origin_of r.space ≡ origin →
    cell_by (Some r) first control space at ≡ cell_in (window_by (Some r) control) first (origin + at)
cell_here r control first origin at space e o = grind (arith, e, o)

-- and in another space there are none
not_in_space : (r : BankRow) (control first at : ℕ) (space : Space) → space_number r.space ≢ space_number space → cell_by (Some r) first control space at ≡ None
not_in_space r control first at space e =
    let t : same_space r.space space ≡ false = grind (arith, e) in
    rw t refl

outside : (start size first x : ℕ) → (start ≤ x → x < start + size → ⊥) → (s : ℕ) → start ≡ s → cell_in (record { first = s; size = size }) first x ≡ None
outside start size first x none s e = elim (low_or_high x start) [
  | inl before ↦ grind (arith, before, e)
  | inr low ↦ elim (low_or_high x (start + size)) [
    | inl high ↦ absurd (none low high)
    | inr past ↦ grind (arith, past, e)
  ]
]

cell_elsewhere : (r : BankRow) (control first start x at : ℕ) (space : Space) → space_number r.space ≢ space_number space →
    start ≡ origin_of r.space + row_start r control → (start ≤ x → x < start + r.size → ⊥) →
    cell_by (Some r) first control space at ≡ cell_in (window_by (Some r) control) first x
cell_elsewhere r control first start x at space e s none =
    not_in_space r control first at space e ∙ sym (outside start r.size first x none (origin_of r.space + row_start r control) s)

row_there : (n : ℕ) (r : BankRow) (control first : ℕ) (space : Space) (at : ℕ) → Fits n r → at < space_size space →
    cell_by (Some r) first control space at ≡ cell_in (window_by (Some r) control) first (origin_of space + at)
row_there n r control first space at fits small =
    elim (same_or_not (space_number r.space) (space_number space)) [
      | inl e ↦ cell_here r control first (origin_of space) at space e (ap origin_of (same_numbers r.space space e))
      | inr other ↦
          (let a = address_within r control in
          let f = fits.in_space in
          let start : ℕ = origin_of r.space + row_start r control in
          let none : start ≤ origin_of space + at → origin_of space + at < start + r.size → ⊥ = (λ low high.
          (let d : ℕ = origin_of space + at - origin_of r.space in
          let here : origin_of r.space + d ≡ origin_of space + at = omega (arith, low) in
          let inside : d < space_size r.space = omega (arith, here, high, a, f) in
          let same : r.space ≡ space = sym (space_at-origin r.space d inside) ∙ ap space_at here ∙ space_at-origin space at small in
          other (ap space_number same))) in
          cell_elsewhere r control first start (origin_of space + at) at space other refl none)
    ]

chosen_there : (bank control : ℕ) (o : Option BankRow) (space : Space) (at : ℕ) → bank < 9 → at < space_size space → chosen_row bank control ≡ o →
    cell_by o (first_cell bank) control space at ≡ cell_in (window_by o control) (first_cell bank) (origin_of space + at)
chosen_there bank control None space at known small e = grind arith
chosen_there bank control (Some r) space at known small e =
    row_there (size_of_bank bank) r control (first_cell bank) space at (fits_of bank (control % 8) r known e) small

there_by : (e bank control : ℕ) (o : Option BankRow) (space : Space) (at : ℕ) → bank < 9 → at < space_size space → chosen_row bank control ≡ o →
    (if e == 1 then cell_by o (first_cell bank) control space at else None)
    ≡ cell_in (if e == 1 then window_by o control else no_window) (first_cell bank) (origin_of space + at)
there_by e bank control o space at known small chosen =
    elim (same_or_not e 1) [
      | inl on ↦ rw on (chosen_there bank control o space at known small chosen)
      | inr off ↦ (let t : (e == 1) ≡ false = grind arith in
          rw t (sym (outside 0 0 (first_cell bank) (origin_of space + at) (λ low high. omega (arith, high)) 0 refl)))
    ]

pub there_flat : (controls : List ℕ) (space : Space) (at bank : ℕ) → bank < 9 → at % space_size space < space_size space →
    cell_there controls space at bank ≡ cell_of controls bank (origin_of space + at % space_size space)
unfolding cell_there cell_of window_of
there_flat controls space at bank known small =
    let control : ℕ = get_or controls bank 0 in
    there_by (bits 7 1 control) bank control (chosen_row bank control) space (at % space_size space) known small refl

-- ---- C and D with ARM7

is_seven : Space → Bool
is_seven Arm7 = true
is_seven other = false

abbrev seven_by_two : List BankRow → Bool
seven_by_two [] = true
seven_by_two (r ∷ rs) = (r.mst == 2 || not (is_seven r.space)) && seven_by_two rs

seven_first : (r : BankRow) (rs : List BankRow) → seven_by_two (r ∷ rs) ≡ true → (is_seven r.space ≡ true → r.mst ≡ 2) × (seven_by_two rs ≡ true)
seven_first r rs h = (λ e. grind (arith, h, e), grind (arith, h))

-- where a row of ARM7's space stands for MST 2 alone, a bank that stands there has MST 2
row_by-seven : (rows : List BankRow) (mst : ℕ) (r : BankRow) → seven_by_two rows ≡ true → row_by rows mst ≡ Some r → is_seven r.space ≡ true → mst ≡ 2
row_by-seven [] mst r h e s = absurd (none-some r e)
row_by-seven (q ∷ rows) mst r h e s =
    let first = seven_first q rows h in
    elim (row_by-first q rows mst) [
      | inl here ↦
          (let P : BankRow → Type 0 = λ x. is_seven x.space ≡ true in
          here.0 ∙ first.0 (subst P (sym (same_Some q r (sym here.1 ∙ e))) s))
      | inr past ↦ row_by-seven rows mst r first.1 (sym past.1 ∙ e) s
    ]

row_of_seven : BankRow
row_of_seven = record { mst = 2; space = Arm7; base = 0; ofs_0 = 0x20000; ofs_1 = 0; size = 0x20000 }

allotted_facts : (control : ℕ) → allotted_bit control ≡ 1 → (control / 2 ^ 7 % 2 ≡ 1) × (control % 8 ≡ 2)
allotted_facts control h = (grind (arith, h), grind (arith, h))

facts_allotted : (control : ℕ) → control / 2 ^ 7 % 2 ≡ 1 → control % 8 ≡ 2 → allotted_bit control ≡ 1
facts_allotted control a b = grind (arith, a, b)

allotted_small : (control : ℕ) → allotted_bit control < 2
allotted_small control = grind arith

seven_in : (bank control : ℕ) → row_by (rows_of bank) 2 ≡ Some row_of_seven → allotted_bit control ≡ 1 → StandsIn bank control Arm7
unfolding row_of_seven
seven_in bank control by h =
    let facts = allotted_facts control h in
    record {
      i = 0;
      at = row_start row_of_seven control + 0;
      stands = record {
        enabled = facts.0;
        row = row_of_seven;
        by = ap (row_by (rows_of bank)) facts.1 ∙ by;
        in_space = refl;
        within = omega arith;
        address = refl;
      };
    }

seven_out : (bank control : ℕ) → seven_by_two (rows_of bank) ≡ true → StandsIn bank control Arm7 → allotted_bit control ≡ 1
unfolding is_seven
seven_out bank control test s =
    facts_allotted control s.stands.enabled
    (row_by-seven (rows_of bank) (control % 8) s.stands.row test s.stands.by (ap is_seven s.stands.in_space))

allotted_c : (control : ℕ) → (allotted_bit control ≡ 1 → StandsIn 2 control Arm7) × (StandsIn 2 control Arm7 → allotted_bit control ≡ 1)
unfolding is_seven row_of_seven
allotted_c control = (seven_in 2 control refl, seven_out 2 control refl)

allotted_d : (control : ℕ) → (allotted_bit control ≡ 1 → StandsIn 3 control Arm7) × (StandsIn 3 control Arm7 → allotted_bit control ≡ 1)
unfolding is_seven row_of_seven
allotted_d control = (seven_in 3 control refl, seven_out 3 control refl)

pub low_bit : (c d : ℕ) (controls : List ℕ) → c ≡ allotted_bit (get_or controls 2 0) → d ≡ allotted_bit (get_or controls 3 0) →
    ((c + 2 * d) % 2 ≡ 1 → StandsIn 2 (get_or controls 2 0) Arm7) × (StandsIn 2 (get_or controls 2 0) Arm7 → (c + 2 * d) % 2 ≡ 1)
low_bit c d controls e f =
    let small = allotted_small (get_or controls 2 0) in
    ((λ h. (allotted_c (get_or controls 2 0)).0 (omega (arith, e, small))), (λ s. (let on = (allotted_c (get_or controls 2 0)).1 s in omega (arith, e, on))))

pub high_bit : (c d : ℕ) (controls : List ℕ) → c ≡ allotted_bit (get_or controls 2 0) → d ≡ allotted_bit (get_or controls 3 0) →
    ((c + 2 * d) / 2 % 2 ≡ 1 → StandsIn 3 (get_or controls 3 0) Arm7) × (StandsIn 3 (get_or controls 3 0) Arm7 → (c + 2 * d) / 2 % 2 ≡ 1)
high_bit c d controls e f =
    let low = allotted_small (get_or controls 2 0) in
    let small = allotted_small (get_or controls 3 0) in
    ((λ h. (allotted_d (get_or controls 3 0)).0 (omega (arith, e, f, low, small))), (λ s. (let on = (allotted_d (get_or controls 3 0)).1 s in omega (arith, e, f, low, on))))
