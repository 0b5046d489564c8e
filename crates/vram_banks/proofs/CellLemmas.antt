use Rattle.vram_banks.proofs.Words.{ABg, ABgPalette, AObj, AObjPalette, Arm7, BBg, BBgPalette, BObj, BObjPalette, Banks, Byte, Empty, Half, IsCellRun}
use Rattle.vram_banks.proofs.Words.{IsFound, Lcdc, List, None, One, Option, Some, Space, Width, Word, add-one, arith, bit_or, byte_or_0, cases_lt}
use Rattle.vram_banks.proofs.Words.{cell_of, drop, get_or, get_or-drop, get_or-take, inl, inr, or_at, or_below, put_below, put_by, put_in_cells}
use Rattle.vram_banks.proofs.Words.{put_there, refl, same_or_not, set, slice_index, slice_set, space_size, subst, suc, sym, value_by, width_bytes}
use Rattle.vram_banks.proofs.Words.{zero, ℕ, ◌%◌, ◌+◌, ◌-◌, ◌/◌, ◌<◌, ◌∙◌, ◌≡◌, ◌≢◌, ◌≤◌}
use Rattle.vram_banks.specs.paging.Pages.{NoneBelow, OneBelow}
use Rattle.vram_banks.specs.declared.maps.CellRun.{CellRun}
use lib.Bits.{or_zero_r, or_zero_l}
use Rattle.std.specs.List.{slice_range}

pub or_none : (f : ℕ → ℕ) → or_below 0 f ≡ 0
unfolding or_below
or_none f = refl

pub or_more : (n : ℕ) (f : ℕ → ℕ) → or_below (n + 1) f ≡ bit_or (or_below n f) (f n)
unfolding or_below
or_more n f = rw add-one refl

pub put_none : (f : ℕ → Option ℕ) (x : ℕ) (bytes : List ℕ) → put_below 0 f x bytes ≡ bytes
unfolding put_below
put_none f x bytes = refl

pub put_more : (n : ℕ) (f : ℕ → Option ℕ) (x : ℕ) (bytes : List ℕ) → put_below (n + 1) f x bytes ≡ put_there (f n) x (put_below n f x bytes)
unfolding put_below
put_more n f x bytes = rw add-one refl

-- where no bank has a cell, 0 is read and nothing is written
or_none_below : (n : ℕ) (f : ℕ → Option ℕ) (bytes : List ℕ) → NoneBelow f n → or_below n (λ b. byte_or_0 bytes (f b)) ≡ 0
unfolding or_below
or_none_below zero f bytes h = refl
or_none_below (suc n) f bytes h = rw (or_none_below n f bytes (λ b lt. h b (omega arith)), h n (omega arith)) refl

put_none_below : (n : ℕ) (f : ℕ → Option ℕ) (x : ℕ) (bytes : List ℕ) → NoneBelow f n → put_below n f x bytes ≡ bytes
unfolding put_below
put_none_below zero f x bytes h = refl
put_none_below (suc n) f x bytes h = rw (h n (omega arith)) (put_none_below n f x bytes (λ b lt. h b (omega arith)))

-- where one bank alone has a cell, that cell is read and written
or_one_below : (n : ℕ) (f : ℕ → Option ℕ) (bytes : List ℕ) (c cell : ℕ) → c < n → f c ≡ Some cell → ((b : ℕ) → b < n → b ≢ c → f b ≡ None) →
    or_below n (λ b. byte_or_0 bytes (f b)) ≡ get_or bytes cell 0
unfolding or_below
or_one_below zero f bytes c cell lt e h = absurd (omega arith)
or_one_below (suc n) f bytes c cell lt e h =
    elim (same_or_not c n) [
      | inl same ↦
          (let none : or_below n (λ b. byte_or_0 bytes (f b)) ≡ 0 = or_none_below n f bytes (λ b l. h b (omega arith) (omega arith)) in
          let here : f n ≡ Some cell = (let P : ℕ → Type 0 = λ x. f x ≡ Some cell in subst P same e) in
          rw (none, here) (or_zero_l (get_or bytes cell 0)))
      | inr other ↦
          (let z : f n ≡ None = h n (omega arith) (λ s. other (sym s)) in
          rw z (or_zero_r (or_below n (λ b. byte_or_0 bytes (f b))) ∙ or_one_below n f bytes c cell (omega arith) e (λ b l. h b (omega arith))))
    ]

put_one_below : (n : ℕ) (f : ℕ → Option ℕ) (x : ℕ) (bytes : List ℕ) (c cell : ℕ) → c < n → f c ≡ Some cell → ((b : ℕ) → b < n → b ≢ c → f b ≡ None) →
    put_below n f x bytes ≡ set bytes cell x
unfolding put_below
put_one_below zero f x bytes c cell lt e h = absurd (omega arith)
put_one_below (suc n) f x bytes c cell lt e h =
    elim (same_or_not c n) [
      | inl same ↦
          (let none : put_below n f x bytes ≡ bytes = put_none_below n f x bytes (λ b l. h b (omega arith) (omega arith)) in
          let here : f n ≡ Some cell = (let P : ℕ → Type 0 = λ k. f k ≡ Some cell in subst P same e) in
          rw (none, here) refl)
      | inr other ↦
          (let z : f n ≡ None = h n (omega arith) (λ s. other (sym s)) in
          rw z (put_one_below n f x bytes c cell (omega arith) e (λ b l. h b (omega arith))))
    ]

pub or_at-empty : (controls bytes : List ℕ) (x : ℕ) → NoneBelow (λ bank. cell_of controls bank x) 9 → or_at controls bytes x ≡ 0
unfolding or_at
or_at-empty controls bytes x h = or_none_below 9 (λ bank. cell_of controls bank x) bytes h

pub or_at-one : (controls bytes : List ℕ) (x cell : ℕ) → OneBelow (λ bank. cell_of controls bank x) 9 cell → or_at controls bytes x ≡ get_or bytes cell 0
unfolding or_at
or_at-one controls bytes x cell h = or_one_below 9 (λ bank. cell_of controls bank x) bytes h.bank cell h.known h.there h.others

pub put_at-empty : (controls : List ℕ) (x value : ℕ) (bytes : List ℕ) → NoneBelow (λ bank. cell_of controls bank x) 9 → put_in_cells controls x value bytes ≡ bytes
unfolding put_in_cells
put_at-empty controls x value bytes h = put_none_below 9 (λ bank. cell_of controls bank x) value bytes h

pub put_at-one : (controls : List ℕ) (x value : ℕ) (bytes : List ℕ) (cell : ℕ) → OneBelow (λ bank. cell_of controls bank x) 9 cell → put_in_cells controls x value bytes ≡ set bytes cell value
unfolding put_in_cells
put_at-one controls x value bytes cell h = put_one_below 9 (λ bank. cell_of controls bank x) value bytes h.bank cell h.known h.there h.others

-- what stands at each byte of an aligned access, where its page has no bank or one alone
empty_at : (controls : List ℕ) (x j k : ℕ) → IsFound controls x Empty → x % 8192 + j < 8192 → k ≡ x + j → NoneBelow (λ bank. cell_of controls bank k) 9
empty_at controls x j k h small e = (let P : ℕ → Type 0 = λ y. NoneBelow (λ bank. cell_of controls bank y) 9 in subst P (sym e) (h j small))

one_at : (controls : List ℕ) (x cell j k i : ℕ) → IsFound controls x (One cell) → x % 8192 + j < 8192 → k ≡ x + j → i ≡ cell + j → OneBelow (λ bank. cell_of controls bank k) 9 i
one_at controls x cell j k i h small e f =
    (let P : ℕ → Type 0 = λ y. OneBelow (λ bank. cell_of controls bank y) 9 i in
    let Q : ℕ → Type 0 = λ y. OneBelow (λ bank. cell_of controls bank (x + j)) 9 y in
    subst P (sym e) (subst Q (sym f) (h.1 j small)))

pub value_of_empty : (width : Width) (controls bytes : List ℕ) (x : ℕ) → IsFound controls x Empty → x % width_bytes width ≡ 0 → value_by width (or_at controls bytes) x ≡ 0
value_of_empty Byte controls bytes x h whole = or_at-empty controls bytes x (empty_at controls x 0 x h (omega arith) (omega arith))
value_of_empty Half controls bytes x h whole =
    rw (
      or_at-empty controls bytes x (empty_at controls x 0 x h (omega arith) (omega arith)),
      or_at-empty controls bytes (x + 1) (empty_at controls x 1 (x + 1) h (omega arith) refl),
    ) refl
value_of_empty Word controls bytes x h whole =
    rw (
      or_at-empty controls bytes x (empty_at controls x 0 x h (omega arith) (omega arith)),
      or_at-empty controls bytes (x + 1) (empty_at controls x 1 (x + 1) h (omega arith) refl),
      or_at-empty controls bytes (x + 2) (empty_at controls x 2 (x + 2) h (omega arith) refl),
      or_at-empty controls bytes (x + 3) (empty_at controls x 3 (x + 3) h (omega arith) refl),
    ) refl

pub value_of_one : (width : Width) (controls bytes : List ℕ) (x cell : ℕ) → IsFound controls x (One cell) → x % width_bytes width ≡ 0 →
    value_by width (or_at controls bytes) x ≡ value_by width (slice_index bytes) cell
value_of_one Byte controls bytes x cell h whole = or_at-one controls bytes x cell (one_at controls x cell 0 x cell h (omega arith) (omega arith) (omega arith))
value_of_one Half controls bytes x cell h whole =
    rw (
      or_at-one controls bytes x cell (one_at controls x cell 0 x cell h (omega arith) (omega arith) (omega arith)),
      or_at-one controls bytes (x + 1) (cell + 1) (one_at controls x cell 1 (x + 1) (cell + 1) h (omega arith) refl refl),
    ) refl
value_of_one Word controls bytes x cell h whole =
    rw (
      or_at-one controls bytes x cell (one_at controls x cell 0 x cell h (omega arith) (omega arith) (omega arith)),
      or_at-one controls bytes (x + 1) (cell + 1) (one_at controls x cell 1 (x + 1) (cell + 1) h (omega arith) refl refl),
      or_at-one controls bytes (x + 2) (cell + 2) (one_at controls x cell 2 (x + 2) (cell + 2) h (omega arith) refl refl),
      or_at-one controls bytes (x + 3) (cell + 3) (one_at controls x cell 3 (x + 3) (cell + 3) h (omega arith) refl refl),
    ) refl

pub put_to_empty : (width : Width) (controls : List ℕ) (x value : ℕ) (bytes : List ℕ) → IsFound controls x Empty → x % width_bytes width ≡ 0 →
    put_by width (put_in_cells controls) x value bytes ≡ bytes
put_to_empty Byte controls x value bytes h whole = put_at-empty controls x (value % 256) bytes (empty_at controls x 0 x h (omega arith) (omega arith))
put_to_empty Half controls x value bytes h whole =
    let b0 = put_at-empty controls x (value % 256) bytes (empty_at controls x 0 x h (omega arith) (omega arith)) in
    let b1 = put_at-empty controls (x + 1) (value / 256 % 256) bytes (empty_at controls x 1 (x + 1) h (omega arith) refl) in
    rw (b0, b1) refl
put_to_empty Word controls x value bytes h whole =
    let b0 = put_at-empty controls x (value % 256) bytes (empty_at controls x 0 x h (omega arith) (omega arith)) in
    let b1 = put_at-empty controls (x + 1) (value / 256 % 256) bytes (empty_at controls x 1 (x + 1) h (omega arith) refl) in
    let b2 = put_at-empty controls (x + 2) (value / 65536 % 256) bytes (empty_at controls x 2 (x + 2) h (omega arith) refl) in
    let b3 = put_at-empty controls (x + 3) (value / 16777216 % 256) bytes (empty_at controls x 3 (x + 3) h (omega arith) refl) in
    rw (b0, b1, b2, b3) refl

pub put_to_one : (width : Width) (controls : List ℕ) (x value : ℕ) (bytes : List ℕ) (cell : ℕ) → IsFound controls x (One cell) → x % width_bytes width ≡ 0 →
    put_by width (put_in_cells controls) x value bytes ≡ put_by width (λ a v bs. slice_set bs a v) cell value bytes
put_to_one Byte controls x value bytes cell h whole = put_at-one controls x (value % 256) bytes cell (one_at controls x cell 0 x cell h (omega arith) (omega arith) (omega arith))
put_to_one Half controls x value bytes cell h whole =
    let b0 = put_at-one controls x (value % 256) bytes cell (one_at controls x cell 0 x cell h (omega arith) (omega arith) (omega arith)) in
    let b1 = put_at-one controls (x + 1) (value / 256 % 256) (set bytes cell (value % 256)) (cell + 1) (one_at controls x cell 1 (x + 1) (cell + 1) h (omega arith) refl refl) in
    rw (b0, b1) refl
put_to_one Word controls x value bytes cell h whole =
    let s0 : List ℕ = set bytes cell (value % 256) in
    let s1 : List ℕ = set s0 (cell + 1) (value / 256 % 256) in
    let s2 : List ℕ = set s1 (cell + 2) (value / 65536 % 256) in
    let b0 = put_at-one controls x (value % 256) bytes cell (one_at controls x cell 0 x cell h (omega arith) (omega arith) (omega arith)) in
    let b1 = put_at-one controls (x + 1) (value / 256 % 256) s0 (cell + 1) (one_at controls x cell 1 (x + 1) (cell + 1) h (omega arith) refl refl) in
    let b2 = put_at-one controls (x + 2) (value / 65536 % 256) s1 (cell + 2) (one_at controls x cell 2 (x + 2) (cell + 2) h (omega arith) refl refl) in
    let b3 = put_at-one controls (x + 3) (value / 16777216 % 256) s2 (cell + 3) (one_at controls x cell 3 (x + 3) (cell + 3) h (omega arith) refl refl) in
    rw (b0, b1, b2, b3) refl

abbrev pub with_bytes : List ℕ → List ℕ → Banks
with_bytes controls bytes = record { bytes = bytes; controls = controls }

-- a part of a page
pub part_of_empty : (controls bytes : List ℕ) (x i : ℕ) → IsFound controls x Empty → x % 8192 + i < 8192 → or_at controls bytes (x + i) ≡ 0
part_of_empty controls bytes x i h small = or_at-empty controls bytes (x + i) (h i small)

pub part_of_one : (controls bytes : List ℕ) (x cell i : ℕ) → IsFound controls x (One cell) → x % 8192 + i < 8192 → or_at controls bytes (x + i) ≡ get_or bytes (cell + i) 0
part_of_one controls bytes x cell i h small = or_at-one controls bytes (x + i) (cell + i) (h.1 i small)

pub index_of_range : (bytes : List ℕ) (cell n i : ℕ) → i < n → get_or (slice_range bytes cell (cell + n)) i 0 ≡ get_or bytes (cell + i) 0
index_of_range bytes cell n i lt = get_or-take (cell + n - cell) (drop cell bytes) i 0 (omega arith) ∙ get_or-drop cell bytes i 0

-- ---- a run of cells

-- it goes on by the page that follows
pub run_more : (controls : List ℕ) (x first size : ℕ) → (x + size) % 8192 ≡ 0 → IsCellRun controls x (record { first = first; size = size }) →
    IsFound controls (x + size) (One (first + size)) → IsCellRun controls x (record { first = first; size = size + 8192 })
run_more controls x first size whole run found = record {
  room = (let room = found.0 in omega (arith, whole, room));
  each = λ i lt. elim (cases_lt i size) [
    | inl below ↦ run.each i below
    | inr past ↦ one_at controls (x + size) (first + size) (i - size) (x + i) (first + i) found (omega (arith, whole, lt)) (omega (arith, past)) (omega (arith, past))
  ];
}

-- its bytes are what is read there
pub run_byte : (controls bytes : List ℕ) (x : ℕ) (run : CellRun) (i : ℕ) → IsCellRun controls x run → i < run.size →
    get_or (slice_range bytes run.first (run.first + run.size)) i 0 ≡ or_at controls bytes (x + i)
run_byte controls bytes x run i is lt =
    index_of_range bytes run.first run.size i lt ∙ sym (or_at-one controls bytes (x + i) (run.first + i) (is.each i lt))

pub in_rest : (space : Space) (at i : ℕ) → i < space_size space - at % space_size space → (at + i) % space_size space ≡ at % space_size space + i
in_rest ABg at i lt = omega (arith, lt)
in_rest BBg at i lt = omega (arith, lt)
in_rest AObj at i lt = omega (arith, lt)
in_rest BObj at i lt = omega (arith, lt)
in_rest Lcdc at i lt = omega (arith, lt)
in_rest Arm7 at i lt = omega (arith, lt)
in_rest ABgPalette at i lt = omega (arith, lt)
in_rest BBgPalette at i lt = omega (arith, lt)
in_rest AObjPalette at i lt = omega (arith, lt)
in_rest BObjPalette at i lt = omega (arith, lt)
