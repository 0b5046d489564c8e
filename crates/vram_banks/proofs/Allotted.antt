use Rattle.vram_banks.proofs.Words.{Arm7, Banks, Bool, Byte, Half, IsCellAt, List, None, Option, Some, Space, Width, Word, [], aligned_down}
use Rattle.vram_banks.proofs.Words.{allotted_bit, ap, arith, byte_or_0, cell_of, cell_there, false, if◌then◌else◌, inl, inr, is_allotted}
use Rattle.vram_banks.proofs.Words.{is_allotted_there, length, meets_allotted, mixed, mod_below, nat_lt, none-some, not, put_below, put_by, put_there}
use Rattle.vram_banks.proofs.Words.{refl, same_Some, slice_index, space_size, subst, suc, sym, true, value_by, vram_byte, vram_value, vram_written}
use Rattle.vram_banks.proofs.Words.{with_vram_byte, zero, ℕ, ◌%◌, ◌&&◌, ◌+◌, ◌/◌, ◌<◌, ◌==◌, ◌^◌, ◌||◌, ◌∙◌, ◌∷◌, ◌≡◌}
use Rattle.vram_banks.specs.BankMap.{BankRow, rows_of, row_by, same_space, first_cell, Stands}
use Rattle.vram_banks.proofs.CellLemmas.{with_bytes}
use Rattle.vram_banks.proofs.MapLaws.{size_of_bank, each_of_nine, row_by-first, same_numbers, fits_of, cell_stands, there_flat}
use Rattle.vram_banks.proofs.Mixes.{mixed_own, mixed_other, mixed_set_own, mixed_set_other}
use Rattle.vram_banks.proofs.SetLaws.{or_below-same, put_below-length, space_size-whole}

-- ---- the cells of the banks that are allotted to ARM7

is_c_or_d : ℕ → Bool
is_c_or_d bank = bank == 2 || bank == 3

-- a table's rows of ARM7's space are C's and D's of MST 2
allots : Bool → List BankRow → Bool
allots own [] = true
allots own (r ∷ rs) = (if own && r.mst == 2 then same_space r.space Arm7 else not (same_space r.space Arm7)) && allots own rs

rows_allot : (bank : ℕ) → bank < 9 → allots (is_c_or_d bank) (rows_of bank) ≡ true
unfolding is_c_or_d allots
rows_allot bank known = each_of_nine (λ b. allots (is_c_or_d b) (rows_of b) ≡ true) refl refl refl refl refl refl refl refl refl bank known

both : (b s rest : Bool) → ((if b then s else not s) && rest) ≡ true → (s ≡ b) × (rest ≡ true)
both true true true h = (refl, refl)
both true true false h = cc
both true false rest h = cc
both false true rest h = cc
both false false true h = (refl, refl)
both false false false h = cc

row_allots : (own : Bool) (rows : List BankRow) (mst : ℕ) (r : BankRow) → allots own rows ≡ true → row_by rows mst ≡ Some r → same_space r.space Arm7 ≡ (own && mst == 2)
unfolding allots
row_allots own [] mst r h e = absurd (none-some r e)
row_allots own (q ∷ rows) mst r h e =
    let first = both (own && q.mst == 2) (same_space q.space Arm7) (allots own rows) h in
    elim (row_by-first q rows mst) [
      | inl here ↦
          (let P : BankRow → Type 0 = λ x. same_space x.space Arm7 ≡ (own && q.mst == 2) in
          subst P (same_Some q r (sym here.1 ∙ e)) first.0 ∙ ap (λ (m : ℕ). own && m == 2) (sym here.0))
      | inr past ↦ row_allots own rows mst r first.1 (sym past.1 ∙ e)
    ]

-- which 128K of the memory of all banks a bank's bytes lie in
abbrev piece_of : ℕ → ℕ
piece_of bank = if nat_lt bank 4 then bank else (if bank == 8 then 5 else 4)

cell_piece : (bank : ℕ) → bank < 9 → (i : ℕ) → i < size_of_bank bank → (first_cell bank + i) / 0x20000 ≡ piece_of bank
unfolding first_cell
cell_piece bank known = each_of_nine (λ b. (i : ℕ) → i < size_of_bank b → (first_cell b + i) / 0x20000 ≡ piece_of b)
    (λ i h. omega (arith, h)) (λ i h. omega (arith, h)) (λ i h. omega (arith, h)) (λ i h. omega (arith, h)) (λ i h. omega (arith, h))
    (λ i h. omega (arith, h)) (λ i h. omega (arith, h)) (λ i h. omega (arith, h)) (λ i h. omega (arith, h)) bank known

abbrev has_mst_2 : List ℕ → ℕ → Bool
has_mst_2 controls bank = allotted_bit (slice_index controls bank) == 1

abbrev allotted_piece : List ℕ → ℕ → Bool
allotted_piece controls piece = (piece == 2 && has_mst_2 controls 2) || (piece == 3 && has_mst_2 controls 3)

or_false : (b : Bool) → (b || false) ≡ b
or_false true = refl
or_false false = refl

piece_bank : (controls : List ℕ) (bank : ℕ) → bank < 9 → allotted_piece controls (piece_of bank) ≡ (is_c_or_d bank && has_mst_2 controls bank)
unfolding is_c_or_d
piece_bank controls bank known = each_of_nine (λ b. allotted_piece controls (piece_of b) ≡ (is_c_or_d b && has_mst_2 controls b))
    refl refl (or_false (has_mst_2 controls 2)) refl refl refl refl refl refl bank known

one_if : (b : Bool) → ((if b then 1 else 0) == 1) ≡ b
one_if true = refl
one_if false = refl

allotted_where : (control : ℕ) → control / 2 ^ 7 % 2 ≡ 1 → (allotted_bit control == 1) ≡ (control % 8 == 2)
allotted_where control on = rw on (one_if (control % 8 == 2))

-- a cell that stands in a space lies in a bank that is allotted to ARM7 exactly where the space is ARM7's
pub stands_allotted : (controls : List ℕ) (bank i : ℕ) (space : Space) (at : ℕ) → bank < 9 → Stands bank (slice_index controls bank) i space at →
    is_allotted controls (first_cell bank + i) ≡ same_space space Arm7
stands_allotted controls bank i space at known s =
    let control : ℕ = slice_index controls bank in
    let fits = (fits_of bank (control % 8) s.row known s.by).in_bank in
    let within = s.within in
    let inside : i < size_of_bank bank = omega (arith, fits, within) in
    ap (allotted_piece controls) (cell_piece bank known i inside) ∙ piece_bank controls bank known
    ∙ ap (λ (b : Bool). is_c_or_d bank && b) (allotted_where control s.enabled)
    ∙ sym (row_allots (is_c_or_d bank) (rows_of bank) (control % 8) s.row (rows_allot bank known) s.by)
    ∙ ap (λ (x : Space). same_space x Arm7) s.in_space

pub there_allotted : (controls : List ℕ) (space : Space) (at bank cell : ℕ) → bank < 9 → cell_there controls space at bank ≡ Some cell →
    is_allotted controls cell ≡ same_space space Arm7
unfolding cell_of
there_allotted controls space at bank cell known e =
    let small = mod_below at (space_size space) (space_size-whole space).some in
    let flat = sym (there_flat controls space at bank known small) ∙ e in
    let s = cell_stands bank (slice_index controls bank) space (at % space_size space) cell known small flat in
    ap (is_allotted controls) s.2 ∙ stands_allotted controls bank s.0 space (at % space_size space) known s.1

pub cell_apart : (controls : List ℕ) (space : Space) (at bank cell : ℕ) → same_space space Arm7 ≡ false → bank < 9 → cell_there controls space at bank ≡ Some cell →
    is_allotted controls cell ≡ false
cell_apart controls space at bank cell other known e = there_allotted controls space at bank cell known e ∙ other

pub cell_allotted : (controls : List ℕ) (at bank cell : ℕ) → bank < 9 → cell_there controls Arm7 at bank ≡ Some cell → is_allotted controls cell ≡ true
cell_allotted controls at bank cell known e = there_allotted controls Arm7 at bank cell known e

-- ---- no access of another space meets such a bank

there_apart : (controls : List ℕ) (o : Option ℕ) → ((cell : ℕ) → o ≡ Some cell → is_allotted controls cell ≡ false) → is_allotted_there controls o ≡ false
there_apart controls None h = refl
there_apart controls (Some cell) h = h cell refl

pub not_met : (controls : List ℕ) (space : Space) (at : ℕ) → same_space space Arm7 ≡ false → meets_allotted controls space at ≡ false
unfolding meets_allotted
not_met controls space at other =
    let c = there_apart controls (cell_there controls space at 2) (λ cell e. cell_apart controls space at 2 cell other (omega arith) e) in
    let d = there_apart controls (cell_there controls space at 3) (λ cell e. cell_apart controls space at 3 cell other (omega arith) e) in
    rw (c, d) refl

-- ---- the same of the relation of the table

space_of_seven : (space : Space) → same_space space Arm7 ≡ true → space ≡ Arm7
space_of_seven space h = same_numbers space Arm7 (grind (arith, h))

pub stands_in_seven : (v : Banks) (space : Space) (at cell : ℕ) → IsCellAt v space at cell →
    (is_allotted v.controls cell ≡ true → space ≡ Arm7) × (space ≡ Arm7 → is_allotted v.controls cell ≡ true)
stands_in_seven v space at cell there =
    let same : is_allotted v.controls cell ≡ same_space space Arm7 =
    ap (is_allotted v.controls) there.number ∙ stands_allotted v.controls there.bank there.i space (at % space_size space) there.known there.stands in
    (λ h. space_of_seven space (sym same ∙ h), λ seven. same ∙ ap (λ (x : Space). same_space x Arm7) seven)

-- ---- bytes of two owners: ARM7's are those in banks that are allotted to it

abbrev pub apart : List ℕ → ℕ → Bool
apart controls cell = not (is_allotted controls cell)

abbrev IsOwn : (ℕ → Bool) → Bool → (ℕ → Option ℕ) → ℕ → Type 0
IsOwn own b f n = (bank cell : ℕ) → bank < n → f bank ≡ Some cell → own cell ≡ b

cells_apart : (controls : List ℕ) (space : Space) (at : ℕ) → same_space space Arm7 ≡ false → IsOwn (apart controls) true (cell_there controls space at) 9
cells_apart controls space at other bank cell known e = ap not (cell_apart controls space at bank cell other known e)

cells_allotted : (controls : List ℕ) (at : ℕ) → IsOwn (apart controls) false (cell_there controls Arm7 at) 9
cells_allotted controls at bank cell known e = ap not (cell_allotted controls at bank cell known e)

-- a cell's byte is its owner's
byte_own : (own : ℕ → Bool) (xs ys : List ℕ) (o : Option ℕ) → ((cell : ℕ) → o ≡ Some cell → own cell ≡ true) → byte_or_0 (mixed own xs ys) o ≡ byte_or_0 xs o
byte_own own xs ys None h = refl
byte_own own xs ys (Some cell) h = mixed_own own xs ys cell (h cell refl)

byte_other : (own : ℕ → Bool) (xs ys : List ℕ) (o : Option ℕ) → length xs ≡ length ys → ((cell : ℕ) → o ≡ Some cell → own cell ≡ false) →
    byte_or_0 (mixed own xs ys) o ≡ byte_or_0 ys o
byte_other own xs ys None long h = refl
byte_other own xs ys (Some cell) long h = mixed_other own xs ys cell long (h cell refl)

byte_apart : (controls xs ys : List ℕ) (space : Space) (at : ℕ) → same_space space Arm7 ≡ false →
    vram_byte (with_bytes controls (mixed (apart controls) xs ys)) space at ≡ vram_byte (with_bytes controls xs) space at
unfolding vram_byte
byte_apart controls xs ys space at other =
    or_below-same 9 (λ bank. byte_or_0 (mixed (apart controls) xs ys) (cell_there controls space at bank)) (λ bank. byte_or_0 xs (cell_there controls space at bank))
    (λ bank known. byte_own (apart controls) xs ys (cell_there controls space at bank) (λ cell e. cells_apart controls space at other bank cell known e))

byte_allotted : (controls xs ys : List ℕ) (at : ℕ) → length xs ≡ length ys →
    vram_byte (with_bytes controls (mixed (apart controls) xs ys)) Arm7 at ≡ vram_byte (with_bytes controls ys) Arm7 at
unfolding vram_byte
byte_allotted controls xs ys at long =
    or_below-same 9 (λ bank. byte_or_0 (mixed (apart controls) xs ys) (cell_there controls Arm7 at bank)) (λ bank. byte_or_0 ys (cell_there controls Arm7 at bank))
    (λ bank known. byte_other (apart controls) xs ys (cell_there controls Arm7 at bank) long (λ cell e. cells_allotted controls at bank cell known e))

value_same : (width : Width) (f g : ℕ → ℕ) → ((at : ℕ) → f at ≡ g at) → (at : ℕ) → value_by width f at ≡ value_by width g at
value_same Byte f g h at = h at
value_same Half f g h at = rw (h at, h (at + 1)) refl
value_same Word f g h at = rw (h at, h (at + 1), h (at + 2), h (at + 3)) refl

-- so what is read is
pub value_apart : (controls xs ys : List ℕ) (space : Space) (at : ℕ) (width : Width) → same_space space Arm7 ≡ false →
    vram_value (record { bytes = mixed (apart controls) xs ys; controls = controls }) space at width ≡ vram_value (record { bytes = xs; controls = controls }) space at width
value_apart controls xs ys space at width other =
    value_same width (vram_byte (with_bytes controls (mixed (apart controls) xs ys)) space) (vram_byte (with_bytes controls xs) space)
    (λ x. byte_apart controls xs ys space x other) (aligned_down width at)

pub value_allotted : (controls xs ys : List ℕ) (at : ℕ) (width : Width) → length xs ≡ length ys →
    vram_value (record { bytes = mixed (apart controls) xs ys; controls = controls }) Arm7 at width ≡ vram_value (record { bytes = ys; controls = controls }) Arm7 at width
value_allotted controls xs ys at width long =
    value_same width (vram_byte (with_bytes controls (mixed (apart controls) xs ys)) Arm7) (vram_byte (with_bytes controls ys) Arm7)
    (λ x. byte_allotted controls xs ys x long) (aligned_down width at)

-- and a byte is written into its owner's
put_own : (own : ℕ → Bool) (xs ys : List ℕ) (o : Option ℕ) (value : ℕ) → ((cell : ℕ) → o ≡ Some cell → own cell ≡ true) →
    put_there o value (mixed own xs ys) ≡ mixed own (put_there o value xs) ys
put_own own xs ys None value h = refl
put_own own xs ys (Some cell) value h = mixed_set_own own xs ys cell value (h cell refl)

put_other : (own : ℕ → Bool) (xs ys : List ℕ) (o : Option ℕ) (value : ℕ) → length xs ≡ length ys → ((cell : ℕ) → o ≡ Some cell → own cell ≡ false) →
    put_there o value (mixed own xs ys) ≡ mixed own xs (put_there o value ys)
put_other own xs ys None value long h = refl
put_other own xs ys (Some cell) value long h = mixed_set_other own xs ys cell value long (h cell refl)

put_below_own : (n : ℕ) (f : ℕ → Option ℕ) (value : ℕ) (own : ℕ → Bool) (xs ys : List ℕ) → IsOwn own true f n →
    put_below n f value (mixed own xs ys) ≡ mixed own (put_below n f value xs) ys
unfolding put_below
put_below_own zero f value own xs ys h = refl
put_below_own (suc n) f value own xs ys h =
    ap (put_there (f n) value) (put_below_own n f value own xs ys (λ bank cell lt e. h bank cell (omega (arith, lt)) e))
    ∙ put_own own (put_below n f value xs) ys (f n) value (λ cell e. h n cell (omega arith) e)

put_below_other : (n : ℕ) (f : ℕ → Option ℕ) (value : ℕ) (own : ℕ → Bool) (xs ys : List ℕ) → length xs ≡ length ys → IsOwn own false f n →
    put_below n f value (mixed own xs ys) ≡ mixed own xs (put_below n f value ys)
unfolding put_below
put_below_other zero f value own xs ys long h = refl
put_below_other (suc n) f value own xs ys long h =
    ap (put_there (f n) value) (put_below_other n f value own xs ys long (λ bank cell lt e. h bank cell (omega (arith, lt)) e))
    ∙ put_other own xs (put_below n f value ys) (f n) value (long ∙ sym (put_below-length n f value ys)) (λ cell e. h n cell (omega arith) e)

-- what a write leaves, of the bytes alone
abbrev put_cells : List ℕ → Space → ℕ → ℕ → List ℕ → List ℕ
put_cells controls space at value bytes = put_below 9 (cell_there controls space at) value bytes

written_bytes : (controls bytes : List ℕ) (space : Space) (at : ℕ) (width : Width) (value : ℕ) →
    vram_written (with_bytes controls bytes) space at width value ≡ with_bytes controls (put_by width (put_cells controls space) (aligned_down width at) value bytes)
unfolding with_vram_byte
written_bytes controls bytes space at Byte value = refl
written_bytes controls bytes space at Half value = refl
written_bytes controls bytes space at Word value = refl

-- what holds of one byte's put holds of an access's
put_by_goes : (width : Width) (put : ℕ → ℕ → List ℕ → List ℕ) (into : List ℕ → List ℕ) (Is : List ℕ → Type 0) →
    ((at value : ℕ) (bytes : List ℕ) → Is bytes → put at value (into bytes) ≡ into (put at value bytes)) →
    ((at value : ℕ) (bytes : List ℕ) → Is bytes → Is (put at value bytes)) →
    (at value : ℕ) (bytes : List ℕ) → Is bytes → put_by width put at value (into bytes) ≡ into (put_by width put at value bytes)
put_by_goes Byte put into Is goes keeps at value bytes is = goes at (value % 256) bytes is
put_by_goes Half put into Is goes keeps at value bytes is =
    let b0 : List ℕ = put at (value % 256) bytes in
    ap (put (at + 1) (value / 256 % 256)) (goes at (value % 256) bytes is)
    ∙ goes (at + 1) (value / 256 % 256) b0 (keeps at (value % 256) bytes is)
put_by_goes Word put into Is goes keeps at value bytes is =
    let b0 : List ℕ = put at (value % 256) bytes in
    let b1 : List ℕ = put (at + 1) (value / 256 % 256) b0 in
    let b2 : List ℕ = put (at + 2) (value / 65536 % 256) b1 in
    let is0 = keeps at (value % 256) bytes is in
    let is1 = keeps (at + 1) (value / 256 % 256) b0 is0 in
    let is2 = keeps (at + 2) (value / 65536 % 256) b1 is1 in
    ap (λ (b : List ℕ). put (at + 3) (value / 16777216 % 256) (put (at + 2) (value / 65536 % 256) (put (at + 1) (value / 256 % 256) b))) (goes at (value % 256) bytes is)
    ∙ ap (λ (b : List ℕ). put (at + 3) (value / 16777216 % 256) (put (at + 2) (value / 65536 % 256) b)) (goes (at + 1) (value / 256 % 256) b0 is0)
    ∙ ap (put (at + 3) (value / 16777216 % 256)) (goes (at + 2) (value / 65536 % 256) b1 is1)
    ∙ goes (at + 3) (value / 16777216 % 256) b2 is2

put_by_length : (width : Width) (put : ℕ → ℕ → List ℕ → List ℕ) → ((at value : ℕ) (bytes : List ℕ) → length (put at value bytes) ≡ length bytes) → (at value : ℕ) (bytes : List ℕ) →
    length (put_by width put at value bytes) ≡ length bytes
put_by_length Byte put keeps at value bytes = keeps at (value % 256) bytes
put_by_length Half put keeps at value bytes = keeps (at + 1) (value / 256 % 256) (put at (value % 256) bytes) ∙ keeps at (value % 256) bytes
put_by_length Word put keeps at value bytes =
    let b0 : List ℕ = put at (value % 256) bytes in
    let b1 : List ℕ = put (at + 1) (value / 256 % 256) b0 in
    let b2 : List ℕ = put (at + 2) (value / 65536 % 256) b1 in
    keeps (at + 3) (value / 16777216 % 256) b2 ∙ keeps (at + 2) (value / 65536 % 256) b1 ∙ keeps (at + 1) (value / 256 % 256) b0 ∙ keeps at (value % 256) bytes

-- so a write changes its owner's bytes alone, and no controls
pub written_apart : (controls xs ys : List ℕ) (space : Space) (at : ℕ) (width : Width) (value : ℕ) → same_space space Arm7 ≡ false →
    vram_written (record { bytes = mixed (apart controls) xs ys; controls = controls }) space at width value
    ≡ record { bytes = mixed (apart controls) (vram_written (record { bytes = xs; controls = controls }) space at width value).bytes ys; controls = controls }
written_apart controls xs ys space at width value other =
    let own : ℕ → Bool = apart controls in
    let mix : List ℕ → List ℕ = λ bytes. mixed own bytes ys in
    let Any : List ℕ → Type 0 = λ bytes. bytes ≡ bytes in
    written_bytes controls (mix xs) space at width value
    ∙ ap (with_bytes controls) (put_by_goes width (put_cells controls space) mix Any
    (λ x v bytes is. put_below_own 9 (cell_there controls space x) v own bytes ys (cells_apart controls space x other)) (λ x v bytes is. refl) (aligned_down width at) value xs refl)
    ∙ ap (λ (v : Banks). with_bytes controls (mix v.bytes)) (sym (written_bytes controls xs space at width value))

pub written_allotted : (controls xs ys : List ℕ) (at : ℕ) (width : Width) (value : ℕ) → length xs ≡ length ys →
    vram_written (record { bytes = mixed (apart controls) xs ys; controls = controls }) Arm7 at width value
    ≡ record { bytes = mixed (apart controls) xs (vram_written (record { bytes = ys; controls = controls }) Arm7 at width value).bytes; controls = controls }
written_allotted controls xs ys at width value long =
    let own : ℕ → Bool = apart controls in
    let mix : List ℕ → List ℕ = λ bytes. mixed own xs bytes in
    let AsLong : List ℕ → Type 0 = λ bytes. length xs ≡ length bytes in
    written_bytes controls (mix ys) Arm7 at width value
    ∙ ap (with_bytes controls) (put_by_goes width (put_cells controls Arm7) mix AsLong
    (λ x v bytes is. put_below_other 9 (cell_there controls Arm7 x) v own xs bytes is (cells_allotted controls x))
    (λ x v bytes is. is ∙ sym (put_below-length 9 (cell_there controls Arm7 x) v bytes)) (aligned_down width at) value ys long)
    ∙ ap (λ (v : Banks). with_bytes controls (mix v.bytes)) (sym (written_bytes controls ys Arm7 at width value))

pub written_length : (v : Banks) (space : Space) (at : ℕ) (width : Width) (value : ℕ) → length (vram_written v space at width value).bytes ≡ length v.bytes
written_length v space at width value =
    ap (λ (w : Banks). length w.bytes) (written_bytes v.controls v.bytes space at width value)
    ∙ put_by_length width (put_cells v.controls space) (λ x byte bytes. put_below-length 9 (cell_there v.controls space x) byte bytes) (aligned_down width at) value v.bytes

pub written_controls : (v : Banks) (space : Space) (at : ℕ) (width : Width) (value : ℕ) → (vram_written v space at width value).controls ≡ v.controls
written_controls v space at width value = ap (λ (w : Banks). w.controls) (written_bytes v.controls v.bytes space at width value)
