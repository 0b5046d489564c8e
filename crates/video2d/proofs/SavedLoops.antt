use Rattle.video2d.proofs.Words.{DisplayRow, Engine, Fails, Half, Left, List, None, Ok, Option, ReadAnswer, Some, Width, Word, arith, bytes_written}
use Rattle.video2d.proofs.Words.{code_bytes, either_by, engine_row_at, keeps_mask, number_at, number_code, read_code, read_format, refl, row_width}
use Rattle.video2d.proofs.Words.{ruled, subst, suc, sym, width_bytes, with_number, zero, ℕ, ◌++◌, ◌+◌, ◌-◌, ◌<◌, ◌==◌, ◌>>=◌, ◌∙◌, ◌≡◌}
use Rattle.std.proofs.Common.{Err}
use Rattle.ds_state.specs.declared.unpacker.Unpacked.{Unpacked}
use Rattle.ds_state.specs.declared.unpacker.Unpacked.TheVariants.{NoMemory, Bad}
use Rattle.video2d.specs.DisplayRegisters.{HasByteAt}
use Rattle.video2d.proofs.SavedWalks.{register_if, registers_from}

-- The steps of the loops over an engine's registers.

one_less : (i : ℕ) → i < 56 → 56 - i ≡ suc (56 - (i + 1))
one_less i lt = omega (arith, lt)

-- a row's registers have its bytes
pub width_is : (row : DisplayRow) (at : ℕ) → HasByteAt row at → width_bytes (row_width row) ≡ row.bytes
width_is row at has =
    either_by (λ (w : Width). width_bytes w ≡ row.bytes) (row.bytes == 2) Half Word
    (λ h. let e : row.bytes ≡ 2 = grind (arith, h) in sym e)
    (λ h. let ne = h in let some = has.some in let few = has.few in let even = has.even in grind (arith, ne, some, few, even))

-- ---- putting: what is made so far doesn't matter

row_bytes : (which : Engine) (n : ℕ) (s : List ℕ)
    → ((at : ℕ) (m k before : List ℕ) → bytes_written (registers_from which n at m) before s ≡ bytes_written (registers_from which n at k) before s)
    → (at : ℕ) (m k before : List ℕ) (row : Option DisplayRow)
    → bytes_written (register_if row at m (registers_from which n)) before s ≡ bytes_written (register_if row at k (registers_from which n)) before s
row_bytes which n s more at m k before None = more (at + 2) m k before
row_bytes which n s more at m k before (Some row) =
    let w = row_width row in
    more (at + width_bytes w) (with_number w m at (number_at w s at)) (with_number w k at (number_at w s at))
    (before ++ code_bytes (number_code (width_bytes w)) (number_at w s at))

same_bytes : (which : Engine) (n : ℕ) (s : List ℕ) (at : ℕ) (m k before : List ℕ)
    → bytes_written (registers_from which n at m) before s ≡ bytes_written (registers_from which n at k) before s
same_bytes which zero s at m k before = refl
same_bytes which (suc n) s at m k before = row_bytes which n s (same_bytes which n s) at m k before (engine_row_at which at)

pub put_past : (which : Engine) (i at : ℕ) (m before s total : List ℕ) → i < 56 → engine_row_at which at ≡ None
    → bytes_written (registers_from which (56 - i) at m) before s ≡ total
    → bytes_written (registers_from which (56 - (i + 1)) (at + 2) m) before s ≡ total
put_past which i at m before s total lt none so_far =
    let n = 56 - (i + 1) in
    let one : bytes_written (registers_from which (suc n) at m) before s ≡ total =
    subst (λ (k : ℕ). bytes_written (registers_from which k at m) before s ≡ total) (one_less i lt) so_far in
    subst (λ (row : Option DisplayRow). bytes_written (register_if row at m (registers_from which n)) before s ≡ total) none one

pub put_on : (which : Engine) (i at : ℕ) (row : DisplayRow) (m before s total : List ℕ) → i < 56 → engine_row_at which at ≡ Some row
    → HasByteAt row at
    → bytes_written (registers_from which (56 - i) at m) before s ≡ total
    → bytes_written (registers_from which (56 - (i + 1)) (at + row.bytes) m)
    (before ++ code_bytes (number_code (width_bytes (row_width row))) (number_at (row_width row) s at)) s ≡ total
put_on which i at row m before s total lt there has so_far =
    let n = 56 - (i + 1) in
    let w = row_width row in
    let after = before ++ code_bytes (number_code (width_bytes w)) (number_at w s at) in
    let one : bytes_written (registers_from which (suc n) at m) before s ≡ total =
    subst (λ (k : ℕ). bytes_written (registers_from which k at m) before s ≡ total) (one_less i lt) so_far in
    let two : bytes_written (registers_from which n (at + width_bytes w) (with_number w m at (number_at w s at))) after s ≡ total =
    subst (λ (r : Option DisplayRow). bytes_written (register_if r at m (registers_from which n)) before s ≡ total) there one in
    same_bytes which n s (at + row.bytes) m (with_number w m at (number_at w s at)) after
    ∙ subst (λ (k : ℕ). bytes_written (registers_from which n (at + k) (with_number w m at (number_at w s at))) after s ≡ total) (width_is row at has) two

-- ---- taking

pub take_past : (which : Engine) (i at : ℕ) (m : List ℕ) (tick : ℕ) (l : Left) (total : ReadAnswer (List ℕ)) → i < 56 → engine_row_at which at ≡ None
    → read_format (registers_from which (56 - i) at m) tick l ≡ total → read_format (registers_from which (56 - (i + 1)) (at + 2) m) tick l ≡ total
take_past which i at m tick l total lt none so_far =
    let n = 56 - (i + 1) in
    let one : read_format (registers_from which (suc n) at m) tick l ≡ total =
    subst (λ (k : ℕ). read_format (registers_from which k at m) tick l ≡ total) (one_less i lt) so_far in
    subst (λ (row : Option DisplayRow). read_format (register_if row at m (registers_from which n)) tick l ≡ total) none one

-- the next register is read first
reads_one : (which : Engine) (i at : ℕ) (row : DisplayRow) (m : List ℕ) (tick : ℕ) (l : Left) (total : ReadAnswer (List ℕ)) → i < 56
    → engine_row_at which at ≡ Some row → HasByteAt row at → read_format (registers_from which (56 - i) at m) tick l ≡ total
    → (ruled (keeps_mask row.kept 0) l (read_code (number_code (width_bytes (row_width row))) l)
    >>= (λ p. read_format (registers_from which (56 - (i + 1)) (at + row.bytes) (with_number (row_width row) m at p.0)) tick p.1)) ≡ total
reads_one which i at row m tick l total lt there has so_far =
    let n = 56 - (i + 1) in
    let w = row_width row in
    let one : read_format (registers_from which (suc n) at m) tick l ≡ total =
    subst (λ (k : ℕ). read_format (registers_from which k at m) tick l ≡ total) (one_less i lt) so_far in
    let two : (ruled (keeps_mask row.kept 0) l (read_code (number_code (width_bytes w)) l)
    >>= (λ p. read_format (registers_from which n (at + width_bytes w) (with_number w m at p.0)) tick p.1)) ≡ total =
    subst (λ (r : Option DisplayRow). read_format (register_if r at m (registers_from which n)) tick l ≡ total) there one in
    subst (λ (k : ℕ). (ruled (keeps_mask row.kept 0) l (read_code (number_code (width_bytes w)) l)
    >>= (λ p. read_format (registers_from which n (at + k) (with_number w m at p.0)) tick p.1)) ≡ total) (width_is row at has) two

pub take_on : (which : Engine) (i at : ℕ) (row : DisplayRow) (m : List ℕ) (tick v : ℕ) (l after : Left) (total : ReadAnswer (List ℕ)) → i < 56
    → engine_row_at which at ≡ Some row → HasByteAt row at
    → ruled (keeps_mask row.kept 0) l (read_code (number_code (width_bytes (row_width row))) l) ≡ Ok (v, after)
    → read_format (registers_from which (56 - i) at m) tick l ≡ total
    → read_format (registers_from which (56 - (i + 1)) (at + row.bytes) (with_number (row_width row) m at v)) tick after ≡ total
take_on which i at row m tick v l after total lt there has read so_far =
    subst (λ (r : ReadAnswer ℕ). (r
    >>= (λ p. read_format (registers_from which (56 - (i + 1)) (at + row.bytes) (with_number (row_width row) m at p.0)) tick p.1)) ≡ total) read
    (reads_one which i at row m tick l total lt there has so_far)

take_ends : (which : Engine) (i at : ℕ) (row : DisplayRow) (m : List ℕ) (tick offset : ℕ) (l : Left) (total : ReadAnswer (List ℕ)) → i < 56
    → engine_row_at which at ≡ Some row → HasByteAt row at
    → ruled (keeps_mask row.kept 0) l (read_code (number_code (width_bytes (row_width row))) l) ≡ Err offset
    → read_format (registers_from which (56 - i) at m) tick l ≡ total → total ≡ Err offset
take_ends which i at row m tick offset l total lt there has read so_far =
    sym (subst (λ (r : ReadAnswer ℕ). (r
    >>= (λ p. read_format (registers_from which (56 - (i + 1)) (at + row.bytes) (with_number (row_width row) m at p.0)) tick p.1)) ≡ total) read
    (reads_one which i at row m tick l total lt there has so_far))

pub take_fails : (which : Engine) (i at : ℕ) (row : DisplayRow) (m : List ℕ) (tick : ℕ) (e : Unpacked) (l : Left) (total : ReadAnswer (List ℕ))
    → i < 56
    → engine_row_at which at ≡ Some row → HasByteAt row at
    → Fails e (ruled (keeps_mask row.kept 0) l (read_code (number_code (width_bytes (row_width row))) l))
    → read_format (registers_from which (56 - i) at m) tick l ≡ total → Fails e total
take_fails which i at row m tick NoMemory l total lt there has read so_far = read
take_fails which i at row m tick (Bad offset) l total lt there has read so_far =
    take_ends which i at row m tick offset l total lt there has read so_far
