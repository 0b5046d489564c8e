use Rattle.video2d.proofs.Words.{Bool, List, ap, arith, at_drop_all, at_drop_more, bytes_written, cases_lt, drop, false, fill_by_all, frame_of}
use Rattle.video2d.proofs.Words.{frame_pixel, get_or, get_or-map-range_with_len, get_or-set_other, get_or-set_same, inl, inr, length, length-append}
use Rattle.video2d.proofs.Words.{length-drop, length-map-range_with_len, length-take-le, line_laid, pixel_format, places, refl, rules, slice_set, sym}
use Rattle.video2d.proofs.Words.{take, true, written_each, ℕ, ◌%◌, ◌++◌, ◌+◌, ◌-◌, ◌/◌, ◌<◌, ◌∙◌, ◌≡◌, ◌≢◌, ◌≤◌}

-- The frame being drawn, as it is kept.

pub is_frame : (fresh : List Bool) (drawn whole pixels : List ℕ) → length pixels ≡ 98304
    → ((i : ℕ) → i < 98304 → get_or pixels i 0 ≡ frame_pixel fresh drawn whole i) → pixels ≡ frame_of fresh drawn whole
unfolding frame_of
is_frame fresh drawn whole pixels long each = fill_by_all (frame_pixel fresh drawn whole) pixels 98304 0 long each

pub frame_at : (fresh : List Bool) (drawn whole : List ℕ) (i : ℕ) → i < 98304 → get_or (frame_of fresh drawn whole) i 0 ≡ frame_pixel fresh drawn whole i
unfolding frame_of
frame_at fresh drawn whole i lt = get_or-map-range_with_len (frame_pixel fresh drawn whole) 0 98304 i i 0 lt (omega arith)

pub frame_long : (fresh : List Bool) (drawn whole : List ℕ) → length (frame_of fresh drawn whole) ≡ 98304
unfolding frame_of
frame_long fresh drawn whole = length-map-range_with_len (frame_pixel fresh drawn whole) 0 98304

-- where all lines are fresh, it is what was drawn
pub all_fresh : (fresh : List Bool) (drawn whole : List ℕ) → ((r : ℕ) → r < 384 → get_or fresh r false ≡ true) → length drawn ≡ 98304
    → drawn ≡ frame_of fresh drawn whole
all_fresh fresh drawn whole h long = is_frame fresh drawn whole drawn long (λ i lt. rw (h (i / 256) (omega (arith, lt))) refl)

-- where none is, it is the last whole frame
pub none_fresh : (fresh : List Bool) (drawn whole : List ℕ) → ((r : ℕ) → r < 384 → get_or fresh r false ≡ false) → length whole ≡ 98304
    → whole ≡ frame_of fresh drawn whole
none_fresh fresh drawn whole h long = is_frame fresh drawn whole whole long (λ i lt. rw (h (i / 256) (omega (arith, lt))) refl)

-- ---- a line that is laid

laid_long : (place : ℕ) (line frame : List ℕ) → place + 256 ≤ length frame → length line ≡ 256 → length (line_laid place line frame) ≡ length frame
unfolding line_laid
laid_long place line frame within long =
    let front = length-take-le place frame (omega (arith, within)) in
    let back = length-drop (place + 256) frame in
    let both = length-append (take place frame ++ line) (drop (place + 256) frame) in
    let one = length-append (take place frame) line in
    omega (arith, within, front, back, both, one, long)

laid_before : (place i : ℕ) (line frame : List ℕ) → place + 256 ≤ length frame → length line ≡ 256 → i < place
    → get_or (line_laid place line frame) i 0 ≡ get_or frame i 0
unfolding line_laid
laid_before place i line frame within long lt = search (rules, places)

laid_inside : (place i : ℕ) (line frame : List ℕ) → place + 256 ≤ length frame → length line ≡ 256 → place ≤ i → i < place + 256
    → get_or (line_laid place line frame) i 0 ≡ get_or line (i - place) 0
unfolding line_laid
laid_inside place i line frame within long from to = search (rules, places)

laid_behind : (place i : ℕ) (line frame : List ℕ) → place + 256 ≤ length frame → length line ≡ 256 → place + 256 ≤ i
    → get_or (line_laid place line frame) i 0 ≡ get_or frame i 0
unfolding line_laid
laid_behind place i line frame within long from = search (rules, places)

-- lines other than the one that was laid are fresh as before
other_line : (fresh : List Bool) (drawn whole more : List ℕ) (row i : ℕ) → i / 256 ≢ row → get_or more i 0 ≡ get_or drawn i 0
    → frame_pixel (slice_set fresh row true) more whole i ≡ frame_pixel fresh drawn whole i
other_line fresh drawn whole more row i ne same = rw (get_or-set_other fresh row (i / 256) true false ne, same) refl

this_line : (fresh : List Bool) (whole more : List ℕ) (row i : ℕ) → i / 256 ≡ row → row < length fresh
    → frame_pixel (slice_set fresh row true) more whole i ≡ get_or more i 0
this_line fresh whole more row i same lt = rw (same, get_or-set_same fresh row true false lt) refl

pub laid : (fresh : List Bool) (drawn whole line : List ℕ) (place : ℕ) → length fresh ≡ 384 → length drawn ≡ 98304 → length line ≡ 256
    → place + 256 ≤ 98304 → place % 256 ≡ 0
    → line_laid place line (frame_of fresh drawn whole) ≡ frame_of (slice_set fresh (place / 256) true) (line_laid place line drawn) whole
laid fresh drawn whole line place lines pixels long inside start =
    let F = frame_of fresh drawn whole in
    let L = frame_long fresh drawn whole in
    let in_frame : place + 256 ≤ length F = omega (arith, inside, L) in
    let in_drawn : place + 256 ≤ length drawn = omega (arith, inside, pixels) in
    is_frame (slice_set fresh (place / 256) true) (line_laid place line drawn) whole (line_laid place line F)
    (laid_long place line F in_frame long ∙ L)
    (λ i lt. elim (cases_lt i place) [
      | inl before ↦
          (laid_before place i line F in_frame long before ∙ frame_at fresh drawn whole i lt
          ∙ sym (other_line fresh drawn whole (line_laid place line drawn) (place / 256) i (omega (arith, before, start))
          (laid_before place i line drawn in_drawn long before)))
      | inr from ↦
          elim (cases_lt i (place + 256)) [
            | inl to ↦
                (laid_inside place i line F in_frame long from to
                ∙ sym (this_line fresh whole (line_laid place line drawn) (place / 256) i (omega (arith, from, to, start)) (omega (arith, lines, inside))
                ∙ laid_inside place i line drawn in_drawn long from to))
            | inr behind ↦
                (laid_behind place i line F in_frame long behind ∙ frame_at fresh drawn whole i lt
                ∙ sym (other_line fresh drawn whole (line_laid place line drawn) (place / 256) i (omega (arith, behind, start))
                (laid_behind place i line drawn in_drawn long behind)))
          ]
    ])

-- ---- putting its pixels, one after another

pub put_one : (drawn into now total : List ℕ) (i pixel : ℕ) → i < length drawn → pixel ≡ get_or drawn i 0 → now ≡ bytes_written pixel_format into pixel
    → written_each (bytes_written pixel_format) into (drop i drawn) ≡ total
    → written_each (bytes_written pixel_format) now (drop (i + 1) drawn) ≡ total
put_one drawn into now total i pixel lt is put so_far =
    ap (λ (b : List ℕ). written_each (bytes_written pixel_format) b (drop (i + 1) drawn)) (put ∙ ap (bytes_written pixel_format into) is)
    ∙ sym (at_drop_more (written_each (bytes_written pixel_format) into) drawn i 0 lt) ∙ so_far

pub put_all : (drawn into total : List ℕ) (i : ℕ) → length drawn ≤ i → written_each (bytes_written pixel_format) into (drop i drawn) ≡ total → into ≡ total
put_all drawn into total i le so_far = sym (at_drop_all (written_each (bytes_written pixel_format) into) drawn i le) ∙ so_far
