use Rattle.nds_plays.proofs.Words.{IsAccepted, List, Nine, Seven, [], ap, append-nil, append_assoc, arith, body, drawn, flat_map, flat_map-append}
use Rattle.nds_plays.proofs.Words.{length, length-append, little_bytes, map, range_with_len, refl, suc, sym, zero, ℕ, ◌*◌, ◌++◌, ◌+◌, ◌∙◌, ◌∷◌, ◌≡◌}
use Rattle.std.proofs.lemmas.List.FromFn.{map-range_with_len_more, length-map-range_with_len}
use Rattle.std.proofs.Common.{replicate}
use Rattle.std.specs.Fn.{iterate}
use Rattle.ds_header.specs.Fields.{field_number, unit_code_of, image_offset, image_entry, image_place, image_length}
use Rattle.nds_plays.specs.Demos.{draw, body_word, demo_fields, nine_start, seven_start, demo_words, demo_file}

-- ---- bodies

draw_more : (n s : ℕ) → iterate draw (n + 1) s ≡ draw (iterate draw n s)
draw_more zero s = refl
draw_more (suc n) s = let e : suc n + 1 ≡ suc (n + 1) = omega arith in ap (λ (k : ℕ). iterate draw k s) e ∙ draw_more n (draw s)

pub one_more : (number n s next : ℕ) → s ≡ drawn number n → next ≡ draw s → next ≡ drawn number (n + 1)
unfolding drawn
one_more number n s next is e = e ∙ ap draw is ∙ sym (draw_more n number)

-- the word at a place
abbrev pub word_at : ℕ → ℕ → ℕ
word_at number place = body_word place (drawn number (place + 1))

-- the words so far, and the next
pub word_more : (number n s : ℕ) (old new items : List ℕ) → items ≡ old ++ flat_map (little_bytes 4) (map (word_at number) (range_with_len 0 n)) → s ≡ drawn number (n + 1)
    → new ≡ items ++ little_bytes 4 (body_word n s) → new ≡ old ++ flat_map (little_bytes 4) (map (word_at number) (range_with_len 0 (n + 1)))
word_more number n s old new items is e put =
    let z : 0 + n ≡ n = omega arith in
    let so_far : List ℕ = map (word_at number) (range_with_len 0 n) in
    let word : little_bytes 4 (body_word n s) ≡ little_bytes 4 (word_at number n) = ap (λ (x : ℕ). little_bytes 4 (body_word n x)) e in
    let lists : flat_map (little_bytes 4) (map (word_at number) (range_with_len 0 (n + 1))) ≡ flat_map (little_bytes 4) so_far ++ little_bytes 4 (word_at number n) =
    ap (flat_map (little_bytes 4)) (map-range_with_len_more (word_at number) 0 n n z) ∙ flat_map-append (little_bytes 4) so_far (word_at number n ∷ [])
    ∙ ap (λ (x : List ℕ). flat_map (little_bytes 4) so_far ++ x) (append-nil (little_bytes 4 (word_at number n))) in
    put ∙ ap (λ (x : List ℕ). x ++ little_bytes 4 (body_word n s)) is ∙ append_assoc old (flat_map (little_bytes 4) so_far) (little_bytes 4 (body_word n s))
    ∙ ap (λ (x : List ℕ). old ++ x) (ap (λ (x : List ℕ). flat_map (little_bytes 4) so_far ++ x) word ∙ sym lists)

pub body_whole : (number : ℕ) → map (word_at number) (range_with_len 0 1024) ≡ body number
unfolding body
body_whole number = refl

-- ---- the whole file

length_bytes : (words : List ℕ) → length (flat_map (little_bytes 4) words) ≡ 4 * length words
length_bytes [] = refl
length_bytes (w ∷ words) =
    let e = length-append (little_bytes 4 w) (flat_map (little_bytes 4) words) in
    let rest = length_bytes words in
    omega (arith, e, rest)

length_body : (number : ℕ) → length (body number) ≡ 1024
length_body number = ap length (sym (body_whole number)) ∙ length-map-range_with_len (word_at number) 0 1024

length_rest : (number : ℕ) → length (body number ++ (replicate 118 0 ++ (seven_start ++ body (drawn number 1024)))) ≡ 2169
length_rest number =
    let all = length-append (body number) (replicate 118 0 ++ (seven_start ++ body (drawn number 1024))) in
    let zeros = length-append (replicate 118 0) (seven_start ++ body (drawn number 1024)) in
    let start = length-append seven_start (body (drawn number 1024)) in
    let one = length_body number in
    let two = length_body (drawn number 1024) in
    omega (arith, all, zeros, start, one, two)

length_demo : (number : ℕ) → length (demo_file number) ≡ 0x240C
length_demo number =
    let bytes = length_bytes (demo_words number) in
    let front = length-append (replicate 8 0) (demo_fields ++ (replicate 112 0 ++ (nine_start ++ (body number ++ (replicate 118 0 ++ (seven_start ++ body (drawn number 1024))))))) in
    let rest = length_rest number in
    omega (arith, bytes, rest)

unit_code : (number : ℕ) → unit_code_of (demo_file number) ≡ 0
unfolding field_number
unit_code number = refl

nine_offset : (number : ℕ) → image_offset (demo_file number) Nine ≡ 0x200
unfolding field_number
nine_offset number = refl

nine_entry : (number : ℕ) → image_entry (demo_file number) Nine ≡ 0x2000000
unfolding field_number
nine_entry number = refl

nine_place : (number : ℕ) → image_place (demo_file number) Nine ≡ 0x2000000
unfolding field_number
nine_place number = refl

nine_length : (number : ℕ) → image_length (demo_file number) Nine ≡ 0x1028
unfolding field_number
nine_length number = refl

seven_offset : (number : ℕ) → image_offset (demo_file number) Seven ≡ 0x1400
unfolding field_number
seven_offset number = refl

seven_entry : (number : ℕ) → image_entry (demo_file number) Seven ≡ 0x3800000
unfolding field_number
seven_entry number = refl

seven_place : (number : ℕ) → image_place (demo_file number) Seven ≡ 0x3800000
unfolding field_number
seven_place number = refl

seven_length : (number : ℕ) → image_length (demo_file number) Seven ≡ 0x100C
unfolding field_number
seven_length number = refl

-- a file with these numbers in its header is accepted
fits : (file : List ℕ) → length file ≡ 0x240C → unit_code_of file ≡ 0 → image_offset file Nine ≡ 0x200 → image_entry file Nine ≡ 0x2000000 → image_place file Nine ≡ 0x2000000
    → image_length file Nine ≡ 0x1028 → image_offset file Seven ≡ 0x1400 → image_entry file Seven ≡ 0x3800000 → image_place file Seven ≡ 0x3800000 → image_length file Seven ≡ 0x100C
    → IsAccepted file
fits file l u o9 e9 p9 n9 o7 e7 p7 n7 = rw (l, u, o9, e9, p9, n9, o7, e7, p7, n7) refl

pub demo_accepted : (number : ℕ) → IsAccepted (demo_file number)
demo_accepted number =
    fits (demo_file number) (length_demo number) (unit_code number) (nine_offset number) (nine_entry number) (nine_place number) (nine_length number) (seven_offset number) (seven_entry number)
    (seven_place number) (seven_length number)

-- ---- what is put, one after another

abbrev pub bytes : List ℕ → List ℕ
bytes words = flat_map (little_bytes 4) words

-- some words were put, and more follow
put_then : (before after words rest : List ℕ) → after ≡ before ++ bytes words → after ++ bytes rest ≡ before ++ bytes (words ++ rest)
put_then before after words rest e =
    ap (λ (x : List ℕ). x ++ bytes rest) e ∙ append_assoc before (bytes words) (bytes rest) ∙ ap (λ (x : List ℕ). before ++ x) (sym (flat_map-append (little_bytes 4) words rest))

pub all_put : (number after : ℕ) (none zeros fields header nine nine_body between seven whole : List ℕ) → none ≡ [] → zeros ≡ none ++ bytes (replicate 8 0) → fields ≡ zeros ++ bytes demo_fields
    → header ≡ fields ++ bytes (replicate 112 0) → nine ≡ header ++ bytes nine_start → nine_body ≡ nine ++ bytes (body number) → after ≡ drawn number 1024
    → between ≡ nine_body ++ bytes (replicate 118 0) → seven ≡ between ++ bytes seven_start → whole ≡ seven ++ bytes (body after) → whole ≡ demo_file number
all_put number after none zeros fields header nine nine_body between seven whole h0 h1 h2 h3 h4 h5 d h6 h7 h8 =
    let last : List ℕ = body (drawn number 1024) in
    h8 ∙ ap (λ (s : ℕ). seven ++ bytes (body s)) d
    ∙ put_then between seven seven_start last h7
    ∙ put_then nine_body between (replicate 118 0) (seven_start ++ last) h6
    ∙ put_then nine nine_body (body number) (replicate 118 0 ++ (seven_start ++ last)) h5
    ∙ put_then header nine nine_start (body number ++ (replicate 118 0 ++ (seven_start ++ last))) h4
    ∙ put_then fields header (replicate 112 0) (nine_start ++ (body number ++ (replicate 118 0 ++ (seven_start ++ last)))) h3
    ∙ put_then zeros fields demo_fields (replicate 112 0 ++ (nine_start ++ (body number ++ (replicate 118 0 ++ (seven_start ++ last))))) h2
    ∙ put_then none zeros (replicate 8 0) (demo_fields ++ (replicate 112 0 ++ (nine_start ++ (body number ++ (replicate 118 0 ++ (seven_start ++ last)))))) h1
    ∙ ap (λ (x : List ℕ). x ++ bytes (demo_words number)) h0

no_draw : (number : ℕ) → number ≡ drawn number 0
unfolding drawn
no_draw number = refl

pub nothing_put : (number : ℕ) (items : List ℕ) → (items ≡ items ++ []) × (number ≡ drawn number 0)
nothing_put number items = (sym (append-nil items), no_draw number)
