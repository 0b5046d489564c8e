use Rattle.std.specs.Prelude.{ℕ, ◌+◌, ◌*◌, ◌/◌, ◌%◌, ◌^◌, ◌==◌, if◌then◌else◌, List, [], ◌∷◌, ◌++◌, map, replicate, flat_map, slice_index_or}
use Rattle.std.specs.Fn.{iterate}
use Rattle.std.specs.List.{range_with_len}
use Rattle.byteorder.specs.Endian.{little_bytes}

-- The cartridge that is made from a number (our choice). Both processors run a body of 1,024 instructions for ever, which are drawn
-- from the number: data processing among r0 to r7, and stores of what comes of it.

-- one draw, and so many of them
abbrev pub draw : ℕ → ℕ
draw s = (1664525 * s + 1013904223) % 2 ^ 32

unfoldable pub drawn : ℕ → ℕ → ℕ
drawn number count = iterate draw count number

-- the operations of data processing that are drawn, by their numbers: AND, EOR, SUB, RSB, ADD, ADC, ORR, BIC (ARM Architecture Reference Manual,
-- "Data-processing instructions")
abbrev pub operations : List ℕ
operations = 0 ∷ 1 ∷ 2 ∷ 3 ∷ 4 ∷ 5 ∷ 12 ∷ 14 ∷ []

-- a register of three bits from bit k on of what was drawn
abbrev pub drawn_register : ℕ → ℕ → ℕ
drawn_register k x = x / 2 ^ k % 8

-- the word at a place of the body, by the draw for it, whose upper 24 bits count: the last is a branch to the first; at the middle of each
-- 256 rd is stored at 4 times the place from r10 on, and at the end of each 16 from r9 on; any other is an operation on rn and rm into rd,
-- which sets the flags. The first of these that fits counts
abbrev pub body_word : ℕ → ℕ → ℕ
body_word place s =
    let x = s / 2 ^ 8 in
    let rd = drawn_register 0 x in
    let rn = drawn_register 3 x in
    let rm = drawn_register 6 x in
    let operation = slice_index_or operations (x / 2 ^ 9 % 8) 0 in
    if place == 1023 then 0xEAFFFBFF
    else if place % 256 == 127 then 0xE58A0000 + 0x1000 * rd + 4 * place
    else if place % 16 == 15 then 0xE5890000 + 0x1000 * rd + 4 * place
    else 0xE0100000 + 0x200000 * operation + 0x10000 * rn + 0x1000 * rd + rm

-- a body from a number: each word takes one draw
unfoldable pub body : ℕ → List ℕ
body number = map (λ place. body_word place (drawn number (place + 1))) (range_with_len 0 1024)

-- what ARM9 does before its body: it copies the 4 KiB from 28h bytes after its entry on, its body's, to ITCM, sets r10 to main memory's
-- 2200000h and r9 to the end of the copy, and goes to the copy, at 0
abbrev pub nine_start : List ℕ
nine_start =
    0xE3A08402 ∷ 0xE3A09000 ∷ 0xE3A0A622 ∷ 0xE5980028 ∷ 0xE5890000 ∷ 0xE2888004 ∷ 0xE2899004 ∷ 0xE3590A01 ∷ 0x1AFFFFF9 ∷ 0xE3A0F000 ∷ []

-- what ARM7 does before its body: it sets r9 to 3804000h, in its own work RAM, and r10 to 2200000h
abbrev pub seven_start : List ℕ
seven_start = 0xE3A0950E ∷ 0xE2899901 ∷ 0xE3A0A622 ∷ []

-- the eight numbers of the header that aren't 0, from its byte 20h on: where ARM9's image stands in the file, where it begins to run, where it goes
-- to, and how many bytes it has; and the same of ARM7's
abbrev pub demo_fields : List ℕ
demo_fields = 0x200 ∷ 0x2000000 ∷ 0x2000000 ∷ 0x1028 ∷ 0x1400 ∷ 0x3800000 ∷ 0x3800000 ∷ 0x100C ∷ []

-- the file: a header of 512 bytes, ARM9's image at 200h, and ARM7's at 1400h, whose body is drawn after ARM9's; 0 between them
abbrev pub demo_words : ℕ → List ℕ
demo_words number =
    replicate 8 0 ++ (demo_fields
    ++ (replicate 112 0 ++ (nine_start ++ (body number ++ (replicate 118 0 ++ (seven_start ++ body (drawn number 1024)))))))

abbrev pub demo_file : ℕ → List ℕ
demo_file number = flat_map (little_bytes 4) (demo_words number)
