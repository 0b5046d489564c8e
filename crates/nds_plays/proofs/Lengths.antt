use Rattle.nds_plays.proofs.Words.{Bool, LeftOut, List, MachineState, None, Option, Some, Stopped, Swapped, Tick, WholeFrame, [], arith, concat}
use Rattle.nds_plays.proofs.Words.{ending, false, frame_records, framed_of, halves, last_frame, last_records, length, length-append, lists_records}
use Rattle.nds_plays.proofs.Words.{longs, option_to_list, refl, subst, swapped_lists, sym, true, words, ℕ, ◌*◌, ◌++◌, ◌+◌, ◌<◌, ◌^◌, ◌∷◌, ◌≡◌, ◌≤◌}
use Rattle.std.proofs.Common.{option_map}
use Rattle.nds_records.specs.Lists.{lists_record}
use Rattle.nds_plays.specs.Records.{frame_record, stop_record}

-- How long the records are.

halves_long : (xs : List ℕ) → length (halves xs) ≡ 2 * length xs
unfolding halves
halves_long [] = refl
halves_long (x ∷ xs) = let rest = halves_long xs in omega (arith, rest)

-- ---- frames and lists

long_bytes : (tick : ℕ) → length (longs (tick ∷ [])) ≡ 8
unfolding longs
long_bytes tick = refl

one_more : (x : ℕ) (xs : List ℕ) (n : ℕ) → length xs ≤ n → length (x ∷ xs) ≤ 1 + n
one_more x xs n h = omega (arith, h)

two : (xs ys : List ℕ) (n k : ℕ) → length xs ≤ n → length ys ≤ k → length (xs ++ ys) ≤ n + k
two xs ys n k h g = let both = length-append xs ys in omega (arith, h, g, both)

two_bytes : (xs : List ℕ) → length xs ≡ 98304 → length (halves xs) ≤ 196608
two_bytes xs long = let e = halves_long xs in omega (arith, long, e)

as_most : (n k : ℕ) → n ≡ k → n ≤ k
as_most n k e = omega (arith, e)

frame_long : (frame : WholeFrame) → length frame.pixels ≡ 98304 → length (concat (frame_record frame)) ≤ 196617
frame_long frame long =
    let tick : List ℕ = longs (frame.tick ∷ []) in
    let pixels : List ℕ = halves frame.pixels in
    one_more 70 (tick ++ (pixels ++ [])) 196616
    (two tick (pixels ++ []) 8 196608 (as_most (length tick) 8 (long_bytes frame.tick)) (two pixels [] 196608 0 (two_bytes frame.pixels long) (omega arith)))

-- that of a machine's last whole frame, if there is one
pub frame_few : (m : MachineState) → length m.io.video.whole ≡ 98304 → length (frame_records (option_to_list (last_frame m))) ≤ 196617
frame_few m long = of_one (framed_of m) where
  of_one : (o : Option Tick) → length (frame_records (option_to_list (option_map (λ (tick : Tick). (let frame : WholeFrame = record { tick = tick.0; pixels = m.io.video.whole } in frame)) o))) ≤ 196617
  of_one None = omega arith
  of_one (Some tick) =
      (let frame : WholeFrame = record { tick = tick.0; pixels = m.io.video.whole } in
      let one = frame_long frame long in
      let last = length-append (concat (frame_record frame)) [] in
      omega (arith, one, last))

-- those of some lists
one_few : (lists : Swapped) → length (lists_record lists) ≤ 186389 → length (lists_records (lists ∷ [])) ≤ 186389
one_few lists few = let last = length-append (lists_record lists) [] in omega (arith, few, last)

pub swapped_few : (swapped : Bool) (lists : Swapped) → length (lists_record lists) ≤ 186389 → length (lists_records (swapped_lists swapped lists)) ≤ 186389
swapped_few true lists few = one_few lists few
swapped_few false lists few = omega arith

-- ---- what comes last

stop_few : (left : LeftOut) → length (concat (stop_record left)) ≤ 15
unfolding longs words
stop_few left = omega arith

stopped_few : (until turns : ℕ) (left : LeftOut) → length (last_records until turns (Stopped left)) + 383006 ≤ 40000000
stopped_few until turns left = let few = stop_few left in omega (arith, few)

pub ending_few : (stop : Option LeftOut) (left : LeftOut) (until turns : ℕ) (m : MachineState) → stop ≡ Some left
    → length (last_records until turns (ending stop m)) + 383006 ≤ 40000000
ending_few stop left until turns m e =
    subst (λ (o : Option LeftOut). length (last_records until turns (ending o m)) + 383006 ≤ 40000000) (sym e) (stopped_few until turns left)

-- ---- all of it

-- what is written has fewer than 2^64 bytes: frames are 1,120,380 ticks apart
pub all_short : (until : ℕ) (shown after : List ℕ) (frames : ℕ) → until ≤ 2 ^ 56 → 1120380 * frames ≤ until + 302460 → length shown ≤ 383006 * frames → length after ≤ 40000000
    → length (shown ++ after) < 2 ^ 64
all_short until shown after frames early few each last = let both = length-append shown after in omega (arith, early, few, each, last, both)
