use Rattle.std.proofs.Common.{ℕ, ◌≡◌, ◌≤◌, ◌<◌, ◌+◌, ◌^◌, List, [], ◌∷◌, length, get_or, codes, nat_eq, if◌then◌else◌, refl, sym, ◌∙◌, ap, arith}
use Rattle.std.specs.Fmt.{decimal}
use Rattle.std.proofs.lemmas.Fmt.{decimal_injective}
use Rattle.ds_base.specs.Memories.{memory_size}
use Rattle.ds_base.specs.declared.memories.Memory.{Memory}
use Rattle.ds_base.specs.declared.memories.Memory.TheVariants.{Main, Shared, Own7, Itcm, Dtcm, Palette, Vram, Oam}
use Rattle.nds_words.specs.Words.{AskRun, AskList, AskAsm, AskTrace, AskPeek, AskDemo, AskSave, AskResume, AskNothing, memory_word}

-- Words that would peek past the end of a memory.

-- a memory's size by its word
named_size : List ℕ → ℕ
named_size word =
    let first = get_or word 0 0 in
    if nat_eq first 109 then memory_size Main
    else if nat_eq first 119 then (if nat_eq (length word) 4 then memory_size Shared else memory_size Own7)
    else if nat_eq first 105 then memory_size Itcm
    else if nat_eq first 100 then memory_size Dtcm
    else if nat_eq first 112 then memory_size Palette
    else if nat_eq first 118 then memory_size Vram
    else memory_size Oam

size_named : (memory : Memory) → named_size (memory_word memory) ≡ memory_size memory
unfolding named_size
size_named Main = refl
size_named Shared = refl
size_named Own7 = refl
size_named Itcm = refl
size_named Dtcm = refl
size_named Palette = refl
size_named Vram = refl
size_named Oam = refl

pub small_memory : (memory : Memory) → memory_size memory < 2 ^ 32
small_memory Main = omega arith
small_memory Shared = omega arith
small_memory Own7 = omega arith
small_memory Itcm = omega arith
small_memory Dtcm = omega arith
small_memory Palette = omega arith
small_memory Vram = omega arith
small_memory Oam = omega arith

-- each of seven words is the word at its place
at_place : (i : ℕ) (a b : List (List ℕ)) → a ≡ b → get_or a i [] ≡ get_or b i []
at_place i a b e = ap (λ (x : List (List ℕ)). get_or x i []) e

pub past_the_end : (cart keys ticks word place_word count_word : List ℕ) (memory : Memory) (place count : ℕ) → word ≡ memory_word memory → place_word ≡ decimal place → count_word ≡ decimal count
    → place < 2 ^ 64 → count < 2 ^ 64 → memory_size memory < place + count → AskNothing (codes "peek" ∷ cart ∷ keys ∷ ticks ∷ word ∷ place_word ∷ count_word ∷ [])
past_the_end cart keys ticks word place_word count_word memory place count m p n small few past (AskRun cart2 keys2 ticks2 keep) asks = absurd (omega (arith, ap length asks.0))
past_the_end cart keys ticks word place_word count_word memory place count m p n small few past (AskList cart2 proc set) asks = absurd (omega (arith, ap length asks.0))
past_the_end cart keys ticks word place_word count_word memory place count m p n small few past (AskAsm file) asks = absurd (omega (arith, ap length asks.0))
past_the_end cart keys ticks word place_word count_word memory place count m p n small few past (AskTrace cart2 keys2 ticks2 proc count2) asks = absurd (omega (arith, ap length asks.0))
past_the_end cart keys ticks word place_word count_word memory place count m p n small few past (AskDemo number ticks2) asks = absurd (omega (arith, ap length asks.0))
past_the_end cart keys ticks word place_word count_word memory place count m p n small few past (AskSave cart2 keys2 ticks2) asks = absurd (omega (arith, ap length asks.0))
past_the_end cart keys ticks word place_word count_word memory place count m p n small few past (AskResume state cart2 keys2 ticks2 keep) asks = absurd (omega (arith, ap length asks.0))
past_the_end cart keys ticks word place_word count_word memory place count m p n small few past (AskPeek cart2 keys2 ticks2 memory2 place2 count2) asks =
    let inside : place2 + count2 ≤ memory_size memory2 = asks.1.3 in
    let bound = small_memory memory2 in
    let sizes : memory_size memory ≡ memory_size memory2 =
    sym (size_named memory) ∙ ap named_size (sym m ∙ at_place 4 _ _ asks.0) ∙ size_named memory2 in
    let same_place : place ≡ place2 = decimal_injective place place2 small (omega (arith, inside, bound)) (sym p ∙ at_place 5 _ _ asks.0) in
    let same_count : count ≡ count2 = decimal_injective count count2 few (omega (arith, inside, bound)) (sym n ∙ at_place 6 _ _ asks.0) in
    omega (arith, inside, sizes, same_place, same_count, past)
