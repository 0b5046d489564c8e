use Rattle.std.proofs.Common.{ℕ, zero, suc, ◌≡◌, ◌<◌, ◌≤◌, ◌^◌, List, [], ◌∷◌, length, if◌then◌else◌, Option, Some, None, refl, sym, ◌∙◌, ap, arith}
use Rattle.std.specs.Prelude.{◌==◌}
use Rattle.std.specs.Fmt.{decimal}
use Rattle.std.proofs.lemmas.Fmt.{decimal_injective}
use Rattle.ds_base.specs.declared.memories.Memory.{Memory}
use Rattle.ds_base.specs.declared.memories.Memory.TheVariants.{Main, Shared, Own7, Itcm, Dtcm, Palette, Vram, Oam}
use Rattle.ds_base.specs.declared.processors.Proc.{Proc}
use Rattle.ds_base.specs.declared.processors.Proc.TheVariants.{Nine, Seven}
use Rattle.asm_text.specs.declared.sets.Set.{Set}
use Rattle.asm_text.specs.declared.sets.Set.TheVariants.{Arm, Thumb}
use Rattle.nds_words.specs.Words.{Asked, AskRun, AskList, AskAsm, AskTrace, AskPeek, AskDemo, AskSave, AskResume, IsAllowed, IsEnd, IsScriptName, WordsAskForOne, asked_words, image_word, keep_word, keys_word, memory_word, proc_word}
use Rattle.nds_words.specs.declared.commands.Keep.{Keep}
use Rattle.nds_words.specs.declared.commands.Keep.TheVariants.{All, Last, Nothing}
use Rattle.nds_words.proofs.Peeked.{small_memory}

-- Words ask for one thing.

-- a word of a list, and a letter of a word
word_at : ℕ → List (List ℕ) → List ℕ
word_at n [] = []
word_at zero (word ∷ words) = word
word_at (suc n) (word ∷ words) = word_at n words

letter_at : ℕ → List ℕ → ℕ
letter_at n [] = 0
letter_at zero (letter ∷ letters) = letter
letter_at (suc n) (letter ∷ letters) = letter_at n letters

-- ---- each word tells what it stands for

keep_in : List ℕ → Keep
keep_in word = if letter_at 0 word == 97 then All else (if letter_at 0 word == 108 then Last else Nothing)

keep_told : (keep : Keep) → keep_in (keep_word keep) ≡ keep
unfolding keep_in letter_at
keep_told All = refl
keep_told Last = refl
keep_told Nothing = refl

proc_in : List ℕ → Proc
proc_in word = if letter_at 0 word == 57 then Nine else Seven

proc_told : (proc : Proc) → proc_in (proc_word proc) ≡ proc
unfolding proc_in letter_at
proc_told Nine = refl
proc_told Seven = refl

image_proc_told : (proc : Proc) (set : Set) → proc_in (image_word proc set) ≡ proc
unfolding proc_in letter_at
image_proc_told Nine Arm = refl
image_proc_told Seven Arm = refl
image_proc_told Nine Thumb = refl
image_proc_told Seven Thumb = refl

set_in : List ℕ → Set
set_in word = if letter_at 1 word == 116 then Thumb else Arm

image_set_told : (proc : Proc) (set : Set) → set_in (image_word proc set) ≡ set
unfolding set_in letter_at
image_set_told Nine Arm = refl
image_set_told Seven Arm = refl
image_set_told Nine Thumb = refl
image_set_told Seven Thumb = refl

memory_in : List ℕ → Memory
memory_in word =
    if letter_at 0 word == 109 then Main
    else (if letter_at 0 word == 119 then (if letter_at 4 word == 55 then Own7 else Shared)
    else (if letter_at 0 word == 105 then Itcm
    else (if letter_at 0 word == 100 then Dtcm
    else (if letter_at 0 word == 112 then Palette
    else (if letter_at 0 word == 118 then Vram else Oam)))))

memory_told : (memory : Memory) → memory_in (memory_word memory) ≡ memory
unfolding memory_in letter_at
memory_told Main = refl
memory_told Shared = refl
memory_told Own7 = refl
memory_told Itcm = refl
memory_told Dtcm = refl
memory_told Palette = refl
memory_told Vram = refl
memory_told Oam = refl

keys_one : (a b : Option (List ℕ)) → IsScriptName a → IsScriptName b → keys_word a ≡ keys_word b → a ≡ b
keys_one None None first second e = refl
keys_one None (Some name) first second e = absurd (second.1 (sym e))
keys_one (Some name) None first second e = absurd (first.1 e)
keys_one (Some name) (Some other) first second e = ap (λ (w : List ℕ). (let o : Option (List ℕ) = Some w in o)) e

ticks_one : (a b : ℕ) → IsEnd a → IsEnd b → decimal a ≡ decimal b → a ≡ b
ticks_one a b first second e =
    let most = first.1 in
    let most₂ = second.1 in
    decimal_injective a b (omega (arith, most)) (omega (arith, most₂)) e

count_one : (a b most : ℕ) → most < 2 ^ 64 → a ≤ most → b ≤ most → decimal a ≡ decimal b → a ≡ b
count_one a b most fits few few₂ e = decimal_injective a b (omega (arith, few, fits)) (omega (arith, few₂, fits)) e

-- ---- and all words together, command by command

abbrev OneAsked : Asked → Type 0
OneAsked a = (b : Asked) → IsAllowed a → IsAllowed b → asked_words a ≡ asked_words b → a ≡ b

-- a word of both
same_word : (n : ℕ) (xs ys : List (List ℕ)) → xs ≡ ys → word_at n xs ≡ word_at n ys
same_word n xs ys e = ap (word_at n) e

-- the first letter of both commands
same_letter : (xs ys : List (List ℕ)) → xs ≡ ys → letter_at 0 (word_at 0 xs) ≡ letter_at 0 (word_at 0 ys)
same_letter xs ys e = ap (λ (words : List (List ℕ)). letter_at 0 (word_at 0 words)) e

run_one : (cart : List ℕ) (keys : Option (List ℕ)) (ticks : ℕ) (keep : Keep) → OneAsked (AskRun cart keys ticks keep)
unfolding word_at letter_at
run_one cart keys ticks keep (AskRun cart₂ keys₂ ticks₂ keep₂) first second e =
    let c : cart ≡ cart₂ = same_word 1 _ _ e in
    let k = keys_one keys keys₂ first.1 second.1 (same_word 2 _ _ e) in
    let t = ticks_one ticks ticks₂ first.2 second.2 (same_word 3 _ _ e) in
    let p = sym (keep_told keep) ∙ ap keep_in (same_word 4 _ _ e) ∙ keep_told keep₂ in
    rw (c, k, t, p) refl
run_one cart keys ticks keep (AskList _ _ _) first second e = absurd (let l : 114 ≡ 108 = same_letter _ _ e in omega (arith, l))
run_one cart keys ticks keep (AskAsm _) first second e = absurd (let l : 114 ≡ 97 = same_letter _ _ e in omega (arith, l))
run_one cart keys ticks keep (AskTrace _ _ _ _ _) first second e = absurd (let l : 114 ≡ 116 = same_letter _ _ e in omega (arith, l))
run_one cart keys ticks keep (AskPeek _ _ _ _ _ _) first second e = absurd (let l : 114 ≡ 112 = same_letter _ _ e in omega (arith, l))
run_one cart keys ticks keep (AskDemo _ _) first second e = absurd (let l : 114 ≡ 100 = same_letter _ _ e in omega (arith, l))
run_one cart keys ticks keep (AskSave _ _ _) first second e = absurd (let l : 114 ≡ 115 = same_letter _ _ e in omega (arith, l))
run_one cart keys ticks keep (AskResume _ _ _ _ _) first second e = absurd (let l : 5 ≡ 6 = ap length e in omega (arith, l))

list_one : (name : List ℕ) (proc : Proc) (set : Set) → OneAsked (AskList name proc set)
unfolding word_at letter_at
list_one name proc set (AskList name₂ proc₂ set₂) first second e =
    let n : name ≡ name₂ = same_word 1 _ _ e in
    let p = sym (image_proc_told proc set) ∙ ap proc_in (same_word 2 _ _ e) ∙ image_proc_told proc₂ set₂ in
    let s = sym (image_set_told proc set) ∙ ap set_in (same_word 2 _ _ e) ∙ image_set_told proc₂ set₂ in
    rw (n, p, s) refl
list_one name proc set (AskRun _ _ _ _) first second e = absurd (let l : 108 ≡ 114 = same_letter _ _ e in omega (arith, l))
list_one name proc set (AskAsm _) first second e = absurd (let l : 108 ≡ 97 = same_letter _ _ e in omega (arith, l))
list_one name proc set (AskTrace _ _ _ _ _) first second e = absurd (let l : 108 ≡ 116 = same_letter _ _ e in omega (arith, l))
list_one name proc set (AskPeek _ _ _ _ _ _) first second e = absurd (let l : 108 ≡ 112 = same_letter _ _ e in omega (arith, l))
list_one name proc set (AskDemo _ _) first second e = absurd (let l : 108 ≡ 100 = same_letter _ _ e in omega (arith, l))
list_one name proc set (AskSave _ _ _) first second e = absurd (let l : 108 ≡ 115 = same_letter _ _ e in omega (arith, l))
list_one name proc set (AskResume _ _ _ _ _) first second e = absurd (let l : 108 ≡ 114 = same_letter _ _ e in omega (arith, l))

asm_one : (name : List ℕ) → OneAsked (AskAsm name)
unfolding word_at letter_at
asm_one name (AskAsm name₂) first second e =
    let n : name ≡ name₂ = same_word 1 _ _ e in rw n refl
asm_one name (AskRun _ _ _ _) first second e = absurd (let l : 97 ≡ 114 = same_letter _ _ e in omega (arith, l))
asm_one name (AskList _ _ _) first second e = absurd (let l : 97 ≡ 108 = same_letter _ _ e in omega (arith, l))
asm_one name (AskTrace _ _ _ _ _) first second e = absurd (let l : 97 ≡ 116 = same_letter _ _ e in omega (arith, l))
asm_one name (AskPeek _ _ _ _ _ _) first second e = absurd (let l : 97 ≡ 112 = same_letter _ _ e in omega (arith, l))
asm_one name (AskDemo _ _) first second e = absurd (let l : 97 ≡ 100 = same_letter _ _ e in omega (arith, l))
asm_one name (AskSave _ _ _) first second e = absurd (let l : 97 ≡ 115 = same_letter _ _ e in omega (arith, l))
asm_one name (AskResume _ _ _ _ _) first second e = absurd (let l : 97 ≡ 114 = same_letter _ _ e in omega (arith, l))

trace_one : (cart : List ℕ) (keys : Option (List ℕ)) (ticks : ℕ) (proc : Proc) (count : ℕ) → OneAsked (AskTrace cart keys ticks proc count)
unfolding word_at letter_at
trace_one cart keys ticks proc count (AskTrace cart₂ keys₂ ticks₂ proc₂ count₂) first second e =
    let c : cart ≡ cart₂ = same_word 1 _ _ e in
    let k = keys_one keys keys₂ first.0.1 second.0.1 (same_word 2 _ _ e) in
    let t = ticks_one ticks ticks₂ first.0.2 second.0.2 (same_word 3 _ _ e) in
    let p = sym (proc_told proc) ∙ ap proc_in (same_word 4 _ _ e) ∙ proc_told proc₂ in
    let n = count_one count count₂ 1000000 (omega arith) first.2 second.2 (same_word 5 _ _ e) in
    rw (c, k, t, p, n) refl
trace_one cart keys ticks proc count (AskRun _ _ _ _) first second e = absurd (let l : 116 ≡ 114 = same_letter _ _ e in omega (arith, l))
trace_one cart keys ticks proc count (AskList _ _ _) first second e = absurd (let l : 116 ≡ 108 = same_letter _ _ e in omega (arith, l))
trace_one cart keys ticks proc count (AskAsm _) first second e = absurd (let l : 116 ≡ 97 = same_letter _ _ e in omega (arith, l))
trace_one cart keys ticks proc count (AskPeek _ _ _ _ _ _) first second e = absurd (let l : 116 ≡ 112 = same_letter _ _ e in omega (arith, l))
trace_one cart keys ticks proc count (AskDemo _ _) first second e = absurd (let l : 116 ≡ 100 = same_letter _ _ e in omega (arith, l))
trace_one cart keys ticks proc count (AskSave _ _ _) first second e = absurd (let l : 116 ≡ 115 = same_letter _ _ e in omega (arith, l))
trace_one cart keys ticks proc count (AskResume _ _ _ _ _) first second e = absurd (let l : 116 ≡ 114 = same_letter _ _ e in omega (arith, l))

peek_one : (cart : List ℕ) (keys : Option (List ℕ)) (ticks : ℕ) (memory : Memory) (place count : ℕ) → OneAsked (AskPeek cart keys ticks memory place count)
unfolding word_at letter_at
peek_one cart keys ticks memory place count (AskPeek cart₂ keys₂ ticks₂ memory₂ place₂ count₂) first second e =
    let c : cart ≡ cart₂ = same_word 1 _ _ e in
    let k = keys_one keys keys₂ first.0.1 second.0.1 (same_word 2 _ _ e) in
    let t = ticks_one ticks ticks₂ first.0.2 second.0.2 (same_word 3 _ _ e) in
    let m = sym (memory_told memory) ∙ ap memory_in (same_word 4 _ _ e) ∙ memory_told memory₂ in
    let within = first.3 in
    let within₂ = second.3 in
    let small = small_memory memory in
    let small₂ = small_memory memory₂ in
    let p = decimal_injective place place₂ (omega (arith, within, small)) (omega (arith, within₂, small₂)) (same_word 5 _ _ e) in
    let n = count_one count count₂ 4096 (omega arith) first.2 second.2 (same_word 6 _ _ e) in
    rw (c, k, t, m, p, n) refl
peek_one cart keys ticks memory place count (AskRun _ _ _ _) first second e = absurd (let l : 112 ≡ 114 = same_letter _ _ e in omega (arith, l))
peek_one cart keys ticks memory place count (AskList _ _ _) first second e = absurd (let l : 112 ≡ 108 = same_letter _ _ e in omega (arith, l))
peek_one cart keys ticks memory place count (AskAsm _) first second e = absurd (let l : 112 ≡ 97 = same_letter _ _ e in omega (arith, l))
peek_one cart keys ticks memory place count (AskTrace _ _ _ _ _) first second e = absurd (let l : 112 ≡ 116 = same_letter _ _ e in omega (arith, l))
peek_one cart keys ticks memory place count (AskDemo _ _) first second e = absurd (let l : 112 ≡ 100 = same_letter _ _ e in omega (arith, l))
peek_one cart keys ticks memory place count (AskSave _ _ _) first second e = absurd (let l : 112 ≡ 115 = same_letter _ _ e in omega (arith, l))
peek_one cart keys ticks memory place count (AskResume _ _ _ _ _) first second e = absurd (let l : 112 ≡ 114 = same_letter _ _ e in omega (arith, l))

demo_one : (number ticks : ℕ) → OneAsked (AskDemo number ticks)
unfolding word_at letter_at
demo_one number ticks (AskDemo number₂ ticks₂) first second e =
    let n = count_one number number₂ 4294967295 (omega arith) first.0 second.0 (same_word 1 _ _ e) in
    let t = ticks_one ticks ticks₂ first.1 second.1 (same_word 2 _ _ e) in
    rw (n, t) refl
demo_one number ticks (AskRun _ _ _ _) first second e = absurd (let l : 100 ≡ 114 = same_letter _ _ e in omega (arith, l))
demo_one number ticks (AskList _ _ _) first second e = absurd (let l : 100 ≡ 108 = same_letter _ _ e in omega (arith, l))
demo_one number ticks (AskAsm _) first second e = absurd (let l : 100 ≡ 97 = same_letter _ _ e in omega (arith, l))
demo_one number ticks (AskTrace _ _ _ _ _) first second e = absurd (let l : 100 ≡ 116 = same_letter _ _ e in omega (arith, l))
demo_one number ticks (AskPeek _ _ _ _ _ _) first second e = absurd (let l : 100 ≡ 112 = same_letter _ _ e in omega (arith, l))
demo_one number ticks (AskSave _ _ _) first second e = absurd (let l : 100 ≡ 115 = same_letter _ _ e in omega (arith, l))
demo_one number ticks (AskResume _ _ _ _ _) first second e = absurd (let l : 100 ≡ 114 = same_letter _ _ e in omega (arith, l))

save_one : (cart : List ℕ) (keys : Option (List ℕ)) (ticks : ℕ) → OneAsked (AskSave cart keys ticks)
unfolding word_at letter_at
save_one cart keys ticks (AskSave cart₂ keys₂ ticks₂) first second e =
    let c : cart ≡ cart₂ = same_word 1 _ _ e in
    let k = keys_one keys keys₂ first.1 second.1 (same_word 2 _ _ e) in
    let t = ticks_one ticks ticks₂ first.2 second.2 (same_word 3 _ _ e) in
    rw (c, k, t) refl
save_one cart keys ticks (AskRun _ _ _ _) first second e = absurd (let l : 115 ≡ 114 = same_letter _ _ e in omega (arith, l))
save_one cart keys ticks (AskList _ _ _) first second e = absurd (let l : 115 ≡ 108 = same_letter _ _ e in omega (arith, l))
save_one cart keys ticks (AskAsm _) first second e = absurd (let l : 115 ≡ 97 = same_letter _ _ e in omega (arith, l))
save_one cart keys ticks (AskTrace _ _ _ _ _) first second e = absurd (let l : 115 ≡ 116 = same_letter _ _ e in omega (arith, l))
save_one cart keys ticks (AskPeek _ _ _ _ _ _) first second e = absurd (let l : 115 ≡ 112 = same_letter _ _ e in omega (arith, l))
save_one cart keys ticks (AskDemo _ _) first second e = absurd (let l : 115 ≡ 100 = same_letter _ _ e in omega (arith, l))
save_one cart keys ticks (AskResume _ _ _ _ _) first second e = absurd (let l : 115 ≡ 114 = same_letter _ _ e in omega (arith, l))

resume_one : (state cart : List ℕ) (keys : Option (List ℕ)) (ticks : ℕ) (keep : Keep) → OneAsked (AskResume state cart keys ticks keep)
unfolding word_at letter_at
resume_one state cart keys ticks keep (AskResume state₂ cart₂ keys₂ ticks₂ keep₂) first second e =
    let s : state ≡ state₂ = same_word 1 _ _ e in
    let c : cart ≡ cart₂ = same_word 2 _ _ e in
    let k = keys_one keys keys₂ first.1.1 second.1.1 (same_word 3 _ _ e) in
    let t = ticks_one ticks ticks₂ first.1.2 second.1.2 (same_word 4 _ _ e) in
    let p = sym (keep_told keep) ∙ ap keep_in (same_word 5 _ _ e) ∙ keep_told keep₂ in
    rw (s, c, k, t, p) refl
resume_one state cart keys ticks keep (AskRun _ _ _ _) first second e = absurd (let l : 6 ≡ 5 = ap length e in omega (arith, l))
resume_one state cart keys ticks keep (AskList _ _ _) first second e = absurd (let l : 114 ≡ 108 = same_letter _ _ e in omega (arith, l))
resume_one state cart keys ticks keep (AskAsm _) first second e = absurd (let l : 114 ≡ 97 = same_letter _ _ e in omega (arith, l))
resume_one state cart keys ticks keep (AskTrace _ _ _ _ _) first second e = absurd (let l : 114 ≡ 116 = same_letter _ _ e in omega (arith, l))
resume_one state cart keys ticks keep (AskPeek _ _ _ _ _ _) first second e = absurd (let l : 114 ≡ 112 = same_letter _ _ e in omega (arith, l))
resume_one state cart keys ticks keep (AskDemo _ _) first second e = absurd (let l : 114 ≡ 100 = same_letter _ _ e in omega (arith, l))
resume_one state cart keys ticks keep (AskSave _ _ _) first second e = absurd (let l : 114 ≡ 115 = same_letter _ _ e in omega (arith, l))

one_asked : (a : Asked) → OneAsked a
one_asked (AskRun cart keys ticks keep) = run_one cart keys ticks keep
one_asked (AskList name proc set) = list_one name proc set
one_asked (AskAsm name) = asm_one name
one_asked (AskTrace cart keys ticks proc count) = trace_one cart keys ticks proc count
one_asked (AskPeek cart keys ticks memory place count) = peek_one cart keys ticks memory place count
one_asked (AskDemo number ticks) = demo_one number ticks
one_asked (AskSave cart keys ticks) = save_one cart keys ticks
one_asked (AskResume state cart keys ticks keep) = resume_one state cart keys ticks keep

pub words_are_one : WordsAskForOne
words_are_one words a b first second = one_asked a b first.1 second.1 (sym first.0 ∙ second.0)
