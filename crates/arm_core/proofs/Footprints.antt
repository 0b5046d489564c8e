use Rattle.std.proofs.Common.{ℕ, zero, suc, ◌≡◌, ◌<◌, ◌+◌, ◌*◌, ◌/◌, ◌%◌, ◌^◌, ◌==◌, ◌&&◌, not, Bool, true, false, List, [], ◌∷◌, ◌++◌, length, map, count_ones, Option, Some, None, Contains, refl, sym, ◌∙◌, ap, subst, inl, inr, zero-add, add-zero, add-one, div-one, arith}
use Rattle.std.specs.Option.{option_or}
use Rattle.std.proofs.lemmas.Bool.{cases_eq, cond_both}
use Rattle.std.proofs.lemmas.List.{length-map}
use Rattle.std.proofs.lemmas.List.Elements.{Contains-append_left, Contains-append_cases}
use Rattle.std.proofs.lemmas.List.Folds.{find-append}
use Rattle.std.proofs.lemmas.Nat.{shr-shr, shr_below, ones-le}
use lib.Count.{ones_step}
use Rattle.ds_base.specs.Accesses.{Access, Fetch, Read, Write}
use Rattle.ds_base.specs.Numbers.{aligned_down}
use Rattle.ds_base.specs.declared.memories.Width.TheVariants.{Byte, Half, Word}
use Rattle.ds_base.specs.declared.processors.Arch.{Arch}
use Rattle.ds_base.specs.declared.processors.Arch.TheVariants.{V4, V5}
use Rattle.arm_core.specs.Registers.{RegisterState, register, late_register}
use Rattle.arm_core.specs.Addressing.{listed_registers, listed_from, list_bytes, lowest, moved_base}
use Rattle.arm_core.specs.Multiples.{reads, writes, transferred, reached_bank, stored_value, stores_new_base, multiple_meaning}
use Rattle.arm_core.specs.Doubles.{double_at}
use Rattle.arm_core.specs.Footprints.{span, access_bytes}
use Rattle.arm_core.specs.FootprintLaws.{accessed_bytes, touched_bytes, first_without, Covers, GoesOver, HasBytes, TellsNothing}
use Rattle.arm_core.specs.declared.addresses.Addressed.{Addressed}
use Rattle.arm_core.specs.declared.touches.Touch.{Touch}
use Rattle.arm_core.specs.declared.touches.Touch.TheVariants.{Nothing, Span}

-- Spans

-- two spans one behind the other are one
span-append : (first a b : ℕ) → span first a ++ span (first + a) b ≡ span first (a + b)
span-append first zero b = ap (λ (at : ℕ). span at b) (add-zero first) ∙ ap (λ (n : ℕ). span first n) (sym (zero-add b))
span-append first (suc a) b =
    let e : first + suc a ≡ first + 1 + a = omega arith in
    let n : suc a + b ≡ suc (a + b) = omega arith in
    ap (λ (at : ℕ). span first (suc a) ++ span at b) e ∙ ap (λ (rest : List ℕ). first % 2 ^ 32 ∷ rest) (span-append (first + 1) a b)
    ∙ ap (λ (m : ℕ). span first m) (sym n)

-- a span goes by where it begins modulo 2^32
span_same : (length a b : ℕ) → a % 2 ^ 32 ≡ b % 2 ^ 32 → span a length ≡ span b length
span_same zero a b h = refl
span_same (suc length) a b h =
    let next : (a + 1) % 2 ^ 32 ≡ (b + 1) % 2 ^ 32 = omega (arith, h) in
    ap (λ (at : ℕ). at ∷ span (a + 1) length) h ∙ ap (λ (rest : List ℕ). b % 2 ^ 32 ∷ rest) (span_same length (a + 1) (b + 1) next)

-- The words of a list

word_on : (at : ℕ) → aligned_down Word ((at + 4) % 2 ^ 32) % 2 ^ 32 ≡ (aligned_down Word at + 4) % 2 ^ 32
word_on at = omega arith

-- a word at an address, and then a span at the next word
word_first : (at count : ℕ) → span (aligned_down Word at) 4 ++ span (aligned_down Word ((at + 4) % 2 ^ 32)) (4 * count) ≡ span (aligned_down Word at) (4 * suc count)
word_first at count =
    let n : 4 + 4 * count ≡ 4 * suc count = omega arith in
    ap (λ (rest : List ℕ). span (aligned_down Word at) 4 ++ rest)
    (span_same (4 * count) (aligned_down Word ((at + 4) % 2 ^ 32)) (aligned_down Word at + 4) (word_on at))
    ∙ span-append (aligned_down Word at) 4 (4 * count) ∙ ap (λ (m : ℕ). span (aligned_down Word at) m) n

pub words_read : (at : ℕ) (rs : List ℕ) → accessed_bytes (reads at rs) ≡ span (aligned_down Word at) (4 * length rs)
words_read at [] = refl
words_read at (r ∷ rs) =
    ap (λ (rest : List ℕ). span (aligned_down Word at) 4 ++ rest) (words_read ((at + 4) % 2 ^ 32) rs) ∙ word_first at (length rs)

pub words_written : (at : ℕ) (values : List ℕ) → accessed_bytes (writes at values) ≡ span (aligned_down Word at) (4 * length values)
words_written at [] = refl
words_written at (value ∷ values) =
    ap (λ (rest : List ℕ). span (aligned_down Word at) 4 ++ rest) (words_written ((at + 4) % 2 ^ 32) values) ∙ word_first at (length values)

-- The registers of a list

one_in : (count r list : ℕ) → list / 2 ^ r % 2 ≡ 1 → listed_from (suc count) r list ≡ r ∷ listed_from count (r + 1) list
unfolding listed_from
one_in count r list h = rw h refl

one_out : (count r list : ℕ) → list / 2 ^ r % 2 ≡ 0 → listed_from (suc count) r list ≡ listed_from count (r + 1) list
unfolding listed_from
one_out count r list h = rw h refl

none_from : (r list : ℕ) → listed_from zero r list ≡ []
unfolding listed_from
none_from r list = refl

-- as many registers are listed as bits are set
count_from : (count r list : ℕ) → list / 2 ^ r < 2 ^ count → length (listed_from count r list) ≡ count_ones (list / 2 ^ r)
count_from zero r list h =
    let few = ones-le 0 (list / 2 ^ r) h in
    let none : 0 ≡ count_ones (list / 2 ^ r) = omega (arith, few) in
    ap (λ (l : List ℕ). length l) (none_from r list) ∙ none
count_from (suc count) r list h =
    let half : list / 2 ^ r / 2 ≡ list / 2 ^ (r + 1) = shr-shr list r 1 in
    let below : list / 2 ^ r < 2 ^ (count + 1) = rw (add-one count) h in
    let within : list / 2 ^ r / 2 < 2 ^ count = shr_below (list / 2 ^ r) count 1 below in
    let less : list / 2 ^ (r + 1) < 2 ^ count = rw half at within in
    let rest = count_from count (r + 1) list less in
    let step = ones_step (list / 2 ^ r) in
    let all : count_ones (list / 2 ^ r) ≡ list / 2 ^ r % 2 + count_ones (list / 2 ^ (r + 1)) = rw half at step in
    elim (cases_eq (list / 2 ^ r % 2) 1) [
      | inl e ↦ (let l = ap (λ (l : List ℕ). length l) (one_in count r list e) in omega (arith, l, rest, all, e))
      | inr n ↦
          (let e : list / 2 ^ r % 2 ≡ 0 = omega (arith, n) in
          let l = ap (λ (l : List ℕ). length l) (one_out count r list e) in omega (arith, l, rest, all, e))
    ]

pub count_listed : (list : ℕ) → list < 2 ^ 16 → length (listed_registers list) ≡ count_ones list
count_listed list h =
    let e : list / 2 ^ 0 ≡ list = div-one list in
    count_from 16 0 list (rw e h) ∙ ap count_ones e

word_twice : (at : ℕ) → aligned_down Word (aligned_down Word at) ≡ aligned_down Word at
word_twice at = omega arith

-- two words at an address and behind it (LDRD, STRD)
pub double_over : (s : RegisterState) (store : Bool) (rn rd : ℕ) (to : Addressed) (touch : Touch)
    → touched_bytes touch ≡ span (aligned_down Word to.address) 8 → GoesOver touch (double_at s store rn rd to).accesses
double_over s true rn rd to touch h =
    inl (words_written (aligned_down Word to.address) (late_register s rd ∷ late_register s (rd + 1) ∷ [])
    ∙ ap (λ (at : ℕ). span at 8) (word_twice to.address) ∙ sym h)
double_over s false rn rd to touch h =
    inl (words_read (aligned_down Word to.address) (rd ∷ (rd + 1) ∷ []) ∙ ap (λ (at : ℕ). span at 8) (word_twice to.address) ∙ sym h)

-- What going over the bytes once or twice tells

or_again : (o : Option ℕ) → option_or o o ≡ o
or_again None = refl
or_again (Some at) = refl

pub covers_over : (touch : Touch) (accesses : List Access) → GoesOver touch accesses → Covers touch accesses
covers_over touch accesses (inl once) at =
    let P : List ℕ → Type 0 = λ l. Contains l at in
    (λ h. subst P (sym once) h, λ h. subst P once h)
covers_over touch accesses (inr twice) at =
    let P : List ℕ → Type 0 = λ l. Contains l at in
    let bytes : List ℕ = touched_bytes touch in (
      λ h. subst P (sym twice) (Contains-append_left bytes bytes at h),
      λ h. elim (Contains-append_cases bytes bytes at (subst P twice h)) [ inl first ↦ first | inr second ↦ second ],
    )

pub order_over : (touch : Touch) (accesses : List Access) (is_there : ℕ → Bool) → GoesOver touch accesses
    → first_without is_there (touched_bytes touch) ≡ first_without is_there (accessed_bytes accesses)
order_over touch accesses is_there (inl once) = ap (λ (l : List ℕ). first_without is_there l) (sym once)
order_over touch accesses is_there (inr twice) =
    let bytes : List ℕ = touched_bytes touch in
    sym (find-append (λ (at : ℕ). not (is_there at)) bytes bytes ∙ or_again (first_without is_there bytes))
    ∙ ap (λ (l : List ℕ). first_without is_there l) (sym twice)

-- The words of LDM and STM

transferred_within : (arch : Arch) (list : ℕ) → list < 2 ^ 16 → transferred arch list < 2 ^ 16
transferred_within V4 list h = cond_both (list == 0) 0x8000 list (λ n. n < 2 ^ 16) (λ e. omega arith) (λ e. h)
transferred_within V5 list h = h

pub multiple_over : (arch : Arch) (s : RegisterState) (pre up user write_back load : Bool) (rn list : ℕ) (touch : Touch) → list < 2 ^ 16
    → touched_bytes touch ≡ span (aligned_down Word (lowest pre up (register s rn) (list_bytes list))) (4 * count_ones (transferred arch list))
    → GoesOver touch (multiple_meaning arch s pre up user write_back load rn list).accesses
multiple_over arch s pre up user write_back true rn list touch within h =
    let at = lowest pre up (register s rn) (list_bytes list) in
    let rs = listed_registers (transferred arch list) in
    let count = count_listed (transferred arch list) (transferred_within arch list within) in
    inl (words_read at rs ∙ ap (λ (n : ℕ). span (aligned_down Word at) (4 * n)) count ∙ sym h)
multiple_over arch s pre up user write_back false rn list touch within h =
    let at = lowest pre up (register s rn) (list_bytes list) in
    let rs = listed_registers (transferred arch list) in
    let count = count_listed (transferred arch list) (transferred_within arch list within) in
    let value = stored_value s (reached_bank s user) rn (write_back && not (rn == 15) && stores_new_base arch rn list) (moved_base up (register s rn) (list_bytes list)) in
    inl (words_written at (map value rs) ∙ ap (λ (n : ℕ). span (aligned_down Word at) (4 * n)) (length-map rs value ∙ count) ∙ sym h)

-- Where there is nothing

abbrev IsSome : List ℕ → Type 0
IsSome [] = ⊥
IsSome (at ∷ rest) = Unit {0}

-- an access has a byte
access_some : (access : Access) (rest : List ℕ) → IsSome (access_bytes access ++ rest)
access_some (Fetch at Byte) rest = tt
access_some (Fetch at Half) rest = tt
access_some (Fetch at Word) rest = tt
access_some (Read at Byte) rest = tt
access_some (Read at Half) rest = tt
access_some (Read at Word) rest = tt
access_some (Write at Byte value) rest = tt
access_some (Write at Half value) rest = tt
access_some (Write at Word value) rest = tt

-- accesses of no byte are none
none_accessed : (accesses : List Access) → accessed_bytes accesses ≡ [] → accesses ≡ []
none_accessed [] h = refl
none_accessed (access ∷ rest) h = absurd (subst IsSome h (access_some access (accessed_bytes rest)))

-- so a touch that has bytes tells where there are none, gone over once
pub nothing_once : (touch : Touch) (accesses : List Access) → HasBytes touch → touched_bytes touch ≡ accessed_bytes accesses → TellsNothing touch accesses
nothing_once Nothing accesses some h = (λ e. none_accessed accesses (sym h), λ e. refl)
nothing_once (Span first (suc length)) [] some h = (λ e. refl, λ e. absurd (subst IsSome h tt))
nothing_once (Span first (suc length)) (access ∷ rest) some h = (λ e. cc e, λ e. cc e)
nothing_once (Span first zero) accesses some h = absurd (omega (arith, some))

-- or twice
nothing_twice : (touch : Touch) (accesses : List Access) → HasBytes touch → accessed_bytes accesses ≡ touched_bytes touch ++ touched_bytes touch
    → TellsNothing touch accesses
nothing_twice Nothing accesses some h = (λ e. none_accessed accesses h, λ e. refl)
nothing_twice (Span first (suc length)) [] some h = (λ e. refl, λ e. absurd (subst IsSome (sym h) tt))
nothing_twice (Span first (suc length)) (access ∷ rest) some h = (λ e. cc e, λ e. cc e)
nothing_twice (Span first zero) accesses some h = absurd (omega (arith, some))

pub nothing_over : (touch : Touch) (accesses : List Access) → HasBytes touch → GoesOver touch accesses → TellsNothing touch accesses
nothing_over touch accesses some (inl once) = nothing_once touch accesses some (sym once)
nothing_over touch accesses some (inr twice) = nothing_twice touch accesses some twice
