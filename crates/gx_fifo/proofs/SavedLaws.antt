use Rattle.gx_fifo.proofs.Words.{AllByRecursion, Bool, GxEntry, List, None, Option, Some, Tick, [], ap, arith, bit, bit_and, bytes_written}
use Rattle.gx_fifo.proofs.Words.{complete_command, entry_format, false, first_parameters, inl, inr, is_given, is_some, most_entries, nat_lt, not}
use Rattle.gx_fifo.proofs.Words.{refl, rules, sym, true, true≢false, ℕ, ◌%◌, ◌&&◌, ◌*◌, ◌+◌, ◌-◌, ◌/◌, ◌<◌, ◌==◌, ◌^◌, ◌||◌, ◌∙◌, ◌∷◌, ◌≡◌, ◌≤◌, ◌⊎◌}
use Rattle.std.specs.Int.Bits.{and_mask}
use Rattle.ds_base.specs.Schedules.{due_number, numbered_due}
use Rattle.ds_base.proofs.DueNumbers.{due_again, number_again}
use Rattle.ds_base.proofs.Choices.{both_true, is_le}
use Rattle.ds_state.specs.Formats.{keeps_mask}
use Rattle.ds_state.proofs.Standing.{IsExact, StandsFor}
use Rattle.ds_state.proofs.Exact.{one_spelling, round_trips}
use Rattle.ds_state.proofs.Masks.{kept_top}
use Rattle.ds_state.proofs.Soon.{soon_fits}
use Rattle.gx_geometry.proofs.SavedLaws.{geometry_exact, geometry_stands}
use Rattle.gx_fifo.specs.GxStates.{GxState, waiting_entries}
use Rattle.gx_fifo.specs.Saved.{GxIsSaved, IsSavedGx, are_left, count_by, gx_format, gx_format_by, may_wait}
use Rattle.gx_fifo.proofs.Codes.{code_of, code_small, first_again, has_again}
use Rattle.gx_fifo.proofs.Unpacks.{no_parameters}

-- What the geometry engine with what waits for it owes of its format.

entry_exact : (at : ℕ) → IsExact entry_format at
unfolding entry_format
entry_exact at = λ code _ has word _ _. let again = code_of at code has in search rules

entry_stands : (at : ℕ) (e : GxEntry) → e.word < 2 ^ 32 → StandsFor entry_format at e
unfolding entry_format
entry_stands at e word =
    let small = code_small e.command in let has = has_again e.command at in let again = first_again e.command in
    (search rules, rw again refl)

entries_stand : (at : ℕ) (es : List GxEntry) → AllByRecursion (λ e. e.word < 2 ^ 32) es → AllByRecursion (StandsFor entry_format at) es
entries_stand at [] h = tt
entries_stand at (e ∷ es) h = (entry_stands at e h.0, entries_stand at es h.1)

-- parameters left, and those that were given
left_cases : (packed at left : ℕ) → are_left packed at left ≡ true → ((packed ≡ 0) × (left ≡ 0)) ⊎ ((1 ≤ left) × (left ≤ first_parameters packed))
left_cases packed at left h = grind (arith, h)

pub left_within : (packed left : ℕ) → are_left packed 0 left ≡ true → left ≤ first_parameters packed
left_within packed left h = elim (left_cases packed 0 left h) [
  | inl none ↦ omega (arith, none.1)
  | inr some ↦ some.1
]

pub left_below : (packed left : ℕ) → first_parameters packed ≤ 32 → are_left packed 0 left ≡ true → first_parameters packed - left < 32
left_below packed left few h = elim (left_cases packed 0 left h) [
  | inl none ↦ let e : first_parameters packed ≡ 0 = ap (λ (n : ℕ). first_parameters n) none.0 ∙ no_parameters in omega (arith, e)
  | inr some ↦ let one = some.0 in omega (arith, one, few)
]

some_given : (packed left : ℕ) → 1 ≤ left → left ≤ first_parameters packed → is_given packed (first_parameters packed - left) ≡ true
some_given packed left one few = grind (arith, one, few)

none_given : (packed left : ℕ) → packed ≡ 0 → left ≡ 0 → is_given packed (first_parameters packed - left) ≡ true
none_given packed left none zero = rw (none, zero, no_parameters) refl

pub left_given : (packed left : ℕ) → are_left packed 0 left ≡ true → is_given packed (first_parameters packed - left) ≡ true
left_given packed left h = elim (left_cases packed 0 left h) [
  | inl none ↦ none_given packed left none.0 none.1
  | inr some ↦ some_given packed left some.0 some.1
]

either : (all packed given : ℕ) → (nat_lt given all || (packed == 0 && given == 0)) ≡ true → (given < all) ⊎ ((packed ≡ 0) × (given ≡ 0))
either all packed given h = grind (arith, h)

given_cases : (packed given : ℕ) → is_given packed given ≡ true → (given < first_parameters packed) ⊎ ((packed ≡ 0) × (given ≡ 0))
given_cases packed given h = either (first_parameters packed) packed given h

pub given_within : (packed given : ℕ) → is_given packed given ≡ true → given ≤ first_parameters packed
given_within packed given h = elim (given_cases packed given h) [
  | inl some ↦ omega (arith, some)
  | inr none ↦ let e = none.1 in omega (arith, e)
]

some_are_left : (packed at given : ℕ) → given < first_parameters packed → are_left packed at (first_parameters packed - given) ≡ true
some_are_left packed at given h = grind (arith, h)

none_are_left : (packed at given : ℕ) → packed ≡ 0 → given ≡ 0 → are_left packed at (first_parameters packed - given) ≡ true
none_are_left packed at given none zero = rw (none, zero, no_parameters) refl

given_left : (packed at given : ℕ) → is_given packed given ≡ true → are_left packed at (first_parameters packed - given) ≡ true
given_left packed at given h = elim (given_cases packed given h) [
  | inl some ↦ some_are_left packed at given some
  | inr none ↦ none_are_left packed at given none.0 none.1
]

twice_less : (all n : ℕ) → n ≤ all → all - (all - n) ≡ n
twice_less all n h = omega (arith, h)

-- DISP3DCNT's kept bits
masked : (d : ℕ) → bit_and d 0x5FFF ≡ d / 2 ^ 14 % 2 * 2 ^ 14 + d % 2 ^ 13
masked d = kept_top d 14 1 0x1FFF (omega arith) ∙ ap (λ (n : ℕ). d / 2 ^ 14 % 2 * 2 ^ 14 + n) (and_mask d 13)

mask_is : (d : ℕ) → keeps_mask 0x5FFF 0 d ≡ true → d / 2 ^ 14 % 2 * 2 ^ 14 + d % 2 ^ 13 ≡ d
mask_is d h =
    let e : bit_and d 0x5FFF ≡ d = grind (arith, h) in sym (masked d) ∙ e

pub mask_small : (d : ℕ) → keeps_mask 0x5FFF 0 d ≡ true → d < 2 ^ 15
mask_small d h = let e = mask_is d h in omega (arith, e)

pub mask_apart : (d : ℕ) → keeps_mask 0x5FFF 0 d ≡ true → bit 13 d ≡ false
mask_apart d h = let e = mask_is d h in let n : d / 2 ^ 13 % 2 ≡ 0 = omega (arith, e) in rw n refl

display_kept : (at d : ℕ) → d < 2 ^ 15 → bit 13 d ≡ false → keeps_mask 0x5FFF at d ≡ true
display_kept at d small apart =
    let n : d / 2 ^ 13 % 2 ≡ 0 = grind (arith, apart) in
    let e : d / 2 ^ 14 % 2 * 2 ^ 14 + d % 2 ^ 13 ≡ d = omega (arith, small, n) in
    let m : bit_and d 0x5FFF ≡ d = masked d ∙ e in
    grind (arith, m)

-- what is due, and what waits
pub due_there : (due : Option ℕ) → is_some (numbered_due due) ≡ is_some due
due_there None = refl
due_there (Some n) = refl

number_there : (due : Option Tick) → is_some (due_number due) ≡ is_some due
number_there None = refl
number_there (Some tick) = refl

is_zero : (n : ℕ) (b : Bool) → (n == 0 && b) ≡ true → n ≡ 0
is_zero n b h = grind (arith, h)

is_other : (n : ℕ) (b : Bool) → (n == 0 && b) ≡ true → b ≡ true
is_other n b h = grind (arith, h)

pub may_be_due : (parameter : ℕ) (due head : Bool) (at : ℕ) (waits : Bool) → may_wait parameter due head at waits ≡ true → due ≡ (not waits && head)
may_be_due parameter true head at true h = absurd (true≢false (sym h))
may_be_due parameter false head at true h = refl
may_be_due parameter true true at false h = refl
may_be_due parameter false true at false h = absurd (true≢false (sym (is_other parameter false h)))
may_be_due parameter true false at false h = absurd (true≢false (sym (is_other parameter false h)))
may_be_due parameter false false at false h = refl

pub may_be_none : (parameter : ℕ) (due head : Bool) (at : ℕ) (waits : Bool) → may_wait parameter due head at waits ≡ true → waits ≡ false
    → parameter ≡ 0
may_be_none parameter due head at true h none = absurd (true≢false none)
may_be_none parameter due true at false h none = is_zero parameter due h
may_be_none parameter due false at false h none = is_zero parameter (not due) h

waits_may : (parameter : ℕ) (due head : Bool) (at : ℕ) (waits : Bool) → due ≡ (not waits && head) → (waits ≡ false → parameter ≡ 0)
    → may_wait parameter due head at waits ≡ true
waits_may parameter due head at true e none = rw e refl
waits_may parameter due true at false e none = rw (e, none refl) refl
waits_may parameter due false at false e none = rw (e, none refl) refl

pub gx_exact : (asked : ℕ → ℕ → Bool) (at : ℕ) → IsExact (gx_format_by asked) at
unfolding gx_format_by
gx_exact asked at = (
  geometry_exact at,
  λ geometry _ display _ _ selector _ _ count _ _. (
    entry_exact at,
    λ entries long _ packed _ _ left _ are due _ _ waits _ _.
        let again = twice_less (first_parameters packed) left (left_within packed left are) in
        let number = number_again due in
        search rules,
  ),
)

few_hold : (asked : ℕ → ℕ → Bool) (selector at count : ℕ) → asked selector count ≡ true → count ≤ most_entries → count_by asked selector at count ≡ true
few_hold asked selector at count holds few = both_true _ _ holds (is_le count most_entries few)

pub gx_stands : (asked : ℕ → ℕ → Bool) (at : ℕ) (s : GxState) → at ≤ 2 ^ 56 → IsSavedGx at s → asked s.selector (waiting_entries s) ≡ true
    → StandsFor (gx_format_by asked) at s
unfolding gx_format_by
gx_stands asked at s early is holds =
    let geometry = geometry_stands at s.geometry early is.geometry in
    let display = is.is.display in
    let kept = display_kept at s.display is.is.display is.is.overflow_apart in
    let selector = is.is.selector in
    let most = is.is.waiting.entries in
    let few = few_hold asked s.selector at (waiting_entries s) holds is.is.waiting.entries in
    let entries = entries_stand at s.fifo.entries is.words in
    let packed = is.is.waiting.packed in
    let left = given_left s.fifo.packed at s.fifo.given is.is.waiting.given in
    let again = twice_less (first_parameters s.fifo.packed) s.fifo.given (given_within s.fifo.packed s.fifo.given is.is.waiting.given) in
    let soon = is.due in
    let fits = soon_fits at _ early is.due in
    let due = due_again s.due in
    let may = waits_may s.geometry.numbers.parameter (is_some (due_number s.due)) (is_some (complete_command s.fifo.entries)) at s.swap_waits
    (number_there s.due ∙ is.is.waiting.due) is.is.parameter in
    (search rules, rw (again, due) refl)

bytes_by : (asked : ℕ → ℕ → Bool) (before : List ℕ) (s : GxState) → bytes_written (gx_format_by asked) before s ≡ bytes_written gx_format before s
unfolding gx_format_by
bytes_by asked before s = refl

pub gx_saved : GxIsSaved
gx_saved = record {
  back = λ at s early is. round_trips gx_format at s (gx_stands (λ selector waiting. true) at s early is refl);
  back_by = λ asked at s early is holds. round_trips (gx_format_by asked) at s (gx_stands asked at s early is holds);
  same_bytes = bytes_by;
  spelling = λ at. one_spelling gx_format at (gx_exact (λ selector waiting. true) at);
  spelling_by = λ asked at. one_spelling (gx_format_by asked) at (gx_exact asked at);
}

-- a command that is due holds no swap up
pub none_waits : (due : Option Tick) (now : Tick) (waits head : Bool) → due ≡ Some now → is_some due ≡ (not waits && head) → waits ≡ false
none_waits due now true head is h = absurd (true≢false (sym (ap (λ (d : Option Tick). is_some d) is) ∙ h))
none_waits due now false head is h = refl
