use Rattle.ds_card.proofs.Words.{Due, Nine, Proc, Ready, Seven, Transfer, aligned_down, block_words, came, number_at, was_read, words_of_size, wrote}
use Rattle.std.proofs.Common.{rules, ℕ, zero, suc, ◌≡◌, ◌⊎◌, inl, inr, ◌<◌, ◌≤◌, ◌^◌, ◌==◌, ◌&&◌, ◌||◌, not, nat_lt, true, false, true≢false, List, slice_index_or, Option, Some, None, is_some, IfSome, refl, sym, ap, subst, arith}
use Rattle.ds_base.proofs.Choices.{both, both_true, either, equal}
use Rattle.ds_base.specs.Schedules.{due_number}
use Rattle.ds_base.specs.Bits.{bits}
use Rattle.ds_base.specs.declared.memories.Width.TheVariants.{Word}
use Rattle.ds_card.proofs.InOrder.{Stands, StandsIn, one_follows}
use Rattle.ds_card.specs.Cards.{CardState, IsCard, IsUnderWay, card_due, card_starter, card_taken, card_word, is_starting, start_refusal, next_due, ready_word, is_known}
use Rattle.ds_card.specs.Saved.{CardsAreSaved, IsCardAt, HasItsWord, card_format, card_due_by, due_where, keeps_romctrl, next_numbered, numbered_starter, starter_number, starts_by, taken_of, takes_by, transfer_numbered}
use Rattle.ds_card.specs.TransferLaws.{CardHappens}
use Rattle.ds_card.specs.declared.cards.NextWord.{NextWord}
use Rattle.ds_state.proofs.Exact.{one_spelling, round_trips}
use Rattle.ds_state.proofs.Soon.{soon_fits}
use Rattle.ds_state.specs.Formats.{soon}
use Rattle.ds_state.proofs.Standing.{IsExact, StandsFor}

-- What the card owes of its format.

abbrev made_card : List ℕ → List ℕ → List ℕ → List ℕ → ℕ → ℕ → ℕ → Option ℕ → CardState
made_card nine seven romctrl command starter taken word due =
    record { nine = nine; seven = seven; romctrl = romctrl; command = command; transfer = transfer_numbered (numbered_starter starter) taken word due }

-- what is made of numbers that keep the rules says them
record SaysThem (n count : ℕ) (tick : Option ℕ) (c : CardState) : Type 0 where
  starter : starter_number (card_starter c) ≡ n
  taken : taken_of c.transfer ≡ count
  due : due_number (card_due c) ≡ tick

no_due : (words taken at : ℕ) (due : Option ℕ) → card_due_by words 0 taken at due ≡ true → due ≡ None
no_due words taken at None rule = refl
no_due words taken at (Some due) rule = absurd (true≢false (sym (both (soon at (Some due)) false rule).1))

next_again : (word : ℕ) (due : Option ℕ) → due_number (next_due (next_numbered word due)) ≡ due
next_again word None = refl
next_again word (Some due) = refl

too_great : (command : List ℕ) (n at : ℕ) → starts_by command at (suc (suc (suc n))) ≡ true → ⊥
too_great command n at rule = grind (arith, rule)

says_them : (nine seven romctrl command : List ℕ) (starter taken word at : ℕ) (due : Option ℕ)
    → starts_by command at starter ≡ true → takes_by (block_words romctrl) starter at taken ≡ true → card_due_by (block_words romctrl) starter taken at due ≡ true
    → SaysThem starter taken due (made_card nine seven romctrl command starter taken word due)
says_them nine seven romctrl command zero taken word at due begins takes comes =
    record { starter = refl; taken = sym (equal taken 0 takes); due = sym (no_due (block_words romctrl) taken at due comes) }
says_them nine seven romctrl command (suc zero) taken word at due begins takes comes = record { starter = refl; taken = refl; due = next_again word due }
says_them nine seven romctrl command (suc (suc zero)) taken word at due begins takes comes = record { starter = refl; taken = refl; due = next_again word due }
says_them nine seven romctrl command (suc (suc (suc n))) taken word at due begins takes comes = absurd (too_great command n at begins)

pub card_exact : (file : List ℕ) (at : ℕ) → IsExact (card_format file) at
unfolding card_format
card_exact file at = λ nine _ _ seven _ _ romctrl _ _ command _ _ starter _ begins taken _ takes due _ comes.
    (let says = says_them nine seven romctrl command starter taken (card_word file command taken) at due begins takes comes in
    (says.due, (says.taken, (says.starter, (refl, (refl, (refl, (refl, tt))))))))

-- ---- the rules hold of a card

abbrev with_transfer : CardState → Option Transfer → CardState
with_transfer s t = record s { transfer = t }

record HoldsOf (file : List ℕ) (at : ℕ) (s c : CardState) : Type 0 where
  starter : starts_by s.command at (starter_number (card_starter c)) ≡ true
  taken : takes_by (block_words s.romctrl) (starter_number (card_starter c)) at (taken_of c.transfer) ≡ true
  due : due_where (block_words s.romctrl) (starter_number (card_starter c)) (taken_of c.transfer) (due_number (card_due c)) ≡ true
  small : starter_number (card_starter c) < 256
  few : taken_of c.transfer < 2 ^ 32
  again : transfer_numbered (numbered_starter (starter_number (card_starter c))) (taken_of c.transfer)
      (card_word file s.command (taken_of c.transfer)) (due_number (card_due c)) ≡ c.transfer

words_few : (port : List ℕ) → block_words port ≤ 4096
words_few port = by_size (bits 24 3 (number_at Word port 0)) (bits_small (number_at Word port 0)) where
  bits_small : (n : ℕ) → bits 24 3 n < 8
  bits_small n = grind arith

  by_size : (size : ℕ) → size < 8 → words_of_size size ≤ 4096
  by_size zero l = omega arith
  by_size (suc zero) l = omega arith
  by_size (suc (suc zero)) l = omega arith
  by_size (suc (suc (suc zero))) l = omega arith
  by_size (suc (suc (suc (suc zero)))) l = omega arith
  by_size (suc (suc (suc (suc (suc zero))))) l = omega arith
  by_size (suc (suc (suc (suc (suc (suc zero)))))) l = omega arith
  by_size (suc (suc (suc (suc (suc (suc (suc zero))))))) l = omega arith
  by_size (suc (suc (suc (suc (suc (suc (suc (suc n)))))))) l = absurd (omega (arith, l))

begins : (command : List ℕ) (at n : ℕ) → nat_lt n 3 ≡ true → is_known (slice_index_or command 0 0) ≡ true → starts_by command at n ≡ true
begins command at n small known = grind (rules, small, known)

-- a transfer's words, and whether one is ready, as they are under way
abbrev Left : ℕ → ℕ → Option ℕ → Type 0
Left words taken ready = (taken < words) ⊎ ((words ≡ 0) × (taken ≡ 0) × (ready ≡ None))

takes_rightly : (words taken : ℕ) (ready : Option ℕ) → Left words taken ready → ((words == 0) || nat_lt taken words) ≡ true
takes_rightly words taken ready (inl lt) = grind (arith, rules, lt)
takes_rightly words taken ready (inr none) = (let n = none.0 in grind (arith, rules, n))

few_taken : (port : List ℕ) (taken : ℕ) (ready : Option ℕ) → Left (block_words port) taken ready → taken < 2 ^ 32
few_taken port taken ready (inl lt) = (let most = words_few port in omega (arith, most, lt))
few_taken port taken ready (inr none) = (let n = none.1 in omega (arith, n))

due_while : (words taken : ℕ) (due : ℕ) → Left words taken None → (not (words == 0) || ((taken == 0) && is_some (Some due))) ≡ true
due_while words taken due (inl lt) = grind (arith, rules, lt)
due_while words taken due (inr none) = (let n = none.1 in grind (arith, rules, n))

ready_while : (words taken word : ℕ) → Left words taken (Some word) → (not (words == 0) || ((taken == 0) && false)) ≡ true
ready_while words taken word (inl lt) = grind (arith, rules, lt)
ready_while words taken word (inr none) = absurd (some_none none.2) where
  some_none : ◌≡◌ {A = Option ℕ} (Some word) None → ⊥
  some_none h = cc

holds_some : (file : List ℕ) (at : ℕ) (s : CardState) (starter : Proc) (taken : ℕ) (next : NextWord)
    → is_known (slice_index_or s.command 0 0) ≡ true → Left (block_words s.romctrl) taken (ready_word next)
    → HasItsWord file s (Some (record { starter = starter; taken = taken; next = next }))
    → HoldsOf file at s (with_transfer s (Some (record { starter = starter; taken = taken; next = next })))
holds_some file at s Nine taken (Due tick) known left word = record {
  starter = begins s.command at 1 refl known;
  taken = takes_rightly (block_words s.romctrl) taken None left;
  due = due_while (block_words s.romctrl) taken tick.0 left;
  small = omega arith;
  few = few_taken s.romctrl taken None left;
  again = refl;
}
holds_some file at s Seven taken (Due tick) known left word = record {
  starter = begins s.command at 2 refl known;
  taken = takes_rightly (block_words s.romctrl) taken None left;
  due = due_while (block_words s.romctrl) taken tick.0 left;
  small = omega arith;
  few = few_taken s.romctrl taken None left;
  again = refl;
}
holds_some file at s Nine taken (Ready ready) known left word = record {
  starter = begins s.command at 1 refl known;
  taken = takes_rightly (block_words s.romctrl) taken (Some ready) left;
  due = ready_while (block_words s.romctrl) taken ready left;
  small = omega arith;
  few = few_taken s.romctrl taken (Some ready) left;
  again = ap (λ (n : ℕ). Some (record { starter = Nine; taken = taken; next = Ready n })) (sym word);
}
holds_some file at s Seven taken (Ready ready) known left word = record {
  starter = begins s.command at 2 refl known;
  taken = takes_rightly (block_words s.romctrl) taken (Some ready) left;
  due = ready_while (block_words s.romctrl) taken ready left;
  small = omega arith;
  few = few_taken s.romctrl taken (Some ready) left;
  again = ap (λ (n : ℕ). Some (record { starter = Seven; taken = taken; next = Ready n })) (sym word);
}

holds_by : (file : List ℕ) (at : ℕ) (s : CardState) (t : Option Transfer) → IsUnderWay s t → HasItsWord file s t → HoldsOf file at s (with_transfer s t)
holds_by file at s None under word = record { starter = refl; taken = refl; due = refl; small = omega arith; few = omega arith; again = refl }
holds_by file at s (Some t) under word = holds_some file at s t.starter t.taken t.next under.0 under.1 word

romctrl_holds : (at : ℕ) (s : CardState) → IsCard s → keeps_romctrl at s.romctrl ≡ true
romctrl_holds at s is = (let ready = is.ready_bit in let busy = is.busy_bit in grind (arith, rules, ready, busy))

pub card_stands : (file : List ℕ) (at : ℕ) (s : CardState) → at ≤ 2 ^ 56 → IsCardAt file at s → StandsFor (card_format file) at s
unfolding card_format
card_stands file at s early is =
    let holds = holds_by file at s s.transfer is.card.transfer is.word in
    let fits = soon_fits at (due_number (card_due s)) early is.due in
    let due = both_true _ _ is.due holds.due in (
      (
        is.nine.long,
        is.nine.kept,
        (
          is.seven.long,
          is.seven.kept,
          (
            is.card.romctrl,
            romctrl_holds at s is.card,
            (
              is.card.command,
              refl,
              (holds.small, holds.starter, (holds.few, holds.taken, (fits, due, tt))),
            ),
          ),
        ),
      ),
      ap (λ (t : Option Transfer). with_transfer s t) holds.again,
    )

-- ---- a word that is ready stays the file's

stands_of : (file : List ℕ) (s : CardState) (t : Transfer) → IsUnderWay s (Some t) → HasItsWord file s (Some t)
    → Stands (card_word file s.command) (block_words s.romctrl) t
stands_of file s t under word = record { left = under.1; ready = is_word (ready_word t.next) word } where
  is_word : (ready : Option ℕ) → IfSome ready (λ w. w ≡ card_word file s.command t.taken) → (w : ℕ) → ready ≡ Some w → w ≡ card_word file s.command t.taken
  is_word None h w e = absurd (cc)
  is_word (Some x) h w e = cc

word_of : (ready : Option ℕ) (word : ℕ) → ((w : ℕ) → ready ≡ Some w → w ≡ word) → IfSome ready (λ w. w ≡ word)
word_of None word h = tt
word_of (Some w) word h = h w refl

stood : (file command : List ℕ) (count taken : ℕ) (next : CardState) (there : Option Transfer) → next.command ≡ command
    → StandsIn (card_word file command) count taken there → HasItsWord file next there
stood file command count taken next None e stands = tt
stood file command count taken next (Some t) e stands =
    subst (λ (c : List ℕ). IfSome (ready_word t.next) (λ w. w ≡ card_word file c t.taken)) (sym e)
    (word_of (ready_word t.next) (card_word file command t.taken) stands.0.ready)

abbrev HasWord : List ℕ → CardState → Type 0
HasWord file c = HasItsWord file c c.transfer

idle_happens : (file : List ℕ) (s next : CardState) (got : Option ℕ) → CardHappens file (with_transfer s None) got next → HasWord file next
idle_happens file s next got (wrote Nine at width value now) =
    either (HasWord file) (is_some (start_refusal (with_transfer s None) at width value)) _ _ tt
    (either (HasWord file) (is_starting (with_transfer s None) (aligned_down width at) width value) _ _ tt tt)
idle_happens file s next got (wrote Seven at width value now) =
    either (HasWord file) (is_some (start_refusal (with_transfer s None) at width value)) _ _ tt
    (either (HasWord file) (is_starting (with_transfer s None) (aligned_down width at) width value) _ _ tt tt)
idle_happens file s next got (was_read proc at width now) =
    either (HasWord file) (is_some (card_taken (with_transfer s None) proc at width)) _ _ tt tt
idle_happens file s next got (came due) = tt

word_stays : (file : List ℕ) (s next : CardState) (got : Option ℕ) → IsCard s → HasWord file s → CardHappens file s got next → HasWord file next
word_stays file s next got is word happens = by_transfer s.transfer refl is.transfer word where
  by_transfer : (there : Option Transfer) → s.transfer ≡ there → IsUnderWay s there → HasItsWord file s there → HasWord file next
  by_transfer None h under has =
      idle_happens file s next got (subst (λ (c : CardState). CardHappens file c got next) (ap (λ (t : Option Transfer). with_transfer s t) h) happens)
  by_transfer (Some t) h under has =
      let one = one_follows file s next t got h (stands_of file s t under has) happens in
      stood file s.command (block_words s.romctrl) one.0 next next.transfer one.2.command one.2.stands

pub cards_saved : CardsAreSaved
cards_saved = record {
  back = λ file at s early is. round_trips (card_format file) at s (card_stands file at s early is);
  spelling = λ file at. one_spelling (card_format file) at (card_exact file at);
  stays = word_stays;
}
