use Rattle.ds_machine.proofs.Words.{CardHappens, CardPasses, CardState, HasItsTransfer, HasItsWord, HasWordsLeft, IfSome, List, Nine, None, Option}
use Rattle.ds_machine.proofs.Words.{Proc, Seven, Some, Tick, aligned_down, ap, arith, block_words, came, either, inl, inr, is_some, passed_none}
use Rattle.ds_machine.proofs.Words.{passed_one, refl, start_refusal, subst, suc, sym, was_read, wrote, zero, ℕ, ◌<◌, ◌≡◌, ◌⊎◌}
use Rattle.ds_card.specs.Cards.{card_taken, card_word, is_starting, ports_written, ready_word, transfer_begun}
use Rattle.ds_card.specs.declared.cards.Transfer.{Transfer}
use Rattle.ds_card.proofs.InOrder.{Stands, StandsIn, one_follows}

-- Whatever happens to a card, a word of its transfer that is ready stays the file's.

abbrev with_transfer : CardState → Option Transfer → CardState
with_transfer s t = record s { transfer = t }

-- ---- while none is busy a write may start one

words_left : (n : ℕ) → (0 < n) ⊎ ((n ≡ 0) × (◌≡◌ {A = ℕ} 0 0) × (◌≡◌ {A = Option ℕ} None None))
words_left zero = inr (refl, refl, refl)
words_left (suc n) = inl (omega arith)

abbrev Its : List ℕ → CardState → Type 0
Its file s = HasItsTransfer file s

idle_has : (file : List ℕ) (s : CardState) → Its file (with_transfer s None)
idle_has file s = record { left = tt; word = tt }

begun_has : (file : List ℕ) (s : CardState) (proc : Proc) (now : Tick) → Its file (with_transfer s (Some (transfer_begun proc now)))
begun_has file s proc now = record { left = words_left (block_words s.romctrl); word = tt }

idle_stays : (file : List ℕ) (s next : CardState) (got : Option ℕ) → CardHappens file (with_transfer s None) got next → Its file next
idle_stays file s next got (wrote Nine at width value now) =
    either (Its file) (is_some (start_refusal (with_transfer s None) at width value)) _ _ (idle_has file s)
    (either (Its file) (is_starting (with_transfer s None) (aligned_down width at) width value) _ _ (begun_has file (ports_written (with_transfer s None) Nine (aligned_down width at) width value) Nine now)
    (record { left = tt; word = tt }))
idle_stays file s next got (wrote Seven at width value now) =
    either (Its file) (is_some (start_refusal (with_transfer s None) at width value)) _ _ (idle_has file s)
    (either (Its file) (is_starting (with_transfer s None) (aligned_down width at) width value) _ _ (begun_has file (ports_written (with_transfer s None) Seven (aligned_down width at) width value) Seven now)
    (record { left = tt; word = tt }))
idle_stays file s next got (was_read proc at width now) =
    either (Its file) (is_some (card_taken (with_transfer s None) proc at width)) _ _ (idle_has file s) (idle_has file s)
idle_stays file s next got (came due) = idle_has file s

-- ---- one that is busy goes on

stands_of : (file : List ℕ) (s : CardState) (t : Transfer) → HasWordsLeft s (Some t) → HasItsWord file s (Some t)
    → Stands (card_word file s.command) (block_words s.romctrl) t
stands_of file s t left word = record { left = left; ready = is_word (ready_word t.next) word } where
  is_word : (ready : Option ℕ) → IfSome ready (λ w. w ≡ card_word file s.command t.taken) → (w : ℕ) → ready ≡ Some w → w ≡ card_word file s.command t.taken
  is_word None h w e = absurd (cc)
  is_word (Some x) h w e = cc

word_of : (ready : Option ℕ) (word : ℕ) → ((w : ℕ) → ready ≡ Some w → w ≡ word) → IfSome ready (λ w. w ≡ word)
word_of None word h = tt
word_of (Some w) word h = h w refl

left_by : (romctrl : List ℕ) (word : ℕ → ℕ) (taken : ℕ) (next : CardState) (there : Option Transfer) → next.romctrl ≡ romctrl
    → StandsIn word (block_words romctrl) taken there → HasWordsLeft next there
left_by romctrl word taken next None e stands = tt
left_by romctrl word taken next (Some t) e stands =
    subst (λ (r : List ℕ). (t.taken < block_words r) ⊎ ((block_words r ≡ 0) × (t.taken ≡ 0) × (ready_word t.next ≡ None))) (sym e) stands.0.left

word_by : (file command : List ℕ) (count taken : ℕ) (next : CardState) (there : Option Transfer) → next.command ≡ command
    → StandsIn (card_word file command) count taken there → HasItsWord file next there
word_by file command count taken next None e stands = tt
word_by file command count taken next (Some t) e stands =
    subst (λ (c : List ℕ). IfSome (ready_word t.next) (λ w. w ≡ card_word file c t.taken)) (sym e)
    (word_of (ready_word t.next) (card_word file command t.taken) stands.0.ready)

happens_stays : (file : List ℕ) (s next : CardState) (got : Option ℕ) → CardHappens file s got next → Its file s → Its file next
happens_stays file s next got happens h = by_transfer s.transfer refl h.left h.word where
  by_transfer : (there : Option Transfer) → s.transfer ≡ there → HasWordsLeft s there → HasItsWord file s there → Its file next
  by_transfer None e left word =
      idle_stays file s next got (subst (λ (c : CardState). CardHappens file c got next) (ap (λ (t : Option Transfer). with_transfer s t) e) happens)
  by_transfer (Some t) e left word =
      let one = one_follows file s next t got e (stands_of file s t left word) happens in
      record {
        left = left_by s.romctrl (card_word file s.command) one.0 next next.transfer one.2.romctrl one.2.stands;
        word = word_by file s.command (block_words s.romctrl) one.0 next next.transfer one.2.command one.2.stands;
      }

pub passes_stays : (file : List ℕ) (s last : CardState) (words : List ℕ) → CardPasses file s words last → HasItsTransfer file s → HasItsTransfer file last
passes_stays file s last words (passed_none only) h = h
passes_stays file s last words (passed_one only next end word rest happens more) h =
    passes_stays file next end rest more (happens_stays file only next word happens h)
