use Rattle.ds_card.proofs.Words.{Nine, Proc, Ready, Seven, Tick, Transfer, Width, aligned_down, block_words, came, data_port_at, was_read, wrote}
use Rattle.std.proofs.Common.{ℕ, suc, ◌≡◌, ◌⊎◌, inl, inr, ◌<◌, ◌≤◌, ◌+◌, ◌==◌, Bool, true, false, true≢false, if◌then◌else◌, List, [], ◌∷◌, map, length, Option, Some, None, refl, sym, ◌∙◌, ap, subst, arith}
use Rattle.std.specs.List.{range_with_len}
use Rattle.std.specs.Prelude.{◌&&◌, is_some}
use Rattle.std.proofs.lemmas.List.FromFn.{take-map-range_with_len}
use Rattle.ds_base.proofs.Choices.{equal, unequal}
use Rattle.ds_card.specs.Cards.{CardState, IsCard, IsUnderWay, transfer_begun, card_after_read, card_taken, card_word, card_written, next_word_after, is_busy, is_last_word, is_whole_word, ready_word, same_proc, taken_by}
use Rattle.ds_card.specs.TransferLaws.{CardGoesOn, CardHappens, TransfersInOrder, and_taken, transfer_words}
use Rattle.ds_card.specs.TransferLaws.CardGoesOn.{stays_so, goes_further}

-- The words of a transfer are taken in order, each once.

-- what stands of a transfer of `count` words over `word`, of which `taken` were taken
pub record Stands (word : ℕ → ℕ) (count : ℕ) (t : Transfer) : Type 0 where
  pub left : (t.taken < count) ⊎ ((count ≡ 0) × (t.taken ≡ 0) × (ready_word t.next ≡ None))
  pub ready : (w : ℕ) → ready_word t.next ≡ Some w → w ≡ word t.taken

-- a state of a card in which such a transfer is busy, or has ended after all its words
abbrev pub StandsIn : (ℕ → ℕ) → ℕ → ℕ → Option Transfer → Type 0
StandsIn word count taken None = taken ≡ count
StandsIn word count taken (Some t) = Stands word count t × (t.taken ≡ taken)

pub record Follows (file : List ℕ) (s next : CardState) (taken : ℕ) : Type 0 where
  pub romctrl : next.romctrl ≡ s.romctrl
  pub command : next.command ≡ s.command
  pub stands : StandsIn (card_word file s.command) (block_words s.romctrl) taken next.transfer

-- what one happening gives: nothing, or the next word
abbrev pub Gives : (ℕ → ℕ) → ℕ → ℕ → Option ℕ → Type 0
Gives word taken after None = after ≡ taken
Gives word taken after (Some w) = (after ≡ suc taken) × (w ≡ word taken)

abbrev pub Happened : (file : List ℕ) (s next : CardState) (taken : ℕ) (got : Option ℕ) → Type 0
Happened file s next taken got = (after : ℕ) × Gives (card_word file s.command) taken after got × Follows file s next after

-- ---- a write

write_follows : (file : List ℕ) (s : CardState) (t : Transfer) (proc : Proc) (at : ℕ) (width : Width) (value : ℕ) (now : Tick)
    → Stands (card_word file s.command) (block_words s.romctrl) t → Follows file s (card_written (record s { transfer = Some t }) proc at width value now) t.taken
write_follows file s t Nine at width value now st = record { romctrl = refl; command = refl; stands = (st, refl) }
write_follows file s t Seven at width value now st = record { romctrl = refl; command = refl; stands = (st, refl) }

-- ---- a read

none-some : {A : Type 0} (w : ℕ) → ◌≡◌ {A = Option ℕ} None (Some w) → A
none-some w h = absurd (cc)

was_ready : (b c : Bool) (ready : Option ℕ) (w : ℕ) → (if b then (if c then ready else None) else None) ≡ Some w → ready ≡ Some w
was_ready true true ready w h = h
was_ready true false ready w h = none-some w h
was_ready false c ready w h = none-some w h

some_left : (word : ℕ → ℕ) (count : ℕ) (t : Transfer) (w : ℕ) → Stands word count t → ready_word t.next ≡ Some w → t.taken < count
some_left word count t w st h = elim st.left [ inl lt ↦ lt | inr none ↦ none-some w (sym none.2 ∙ h) ]

next_stands : (word : ℕ → ℕ) (count : ℕ) (t : Transfer) (now : Tick) → t.taken < count → (t.taken + 1 == count) ≡ false
    → Stands word count (record t { taken = t.taken + 1; next = next_word_after now })
next_stands word count t now lt h = record { left = inl (let ne = unequal (t.taken + 1) count h in grind (arith, lt, ne)); ready = λ w e. none-some w e }

take_follows : (file : List ℕ) (s : CardState) (t : Transfer) (now : Tick) (last : Bool)
    → is_last_word s t.taken ≡ last → t.taken < block_words s.romctrl
    → Follows file s (if last then record s { transfer = None } else record s { transfer = Some (record t { taken = t.taken + 1; next = next_word_after now }) }) (suc t.taken)
take_follows file s t now true h lt = record { romctrl = refl; command = refl; stands = (let e = equal (t.taken + 1) (block_words s.romctrl) h in omega (arith, e)) }
take_follows file s t now false h lt =
    record { romctrl = refl; command = refl; stands = (next_stands (card_word file s.command) (block_words s.romctrl) t now lt h, omega arith) }

read_follows : (file : List ℕ) (s : CardState) (t : Transfer) (proc : Proc) (at : ℕ) (width : Width) (now : Tick)
    → Stands (card_word file s.command) (block_words s.romctrl) t
    → Happened file s (card_after_read (record s { transfer = Some t }) proc at width now) t.taken (card_taken (record s { transfer = Some t }) proc at width)
read_follows file s t proc at width now st = by_taken (card_taken (record s { transfer = Some t }) proc at width) refl where
  by_taken : (got : Option ℕ) → card_taken (record s { transfer = Some t }) proc at width ≡ got
      → Happened file s (if is_some got then taken_by (record s { transfer = Some t }) (Some t) now else record s { transfer = Some t }) t.taken got
  by_taken None e = (t.taken, refl, record { romctrl = refl; command = refl; stands = (st, refl) })
  by_taken (Some w) e =
      let is : ready_word t.next ≡ Some w = was_ready (is_whole_word width && (aligned_down width at == data_port_at)) (same_proc proc t.starter) (ready_word t.next) w e in
      (suc t.taken, (refl, st.ready w is), take_follows file s t now (is_last_word s t.taken) refl (some_left (card_word file s.command) (block_words s.romctrl) t w st is))

-- ---- its event

ready_stands : (word : ℕ → ℕ) (count : ℕ) (t : Transfer) → t.taken < count → Stands word count (record t { next = Ready (word t.taken) })
ready_stands word count t lt = record { left = inl lt; ready = λ w e. cc }

event_follows : (file : List ℕ) (s : CardState) (t : Transfer) (none : Bool)
    → (block_words s.romctrl == 0) ≡ none → Stands (card_word file s.command) (block_words s.romctrl) t
    → Follows file s (if none then record s { transfer = None } else record s { transfer = Some (record t { next = Ready (card_word file s.command t.taken) }) }) t.taken
event_follows file s t true h st = record {
  romctrl = refl;
  command = refl;
  stands = (
      let e = equal (block_words s.romctrl) 0 h in
      elim st.left [ inl lt ↦ absurd (omega (arith, lt, e)) | inr none ↦ none.1 ∙ sym none.0 ]);
}
event_follows file s t false h st = record {
  romctrl = refl;
  command = refl;
  stands = (
    ready_stands (card_word file s.command) (block_words s.romctrl) t (
        let ne = unequal (block_words s.romctrl) 0 h in
        elim st.left [ inl lt ↦ lt | inr none ↦ absurd (ne none.0) ]),
    refl,
  );
}

-- ---- one happening, and all

abbrev with_transfer : CardState → Transfer → CardState
with_transfer s t = record s { transfer = Some t }

followed : (file : List ℕ) (s : CardState) (t : Transfer) (next : CardState) (got : Option ℕ)
    → Stands (card_word file s.command) (block_words s.romctrl) t → CardHappens file (with_transfer s t) got next → Happened file (with_transfer s t) next t.taken got
followed file s t next got st (wrote proc at width value now) = (t.taken, refl, write_follows file (with_transfer s t) t proc at width value now st)
followed file s t next got st (was_read proc at width now) = read_follows file (with_transfer s t) t proc at width now st
followed file s t next got st (came due) = (t.taken, refl, event_follows file (with_transfer s t) t (block_words s.romctrl == 0) refl st)

pub one_follows : (file : List ℕ) (s next : CardState) (t : Transfer) (got : Option ℕ)
    → s.transfer ≡ Some t → Stands (card_word file s.command) (block_words s.romctrl) t → CardHappens file s got next → Happened file s next t.taken got
one_follows file s next t got h st =
    subst (λ (x : CardState). CardHappens file x got next → Happened file x next t.taken got)
    (ap (λ (x : Option Transfer). (let y : CardState = record s { transfer = x } in y)) (sym h)) (followed file s t next got st)

-- from a number of words that were taken on, these are taken, as many as there are, and to the end where it has ended
record TakesFrom (word : ℕ → ℕ) (count taken : ℕ) (last : CardState) (words : List ℕ) : Type 0 where
  same : words ≡ map word (range_with_len taken (length words))
  within : taken + length words ≤ count
  whole : is_busy last ≡ false → taken + length words ≡ count

none_follows : (word : ℕ → ℕ) (count taken : ℕ) (s : CardState) (there : Option Transfer)
    → s.transfer ≡ there → StandsIn word count taken there → TakesFrom word count taken s []
none_follows word count taken s None h st = record { same = refl; within = omega (arith, st); whole = λ idle. omega (arith, st) }
none_follows word count taken s (Some t) h st = record {
  same = refl;
  within = (let e = st.1 in elim st.0.left [ inl lt ↦ omega (arith, lt, e) | inr none ↦ (let f = none.0 in let g = none.1 in omega (arith, e, f, g)) ]);
  whole = λ idle. absurd (true≢false (sym (ap (λ (x : Option Transfer). is_some x) h) ∙ idle));
}

one_more : (word : ℕ → ℕ) (count taken after : ℕ) (last : CardState) (got : Option ℕ) (rest : List ℕ)
    → Gives word taken after got → TakesFrom word count after last rest → TakesFrom word count taken last (and_taken got rest)
one_more word count taken after last None rest e more = subst (λ (n : ℕ). TakesFrom word count n last rest) e more
one_more word count taken after last (Some w) rest e more =
    let next : after ≡ taken + 1 = e.0 ∙ omega arith in
    let within = more.within in
    record {
      same = ap (λ (x : ℕ). x ∷ rest) e.1 ∙ ap (λ (xs : List ℕ). word taken ∷ xs) (more.same ∙ ap (λ (n : ℕ). map word (range_with_len n (length rest))) next);
      within = omega (arith, within, next);
      whole = λ idle. (let all = more.whole idle in omega (arith, all, next));
    }

stands_on : (file : List ℕ) (s next : CardState) (taken : ℕ)
    → Follows file s next taken → StandsIn (card_word file next.command) (block_words next.romctrl) taken next.transfer
stands_on file s next taken f =
    subst (λ (c : List ℕ). StandsIn (card_word file c) (block_words next.romctrl) taken next.transfer) (sym f.command)
    (subst (λ (r : List ℕ). StandsIn (card_word file s.command) (block_words r) taken next.transfer) (sym f.romctrl) f.stands)

takes_on : (file : List ℕ) (s next last : CardState) (words : List ℕ) (taken : ℕ) → Follows file s next taken
    → TakesFrom (card_word file next.command) (block_words next.romctrl) taken last words → TakesFrom (card_word file s.command) (block_words s.romctrl) taken last words
takes_on file s next last words taken f takes =
    subst (λ (c : List ℕ). TakesFrom (card_word file c) (block_words s.romctrl) taken last words) f.command
    (subst (λ (r : List ℕ). TakesFrom (card_word file next.command) (block_words r) taken last words) f.romctrl takes)

all_follow : (file : List ℕ) (s last : CardState) (words : List ℕ) (taken : ℕ)
    → StandsIn (card_word file s.command) (block_words s.romctrl) taken s.transfer → CardGoesOn file s words last
    → TakesFrom (card_word file s.command) (block_words s.romctrl) taken last words
all_follow file s last words taken st (stays_so only) = none_follows (card_word file s.command) (block_words s.romctrl) taken s s.transfer refl st
all_follow file s last words taken st (goes_further only next end got rest busy happens more) =
    by_transfer s.transfer refl st (λ after stood. all_follow file next last rest after stood more) where
      by_transfer : (there : Option Transfer) → s.transfer ≡ there → StandsIn (card_word file s.command) (block_words s.romctrl) taken there
          → ((after : ℕ) → StandsIn (card_word file next.command) (block_words next.romctrl) after next.transfer
          → TakesFrom (card_word file next.command) (block_words next.romctrl) after last rest)
          → TakesFrom (card_word file s.command) (block_words s.romctrl) taken last (and_taken got rest)
      by_transfer None h stood on = absurd (true≢false (sym busy ∙ ap (λ (x : Option Transfer). is_some x) h))
      by_transfer (Some t) h stood on =
          let one = one_follows file s next t got h stood.0 happens in
          one_more (card_word file s.command) (block_words s.romctrl) taken one.0 last got rest
          (subst (λ (n : ℕ). Gives (card_word file s.command) n one.0 got) stood.1 one.1)
          (takes_on file s next last rest one.0 one.2 (on one.0 (stands_on file s next one.0 one.2)))

-- from its start on
begun_stands : (s : CardState) (proc : Proc) (now : Tick) (file : List ℕ)
    → IsCard s → s.transfer ≡ Some (transfer_begun proc now) → StandsIn (card_word file s.command) (block_words s.romctrl) 0 s.transfer
begun_stands s proc now file is h =
    subst (λ (x : Option Transfer). StandsIn (card_word file s.command) (block_words s.romctrl) 0 x) (sym h)
    (record { left = (subst (λ (x : Option Transfer). IsUnderWay s x) h is.transfer).1; ready = λ w e. none-some w e }, refl)

pub in_order : TransfersInOrder
unfolding transfer_words
in_order file s last words proc now is h goes =
    let takes = all_follow file s last words 0 (begun_stands s proc now file is h) goes in
    let within = takes.within in
    record {
      first = takes.same ∙ sym (take-map-range_with_len (card_word file s.command) 0 (block_words s.romctrl) (length words) (omega (arith, within)));
      whole = λ idle. (let all : length words ≡ block_words s.romctrl = omega (arith, takes.whole idle) in
          takes.same ∙ ap (λ (n : ℕ). map (card_word file s.command) (range_with_len 0 n)) all);
    }
