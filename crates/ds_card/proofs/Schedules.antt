use Rattle.ds_card.proofs.Words.{Nine, Proc, Ready, Seven, Tick, Transfer, Width, aligned_down, block_words, data_port_at}
use Rattle.std.specs.Prelude.{◌==◌, ◌&&◌, not, is_some}
use Rattle.std.proofs.Common.{ℕ, ◌≡◌, ◌+◌, inl, inr, Bool, true, false, true≢false, if◌then◌else◌, List, Option, Some, None, refl, sym, ◌∙◌, ap, subst, arith}
use Rattle.ds_base.proofs.Choices.{both, either, either_by, if_false, if_true, not_true, true_or_false}
use Rattle.ds_base.specs.Schedules.{IsLater, Reschedules}
use Rattle.ds_card.specs.CardPorts.{overwritten, romctrl_at, starts_at}
use Rattle.ds_card.specs.Cards.{CardState, card_after_event, card_after_read, card_due, card_due_for, card_starter, card_taken, card_word, card_written, due_if_started, is_busy, is_last_word, is_starting, is_whole_word, next_due, next_word_after, ports_written, ready_word, same_proc, start_refusal, taken_by, transfer_begun, word_for}
use Rattle.std.proofs.lemmas.Option.{none-some, same_Some}

-- When the card's event comes: what happens leaves that as it was, or makes it later; and what one processor does leaves the transfer that the other
-- started as it is.

-- ---- writes

-- they leave the transfer, but that they may start one where none is busy
ports_leave : (s : CardState) (proc : Proc) (at : ℕ) (width : Width) (value : ℕ) → (ports_written s proc at width value).transfer ≡ s.transfer
ports_leave s Nine at width value = either (λ (c : CardState). c.transfer ≡ s.transfer) (is_busy s) _ _ refl refl
ports_leave s Seven at width value = either (λ (c : CardState). c.transfer ≡ s.transfer) (is_busy s) _ _ refl refl

idle : (t : Option Transfer) → is_some t ≡ false → t ≡ None
idle None h = refl
idle (Some t) h = absurd (true≢false h)

module _ (s : CardState) (proc : Proc) (at : ℕ) (width : Width) (value : ℕ) (now : Tick) (P : Option Transfer → Type 0) where
  pub write_makes : P s.transfer → (s.transfer ≡ None → P (Some (transfer_begun proc now))) → P (card_written s proc at width value now).transfer
  write_makes same begun =
      let down = aligned_down width at in
      let ports = ports_written s proc down width value in
      let left : P ports.transfer = subst P (sym (ports_leave s proc down width value)) same in
      either (λ (c : CardState). P c.transfer) (is_some (start_refusal s at width value)) _ _ same
      (either_by (λ (c : CardState). P c.transfer) (is_starting s down width value) _ _
      (λ starts. begun (idle s.transfer (not_true (is_busy s) (both (not (is_busy s)) (starts_at width down (overwritten romctrl_at s.romctrl width down value)) starts).0)))
      (λ stays. left))

abbrev due_of : Option Transfer → Option Tick
due_of None = None
due_of (Some t) = next_due t.next

due_is : (s : CardState) (t : Option Transfer) → s.transfer ≡ t → card_due s ≡ due_of t
due_is s None h = ap (λ (x : Option Transfer). card_due (let c : CardState = record s { transfer = x } in c)) h
due_is s (Some t) h = ap (λ (x : Option Transfer). card_due (let c : CardState = record s { transfer = x } in c)) h

soon_after : (now : Tick) → IsLater now (next_due (next_word_after now))
soon_after now = omega arith

pub write_schedules : (s : CardState) (proc : Proc) (at : ℕ) (width : Width) (value : ℕ) (now : Tick) → Reschedules now (card_due s) (card_due (card_written s proc at width value now))
write_schedules s proc at width value now =
    let written = card_written s proc at width value now in
    subst (Reschedules now (card_due s)) (sym (due_is written written.transfer refl))
    (write_makes s proc at width value now (λ t. Reschedules now (card_due s) (due_of t)) (inl (sym (due_is s s.transfer refl))) (λ none. inr (soon_after now)))

-- ---- processors

proc_is : (a b : Proc) → same_proc a b ≡ true → a ≡ b
proc_is Nine Nine h = refl
proc_is Seven Seven h = refl
proc_is Nine Seven h = absurd (true≢false (sym h))
proc_is Seven Nine h = absurd (true≢false (sym h))

is_same : (a b : Proc) → b ≡ a → same_proc a b ≡ true
is_same a b e = subst (λ (x : Proc). same_proc a x ≡ true) (sym e) (itself a) where
  itself : (a : Proc) → same_proc a a ≡ true
  itself Nine = refl
  itself Seven = refl

not_same : (a b : Proc) → (b ≡ a → ⊥) → same_proc a b ≡ false
not_same Nine Nine h = absurd (h refl)
not_same Nine Seven h = refl
not_same Seven Nine h = refl
not_same Seven Seven h = absurd (h refl)

-- ---- reads

not_that : (starter : Proc) (other proc : Proc) → same_proc other proc ≡ false → same_proc proc starter ≡ true → same_proc other starter ≡ false
not_that Nine Nine Nine h k = h
not_that Nine Nine Seven h k = absurd (true≢false (sym k))
not_that Nine Seven Nine h k = h
not_that Nine Seven Seven h k = absurd (true≢false (sym k))
not_that Seven Nine Nine h k = absurd (true≢false (sym k))
not_that Seven Nine Seven h k = h
not_that Seven Seven Nine h k = absurd (true≢false (sym k))
not_that Seven Seven Seven h k = h

module _ (s : CardState) (proc : Proc) (at : ℕ) (width : Width) (now : Tick) (P : Option Transfer → Type 0) where
  taken_makes : (t : Option Transfer) → s.transfer ≡ t → P t → P None
      → ((there : Transfer) → t ≡ Some there → same_proc proc there.starter ≡ true → P (Some (record there { taken = there.taken + 1; next = next_word_after now })))
      → (got : Bool) → P (if is_some (if got then word_for proc t else None) then taken_by s t now else s).transfer
  taken_makes t h same none next false = subst P (sym h) same
  taken_makes None h same none next true = subst P (sym h) same
  taken_makes (Some there) h same none next true = elim (true_or_false (same_proc proc there.starter)) [
    | inl own ↦ either (λ (c : CardState). P c.transfer) (is_some (if same_proc proc there.starter then ready_word there.next else None)) _ _
        (either (λ (c : CardState). P c.transfer) (is_last_word s there.taken) _ _ none (next there refl own))
        (subst P (sym h) same)
    | inr others ↦ subst (λ (b : Bool). P (if is_some (if b then ready_word there.next else None) then taken_by s (Some there) now else s).transfer) (sym others) (subst P (sym h) same)
  ]

  pub read_makes : P s.transfer → P None
      → ((there : Transfer) → s.transfer ≡ Some there → same_proc proc there.starter ≡ true → P (Some (record there { taken = there.taken + 1; next = next_word_after now })))
      → P (card_after_read s proc at width now).transfer
  read_makes same none next = taken_makes s.transfer refl same none next (is_whole_word width && (aligned_down width at == data_port_at))

pub read_schedules : (s : CardState) (proc : Proc) (at : ℕ) (width : Width) (now : Tick) → Reschedules now (card_due s) (card_due (card_after_read s proc at width now))
read_schedules s proc at width now =
    let left = card_after_read s proc at width now in
    subst (Reschedules now (card_due s)) (sym (due_is left left.transfer refl))
    (read_makes s proc at width now (λ t. Reschedules now (card_due s) (due_of t)) (inl (sym (due_is s s.transfer refl))) (inr tt) (λ there h own. inr (soon_after now)))

-- ---- its event: then it isn't due

pub event_ends : (file : List ℕ) (s : CardState) → card_due (card_after_event file s) ≡ None
event_ends file s = by_transfer s.transfer refl where
  by_transfer : (t : Option Transfer) → s.transfer ≡ t → card_due (card_after_event file s) ≡ None
  by_transfer None h = ap (λ (x : Option Transfer). card_due (card_after_event file (let c : CardState = record s { transfer = x } in c))) h
  by_transfer (Some t) h =
      ap (λ (x : Option Transfer). card_due (card_after_event file (let c : CardState = record s { transfer = x } in c))) h
      ∙ either (λ (c : CardState). card_due c ≡ None) (block_words s.romctrl == 0) _ _ refl refl

-- ---- the transfer that the other processor started

pub write_leaves_other : (s : CardState) (other proc : Proc) (at : ℕ) (width : Width) (value : ℕ) (now : Tick) → same_proc other proc ≡ false
    → card_due_for other (card_written s proc at width value now) ≡ card_due_for other s
write_leaves_other s other proc at width value now apart =
    write_makes s proc at width value now (λ t. due_if_started other t ≡ due_if_started other s.transfer) refl
    (λ none. if_false (same_proc other proc) (next_due (next_word_after now)) None apart ∙ sym (ap (due_if_started other) none))

pub read_leaves_other : (s : CardState) (other proc : Proc) (at : ℕ) (width : Width) (now : Tick) → same_proc other proc ≡ false
    → card_due_for other (card_after_read s proc at width now) ≡ card_due_for other s
read_leaves_other s other proc at width now apart = by_transfer s.transfer refl where
  by_transfer : (t : Option Transfer) → s.transfer ≡ t → card_due_for other (card_after_read s proc at width now) ≡ card_due_for other s
  by_transfer t h = elim (true_or_false (is_some (card_taken s proc at width))) [
    | inl took ↦ read_makes s proc at width now (λ x. due_if_started other x ≡ due_if_started other s.transfer) refl
        (sym (none_due t h took)) (λ there e own. if_false (same_proc other there.starter) _ None (not_that there.starter other proc apart own) ∙ sym (none_due t h took))
    | inr stays ↦ ap (λ (b : Bool). due_if_started other (if b then taken_by s s.transfer now else s).transfer) stays
  ] where
    none_due : (t : Option Transfer) → s.transfer ≡ t → is_some (card_taken s proc at width) ≡ true → due_if_started other s.transfer ≡ None
    none_due t h took = ap (due_if_started other) h ∙ by_taken t (is_whole_word width && (aligned_down width at == data_port_at)) (ap (λ (x : Option Transfer). is_some (if is_whole_word width && (aligned_down width at == data_port_at) then word_for proc x else None)) (sym h) ∙ took) where
      by_taken : (t : Option Transfer) (c : Bool) → is_some (if c then word_for proc t else None) ≡ true → due_if_started other t ≡ None
      by_taken None c k = refl
      by_taken (Some there) true k = elim (true_or_false (same_proc proc there.starter)) [
        | inl own ↦ if_false (same_proc other there.starter) (next_due there.next) None (not_that there.starter other proc apart own)
        | inr others ↦ absurd (true≢false (sym k ∙ ap (λ (b : Bool). is_some (if b then ready_word there.next else None)) others))
      ]
      by_taken (Some there) false k = absurd (true≢false (sym k))

abbrev put_transfer : CardState → Option Transfer → CardState
put_transfer s t = record s { transfer = t }

pub event_leaves_other : (file : List ℕ) (s : CardState) (other : Proc) → (card_starter s ≡ Some other → ⊥) → card_due_for other (card_after_event file s) ≡ card_due_for other s
event_leaves_other file s other apart = by_transfer s.transfer refl where
  by_transfer : (t : Option Transfer) → s.transfer ≡ t → card_due_for other (card_after_event file s) ≡ card_due_for other s
  by_transfer None h = ap (λ (x : Option Transfer). card_due_for other (card_after_event file (put_transfer s x))) h ∙ sym (ap (due_if_started other) h)
  by_transfer (Some t) h =
      let no : same_proc other t.starter ≡ false = not_same other t.starter (λ e. apart (ap (λ (x : Option Transfer). card_starter (put_transfer s x)) h ∙ ap Some e)) in
      ap (λ (x : Option Transfer). card_due_for other (card_after_event file (put_transfer s x))) h
      ∙ either (λ (c : CardState). card_due_for other c ≡ None) (block_words s.romctrl == 0) (put_transfer s None)
      (put_transfer s (Some (record t { next = Ready (card_word file s.command t.taken) }))) refl (if_false (same_proc other t.starter) None None no)
      ∙ sym (ap (due_if_started other) h ∙ if_false (same_proc other t.starter) (next_due t.next) None no)

-- ---- a transfer that a processor started is due when the card is

pub due_for_starter : (s : CardState) (proc : Proc) → card_starter s ≡ Some proc → card_due_for proc s ≡ card_due s
due_for_starter s proc h = by_transfer s.transfer refl where
  by_transfer : (t : Option Transfer) → s.transfer ≡ t → card_due_for proc s ≡ card_due s
  by_transfer None e = ap (due_if_started proc) e ∙ sym (due_is s None e)
  by_transfer (Some t) e =
      let starter : ◌≡◌ {A = Option Proc} (Some t.starter) (Some proc) = sym (ap (λ (x : Option Transfer). card_starter (let c : CardState = record s { transfer = x } in c)) e) ∙ h in
      ap (due_if_started proc) e ∙ if_true (same_proc proc t.starter) (next_due t.next) None (is_same proc t.starter (same_Some t.starter proc starter)) ∙ sym (due_is s (Some t) e)

pub starter_of_due : (s : CardState) (proc : Proc) (at : Tick) → card_due_for proc s ≡ Some at → card_starter s ≡ Some proc
starter_of_due s proc at h = by_transfer s.transfer refl where
  by_transfer : (t : Option Transfer) → s.transfer ≡ t → card_starter s ≡ Some proc
  by_transfer None e = absurd (none-some at (sym (ap (due_if_started proc) e) ∙ h))
  by_transfer (Some t) e = elim (true_or_false (same_proc proc t.starter)) [
    | inl same ↦ ap (λ (x : Option Transfer). card_starter (let c : CardState = record s { transfer = x } in c)) e ∙ ap Some (sym (proc_is proc t.starter same))
    | inr other ↦ absurd (none-some at (sym (ap (due_if_started proc) e ∙ if_false (same_proc proc t.starter) (next_due t.next) None other) ∙ h))
  ]
