use Rattle.std.specs.Prelude.{ℕ, ◌≡◌, ◌⊎◌, List, [], ◌∷◌, ◌++◌, true, false, map, take, length, Option, Some, None, IsSome}
use Rattle.std.specs.List.{range_with_len}
use Rattle.ds_base.specs.declared.memories.Width.{Width}
use Rattle.ds_base.specs.declared.processors.Proc.{Proc}
use Rattle.ds_base.specs.declared.ticks.Tick.{Tick}
use Rattle.ds_card.specs.CardPorts.{block_words}
use Rattle.ds_card.specs.Cards.{CardState, IsCard, transfer_begun, card_after_event, card_after_read, card_due, card_taken, card_word, card_written, is_busy}

-- THE WORDS OF A TRANSFER, in order, and that its starter takes these and no others.

-- the words of a transfer by the card's command and block, over a cartridge's file
unfoldable pub transfer_words : List ℕ → CardState → List ℕ
transfer_words file s = map (card_word file s.command) (range_with_len 0 (block_words s.romctrl))

-- what may happen to a card, whoever does it, and the word that the starter takes with it, if it does
pub data CardHappens (file : List ℕ) (s : CardState) : Option ℕ → CardState → Type 0 where
  wrote : (proc : Proc) (at : ℕ) (width : Width) (value : ℕ) (now : Tick) → CardHappens file s None (card_written s proc at width value now)
  was_read : (proc : Proc) (at : ℕ) (width : Width) (now : Tick)
      → CardHappens file s (card_taken s proc at width) (card_after_read s proc at width now)
  came : IsSome (card_due s) → CardHappens file s None (card_after_event file s)

abbrev pub and_taken : Option ℕ → List ℕ → List ℕ
and_taken None words = words
and_taken (Some word) words = word ∷ words

-- one after another while a transfer is busy, to at most its end, with the words that are taken, in order
pub data CardGoesOn (file : List ℕ) : CardState → List ℕ → CardState → Type 0 where
  stays_so : (s : CardState) → CardGoesOn file s [] s
  goes_further : (s next last : CardState) (word : Option ℕ) (words : List ℕ)
      → is_busy s ≡ true → CardHappens file s word next → CardGoesOn file next words last → CardGoesOn file s (and_taken word words) last

-- the words that were taken from a transfer's start on are the first of its words, and all of them where it has ended
pub record TakesInOrder (file : List ℕ) (s last : CardState) (words : List ℕ) : Type 0 where
  pub first : words ≡ take (length words) (transfer_words file s)
  pub whole : is_busy last ≡ false → words ≡ transfer_words file s

abbrev pub TransfersInOrder : Type 0
TransfersInOrder =
    (file : List ℕ) (s last : CardState) (words : List ℕ) (proc : Proc) (now : Tick)
    → IsCard s → s.transfer ≡ Some (transfer_begun proc now) → CardGoesOn file s words last → TakesInOrder file s last words

-- ---- whatever follows

-- one after another without an end, with the words that are taken, in order
pub data CardPasses (file : List ℕ) : CardState → List ℕ → CardState → Type 0 where
  passed_none : (s : CardState) → CardPasses file s [] s
  passed_one : (s next last : CardState) (word : Option ℕ) (words : List ℕ)
      → CardHappens file s word next → CardPasses file next words last → CardPasses file s (and_taken word words) last

-- the words that were taken from a transfer's start on are first those of the transfer, up to a state of the card; that is the last one, or the
-- transfer has ended in it
pub record BeginsWithTransfer (file : List ℕ) (s last : CardState) (words : List ℕ) : Type 0 where
  pub middle : CardState
  pub own : List ℕ
  pub others : List ℕ
  pub both : words ≡ own ++ others
  pub takes : TakesInOrder file s middle own
  pub ends : ((others ≡ []) × (middle ≡ last)) ⊎ (is_busy middle ≡ false)

abbrev pub BeginsInOrder : Type 0
BeginsInOrder =
    (file : List ℕ) (s last : CardState) (words : List ℕ) (proc : Proc) (now : Tick)
    → IsCard s → s.transfer ≡ Some (transfer_begun proc now) → CardPasses file s words last → BeginsWithTransfer file s last words
