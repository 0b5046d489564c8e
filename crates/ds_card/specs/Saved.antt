use Rattle.std.specs.Prelude.{ℕ, ◌≡◌, ◌≤◌, ◌^◌, ◌%◌, ◌==◌, ◌&&◌, ◌||◌, not, nat_lt, if◌then◌else◌, Bool, true, List, length, slice_index_or, Option, Some, None, is_some, IfSome}
use Rattle.ds_base.specs.Schedules.{due_number}
use Rattle.ds_base.specs.declared.processors.Proc.{Proc}
use Rattle.ds_base.specs.declared.processors.Proc.TheVariants.{Nine, Seven}
use Rattle.ds_card.specs.CardPorts.{block_words}
use Rattle.ds_card.specs.Cards.{CardState, IsCard, card_due, card_starter, card_word, is_known, ready_word}
use Rattle.ds_card.specs.TransferLaws.{CardHappens}
use Rattle.ds_card.specs.declared.cards.NextWord.{NextWord}
use Rattle.ds_card.specs.declared.cards.NextWord.TheVariants.{Due, Ready}
use Rattle.ds_card.specs.declared.cards.Transfer.{Transfer}
use Rattle.ds_state.specs.Formats.{Format, number_code, tick, array, done, ◌>>=◌, one_field, any, soon}
use Rattle.ds_state.specs.FormatLaws.{OneSpelling, RoundTrips}

-- The card in bytes (our choice of form): its registers' bytes as they are kept, and the transfer. A word that is ready has no bytes of its own:
-- the cartridge's file has it.

-- bits 13 to 15 alone, and all but bits 23 and 31
abbrev pub keeps_auxspicnt : ℕ → List ℕ → Bool
keeps_auxspicnt at port = (slice_index_or port 0 0 == 0) && (slice_index_or port 1 0 % 32 == 0)

abbrev pub keeps_romctrl : ℕ → List ℕ → Bool
keeps_romctrl at port = nat_lt (slice_index_or port 2 0) 128 && nat_lt (slice_index_or port 3 0) 128

-- who started the transfer: 0 where none is busy
abbrev pub starter_number : Option Proc → ℕ
starter_number None = 0
starter_number (Some Nine) = 1
starter_number (Some Seven) = 2

abbrev pub numbered_starter : ℕ → Option Proc
numbered_starter number = if number == 1 then Some Nine else if number == 2 then Some Seven else None

abbrev pub taken_of : Option Transfer → ℕ
taken_of None = 0
taken_of (Some t) = t.taken

-- a transfer that is busy has a known command
abbrev pub starts_by : List ℕ → ℕ → ℕ → Bool
starts_by command at starter = (starter == 0) || (nat_lt starter 3 && is_known (slice_index_or command 0 0))

-- fewer words were taken than its block has, where it has any; none without a transfer
abbrev pub takes_by : ℕ → ℕ → ℕ → ℕ → Bool
takes_by words starter at taken = if starter == 0 then taken == 0 else (words == 0) || nat_lt taken words

-- a transfer is due where no word is ready. One whose block has no words has none ready, and none was taken
abbrev pub due_where : ℕ → ℕ → ℕ → Option ℕ → Bool
due_where words starter taken due = if starter == 0 then not (is_some due) else not (words == 0) || ((taken == 0) && is_some due)

abbrev pub card_due_by : ℕ → ℕ → ℕ → ℕ → Option ℕ → Bool
card_due_by words starter taken at due = soon at due && due_where words starter taken due

-- the next word: at its tick, or that of the file
abbrev pub next_numbered : ℕ → Option ℕ → NextWord
next_numbered word None = Ready word
next_numbered word (Some due) = Due (record { 0 = due })

abbrev pub transfer_numbered : Option Proc → ℕ → ℕ → Option ℕ → Option Transfer
transfer_numbered None taken word due = None
transfer_numbered (Some starter) taken word due = Some (record { starter = starter; taken = taken; next = next_numbered word due })

unfoldable pub card_format : List ℕ → Format CardState CardState
card_format file = do
  nine ← one_field (array 2) (λ c. c.nine) keeps_auxspicnt
  seven ← one_field (array 2) (λ c. c.seven) keeps_auxspicnt
  romctrl ← one_field (array 4) (λ c. c.romctrl) keeps_romctrl
  command ← one_field (array 8) (λ c. c.command) any
  starter ← one_field (number_code 1) (λ c. starter_number (card_starter c)) (starts_by command)
  taken ← one_field (number_code 4) (λ c. taken_of c.transfer) (takes_by (block_words romctrl) starter)
  due ← one_field tick (λ c. due_number (card_due c)) (card_due_by (block_words romctrl) starter taken)
  done (record {
    nine = nine;
    seven = seven;
    romctrl = romctrl;
    command = command;
    transfer = transfer_numbered (numbered_starter starter) taken (card_word file command taken) due;
  })

-- an AUXSPICNT as it is kept
pub record KeepsAuxspicnt (port : List ℕ) : Type 0 where
  pub long : length port ≡ 2
  pub kept : keeps_auxspicnt 0 port ≡ true

-- a word that is ready is the file's, of the number of words that were taken
abbrev pub HasItsWord : List ℕ → CardState → Option Transfer → Type 0
HasItsWord file s None = Unit {0}
HasItsWord file s (Some t) = IfSome (ready_word t.next) (λ word. word ≡ card_word file s.command t.taken)

-- the card with its file at a tick
pub record IsCardAt (file : List ℕ) (at : ℕ) (s : CardState) : Type 0 where
  pub card : IsCard s
  pub nine : KeepsAuxspicnt s.nine
  pub seven : KeepsAuxspicnt s.seven
  pub word : HasItsWord file s s.transfer
  pub due : soon at (due_number (card_due s)) ≡ true

-- its bytes are read as it was, and bytes that are read are its own; and whatever happens to a card, its word stays the file's
pub record CardsAreSaved : Type 0 where
  pub back : (file : List ℕ) (at : ℕ) (s : CardState) → at ≤ 2 ^ 56 → IsCardAt file at s → RoundTrips (card_format file) at s
  pub spelling : (file : List ℕ) (at : ℕ) → OneSpelling (card_format file) at
  pub stays : (file : List ℕ) (s next : CardState) (got : Option ℕ) → IsCard s → HasItsWord file s s.transfer → CardHappens file s got next
      → HasItsWord file next next.transfer
