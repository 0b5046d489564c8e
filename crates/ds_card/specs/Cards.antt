use Rattle.std.specs.Prelude.{ℕ, ◌≡◌, ◌⊎◌, ◌<◌, ◌+◌, ◌-◌, ◌*◌, ◌%◌, ◌==◌, ◌&&◌, ◌||◌, not, nat_lt, if◌then◌else◌, Bool, true, false, List, length, replicate, slice_index_or, Option, Some, None, is_some, option_and_then, option_map, unwrap_or}
use Rattle.ds_base.specs.Bits.{bit}
use Rattle.ds_base.specs.Interrupts.{interrupt_bit}
use Rattle.ds_base.specs.Numbers.{aligned_down, is_within, number_at, value_by}
use Rattle.ds_base.specs.Processors.{raised_at}
use Rattle.ds_base.specs.declared.interrupts.Interrupt.TheVariants as interrupts
use Rattle.ds_base.specs.declared.left_out.LeftKind.TheVariants as kinds
use Rattle.ds_base.specs.declared.left_out.Stop.{Stop}
use Rattle.ds_base.specs.declared.memories.Width.{Width}
use Rattle.ds_base.specs.declared.memories.Width.TheVariants.{Half, Word}
use Rattle.ds_base.specs.declared.processors.Proc.{Proc}
use Rattle.ds_base.specs.declared.processors.Proc.TheVariants.{Nine, Seven}
use Rattle.ds_base.specs.declared.processors.Raised.{Raised}
use Rattle.ds_base.specs.declared.ticks.Tick.{Tick}
use Rattle.ds_card.specs.CardPorts.{auxspicnt_at, block_words, command_at, data_port_at, kept_auxspicnt, kept_romctrl, overwritten, romctrl_at, shown_romctrl, starts_at}
use Rattle.ds_card.specs.declared.cards.NextWord.{NextWord}
use Rattle.ds_card.specs.declared.cards.NextWord.TheVariants.{Due, Ready}
use Rattle.ds_card.specs.declared.cards.Transfer.{Transfer}

-- The card: its ports as they are kept, and the transfer that is busy (GBATEK, "DS Cartridge I/O Ports" and "DS Cartridge Protocol").
pub record CardState : Type 0 where
  -- the two bytes of AUXSPICNT, of which each processor has its own (our choice)
  pub nine : List ℕ
  pub seven : List ℕ
  -- the four bytes of ROMCTRL, without the bits that show how a transfer stands; one register for both processors (our choice)
  pub romctrl : List ℕ
  -- the eight command bytes, in the order in which they are sent
  pub command : List ℕ
  -- the transfer, while one is busy
  pub transfer : Option Transfer

-- all is 0 at boot (our choice)
abbrev pub card_at_boot : CardState
card_at_boot = record { nine = replicate 2 0; seven = replicate 2 0; romctrl = replicate 4 0; command = replicate 8 0; transfer = None }

abbrev pub is_busy : CardState → Bool
is_busy s = is_some s.transfer

abbrev pub auxspicnt_of : CardState → Proc → List ℕ
auxspicnt_of s Nine = s.nine
auxspicnt_of s Seven = s.seven

abbrev pub with_auxspicnt : CardState → Proc → List ℕ → CardState
with_auxspicnt s Nine port = record s { nine = port }
with_auxspicnt s Seven port = record s { seven = port }

-- ---- the words that it gives

-- the commands that are there: B7h reads the file, B8h the card's identity (GBATEK, "DS Cartridge Protocol"); others are left out
abbrev pub is_known : ℕ → Bool
is_known first = (first == 0xB7) || (first == 0xB8)

-- the identity of every card (our choice: a made one of 16 MBytes)
abbrev pub card_identity : ℕ
card_identity = 0xFC2

-- the address that a command asks for, highest byte first
abbrev pub asked_at : List ℕ → ℕ
asked_at command =
    ((slice_index_or command 1 0 * 256 + slice_index_or command 2 0) * 256 + slice_index_or command 3 0) * 256 + slice_index_or command 4 0

-- the file's first 8000h bytes aren't given: below, 200h bytes from there on stand in their place (GBATEK, "DS Cartridge Protocol", B7h)
abbrev pub given_from : ℕ → ℕ
given_from asked = if nat_lt asked 0x8000 then 0x8000 + asked % 0x200 else asked

-- the word of a number, from 0 on, that a command asks for; past the file's end bytes are 0, and pages have no end (our choice)
abbrev pub card_word : List ℕ → List ℕ → ℕ → ℕ
card_word file command number =
    if slice_index_or command 0 0 == 0xB8 then card_identity
    else value_by Word (λ place. slice_index_or file place 0) (given_from (asked_at command) + 4 * number)

-- ---- what is written

-- a word is ready so many ticks after the start, or after the word before it was taken (our choice)
abbrev pub word_ticks : ℕ
word_ticks = 40

abbrev pub next_word_after : Tick → NextWord
next_word_after now = Due (record { 0 = now.0 + word_ticks })

-- the ports after a write. ROMCTRL and the command are let be while a transfer is busy (our choice).
abbrev pub ports_written : CardState → Proc → ℕ → Width → ℕ → CardState
ports_written s proc at width value =
    let own = with_auxspicnt s proc (kept_auxspicnt (overwritten auxspicnt_at (auxspicnt_of s proc) width at value)) in
    if is_busy s then own
    else record own {
      romctrl = kept_romctrl (overwritten romctrl_at s.romctrl width at value);
      command = overwritten command_at s.command width at value;
    }

-- a write starts a transfer for the writer where none is busy, after the whole write
abbrev pub is_starting : CardState → ℕ → Width → ℕ → Bool
is_starting s at width value = not (is_busy s) && starts_at width at (overwritten romctrl_at s.romctrl width at value)

-- a start with another command is refused; what is told is ROMCTRL as it was to be written
abbrev pub start_refusal_at : CardState → ℕ → Width → ℕ → Option Stop
start_refusal_at s at width value =
    if is_starting s at width value && not (is_known (slice_index_or s.command 0 0))
    then Some (record { kind = kinds.CardTransfer; value = number_at Word (overwritten romctrl_at s.romctrl width at value) 0 })
    else None

abbrev pub start_refusal : CardState → ℕ → Width → ℕ → Option Stop
start_refusal s at width value = start_refusal_at s (aligned_down width at) width value

abbrev pub transfer_begun : Proc → Tick → Transfer
transfer_begun proc now = record { starter = proc; taken = 0; next = next_word_after now }

-- the card after a write that isn't refused, at an aligned offset; a refused one leaves all as it was
abbrev pub card_written_at : CardState → Proc → ℕ → Width → ℕ → Tick → CardState
card_written_at s proc at width value now =
    let ports = ports_written s proc at width value in
    if is_starting s at width value then record ports { transfer = Some (transfer_begun proc now) } else ports

abbrev pub card_written : CardState → Proc → ℕ → Width → ℕ → Tick → CardState
card_written s proc at width value now =
    if is_some (start_refusal s at width value) then s else card_written_at s proc (aligned_down width at) width value now

-- ---- how a transfer goes on

-- the interrupt of a transfer's end is raised on its starter, where its AUXSPICNT bit 14 is set (GBATEK, "AUXSPICNT")
abbrev pub end_interrupt : CardState → Proc → ℕ
end_interrupt s starter = if bit 14 (number_at Half (auxspicnt_of s starter) 0) then interrupt_bit interrupts.CardTransfer else 0

abbrev pub none_raised : Raised
none_raised = record { nine = 0; seven = 0 }

-- two processors are the same one
abbrev pub same_proc : Proc → Proc → Bool
same_proc Nine Nine = true
same_proc Seven Seven = true
same_proc proc other = false

-- when its event comes: where a transfer is busy and no word is ready
abbrev pub next_due : NextWord → Option Tick
next_due (Due tick) = Some tick
next_due (Ready word) = None

abbrev pub card_due : CardState → Option Tick
card_due s = option_and_then (λ (t : Transfer). next_due t.next) s.transfer

abbrev pub card_starter : CardState → Option Proc
card_starter s = option_map (λ (t : Transfer). t.starter) s.transfer

-- the same, of a transfer that a processor started
abbrev pub due_if_started : Proc → Option Transfer → Option Tick
due_if_started proc None = None
due_if_started proc (Some t) = if same_proc proc t.starter then next_due t.next else None

abbrev pub card_due_for : Proc → CardState → Option Tick
card_due_for proc s = due_if_started proc s.transfer

-- its event: the next word becomes ready, or a transfer without words ends
abbrev pub event_by : List ℕ → CardState → Option Transfer → CardState
event_by file s None = s
event_by file s (Some t) =
    if block_words s.romctrl == 0 then record s { transfer = None }
    else record s { transfer = Some (record t { next = Ready (card_word file s.command t.taken) }) }

abbrev pub card_after_event : List ℕ → CardState → CardState
card_after_event file s = event_by file s s.transfer

-- whether it makes a word ready, for which the starter's DMA waits
abbrev pub event_readies : CardState → Bool
event_readies s = not (block_words s.romctrl == 0)

abbrev pub ended_on : CardState → Option Transfer → Raised
ended_on s transfer = unwrap_or (option_map (λ (t : Transfer). raised_at t.starter (end_interrupt s t.starter)) transfer) none_raised

abbrev pub event_raised : CardState → Raised
event_raised s = if event_readies s then none_raised else ended_on s s.transfer

-- ---- what is read

-- the word that a processor's read of the data port takes: whole words alone, by the starter, where one is ready
abbrev pub ready_word : NextWord → Option ℕ
ready_word (Due tick) = None
ready_word (Ready word) = Some word

abbrev pub word_for : Proc → Option Transfer → Option ℕ
word_for proc None = None
word_for proc (Some t) = if same_proc proc t.starter then ready_word t.next else None

abbrev pub is_whole_word : Width → Bool
is_whole_word Word = true
is_whole_word other = false

abbrev pub card_taken : CardState → Proc → ℕ → Width → Option ℕ
card_taken s proc at width = if is_whole_word width && (aligned_down width at == data_port_at) then word_for proc s.transfer else None

abbrev pub is_ready : Option Transfer → Bool
is_ready transfer = is_some (option_and_then (λ (t : Transfer). ready_word t.next) transfer)

-- the bytes of its ports, where ROMCTRL's are these; the data port alone has none
abbrev pub port_byte_of : List ℕ → CardState → Proc → ℕ → ℕ
port_byte_of romctrl s proc place =
    if is_within auxspicnt_at 2 place then slice_index_or (auxspicnt_of s proc) (place - auxspicnt_at) 0
    else if is_within romctrl_at 4 place then slice_index_or romctrl (place - romctrl_at) 0
    else if is_within command_at 8 place then slice_index_or s.command (place - command_at) 0
    else 0

-- what they show, and what a write leaves in those of a register's bytes that it doesn't cover: there ROMCTRL is without the bits that show how a
-- transfer stands
abbrev pub card_byte : CardState → Proc → ℕ → ℕ
card_byte s proc place = port_byte_of (shown_romctrl s.romctrl (is_ready s.transfer) (is_busy s)) s proc place

abbrev pub card_kept : CardState → Proc → ℕ → Width → ℕ
card_kept s proc at width = value_by width (port_byte_of s.romctrl s proc) (aligned_down width at)

abbrev pub card_value : CardState → Proc → ℕ → Width → ℕ
card_value s proc at width = unwrap_or (card_taken s proc at width) (value_by width (card_byte s proc) (aligned_down width at))

-- a word is taken: the next one is on its way, or the transfer ends with the last
abbrev pub is_last_word : CardState → ℕ → Bool
is_last_word s taken = taken + 1 == block_words s.romctrl

abbrev pub taken_by : CardState → Option Transfer → Tick → CardState
taken_by s None now = s
taken_by s (Some t) now =
    if is_last_word s t.taken then record s { transfer = None }
    else record s { transfer = Some (record t { taken = t.taken + 1; next = next_word_after now }) }

abbrev pub card_after_read : CardState → Proc → ℕ → Width → Tick → CardState
card_after_read s proc at width now = if is_some (card_taken s proc at width) then taken_by s s.transfer now else s

abbrev pub last_raised : CardState → Option Transfer → Raised
last_raised s None = none_raised
last_raised s (Some t) = if is_last_word s t.taken then ended_on s (Some t) else none_raised

abbrev pub read_raised : CardState → Proc → ℕ → Width → Raised
read_raised s proc at width = if is_some (card_taken s proc at width) then last_raised s s.transfer else none_raised

-- ---- what holds of it at every time

-- a transfer's command is known, and a word is still to be taken; where it has no words none is ready
abbrev pub IsUnderWay : CardState → Option Transfer → Type 0
IsUnderWay s None = Unit {0}
IsUnderWay s (Some t) =
    (is_known (slice_index_or s.command 0 0) ≡ true)
    × ((t.taken < block_words s.romctrl) ⊎ ((block_words s.romctrl ≡ 0) × (t.taken ≡ 0) × (ready_word t.next ≡ None)))

-- the bits that aren't kept are 0
pub record IsCard (s : CardState) : Type 0 where
  pub romctrl : length s.romctrl ≡ 4
  pub command : length s.command ≡ 8
  pub ready_bit : slice_index_or s.romctrl 2 0 < 128
  pub busy_bit : slice_index_or s.romctrl 3 0 < 128
  pub transfer : IsUnderWay s s.transfer
