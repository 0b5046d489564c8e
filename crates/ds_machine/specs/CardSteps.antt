use Rattle.std.specs.Prelude.{ℕ, ◌≡◌, ◌%◌, ◌^◌, false, List, [], ◌∷◌, ◌++◌, Option, Some, None}
use Rattle.ds_base.specs.Accesses.{Access, Fetch, MemoryMachine, Read, Write}
use Rattle.ds_base.specs.Numbers.{aligned_down}
use Rattle.ds_base.specs.declared.left_out.Stop.{Stop}
use Rattle.ds_base.specs.declared.memories.Width.{Width}
use Rattle.ds_base.specs.declared.memories.Width.TheVariants.{Word}
use Rattle.ds_base.specs.declared.processors.Proc.{Proc}
use Rattle.ds_base.specs.declared.processors.Proc.TheVariants.{Nine, Seven}
use Rattle.ds_base.specs.declared.ticks.Tick.{Tick}
use Rattle.ds_card.specs.CardPorts.{data_port_at}
use Rattle.ds_card.specs.Cards.{CardState, IsCard, card_taken, transfer_begun}
use Rattle.ds_card.specs.TransferLaws.{BeginsWithTransfer, CardPasses, and_taken}
use Rattle.cp15_tcm.specs.TightlyCoupled.{tcm_of}
use Rattle.cp15_tcm.specs.declared.answers.Tcm.{Tcm}
use Rattle.cp15_tcm.specs.declared.answers.Tcm.TheVariants.{Past}
use Rattle.ds_map.specs.Accesses.{map_value}
use Rattle.ds_map.specs.Maps.{MapState}
use Rattle.ds_map.specs.Moves.{next_unit}
use Rattle.ds_map.specs.Views.{NineReach, SevenReach, nine_memory, seven_memory}
use Rattle.ds_places.specs.AddressTables.{place_of}
use Rattle.ds_places.specs.declared.kinds.Place.{Place}
use Rattle.ds_places.specs.declared.kinds.Place.TheVariants.{Port}
use Rattle.ds_ports.specs.Dues.{io_due}
use Rattle.ds_ports.specs.Ports.{whole_in}
use Rattle.ds_ports.specs.RegisterMap.{slot_of}
use Rattle.ds_ports.specs.declared.registers.Register.{Register}
use Rattle.ds_ports.specs.declared.registers.Register.TheVariants.{CardData}
use Rattle.ds_ports.specs.declared.registers.Slot.{Slot}
use Rattle.ds_runs.specs.Actors.{actor_of}
use Rattle.ds_runs.specs.Runs.{At, Makes, Runs}
use Rattle.ds_runs.specs.declared.actors.Actor as actor
use Rattle.ds_runs.specs.declared.actors.Actor.TheVariants.{Dma, Processor}
use Rattle.ds_machine.specs.PrivateSides.{nine_side, seven_side}
use Rattle.ds_machine.specs.Reference.{Shown, reference, reference_step}
use Rattle.ds_machine.specs.Rooms.{step_accesses}
use Rattle.ds_machine.specs.States.{MachineState}
use Rattle.ds_machine.specs.Statuses.{left_by}
use Rattle.ds_machine.specs.Steps.{line_of, map_of, nine_reach, seven_reach, tick_of}

-- THE WORDS OF THE CARD, ON THE MACHINE. Each step of the machine passes the card as the card's own law says, and takes from it the words that its
-- loads and its DMA unit read; so from a transfer's start on those are the transfer's words, in order.

-- ---- what an access takes

-- by the register that is read: the card's data alone gives its words
abbrev pub register_word : Proc → CardState → Register → Option ℕ
register_word proc card CardData = card_taken card proc data_port_at Word
register_word proc card _ = None

abbrev pub slot_word : Proc → CardState → Option Slot → Option ℕ
slot_word proc card None = None
slot_word proc card (Some slot) = register_word proc card slot.register

-- by the place: a port, of which a whole word is read; the register map says which register stands there
abbrev pub place_word : Proc → Place → MapState → Width → Option ℕ
place_word proc (Port at) m Word = slot_word proc m.io.card (whole_in Word (slot_of proc (aligned_down Word at)))
place_word proc _ m width = None

-- by the address: past the tightly coupled memories, which give none of the card's words, and then by the memory map
unfoldable pub map_word : Proc → MapState → ℕ → Width → Option ℕ
map_word proc m at width = place_word proc (place_of proc m.io.wramcnt at) m width

abbrev pub tcm_word : Tcm → NineReach → ℕ → Width → Option ℕ
tcm_word Past r at width = map_word Nine r.map at width
tcm_word _ r at width = None

abbrev pub nine_word : NineReach → ℕ → Width → Option ℕ
nine_word r at width = tcm_word (tcm_of r.cp15 at false false) r at width

abbrev pub seven_word : SevenReach → ℕ → Width → Option ℕ
seven_word r at width = map_word Seven r.map at width

-- ---- what a step takes

-- a refused write ends the accesses, and nothing is taken after it
abbrev pub words_unless : Option Stop → List ℕ → List ℕ
words_unless None words = words
words_unless (Some stop) words = []

-- the words that the reads take which are among accesses that are made one after another (`perform`)
abbrev pub words_along : {S : Type 0} → MemoryMachine S → (S → ℕ → Width → Option ℕ) → S → List Access → List ℕ
words_along memory word s [] = []
words_along memory word s (Fetch at width ∷ rest) = words_along memory word (memory.fetch_next s at width) rest
words_along memory word s (Read at width ∷ rest) = and_taken (word s at width) (words_along memory word (memory.read_next s at width) rest)
words_along memory word s (Write at width value ∷ rest) =
    words_unless (memory.refusal s at width value) (words_along memory word (memory.write_next s at width value) rest)

-- a DMA channel that is due takes what its next unit reads, also where the unit's write is refused
abbrev pub unit_words : Proc → Option Tick → MachineState → List ℕ
unit_words proc None s = []
unit_words proc (Some now) s = let unit = next_unit s.io proc in and_taken (map_word proc (map_of proc s) unit.from unit.width) []

-- a processor's step takes what its instruction's accesses read; all other actors take nothing
abbrev pub words_by : actor.Actor → MachineState → List ℕ
words_by (Processor Nine) s =
    let r = nine_reach (tick_of s.nine.processor) s in
    words_along nine_memory nine_word r (step_accesses nine_memory nine_side (line_of s Nine) s.nine.processor.registers r)
words_by (Processor Seven) s =
    let r = seven_reach (tick_of s.seven.processor) s in
    words_along seven_memory seven_word r (step_accesses seven_memory seven_side (line_of s Seven) s.seven.processor.registers r)
words_by (Dma proc channel) s = unit_words proc (io_due (Dma proc channel) s.io) s
words_by _ s = []

-- ---- the laws

-- a step of any actor, taken or not, passes the card with the words that it takes: nothing else happens to the card than its law tells
abbrev pub StepsPassCard : Type 0
StepsPassCard =
    (rank : ℕ) (s : MachineState) → CardPasses s.file s.io.card (words_by (actor_of rank) s) (left_by (reference_step rank s)).io.card

-- steps of any actors that are taken one after another, with the words that they take, in order
pub data TakesCardSteps : MachineState → List ℕ → MachineState → Type 0 where
  no_card_steps : (s : MachineState) → TakesCardSteps s [] s
  more_card_steps : (rank : ℕ) (s next last : MachineState) (outs : List Shown) (words : List ℕ)
      → reference_step rank s ≡ Makes next outs → TakesCardSteps next words last → TakesCardSteps s (words_by (actor_of rank) s ++ words) last

-- a run that isn't stopped is such steps
abbrev pub RunsTakeCardSteps : Type 0
RunsTakeCardSteps =
    (limit : ℕ) (start end : MachineState) (outs : List Shown)
    → Runs reference limit (At end) start outs → (words : List ℕ) × TakesCardSteps start words end

-- from a transfer's start on they take first the words of the transfer, in order, up to where they end or where the transfer does
abbrev pub MachineTakesInOrder : Type 0
MachineTakesInOrder =
    (s last : MachineState) (words : List ℕ) (proc : Proc) (now : Tick)
    → IsCard s.io.card → s.io.card.transfer ≡ Some (transfer_begun proc now) → TakesCardSteps s words last
    → BeginsWithTransfer s.file s.io.card last.io.card words

-- a word that is taken is the value that its read gets, as a word: so a DMA unit moves it
abbrev pub ReadsGiveWords : Type 0
ReadsGiveWords =
    (proc : Proc) (now : Tick) (m : MapState) (at word : ℕ) (width : Width)
    → map_word proc m at width ≡ Some word → map_value proc now m at width ≡ word % 2 ^ 32

-- and so each processor loads it
pub record LoadsGiveWords : Type 0 where
  pub nine : (r : NineReach) (at word : ℕ) (width : Width) → nine_word r at width ≡ Some word → nine_memory.read_value r at width ≡ word % 2 ^ 32
  pub seven : (r : SevenReach) (at word : ℕ) (width : Width) → seven_word r at width ≡ Some word → seven_memory.read_value r at width ≡ word % 2 ^ 32
