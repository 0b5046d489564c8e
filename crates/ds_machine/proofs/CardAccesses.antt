use Rattle.ds_machine.proofs.Words.{Access, Auxspicnt, Byte, CardData, CardHappens, CardPasses, CardState, CardWord, Dtcm, Fetch, Half, IoState}
use Rattle.ds_machine.proofs.Words.{IsSlot, Itcm, List, MapState, MemoryMachine, Nine, NineReach, None, Option, Past, Performed, Place, Proc, Read}
use Rattle.ds_machine.proofs.Words.{Register, Seven, SevenReach, Slot, Some, Stop, Tcm, Tick, Vram, Width, Word, Write, [], after_read_at}
use Rattle.ds_machine.proofs.Words.{after_write, aligned_down, and_taken, are_all, data_port_at, either, false, is_byte_of_nine, map_read}
use Rattle.ds_machine.proofs.Words.{map_written, meaning_of, nine_memory, passed_none, passed_one, perform, place_of, refused_or, seven_memory}
use Rattle.ds_machine.proofs.Words.{slot_of, some_slot, takes_no_bytes, tcm_of, tcm_read, tcm_written, true, vram_written, was_read, write_leaves}
use Rattle.ds_machine.proofs.Words.{written_at, wrote, ℕ, ◌&&◌, ◌++◌, ◌∷◌}
use Rattle.ds_ports.specs.Ports.{port_read, port_refusal, port_written, slot_read, unless_stopped, whole_in}
use Rattle.ds_machine.specs.CardSteps.{map_word, place_word, register_word, slot_word, tcm_word, nine_word, seven_word, words_along, words_unless}
use Rattle.ds_places.specs.declared.kinds.Place.TheVariants as place

-- Each access passes the card as the card's own law says, with the word that it takes; so do accesses that are made one after another.

-- ---- what a card passes through, joined

module _ (file : List ℕ) where
  pub joins : (s middle last : CardState) (xs ys : List ℕ) → CardPasses file s xs middle → CardPasses file middle ys last
      → CardPasses file s (xs ++ ys) last
  joins s middle last xs ys (passed_none only) more = more
  joins s middle last xs ys (passed_one only next end None words happens on) more =
      passed_one s next last None (words ++ ys) happens (joins next middle last words ys on more)
  joins s middle last xs ys (passed_one only next end (Some word) words happens on) more =
      passed_one s next last (Some word) (words ++ ys) happens (joins next middle last words ys on more)

  -- what takes no words may follow
  pub joins_none : (s middle last : CardState) (xs : List ℕ) → CardPasses file s xs middle → CardPasses file middle [] last
      → CardPasses file s xs last
  joins_none s middle last xs (passed_none only) more = more
  joins_none s middle last xs (passed_one only next end word words happens on) more =
      passed_one s next last word words happens (joins_none next middle last words on more)

  pub joins_word : (s middle last : CardState) (word : Option ℕ) (ys : List ℕ) → CardPasses file s (and_taken word []) middle
      → CardPasses file middle ys last → CardPasses file s (and_taken word ys) last
  joins_word s middle last None ys one more = joins s middle last [] ys one more
  joins_word s middle last (Some word) ys one more = joins s middle last (word ∷ []) ys one more

  pub passes_one : (s next : CardState) (word : Option ℕ) → CardHappens file s word next → CardPasses file s (and_taken word []) next
  passes_one s next word happens = passed_one s next next word [] happens (passed_none next)

  -- ---- ports

  -- a write of a register: those of the card's write the card, and all others leave it
  register_writes : (proc : Proc) (now : Tick) (u : IoState) (register : Register) (number word : ℕ)
      → CardPasses file u.card [] (after_write proc now u register number word).card
  register_writes Nine now u Auxspicnt number word = passes_one u.card _ None (wrote Nine number Half word now)
  register_writes Nine now u CardWord number word = passes_one u.card _ None (wrote Nine number Word word now)
  register_writes Nine now u register number word = passed_none u.card
  register_writes Seven now u Auxspicnt number word = passes_one u.card _ None (wrote Seven number Half word now)
  register_writes Seven now u CardWord number word = passes_one u.card _ None (wrote Seven number Word word now)
  register_writes Seven now u register number word = passed_none u.card

  port_writes : (proc : Proc) (now : Tick) (u : IoState) (at : ℕ) (width : Width) (value : ℕ)
      → CardPasses file u.card [] (port_written proc now u at width value).card
  port_writes proc now u at width value =
      write_leaves IsSlot proc now (λ x y. CardPasses file x.card [] y.card) (λ x. passed_none x.card)
      (λ x y z g h. joins x.card y.card z.card [] [] g h)
      (λ x slot word own. register_writes proc now x slot.register slot.number word) u at width value
      (are_all IsSlot proc (some_slot proc) at width)

  -- a read of a register: the card's data gives a word where one is ready for the reader, and all others leave the card
  register_reads : (proc : Proc) (now : Tick) (u : IoState) (register : Register)
      → CardPasses file u.card (and_taken (register_word proc u.card register) []) ((meaning_of register).after_read proc now u).card
  register_reads Nine now u CardData = passes_one u.card _ (register_word Nine u.card CardData) (was_read Nine data_port_at Word now)
  register_reads Nine now u register = passed_none u.card
  register_reads Seven now u CardData = passes_one u.card _ (register_word Seven u.card CardData) (was_read Seven data_port_at Word now)
  register_reads Seven now u register = passed_none u.card

  slot_reads : (proc : Proc) (now : Tick) (u : IoState) (slot : Option Slot)
      → CardPasses file u.card (and_taken (slot_word proc u.card slot) []) (slot_read proc now u slot).card
  slot_reads proc now u None = passed_none u.card
  slot_reads proc now u (Some slot) = register_reads proc now u slot.register

  -- ---- the map

  place_reads : (proc : Proc) (now : Tick) (where_ : Place) (m : MapState) (width : Width)
      → CardPasses file m.io.card (and_taken (place_word proc where_ m width) []) (after_read_at proc now where_ m width).io.card
  unfolding port_read
  place_reads proc now (place.Cell memory at) m width = passed_none m.io.card
  place_reads proc now (place.Banks space at) m width = passed_none m.io.card
  place_reads proc now (place.Port at) m Byte = passed_none m.io.card
  place_reads proc now (place.Port at) m Half = passed_none m.io.card
  place_reads proc now (place.Port at) m Word = slot_reads proc now m.io (whole_in Word (slot_of proc (aligned_down Word at)))
  place_reads proc now (place.Rom at) m width = passed_none m.io.card
  place_reads proc now place.Nothing m width = passed_none m.io.card

  unless_writes : (stop : Option Stop) (u v : IoState) → CardPasses file u.card [] v.card → CardPasses file u.card [] (unless_stopped stop u v).card
  unless_writes None u v h = h
  unless_writes (Some stop) u v h = passed_none u.card

  place_writes : (proc : Proc) (now : Tick) (where_ : Place) (m : MapState) (width : Width) (value : ℕ)
      → CardPasses file m.io.card [] (written_at proc now where_ m width value).io.card
  place_writes proc now (place.Cell memory at) m width value = passed_none m.io.card
  place_writes proc now (place.Banks space at) m width value =
      let vram = vram_written m.io.vram space at width value in
      either (λ (x : MapState). CardPasses file m.io.card [] x.io.card) (is_byte_of_nine proc width && takes_no_bytes Vram) m
      (record m { io = record m.io { vram = vram } })
      (passed_none m.io.card) (passed_none m.io.card)
  place_writes proc now (place.Port at) m width value =
      let down = aligned_down width at in
      unless_writes (port_refusal proc m.io down width value) m.io (port_written proc now m.io down width value)
      (port_writes proc now m.io down width value)
  place_writes proc now (place.Rom at) m width value = passed_none m.io.card
  place_writes proc now place.Nothing m width value = passed_none m.io.card

  pub map_reads : (proc : Proc) (now : Tick) (m : MapState) (at : ℕ) (width : Width)
      → CardPasses file m.io.card (and_taken (map_word proc m at width) []) (map_read proc now m at width).io.card
  unfolding map_read map_word
  map_reads proc now m at width = place_reads proc now (place_of proc m.io.wramcnt at) m width

  pub map_writes : (proc : Proc) (now : Tick) (m : MapState) (at : ℕ) (width : Width) (value : ℕ)
      → CardPasses file m.io.card [] (map_written proc now m at width value).io.card
  unfolding map_written
  map_writes proc now m at width value = place_writes proc now (place_of proc m.io.wramcnt at) m width value

  -- ---- past the tightly coupled memories

  tcm_reads : (t : Tcm) (r : NineReach) (at : ℕ) (width : Width)
      → CardPasses file r.map.io.card (and_taken (tcm_word t r at width) []) (tcm_read t r at width).map.io.card
  tcm_reads (Itcm place) r at width = passed_none r.map.io.card
  tcm_reads (Dtcm place) r at width = passed_none r.map.io.card
  tcm_reads Past r at width = map_reads Nine r.now r.map at width

  tcm_writes : (t : Tcm) (r : NineReach) (at : ℕ) (width : Width) (value : ℕ)
      → CardPasses file r.map.io.card [] (tcm_written t r at width value).map.io.card
  tcm_writes (Itcm place) r at width value = passed_none r.map.io.card
  tcm_writes (Dtcm place) r at width value = passed_none r.map.io.card
  tcm_writes Past r at width value = map_writes Nine r.now r.map at width value

  -- ---- accesses one after another, over any memory machine whose accesses each pass the card

  module _ {S : Type 0} (memory : MemoryMachine S) (word : S → ℕ → Width → Option ℕ) (card : S → CardState)
      (fetches : (s : S) (at : ℕ) (width : Width) → CardPasses file (card s) [] (card (memory.fetch_next s at width)))
      (reads : (s : S) (at : ℕ) (width : Width) → CardPasses file (card s) (and_taken (word s at width) []) (card (memory.read_next s at width)))
      (writes : (s : S) (at : ℕ) (width : Width) (value : ℕ) → CardPasses file (card s) [] (card (memory.write_next s at width value))) where
    refused_passes : (stop : Option Stop) (s left : S) (words : List ℕ) (rest : Performed S) → CardPasses file (card s) [] (card left)
        → CardPasses file (card left) words (card rest.state)
        → CardPasses file (card s) (words_unless stop words) (card (refused_or stop left rest).state)
    refused_passes None s left words rest one more = joins (card s) (card left) (card rest.state) [] words one more
    refused_passes (Some stop) s left words rest one more = one

    pub all_pass : (accesses : List Access) (s : S)
        → CardPasses file (card s) (words_along memory word s accesses) (card (perform memory s accesses).state)
    all_pass [] s = passed_none (card s)
    all_pass (Fetch at width ∷ rest) s =
        let next = memory.fetch_next s at width in
        joins (card s) (card next) (card (perform memory next rest).state) [] (words_along memory word next rest) (fetches s at width)
        (all_pass rest next)
    all_pass (Read at width ∷ rest) s =
        let next = memory.read_next s at width in
        joins_word (card s) (card next) (card (perform memory next rest).state) (word s at width) (words_along memory word next rest)
        (reads s at width) (all_pass rest next)
    all_pass (Write at width value ∷ rest) s =
        let next = memory.write_next s at width value in
        refused_passes (memory.refusal s at width value) s next (words_along memory word next rest) (perform memory next rest)
        (writes s at width value) (all_pass rest next)

  -- those of the processors
  pub nine_passes : (accesses : List Access) (r : NineReach)
      → CardPasses file r.map.io.card (words_along nine_memory nine_word r accesses) (perform nine_memory r accesses).state.map.io.card
  nine_passes accesses r =
      all_pass nine_memory nine_word (λ (x : NineReach). x.map.io.card) (λ s at width. passed_none s.map.io.card)
      (λ s at width. tcm_reads (tcm_of s.cp15 at false false) s at width)
      (λ s at width value. tcm_writes (tcm_of s.cp15 at true false) s at width value) accesses r

  pub seven_passes : (accesses : List Access) (r : SevenReach)
      → CardPasses file r.map.io.card (words_along seven_memory seven_word r accesses) (perform seven_memory r accesses).state.map.io.card
  seven_passes accesses r =
      all_pass seven_memory seven_word (λ (x : SevenReach). x.map.io.card) (λ s at width. passed_none s.map.io.card)
      (λ s at width. map_reads Seven s.now s.map at width)
      (λ s at width value. map_writes Seven s.now s.map at width value) accesses r
